use Rattle.std.proofs.Common.{◌≡◌, ℕ, true, length, rules, subst, sym}
use Rattle.std.proofs.lemmas.Result.{on_ok_weaker}
use Rattle.ground_task.specs.Valid.{is_known_expression}
use Rattle.ground_task.specs.declared.raw.GExpr.{GExpr}
use Rattle.ground_task.specs.declared.raw.GExpr.TheViews.{the_lemmas}
use Rattle.relax_plain.specs.Reads.{reads, IsNoted}
use Rattle.relax_plain.proofs.ReaderLemmas.{known_in_Add, known_in_Mul, known_in_Sub, noted_both, noted_difference, noted_product, noted_sum}
use Rattle.relax_plain.proofs.readers.+expressions.Goals as goal

pub returns-in_ok-note_read-in-Add : goal.returns-in_ok-note_read-in-Add
returns-in_ok-note_read-in-Add t c =
    let n = c.args.number in
    let before = c.args.lists.now.items in
    let middle = c.note_read.new.lists.items in
    let after = c.note_read-in-Add.new.lists.items in
    on_ok_weaker c.note_read-in-Add.result
    (λ h. noted_sum n c.in-Add.a c.in-Add.b c.args.expr.now before after
    (noted_both n (λ x. reads x c.in-Add.a) (λ x. reads x c.in-Add.b) before middle after
    (subst (λ (e : GExpr). IsNoted n (λ x. reads x e) before middle) c.get.ensures c.in_ok-note_read-in-Add.ensures)
    (subst (λ (e : GExpr). IsNoted n (λ x. reads x e) middle after) c.get-in-Add.ensures h))
    c.in-Add.is)
    c.note_read-in-Add.ensures

pub returns-in_ok-note_read-in-Sub : goal.returns-in_ok-note_read-in-Sub
returns-in_ok-note_read-in-Sub t c =
    let n = c.args.number in
    let before = c.args.lists.now.items in
    let middle = c.note_read-in-Sub.new.lists.items in
    let after = c.note_read-in-Sub-2.new.lists.items in
    on_ok_weaker c.note_read-in-Sub-2.result
    (λ h. noted_difference n c.in-Sub.a c.in-Sub.b c.args.expr.now before after
    (noted_both n (λ x. reads x c.in-Sub.a) (λ x. reads x c.in-Sub.b) before middle after
    (subst (λ (e : GExpr). IsNoted n (λ x. reads x e) before middle) c.get-in-Sub.ensures c.in_ok-note_read-in-Sub.ensures)
    (subst (λ (e : GExpr). IsNoted n (λ x. reads x e) middle after) c.get-in-Sub-2.ensures h))
    c.in-Sub.is)
    c.note_read-in-Sub-2.ensures

pub returns-in_ok-note_read-in-Mul : goal.returns-in_ok-note_read-in-Mul
returns-in_ok-note_read-in-Mul t c =
    let n = c.args.number in
    let before = c.args.lists.now.items in
    let middle = c.note_read-in-Mul.new.lists.items in
    let after = c.note_read-in-Mul-2.new.lists.items in
    on_ok_weaker c.note_read-in-Mul-2.result
    (λ h. noted_product n c.in-Mul.a c.in-Mul.b c.args.expr.now before after
    (noted_both n (λ x. reads x c.in-Mul.a) (λ x. reads x c.in-Mul.b) before middle after
    (subst (λ (e : GExpr). IsNoted n (λ x. reads x e) before middle) c.get-in-Mul.ensures c.in_ok-note_read-in-Mul.ensures)
    (subst (λ (e : GExpr). IsNoted n (λ x. reads x e) middle after) c.get-in-Mul-2.ensures h))
    c.in-Mul.is)
    c.note_read-in-Mul-2.ensures

pub note_read-requires-in-Add : goal.note_read-requires-in-Add
note_read-requires-in-Add t c = (
  search (rules, the_lemmas),
  subst (λ (n : ℕ). is_known_expression n c.get-in-Add.result.now ≡ true) (sym c.in_ok-note_read-in-Add.ensures.as_many)
      (subst (λ (e : GExpr). is_known_expression (length c.args.lists.now.items) e ≡ true) (sym c.get-in-Add.ensures)
      (known_in_Add (length c.args.lists.now.items) c.in-Add.a c.in-Add.b c.args.expr.now c.in-Add.is c.requires.known)),
)

pub note_read-requires-in-Sub-2 : goal.note_read-requires-in-Sub-2
note_read-requires-in-Sub-2 t c = (
  search (rules, the_lemmas),
  subst (λ (n : ℕ). is_known_expression n c.get-in-Sub-2.result.now ≡ true) (sym c.in_ok-note_read-in-Sub.ensures.as_many)
      (subst (λ (e : GExpr). is_known_expression (length c.args.lists.now.items) e ≡ true) (sym c.get-in-Sub-2.ensures)
      (known_in_Sub (length c.args.lists.now.items) c.in-Sub.a c.in-Sub.b c.args.expr.now c.in-Sub.is c.requires.known)),
)

pub note_read-requires-in-Mul-2 : goal.note_read-requires-in-Mul-2
note_read-requires-in-Mul-2 t c = (
  search (rules, the_lemmas),
  subst (λ (n : ℕ). is_known_expression n c.get-in-Mul-2.result.now ≡ true) (sym c.in_ok-note_read-in-Mul.ensures.as_many)
      (subst (λ (e : GExpr). is_known_expression (length c.args.lists.now.items) e ≡ true) (sym c.get-in-Mul-2.ensures)
      (known_in_Mul (length c.args.lists.now.items) c.in-Mul.a c.in-Mul.b c.args.expr.now c.in-Mul.is c.requires.known)),
)
