use Rattle.std.proofs.Common.{◌≡◌, ◌<◌, ◌+◌, ◌++◌, ℕ, List, drop, ap, ◌∙◌, arith}
use Rattle.std.specs.Prelude.{flat_map}
use Rattle.pddl_terms.specs.declared.limits.TheConstants.{MAX_PREFIXES}
use Rattle.binder.specs.internal.Checks.{extensions}
use Rattle.binder.proofs.Dropped.{at_most_whole, next_made}
use Rattle.binder.proofs.levels.next_rows.Goals as goal

pub returns-then-is_over : goal.returns-then-is_over
returns-then-is_over c =
    let make : List ℕ → List (List ℕ) = extensions c.args.tester.now.statics.now c.args.tester.now.checks.now c.args.objects.now in
    let pushed : c.push_next.new.rows.1 ≡ c.each.next.1 ++ make c.row-prefix.result.now = ap (λ (v : ℕ × List (List ℕ)). v.1) c.in_ok-push_next.ensures in
    let rest : c.push_next.new.rows.1 ++ flat_map make (drop (c.each.number + 1) c.args.rows.now.1) ≡ flat_map make c.args.rows.now.1 =
    ap (λ (r : List (List ℕ)). r ++ flat_map make (drop (c.each.number + 1) c.args.rows.now.1)) pushed
    ∙ next_made make c.each.next.1 c.args.rows.now.1 c.each.number c.row-prefix.result.now c.row-prefix.ensures.row ∙ c.each.invariant.rest in
    let short = at_most_whole c.push_next.new.rows.1 (flat_map make (drop (c.each.number + 1) c.args.rows.now.1)) (flat_map make c.args.rows.now.1) rest in
    let many = c.is_over.ensures.0 c.if-is_over.true in
    omega (arith, short, many, c.count.ensures)

pub each-preserved : goal.each-preserved
each-preserved c =
    let make : List ℕ → List (List ℕ) = extensions c.args.tester.now.statics.now c.args.tester.now.checks.now c.args.objects.now in
    let pushed : c.push_next.new.rows.1 ≡ c.each.next.1 ++ make c.row-prefix.result.now = ap (λ (v : ℕ × List (List ℕ)). v.1) c.in_ok-push_next.ensures in
    let no : MAX_PREFIXES < c.count.result + c.args.taken → ⊥ = λ h. let bad = c.is_over.ensures.1 h in cc in
    record {
      width = ap (λ (v : ℕ × List (List ℕ)). v.0) c.in_ok-push_next.ensures ∙ c.each.invariant.width;
      rest =
          ap (λ (r : List (List ℕ)). r ++ flat_map make (drop (c.each.number + 1) c.args.rows.now.1)) pushed
          ∙ next_made make c.each.next.1 c.args.rows.now.1 c.each.number c.row-prefix.result.now c.row-prefix.ensures.row ∙ c.each.invariant.rest;
      few = omega (arith, no, c.count.ensures);
    }
