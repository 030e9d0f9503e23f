use Rattle.std.proofs.Common.{◌≡◌, ℕ, ◌<◌, ◌∙◌, List, [], false, length, get_or, ap, subst, sym}
use Rattle.std.proofs.lemmas.List.{get_or_read}
use Rattle.box_model.specs.Boxes.{fact_in, may_be}
use Rattle.box_model.specs.declared.state_box.May.{May}
use Rattle.box_model.specs.declared.state_box.May.TheVariants.{Any, True}
use Rattle.box_model.specs.declared.state_box.StateBox.{StateBox}
use Rattle.relax_plain.specs.Marks.{MarksMore}
use Rattle.relax_plain.specs.Spread.{IsSpread}
use Rattle.relax_plain.proofs.Spreads.{fact_spread, get_again, known_numbers}
use Rattle.relax_plain.proofs.widen.admit.Goals as goal

pub set_all-requires : goal.set_all-requires
set_all-requires c =
    let t = c.args.task.now in
    let r = c.args.readers.now in
    let lists = r.facts.items in
    let known : c.args.fact < length lists = subst (λ (n : ℕ). c.args.fact < n) (sym c.requires.readers.a_list_each_fact) c.requires.known in
    let here : c.as_slice-2.result.now ≡ get_or lists c.args.fact [] = c.as_slice-2.ensures ∙ get_or_read lists c.args.fact c.index.result.now known c.index.ensures [] in
    record {
      known = λ k d h. subst (λ (n : ℕ). get_or c.as_slice-2.result.now k d < n) (sym c.requires.as_many)
          (known_numbers lists c.args.fact c.as_slice-2.result.now (length t.raw.actions) here (c.requires.readers.known_in_facts c.args.fact) k d h);
    }

pub returns-clause-spread : goal.returns-clause-spread
returns-clause-spread c =
    let t = c.args.task.now in
    let r = c.args.readers.now in
    let lists = r.facts.items in
    let known : c.args.fact < length lists = subst (λ (n : ℕ). c.args.fact < n) (sym c.requires.readers.a_list_each_fact) c.requires.known in
    let here : c.as_slice-2.result.now ≡ get_or lists c.args.fact [] = c.as_slice-2.ensures ∙ get_or_read lists c.args.fact c.index.result.now known c.index.ensures [] in
    let b = c.args.state_box in
    let no' : may_be (fact_in b c.args.fact) c.args.truth ≡ false =
    sym (c.may_be.ensures ∙ ap (λ (fs : List May). may_be (get_or fs c.args.fact True) c.args.truth) c.as_slice.ensures
    ∙ ap (λ (m : May). may_be m c.args.truth) (get_again b.facts c.args.fact True Any (subst (λ (n : ℕ). c.args.fact < n) (sym c.requires.a_box.as_many_facts) c.requires.known))) ∙ c.if-may_be.false in
    let more : MarksMore (get_or lists c.args.fact []) c.args.marks.now c.set_all.new.self =
    subst (λ (ns : List ℕ). MarksMore ns c.args.marks.now c.set_all.new.self) here c.set_all.ensures in
    subst (λ (a : StateBox). IsSpread t b c.args.marks.now a c.set_all.new.self) (sym c.with_any.ensures)
    (fact_spread t b c.args.marks.now c.set_all.new.self r.facts.items r.fluents.items c.requires.readers c.requires.a_box c.requires.as_many
    c.args.fact c.args.truth c.requires.known more no' c.requires.asked c.requires.progress)
