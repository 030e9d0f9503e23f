use Rattle.std.proofs.Common.{not, map, List, sym, ap, ◌∙◌}
use Rattle.pddl_terms.specs.declared.conditions.Cond.{Cond}
use Rattle.term_patterns.specs.Slots.{condition_slots, joined_slots}
use Rattle.term_patterns.proofs.Layers.{slots_And, slots_Or}
use Rattle.term_patterns.proofs.slots.+slots.Goals as goal

pub condition_slots-returns-in_ok-all_slots-in-And : goal.condition_slots-returns-in_ok-all_slots-in-And
condition_slots-returns-in_ok-all_slots-in-And t c =
    let p = c.args.scope.now.checked.now in
    let params = c.args.scope.now.params.now in
    c.joined.ensures
    ∙ ap (joined_slots c.args.polarity)
    (c.in_ok-all_slots-in-And.ensures ∙ ap (λ (ds : List Cond). map (λ d. condition_slots p params d c.args.polarity) ds) c.as_slice.ensures)
    ∙ sym (slots_And p params c.in-And.conds c.args.polarity)
    ∙ ap (λ (d : Cond). condition_slots p params d c.args.polarity) (sym c.in-And.is)

pub condition_slots-returns-in_ok-all_slots-in-Or : goal.condition_slots-returns-in_ok-all_slots-in-Or
condition_slots-returns-in_ok-all_slots-in-Or t c =
    let p = c.args.scope.now.checked.now in
    let params = c.args.scope.now.params.now in
    c.joined-in-Or.ensures
    ∙ ap (joined_slots (not c.args.polarity))
    (c.in_ok-all_slots-in-Or.ensures ∙ ap (λ (ds : List Cond). map (λ d. condition_slots p params d c.args.polarity) ds) c.as_slice-in-Or.ensures)
    ∙ sym (slots_Or p params c.in-Or.conds c.args.polarity)
    ∙ ap (λ (d : Cond). condition_slots p params d c.args.polarity) (sym c.in-Or.is)
