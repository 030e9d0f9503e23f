use Rattle.std.proofs.Common.{List, ap, length, rules, subst, sym, ◌∙◌}
use Rattle.std.specs.Prelude.{IsTrue}
use Rattle.std.specs.List.{list_all}
use Rattle.ground_task.specs.declared.raw.GCond.{GCond}
use Rattle.ground_task.specs.declared.raw.GCond.TheViews.{the_lemmas}
use Rattle.ground_task.specs.Placed.{has_few_places}
use Rattle.ground_task.specs.Valid.{is_known_condition}
use Rattle.places.proofs.CutPlaces.{few_And, few_Or, members_And, members_Or}
use Rattle.places.proofs.needs.+sides.Goals as goal

pub has_few_places-have_few_places-requires : goal.has_few_places-have_few_places-requires
has_few_places-have_few_places-requires t c =
    let members = members_And c.args.facts (length c.args.counts.now) c.in-And.conds (subst (λ (d : GCond). IsTrue (is_known_condition c.args.facts (length c.args.counts.now) d)) c.in-And.is c.requires.known) in
    (search (rules, the_lemmas), subst (λ (cs : List GCond). IsTrue (list_all (is_known_condition c.args.facts (length c.args.counts.now)) cs)) (sym c.as_slice.ensures) members)

pub has_few_places-have_few_places-requires-in-Or : goal.has_few_places-have_few_places-requires-in-Or
has_few_places-have_few_places-requires-in-Or t c =
    let members = members_Or c.args.facts (length c.args.counts.now) c.in-Or.conds (subst (λ (d : GCond). IsTrue (is_known_condition c.args.facts (length c.args.counts.now) d)) c.in-Or.is c.requires.known) in
    (search (rules, the_lemmas), subst (λ (cs : List GCond). IsTrue (list_all (is_known_condition c.args.facts (length c.args.counts.now)) cs)) (sym c.as_slice-in-Or.ensures) members)

pub has_few_places-returns-in-And : goal.has_few_places-returns-in-And
has_few_places-returns-in-And t c =
    c.have_few_places.ensures ∙ ap (list_all (has_few_places c.args.counts.now)) c.as_slice.ensures
    ∙ few_And c.args.counts.now c.in-And.conds ∙ ap (has_few_places c.args.counts.now) (sym c.in-And.is)

pub has_few_places-returns-in-Or : goal.has_few_places-returns-in-Or
has_few_places-returns-in-Or t c =
    c.have_few_places-in-Or.ensures ∙ ap (list_all (has_few_places c.args.counts.now)) c.as_slice-in-Or.ensures
    ∙ few_Or c.args.counts.now c.in-Or.conds ∙ ap (has_few_places c.args.counts.now) (sym c.in-Or.is)
