use Rattle.std.proofs.Common.{ℕ, List, sym, subst}
use Rattle.grounder.specs.internal.Made.{AreFluentCodes, AreNamedBy}
use Rattle.grounder.proofs.TaskCodes.{data_named, data_valid, fact_codes, fluent_codes, placed_answer}
use Rattle.grounder.proofs.grounding.with_codes.Goals as goal

pub task_data-requires-clause-of_facts : goal.task_data-requires-clause-of_facts
task_data-requires-clause-of_facts c =
    fact_codes c.args.checked.now c.domain-domain.ensures.readable c.domain-domain.ensures.well_formed c.args.actions.now c.args.goal.now c.requires.few_objects c.requires.kept c.requires.folded
    c.args.codes.now.facts.items c.args.codes.now.fluents.items c.requires.coded

pub task_data-requires-clause-of_fluents : goal.task_data-requires-clause-of_fluents
task_data-requires-clause-of_fluents c =
    fluent_codes c.args.checked.now c.domain-domain.ensures.readable c.domain-domain.ensures.well_formed c.args.actions.now c.args.goal.now c.requires.few_objects c.requires.kept c.requires.folded
    c.args.codes.now.facts.items c.args.codes.now.fluents.items c.requires.coded

pub placed-requires-clause-valid : goal.placed-requires-clause-valid
placed-requires-clause-valid c =
    data_valid c.args.checked.now c.domain-domain.ensures.readable c.domain-domain.ensures.well_formed c.args.actions.now c.args.goal.now c.requires.few_objects c.requires.kept c.requires.folded
    c.args.codes.now.facts.items c.args.codes.now.fluents.items c.requires.coded
    c.in-Ok.raw c.in-Ok.ensures

pub placed-requires-clause-of_fluents : goal.placed-requires-clause-of_fluents
placed-requires-clause-of_fluents c =
    subst (λ (l : List ℕ). AreFluentCodes c.args.checked.now l) (sym c.deref.ensures.value)
    (fluent_codes c.args.checked.now c.domain-domain.ensures.readable c.domain-domain.ensures.well_formed c.args.actions.now c.args.goal.now c.requires.few_objects c.requires.kept c.requires.folded
    c.args.codes.now.facts.items c.args.codes.now.fluents.items c.requires.coded)

pub placed-requires-clause-named : goal.placed-requires-clause-named
placed-requires-clause-named c =
    subst (λ (l : List ℕ). AreNamedBy c.args.checked.now l c.args.actions.now c.in-Ok.raw) (sym c.deref.ensures.value)
    (data_named c.args.checked.now c.domain-domain.ensures.readable c.domain-domain.ensures.well_formed c.args.actions.now c.args.goal.now c.requires.few_objects c.requires.kept c.requires.folded
    c.args.codes.now.facts.items c.args.codes.now.fluents.items c.requires.coded
    c.in-Ok.raw c.in-Ok.ensures)

pub returns-in-Ok : goal.returns-in-Ok
returns-in-Ok c =
    placed_answer c.args.checked.now c.domain-domain.ensures.readable c.domain-domain.ensures.well_formed c.args.actions.now c.args.goal.now c.requires.few_objects c.requires.kept c.requires.folded
    c.args.codes.now.facts.items c.args.codes.now.fluents.items c.requires.coded
    c.in-Ok.raw c.in-Ok.ensures c.placed.result c.placed.ensures.found c.placed.ensures.suffices c.placed.ensures.refused
