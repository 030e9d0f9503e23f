use Rattle.std.proofs.Common.{◌+◌, length, rules, ap, ◌∙◌, Some, None, ℕ}
use Rattle.pddl_terms.specs.declared.files.Domain.{Domain}
use Rattle.pddl_types.specs.declared.pairs.Pair.{Pair}
use Rattle.name_table.specs.Tables.{place_in}
use Rattle.name_table.specs.TypedLists.{names_of}
use Rattle.pddl_types.specs.Pairs.{objects_of}
use Rattle.pddl_types.proofs.Found.{constant_place, object_place, typed_within}
use Rattle.pddl_types.proofs.checked.Checked.object_number.Goals as goal

pub overflow_cast-result : goal.overflow_cast-result
overflow_cast-result c =
    let within = typed_within c.args.text.now c.self.inside.named.domain.constants c.in-Some.number c.in-Some.ensures in
    let few = c.self.invariant.readable.domain.few_constants in
    search rules

pub overflow_cast-result-in-Some-object_number-2 :
    goal.overflow_cast-result-in-Some-object_number-2
overflow_cast-result-in-Some-object_number-2 c =
    let within = typed_within c.args.text.now c.self.inside.named.problem.objects c.in-Some-object_number.number c.in-Some-object_number.ensures in
    let few = c.self.invariant.readable.problem.few_objects in
    search rules

pub overflow_add-result : goal.overflow_add-result
overflow_add-result c =
    let within = typed_within c.args.text.now c.self.inside.named.problem.objects c.in-Some-object_number.number c.in-Some-object_number.ensures in
    let few = c.self.invariant.readable.problem.few_objects in
    let few_constants = c.self.invariant.readable.domain.few_constants in
    search rules

pub returns-in-Some : goal.returns-in-Some
returns-in-Some c =
    constant_place c.args.text.now c.self.inside.named.domain.constants c.self.inside.named.problem.objects c.in-Some.number c.in-Some.ensures
    ∙ ap (λ (p : Pair). place_in c.args.text.now (names_of (objects_of p))) c.self.view_is

pub returns-in-Some-object_number : goal.returns-in-Some-object_number
returns-in-Some-object_number c =
    ap (λ (n : ℕ). Some (n + c.in-Some-object_number.number)) (c.len.ensures ∙ ap (λ (d : Domain). length d.constants) c.domain.ensures)
    ∙ object_place c.args.text.now c.self.inside.named.domain.constants c.self.inside.named.problem.objects (Some c.in-Some-object_number.number) c.in-None.ensures c.in-Some-object_number.ensures
    ∙ ap (λ (p : Pair). place_in c.args.text.now (names_of (objects_of p))) c.self.view_is

pub returns-in-None-object_number : goal.returns-in-None-object_number
returns-in-None-object_number c =
    object_place c.args.text.now c.self.inside.named.domain.constants c.self.inside.named.problem.objects None c.in-None.ensures c.in-None-object_number.ensures
    ∙ ap (λ (p : Pair). place_in c.args.text.now (names_of (objects_of p))) c.self.view_is
