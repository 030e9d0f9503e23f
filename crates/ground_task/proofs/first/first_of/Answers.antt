use Rattle.std.proofs.Common.{ℤ, All, List, ap, arith, length, subst, sym, ◌∙◌}
use Rattle.std.proofs.lemmas.List.FromFn.{length-map-range_with_len}
use Rattle.num_ends.specs.Decimal.{InRange}
use Rattle.ground_task.specs.Tasks.{first_number, is_listed}
use Rattle.ground_task.proofs.FirstState.{All-first_number}
use Rattle.ground_task.proofs.first.first_of.Goals as goal

pub from_parts-requires-clause-few_facts : goal.from_parts-requires-clause-few_facts
from_parts-requires-clause-few_facts c =
    omega (arith, ap length c.as_slice-2.ensures.value, ap length c.in_ok-facts.ensures, length-map-range_with_len (is_listed c.as_slice.result.now) 0 c.len.result, c.len.ensures, c.requires.valid.few_facts)

pub from_parts-requires-clause-few_values : goal.from_parts-requires-clause-few_values
from_parts-requires-clause-few_values c =
    omega (arith, ap length c.as_slice-3.ensures.value, ap length c.in_ok-numbers.ensures.0, length-map-range_with_len (first_number c.args.places.now c.args.raw.now.values) 0 (length c.args.raw.now.fluents), c.requires.valid.few_fluents)

pub from_parts-requires-clause-in_range : goal.from_parts-requires-clause-in_range
from_parts-requires-clause-in_range c =
    let made = c.in_ok-numbers.ensures in
    subst (λ (ns : List ℤ). All InRange ns) (sym (c.as_slice-3.ensures.value ∙ made.0)) (All-first_number _ _ _ made.1)
