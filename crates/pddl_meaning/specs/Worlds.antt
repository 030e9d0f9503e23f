-- Worlds: the facts that are true, and the values of the fluents that have one.
use Rattle.std.specs.Prelude.{ℕ, ℤ, List, [], map, refl}
use Rattle.std.specs.declared.cmp.Ordering.{Ordering}
use Rattle.std.specs.Ordering.{nat_cmp}
use Rattle.std.specs.Cmp.Lexicographic.{slice_cmp}
use Rattle.std.specs.Coded.{Coded, coded×, coded_ℕ, coded_ℤ, coded_list, code_by}
use Rattle.std.specs.FinSet as set
use Rattle.std.specs.FinMap as finite
use Rattle.num_ends.specs.Decimal.{Decimal, trimmed}
use Rattle.pddl_types.specs.declared.pairs.Pair.{Pair}
use Rattle.pddl_terms.specs.Texts.{ground_text}

-- texts in the order of their bytes
abbrev pub text_cmp : List ℕ → List ℕ → Ordering
text_cmp = slice_cmp nat_cmp

abbrev pub Facts : Type 0
Facts = set.FinSet text_cmp

abbrev pub Values : Type 0
Values = finite.FinMap text_cmp Decimal

-- a fact or a fluent is its text, such as `(at truck depot)`; a fact that isn't in the set is false, a fluent that isn't in the map is undefined
pub record WorldValue : Type 0 where
  pub facts : Facts
  pub values : Values

-- a world is stored as the pair of its parts, and a decimal as that of its own
abbrev pub decimal_code : Coded Decimal
decimal_code = code_by (ℤ × ℕ) (coded× coded_ℤ coded_ℕ) (λ d. (d.n, d.p)) (λ p. record { n = p.0; p = p.1 }) (λ _. refl)

abbrev pub world_code : Coded WorldValue
world_code =
    code_by (Facts × Values) (coded× (set.code (coded_list coded_ℕ)) (finite.code (coded_list coded_ℕ) decimal_code))
    (λ w. (w.facts, w.values)) (λ p. record { facts = p.0; values = p.1 }) (λ _. refl)

-- the world of a problem's `:init`
abbrev pub initial_world : Pair → WorldValue
initial_world p = record {
  facts = set.from_list (map (ground_text [] []) p.problem.facts);
  values = finite.from_entries (map (λ v. (ground_text [] [] v.0, trimmed v.1)) p.problem.values);
}
