use Rattle.std.proofs.Common.{ℤ, [], ◌∷◌, All, of_z, subst, sym, to_z}
use Rattle.std.specs.Int.{w128}
use Rattle.std.proofs.lemmas.List.Elements.{All-cons, All-nil}
use Rattle.num_ends.specs.Decimal.{InRange}
use Rattle.ground_task.proofs.FirstState.{number_kept}
use Rattle.ground_tests.proofs.states.state.Goals as goal

-- a number that went through 128 bits
abbrev word : ℤ → ℤ
word n = to_z w128 (of_z w128 n)

kept : (n : ℤ) → InRange n → InRange (word n)
kept n fits = subst InRange (sym (number_kept n fits)) fits

both_kept : (a b : ℤ) → InRange a → InRange b → All InRange (word a ∷ word b ∷ [])
both_kept a b first second = All-cons InRange (word a) (word b ∷ []) (kept a first) (All-cons InRange (word b) [] (kept b second) (All-nil InRange))

pub of-requires-clause-in_range : goal.of-requires-clause-in_range
of-requires-clause-in_range c = both_kept c.x.inside.n c.y.inside.n c.x.invariant.in_range c.y.invariant.in_range
