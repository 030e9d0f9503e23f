use Rattle.std.proofs.Common.{◌≡◌, true, false, subst, sym, ap, ◌∙◌, map}
use Rattle.places.specs.Inside.{first_count}
use Rattle.places.specs.Least.{IsLeastPlaces}
use Rattle.places.proofs.Rises.{least_at_last, under_at_first}
use Rattle.places.proofs.counts.least_counts.Goals as goal

pub rounds-init : goal.rounds-init
rounds-init c =
    (under_at_first c.args.raw.now c.in_ok-counts.counts.items c.requires.valid (c.in_ok-counts.ensures ∙ ap (map first_count) c.as_slice.ensures), λ (e : true ≡ false). cc)

pub returns : goal.returns
returns c = subst (IsLeastPlaces c.args.raw.now) (sym c.from_vec.ensures) (least_at_last c.args.raw.now c.rounds.counts.items c.rounds.invariant.0 (c.rounds.invariant.1 c.rounds-test.false))
