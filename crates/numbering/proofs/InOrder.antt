-- Numbers sorted and each kept once.
use Rattle.std.proofs.Common.{◌≡◌, ℕ, List, [], nat_cmp, sym, subst}
use Rattle.std.specs.Prelude.{nat_eq}
use Rattle.std.specs.List.{dedup}
use Rattle.std.specs.List.Retain.{DiffersFromLast, IsFiltered}
use Rattle.std.specs.List.Sorted.{IsPermutation, IsSorted, IsStrictlyIncreasing}
use Rattle.std.proofs.lemmas.List.Filters.{dedup_is}
use Rattle.std.proofs.lemmas.List.Kept.{Contains-dedup_nat, Contains-from_dedup}
use Rattle.std.proofs.lemmas.List.Sorted.{Contains-permutation, IsPermutation-sym}
use Rattle.std.proofs.lemmas.Map.Keys.{IsStrictlyIncreasing-dedup}
use Rattle.pddl_types.specs.WellFormed.{Stands}
use Rattle.numbering.specs.Named.{IsRisingFrom}
use Rattle.numbering.proofs.Lists.{contained, standing}

pub rising_from : (xs ys zs : List ℕ) → IsPermutation xs ys → IsSorted nat_cmp ys → IsFiltered (DiffersFromLast nat_eq) [] ys zs → IsRisingFrom xs zs
rising_from xs ys zs moved sorted kept =
    let is : zs ≡ dedup nat_eq ys = dedup_is nat_eq ys zs kept in
    record {
      rising = subst IsStrictlyIncreasing (sym is) (IsStrictlyIncreasing-dedup ys sorted);
      exactly = λ n. (
        (λ s.
            standing n xs
            (Contains-permutation ys xs n (IsPermutation-sym xs ys moved) (Contains-from_dedup nat_eq ys n (contained n (dedup nat_eq ys) (subst (λ (l : List ℕ). Stands n l) is s))))),
        λ s.
            subst (λ (l : List ℕ). Stands n l) (sym is) (standing n (dedup nat_eq ys) (Contains-dedup_nat ys n (Contains-permutation xs ys n moved (contained n xs s)))),
      );
    }
