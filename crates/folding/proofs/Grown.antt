-- Where an increase or a decrease joins those before it.
use Rattle.std.proofs.Common.{◌≡◌, ◌<◌, ◌+◌, ◌==◌, ◌++◌, ℕ, zero, suc, Bool, true, false, not, List, [], ◌∷◌, length, get_or, Option, Some, None, refl, sym, ap, ap₂, ◌∙◌, arith, eqb-true}
use Rattle.std.specs.Prelude.{Result, Ok, Err, MatchResult, option_map, if◌then◌else◌}
use Rattle.std.proofs.Math.ListN.{set}
use Rattle.std.proofs.lemmas.Bool.{and_parts}
use Rattle.ground_meaning.specs.Results.{mapped}
use Rattle.ground_meaning.specs.Expressions.{FoldFault, Operand}
use Rattle.ground_meaning.specs.Actions.{FoldedChange, growth, is_growth_of, with_growth}
use Rattle.folded_terms.specs.Operands.{operand_of}
use Rattle.folding.specs.declared.changes.PendingChange.{PendingChange}
use Rattle.folded_terms.specs.declared.faults.FoldError.{FoldError}
use Rattle.folded_terms.specs.declared.faults.FoldError.TheVariants as error
use Rattle.folded_terms.specs.Faults.{IsFoldFault}
use Rattle.ground_meaning.specs.Expressions.FoldFault.{Divide, OutOfRange}
use Rattle.folding.specs.internal.Changes.{all_pending, first_growth, grown, growth_place, pending}

later_none : (found : Option ℕ) → option_map (λ i. i + 1) found ≡ None → found ≡ None
later_none None h = refl
later_none (Some i) h = cc

later_some : (found : Option ℕ) (i : ℕ) → option_map (λ j. j + 1) found ≡ Some (suc i) → found ≡ Some i
later_some None i h = cc
later_some (Some j) i h = let same : j + 1 ≡ suc i = cc in let less : j ≡ i = omega (arith, same) in ap Some less

not_first : (found : Option ℕ) → option_map (λ j. j + 1) found ≡ Some 0 → ⊥
not_first None h = cc
not_first (Some j) h = let same : j + 1 ≡ 0 = cc in omega (arith, same)

pub place_within : (x : ℕ) (changes : List FoldedChange) (i : ℕ) → growth_place x changes ≡ Some i → i < length changes
place_within x [] i h = cc
place_within x (c ∷ changes) zero h = omega arith
place_within x (c ∷ changes) (suc i) h = by_test (is_growth_of x c) h (λ k. place_within x changes i k)
  where
    by_test : (test : Bool) → (if test then Some 0 else option_map (λ j. j + 1) (growth_place x changes)) ≡ Some (suc i) → (growth_place x changes ≡ Some i → i < length changes)
        → suc i < suc (length changes)
    by_test true k more = cc
    by_test false k more = let rest = more (later_some (growth_place x changes) i k) in omega (arith, rest)

module _ (join : Operand → Result Operand FoldFault) (first : Result Operand FoldFault) (x : ℕ) where
  -- where none is there it stands at the end
  pub first_one : (changes : List FoldedChange) → growth_place x changes ≡ None → with_growth join first x changes ≡ mapped (λ v. changes ++ growth x v ∷ []) first
  first_one [] h = refl
  first_one (c ∷ changes) h = by_test (is_growth_of x c) h (λ k. first_one changes k)
    where
      behind : (answer : Result Operand FoldFault) → mapped (λ (others : List FoldedChange). c ∷ others) (mapped (λ v. changes ++ growth x v ∷ []) answer) ≡ mapped (λ v. c ∷ (changes ++ growth x v ∷ [])) answer
      behind (Ok v) = refl
      behind (Err f) = refl

      by_test : (test : Bool) → (if test then Some 0 else option_map (λ i. i + 1) (growth_place x changes)) ≡ None
          → (growth_place x changes ≡ None → with_growth join first x changes ≡ mapped (λ v. changes ++ growth x v ∷ []) first)
          → (if test then mapped (λ v. growth x v ∷ changes) (join c.value) else mapped (λ others. c ∷ others) (with_growth join first x changes)) ≡ mapped (λ v. c ∷ (changes ++ growth x v ∷ [])) first
      by_test true k more = cc
      by_test false k more = ap (mapped (λ (others : List FoldedChange). c ∷ others)) (more (later_none (growth_place x changes) k)) ∙ behind first

  abbrev is_grown : PendingChange → Bool
  is_grown c = is_growth_of x (pending c)

  grown_change : (c new : PendingChange) → is_grown c ≡ true → new.fluent ≡ c.fluent → new.replaces ≡ c.replaces → growth x (operand_of new.value) ≡ pending new
  grown_change c new is fluent replaces =
      let parts = and_parts (c.fluent == x) (not c.replaces) is in
      ap₂ (λ (y : ℕ) (r : Bool). record { fluent = y; replaces = r; value = operand_of new.value }) (sym (fluent ∙ eqb-true _ _ parts.0)) (sym (replaces ∙ kept c.replaces parts.1))
    where
      kept : (r : Bool) → not r ≡ true → r ≡ false
      kept true h = cc
      kept false h = refl

  -- and else it is joined to what is there
  pub joined_at : (changes : List PendingChange) (i : ℕ) (old new : PendingChange) → growth_place x (all_pending changes) ≡ Some i → old ≡ get_or changes i old
      → new.fluent ≡ old.fluent → new.replaces ≡ old.replaces → join (operand_of old.value) ≡ Ok (operand_of new.value)
      → with_growth join first x (all_pending changes) ≡ Ok (all_pending (set changes i new))
  joined_at [] i old new h there fluent replaces j = cc
  joined_at (c ∷ changes) zero old new h there fluent replaces j = by_test (is_grown c) refl h
    where
      by_test : (test : Bool) → is_grown c ≡ test → (if test then Some 0 else option_map (λ i. i + 1) (growth_place x (all_pending changes))) ≡ Some 0
          → (if test then mapped (λ v. growth x v ∷ all_pending changes) (join (operand_of c.value)) else mapped (λ others. pending c ∷ others) (with_growth join first x (all_pending changes)))
          ≡ Ok (pending new ∷ all_pending changes)
      by_test true is k =
          ap (mapped (λ (v : Operand). growth x v ∷ all_pending changes)) (ap (λ (d : PendingChange). join (operand_of d.value)) (sym there) ∙ j)
          ∙ ap (λ (d : FoldedChange). Ok (d ∷ all_pending changes))
          (grown_change c new is (fluent ∙ ap (λ (d : PendingChange). d.fluent) there) (replaces ∙ ap (λ (d : PendingChange). d.replaces) there))
      by_test false is k = absurd (not_first (growth_place x (all_pending changes)) k)
  joined_at (c ∷ changes) (suc i) old new h there fluent replaces j = by_test (is_grown c) h (λ k. joined_at changes i old new k there fluent replaces j)
    where
      by_test : (test : Bool) → (if test then Some 0 else option_map (λ i. i + 1) (growth_place x (all_pending changes))) ≡ Some (suc i)
          → (growth_place x (all_pending changes) ≡ Some i → with_growth join first x (all_pending changes) ≡ Ok (all_pending (set changes i new)))
          → (if test then mapped (λ v. growth x v ∷ all_pending changes) (join (operand_of c.value)) else mapped (λ others. pending c ∷ others) (with_growth join first x (all_pending changes)))
          ≡ Ok (pending c ∷ all_pending (set changes i new))
      by_test true k more = cc
      by_test false k more = ap (mapped (λ (others : List FoldedChange). pending c ∷ others)) (more (later_some (growth_place x (all_pending changes)) i k))

  pub refused_at : (changes : List PendingChange) (i : ℕ) (old : PendingChange) (f : FoldFault) → growth_place x (all_pending changes) ≡ Some i → old ≡ get_or changes i old
      → join (operand_of old.value) ≡ Err f → with_growth join first x (all_pending changes) ≡ Err f
  refused_at [] i old f h there j = cc
  refused_at (c ∷ changes) zero old f h there j = by_test (is_grown c) h
    where
      by_test : (test : Bool) → (if test then Some 0 else option_map (λ i. i + 1) (growth_place x (all_pending changes))) ≡ Some 0
          → (if test then mapped (λ v. growth x v ∷ all_pending changes) (join (operand_of c.value)) else mapped (λ others. pending c ∷ others) (with_growth join first x (all_pending changes))) ≡ Err f
      by_test true k = ap (mapped (λ (v : Operand). growth x v ∷ all_pending changes)) (ap (λ (d : PendingChange). join (operand_of d.value)) (sym there) ∙ j)
      by_test false k = absurd (not_first (growth_place x (all_pending changes)) k)
  refused_at (c ∷ changes) (suc i) old f h there j = by_test (is_grown c) h (λ k. refused_at changes i old f k there j)
    where
      by_test : (test : Bool) → (if test then Some 0 else option_map (λ i. i + 1) (growth_place x (all_pending changes))) ≡ Some (suc i)
          → (growth_place x (all_pending changes) ≡ Some i → with_growth join first x (all_pending changes) ≡ Err f)
          → (if test then mapped (λ v. growth x v ∷ all_pending changes) (join (operand_of c.value)) else mapped (λ others. pending c ∷ others) (with_growth join first x (all_pending changes))) ≡ Err f
      by_test true k more = cc
      by_test false k more = ap (mapped (λ (others : List FoldedChange). pending c ∷ others)) (more (later_some (growth_place x (all_pending changes)) i k))

-- as a function that joins in place gives it
pub grown_match : (decrease : Bool) (x : ℕ) (v : Operand) (changes : List PendingChange) (i : ℕ) (old new : PendingChange) (r : Result (Unit {0}) FoldError)
    → growth_place x (all_pending changes) ≡ Some i → old ≡ get_or changes i old → new.fluent ≡ old.fluent → new.replaces ≡ old.replaces
    → MatchResult r (λ _. grown decrease (operand_of old.value) v ≡ Ok (operand_of new.value)) (IsFoldFault (grown decrease (operand_of old.value) v))
    → MatchResult r (λ _. with_growth (λ o. grown decrease o v) (first_growth decrease v) x (all_pending changes) ≡ Ok (all_pending (set changes i new)))
    (IsFoldFault (with_growth (λ o. grown decrease o v) (first_growth decrease v) x (all_pending changes)))
grown_match decrease x v changes i old new (Ok u) h there fluent replaces j = joined_at (λ o. grown decrease o v) (first_growth decrease v) x changes i old new h there fluent replaces j
grown_match decrease x v changes i old new (Err (error.Divide place)) h there fluent replaces j = refused_at (λ o. grown decrease o v) (first_growth decrease v) x changes i old (Divide place) h there j
grown_match decrease x v changes i old new (Err error.OutOfRange) h there fluent replaces j = refused_at (λ o. grown decrease o v) (first_growth decrease v) x changes i old OutOfRange h there j
grown_match decrease x v changes i old new (Err error.NoMemory) h there fluent replaces j = tt
