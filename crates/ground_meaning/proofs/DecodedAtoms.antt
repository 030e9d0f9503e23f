-- A code read back, digit by digit from its end, gives the atom whose code it is.
use Rattle.std.proofs.Common.{◌≡◌, ◌<◌, ◌≤◌, ◌+◌, ◌*◌, ◌/◌, ◌%◌, ℕ, zero, suc, true, List, [], ◌∷◌, length, All, refl, sym, ap, ap₂, subst, ◌∙◌, arith, le-leb, leb-true}
use Rattle.std.specs.Prelude.{nat_le, nat_lt}
use Rattle.std.specs.List.{list_all}
use Rattle.std.proofs.lemmas.Bool.Decides.{Decides-ltb}
use Rattle.std.proofs.lemmas.List.{length-append}
use Rattle.std.proofs.lemmas.List.Elements.{All-head, All-tail}
use Rattle.std.proofs.lemmas.Nat.{div-mul-add, mod-mul-add}
use Rattle.pddl_terms.specs.Readable.{IsReadable}
use Rattle.pddl_types.specs.declared.pairs.Pair.{Pair}
use Rattle.pddl_types.specs.Pairs.{objects_of}
use Rattle.pddl_types.specs.WellFormed.{WellFormed}
use Rattle.static_facts.specs.Atoms.{fact_atom, fluent_atom}
use Rattle.static_facts.specs.Codes.{code_of, fact_code, fluent_code, is_codable, with_digits}
use Rattle.static_facts.specs.internal.Keys.{digit_at}
use Rattle.static_facts.proofs.Coding.{codes_apart, small_digit}
use Rattle.pddl_meaning.proofs.Bounds.{both_true, true_both}
use Rattle.ground_meaning.specs.Tasks.{IsFact, IsFluent}
use Rattle.ground_meaning.proofs.CodeNumbers.{fact_numbers, fluent_numbers}
use Rattle.ground_meaning.proofs.KeptAtoms.{IsCodeOf}

-- ---- digits from the end

pub one_digit_more : (k code : ℕ) (os : List ℕ) → with_digits (suc k) code os ≡ with_digits k code os * 4096 + digit_at os k
one_digit_more zero code [] = omega arith
one_digit_more zero code (o ∷ os) = refl
one_digit_more (suc k) code [] = one_digit_more k (code * 4096) []
one_digit_more (suc k) code (o ∷ os) = one_digit_more k (code * 4096 + (o + 1)) os

pub last_digit : (k code : ℕ) (os : List ℕ) → list_all (λ o. nat_lt o 4095) os ≡ true
    → (with_digits (suc k) code os / 4096 ≡ with_digits k code os) × (with_digits (suc k) code os % 4096 ≡ digit_at os k)
last_digit k code os small =
    let digit = small_digit os k small in
    let more = one_digit_more k code os in (
      ap (λ (n : ℕ). n / 4096) more ∙ div-mul-add (with_digits k code os) 4096 (digit_at os k) digit,
      ap (λ (n : ℕ). n % 4096) more ∙ mod-mul-add (with_digits k code os) 4096 (digit_at os k) digit,
    )

-- ---- the atom of a code

module _ (p : Pair) (readable : IsReadable p.domain p.problem) where
  few_objects : length (objects_of p) ≤ 2048
  few_objects =
      let constants = readable.domain.few_constants in
      let objects = readable.problem.few_objects in
      omega (arith, length-append p.domain.constants p.problem.objects, constants, objects)

  small_objects : (os : List ℕ) → All (λ o. o < length (objects_of p)) os → list_all (λ o. nat_lt o 4095) os ≡ true
  small_objects [] known = refl
  small_objects (o ∷ os) known =
      let first = All-head (λ o. o < length (objects_of p)) o os known in
      true_both _ _ ((Decides-ltb o 4095).1 (omega (arith, first, few_objects))) (small_objects os (All-tail (λ o. o < length (objects_of p)) o os known))

  -- at most 8 objects of the pair have a code
  pub objects_codable : (os : List ℕ) → length os ≤ 8 → All (λ o. o < length (objects_of p)) os → is_codable os ≡ true
  objects_codable os few known = true_both _ _ (le-leb (length os) 8 few) (small_objects os known)

  -- two lists of objects that can be coded, of one code, are one
  same_numbers : (n m : ℕ) (os qs : List ℕ) → is_codable os ≡ true → is_codable qs ≡ true → code_of n os ≡ code_of m qs → (n ≡ m) × (os ≡ qs)
  unfolding code_of
  same_numbers n m os qs first second same =
      let one = both_true (nat_le (length os) 8) (list_all (λ o. nat_lt o 4095) os) first in
      let other = both_true (nat_le (length qs) 8) (list_all (λ o. nat_lt o 4095) qs) second in
      codes_apart 8 n m os qs (leb-true (length os) 8 one.0) (leb-true (length qs) 8 other.0) one.1 other.1 same

  module _ (formed : WellFormed p) where
    -- what is read back from the code of a fact is that fact
    pub decoded_fact : (n : ℕ) → IsCodeOf (IsFact p) (fact_code p) n → (symbol : ℕ) (os : List ℕ) → is_codable os ≡ true → code_of symbol os ≡ n
        → IsFact p (fact_atom p symbol os) × (fact_code p (fact_atom p symbol os) ≡ n)
    decoded_fact n is symbol os codable same =
        let own = is.is_atom in
        let numbers = ap (fact_code p) (sym own.is) ∙ is.coded in
        let parts = same_numbers own.symbol symbol own.objects os (objects_codable own.objects own.few own.known) codable
        (sym (fact_numbers p readable formed own.symbol own.objects own.declared own.known) ∙ numbers ∙ sym same) in
        let atom = own.is ∙ ap₂ (fact_atom p) parts.0 parts.1 in
        (subst (IsFact p) atom own, ap (fact_code p) (sym atom) ∙ is.coded)

    -- and that of a fluent likewise
    pub decoded_fluent : (n : ℕ) → IsCodeOf (IsFluent p) (fluent_code p) n → (symbol : ℕ) (os : List ℕ) → is_codable os ≡ true → code_of symbol os ≡ n
        → IsFluent p (fluent_atom p symbol os) × (fluent_code p (fluent_atom p symbol os) ≡ n)
    decoded_fluent n is symbol os codable same =
        let own = is.is_atom in
        let numbers = ap (fluent_code p) (sym own.is) ∙ is.coded in
        let parts = same_numbers own.symbol symbol own.objects os (objects_codable own.objects own.few own.known) codable
        (sym (fluent_numbers p readable formed own.symbol own.objects own.declared own.known) ∙ numbers ∙ sym same) in
        let atom = own.is ∙ ap₂ (fluent_atom p) parts.0 parts.1 in
        (subst (IsFluent p) atom own, ap (fluent_code p) (sym atom) ∙ is.coded)
