-- The numbers of atoms in a list by rising codes.
use Rattle.std.proofs.Common.{◌≡◌, ◌<◌, ◌+◌, ◌==◌, ℕ, zero, suc, Bool, true, false, not, List, [], ◌∷◌, map, length, All, slice_index_or, refl, sym, ap, ◌∙◌, arith, cond, eqb-true, eq-eqb, ne_eqb, inl, inr}
use Rattle.std.specs.List.Sorted.{IsStrictlyIncreasing}
use Rattle.std.proofs.lemmas.List.{length-map}
use Rattle.std.proofs.lemmas.List.Kept.{AllPairs-from_increasing}
use Rattle.std.proofs.lemmas.List.Sums.{position_or_len_is}
use Rattle.pddl_terms.specs.declared.names.Sig.{Sig}
use Rattle.pddl_terms.specs.Readable.{IsReadable}
use Rattle.pddl_types.specs.declared.pairs.Pair.{Pair}
use Rattle.pddl_types.specs.Pairs.{heads_of}
use Rattle.pddl_types.specs.WellFormed.{Stands}
use Rattle.static_facts.specs.Atoms.{head_text, names}
use Rattle.static_facts.specs.Codes.{code_among}
use Rattle.ground_meaning.specs.Tasks.{IsAtomOf, number_in}
use Rattle.ground_meaning.proofs.CodedAtoms.{same_code}

module _ (code : List (List ℕ) → ℕ) where
  -- a listed code is that of the atom at its number
  pub found_at : (atoms : List (List (List ℕ))) (n : ℕ) → Stands n (map code atoms)
      → (number_in (map code atoms) n < length atoms) × (code (slice_index_or atoms (number_in (map code atoms) n) []) ≡ n)
  found_at [] n s = elim s [ ]
  found_at (y ∷ ys) n s = by_test (code y == n) refl (λ r. found_at ys n r)
    where
      later : Stands n (code y ∷ map code ys) → (code y == n) ≡ false → Stands n (map code ys)
      later (inl e) other = let bad = sym other ∙ eq-eqb (code y) n (sym e) in cc
      later (inr r) other = r

      by_test : (test : Bool) → (code y == n) ≡ test
          → (Stands n (map code ys) → (number_in (map code ys) n < length ys) × (code (slice_index_or ys (number_in (map code ys) n) []) ≡ n))
          → (cond (not test) (1 + number_in (map code ys) n) 0 < suc (length ys)) × (code (slice_index_or (y ∷ ys) (cond (not test) (1 + number_in (map code ys) n) 0) []) ≡ n)
      by_test true is more = (omega arith, eqb-true (code y) n is)
      by_test false is more =
          let rest = more (later s is) in
          let next : 1 + number_in (map code ys) n ≡ suc (number_in (map code ys) n) = omega arith in
          (omega (arith, rest.0), ap (λ (k : ℕ). code (slice_index_or (y ∷ ys) k [])) next ∙ rest.1)

  pub mapped_at : (atoms : List (List (List ℕ))) (n d : ℕ) → n < length atoms → slice_index_or (map code atoms) n d ≡ code (slice_index_or atoms n [])
  mapped_at [] n d h = absurd (omega (arith, h))
  mapped_at (y ∷ ys) zero d h = refl
  mapped_at (y ∷ ys) (suc n) d h = mapped_at ys n d (omega (arith, h))

  -- the atom at a number has that number
  pub number_at : (atoms : List (List (List ℕ))) → IsStrictlyIncreasing (map code atoms) → (n : ℕ) → n < length atoms → number_in (map code atoms) (code (slice_index_or atoms n [])) ≡ n
  number_at atoms rising n h =
      let many = length-map atoms code in
      position_or_len_is (λ m. m == code (slice_index_or atoms n [])) (map code atoms) n 0 (omega (arith, h, many))
      (λ k before. other k before)
      (λ _. ap (λ (m : ℕ). m == code (slice_index_or atoms n [])) (mapped_at atoms n 0 h) ∙ eq-eqb (code (slice_index_or atoms n [])) (code (slice_index_or atoms n [])) refl)
    where
      other : (k : ℕ) → k < n → (slice_index_or (map code atoms) k 0 == code (slice_index_or atoms n [])) ≡ false
      other k before =
          let less = AllPairs-from_increasing (map code atoms) rising k n 0 before (omega (arith, h, length-map atoms code)) in
          let own = mapped_at atoms n 0 h in
          ne_eqb (slice_index_or (map code atoms) k 0) (code (slice_index_or atoms n [])) (λ same. absurd (omega (arith, less, own, same)))

module _ (p : Pair) (readable : IsReadable p.domain p.problem) (sigs : List Sig) (atoms : List (List (List ℕ))) (are : All (IsAtomOf p sigs (λ n os. head_text sigs n ∷ names p os)) atoms) where
  abbrev code : List (List ℕ) → ℕ
  code = code_among (heads_of sigs) p

  -- an atom whose code is listed is the atom at the code's number
  pub atom_found : (x : List (List ℕ)) → IsAtomOf p sigs (λ n os. head_text sigs n ∷ names p os) x → Stands (code x) (map code atoms)
      → (number_in (map code atoms) (code x) < length atoms) × (slice_index_or atoms (number_in (map code atoms) (code x)) [] ≡ x)
  atom_found x is s =
      let found = found_at code atoms (code x) s in
      (found.0, same_code p readable sigs (slice_index_or atoms (number_in (map code atoms) (code x)) []) x (are (number_in (map code atoms) (code x)) [] found.0) is found.1)
