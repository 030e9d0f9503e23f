-- Lists of facts, fact by fact.
use Rattle.std.proofs.Common.{◌≡◌, ◌<◌, ◌+◌, ◌++◌, ◌∙◌, ℕ, zero, suc, Bool, List, [], ◌∷◌, map, length, refl, sym, ap, arith, slice_index_or, cond}
use Rattle.std.specs.Prelude.{filter, if◌then◌else◌}
use Rattle.std.specs.List.{range_with_len}
use Rattle.std.proofs.lemmas.List.{length-map}
use Rattle.std.proofs.lemmas.List.Elements.{filter-append}
use Rattle.pddl_types.specs.declared.pairs.Pair.{Pair}
use Rattle.static_facts.specs.Atoms.{is_true_at_first}
use Rattle.ground_meaning.specs.Tasks.{first_true}
use Rattle.grounder.specs.internal.Decoded.{fact_of}

range_more : (a n : ℕ) → range_with_len a (suc n) ≡ range_with_len a n ++ (a + n) ∷ []
range_more a zero = let none : a ≡ a + 0 = omega arith in ap (λ (k : ℕ). k ∷ []) none
range_more a (suc n) =
    let rest = range_more (a + 1) n in
    let same : a + 1 + n ≡ a + suc n = omega arith in
    ap (λ (l : List ℕ). a ∷ l) (rest ∙ ap (λ (k : ℕ). range_with_len (a + 1) n ++ k ∷ []) same)

mapped_at : {A : Type 0} (f : ℕ → A) (xs : List ℕ) (i e : ℕ) (d : A) → i < length xs → slice_index_or (map f xs) i d ≡ f (slice_index_or xs i e)
mapped_at f [] i e d h = absurd (omega (arith, h))
mapped_at f (x ∷ xs) zero e d h = refl
mapped_at f (x ∷ xs) (suc i) e d h = mapped_at f xs i e d (omega (arith, h))

module _ (p : Pair) (codes : List ℕ) where
  -- the fact with this number is true at first
  abbrev pub is_true_by_number : ℕ → Bool
  is_true_by_number n = is_true_at_first p (slice_index_or (map (fact_of p) codes) n [])

  -- of the first so many facts, the numbers of those that are true at first
  abbrev pub true_among : ℕ → List ℕ
  true_among count = filter is_true_by_number (range_with_len 0 count)

  step : (i : ℕ) (truth : Bool) → is_true_by_number i ≡ truth → true_among i ++ (if truth then i ∷ [] else []) ≡ true_among (i + 1)
  step i truth is =
      let more : i + 1 ≡ suc i = omega arith in
      let same : 0 + i ≡ i = omega arith in
      sym
      (ap true_among more ∙ ap (filter is_true_by_number) (range_more 0 i ∙ ap (λ (k : ℕ). range_with_len 0 i ++ k ∷ []) same)
      ∙ filter-append is_true_by_number (range_with_len 0 i) (i ∷ []) ∙ ap (λ (b : Bool). true_among i ++ cond b (i ∷ []) []) is)

  pub true_next : (i : ℕ) (truth : Bool) → i < length codes → truth ≡ is_true_at_first p (fact_of p (slice_index_or codes i 0))
      → true_among i ++ (if truth then i ∷ [] else []) ≡ true_among (i + 1)
  true_next i truth below is = step i truth (ap (is_true_at_first p) (mapped_at (fact_of p) codes i 0 [] below) ∙ sym is)

  pub true_whole : (numbers : List ℕ) → numbers ≡ true_among (length codes) → numbers ≡ first_true p (map (fact_of p) codes)
  true_whole numbers is = is ∙ ap true_among (sym (length-map codes (fact_of p)))
