-- Nothing stands twice exactly where nothing is with_fault as standing again.
use Rattle.std.proofs.Common.{◌≡◌, ◌⊎◌, ◌||◌, inl, inr, ℕ, Bool, true, false, List, [], ◌∷◌, ◌++◌, refl, sym, ap, subst, ◌∙◌, append_assoc, if◌then◌else◌}
use Rattle.std.specs.Prelude.{◌↔◌, bytes_eq, not}
use Rattle.std.specs.List.{list_any}
use Rattle.std.proofs.lemmas.List.{append-nil}
use Rattle.std.proofs.lemmas.Slice.Eq.{bytes_eq-Decides}
use Rattle.pddl_terms.specs.declared.names.Name.{Name}
use Rattle.pddl_types.specs.declared.faults.Side.{Side}
use Rattle.pddl_types.specs.declared.faults.CheckKind.TheVariants.{Duplicate}
use Rattle.name_table.specs.Tables.{is_text_among, with_text}
use Rattle.pddl_types.specs.Faults.{check_fault}
use Rattle.pddl_types.specs.DeclarationFaults.{repeated, with_names}
use Rattle.pddl_types.specs.WellFormed.{AreDistinct, Each, Stands, texts_of}
use Rattle.pddl_types.proofs.Empties.{same, chain, back, both, empty_append, empty_unless}

pub stands_append : {X : Type 0} (x : X) (xs ys : List X) → Stands x (xs ++ ys) ↔ (Stands x xs ⊎ Stands x ys)
stands_append x [] ys = (λ h. inr h, λ h. elim h [ inl e ↦ absurd e | inr e ↦ e ])
stands_append x (z ∷ xs) ys =
    let rest = stands_append x xs ys in (
      λ h. elim h [ inl e ↦ inl (inl e) | inr k ↦ elim (rest.0 k) [ inl i ↦ inl (inr i) | inr j ↦ inr j ] ],
      λ h. elim h [ inl k ↦ elim k [ inl e ↦ inl e | inr i ↦ inr (rest.1 (inl i)) ] | inr j ↦ inr (rest.1 (inr j)) ],
    )

-- where a test says what is the same
module _ {X : Type 0} (E : X → X → Bool) (decides : (x y : X) → (E x y ≡ true) ↔ (x ≡ y)) where
  pub any_stands : (x : X) (xs : List X) → (list_any (E x) xs ≡ true) ↔ Stands x xs
  any_stands x [] = (λ e. cc, λ h. absurd h)
  any_stands x (y ∷ ys) = cases (E x y) (decides x y) (list_any (E x) ys) (any_stands x ys)
    where
      cases : (test : Bool) → (test ≡ true) ↔ (x ≡ y) → (any : Bool) → (any ≡ true) ↔ Stands x ys → ((test || any) ≡ true) ↔ ((x ≡ y) ⊎ Stands x ys)
      cases true d any rest = (λ e. inl (d.0 refl), λ h. refl)
      cases false d any rest = (λ e. inr (rest.0 e), λ h. elim h [ inl e ↦ (let bad = d.1 e in cc) | inr i ↦ rest.1 i ])

  pub none_stands : (x : X) (xs : List X) → (list_any (E x) xs ≡ false) ↔ (Stands x xs → ⊥)
  none_stands x xs = cases (list_any (E x) xs) (any_stands x xs)
    where
      cases : (any : Bool) → (any ≡ true) ↔ Stands x xs → (any ≡ false) ↔ (Stands x xs → ⊥)
      cases true d = (λ e. cc, λ h. absurd (h (d.0 refl)))
      cases false d = (λ e h. (let bad = d.1 h in cc), λ h. refl)

  -- each is new where it stands
  abbrev pub Fresh : List X → List X → Type 0
  Fresh seen [] = Unit {0}
  Fresh seen (x ∷ xs) = (list_any (E x) seen ≡ false) × Fresh (seen ++ x ∷ []) xs

  others_apart : (seen : List X) (x : X) (xs : List X) → Each (λ y. Stands y (seen ++ x ∷ []) → ⊥) xs ↔ (Each (λ y. Stands y seen → ⊥) xs × (Stands x xs → ⊥))
  others_apart seen x [] = (λ h. (tt, λ i. i), λ h. tt)
  others_apart seen x (y ∷ ys) =
      let rest = others_apart seen x ys in
      let at = stands_append y seen (x ∷ []) in (
        λ h. ((λ i. h.0 (at.1 (inl i)), (rest.0 h.1).0), λ k. elim k [ inl e ↦ h.0 (at.1 (inr (inl (sym e)))) | inr j ↦ (rest.0 h.1).1 j ]),
        λ h. (λ i. elim (at.0 i) [ inl j ↦ h.0.0 j | inr k ↦ elim k [ inl e ↦ h.1 (inl (sym e)) | inr n ↦ n ] ], rest.1 (h.0.1, λ j. h.1 (inr j))),
      )

  pub fresh_apart : (seen xs : List X) → Fresh seen xs ↔ (Each (λ x. Stands x seen → ⊥) xs × AreDistinct xs)
  fresh_apart seen [] = (λ h. (tt, tt), λ h. tt)
  fresh_apart seen (x ∷ xs) =
      let new = none_stands x seen in
      let rest = fresh_apart (seen ++ x ∷ []) xs in
      let apart = others_apart seen x xs in (
        λ h. ((new.0 h.0, (apart.0 (rest.0 h.1).0).0), ((apart.0 (rest.0 h.1).0).1, (rest.0 h.1).1)),
        λ h. (new.1 h.0.0, rest.1 (apart.1 (h.0.1, h.1.0), h.1.1)),
      )

  none_seen : (xs : List X) → Each (λ x. Stands x [] → ⊥) xs
  none_seen [] = tt
  none_seen (x ∷ xs) = (λ h. h, none_seen xs)

  pub fresh_distinct : (xs : List X) → Fresh [] xs ↔ AreDistinct xs
  fresh_distinct xs = chain (fresh_apart [] xs) (λ h. h.1, λ h. (none_seen xs, h))

  pub fresh_append : (seen xs ys : List X) → Fresh seen (xs ++ ys) ↔ (Fresh seen xs × Fresh (seen ++ xs) ys)
  fresh_append seen [] ys = (λ h. (tt, subst (λ s. Fresh s ys) (sym (append-nil seen)) h), λ h. subst (λ s. Fresh s ys) (append-nil seen) h.1)
  fresh_append seen (x ∷ xs) ys =
      let rest = fresh_append (seen ++ x ∷ []) xs ys in
      let moved : (seen ++ x ∷ []) ++ xs ≡ seen ++ x ∷ xs = append_assoc seen (x ∷ []) xs in
      (λ h. ((h.0, (rest.0 h.1).0), subst (λ s. Fresh s ys) moved (rest.0 h.1).1), λ h. (h.0.0, rest.1 (h.0.1, subst (λ s. Fresh s ys) (sym moved) h.1)))

pub distinct_halves : {X : Type 0} (xs ys : List X) → AreDistinct (xs ++ ys) ↔ (AreDistinct xs × AreDistinct ys × ((x : X) → Stands x xs → Stands x ys → ⊥))
distinct_halves [] ys = (λ h. (tt, h, λ x i j. i), λ h. h.1)
distinct_halves (z ∷ xs) ys =
    let rest = distinct_halves xs ys in
    let at = stands_append z xs ys in (
      λ h. ((λ i. h.0 (at.1 (inl i)), (rest.0 h.1).0), (rest.0 h.1).1, λ x i j. elim i [ inl e ↦ h.0 (at.1 (inr (subst (λ w. Stands w ys) e j))) | inr k ↦ (rest.0 h.1).2 x k j ]),
      λ h. (λ i. elim (at.0 i) [ inl j ↦ h.0.0 j | inr j ↦ h.2 z (inl refl) j ], rest.1 (h.0.1, h.1, λ x i j. h.2 x (inr i) j)),
    )

-- it doesn't matter which of two lists stands first
pub distinct_swap : {X : Type 0} (xs ys : List X) → AreDistinct (xs ++ ys) ↔ AreDistinct (ys ++ xs)
distinct_swap xs ys =
    chain (distinct_halves xs ys) (chain (λ h. (h.1, h.0, λ x i j. h.2 x j i), λ h. (h.1, h.0, λ x i j. h.2 x j i)) (back (distinct_halves ys xs)))

-- ---- names

pub bytes_decide : (x y : List ℕ) → (bytes_eq x y ≡ true) ↔ (x ≡ y)
bytes_decide x y = ((bytes_eq-Decides x y).0, (bytes_eq-Decides x y).1)

abbrev pub FreshTexts : List (List ℕ) → List (List ℕ) → Type 0
FreshTexts seen xs = Fresh bytes_eq bytes_decide seen xs

pub repeated_fresh : (side : Side) (seen : List (List ℕ)) (ns : List Name) → (repeated side seen ns ≡ []) ↔ FreshTexts seen (texts_of ns)
repeated_fresh side seen [] = (λ e. tt, λ h. refl)
repeated_fresh side seen (n ∷ ns) =
    chain (empty_append _ _) (chain (both (empty_unless (not (is_text_among n.text seen)) (check_fault side Duplicate n)) same) (cases (is_text_among n.text seen) refl (λ s. repeated_fresh side s ns)))
  where
    cases : (test : Bool) → is_text_among n.text seen ≡ test → ((s : List (List ℕ)) → (repeated side s ns ≡ []) ↔ FreshTexts s (texts_of ns))
        → ((not (is_text_among n.text seen) ≡ true) × (repeated side (with_text seen n.text) ns ≡ [])) ↔ ((is_text_among n.text seen ≡ false) × FreshTexts (seen ++ n.text ∷ []) (texts_of ns))
    cases true e rest = (λ h. (let bad = ap not (sym e) ∙ h.0 in cc), λ h. (let bad = sym e ∙ h.0 in cc))
    cases false e rest =
        let more : with_text seen n.text ≡ seen ++ n.text ∷ [] = ap (λ (b : Bool). if b then seen else seen ++ n.text ∷ []) e in (
          λ h. (e, (rest (seen ++ n.text ∷ [])).0 (subst (λ s. repeated side s ns ≡ []) more h.1)),
          λ h. (ap not e, subst (λ s. repeated side s ns ≡ []) (sym more) ((rest (seen ++ n.text ∷ [])).1 h.1)),
        )

fresh_names : (seen : List (List ℕ)) (ns : List Name) → FreshTexts seen (texts_of ns) → with_names seen ns ≡ seen ++ texts_of ns
fresh_names seen [] h = sym (append-nil seen)
fresh_names seen (n ∷ ns) h =
    let more : with_text seen n.text ≡ seen ++ n.text ∷ [] = ap (λ (b : Bool). if b then seen else seen ++ n.text ∷ []) h.0 in
    ap (λ (s : List (List ℕ)). with_names s ns) more ∙ fresh_names (seen ++ n.text ∷ []) ns h.1 ∙ append_assoc seen (n.text ∷ []) (texts_of ns)

pub repeated_distinct : (side : Side) (ns : List Name) → (repeated side [] ns ≡ []) ↔ AreDistinct (texts_of ns)
repeated_distinct side ns = chain (repeated_fresh side [] ns) (fresh_distinct bytes_eq bytes_decide (texts_of ns))

pub texts_append : (ns ms : List Name) → texts_of (ns ++ ms) ≡ texts_of ns ++ texts_of ms
texts_append [] ms = refl
texts_append (n ∷ ns) ms = ap (λ (ts : List (List ℕ)). n.text ∷ ts) (texts_append ns ms)

-- names of two lists that share one space
pub repeated_behind : (first second : Side) (ns ms : List Name)
    → ((repeated first [] ns ≡ []) × (repeated second (with_names [] ns) ms ≡ [])) ↔ AreDistinct (texts_of (ns ++ ms))
repeated_behind first second ns ms =
    let one = repeated_fresh first [] ns in
    let all = chain (back (fresh_append bytes_eq bytes_decide [] (texts_of ns) (texts_of ms))) (fresh_distinct bytes_eq bytes_decide (texts_of ns ++ texts_of ms)) in
    let names = texts_append ns ms in (
      λ h.
          let fresh = one.0 h.0 in
          let seen = fresh_names [] ns fresh in
          subst AreDistinct (sym names) (all.0 (fresh, (repeated_fresh second (texts_of ns) ms).0 (subst (λ s. repeated second s ms ≡ []) seen h.1))),
      λ d.
          let fresh = all.1 (subst AreDistinct names d) in
          let seen = fresh_names [] ns fresh.0 in
          (one.1 fresh.0, subst (λ s. repeated second s ms ≡ []) (sym seen) ((repeated_fresh second (texts_of ns) ms).1 fresh.1)),
    )
