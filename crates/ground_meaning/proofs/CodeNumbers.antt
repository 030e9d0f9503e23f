-- The numbers that a code consists of: those of the symbol and of the objects of its atom.
use Rattle.std.proofs.Common.{◌≡◌, ◌<◌, ◌+◌, ◌++◌, ℕ, zero, suc, Bool, true, false, List, [], ◌∷◌, map, length, All, Option, Some, refl, sym, ap, ap₂, subst, ◌∙◌, inl, inr, arith}
use Rattle.std.specs.Prelude.{bytes_eq, option_map, unwrap_or, if◌then◌else◌}
use Rattle.std.proofs.lemmas.List.{length-map, map-append}
use Rattle.std.proofs.lemmas.List.Elements.{All-head, All-tail}
use Rattle.std.proofs.lemmas.Slice.Eq.{bytes_eq-Decides}
use Rattle.pddl_terms.specs.declared.names.Name.{Name}
use Rattle.pddl_terms.specs.declared.names.Sig.{Sig}
use Rattle.pddl_terms.specs.declared.names.Typed.{Typed}
use Rattle.pddl_terms.specs.Readable.{IsReadable}
use Rattle.name_table.specs.Tables.{place_in}
use Rattle.name_table.specs.TypedLists.{names_of}
use Rattle.pddl_types.specs.declared.pairs.Pair.{Pair}
use Rattle.pddl_types.specs.Pairs.{heads_of, objects_of}
use Rattle.pddl_types.specs.WellFormed.{AreDistinct, Stands, WellFormed, texts_of}
use Rattle.static_facts.specs.Atoms.{fact_atom, fluent_atom, head_text, names, object_text, text_at}
use Rattle.static_facts.specs.Codes.{code_of, fact_code, fluent_code, object_number}
use Rattle.ground_meaning.proofs.Lists.{stands_left, stands_right}

-- ---- distinct names

pub distinct_left : {A : Type 0} (xs ys : List A) → AreDistinct (xs ++ ys) → AreDistinct xs
distinct_left [] ys h = tt
distinct_left (x ∷ xs) ys h = (λ s. h.0 (stands_left x xs ys s), distinct_left xs ys h.1)

pub distinct_right : {A : Type 0} (xs ys : List A) → AreDistinct (xs ++ ys) → AreDistinct ys
distinct_right [] ys h = h
distinct_right (x ∷ xs) ys h = distinct_right xs ys h.1

-- nothing stands in both parts
pub distinct_apart : {A : Type 0} (xs ys : List A) → AreDistinct (xs ++ ys) → (x : A) → Stands x xs → Stands x ys → ⊥
distinct_apart [] ys h x s t = elim s [ ]
distinct_apart (y ∷ xs) ys h x (inl e) t = h.0 (stands_right y xs ys (subst (λ z. Stands z ys) e t))
distinct_apart (y ∷ xs) ys h x (inr s) t = distinct_apart xs ys h.1 x s t

pub text_stands : (ns : List Name) (n : ℕ) → n < length ns → Stands (text_at ns n) (texts_of ns)
text_stands [] n h = absurd (omega (arith, h))
text_stands (m ∷ ns) zero h = inl refl
text_stands (m ∷ ns) (suc n) h = inr (text_stands ns n (omega (arith, h)))

-- the place of a name among distinct ones is its number
own_place : (ns : List Name) → AreDistinct (texts_of ns) → (n : ℕ) → n < length ns → place_in (text_at ns n) ns ≡ Some n
own_place [] d n h = absurd (omega (arith, h))
own_place (m ∷ ns) d zero h =
    ap (λ (t : Bool). if t then Some 0 else option_map (λ place. place + 1) (place_in m.text ns)) ((bytes_eq-Decides m.text m.text).1 refl)
own_place (m ∷ ns) d (suc n) h = by_test (bytes_eq (text_at ns n) m.text) refl (own_place ns d.1 n (omega (arith, h)))
  where
    by_test : (test : Bool) → bytes_eq (text_at ns n) m.text ≡ test → place_in (text_at ns n) ns ≡ Some n
        → (if test then Some 0 else option_map (λ place. place + 1) (place_in (text_at ns n) ns)) ≡ Some (suc n)
    by_test true is rest =
        elim (d.0 (subst (λ (text : List ℕ). Stands text (texts_of ns)) ((bytes_eq-Decides (text_at ns n) m.text).0 is) (text_stands ns n (omega (arith, h))))) [ ]
    by_test false is rest =
        let next : n + 1 ≡ suc n = omega arith in
        ap (option_map (λ place. place + 1)) rest ∙ ap Some next

module _ (p : Pair) (readable : IsReadable p.domain p.problem) (formed : WellFormed p) where
  -- ---- objects

  objects_apart : AreDistinct (texts_of (names_of (objects_of p)))
  objects_apart =
      subst (λ (ns : List Name). AreDistinct (texts_of ns)) (sym (map-append (λ (t : Typed). t.name) p.domain.constants p.problem.objects)) formed.objects_once

  pub object_back : (o : ℕ) → o < length (objects_of p) → object_number p (object_text p o) ≡ o
  object_back o known =
      let many = length-map (objects_of p) (λ (t : Typed). t.name) in
      ap (λ (place : Option ℕ). unwrap_or place 0) (own_place (names_of (objects_of p)) objects_apart o (omega (arith, known, many)))

  pub same_objects : (os : List ℕ) → All (λ o. o < length (objects_of p)) os → map (object_number p) (names p os) ≡ os
  same_objects [] known = refl
  same_objects (o ∷ os) known =
      ap₂ (λ (q : ℕ) (qs : List ℕ). q ∷ qs) (object_back o (All-head (λ o. o < length (objects_of p)) o os known))
      (same_objects os (All-tail (λ o. o < length (objects_of p)) o os known))

  -- ---- predicates and functions

  heads_distinct : AreDistinct (texts_of (heads_of p.domain.predicates) ++ texts_of (heads_of p.domain.functions))
  heads_distinct =
      subst (λ (ts : List (List ℕ)). AreDistinct ts) (map-append (λ (n : Name). n.text) (heads_of p.domain.predicates) (heads_of p.domain.functions)) formed.heads_once

  -- no predicate is named as a function
  pub heads_apart : (n m : ℕ) → n < length p.domain.predicates → m < length p.domain.functions → head_text p.domain.predicates n ≡ head_text p.domain.functions m → ⊥
  heads_apart n m within below same =
      let predicates = length-map p.domain.predicates (λ (s : Sig). s.name) in
      let functions = length-map p.domain.functions (λ (s : Sig). s.name) in
      distinct_apart (texts_of (heads_of p.domain.predicates)) (texts_of (heads_of p.domain.functions)) heads_distinct (head_text p.domain.predicates n)
      (text_stands (heads_of p.domain.predicates) n (omega (arith, within, predicates)))
      (subst (λ (text : List ℕ). Stands text (texts_of (heads_of p.domain.functions))) (sym same) (text_stands (heads_of p.domain.functions) m (omega (arith, below, functions))))

  symbol_back : (sigs : List Sig) → AreDistinct (texts_of (heads_of sigs)) → (n : ℕ) → n < length sigs → unwrap_or (place_in (head_text sigs n) (heads_of sigs)) 0 ≡ n
  symbol_back sigs apart n within =
      let many = length-map sigs (λ (s : Sig). s.name) in
      ap (λ (place : Option ℕ). unwrap_or place 0) (own_place (heads_of sigs) apart n (omega (arith, within, many)))

  -- the code of a fact is that of its numbers
  pub fact_numbers : (n : ℕ) (os : List ℕ) → n < length p.domain.predicates → All (λ o. o < length (objects_of p)) os → fact_code p (fact_atom p n os) ≡ code_of n os
  fact_numbers n os within known =
      ap₂ code_of
      (symbol_back p.domain.predicates (distinct_left (texts_of (heads_of p.domain.predicates)) (texts_of (heads_of p.domain.functions)) heads_distinct) n within)
      (same_objects os known)

  -- the code of a fluent likewise
  pub fluent_numbers : (n : ℕ) (os : List ℕ) → n < length p.domain.functions → All (λ o. o < length (objects_of p)) os → fluent_code p (fluent_atom p n os) ≡ code_of n os
  fluent_numbers n os within known =
      ap₂ code_of
      (symbol_back p.domain.functions (distinct_right (texts_of (heads_of p.domain.predicates)) (texts_of (heads_of p.domain.functions)) heads_distinct) n within)
      (same_objects os known)
