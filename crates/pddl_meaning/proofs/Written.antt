-- Facts that are deleted and added one after another.
use Rattle.std.proofs.Common.{◌≡◌, ◌&&◌, ◌||◌, ℕ, Bool, true, false, not, ◌+◌, ◌<◌, ◌≤◌, List, [], ◌∷◌, ◌++◌, length, get_or, drop, map, refl, sym, ap, ◌∙◌}
use Rattle.std.specs.List.{list_any}
use Rattle.std.specs.Ordering.{eq_by_cmp}
use Rattle.std.specs.FinSet as set
use Rattle.std.specs.List.{AllZip}
use Rattle.std.proofs.lemmas.List.Elements.{same_from_all_zip}
use Rattle.std.proofs.lemmas.List.{at_drop_more, drop_all}
use Rattle.pddl_meaning.specs.Worlds.{Facts, text_cmp}
use Rattle.pddl_meaning.proofs.Members.{texts_total, same_facts}

and_moved : (a b c : Bool) → ((not a && b) && not c) ≡ (b && not (a || c))
and_moved true b c = and_false b
  where
    and_false : (b : Bool) → false ≡ (b && false)
    and_false true = refl
    and_false false = refl
and_moved false b c = refl

-- to delete the first fact and then the others is to delete all
pub deleted_first : (facts : Facts) (t : List ℕ) (texts : List (List ℕ)) → set.difference (set.remove facts t) (set.from_list {R = text_cmp} texts) ≡ set.difference facts (set.from_list {R = text_cmp} (t ∷ texts))
deleted_first facts t texts =
    same_facts _ _ (λ q. set.contains-difference texts_total (set.remove facts t) (set.from_list {R = text_cmp} texts) q
    ∙ ap (λ (b : Bool). b && not (set.contains (set.from_list {R = text_cmp} texts) q)) (set.contains-remove texts_total facts t q)
    ∙ and_moved (eq_by_cmp text_cmp q t) (set.contains facts q) (set.contains (set.from_list {R = text_cmp} texts) q)
    ∙ ap (λ (b : Bool). set.contains facts q && not b) (sym (set.contains-insert texts_total (set.from_list {R = text_cmp} texts) t q))
    ∙ sym (set.contains-difference texts_total facts (set.from_list {R = text_cmp} (t ∷ texts)) q))

and_true : (b : Bool) → (b && true) ≡ b
and_true true = refl
and_true false = refl

or_false : (b : Bool) → (b || false) ≡ b
or_false true = refl
or_false false = refl

pub none_deleted : (facts : Facts) → set.difference facts (set.from_list {R = text_cmp} []) ≡ facts
none_deleted facts =
    same_facts _ _ (λ q. set.contains-difference texts_total facts (set.from_list {R = text_cmp} []) q
    ∙ ap (λ (b : Bool). set.contains facts q && not b) (set.contains-empty text_cmp q) ∙ and_true (set.contains facts q))

pub none_added : (facts : Facts) → set.union facts (set.from_list {R = text_cmp} []) ≡ facts
none_added facts =
    same_facts _ _ (λ q. set.contains-union texts_total facts (set.from_list {R = text_cmp} []) q
    ∙ ap (λ (b : Bool). set.contains facts q || b) (set.contains-empty text_cmp q) ∙ or_false (set.contains facts q))

or_moved : (a b c : Bool) → (a || (b || c)) ≡ (b || (c || a))
or_moved true true c = refl
or_moved true false true = refl
or_moved true false false = refl
or_moved false b true = refl
or_moved false true false = refl
or_moved false false false = refl

or_grouped : (a b c : Bool) → ((a || b) || c) ≡ (a || (b || c))
or_grouped true b c = refl
or_grouped false b c = refl

any_append : (t : List ℕ) (xs ys : List (List ℕ)) → list_any (eq_by_cmp text_cmp t) (xs ++ ys) ≡ (list_any (eq_by_cmp text_cmp t) xs || list_any (eq_by_cmp text_cmp t) ys)
any_append t [] ys = refl
any_append t (x ∷ xs) ys = ap (λ (b : Bool). eq_by_cmp text_cmp t x || b) (any_append t xs ys) ∙ sym (or_grouped (eq_by_cmp text_cmp t x) (list_any (eq_by_cmp text_cmp t) xs) (list_any (eq_by_cmp text_cmp t) ys))

-- to add a fact after others is to add all
pub added_last : (facts : Facts) (texts : List (List ℕ)) (t : List ℕ) → set.insert (set.union facts (set.from_list {R = text_cmp} texts)) t ≡ set.union facts (set.from_list {R = text_cmp} (texts ++ t ∷ []))
added_last facts texts t =
    same_facts _ _ (λ q. set.contains-insert texts_total (set.union facts (set.from_list {R = text_cmp} texts)) t q
    ∙ ap (λ (b : Bool). eq_by_cmp text_cmp q t || b)
    (set.contains-union texts_total facts (set.from_list {R = text_cmp} texts) q ∙ ap (λ (b : Bool). set.contains facts q || b) (set.contains-from_list texts_total texts q))
    ∙ or_moved (eq_by_cmp text_cmp q t) (set.contains facts q) (list_any (eq_by_cmp text_cmp q) texts)
    ∙ ap (λ (b : Bool). set.contains facts q || b)
    (ap (λ (b : Bool). list_any (eq_by_cmp text_cmp q) texts || b) (sym (or_false (eq_by_cmp text_cmp q t))) ∙ sym (any_append q texts (t ∷ [])) ∙ sym (set.contains-from_list texts_total (texts ++ t ∷ []) q))
    ∙ sym (set.contains-union texts_total facts (set.from_list {R = text_cmp} (texts ++ t ∷ [])) q))

-- ---- loops

pub deleted_step : (texts : List (List ℕ)) (i : ℕ) (t other : List ℕ) (facts : Facts) → i < length texts → t ≡ get_or texts i other
    → set.difference (set.remove facts t) (set.from_list {R = text_cmp} (drop (i + 1) texts)) ≡ set.difference facts (set.from_list {R = text_cmp} (drop i texts))
deleted_step texts i t other facts within at =
    deleted_first facts t (drop (i + 1) texts)
    ∙ ap (λ (s : List ℕ). set.difference facts (set.from_list {R = text_cmp} (s ∷ drop (i + 1) texts))) at
    ∙ sym (at_drop_more (λ (ts : List (List ℕ)). set.difference facts (set.from_list {R = text_cmp} ts)) texts i other within)

pub deleted_all : (texts : List (List ℕ)) (i : ℕ) (facts after : Facts) → length texts ≤ i → set.difference facts (set.from_list {R = text_cmp} (drop i texts)) ≡ after → facts ≡ after
deleted_all texts i facts after behind h =
    sym (none_deleted facts) ∙ ap (λ (ts : List (List ℕ)). set.difference facts (set.from_list {R = text_cmp} ts)) (sym (drop_all i texts behind)) ∙ h

pub map_same : {X : Type 0} (xs : List X) → map (λ (x : X). x) xs ≡ xs
map_same [] = refl
map_same (x ∷ xs) = ap (◌∷◌ x) (map_same xs)

-- ---- copies

pub same_items : (xs ys : List ℕ) → AllZip (λ (x y : ℕ). y ≡ x) xs ys → ys ≡ xs
same_items xs ys h = same_from_all_zip (λ (x y : ℕ). y ≡ x) xs ys h (λ x y e. e)

module _ {V : Type 0} (text : V → List ℕ) (C : V → V → Type 0) (same : (v w : V) → C v w → text w ≡ text v) where
  pub copied_keys : (ks ls : List V) → AllZip C ks ls → map text ls ≡ map text ks
  copied_keys [] [] h = refl
  copied_keys [] (l ∷ ls) h = absurd h
  copied_keys (k ∷ ks) [] h = absurd h
  copied_keys (k ∷ ks) (l ∷ ls) h = λ i. same k l h.0 i ∷ copied_keys ks ls h.1 i

  pub copied_entries : {X : Type 0} (D : X → X → Type 0) → ((x y : X) → D x y → y ≡ x) → (es fs : List (V × X)) → AllZip (λ p q. C p.0 q.0 × D p.1 q.1) es fs
      → map {B = List ℕ × X} (λ (e : V × X). (text e.0, e.1)) fs ≡ map {B = List ℕ × X} (λ (e : V × X). (text e.0, e.1)) es
  copied_entries D equal [] [] h = refl
  copied_entries D equal [] (f ∷ fs) h = absurd h
  copied_entries D equal (e ∷ es) [] h = absurd h
  copied_entries D equal (e ∷ es) (f ∷ fs) h = λ i. (same e.0 f.0 h.0.0 i, equal e.1 f.1 h.0.1 i) ∷ copied_entries D equal es fs h.1 i
