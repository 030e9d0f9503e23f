-- Sets and maps of texts, kept by keys that each have a text.
use Rattle.std.proofs.Common.{◌≡◌, ℕ, Bool, true, false, cond, not, ◌||◌, ◌&&◌, List, [], ◌∷◌, Option, Some, map, refl, sym, ap, ◌∙◌}
use Rattle.std.specs.Ordering.{is_eq, eq_by_cmp}
use Rattle.std.specs.Cmp.{IsTotalOrder, Equal-is}
use Rattle.std.specs.Cmp.Lexicographic.{nat_list_cmp_total}
use Rattle.std.specs.List.{list_any}
use Rattle.std.specs.Map.{IsKeyTest, AreApart, lookup, KeepsOthers}
use Rattle.std.specs.Set as kept
use Rattle.std.specs.FinSet as set
use Rattle.std.specs.FinMap as finite
use Rattle.pddl_meaning.specs.Worlds.{text_cmp}

pub texts_total : IsTotalOrder text_cmp
texts_total = nat_list_cmp_total

-- only equal texts tie
pub texts_tied : set.IsAntisymmetric text_cmp
texts_tied = set.slice_cmp-IsAntisymmetric set.nat_cmp-IsAntisymmetric

pub same_text : (a b : List ℕ) → is_eq (text_cmp a b) ≡ true → a ≡ b
same_text a b e = texts_tied a b ((Equal-is (text_cmp a b)).0 e)

cond_or : (b x : Bool) → cond b true x ≡ (b || x)
cond_or true x = refl
cond_or false x = refl

cond_and : (b x : Bool) → cond b false x ≡ (not b && x)
cond_and true x = refl
cond_and false x = refl

module _ {V : Type 0} (text : V → List ℕ) where
  abbrev same : V → V → Bool
  same x y = is_eq (text_cmp (text x) (text y))

  -- a key has this text
  abbrev pub has_text : List ℕ → V → Bool
  has_text q v = is_eq (text_cmp q (text v))

  key_test : (q : List ℕ) → IsKeyTest same (has_text q)
  key_test q x y e = ap (λ (a : List ℕ). is_eq (text_cmp a (text y))) (same_text q (text x) e)

  apart : (k q : List ℕ) → is_eq (text_cmp q k) ≡ false → AreApart (has_text k) (has_text q)
  apart k q e v t = ap (λ (a : List ℕ). is_eq (text_cmp q a)) (sym (same_text k (text v) t)) ∙ e

  any_mapped : (q : List ℕ) (vs : List V) → list_any (eq_by_cmp text_cmp q) (map text vs) ≡ list_any (has_text q) vs
  any_mapped q [] = refl
  any_mapped q (v ∷ vs) = ap (λ (b : Bool). has_text q v || b) (any_mapped q vs)

  pub members : (vs : List V) (q : List ℕ) → set.contains (set.from_list {R = text_cmp} (map text vs)) q ≡ list_any (has_text q) vs
  members vs q = set.contains-from_list texts_total (map text vs) q ∙ any_mapped q vs

  set_updated : (old new : List V) (k : List ℕ) (b : Bool) → list_any (has_text k) new ≡ b → kept.KeepsOthers same (has_text k) old new
      → (q : List ℕ) → list_any (has_text q) new ≡ cond (is_eq (text_cmp q k)) b (list_any (has_text q) old)
  unfolding kept.KeepsOthers
  set_updated old new k b now others q =
      elim (is_eq (text_cmp q k)) as (λ t. is_eq (text_cmp q k) ≡ t → list_any (has_text q) new ≡ cond t b (list_any (has_text q) old)) [
        | true ↦ λ e. ap (λ (a : List ℕ). list_any (has_text a) new) (same_text q k e) ∙ now
        | false ↦ λ e. others (has_text q) (key_test q) (apart k q e)
      ] refl

  pub set_inserted : (old new : List V) (k : List ℕ) → list_any (has_text k) new ≡ true → kept.KeepsOthers same (has_text k) old new
      → set.from_list {R = text_cmp} (map text new) ≡ set.insert (set.from_list (map text old)) k
  set_inserted old new k now others =
      set.same_set texts_total texts_tied _ _ (λ q. members new q ∙ set_updated old new k true now others q ∙ cond_or (is_eq (text_cmp q k)) _
      ∙ ap (λ (b : Bool). is_eq (text_cmp q k) || b) (sym (members old q)) ∙ sym (set.contains-insert texts_total (set.from_list (map text old)) k q))

  pub set_removed : (old new : List V) (k : List ℕ) → list_any (has_text k) new ≡ false → kept.KeepsOthers same (has_text k) old new
      → set.from_list {R = text_cmp} (map text new) ≡ set.remove (set.from_list (map text old)) k
  set_removed old new k now others =
      set.same_set texts_total texts_tied _ _ (λ q. members new q ∙ set_updated old new k false now others q ∙ cond_and (is_eq (text_cmp q k)) _
      ∙ ap (λ (b : Bool). not (is_eq (text_cmp q k)) && b) (sym (members old q)) ∙ sym (set.contains-remove texts_total (set.from_list (map text old)) k q))

  module _ {X : Type 0} where
    abbrev with_texts : List (V × X) → List (List ℕ × X)
    with_texts es = map (λ e. (text e.0, e.1)) es

    found_mapped : (q : List ℕ) (es : List (V × X)) → finite.find text_cmp q (with_texts es) ≡ lookup (has_text q) es
    found_mapped q [] = refl
    found_mapped q (e ∷ es) = ap (cond (has_text q e.0) (Some e.1)) (found_mapped q es)

    pub found : (es : List (V × X)) (q : List ℕ) → finite.get (finite.from_entries {R = text_cmp} (with_texts es)) q ≡ lookup (has_text q) es
    found es q = finite.get-from_entries texts_total (with_texts es) q ∙ found_mapped q es

    map_updated : (old new : List (V × X)) (k : List ℕ) (w : Option X) → lookup (has_text k) new ≡ w → KeepsOthers same (has_text k) old new
        → (q : List ℕ) → lookup (has_text q) new ≡ cond (is_eq (text_cmp q k)) w (lookup (has_text q) old)
    unfolding KeepsOthers
    map_updated old new k w now others q =
        elim (is_eq (text_cmp q k)) as (λ t. is_eq (text_cmp q k) ≡ t → lookup (has_text q) new ≡ cond t w (lookup (has_text q) old)) [
          | true ↦ λ e. ap (λ (a : List ℕ). lookup (has_text a) new) (same_text q k e) ∙ now
          | false ↦ λ e. others (has_text q) (key_test q) (apart k q e)
        ] refl

    pub map_inserted : (old new : List (V × X)) (k : List ℕ) (x : X) → lookup (has_text k) new ≡ Some x → KeepsOthers same (has_text k) old new
        → finite.from_entries {R = text_cmp} (with_texts new) ≡ finite.insert (finite.from_entries (with_texts old)) k x
    map_inserted old new k x now others =
        finite.same_map texts_total texts_tied _ _ (λ q. found new q ∙ map_updated old new k (Some x) now others q
        ∙ ap (cond (is_eq (text_cmp q k)) (Some x)) (sym (found old q)) ∙ sym (finite.get-insert texts_total (finite.from_entries (with_texts old)) k x q))
