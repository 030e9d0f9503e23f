-- Sets of pairs, by their members.
use Rattle.std.proofs.Common.{◌≡◌, ℕ, ◌<◌, ◌≤◌, ◌⊎◌, Bool, true, false, cond, not, ◌||◌, ◌&&◌, List, IsTrue, refl, sym, ◌∙◌, inl, inr, arith}
use Rattle.std.specs.declared.cmp.Ordering.TheVariants.{Less, Equal, Greater}
use Rattle.std.specs.Ordering.{nat_cmp, eq_by_cmp, ordering_then, is_gt}
use Rattle.std.specs.Cmp.{IsTotalOrder, nat_cmp_total, on_total, then_total, eq_by_cmp_equiv}
use Rattle.std.specs.FinSet.{IsAntisymmetric, nat_cmp-IsAntisymmetric, insert, remove, from_list, same_set, contains-empty, contains-insert, contains-remove, contains-from_list}
use Rattle.std.specs.List.{list_any}
use Rattle.std.proofs.lemmas.Cmp.{ranked}
use Rattle.open_list.specs.Frontier.{pair_cmp, IsLeast}

pub pair_total : IsTotalOrder pair_cmp
pair_total = then_total (on_total (λ p. p.0) nat_cmp_total) (on_total (λ p. p.1) nat_cmp_total)

-- only equal pairs tie
pub pair_tied : IsAntisymmetric pair_cmp
pair_tied x y tied =
    elim (nat_cmp x.0 y.0) as (λ r. nat_cmp x.0 y.0 ≡ r → ordering_then r (nat_cmp x.1 y.1) ≡ Equal → x ≡ y) [
      | Less ↦ λ p e. cc
      | Equal ↦ λ p e i. (nat_cmp-IsAntisymmetric x.0 y.0 p i, nat_cmp-IsAntisymmetric x.1 y.1 e i)
      | Greater ↦ λ p e. cc
    ] refl tied

cond_or : (b x : Bool) → cond b true x ≡ (b || x)
cond_or true x = refl
cond_or false x = refl

cond_and : (b x : Bool) → cond b false x ≡ (not b && x)
cond_and true x = refl
cond_and false x = refl

same_pair : (p q : ℕ × ℕ) → eq_by_cmp pair_cmp p q ≡ eq_by_cmp pair_cmp q p
same_pair p q = (eq_by_cmp_equiv pair_total).symm p q

-- a list that has one pair more
pub from_list-inserted : (old new : List (ℕ × ℕ)) (p : ℕ × ℕ)
    → ((q : ℕ × ℕ) → list_any (eq_by_cmp pair_cmp q) new ≡ cond (eq_by_cmp pair_cmp p q) true (list_any (eq_by_cmp pair_cmp q) old))
    → from_list {R = pair_cmp} new ≡ insert (from_list old) p
from_list-inserted old new p updates =
    same_set pair_total pair_tied _ _ (λ q. contains-from_list pair_total new q ∙ updates q ∙ cond_or (eq_by_cmp pair_cmp p q) _
    ∙ (λ i. same_pair p q i || sym (contains-from_list pair_total old q) i) ∙ sym (contains-insert pair_total (from_list old) p q))

-- a list that lacks one pair
pub from_list-removed : (old new : List (ℕ × ℕ)) (p : ℕ × ℕ)
    → ((q : ℕ × ℕ) → list_any (eq_by_cmp pair_cmp q) new ≡ cond (eq_by_cmp pair_cmp p q) false (list_any (eq_by_cmp pair_cmp q) old))
    → from_list {R = pair_cmp} new ≡ remove (from_list old) p
from_list-removed old new p updates =
    same_set pair_total pair_tied _ _ (λ q. contains-from_list pair_total new q ∙ updates q ∙ cond_and (eq_by_cmp pair_cmp p q) _
    ∙ (λ i. not (same_pair p q i) && sym (contains-from_list pair_total old q) i) ∙ sym (contains-remove pair_total (from_list old) p q))

-- a pair that isn't behind another
not_behind : (p q : ℕ × ℕ) → is_gt (pair_cmp p q) ≡ false → (p.0 < q.0) ⊎ ((p.0 ≡ q.0) × (p.1 ≤ q.1))
not_behind p q ahead =
    elim (nat_cmp p.0 q.0) as (λ r. r ≡ nat_cmp p.0 q.0 → is_gt (ordering_then r (nat_cmp p.1 q.1)) ≡ false → (p.0 < q.0) ⊎ ((p.0 ≡ q.0) × (p.1 ≤ q.1))) [
      | Less ↦ λ e _. inl (ranked p.0 q.0 Less e)
      | Equal ↦ λ e gt. inr (ranked p.0 q.0 Equal e, not_above p.1 q.1 gt)
      | Greater ↦ λ e gt. cc
    ] refl ahead
  where
    not_above : (a b : ℕ) → is_gt (nat_cmp a b) ≡ false → a ≤ b
    not_above a b gt =
        elim (nat_cmp a b) as (λ r. r ≡ nat_cmp a b → is_gt r ≡ false → a ≤ b) [
          | Less ↦ λ e _. omega (arith, ranked a b Less e)
          | Equal ↦ λ e _. omega (arith, ranked a b Equal e)
          | Greater ↦ λ e gt. cc
        ] refl gt

-- a key that no other stands before
pub IsLeast-from_list : (pairs : List (ℕ × ℕ)) (p : ℕ × ℕ) → IsTrue (list_any (eq_by_cmp pair_cmp p) pairs)
    → ((q : ℕ × ℕ) → IsTrue (list_any (eq_by_cmp pair_cmp q) pairs) → is_gt (pair_cmp p q) ≡ false) → IsLeast (from_list pairs) p
IsLeast-from_list pairs p member least = record {
  member = rw (contains-from_list pair_total pairs p) member;
  first = λ q there. not_behind p q (least q (rw (contains-from_list pair_total pairs q) at there));
}

-- what is in a set after a change
pub ruleset members = (contains-empty, contains-insert, contains-remove, pair_total)
