-- The table at its start, and seats that are handed out and joined.
use Rattle.std.proofs.Common.{◌≡◌, ◌≢◌, ℕ, zero, suc, ◌+◌, ◌-◌, ◌*◌, ◌≤◌, List, [], ◌∷◌, replicate, set, sym, subst, inl, ⊎_elim, arith, length-append}
use Rattle.std.proofs.lemmas.List.{length-replicate}
use Rattle.std.proofs.lemmas.List.Elements.{All-nil, All-append}
use mathlib.Core.Option.{some, some-injective, some-ne-none}
use lib.ListN.{get_elem?}
use Rattle.atomic_table.specs.Table.{State, Splits, Joins, opening}
use Rattle.atomic_table.proofs.Lists.{at_set, at_snoc}
use Rattle.word_rows.specs.declared.view.View.{View}
use Rattle.word_rows.specs.Views.{fresh_view, joined}
use Rattle.word_rows.specs.Rule.{IsReadyRow, IsViewOf, claim_count, seat_count, Kept}
use Rattle.word_rows.proofs.Sums.{total-append, total-set}
use Rattle.word_rows.proofs.Places.{zero_at}

module _ (width : ℕ) (IsEntry : List ℕ → Type 0) (seats : ℕ) where
  abbrev St : Type 0
  St = State (Unit {0}) View

  abbrev Rule : St → Type 0
  Rule = Kept width IsEntry seats

  fresh_is : (table : List ℕ) (owner : ℕ → ℕ) (seat n : ℕ) → IsViewOf width table owner seat (fresh_view n)
  fresh_is table owner seat n = record { few_claims = omega arith; knows = All-nil (λ l. IsReadyRow width table l.row l.words); writes = tt }

  pub starts : seats ≤ 16 → Rule (opening (replicate (1025 + 1024 * width) 0) [] (fresh_view seats))
  starts few = record {
    owner = λ _. 0;
    sized = length-replicate (1025 + 1024 * width) 0;
    counted = zero_at (1025 + 1024 * width) 0;
    shared_out = omega arith;
    few_seats = few;
    each_row = λ row h. inl (zero_at (1025 + 1024 * width) (row + 1));
    each_view = only;
  }
    where
      only : (j : ℕ) (u : View) → get_elem? (fresh_view seats ∷ []) j ≡ some u → IsViewOf width (replicate (1025 + 1024 * width) 0) (λ _. 0) j u
      only zero u e = subst (IsViewOf width (replicate (1025 + 1024 * width) 0) (λ _. 0) 0) (some-injective (fresh_view seats) u e) (fresh_is (replicate (1025 + 1024 * width) 0) (λ _. 0) 0 seats)
      only (suc j) u e = absurd (some-ne-none u (sym e))

  -- a seat that has done nothing hands over one of those joined in it
  pub hands_over : (id n : ℕ) → 1 ≤ n → Splits Rule id (fresh_view n) (fresh_view (n - 1)) (fresh_view 1)
  hands_over id n some_seat s k at = let v : View = fresh_view n in let l : View = fresh_view (n - 1) in let r : View = fresh_view 1 in record {
    owner = k.owner;
    sized = k.sized;
    counted = let e = total-set claim_count s.views id v l at in let a = total-append claim_count (set s.views id l) (r ∷ []) in let h = k.counted in omega arith;
    shared_out = let e = total-set seat_count s.views id v l at in let a = total-append seat_count (set s.views id l) (r ∷ []) in let h = k.shared_out in omega arith;
    few_seats = k.few_seats;
    each_row = k.each_row;
    each_view = λ j u e. ⊎_elim
        (λ (p : get_elem? (set s.views id l) j ≡ some u). ⊎_elim (λ (q : (j ≡ id) × (l ≡ u)). subst (IsViewOf width s.words k.owner j) q.1 (fresh_is s.words k.owner j (n - 1)))
        (λ (q : (j ≢ id) × (get_elem? s.views j ≡ some u)). k.each_view j u q.1) (at_set s.views id j l u p))
        (λ (p : r ≡ u). subst (IsViewOf width s.words k.owner j) p (fresh_is s.words k.owner j 1)) (at_snoc (set s.views id l) r u j e);
  }

  both_is : (table : List ℕ) (owner : ℕ → ℕ) (seat other : ℕ) (v u : View) → IsViewOf width table owner seat v → IsViewOf width table owner other u → IsViewOf width table owner seat (joined v u)
  both_is table owner seat other v u hv hu = record {
    few_claims = let a = hv.few_claims in let b = hu.few_claims in omega (arith, length-append v.claims u.claims);
    knows = All-append (λ l. IsReadyRow width table l.row l.words) v.known u.known hv.knows hu.knows;
    writes = tt;
  }

  -- a seat takes in another
  pub joins : (id other : ℕ) (v u : View) → Joins Rule id v other u (joined v u) (fresh_view 0)
  joins id other v u s k at apart at' = let b : View = joined v u in let none : View = fresh_view 0 in
      let there = ⊎_elim (λ (p : (other ≡ id) × (b ≡ u)). absurd (apart p.0)) (λ (p : (other ≢ id) × (get_elem? s.views other ≡ some u)). p.1) (at_set s.views id other b u at') in record {
        owner = k.owner;
        sized = k.sized;
        counted = let e = total-set claim_count s.views id v b at in let a = total-set claim_count (set s.views id b) other u none at' in let h = k.counted in omega (arith, length-append v.claims u.claims);
        shared_out = let e = total-set seat_count s.views id v b at in let a = total-set seat_count (set s.views id b) other u none at' in let h = k.shared_out in omega arith;
        few_seats = k.few_seats;
        each_row = k.each_row;
        each_view = λ j w e. ⊎_elim (λ (p : (j ≡ other) × (none ≡ w)). subst (IsViewOf width s.words k.owner j) p.1 (fresh_is s.words k.owner j 0))
            (λ (p : (j ≢ other) × (get_elem? (set s.views id b) j ≡ some w)). ⊎_elim
            (λ (q : (j ≡ id) × (b ≡ w)). subst (IsViewOf width s.words k.owner j) q.1 (both_is s.words k.owner j other v u (subst (λ (i : ℕ). IsViewOf width s.words k.owner i v) (sym q.0) (k.each_view id v at)) (k.each_view other u there)))
            (λ (q : (j ≢ id) × (get_elem? s.views j ≡ some w)). k.each_view j w q.1) (at_set s.views id j b w p.1)) (at_set (set s.views id b) other j none w e);
      }
