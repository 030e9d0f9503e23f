-- The table at its start, seats that are handed out and joined, and the table at its end.
use Rattle.std.proofs.Common.{◌≡◌, ◌≢◌, ℕ, zero, suc, ◌+◌, ◌*◌, ◌^◌, ◌<◌, ◌≤◌, List, [], ◌∷◌, ◌++◌, length, take, drop, get_or, set, sym, refl, ap, ◌∙◌, subst, arith, length-append, length-take, length-drop, mul-add, eqb, eq-eqb, ne_eqb, cond, ⊎_elim}
use mathlib.Core.Option.{some, some-injective, some-ne-none}
use mathlib.Core.Logic.{dite}
use native.Mathlib.Decide.{ℕ_discrete}
use lib.ListN.{get_elem?}
use Rattle.atomic_table.specs.Table.{State, Me, Splits, Joins, opening}
use Rattle.atomic_table.proofs.Lists.{at_set, at_snoc}
use Rattle.bound_words.specs.declared.view.View.{View}
use Rattle.bound_words.specs.Rows.{Terms, IsPast, further, IsRow, IsRowPast}
use Rattle.atomic_table.specs.Seated.{TableId}
use Rattle.atomic_table.specs.declared.shared.Seat.{Seat}
use Rattle.bound_words.specs.Fitting.{IsFitting}
use Rattle.bound_words.specs.Protocol.{raises_in_hand, raises_begun, place_count, occurs, has_place, Reaches, IsViewOf, Kept, from, fresh_view, first_view, after_handing, handed, further_row, joined, spent}
use Rattle.bound_words.proofs.Directions.{past_refl, past_left, past_right, past_least, further_fits}
use Rattle.bound_words.proofs.Lists.{total-append, total-set, or_cases}
use Rattle.bound_words.proofs.Rows.{row_past_refl}
use Rattle.bound_words.proofs.Views.{new_view}

pub length_from : (k n : ℕ) → length (from k n) ≡ n
length_from k zero = refl
length_from k (suc n) = ap suc (length_from (k + 1) n)

occurs-append : (p : ℕ) (l m : List ℕ) → occurs p (l ++ m) ≡ occurs p l + occurs p m
occurs-append p [] m = omega arith
occurs-append p (x ∷ xs) m = let r = occurs-append p xs m in omega arith

occurs_cut : (p : ℕ) (l : List ℕ) → occurs p (drop 1 l) + occurs p (take 1 l) ≡ occurs p l
occurs_cut p [] = refl
occurs_cut p (x ∷ xs) = omega arith

none_before : (p k n : ℕ) → p < k → occurs p (from k n) ≡ 0
none_before p k zero h = refl
none_before p k (suc n) h = let r = none_before p (k + 1) n (omega arith) in let c : ◌≡◌ {A = ℕ} (cond (eqb p k) 1 0) 0 = ap (λ b. cond b 1 0) (ne_eqb p k (λ e. omega arith)) in omega arith

one_from : (p k n : ℕ) → k ≤ p → p < k + n → occurs p (from k n) ≡ 1
one_from p k zero le h = absurd (omega arith)
one_from p k (suc n) le h = dite (ℕ_discrete p k)
    (λ e. let r = none_before p (k + 1) n (omega arith) in let c : ◌≡◌ {A = ℕ} (cond (eqb p k) 1 0) 1 = ap (λ b. cond b 1 0) (eq-eqb p k e) in omega arith)
    (λ ne. let r = one_from p (k + 1) n (omega arith) (omega arith) in let c : ◌≡◌ {A = ℕ} (cond (eqb p k) 1 0) 0 = ap (λ b. cond b 1 0) (ne_eqb p k ne) in omega arith)

module _ (t : Terms) where
  pub length-further_row : (w : ℕ) (a b : List ℕ) → length a ≡ length b → length (further_row t w a b) ≡ length a
  length-further_row w [] b e = refl
  length-further_row w (x ∷ xs) [] e = absurd (omega arith)
  length-further_row w (x ∷ xs) (y ∷ ys) e = ap suc (length-further_row (w + 1) xs ys (omega arith))

  pub further_row_at : (w : ℕ) (a b : List ℕ) (i : ℕ) → length a ≡ length b → i < length a → get_or (further_row t w a b) i 0 ≡ further (t.direction (w + i)) (get_or a i 0) (get_or b i 0)
  further_row_at w [] b i e h = absurd (omega arith)
  further_row_at w (x ∷ xs) [] i e h = absurd (omega arith)
  further_row_at w (x ∷ xs) (y ∷ ys) zero e h = let z : w ≡ w + 0 = omega arith in ap (λ (n : ℕ). further (t.direction n) x y) z
  further_row_at w (x ∷ xs) (y ∷ ys) (suc i) e h = let z : (w + 1) + i ≡ w + suc i = omega arith in
      further_row_at (w + 1) xs ys i (omega arith) (omega arith) ∙ ap (λ (n : ℕ). further (t.direction n) (get_or xs i 0) (get_or ys i 0)) z

  further_at : (a b : List ℕ) (i : ℕ) → length a ≡ length b → i < length a → get_or (further_row t 0 a b) i 0 ≡ further (t.direction i) (get_or a i 0) (get_or b i 0)
  further_at a b i e h = let z : 0 + i ≡ i = omega arith in further_row_at 0 a b i e h ∙ ap (λ (n : ℕ). further (t.direction n) (get_or a i 0) (get_or b i 0)) z

  pub further_row_left : (a b : List ℕ) → length a ≡ t.words → length b ≡ t.words → IsRowPast t a (further_row t 0 a b)
  further_row_left a b ea eb w h = subst (IsPast (t.direction w) (get_or a w 0)) (sym (further_at a b w (ea ∙ sym eb) (omega arith))) (past_left (t.direction w) (get_or a w 0) (get_or b w 0))

  pub further_row_right : (a b : List ℕ) → length a ≡ t.words → length b ≡ t.words → IsRowPast t b (further_row t 0 a b)
  further_row_right a b ea eb w h = subst (IsPast (t.direction w) (get_or b w 0)) (sym (further_at a b w (ea ∙ sym eb) (omega arith))) (past_right (t.direction w) (get_or a w 0) (get_or b w 0))

  pub row-further : (a b : List ℕ) → IsRow t a → IsRow t b → IsRow t (further_row t 0 a b)
  row-further a b ra rb = let ea = ra.length_is in let eb = rb.length_is in record {
    length_is = length-further_row 0 a b (ea ∙ sym eb) ∙ ea;
    fits = λ w h. subst (λ (z : ℕ). z < 18446744073709551616) (sym (further_at a b w (ea ∙ sym eb) (omega arith))) (further_fits (t.direction w) (get_or a w 0) (get_or b w 0) (ra.fits w h) (rb.fits w h));
  }

  pub fits_joined : (id : TableId) (s o s' : Seat (Unit {0}) View) → IsFitting t id s → IsFitting t id o → s'.table_id ≡ s.table_id → s'.me ≡ (joined t s.me.0 o.me.0, []) → IsFitting t id s'
  fits_joined id s o s' f g table is = let a = f.few_begun in let b = g.few_begun in let p = f.some_place in let v : View = s.me.0 in let u : View = o.me.0 in record {
    sized = f.sized;
    no_slots = f.no_slots;
    few_words = f.few_words;
    table = table ∙ f.table;
    no_slot = ap (λ (m : Me (Unit {0}) View). m.1) is;
    seen_row = subst (λ (m : Me (Unit {0}) View). IsRow t m.0.seen) (sym is) (row-further v.seen u.seen f.seen_row g.seen_row);
    some_place = subst (λ (m : Me (Unit {0}) View). 0 < length m.0.places) (sym is) (omega (arith, length-append v.places u.places));
    idle = ap (λ (m : Me (Unit {0}) View). m.0.in_hand) is;
    few_begun = subst (λ (m : Me (Unit {0}) View). m.0.begun ≤ t.rules * m.0.sweeps) (sym is) (let e : t.rules * (v.sweeps + u.sweeps) ≡ t.rules * v.sweeps + t.rules * u.sweeps = mul-add t.rules v.sweeps u.sweeps in omega arith);
  }

  pub further_row_least : (a b row : List ℕ) → length a ≡ length b → Reaches t a row → Reaches t b row → Reaches t (further_row t 0 a b) row
  further_row_least a b row e p q w h = let len = length-further_row 0 a b e in let ha : w < length a = omega arith in
      subst (λ (z : ℕ). IsPast (t.direction w) z (get_or row w 0)) (sym (further_at a b w e ha)) (past_least (t.direction w) (get_or a w 0) (get_or b w 0) (get_or row w 0) (p w ha) (q w (omega arith)))

module _ (t : Terms) (start : List ℕ) (seats : ℕ) where
  abbrev St : Type 0
  St = State (Unit {0}) View

  abbrev Rule : St → Type 0
  Rule = Kept t start seats

  pub opens : IsRow t start → seats ≤ 16 → t.rules < 2 ^ 32 → Rule (opening (0 ∷ 0 ∷ start) [] (first_view start seats))
  opens is_row few few_rules = let v : View = first_view start seats in record {
    done = 0;
    begun = 0;
    row = start;
    words_are = refl;
    is_row = is_row;
    between = record { after_start = row_past_refl t start; before_closed = λ c closed past. past };
    in_hand = refl;
    announced = refl;
    shared_out = let e = length_from 0 seats in omega arith;
    each_place = λ p h. let e = one_from p 0 seats (omega arith) (omega arith) in omega arith;
    few_seats = few;
    few_rules = few_rules;
    each_view = only v (new_view t start start (from 0 seats) (λ w h. past_refl (t.direction w) (get_or start w 0)));
  }
    where
      only : (v : View) → IsViewOf t 0 0 start v → (j : ℕ) (u : View) → get_elem? (v ∷ []) j ≡ some u → IsViewOf t 0 0 start u
      only v o zero u e = subst (IsViewOf t 0 0 start) (some-injective v u e) o
      only v o (suc j) u e = absurd (some-ne-none u (sym e))

  -- a seat that has counted nothing hands over its first place
  pub hands_over : (id : ℕ) (seen places : List ℕ) → Splits Rule id (fresh_view seen places) (after_handing (fresh_view seen places)) (handed (fresh_view seen places))
  hands_over id seen places s k at = let v : View = fresh_view seen places in let l : View = fresh_view seen (drop 1 places) in let r : View = fresh_view seen (take 1 places) in let o = k.each_view id v at in record {
    done = k.done;
    begun = k.begun;
    row = k.row;
    words_are = k.words_are;
    is_row = k.is_row;
    between = k.between;
    in_hand = let e = total-set raises_in_hand s.views id v l at in let a = total-append raises_in_hand (set s.views id l) (r ∷ []) in let h = k.in_hand in omega arith;
    announced = let e = total-set raises_begun s.views id v l at in let a = total-append raises_begun (set s.views id l) (r ∷ []) in let h = k.announced in omega arith;
    shared_out = let e = total-set place_count s.views id v l at in let a = total-append place_count (set s.views id l) (r ∷ []) in let h = k.shared_out in
        omega (arith, length-take 1 places, length-drop 1 places);
    each_place = λ p h. let e = total-set (has_place p) s.views id v l at in let a = total-append (has_place p) (set s.views id l) (r ∷ []) in let o = k.each_place p h in let cut = occurs_cut p places in omega arith;
    few_seats = k.few_seats;
    few_rules = k.few_rules;
    each_view = λ j u e. ⊎_elim (λ (p : get_elem? (set s.views id l) j ≡ some u). ⊎_elim (λ (q : (j ≡ id) × (l ≡ u)). subst (IsViewOf t k.done k.begun k.row) q.1 (again k.done k.begun k.row o.saw (drop 1 places)))
        (λ (q : (j ≢ id) × (get_elem? s.views j ≡ some u)). k.each_view j u q.1) (at_set s.views id j l u p))
        (λ (p : r ≡ u). subst (IsViewOf t k.done k.begun k.row) p (again k.done k.begun k.row o.saw (take 1 places))) (at_snoc (set s.views id l) r u j e);
  }
    where
      again : (d b : ℕ) (row : List ℕ) → Reaches t seen row → (ps : List ℕ) → IsViewOf t d b row (fresh_view seen ps)
      again d b row saw ps = record {
        saw = saw;
        has_loaded = λ w h. absurd (omega arith);
        marked = omega arith;
        latest_begun = omega arith;
        fresh = λ _ w h. absurd (omega arith);
        settled = λ e. absurd (cc);
        one_in_hand = omega arith;
        few_in_hand = omega arith;
        few_begun = omega arith;
        few_sweeps = omega arith;
      }

  both_view : (d b : ℕ) (row : List ℕ) (v u : View) → IsViewOf t d b row v → IsViewOf t d b row u → length v.seen ≡ length u.seen → IsViewOf t d b row (joined t v u)
  both_view d b row v u ov ou e = record {
    saw = further_row_least t v.seen u.seen row e ov.saw ou.saw;
    has_loaded = λ w h. absurd (omega arith);
    marked = omega arith;
    latest_begun = omega arith;
    fresh = λ _ w h. absurd (omega arith);
    settled = λ q. ⊎_elim ov.settled ou.settled (or_cases v.quiet u.quiet q);
    one_in_hand = omega arith;
    few_in_hand = omega arith;
    few_begun = let a = ov.few_begun in let c = ou.few_begun in parts t.rules v.sweeps u.sweeps v.begun u.begun a c;
    few_sweeps = let a = ov.few_sweeps in let c = ou.few_sweeps in omega (arith, length-append v.places u.places);
  }
    where
      parts : (r m n x y : ℕ) → x ≤ r * m → y ≤ r * n → x + y ≤ r * (m + n)
      parts r m n x y p q = let e : r * (m + n) ≡ r * m + r * n = mul-add r m n in omega arith

  -- a seat takes in another, where neither has a raise in hand
  pub joins : (id other : ℕ) (v u : View) → v.in_hand ≡ 0 → u.in_hand ≡ 0 → length v.seen ≡ length u.seen → length u.seen ≤ t.words → Joins Rule id v other u (joined t v u) spent
  joins id other v u idle idle' same _ s k at apart at' = let b : View = joined t v u in let ov = k.each_view id v at in
      let there = ⊎_elim (λ (p : (other ≡ id) × (b ≡ u)). absurd (apart p.0)) (λ (p : (other ≢ id) × (get_elem? s.views other ≡ some u)). p.1) (at_set s.views id other b u at') in let ou = k.each_view other u there in record {
        done = k.done;
        begun = k.begun;
        row = k.row;
        words_are = k.words_are;
        is_row = k.is_row;
        between = k.between;
        in_hand = let e = total-set raises_in_hand s.views id v b at in let a = total-set raises_in_hand (set s.views id b) other u spent at' in let h = k.in_hand in omega arith;
        announced = let e = total-set raises_begun s.views id v b at in let a = total-set raises_begun (set s.views id b) other u spent at' in let h = k.announced in omega arith;
        shared_out = let e = total-set place_count s.views id v b at in let a = total-set place_count (set s.views id b) other u spent at' in let h = k.shared_out in omega (arith, length-append v.places u.places);
        each_place = λ p h. let e = total-set (has_place p) s.views id v b at in let a = total-set (has_place p) (set s.views id b) other u spent at' in let o = k.each_place p h in let both = occurs-append p v.places u.places in omega arith;
        few_seats = k.few_seats;
        few_rules = k.few_rules;
        each_view = λ j w e. ⊎_elim (λ (p : (j ≡ other) × (spent ≡ w)). subst (IsViewOf t k.done k.begun k.row) p.1 (nothing k.done k.begun k.row))
            (λ (p : (j ≢ other) × (get_elem? (set s.views id b) j ≡ some w)). ⊎_elim (λ (q : (j ≡ id) × (b ≡ w)). subst (IsViewOf t k.done k.begun k.row) q.1 (both_view k.done k.begun k.row v u ov ou same))
            (λ (q : (j ≢ id) × (get_elem? s.views j ≡ some w)). k.each_view j w q.1) (at_set s.views id j b w p.1)) (at_set (set s.views id b) other j spent w e);
      }
    where
      nothing : (d b : ℕ) (row : List ℕ) → IsViewOf t d b row spent
      nothing d b row = record {
        saw = λ w h. absurd (omega arith);
        has_loaded = λ w h. absurd (omega arith);
        marked = omega arith;
        latest_begun = omega arith;
        fresh = λ _ w h. absurd (omega arith);
        settled = λ e. absurd (cc);
        one_in_hand = omega arith;
        few_in_hand = omega arith;
        few_begun = omega arith;
        few_sweeps = omega arith;
      }
