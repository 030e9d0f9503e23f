-- The turns of a sweep.
use Rattle.std.proofs.Common.{◌≡◌, ℕ, ◌+◌, ◌*◌, ◌^◌, ◌<◌, ◌≤◌, Bool, true, false, cond, not, bit_or, List, [], ◌∷◌, ◌++◌, length, take, get_or, set, Some, sym, refl, ap, ◌∙◌, subst, inl, inr, ⊎_elim, arith, eqb, eqb-true, eq-eqb, add-one, get_or-set_same, get_or-set_other}
use Rattle.std.proofs.lemmas.List.{take_more_set}
use Rattle.std.proofs.lemmas.Bool.{not-false}
use mathlib.Core.Logic.{dite}
use native.Mathlib.Decide.{dec_lt}
use Rattle.atomic_table.specs.Seated.{TableId}
use Rattle.atomic_table.specs.declared.shared.Seat.{Seat}
use Rattle.bound_words.specs.declared.system.Direction.{Direction}
use Rattle.bound_words.specs.declared.system.Direction.TheVariants.{Max, Min, Or}
use Rattle.bound_words.specs.declared.view.View.{View}
use Rattle.bound_words.specs.Rows.{Terms, IsPast, IsRow, IsMonotone}
use Rattle.bound_words.specs.Protocol.{loaded, begun, raised, ended}
use Rattle.bound_words.specs.Sweeps.{is_more, asks_more, asking, IsMoved}
use Rattle.bound_words.specs.Turns.{IsLoadedTo, IsRaisedTo, IsEvaluated, IsRaisedFor}
use Rattle.bound_words.specs.Fitting.{IsFitting}
use Rattle.bound_words.proofs.Directions.{past_refl, past_trans, further_here, past_right}
use Rattle.bound_words.proofs.Lists.{set_cases}
use Rattle.bound_words.proofs.Rows.{row-set}

module _ (t : Terms) where
  pub fits_as : (id : TableId) (s s' : Seat (Unit {0}) View) → IsFitting t id s → s'.table_id ≡ s.table_id → s'.me.1 ≡ [] → IsRow t s'.me.0.seen → s'.me.0.places ≡ s.me.0.places → s'.me.0.in_hand ≡ 0 → s'.me.0.begun ≤ t.rules * s'.me.0.sweeps → IsFitting t id s'
  fits_as id s s' o table slots is_row places idle few = record {
    sized = o.sized;
    no_slots = o.no_slots;
    few_words = o.few_words;
    table = table ∙ o.table;
    no_slot = slots;
    seen_row = is_row;
    some_place = subst (λ (l : List ℕ). 0 < length l) (sym places) o.some_place;
    idle = idle;
    few_begun = few;
  }

  pub loads_start : (v : View) (row : List ℕ) → IsRow t v.seen → v.loaded ≡ [] → IsLoadedTo t v row 0 v
  loads_start v row is_row none = record {
    same = ap (λ (l : List ℕ). record v { loaded = l }) none;
    seen_row = is_row;
    here = λ w h. absurd (omega arith);
    past = λ w h. absurd (omega arith);
    rest = λ w h. refl;
  }

  pub loads_more : (v : View) (row : List ℕ) (n : ℕ) (v' : View) (x : ℕ) → IsLoadedTo t v row n v' → n < t.words → length row ≡ t.words → IsPast (t.direction n) (get_or v'.seen n 0) x → x < 2 ^ 64 → IsLoadedTo t v (set row n x) (n + 1) (loaded v' n x)
  loads_more v row n v' x o h wide up fits = let hr : n < length row = omega arith in let len = o.seen_row.length_is in let hs : n < length v'.seen = omega arith in
      let e : v'.loaded ++ x ∷ [] ≡ take (n + 1) (set row n x) = ap (λ (u : View). u.loaded ++ x ∷ []) o.same ∙ sym (take_more_set row n x hr) in record {
        same = ap (λ (u : View). record u { seen = set v'.seen n x; loaded = v'.loaded ++ x ∷ [] }) o.same ∙ ap (λ (l : List ℕ). record v { seen = set v'.seen n x; loaded = l }) e;
        seen_row = row-set t v'.seen n x o.seen_row h fits;
        here = set_cases (λ w y. w < n + 1 → y ≡ get_or (set row n x) w 0) v'.seen n x hs (λ _. sym (get_or-set_same row n x 0 hr)) (λ w ne lt. o.here w (omega arith) ∙ sym (get_or-set_other row n w x 0 ne));
        past = set_cases (λ w y. w < n + 1 → IsPast (t.direction w) (get_or v.seen w 0) y) row n x hr (λ _. subst (λ (z : ℕ). IsPast (t.direction n) z x) (o.rest n (omega arith)) up) (λ w ne lt. o.past w (omega arith));
        rest = λ w lt. get_or-set_other v'.seen n w x 0 (λ e. omega arith) ∙ o.rest w (omega arith);
      }

  -- asking for no more, and for more
  pub not_more : (d : Direction) (has asked : ℕ) → is_more d has asked ≡ false → IsPast d asked has
  not_more Max has asked e = grind arith
  not_more Min has asked e = grind arith
  not_more Or has asked e = subst (IsPast Or asked) (eqb-true (bit_or has asked) has (not-false (eqb (bit_or has asked) has) e)) (past_right Or has asked)

  pub more : (d : Direction) (has asked : ℕ) → is_more d has asked ≡ true → IsPast d asked has → ⊥
  more Max has asked e p = grind arith
  more Min has asked e p = grind arith
  more Or has asked e p = let c : true ≡ false = sym e ∙ ap not (eq-eqb (bit_or has asked) has (further_here Or has asked p)) in cc

  met_if_none : (row : List ℕ) (rule w x : ℕ) → asks_more t row (t.asks rule row) ≡ 0 → t.asks rule row ≡ Some (w, x) → IsPast (t.direction w) x (get_or row w 0)
  met_if_none row rule w x none e = not_more (t.direction w) (get_or row w 0) x (no_one (is_more (t.direction w) (get_or row w 0) x) (ap (asks_more t row) (sym e) ∙ none))
    where
      no_one : (b : Bool) → ◌≡◌ {A = ℕ} (cond b 1 0) 0 → b ≡ false
      no_one true e = absurd (omega arith)
      no_one false e = refl

  pub asking_more : (row : List ℕ) (n : ℕ) → asking t row (n + 1) ≡ asking t row n + asks_more t row (t.asks n row)
  asking_more row n = rw add-one refl

  asks_one : (row : List ℕ) (rule w x : ℕ) → t.asks rule row ≡ Some (w, x) → is_more (t.direction w) (get_or row w 0) x ≡ true → asks_more t row (t.asks rule row) ≡ 1
  asks_one row rule w x e m = ap (asks_more t row) e ∙ ap (λ b. cond b 1 0) m

  pub raises_start : (row : List ℕ) (v : View) → IsRow t row → v.seen ≡ row → IsRaisedFor t row v 0 v
  raises_start row v is_row e = record {
    same = refl;
    seen_row = subst (IsRow t) (sym e) is_row;
    advanced = λ w h. subst (λ (l : List ℕ). IsPast (t.direction w) (get_or row w 0) (get_or l w 0)) (sym e) (past_refl (t.direction w) (get_or row w 0));
    asked = λ rule w x h. absurd (omega arith);
    counted = omega arith;
    few = omega arith;
    found = inl (refl, e);
  }

  -- a rule that asks for no more
  rests : (row : List ℕ) (v : View) (n : ℕ) (v' : View) → IsRaisedFor t row v n v' → IsMonotone t → IsRow t row → n < t.rules → asks_more t row (t.asks n row) ≡ 0 → IsRaisedFor t row v (n + 1) v'
  rests row v n v' o mono is_row h none = let e = asking_more row n in record {
    same = o.same;
    seen_row = o.seen_row;
    advanced = o.advanced;
    asked = λ rule w x lt asks. dite (dec_lt rule n) (λ below. o.asked rule w x below asks)
        (λ not_below. let is : rule ≡ n = omega arith in let asks' = subst (λ (r : ℕ). t.asks r row ≡ Some (w, x)) is asks in let inside = (mono.asked_word n row w x h is_row asks').0 in
        past_trans (t.direction w) x (get_or row w 0) (get_or v'.seen w 0) (met_if_none row n w x none asks') (o.advanced w inside));
    counted = let c = o.counted in omega arith;
    few = let f = o.few in omega arith;
    found = ⊎_elim (λ (p : (asking t row n ≡ 0) × (v'.seen ≡ row)). inl (omega arith, p.1)) (λ (p : (v'.mark < v'.latest) × IsMoved t row v'.seen). inr p) o.found;
  }

  -- a rule that asks for more, and whose word is raised
  rises : (row : List ℕ) (v : View) (n : ℕ) (v' v'' : View) (w x : ℕ) → IsRaisedFor t row v n v' → v.in_hand ≡ 0 → w < t.words → t.asks n row ≡ Some (w, x) → is_more (t.direction w) (get_or row w 0) x ≡ true → IsRaisedTo (t.direction w) v' w x v'' → IsRaisedFor t row v (n + 1) v''
  rises row v n v' v'' w x o idle inside asks m r = let k = r.0 in let y = r.1 in let is = r.3 in let up = r.4 in let to = r.5 in let d = t.direction w in
      subst (λ (u : View). IsRaisedFor t row v (n + 1) u) (sym is) (risen k y r.2 up to r.6)
    where
      risen : (k y : ℕ) → v'.mark ≤ k → IsPast (t.direction w) (get_or v'.seen w 0) y → IsPast (t.direction w) x y → y < 2 ^ 64 → IsRaisedFor t row v (n + 1) (ended (raised (begun v' k) w y))
      risen k y low up to fits = let len = o.seen_row.length_is in let hs : w < length v'.seen = omega arith in let d = t.direction w in let one = asks_one row n w x asks m in let e = asking_more row n in
          let higher : (z : ℕ) → IsPast (t.direction z) (get_or v'.seen z 0) (get_or (set v'.seen w y) z 0) = set_cases (λ z u. IsPast (t.direction z) (get_or v'.seen z 0) u) v'.seen w y hs up (λ z ne. past_refl (t.direction z) (get_or v'.seen z 0)) in
          let here : get_or (set v'.seen w y) w 0 ≡ y = get_or-set_same v'.seen w y 0 hs in let to' : IsPast d x (get_or (set v'.seen w y) w 0) = subst (IsPast d x) (sym here) to in record {
            same = ap (λ (u : View). record u { seen = set v'.seen w y; begun = v'.begun + 1; latest = k + 1; in_hand = 0 }) o.same ∙ ap (λ (z : ℕ). record v { seen = set v'.seen w y; begun = v'.begun + 1; latest = k + 1; in_hand = z }) (sym idle);
            seen_row = row-set t v'.seen w y o.seen_row inside fits;
            advanced = λ z lt. past_trans (t.direction z) (get_or row z 0) (get_or v'.seen z 0) (get_or (set v'.seen w y) z 0) (o.advanced z lt) (higher z);
            asked = λ rule z u lt asks'. dite (dec_lt rule n) (λ below. past_trans (t.direction z) u (get_or v'.seen z 0) (get_or (set v'.seen w y) z 0) (o.asked rule z u below asks') (higher z))
                (λ not_below. let same_rule : rule ≡ n = omega arith in let both : Some (w, x) ≡ Some (z, u) = sym asks ∙ (ap (λ (i : ℕ). t.asks i row) (sym same_rule) ∙ asks') in
                subst (λ (p : ℕ × ℕ). IsPast (t.direction p.0) p.1 (get_or (set v'.seen w y) p.0 0)) (pair_is (w, x) (z, u) both) to');
            counted = let c = o.counted in omega arith;
            few = let f = o.few in omega arith;
            found = inr (
              omega arith,
              (
                w,
                inside,
                past_trans d (get_or row w 0) (get_or v'.seen w 0) (get_or (set v'.seen w y) w 0) (o.advanced w inside) (higher w),
                λ e. more d (get_or row w 0) x m (subst (IsPast d x) (sym e) to'),
              ),
            );
          }
        where
          pair_is : (p q : ℕ × ℕ) → Some p ≡ Some q → p ≡ q
          pair_is p q e = cc

  pub raises_more : (row : List ℕ) (v : View) (n : ℕ) (v' v'' : View) → IsRaisedFor t row v n v' → v.in_hand ≡ 0 → IsMonotone t → IsRow t row → n < t.rules → IsEvaluated t row n v' v'' → IsRaisedFor t row v (n + 1) v''
  raises_more row v n v' v'' o idle mono is_row h ev = ⊎_elim
      (λ (p : (v'' ≡ v') × (asks_more t row (t.asks n row) ≡ 0)). subst (λ (u : View). IsRaisedFor t row v (n + 1) u) (sym p.0) (rests row v n v' o mono is_row h p.1))
      (λ (p : (w : ℕ) × (x : ℕ) × (w < t.words) × (t.asks n row ≡ Some (w, x)) × (is_more (t.direction w) (get_or row w 0) x ≡ true) × IsRaisedTo (t.direction w) v' w x v''). rises row v n v' v'' p.0 p.1 o idle p.2 p.3 p.4 p.5) ev
