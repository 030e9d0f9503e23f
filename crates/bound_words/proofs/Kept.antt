-- Each kind of step keeps the rule.
use Rattle.std.proofs.Common.{◌≡◌, ◌≢◌, ℕ, ◌+◌, ◌*◌, ◌%◌, ◌^◌, ◌<◌, ◌≤◌, true, List, ◌∷◌, length, get_or, set, Some, sym, refl, ap, ◌∙◌, subst, arith, ◌⊎◌, ◌||◌, ⊎_elim, eqb, eqb-true, get_or-set_same, ext_get_or, mul-le-mul_right}
use Rattle.std.proofs.lemmas.List.{set-get_or}
use mathlib.Core.Option.{some, some-injective, some-ne-none}
use mathlib.Core.Option as maybe
use lib.ListN.{get_elem?}
use Rattle.atomic_table.specs.Table.{State, Me, keeps, Allows}
use Rattle.atomic_table.proofs.Lists.{at_set}
use Rattle.bound_words.specs.declared.view.View.{View}
use Rattle.bound_words.specs.Rows.{Terms, IsPast, further, IsRow, IsRowPast, IsMonotone, AreMet, IsBetween, IsWithinClosed, IsLeastClosed}
use Rattle.bound_words.specs.Protocol.{raises_in_hand, raises_begun, place_count, occurs, has_place, IsViewOf, Kept, looked, loaded, marked, begun, raised, ended, concluded}
use Rattle.bound_words.proofs.Directions.{past_refl, past_trans, past_left, past_right, further_fits}
use Rattle.bound_words.proofs.Lists.{total-set, term_le, total_within, alone, read_row, write_row, or_cases}
use Rattle.bound_words.proofs.Rows.{Advances, advances-set, row-set, between-raise, raise_stays}
use Rattle.bound_words.proofs.Views.{stays, stays_done, sees, loads, marks, begins, ends, concludes}

module _ (t : Terms) (start : List ℕ) (seats : ℕ) where
  abbrev St : Type 0
  St = State (Unit {0}) View

  abbrev Mine : Type 0
  Mine = Me (Unit {0}) View

  abbrev Rule : St → Type 0
  Rule = Kept t start seats

  -- the seat `id` goes from the view v to w, and the counts and the row may move
  replaced : (s : St) (k : Rule s) (id : ℕ) (v w : View) (d b : ℕ) (row words : List ℕ) (homes : List (maybe.Option (Unit {0}))) → get_elem? s.views id ≡ some v
      → words ≡ d ∷ b ∷ row → IsRow t row → IsBetween t start row
      → b + k.done + v.in_hand ≡ d + k.begun + w.in_hand → b + v.begun ≡ k.begun + w.begun → w.places ≡ v.places
      → IsViewOf t d b row w → ((u : View) → IsViewOf t k.done k.begun k.row u → IsViewOf t d b row u)
      → Rule record { words = words; homes = homes; views = set s.views id w }
  replaced s k id v w d b row words homes at is is_row is_between hands sums spots mine others = record {
    done = d;
    begun = b;
    row = row;
    words_are = is;
    is_row = is_row;
    between = is_between;
    in_hand = let e = total-set raises_in_hand s.views id v w at in let h = k.in_hand in omega arith;
    announced = let e = total-set raises_begun s.views id v w at in let h = k.announced in omega arith;
    shared_out = let e = total-set place_count s.views id v w at in let h = k.shared_out in let n = ap (λ (l : List ℕ). length l) spots in omega arith;
    each_place = λ p h. let e = total-set (has_place p) s.views id v w at in let o = k.each_place p h in let n = ap (occurs p) spots in omega arith;
    few_seats = k.few_seats;
    few_rules = k.few_rules;
    each_view = λ j u e. ⊎_elim (λ (p : (j ≡ id) × (w ≡ u)). subst (IsViewOf t d b row) p.1 mine) (λ (p : (j ≢ id) × (get_elem? s.views j ≡ some u)). others u (k.each_view j u p.1)) (at_set s.views id j w u e);
  }

  -- at a load the words stay
  unmoved : (s : St) (k : Rule s) (i : ℕ) → set s.words i (get_or s.words i 0) ≡ k.done ∷ k.begun ∷ k.row
  unmoved s k i = set-get_or s.words i 0 ∙ k.words_are

  -- a load after which the view is w
  loaded_as : (s : St) (k : Rule s) (id i : ℕ) (v w : View) → get_elem? s.views id ≡ some v → w.in_hand ≡ v.in_hand → w.begun ≡ v.begun → w.places ≡ v.places → IsViewOf t k.done k.begun k.row w
      → Rule record { words = set s.words i (get_or s.words i 0); homes = s.homes; views = set s.views id w }
  loaded_as s k id i v w at hands sums spots mine = replaced s k id v w k.done k.begun k.row (set s.words i (get_or s.words i 0)) s.homes at (unmoved s k i) k.is_row k.between (omega arith) (omega arith) spots mine (λ u o. o)

  -- the counts of one view are within those of all
  hands_within : (s : St) (k : Rule s) (id : ℕ) (v : View) → get_elem? s.views id ≡ some v → k.done + v.in_hand ≤ k.begun
  hands_within s k id v at = let h = k.in_hand in let le = term_le raises_in_hand s.views id v at in omega arith

  view_begun : (v : View) (d b : ℕ) (row : List ℕ) → IsViewOf t d b row v → t.rules < 2 ^ 32 → v.begun ≤ 288230376151711744 * length v.places
  view_begun v d b row o few = let a = o.few_begun in let h = o.few_sweeps in let m : t.rules * v.sweeps ≤ 4294967296 * v.sweeps = mul-le-mul_right v.sweeps (omega arith) in omega arith

  -- no count wraps
  begun_fits : (s : St) (k : Rule s) → k.begun ≤ 4611686018427387904
  begun_fits s k = let a = k.announced in let p = k.shared_out in let q = k.few_seats in
      let m = total_within raises_begun place_count s.views (λ j u e. view_begun u k.done k.begun k.row (k.each_view j u e) k.few_rules) in omega arith

  placeless : (s : St) (k : Rule s) (j : ℕ) (u : View) → get_elem? s.views j ≡ some u → place_count u ≡ 0 → u.begun ≡ 0
  placeless s k j u e none = let o = k.each_view j u e in let le = view_begun u k.done k.begun k.row o k.few_rules in omega arith

  -- a view that has every place has begun every raise, and no other has one in hand
  sole_begun : (s : St) (k : Rule s) (id : ℕ) (v : View) → get_elem? s.views id ≡ some v → length v.places ≡ seats → k.begun ≡ v.begun
  sole_begun s k id v at every = k.announced ∙ alone raises_begun place_count s.views id v at (k.shared_out ∙ sym every) (placeless s k)

  sole_done : (s : St) (k : Rule s) (id : ℕ) (v : View) → get_elem? s.views id ≡ some v → length v.places ≡ seats → k.done + v.in_hand ≡ v.begun
  sole_done s k id v at every = let a = sole_begun s k id v at every in let h = k.in_hand in
      let e = alone raises_in_hand place_count s.views id v at (k.shared_out ∙ sym every) (λ j u is none. let z = placeless s k j u is none in let o = k.each_view j u is in let le = o.few_in_hand in omega arith) in omega arith

  -- a load of a word of the row: the view may see it
  pub looks : (slots id : ℕ) (me : Mine) (i : ℕ) (then : ℕ → Mine → Type 0) → i < t.words → length me.0.seen ≡ t.words
      → ((n : ℕ) → IsPast (t.direction i) (get_or me.0.seen i 0) n → (row : List ℕ) → IsRow t row → IsBetween t start row → get_or row i 0 ≡ n → (me.0.quiet ≡ true → AreMet t row t.rules) → then n (looked me.0 i n, me.1))
      → Allows Rule slots id me (i + 2) (λ n. n) then
  looks slots id me i then inside wide told s k _ at _ = let n : ℕ = get_or s.words (i + 2) 0 in let is : get_or k.row i 0 ≡ n = sym (read_row s.words k.done k.begun k.row i k.words_are) in
      let o = k.each_view id me.0 at in let h : i < length me.0.seen = omega arith in (
        looked me.0 i n,
        keeps,
        tt,
        loaded_as s k id (i + 2) me.0 (looked me.0 i n) at refl refl refl (sees t k.done k.begun k.row me.0 i n o h (subst (λ (z : ℕ). IsPast (t.direction i) z (get_or k.row i 0)) is (past_refl (t.direction i) (get_or k.row i 0)))),
        told n (subst (IsPast (t.direction i) (get_or me.0.seen i 0)) is (o.saw i h)) k.row k.is_row k.between is o.settled,
      )

  -- a load of the next word in a sweep
  pub loads_next : (slots id : ℕ) (me : Mine) (i : ℕ) (then : ℕ → Mine → Type 0) → i < t.words → length me.0.seen ≡ t.words → length me.0.loaded ≡ i
      → ((n : ℕ) → IsPast (t.direction i) (get_or me.0.seen i 0) n → then n (loaded me.0 i n, me.1))
      → Allows Rule slots id me (i + 2) (λ n. n) then
  loads_next slots id me i then inside wide next told s k _ at _ = let n : ℕ = get_or s.words (i + 2) 0 in let is : get_or k.row i 0 ≡ n = sym (read_row s.words k.done k.begun k.row i k.words_are) in
      let o = k.each_view id me.0 at in let h : i < length me.0.seen = omega arith in (
        loaded me.0 i n,
        keeps,
        tt,
        loaded_as s k id (i + 2) me.0 (loaded me.0 i n) at refl refl refl (loads t k.done k.begun k.row me.0 i n o h next is),
        told n (subst (IsPast (t.direction i) (get_or me.0.seen i 0)) is (o.saw i h)),
      )

  -- a load of the count of done raises, with which a sweep begins
  pub marks_done : (slots id : ℕ) (me : Mine) (then : ℕ → Mine → Type 0) → me.0.sweeps < 2 ^ 26 → 0 < length me.0.places
      → ((n : ℕ) → (length me.0.places ≡ seats → n + me.0.in_hand ≡ me.0.begun) → then n (marked me.0 n, me.1))
      → Allows Rule slots id me 0 (λ n. n) then
  marks_done slots id me then few some_place told s k _ at _ = let n : ℕ = get_or s.words 0 0 in let is : k.done ≡ n = sym (ap (λ (l : List ℕ). get_or l 0 0) k.words_are) in
      let o = k.each_view id me.0 at in (
        marked me.0 n,
        keeps,
        tt,
        loaded_as s k id 0 me.0 (marked me.0 n) at refl refl refl (subst (λ (z : ℕ). IsViewOf t k.done k.begun k.row (marked me.0 z)) is (marks t k.done k.begun k.row me.0 o few some_place)),
        told n (λ every. let e = sole_done s k id me.0 at every in omega arith),
      )

  -- a raise is announced
  pub begins_raise : (slots id : ℕ) (me : Mine) (then : ℕ → Mine → Type 0) → me.0.in_hand ≡ 0 → me.0.begun < t.rules * me.0.sweeps
      → ((n : ℕ) → me.0.mark ≤ n → then n (begun me.0 n, me.1))
      → Allows Rule slots id me 1 (λ n. (n + 1) % 2 ^ 64) then
  begins_raise slots id me then idle few told s k _ at _ = let n : ℕ = get_or s.words 1 0 in let is : n ≡ k.begun = ap (λ (l : List ℕ). get_or l 1 0) k.words_are in
      let o = k.each_view id me.0 at in let within = hands_within s k id me.0 at in let low = o.marked in let fits = begun_fits s k in
      let wraps : (n + 1) % 18446744073709551616 ≡ k.begun + 1 = omega arith in (
        begun me.0 n,
        keeps,
        tt,
        replaced s k id me.0 (begun me.0 n) k.done (k.begun + 1) k.row (set s.words 1 ((n + 1) % 2 ^ 64)) s.homes at
            (ap (λ (l : List ℕ). set l 1 ((n + 1) % 2 ^ 64)) k.words_are ∙ ap (λ (z : ℕ). k.done ∷ z ∷ k.row) wraps) k.is_row k.between (omega arith) (omega arith) refl
            (subst (λ (z : ℕ). IsViewOf t k.done (k.begun + 1) k.row (begun me.0 z)) (sym is) (begins t k.done k.begun k.row me.0 o (omega arith) idle few))
            (λ u ou. let lu = ou.marked in stays t k.done k.begun k.done (k.begun + 1) k.row k.row u ou (omega arith) (omega arith) (λ w. past_refl (t.direction w) (get_or k.row w 0)) (λ e. omega arith) (λ _. refl)),
        told n (omega arith),
      )

  -- the raise in hand is counted as done
  pub ends_raise : (slots id : ℕ) (me : Mine) (then : ℕ → Mine → Type 0) → me.0.in_hand ≡ 1
      → ((n : ℕ) → then n (ended me.0, me.1))
      → Allows Rule slots id me 0 (λ n. (n + 1) % 2 ^ 64) then
  ends_raise slots id me then busy told s k _ at _ = let n : ℕ = get_or s.words 0 0 in let is : n ≡ k.done = ap (λ (l : List ℕ). get_or l 0 0) k.words_are in
      let o = k.each_view id me.0 at in let within = hands_within s k id me.0 at in let fits = begun_fits s k in
      let wraps : (n + 1) % 18446744073709551616 ≡ k.done + 1 = omega arith in (
        ended me.0,
        keeps,
        tt,
        replaced s k id me.0 (ended me.0) (k.done + 1) k.begun k.row (set s.words 0 ((n + 1) % 2 ^ 64)) s.homes at
            (ap (λ (l : List ℕ). set l 0 ((n + 1) % 2 ^ 64)) k.words_are ∙ ap (λ (z : ℕ). z ∷ k.begun ∷ k.row) wraps) k.is_row k.between (omega arith) (omega arith) refl
            (ends t k.done k.begun k.row me.0 o busy)
            (λ u ou. stays_done t k.done k.begun (k.done + 1) k.row u ou (omega arith)),
        told n,
      )

  -- a word is raised by what a rule asks for on the loaded row
  pub raises : (slots id : ℕ) (me : Mine) (rule i x : ℕ) (f : ℕ → ℕ) (then : ℕ → Mine → Type 0) → IsMonotone t → i < t.words → x < 2 ^ 64 → length me.0.seen ≡ t.words → me.0.in_hand ≡ 1
      → IsRow t me.0.loaded → rule < t.rules → t.asks rule me.0.loaded ≡ Some (i, x) → ((n : ℕ) → further (t.direction i) n x ≡ f n)
      → ((n : ℕ) → IsPast (t.direction i) (get_or me.0.seen i 0) (f n) → IsPast (t.direction i) x (f n) → f n < 2 ^ 64 → then n (raised me.0 i (f n), me.1))
      → Allows Rule slots id me (i + 2) f then
  raises slots id me rule i x f then mono inside x_fits wide busy is_loaded in_range asked by told s k _ at _ =
      let n : ℕ = get_or s.words (i + 2) 0 in let is : get_or k.row i 0 ≡ n = sym (read_row s.words k.done k.begun k.row i k.words_are) in
      let dir = t.direction i in let y : ℕ = f n in let e : further dir (get_or k.row i 0) x ≡ y = ap (λ (z : ℕ). further dir z x) is ∙ by n in
      let o = k.each_view id me.0 at in let within = hands_within s k id me.0 at in let h : i < length me.0.seen = omega arith in
      let len = k.is_row.length_is in let hr : i < length k.row = omega arith in
      let past : IsRowPast t me.0.loaded k.row = λ w lt. o.has_loaded w (subst (λ (z : ℕ). w < z) (sym is_loaded.length_is) lt) in
      let up : IsPast dir (get_or k.row i 0) y = subst (IsPast dir (get_or k.row i 0)) e (past_left dir (get_or k.row i 0) x) in
      let more : Advances t k.row (set k.row i y) = advances-set t k.row i y hr up in
      let y_fits : y < 2 ^ 64 = subst (λ (z : ℕ). z < 2 ^ 64) e (further_fits dir (get_or k.row i 0) x (k.is_row.fits i inside) x_fits) in
      let new_row : IsRow t (set k.row i y) = row-set t k.row i y k.is_row inside y_fits in
      let new_between : IsBetween t start (set k.row i y) = subst (λ (z : ℕ). IsBetween t start (set k.row i z)) e (between-raise t mono rule i x me.0.loaded in_range is_loaded asked start k.row k.is_row past inside k.between) in
      let same = λ (met : AreMet t k.row t.rules). subst (λ (z : ℕ). set k.row i z ≡ k.row) e (raise_stays t mono rule i x me.0.loaded in_range is_loaded asked k.row k.is_row past met) in
      let kept_up = λ (u : View) (ou : IsViewOf t k.done k.begun k.row u). stays t k.done k.begun k.done k.begun k.row (set k.row i y) u ou (omega arith) (omega arith) more (λ z. apart_from u ou within z) same in
      let here : IsPast dir y (get_or (set k.row i y) i 0) = subst (IsPast dir y) (sym (get_or-set_same k.row i y 0 hr)) (past_refl dir y) in (
        raised me.0 i y,
        keeps,
        tt,
        replaced s k id me.0 (raised me.0 i y) k.done k.begun (set k.row i y) (set s.words (i + 2) y) s.homes at (write_row s.words k.done k.begun k.row i y k.words_are) new_row new_between
            (omega arith) (omega arith) refl (sees t k.done k.begun (set k.row i y) me.0 i y (kept_up me.0 o) h here) kept_up,
        told n (past_trans dir (get_or me.0.seen i 0) (get_or k.row i 0) y (o.saw i h) up) (subst (IsPast dir x) e (past_right dir (get_or k.row i 0) x)) y_fits,
      )
    where
      apart_from : (u : View) → IsViewOf t k.done k.begun k.row u → k.done + me.0.in_hand ≤ k.begun → u.mark ≡ k.begun → ⊥
      apart_from u ou within z = let low = ou.marked in omega arith

  -- the loaded row is the row, where the count of begun raises is still the mark
  row_is : (s : St) (k : Rule s) (v : View) → IsViewOf t k.done k.begun k.row v → IsRow t v.loaded → v.mark ≡ k.begun → v.loaded ≡ k.row
  row_is s k v o is_loaded e = ext_get_or 0 v.loaded k.row (is_loaded.length_is ∙ sym k.is_row.length_is) (o.fresh e)

  -- a load of the count of begun raises, with which a sweep ends
  pub concludes_sweep : (slots id : ℕ) (me : Mine) (then : ℕ → Mine → Type 0) → length me.0.seen ≡ t.words → (me.0.mark < me.0.latest) ⊎ (IsRow t me.0.loaded × AreMet t me.0.loaded t.rules)
      → ((n : ℕ) → me.0.latest ≤ n → (length me.0.places ≡ seats → n ≡ me.0.begun) → (n ≡ me.0.mark → IsLeastClosed t start me.0.loaded) → IsWithinClosed t start me.0.seen → then n (concluded me.0 n, me.1))
      → Allows Rule slots id me 1 (λ n. n) then
  concludes_sweep slots id me then wide ready told s k _ at _ = let n : ℕ = get_or s.words 1 0 in let is : k.begun ≡ n = sym (ap (λ (l : List ℕ). get_or l 1 0) k.words_are) in
      let o = k.each_view id me.0 at in (
        concluded me.0 n,
        keeps,
        tt,
        loaded_as s k id 1 me.0 (concluded me.0 n) at refl refl refl (subst (λ (z : ℕ). IsViewOf t k.done k.begun k.row (concluded me.0 z)) is (concludes t k.done k.begun k.row me.0 (me.0.quiet || eqb k.begun me.0.mark) o (met o))),
        told n (let h = o.latest_begun in omega arith) (λ every. sym is ∙ sole_begun s k id me.0 at every) (λ e. least o (is ∙ e))
            (λ c closed from w h. past_trans (t.direction w) (get_or me.0.seen w 0) (get_or k.row w 0) (get_or c w 0) (o.saw w (omega arith)) (k.between.before_closed c closed from w h)),
      )
    where
      least : IsViewOf t k.done k.begun k.row me.0 → k.begun ≡ me.0.mark → IsLeastClosed t start me.0.loaded
      least o e = ⊎_elim (λ (h : me.0.mark < me.0.latest). absurd (let l = o.latest_begun in omega arith))
          (λ (h : IsRow t me.0.loaded × AreMet t me.0.loaded t.rules). record {
            closed = record { is_row = h.0; met = h.1 };
            between = subst (IsBetween t start) (sym (row_is s k me.0 o h.0 (sym e))) k.between;
          }) ready

      met : IsViewOf t k.done k.begun k.row me.0 → (me.0.quiet || eqb k.begun me.0.mark) ≡ true → AreMet t k.row t.rules
      met o q = ⊎_elim o.settled (λ (e : eqb k.begun me.0.mark ≡ true). ⊎_elim (λ (h : me.0.mark < me.0.latest). absurd (let l = o.latest_begun in let same = eqb-true k.begun me.0.mark e in omega arith))
          (λ (h : IsRow t me.0.loaded × AreMet t me.0.loaded t.rules). subst (λ (r : List ℕ). AreMet t r t.rules) (row_is s k me.0 o h.0 (sym (eqb-true k.begun me.0.mark e))) h.1) ready) (or_cases me.0.quiet (eqb k.begun me.0.mark) q)
