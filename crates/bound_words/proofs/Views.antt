-- How one view's part of the rule lasts when the words move, and when the view itself learns something.
use Rattle.std.proofs.Common.{◌≡◌, ◌≢◌, ℕ, ◌+◌, ◌*◌, ◌^◌, ◌<◌, ◌≤◌, Bool, true, List, [], ◌∷◌, ◌++◌, length, get_or, set, sym, ap, ◌∙◌, subst, arith, length-set, mul-le-mul_left}
use Rattle.bound_words.specs.declared.view.View.{View}
use Rattle.bound_words.specs.Rows.{Terms, IsPast, AreMet}
use Rattle.bound_words.specs.Protocol.{Reaches, IsViewOf, fresh_view}
use Rattle.bound_words.proofs.Directions.{past_refl}
use Rattle.bound_words.proofs.Lists.{set_cases, push_cases}
use Rattle.bound_words.proofs.Rows.{Advances, reaches_more}

module _ (t : Terms) where
  -- the counts have grown, and no mark is the count of begun raises
  pub stays : (d b d' b' : ℕ) (row row' : List ℕ) (v : View) → IsViewOf t d b row v → d ≤ d' → b ≤ b' → Advances t row row' → v.mark ≢ b' → (AreMet t row t.rules → row' ≡ row) → IsViewOf t d' b' row' v
  stays d b d' b' row row' v o more_done more_begun more apart same = record {
    saw = reaches_more t v.seen row row' o.saw more;
    has_loaded = reaches_more t v.loaded row row' o.has_loaded more;
    marked = let h = o.marked in omega arith;
    latest_begun = let h = o.latest_begun in omega arith;
    fresh = λ e. absurd (apart e);
    settled = λ q. let met = o.settled q in subst (λ (r : List ℕ). AreMet t r t.rules) (sym (same met)) met;
    one_in_hand = o.one_in_hand;
    few_in_hand = o.few_in_hand;
    few_begun = o.few_begun;
    few_sweeps = o.few_sweeps;
  }

  -- one more raise is done
  pub stays_done : (d b d' : ℕ) (row : List ℕ) (v : View) → IsViewOf t d b row v → d ≤ d' → IsViewOf t d' b row v
  stays_done d b d' row v o more = record {
    saw = o.saw;
    has_loaded = o.has_loaded;
    marked = let h = o.marked in omega arith;
    latest_begun = o.latest_begun;
    fresh = o.fresh;
    settled = o.settled;
    one_in_hand = o.one_in_hand;
    few_in_hand = o.few_in_hand;
    few_begun = o.few_begun;
    few_sweeps = o.few_sweeps;
  }

  saw-set : (seen row : List ℕ) (i n : ℕ) → Reaches t seen row → i < length seen → IsPast (t.direction i) n (get_or row i 0) → Reaches t (set seen i n) row
  saw-set seen row i n saw h here w lt = set_cases (λ w x. w < length seen → IsPast (t.direction w) x (get_or row w 0)) seen i n h (λ _. here) (λ w ne. saw w) w
      (subst (λ (z : ℕ). w < z) (length-set seen i n) lt)

  pub sees : (d b : ℕ) (row : List ℕ) (v : View) (i n : ℕ) → IsViewOf t d b row v → i < length v.seen → IsPast (t.direction i) n (get_or row i 0) → IsViewOf t d b row (record v { seen = set v.seen i n })
  sees d b row v i n o h here = record {
    saw = saw-set v.seen row i n o.saw h here;
    has_loaded = o.has_loaded;
    marked = o.marked;
    latest_begun = o.latest_begun;
    fresh = o.fresh;
    settled = o.settled;
    one_in_hand = o.one_in_hand;
    few_in_hand = o.few_in_hand;
    few_begun = o.few_begun;
    few_sweeps = o.few_sweeps;
  }

  pub loads : (d b : ℕ) (row : List ℕ) (v : View) (i n : ℕ) → IsViewOf t d b row v → i < length v.seen → length v.loaded ≡ i → get_or row i 0 ≡ n
      → IsViewOf t d b row (record v { seen = set v.seen i n; loaded = v.loaded ++ n ∷ [] })
  loads d b row v i n o h next is = let here : IsPast (t.direction i) n (get_or row i 0) = subst (λ (z : ℕ). IsPast (t.direction i) z (get_or row i 0)) is (past_refl (t.direction i) (get_or row i 0)) in record {
    saw = saw-set v.seen row i n o.saw h here;
    has_loaded = push_cases (λ w x. IsPast (t.direction w) x (get_or row w 0)) v.loaded n (subst (λ (z : ℕ). IsPast (t.direction z) n (get_or row z 0)) (sym next) here) o.has_loaded;
    marked = o.marked;
    latest_begun = o.latest_begun;
    fresh = λ e. push_cases (λ w x. x ≡ get_or row w 0) v.loaded n (sym is ∙ ap (λ (z : ℕ). get_or row z 0) (sym next)) (o.fresh e);
    settled = o.settled;
    one_in_hand = o.one_in_hand;
    few_in_hand = o.few_in_hand;
    few_begun = o.few_begun;
    few_sweeps = o.few_sweeps;
  }

  -- a sweep begins: the mark is the count of done raises, and nothing is loaded
  pub marks : (d b : ℕ) (row : List ℕ) (v : View) → IsViewOf t d b row v → v.sweeps < 2 ^ 26 → 0 < length v.places → IsViewOf t d b row (record v { loaded = []; mark = d; sweeps = v.sweeps + 1 })
  marks d b row v o few some_place = record {
    saw = o.saw;
    has_loaded = λ w h. absurd (omega arith);
    marked = omega arith;
    latest_begun = o.latest_begun;
    fresh = λ _ w h. absurd (omega arith);
    settled = o.settled;
    one_in_hand = o.one_in_hand;
    few_in_hand = o.few_in_hand;
    few_begun = grows t.rules v.sweeps v.begun o.few_begun;
    few_sweeps = omega arith;
  }
    where
      grows : (r s b : ℕ) → b ≤ r * s → b ≤ r * (s + 1)
      grows r s b h = let e : r * s ≤ r * (s + 1) = mul-le-mul_left r (omega arith) in omega arith

  -- a raise is begun
  pub begins : (d b : ℕ) (row : List ℕ) (v : View) → IsViewOf t d b row v → v.mark ≤ b → v.in_hand ≡ 0 → v.begun < t.rules * v.sweeps
      → IsViewOf t d (b + 1) row (record v { latest = b + 1; begun = v.begun + 1; in_hand = 1 })
  begins d b row v o low idle few = record {
    saw = o.saw;
    has_loaded = o.has_loaded;
    marked = o.marked;
    latest_begun = omega arith;
    fresh = λ e. absurd (omega arith);
    settled = o.settled;
    one_in_hand = omega arith;
    few_in_hand = let h = o.few_in_hand in omega arith;
    few_begun = omega arith;
    few_sweeps = o.few_sweeps;
  }

  -- the raise in hand is done
  pub ends : (d b : ℕ) (row : List ℕ) (v : View) → IsViewOf t d b row v → v.in_hand ≡ 1 → IsViewOf t (d + 1) b row (record v { in_hand = 0 })
  ends d b row v o busy = record {
    saw = o.saw;
    has_loaded = o.has_loaded;
    marked = let h = o.marked in omega arith;
    latest_begun = o.latest_begun;
    fresh = o.fresh;
    settled = o.settled;
    one_in_hand = omega arith;
    few_in_hand = omega arith;
    few_begun = o.few_begun;
    few_sweeps = o.few_sweeps;
  }

  -- before anything was counted
  pub new_view : (row seen places : List ℕ) → Reaches t seen row → IsViewOf t 0 0 row (fresh_view seen places)
  new_view row seen places saw = record {
    saw = saw;
    has_loaded = λ w h. absurd (omega arith);
    marked = omega arith;
    latest_begun = omega arith;
    fresh = λ _ w h. absurd (omega arith);
    settled = λ e. absurd (cc);
    one_in_hand = omega arith;
    few_in_hand = omega arith;
    few_begun = omega arith;
    few_sweeps = omega arith;
  }

  -- the count of begun raises is loaded at the end of a sweep
  pub concludes : (d b : ℕ) (row : List ℕ) (v : View) (q : Bool) → IsViewOf t d b row v → (q ≡ true → AreMet t row t.rules) → IsViewOf t d b row (record v { latest = b; quiet = q })
  concludes d b row v q o met = record {
    saw = o.saw;
    has_loaded = o.has_loaded;
    marked = o.marked;
    latest_begun = omega arith;
    fresh = o.fresh;
    settled = met;
    one_in_hand = o.one_in_hand;
    few_in_hand = o.few_in_hand;
    few_begun = o.few_begun;
    few_sweeps = o.few_sweeps;
  }
