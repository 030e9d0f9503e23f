-- What each step is told, and that the rule allows it.
use Rattle.std.proofs.Common.{◌≡◌, ◌⊎◌, ℕ, ◌+◌, ◌*◌, ◌%◌, ◌^◌, ◌<◌, ◌≤◌, true, List, length, get_or, Some, sym, refl, ◌∙◌, subst, arith}
use Rattle.atomic_table.specs.Table.{Me, Step, step, Allows}
use mathlib.Core.Option.{none}
use Rattle.bound_words.specs.declared.view.View.{View}
use Rattle.bound_words.specs.Rows.{Terms, IsPast, further, IsRow, IsMonotone, AreMet, IsBetween, IsBetweenAt, IsWithinClosed, IsLeastClosed, IsSettledAt}
use Rattle.bound_words.specs.Protocol.{Kept, looked, loaded, marked, begun, raised, ended, concluded}
use Rattle.bound_words.proofs.Directions.{past_same}
use Rattle.bound_words.proofs.Kept.{looks, loads_next, marks_done, begins_raise, ends_raise, raises, concludes_sweep}

abbrev pub Mine : Type 0
Mine = Me (Unit {0}) View

abbrev pub At : Type 0
At = Step (Unit {0})

module _ (t : Terms) (start : List ℕ) (seats : ℕ) where
  abbrev pub Looked : At → Mine → ℕ → Mine → Type 0
  Looked st m n m' = (w : ℕ) → st.word ≡ w + 2 → (m' ≡ (looked m.0 w n, m.1)) × IsPast (t.direction w) (get_or m.0.seen w 0) n × IsBetweenAt t start w n × (m.0.quiet ≡ true → IsSettledAt t start w n)

  abbrev pub Loaded : At → Mine → ℕ → Mine → Type 0
  Loaded st m n m' = (w : ℕ) → st.word ≡ w + 2 → (m' ≡ (loaded m.0 w n, m.1)) × IsPast (t.direction w) (get_or m.0.seen w 0) n

  abbrev pub Marked : At → Mine → ℕ → Mine → Type 0
  Marked st m n m' = (m' ≡ (marked m.0 n, m.1)) × (length m.0.places ≡ seats → n + m.0.in_hand ≡ m.0.begun)

  abbrev pub Begun : At → Mine → ℕ → Mine → Type 0
  Begun st m n m' = (m' ≡ (begun m.0 n, m.1)) × (m.0.mark ≤ n)

  abbrev pub Raised : At → Mine → ℕ → Mine → Type 0
  Raised st m n m' = (w : ℕ) → st.word ≡ w + 2 → (y : ℕ) × (m' ≡ (raised m.0 w y, m.1)) × IsPast (t.direction w) (get_or m.0.seen w 0) y × IsPast (t.direction w) st.first y × (y < 2 ^ 64)

  abbrev pub Ended : At → Mine → ℕ → Mine → Type 0
  Ended st m n m' = m' ≡ (ended m.0, m.1)

  abbrev pub Concluded : At → Mine → ℕ → Mine → Type 0
  Concluded st m n m' = (m' ≡ (concluded m.0 n, m.1)) × (m.0.latest ≤ n) × (length m.0.places ≡ seats → n ≡ m.0.begun) × (n ≡ m.0.mark → IsLeastClosed t start m.0.loaded) × IsWithinClosed t start m.0.seen

  -- where nothing more is asked for, the row between the start and each closed row is the least closed one
  settled_at : (row : List ℕ) (i n : ℕ) → i < t.words → IsRow t row → IsBetween t start row → get_or row i 0 ≡ n → AreMet t row t.rules → IsSettledAt t start i n
  settled_at row i n h is_row b is met c least = sym is ∙ past_same (t.direction i) (get_or row i 0) (get_or c i 0) (b.before_closed c least.closed least.between.after_start i h)
      (least.between.before_closed row record { is_row = is_row; met = met } b.after_start i h)

  pub allows_look : (slots id : ℕ) (me : Mine) (i : ℕ) → i < t.words → length me.0.seen ≡ t.words → Allows (Kept t start seats) slots id me (i + 2) (λ n. n) (Looked (step slots (i + 2) 0 0 none) me)
  allows_look slots id me i h wide = looks t start seats slots id me i (Looked (step slots (i + 2) 0 0 none) me) h wide (λ n past row is_row b is met w e. let same : i ≡ w = omega arith in
      subst (λ (w : ℕ). (◌≡◌ {A = Mine} (looked me.0 i n, me.1) (looked me.0 w n, me.1)) × IsPast (t.direction w) (get_or me.0.seen w 0) n × IsBetweenAt t start w n × (me.0.quiet ≡ true → IsSettledAt t start w n)) same (
        refl,
        past,
        record { after_start = subst (IsPast (t.direction i) (get_or start i 0)) is (b.after_start i h); before_closed = λ c closed from. subst (λ (z : ℕ). IsPast (t.direction i) z (get_or c i 0)) is (b.before_closed c closed from i h) },
        (λ q. settled_at row i n h is_row b is (met q)),
      ))

  pub allows_load : (slots id : ℕ) (me : Mine) (i : ℕ) → i < t.words → length me.0.seen ≡ t.words → length me.0.loaded ≡ i → Allows (Kept t start seats) slots id me (i + 2) (λ n. n) (Loaded (step slots (i + 2) 0 0 none) me)
  allows_load slots id me i h wide next = loads_next t start seats slots id me i (Loaded (step slots (i + 2) 0 0 none) me) h wide next (λ n past w e. let same : i ≡ w = omega arith in
      subst (λ (w : ℕ). (◌≡◌ {A = Mine} (loaded me.0 i n, me.1) (loaded me.0 w n, me.1)) × IsPast (t.direction w) (get_or me.0.seen w 0) n) same (refl, past))

  pub allows_mark : (slots id : ℕ) (me : Mine) → me.0.sweeps < 2 ^ 26 → 0 < length me.0.places → Allows (Kept t start seats) slots id me 0 (λ n. n) (Marked (step slots 0 0 0 none) me)
  allows_mark slots id me few some_place = marks_done t start seats slots id me (Marked (step slots 0 0 0 none) me) few some_place (λ n sole. (refl, sole))

  pub allows_begin : (slots id : ℕ) (me : Mine) → me.0.in_hand ≡ 0 → me.0.begun < t.rules * me.0.sweeps → Allows (Kept t start seats) slots id me 1 (λ n. (n + 1) % 2 ^ 64) (Begun (step slots 1 1 0 none) me)
  allows_begin slots id me idle few = begins_raise t start seats slots id me (Begun (step slots 1 1 0 none) me) idle few (λ n low. (refl, low))

  pub allows_end : (slots id : ℕ) (me : Mine) → me.0.in_hand ≡ 1 → Allows (Kept t start seats) slots id me 0 (λ n. (n + 1) % 2 ^ 64) (Ended (step slots 0 1 0 none) me)
  allows_end slots id me busy = ends_raise t start seats slots id me (Ended (step slots 0 1 0 none) me) busy (λ n. refl)

  pub allows_conclude : (slots id : ℕ) (me : Mine) → length me.0.seen ≡ t.words → (me.0.mark < me.0.latest) ⊎ (IsRow t me.0.loaded × AreMet t me.0.loaded t.rules) → Allows (Kept t start seats) slots id me 1 (λ n. n) (Concluded (step slots 1 0 0 none) me)
  allows_conclude slots id me wide ready = concludes_sweep t start seats slots id me (Concluded (step slots 1 0 0 none) me) wide ready (λ n late sole least within. (refl, late, sole, least, within))

  pub allows_raise : (slots id : ℕ) (me : Mine) (i x : ℕ) (f : ℕ → ℕ) → IsMonotone t → x < 2 ^ 64 → length me.0.seen ≡ t.words → me.0.in_hand ≡ 1 → IsRow t me.0.loaded
      → (rule : ℕ) × (rule < t.rules) × (t.asks rule me.0.loaded ≡ Some (i, x)) → ((n : ℕ) → further (t.direction i) n x ≡ f n)
      → Allows (Kept t start seats) slots id me (i + 2) f (Raised (step slots (i + 2) x 0 none) me)
  allows_raise slots id me i x f mono fits wide busy is_loaded asked by = let h = (mono.asked_word asked.0 me.0.loaded i x asked.1 is_loaded asked.2).0 in
      raises t start seats slots id me asked.0 i x f (Raised (step slots (i + 2) x 0 none) me) mono h fits wide busy is_loaded asked.1 asked.2 by (λ n up to fit w e. let same : i ≡ w = omega arith in
      subst (λ (w : ℕ). (y : ℕ) × (◌≡◌ {A = Mine} (raised me.0 i (f n), me.1) (raised me.0 w y, me.1)) × IsPast (t.direction w) (get_or me.0.seen w 0) y × IsPast (t.direction w) x y × (y < 2 ^ 64)) same (f n, refl, up, to, fit))
