-- The system of a task: its law, its closed rows, and its least closed row.
use Rattle.std.proofs.Common.{◌≡◌, ℕ, zero, suc, ◌+◌, ◌-◌, ◌^◌, ◌<◌, ◌≤◌, ◌/◌, ◌%◌, Bool, true, false, cond, List, Option, Some, None, length, get_or, slice_get, option_and_then, ltb, leb-true, le-ltb, eqb-true, eq-eqb, refl, sym, ap, ap₂, ◌∙◌, subst, inl, inr, arith}
use Rattle.std.specs.Int.{bit_at}
use Rattle.std.proofs.lemmas.Bool.{cases_lt, le-leb, lt-ltb, or_cases, or_left, or_right}
use Rattle.std.proofs.lemmas.Option.{get_or_from_slice_get, slice_get-get_or, slice_get_within}
use Rattle.std.proofs.lemmas.Nat.Bits.{bit_at-lt, bit_at-pow_other, bit_at_lowest}
use Rattle.num_ends.specs.declared.ends.End.{End}
use Rattle.num_ends.proofs.Members.{within_trans}
use Rattle.ground_task.specs.States.{StateValue}
use Rattle.ground_task.specs.Tasks.{TaskValue}
use Rattle.box_model.specs.Boxes.{fact_in, fluent_in, is_may_within, Contains, IsBoxOf, LiesWithin}
use Rattle.box_model.specs.Demands.{end_on, is_closed}
use Rattle.box_model.specs.Least as least
use Rattle.box_model.specs.declared.caps.Side.{Side}
use Rattle.box_model.specs.declared.caps.Side.TheVariants.{Upper, Lower}
use Rattle.box_model.specs.declared.state_box.May.{May}
use Rattle.box_model.specs.declared.state_box.May.TheVariants.{True, False, Any}
use Rattle.box_model.specs.declared.state_box.StateBox.{StateBox}
use Rattle.box_model.proofs.CapLemmas.{option_cases, some_same}
use Rattle.bound_words.specs.Rows.{AreMet, IsBetween, IsClosed, IsLeastClosed, IsMonotone, IsPast, IsRow, IsRowPast, Terms}
use Rattle.bound_words.specs.declared.system.Direction.{Direction}
use Rattle.bound_words.specs.declared.system.Direction.TheVariants.{Max, Min, Or}
use Rattle.bound_words.proofs.Directions.{past_refl, past_trans}
use Rattle.box_rows.specs.Asking.{asked_by, is_asking, is_reached}
use Rattle.box_rows.specs.BoxRows.{box_at, says, start_row}
use Rattle.box_rows.specs.Instances.{IsInstance, IsReadable}
use Rattle.box_rows.specs.Ranks.{rank_of, steps_by, word_after}
use Rattle.box_rows.specs.Rules.{IsRule, end_word, ends_of, mask}
use Rattle.box_rows.specs.Systems.{IsLawful, direction_of, system_of}
use Rattle.box_rows.specs.declared.rule.Demand.{Demand}
use Rattle.box_rows.specs.declared.rule.Demand.TheVariants.{MayBe, Reaches}
use Rattle.box_rows.specs.declared.rule.Rule.{Rule}
use Rattle.box_rows.specs.Tables.{SupportersValue}
use Rattle.box_rows.proofs.Chains.{rank_few, within_few}
use Rattle.box_rows.proofs.Closing.{AreSatisfied, all_known, closed_satisfies, effect_known, fact_known, satisfied_closes}
use Rattle.box_rows.proofs.Inner.{end_word_of, fact_word, inner_own, inner_row, inner_satisfied, inner_steps, inner_within, may_word, row_length}
use Rattle.box_rows.proofs.RowBoxes.{IsFurther, asked_wider, box_further, row_box, row_contains}

-- ---- bits

low_bit : (w : ℕ) → 1 ≤ bit_at w 0 → w % 2 ≡ 1
low_bit w h = omega (arith, subst (λ (n : ℕ). 1 ≤ n) (bit_at_lowest w) h, subst (λ (n : ℕ). n < 2) (bit_at_lowest w) (bit_at-lt w 0))

high_bit : (w : ℕ) → 1 ≤ bit_at w 1 → w / 2 % 2 ≡ 1
high_bit w h = omega (arith, h, bit_at-lt w 1)

pub past_says : (truth : Bool) (w : ℕ) → IsPast Or (mask truth) w → says truth w ≡ true
past_says true w h = eq-eqb (w % 2) 1 (low_bit w (h 0))
past_says false w h = eq-eqb (w / 2 % 2) 1 (high_bit w (h 1))

not_zero : (i : ℕ) → suc i ≡ 0 → ⊥
not_zero i e = cc

not_one : (i : ℕ) → suc (suc i) ≡ 1 → ⊥
not_one i e = cc

pub says_past : (truth : Bool) (w : ℕ) → says truth w ≡ true → IsPast Or (mask truth) w
says_past true w h = at
  where
    at : (i : ℕ) → bit_at 1 i ≤ bit_at w i
    at zero = subst (λ (n : ℕ). 1 ≤ n) (sym (bit_at_lowest w ∙ eqb-true (w % 2) 1 h)) (omega arith)
    at (suc i) = subst (λ (n : ℕ). n ≤ bit_at w (suc i)) (sym (bit_at-pow_other 0 (suc i) (not_zero i))) (omega arith)
says_past false w h = at
  where
    at : (i : ℕ) → bit_at 2 i ≤ bit_at w i
    at zero = omega arith
    at (suc zero) = subst (λ (n : ℕ). 1 ≤ n) (sym (eqb-true (w / 2 % 2) 1 h)) (omega arith)
    at (suc (suc i)) = subst (λ (n : ℕ). n ≤ bit_at w (suc (suc i))) (sym (bit_at-pow_other 1 (suc (suc i)) (not_one i))) (omega arith)

few_mask : (truth : Bool) → mask truth < 2 ^ 64
few_mask true = omega arith
few_mask false = omega arith

few_may : (m : May) → may_word m < 2 ^ 64
few_may True = omega arith
few_may False = omega arith
few_may Any = omega arith

-- ---- directions

abbrev pub side_direction : Side → Direction
side_direction Upper = Max
side_direction Lower = Min

pub steps_more : (side : Side) (ends : List End) (v w : ℕ) → IsPast (side_direction side) v w → steps_by side ends v ≤ steps_by side ends w
steps_more Upper ends v w h = h
steps_more Lower ends v w h = omega (arith, h)

pub word_more : (side : Side) (ends : List End) (r q : ℕ) → r ≤ q → IsPast (side_direction side) (word_after side ends r) (word_after side ends q)
word_more Upper ends r q h = h
word_more Lower ends r q h = omega (arith, h)

pub few_word : (side : Side) (ends : List End) (r : ℕ) → r ≤ suc (length ends) → length ends < 2 ^ 32 → word_after side ends r < 2 ^ 64
few_word Upper ends r h few = omega (arith, h, few)
few_word Lower ends r h few = omega (arith, few)

asked_past : (side : Side) (k asked had : ℕ) → IsPast (side_direction side) asked had → is_reached (Reaches side k) asked had ≡ true
asked_past Upper k asked had h = le-leb asked had h
asked_past Lower k asked had h = le-leb had asked h

past_asked : (side : Side) (k asked had : ℕ) → is_reached (Reaches side k) asked had ≡ true → IsPast (side_direction side) asked had
past_asked Upper k asked had h = leb-true asked had h
past_asked Lower k asked had h = leb-true had asked h

module _ (t : TaskValue) where
  abbrev words : ℕ
  words = length t.raw.facts + (length t.raw.fluents + length t.raw.fluents)

  pub fact_direction : (f : ℕ) → f < length t.raw.facts → direction_of t f ≡ Or
  fact_direction f h = ap (λ (v : Bool). cond v Or (cond (ltb f (length t.raw.facts + length t.raw.fluents)) Max Min)) (lt-ltb f (length t.raw.facts) h)

  past_facts : (w : ℕ) → length t.raw.facts ≤ w → direction_of t w ≡ cond (ltb w (length t.raw.facts + length t.raw.fluents)) Max Min
  past_facts w h = ap (λ (v : Bool). cond v Or (cond (ltb w (length t.raw.facts + length t.raw.fluents)) Max Min)) (le-ltb w (length t.raw.facts) h)

  pub end_direction : (side : Side) (x : ℕ) → x < length t.raw.fluents → direction_of t (end_word t side x) ≡ side_direction side
  end_direction Upper x h =
      past_facts (length t.raw.facts + x) (omega arith)
      ∙ ap (λ (v : Bool). cond v Max Min) (lt-ltb (length t.raw.facts + x) (length t.raw.facts + length t.raw.fluents) (omega (arith, h)))
  end_direction Lower x h =
      past_facts (length t.raw.facts + (length t.raw.fluents + x)) (omega arith)
      ∙ ap (λ (v : Bool). cond v Max Min) (le-ltb (length t.raw.facts + (length t.raw.fluents + x)) (length t.raw.facts + length t.raw.fluents) (omega arith))

  pub end_within : (side : Side) (x : ℕ) → x < length t.raw.fluents → end_word t side x < words
  end_within Upper x h = omega (arith, h)
  end_within Lower x h = omega (arith, h)

  -- a word is that of a fact or of an end
  pub each_word : (P : ℕ → Type 0) → ((f : ℕ) → f < length t.raw.facts → P f) → ((side : Side) (x : ℕ) → x < length t.raw.fluents → P (end_word t side x)) → (w : ℕ) → w < words → P w
  each_word P facts ends w h =
      elim (cases_lt w (length t.raw.facts)) [
        | inl fact ↦ facts w fact
        | inr past ↦ elim (cases_lt w (length t.raw.facts + length t.raw.fluents)) [
          | inl upper ↦
              let is : length t.raw.facts + (w - length t.raw.facts) ≡ w = omega (arith, past) in
              subst P is (ends Upper (w - length t.raw.facts) (omega (arith, past, upper)))
          | inr lower ↦
              let x = w - (length t.raw.facts + length t.raw.fluents) in
              let is : length t.raw.facts + (length t.raw.fluents + x) ≡ w = omega (arith, lower) in
              subst P is (ends Lower x (omega (arith, lower, h)))
        ]
      ]

module _ (t : TaskValue) (sup : SupportersValue) (s : StateValue) (ok : IsInstance t sup s) where
  abbrev system : Terms
  system = system_of t sup s

  -- ---- a rule has what it asks for exactly where the row is past it

  pub reached_by : (r : Rule) (d : Demand) → IsRule t sup r d → fact_known t d → (had : ℕ) → IsPast (direction_of t r.word) r.value had → is_reached d r.value had ≡ true
  reached_by r (MayBe f truth) rule known had h =
      past_says truth had
      (subst (λ (d : Direction). IsPast d (mask truth) had) (fact_direction t f known)
      (subst (λ (w : ℕ). IsPast (direction_of t w) (mask truth) had) rule.0 (subst (λ (v : ℕ). IsPast (direction_of t r.word) v had) rule.1 h)))
  reached_by r (Reaches side k) rule known had h =
      let inside = effect_known t ok.valid r.supporter.action k rule.performed rule.fluent rule.change rule.changes in
      asked_past side k r.value had
      (subst (λ (d : Direction). IsPast d r.value had) (end_direction t side rule.fluent inside) (subst (λ (w : ℕ). IsPast (direction_of t w) r.value had) rule.raises h))

  pub past_by : (r : Rule) (d : Demand) → IsRule t sup r d → fact_known t d → (had : ℕ) → is_reached d r.value had ≡ true → IsPast (direction_of t r.word) r.value had
  past_by r (MayBe f truth) rule known had h =
      subst (λ (v : ℕ). IsPast (direction_of t r.word) v had) (sym rule.1)
      (subst (λ (w : ℕ). IsPast (direction_of t w) (mask truth) had) (sym rule.0)
      (subst (λ (d : Direction). IsPast d (mask truth) had) (sym (fact_direction t f known)) (says_past truth had h)))
  past_by r (Reaches side k) rule known had h =
      let inside = effect_known t ok.valid r.supporter.action k rule.performed rule.fluent rule.change rule.changes in
      subst (λ (w : ℕ). IsPast (direction_of t w) r.value had) (sym rule.raises)
      (subst (λ (d : Direction). IsPast d r.value had) (sym (end_direction t side rule.fluent inside)) (past_asked side k r.value had h))

  pub word_known : (r : Rule) (d : Demand) → IsRule t sup r d → fact_known t d → (r.word < words t) × (r.value < 2 ^ 64)
  word_known r (MayBe f truth) rule known =
      (subst (λ (w : ℕ). w < words t) (sym rule.0) (omega (arith, known)), subst (λ (v : ℕ). v < 2 ^ 64) (sym rule.1) (few_mask truth))
  word_known r (Reaches side k) rule known =
      let inside = effect_known t ok.valid r.supporter.action k rule.performed rule.fluent rule.change rule.changes in
      let ends = ends_of sup side rule.fluent in (
        subst (λ (w : ℕ). w < words t) (sym rule.raises) (end_within t side rule.fluent inside),
        subst (λ (v : ℕ). v < 2 ^ 64) (sym rule.raised)
            (few_word side ends (rank_of side ends r.end) (rank_few side ends (ok.supporters.candidates side rule.fluent inside).outward r.end) (ok.supporters.few_ends side rule.fluent inside)),
      )

  -- ---- what is asked

  cond_some : (v : Bool) (p q : ℕ × ℕ) → cond v (Some p) None ≡ Some q → (v ≡ true) × (p ≡ q)
  cond_some true p q e = (refl, some_same p q e)
  cond_some false p q e = absurd cc

  pub record IsAsking (row : List ℕ) (i w x : ℕ) : Type 0 where
    pub rule : Rule
    pub at : slice_get sup.rules i ≡ Some rule
    pub asking : is_asking t s sup row rule ≡ true
    pub word : rule.word ≡ w
    pub value : rule.value ≡ x

  pub asks_by : (row : List ℕ) (i w x : ℕ) → system.asks i row ≡ Some (w, x) → IsAsking row i w x
  asks_by row i w x e =
      elim (option_cases (slice_get sup.rules i)) [
        | inl none ↦ absurd (no_rule (sym (ap (option_and_then (asked_by t s sup row)) none) ∙ e))
        | inr some ↦
            let r = some.0 in
            let asked = cond_some (is_asking t s sup row r) (r.word, r.value) (w, x) (sym (ap (option_and_then (asked_by t s sup row)) some.1) ∙ e) in
            record { rule = r; at = some.1; asking = asked.0; word = ap (λ (p : ℕ × ℕ). p.0) asked.1; value = ap (λ (p : ℕ × ℕ). p.1) asked.1 }
      ]
    where
      no_rule : ◌≡◌ {A = Option (ℕ × ℕ)} None (Some (w, x)) → ⊥
      no_rule h = cc

  pub by_asking : (row : List ℕ) (i : ℕ) (r : Rule) → slice_get sup.rules i ≡ Some r → is_asking t s sup row r ≡ true → system.asks i row ≡ Some (r.word, r.value)
  by_asking row i r at h = ap (option_and_then (asked_by t s sup row)) at ∙ ap (λ (v : Bool). cond v (Some (r.word, r.value)) None) h

  rule_at : (i : ℕ) (r : Rule) → slice_get sup.rules i ≡ Some r → IsRule t sup r r.supporter.demand × fact_known t r.supporter.demand
  rule_at i r at =
      let inside = slice_get_within sup.rules i r at in
      let here = get_or_from_slice_get sup.rules i r r at in
      subst (λ (r : Rule). IsRule t sup r r.supporter.demand × fact_known t r.supporter.demand) here (ok.supporters.rules i r inside, all_known t sup s ok i r inside)

  pub met_satisfied : (row : List ℕ) → AreMet system row system.rules → AreSatisfied t sup s ok row
  met_satisfied row met = λ i d h asked.
      let r = get_or sup.rules i d in
      reached_by r r.supporter.demand (ok.supporters.rules i d h) (all_known t sup s ok i d h) (get_or row r.word 0)
      (met i r.word r.value h (by_asking row i r (slice_get-get_or sup.rules i d h) asked))

  pub satisfied_met : (row : List ℕ) → AreSatisfied t sup s ok row → AreMet system row system.rules
  satisfied_met row all = λ i w x h e.
      let a = asks_by row i w x e in
      let r = a.rule in
      let known = rule_at i r a.at in
      let here = get_or_from_slice_get sup.rules i r r a.at in
      let satisfied = subst (λ (r : Rule). is_asking t s sup row r ≡ true → is_reached r.supporter.demand r.value (get_or row r.word 0) ≡ true) here (all i r h) in
      subst (λ (v : ℕ). IsPast (direction_of t w) v (get_or row w 0)) a.value
      (subst (λ (w : ℕ). IsPast (direction_of t w) r.value (get_or row w 0)) a.word (past_by r r.supporter.demand known.0 known.1 (get_or row r.word 0) (satisfied a.asking)))

  -- ---- rows

  pub row_further : (a b : List ℕ) → IsRowPast system a b → IsFurther t sup s ok a b
  row_further a b past =
      record {
        bits = λ f h. subst (λ (d : Direction). IsPast d (get_or a f 0) (get_or b f 0)) (fact_direction t f h) (past f (omega (arith, h)));
        steps = λ side x h.
            steps_more side (ends_of sup side x) (get_or a (end_word t side x) 0) (get_or b (end_word t side x) 0)
            (subst (λ (d : Direction). IsPast d (get_or a (end_word t side x) 0) (get_or b (end_word t side x) 0)) (end_direction t side x h) (past (end_word t side x) (end_within t side x h)));
      }

  abbrev start : List ℕ
  start = start_row t sup s

  start_fact : (f : ℕ) → f < length t.raw.facts → get_or start f 0 ≡ mask (get_or s.facts f false)
  start_fact f h = fact_word t sup s (λ f. mask (get_or s.facts f false)) (λ side x. 0) f h

  start_end : (side : Side) (x : ℕ) → x < length t.raw.fluents → get_or start (end_word t side x) 0 ≡ word_after side (ends_of sup side x) 0
  start_end side x h = end_word_of t sup s (λ f. mask (get_or s.facts f false)) (λ side x. 0) side x h

  pub past_own : (row : List ℕ) → IsRowPast system start row → (f : ℕ) → f < length t.raw.facts → says (get_or s.facts f false) (get_or row f 0) ≡ true
  past_own row past f h =
      past_says (get_or s.facts f false) (get_or row f 0)
      (subst (λ (w : ℕ). IsPast Or w (get_or row f 0)) (start_fact f h)
      (subst (λ (d : Direction). IsPast d (get_or start f 0) (get_or row f 0)) (fact_direction t f h) (past f (omega (arith, h)))))

  -- a row is closed where its box is
  pub closed_box : (row : List ℕ) → IsClosed system row → is_closed t (box_at t sup s row) ≡ true
  closed_box row closed = satisfied_closes t sup s ok row (met_satisfied row closed.met)

  pub box_closed : (row : List ℕ) → IsRow system row → IsRowPast system start row → is_closed t (box_at t sup s row) ≡ true → IsClosed system row
  box_closed row is_row past closed = record { is_row = is_row; met = satisfied_met row (closed_satisfies t sup s ok row closed (past_own row past)) }

  -- ---- the law

  pub asking_more : (a b : List ℕ) (r : Rule) → IsRule t sup r r.supporter.demand → fact_known t r.supporter.demand → IsRowPast system a b → is_asking t s sup a r ≡ true → is_asking t s sup b r ≡ true
  asking_more a b r rule known past h =
      let d = r.supporter.demand in
      elim (or_cases (is_reached d r.value (get_or a r.word 0)) _ h) [
        | inl reached ↦
            or_left (is_reached d r.value (get_or b r.word 0)) _
            (reached_by r d rule known (get_or b r.word 0)
            (past_trans (direction_of t r.word) r.value (get_or a r.word 0) (get_or b r.word 0) (past_by r d rule known (get_or a r.word 0) reached) (past r.word (word_known r d rule known).0)))
        | inr demanded ↦
            or_right (is_reached d r.value (get_or b r.word 0)) _
            (asked_wider t s (box_at t sup s a) (box_at t sup s b) (row_box t sup s ok a) (row_box t sup s ok b) (box_further t sup s ok a b (row_further a b past)) d r.end (slice_get t.raw.actions r.supporter.action) demanded)
      ]

  pub system_lawful : IsLawful system
  system_lawful =
      record {
        asked_word = λ i row w x h is_row e.
            let a = asks_by row i w x e in
            let known = rule_at i a.rule a.at in
            let word = word_known a.rule a.rule.supporter.demand known.0 known.1 in
            (subst (λ (w : ℕ). w < words t) a.word word.0, subst (λ (v : ℕ). v < 2 ^ 64) a.value word.1);
        asked_again = λ i a b w x h row_a row_b past e.
            let asks = asks_by a i w x e in
            let known = rule_at i asks.rule asks.at in
            let more = by_asking b i asks.rule asks.at (asking_more a b asks.rule known.0 known.1 past asks.asking) in
            subst (λ (p : ℕ × ℕ). system.asks i b ≡ Some p) (pair_is asks.rule.word w asks.rule.value x asks.word asks.value) more;
      }
    where
      pair_is : (v w x y : ℕ) → v ≡ w → x ≡ y → ◌≡◌ {A = ℕ × ℕ} (v, x) (w, y)
      pair_is v w x y h k = ap₂ (λ (m n : ℕ). (m, n)) h k

  pub readable : IsReadable t sup s
  readable =
      record {
        uppers_each = ok.supporters.uppers_each;
        lowers_each = ok.supporters.lowers_each;
        few_ends = ok.supporters.few_ends;
        fits = λ side x h. (ok.supporters.candidates side x h).fits;
        few_rules = omega (arith, ok.supporters.few_rules);
        words = λ i d h. let r = get_or sup.rules i d in (word_known r r.supporter.demand (ok.supporters.rules i d h) (all_known t sup s ok i d h)).0;
        a_truth_each = ok.a_state.a_truth_each;
        a_number_each = ok.a_state.a_number_each;
        in_range = ok.in_range;
      }

  -- ---- the least closed row

  module _ (c : StateBox) (a_box : IsBoxOf t c) (inside : Contains t.places c s) where
    abbrev inner : List ℕ
    inner = inner_row t sup s c

    inner_fact : (f : ℕ) → f < length t.raw.facts → get_or inner f 0 ≡ may_word (fact_in c f)
    inner_fact f h = fact_word t sup s (λ f. may_word (fact_in c f)) (inner_steps sup c) f h

    inner_end : (side : Side) (x : ℕ) → x < length t.raw.fluents → get_or inner (end_word t side x) 0 ≡ word_after side (ends_of sup side x) (inner_steps sup c side x)
    inner_end side x h = end_word_of t sup s (λ f. may_word (fact_in c f)) (inner_steps sup c) side x h

    inner_is_row : IsRow system inner
    inner_is_row =
        record {
          length_is = row_length t sup s (λ f. may_word (fact_in c f)) (inner_steps sup c);
          fits = each_word t (λ w. get_or inner w 0 < 2 ^ 64)
              (λ f h. subst (λ (w : ℕ). w < 2 ^ 64) (sym (inner_fact f h)) (few_may (fact_in c f)))
              (λ side x h. subst (λ (w : ℕ). w < 2 ^ 64) (sym (inner_end side x h))
              (few_word side (ends_of sup side x) (inner_steps sup c side x) (within_few side (ends_of sup side x) (end_on side (fluent_in c x))) (ok.supporters.few_ends side x h)));
        }

    inner_past : IsRowPast system start inner
    inner_past = each_word t (λ w. IsPast (direction_of t w) (get_or start w 0) (get_or inner w 0))
        (λ f h. subst (λ (d : Direction). IsPast d (get_or start f 0) (get_or inner f 0)) (sym (fact_direction t f h))
        (subst (λ (w : ℕ). IsPast Or w (get_or inner f 0)) (sym (start_fact f h)) (says_past (get_or s.facts f false) (get_or inner f 0) (inner_own t sup s ok c a_box inside f h))))
        (λ side x h. subst (λ (d : Direction). IsPast d (get_or start (end_word t side x) 0) (get_or inner (end_word t side x) 0)) (sym (end_direction t side x h))
        (subst (λ (v : ℕ). IsPast (side_direction side) v (get_or inner (end_word t side x) 0)) (sym (start_end side x h))
        (subst (λ (v : ℕ). IsPast (side_direction side) (word_after side (ends_of sup side x) 0) v) (sym (inner_end side x h))
        (word_more side (ends_of sup side x) 0 (inner_steps sup c side x) (omega arith)))))

    pub inner_closed : is_closed t c ≡ true → IsClosed system inner
    inner_closed closed = record { is_row = inner_is_row; met = satisfied_met inner (inner_satisfied t sup s ok c a_box inside closed) }

    -- a row that each closed row is past stands for a box within the closed box
    pub row_within : (row : List ℕ) → IsBetween system start row → is_closed t c ≡ true → LiesWithin (box_at t sup s row) c
    row_within row between closed =
        lies_within_trans (box_at t sup s row) (box_at t sup s inner) c
        (box_further t sup s ok row inner (row_further row inner (between.before_closed inner (inner_closed closed) inner_past)))
        (inner_within t sup s ok c a_box inside)
      where
        may_trans : (l m n : May) → is_may_within l m ≡ true → is_may_within m n ≡ true → is_may_within l n ≡ true
        may_trans l True True h k = h
        may_trans l True False h k = cc
        may_trans True True Any h k = refl
        may_trans False True Any h k = refl
        may_trans Any True Any h k = refl
        may_trans l False True h k = cc
        may_trans l False False h k = h
        may_trans True False Any h k = refl
        may_trans False False Any h k = refl
        may_trans Any False Any h k = refl
        may_trans l Any True h k = cc
        may_trans l Any False h k = cc
        may_trans l Any Any h k = h

        lies_within_trans : (l m n : StateBox) → LiesWithin l m → LiesWithin m n → LiesWithin l n
        lies_within_trans l m n h k =
            record {
              as_many_facts = h.as_many_facts ∙ k.as_many_facts;
              as_many_fluents = h.as_many_fluents ∙ k.as_many_fluents;
              facts = λ f i. may_trans (fact_in l f) (fact_in m f) (fact_in n f) (h.facts f i) (k.facts f (subst (λ (c : ℕ). f < c) h.as_many_facts i));
              fluents = λ x i. within_trans (fluent_in l x) (fluent_in m x) (fluent_in n x) (h.fluents x i) (k.fluents x (subst (λ (c : ℕ). x < c) h.as_many_fluents i));
            }

  -- the least closed row stands for the least closed box
  pub least_box : (row : List ℕ) → IsLeastClosed system start row → least.IsLeastClosed t s (box_at t sup s row)
  least_box row is_least =
      record {
        a_box = row_box t sup s ok row;
        contains = row_contains t sup s ok row;
        closed = closed_box row is_least.closed;
        least = λ c a_box inside closed. row_within c a_box inside row is_least.between closed;
      }

pub lawful_monotone : (t : Terms) → IsLawful t → IsMonotone t
lawful_monotone t lawful =
    record {
      asked_word = lawful.asked_word;
      grows = λ rule a b w x h row_a row_b past e. (x, lawful.asked_again rule a b w x h row_a row_b past e, past_refl (t.direction w) x);
    }
