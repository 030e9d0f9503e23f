-- The box that a row stands for.
use Rattle.std.proofs.Common.{◌≡◌, ℕ, zero, suc, ◌<◌, ◌≤◌, ◌/◌, ◌%◌, ◌^◌, ◌⊎◌, Bool, true, false, not, cond, List, Option, Some, None, All, length, get_or, slice_get, leb, leb-true, unsigned_abs, pos, eqb-true, eq-eqb, refl, sym, ap, ◌∙◌, subst, inl, inr, arith}
use Rattle.std.specs.Int.{bit_at}
use Rattle.std.proofs.lemmas.Bool.{and_from, and_parts, cases_lt, ltb-true, or_cases, or_left, or_right}
use Rattle.std.proofs.lemmas.List.{get_or_past}
use Rattle.std.proofs.lemmas.List.FromFn.{get_or-map-range_with_len, length-map-range_with_len}
use Rattle.std.proofs.lemmas.Nat.Bits.{bit_at-lt, bit_at_lowest}
use Rattle.num_ends.specs.Decimal.{Decimal, InRange, origin, trimmed}
use Rattle.num_ends.specs.Ends.{Interval, has, is_inhabited, is_within, lower_covers, point_of, upper_covers, whole_line}
use Rattle.num_ends.specs.declared.ends.End.{End}
use Rattle.num_ends.specs.declared.ends.End.TheVariants.{NegInf, Excl, Incl, PosInf}
use Rattle.num_ends.proofs.DecimalOrder.{most_refl}
use Rattle.num_ends.proofs.Members.{has_from, within_refl}
use Rattle.ground_task.specs.Meaning.{fluent_value}
use Rattle.ground_task.specs.States.{StateValue}
use Rattle.ground_task.specs.Tasks.{TaskValue}
use Rattle.ground_task.specs.declared.raw.Change.{Change}
use Rattle.ground_task.specs.declared.raw.Change.TheVariants.{Add, Set}
use Rattle.ground_task.specs.declared.raw.Ground.{Ground}
use Rattle.ground_task.specs.declared.raw.Rel.TheVariants.{Less}
use Rattle.box_model.specs.Boxes.{fact_in, fluent_in, is_may_within, may_be, Contains, IsBoxOf, IsEndFor, LiesWithin}
use Rattle.box_model.specs.Demands.{constant_of, covers, end_on, infinity}
use Rattle.box_model.specs.Hold.{interval_of, may_hold, read_interval}
use Rattle.box_model.specs.declared.caps.Side.{Side}
use Rattle.box_model.specs.declared.caps.Side.TheVariants.{Upper, Lower}
use Rattle.box_model.specs.declared.state_box.May.{May}
use Rattle.box_model.specs.declared.state_box.May.TheVariants.{Any}
use Rattle.box_model.specs.declared.state_box.StateBox.{StateBox}
use Rattle.box_model.proofs.EndOrder.{inhabited_lower, inhabited_upper}
use Rattle.box_model.proofs.Monotony.{fluent_wider, hold_wider, interval_wider, stand_wider}
use Rattle.box_model.proofs.Numbers.{trimmed_places, trimmed_range}
use Rattle.box_model.proofs.ReadLemmas.{all_fit, fits_anywhere, read_wider}
use Rattle.box_rows.specs.Asking.{is_demanded, may_pass, some_passes}
use Rattle.box_rows.specs.BoxRows.{box_at, end_at, fact_at, fluent_at, may_with, says}
use Rattle.box_rows.specs.Candidates.{is_end_for}
use Rattle.box_rows.specs.Instances.{IsInstance}
use Rattle.box_rows.specs.Moves.{is_constant, is_past, may_move}
use Rattle.box_rows.specs.Ranks.{end_after, steps_by}
use Rattle.box_rows.specs.Rules.{end_word, ends_of}
use Rattle.box_rows.specs.declared.rule.Demand.{Demand}
use Rattle.box_rows.specs.declared.rule.Demand.TheVariants.{MayBe, Reaches}
use Rattle.box_rows.specs.Tables.{SupportersValue}
use Rattle.box_rows.proofs.Chains.{after_covers, after_grows}
use Rattle.box_rows.proofs.Meets.{above_is, below_is}

-- ---- bits

one_of_two : (n : ℕ) → n < 2 → 1 ≤ n → n ≡ 1
one_of_two n h k = omega (arith, h, k)

pub says_more : (truth : Bool) (v w : ℕ) → ((i : ℕ) → bit_at v i ≤ bit_at w i) → says truth v ≡ true → says truth w ≡ true
says_more true v w h said =
    let bit : v % 2 ≡ 1 = eqb-true (v % 2) 1 said in
    let more : v % 2 ≤ w % 2 = subst (λ (n : ℕ). v % 2 ≤ n) (bit_at_lowest w) (subst (λ (n : ℕ). n ≤ bit_at w 0) (bit_at_lowest v) (h 0)) in
    let few : w % 2 < 2 = subst (λ (n : ℕ). n < 2) (bit_at_lowest w) (bit_at-lt w 0) in
    eq-eqb (w % 2) 1 (one_of_two (w % 2) few (omega (arith, bit, more)))
says_more false v w h said =
    let bit : v / 2 % 2 ≡ 1 = eqb-true (v / 2 % 2) 1 said in
    let more : v / 2 % 2 ≤ w / 2 % 2 = h 1 in
    eq-eqb (w / 2 % 2) 1 (one_of_two (w / 2 % 2) (bit_at-lt w 1) (omega (arith, bit, more)))

may_more : (truth m n : Bool) → (m ≡ true → n ≡ true) → is_may_within (may_with truth m) (may_with truth n) ≡ true
may_more true true n h = rw (h refl) refl
may_more true false true h = refl
may_more true false false h = refl
may_more false true n h = rw (h refl) refl
may_more false false true h = refl
may_more false false false h = refl

own_truth : (truth m : Bool) → may_be (may_with truth m) truth ≡ true
own_truth true true = refl
own_truth true false = refl
own_truth false true = refl
own_truth false false = refl

-- a fact may have a truth value exactly where it is the state's, or the word says so
pub may_says : (truth asked : Bool) (w : ℕ) → may_be (may_with truth (says (not truth) w)) asked ≡ true → (truth ≡ asked) ⊎ (says asked w ≡ true)
may_says true true w h = inl refl
may_says true false w h = inr (only (says false w) h)
  where
    only : (m : Bool) → may_be (may_with true m) false ≡ true → m ≡ true
    only true h = refl
    only false h = h
may_says false true w h = inr (only (says true w) h)
  where
    only : (m : Bool) → may_be (may_with false m) true ≡ true → m ≡ true
    only true h = refl
    only false h = h
may_says false false w h = inl refl

pub says_may : (truth asked : Bool) (w : ℕ) → says asked w ≡ true → may_be (may_with truth (says (not truth) w)) asked ≡ true
says_may true true w h = own_truth true (says false w)
says_may true false w h = rw h refl
says_may false true w h = rw h refl
says_may false false w h = own_truth false (says true w)

-- ---- ends

fits_end : (q : ℕ) (e : End) → is_end_for q e ≡ true → IsEndFor q e
fits_end q NegInf h = tt
fits_end q (Excl d) h = let parts = and_parts (leb (trimmed d).p q) _ h in (leb-true (trimmed d).p q parts.0, ltb-true (unsigned_abs (trimmed d).n) (2 ^ 127) parts.1)
fits_end q (Incl d) h = let parts = and_parts (leb (trimmed d).p q) _ h in (leb-true (trimmed d).p q parts.0, ltb-true (unsigned_abs (trimmed d).n) (2 ^ 127) parts.1)
fits_end q PosInf h = tt

end_fits : (side : Side) (q : ℕ) (v : Decimal) (ends : List End) (r : ℕ) → IsEndFor q (Incl v) → All (λ e. is_end_for q e ≡ true) ends → IsEndFor q (end_after side v ends r)
end_fits side q v ends zero h all = h
end_fits side q v ends (suc k) h all = either (covers side (Incl v) (get_or ends k (infinity side)))
  where
    infinite : (side : Side) → IsEndFor q (infinity side)
    infinite Upper = tt
    infinite Lower = tt

    at : IsEndFor q (get_or ends k (infinity side))
    at = elim (cases_lt k (length ends)) [
      | inl inside ↦ fits_end q (get_or ends k (infinity side)) (all k (infinity side) inside)
      | inr past ↦ subst (IsEndFor q) (sym (get_or_past ends k (infinity side) past)) (infinite side)
    ]

    either : (b : Bool) → IsEndFor q (cond b (Incl v) (get_or ends k (infinity side)))
    either true = h
    either false = at

past_wider : (side : Side) (i j k l : Interval) → is_within i k ≡ true → is_within j l ≡ true → is_past side i j ≡ true → is_past side k l ≡ true
past_wider Upper i j k l v w h = stand_wider Less i j k l v w h
past_wider Lower i j k l v w h = stand_wider Less j i l k w v h

-- ---- what a row says of one fact or fluent

module _ (t : TaskValue) (sup : SupportersValue) (s : StateValue) (row : List ℕ) where
  pub fact_of_row : (f : ℕ) → f < length t.raw.facts → fact_in (box_at t sup s row) f ≡ fact_at t sup s row f
  fact_of_row f h = get_or-map-range_with_len (fact_at t sup s row) 0 (length t.raw.facts) f f Any h (omega arith)

  pub fluent_of_row : (x : ℕ) → x < length t.raw.fluents → fluent_in (box_at t sup s row) x ≡ fluent_at t sup s row x
  fluent_of_row x h = get_or-map-range_with_len (fluent_at t sup s row) 0 (length t.raw.fluents) x x whole_line h (omega arith)

  pub covers_own : (side : Side) (x : ℕ) → covers side (end_at t sup s row side x) (Incl (fluent_value t.places s x)) ≡ true
  covers_own side x = after_covers side (fluent_value t.places s x) (ends_of sup side x) (steps_by side (ends_of sup side x) (get_or row (end_word t side x) 0))

  pub row_inhabited : (x : ℕ) → is_inhabited (end_at t sup s row Lower x) (end_at t sup s row Upper x) ≡ true
  row_inhabited x =
      inhabited_lower (end_at t sup s row Lower x) (Incl (fluent_value t.places s x)) (end_at t sup s row Upper x) (covers_own Lower x)
      (inhabited_upper (end_at t sup s row Upper x) (Incl (fluent_value t.places s x)) (Incl (fluent_value t.places s x)) (covers_own Upper x) (most_refl (fluent_value t.places s x)))

  pub row_fits : (side : Side) (x : ℕ) → InRange (get_or s.values x (pos 0)) → All (λ e. is_end_for (get_or t.places x 0) e ≡ true) (ends_of sup side x) → IsEndFor (get_or t.places x 0) (end_at t sup s row side x)
  row_fits side x number fits =
      end_fits side (get_or t.places x 0) (fluent_value t.places s x) (ends_of sup side x) (steps_by side (ends_of sup side x) (get_or row (end_word t side x) 0))
      (trimmed_places (fluent_value t.places s x), trimmed_range (fluent_value t.places s x) number) fits

module _ (t : TaskValue) (sup : SupportersValue) (s : StateValue) (ok : IsInstance t sup s) where
  abbrev value : ℕ → Decimal
  value = fluent_value t.places s

  module _ (row : List ℕ) where
    abbrev b : StateBox
    b = box_at t sup s row

    pub fact_in_box : (f : ℕ) → f < length t.raw.facts → fact_in b f ≡ fact_at t sup s row f
    fact_in_box f h = fact_of_row t sup s row f h

    pub fluent_in_box : (x : ℕ) → x < length t.raw.fluents → fluent_in b x ≡ fluent_at t sup s row x
    fluent_in_box x h = fluent_of_row t sup s row x h

    pub end_in_box : (side : Side) (x : ℕ) → x < length t.raw.fluents → end_on side (fluent_in b x) ≡ end_at t sup s row side x
    end_in_box Upper x h = ap (λ (i : Interval). i.1) (fluent_in_box x h)
    end_in_box Lower x h = ap (λ (i : Interval). i.0) (fluent_in_box x h)

    pub covers_value : (side : Side) (x : ℕ) → x < length t.raw.fluents → covers side (end_at t sup s row side x) (Incl (value x)) ≡ true
    covers_value side x h = covers_own t sup s row side x

    fluents_few : length b.fluents ≡ length t.raw.fluents
    fluents_few = length-map-range_with_len (fluent_at t sup s row) 0 (length t.raw.fluents)

    facts_few : length b.facts ≡ length t.raw.facts
    facts_few = length-map-range_with_len (fact_at t sup s row) 0 (length t.raw.facts)

    known : (x : ℕ) → x < length b.fluents → x < length t.raw.fluents
    known x h = subst (λ (n : ℕ). x < n) fluents_few h

    inhabits : (x : ℕ) → x < length t.raw.fluents → is_inhabited (end_at t sup s row Lower x) (end_at t sup s row Upper x) ≡ true
    inhabits x h = row_inhabited t sup s row x

    fits : (side : Side) (x : ℕ) → x < length t.raw.fluents → IsEndFor (get_or t.places x 0) (end_at t sup s row side x)
    fits side x h = row_fits t sup s row side x (ok.in_range x h) (ok.supporters.candidates side x h).fits

    pub row_box : IsBoxOf t b
    row_box =
        record {
          as_many_facts = facts_few;
          as_many_fluents = fluents_few;
          inhabited = λ x h. subst (λ (i : Interval). is_inhabited i.0 i.1 ≡ true) (sym (fluent_in_box x (known x h))) (inhabits x (known x h));
          lower_fits = λ x h. subst (λ (i : Interval). IsEndFor (get_or t.places x 0) i.0) (sym (fluent_in_box x (known x h))) (fits Lower x (known x h));
          upper_fits = λ x h. subst (λ (i : Interval). IsEndFor (get_or t.places x 0) i.1) (sym (fluent_in_box x (known x h))) (fits Upper x (known x h));
        }

    pub row_contains : Contains t.places b s
    row_contains =
        record {
          as_many_facts = ok.a_state.a_truth_each ∙ sym facts_few;
          as_many_values = ok.a_state.a_number_each ∙ sym fluents_few;
          facts = λ f h. let k : f < length t.raw.facts = subst (λ (n : ℕ). f < n) facts_few h in
              subst (λ (m : May). may_be m (get_or s.facts f false) ≡ true) (sym (fact_in_box f k)) (own_truth (get_or s.facts f false) (says (not (get_or s.facts f false)) (get_or row f 0)));
          fluents = λ x h. let k = known x h in
              subst (λ (i : Interval). has i (value x) ≡ true) (sym (fluent_in_box x k))
              (has_from (fluent_at t sup s row x) (value x) (above_is (end_at t sup s row Lower x) (value x) ∙ covers_value Lower x k) (below_is (end_at t sup s row Upper x) (value x) ∙ covers_value Upper x k));
        }

  -- the bits and the steps of the second row are no fewer
  pub record IsFurther (a b : List ℕ) : Type 0 where
    pub bits : (f : ℕ) → f < length t.raw.facts → (i : ℕ) → bit_at (get_or a f 0) i ≤ bit_at (get_or b f 0) i
    pub steps : (side : Side) (x : ℕ) → x < length t.raw.fluents →
        steps_by side (ends_of sup side x) (get_or a (end_word t side x) 0) ≤ steps_by side (ends_of sup side x) (get_or b (end_word t side x) 0)

  module _ (r q : List ℕ) (further : IsFurther r q) where
    ends_further : (side : Side) (x : ℕ) → x < length t.raw.fluents → covers side (end_at t sup s q side x) (end_at t sup s r side x) ≡ true
    ends_further side x h =
        after_grows side (ends_of sup side x) (ok.supporters.candidates side x h).outward (value x)
        (steps_by side (ends_of sup side x) (get_or r (end_word t side x) 0)) (steps_by side (ends_of sup side x) (get_or q (end_word t side x) 0)) (further.steps side x h)

    pub box_further : LiesWithin (box_at t sup s r) (box_at t sup s q)
    box_further =
        record {
          as_many_facts = facts_few r ∙ sym (facts_few q);
          as_many_fluents = fluents_few r ∙ sym (fluents_few q);
          facts = λ f h. let k : f < length t.raw.facts = subst (λ (n : ℕ). f < n) (facts_few r) h in
              let truth = get_or s.facts f false in
              rw (fact_in_box r f k, fact_in_box q f k)
              (may_more truth (says (not truth) (get_or r f 0)) (says (not truth) (get_or q f 0)) (says_more (not truth) (get_or r f 0) (get_or q f 0) (further.bits f k)));
          fluents = λ x h. let k = known r x h in
              rw (fluent_in_box r x k, fluent_in_box q x k)
              (and_from (lower_covers (end_at t sup s q Lower x) (end_at t sup s r Lower x)) (upper_covers (end_at t sup s q Upper x) (end_at t sup s r Upper x)) (ends_further Lower x k) (ends_further Upper x k));
        }

-- ---- a wider box makes more demands

module _ (t : TaskValue) (s : StateValue) (b c : StateBox) (a_box : IsBoxOf t b) (wide_box : IsBoxOf t c) (within : LiesWithin b c) where
  pub moves_wider : (side : Side) (x : ℕ) (change : Change) → may_move t.places b side x change ≡ true → may_move t.places c side x change ≡ true
  moves_wider side x (Add e) h =
      past_wider side (point_of origin) (interval_of t.places b e) (point_of origin) (interval_of t.places c e) (within_refl (point_of origin))
      (interval_wider t.places b c within (all_fit t b a_box) (all_fit t c wide_box) a_box.inhabited e) h
  moves_wider side x (Set e) h =
      elim (or_cases (is_constant (constant_of e)) _ h) [
        | inl constant ↦ or_left (is_constant (constant_of e)) _ constant
        | inr moves ↦
            or_right (is_constant (constant_of e)) _
            (past_wider side (read_interval (get_or t.places x 0) (fluent_in b x)) (interval_of t.places b e) (read_interval (get_or t.places x 0) (fluent_in c x)) (interval_of t.places c e)
            (read_wider (get_or t.places x 0) (fluent_in b x) (fluent_in c x) (fits_anywhere t.places b (all_fit t b a_box) x) (fits_anywhere t.places c (all_fit t c wide_box) x) (fluent_wider b c within x))
            (interval_wider t.places b c within (all_fit t b a_box) (all_fit t c wide_box) a_box.inhabited e) moves)
      ]

  pub holds_wider : (a : Ground) → may_hold t.places b a.pre ≡ true → may_hold t.places c a.pre ≡ true
  holds_wider a h = hold_wider t.places b c within (all_fit t b a_box) (all_fit t c wide_box) a_box.inhabited a.pre h

  passes_wider : (side : Side) (end : End) (o : Option (ℕ × Change)) → some_passes (may_pass t s b side end) o ≡ true → some_passes (may_pass t s c side end) o ≡ true
  passes_wider side end None h = h
  passes_wider side end (Some e) h =
      let parts = and_parts (not (covers side (Incl (fluent_value t.places s e.0)) end)) _ h in
      and_from (not (covers side (Incl (fluent_value t.places s e.0)) end)) _ parts.0 (moves_wider side e.0 e.1 parts.1)

  pub demanded_wider : (a : Ground) (d : Demand) (end : End) → is_demanded t s b a d end ≡ true → is_demanded t s c a d end ≡ true
  demanded_wider a (MayBe f truth) end h = holds_wider a h
  demanded_wider a (Reaches side effect) end h =
      let parts = and_parts (may_hold t.places b a.pre) _ h in
      and_from (may_hold t.places c a.pre) _ (holds_wider a parts.0) (passes_wider side end (slice_get a.nums effect) parts.1)

  pub asked_wider : (d : Demand) (end : End) (o : Option Ground) → some_passes (λ a. is_demanded t s b a d end) o ≡ true → some_passes (λ a. is_demanded t s c a d end) o ≡ true
  asked_wider d end None h = h
  asked_wider d end (Some a) h = demanded_wider a d end h
