-- The furthest row whose box lies within a box.
use Rattle.std.proofs.Common.{◌≡◌, ℕ, ◌+◌, ◌<◌, ◌≤◌, ◌⊎◌, ◌++◌, Bool, true, false, not, List, Some, All, length, length-append, map, get_or, slice_get, refl, sym, ap, ◌∙◌, subst, inl, inr, arith}
use Rattle.std.specs.List.{range_with_len}
use Rattle.std.proofs.lemmas.Bool.{and_from, and_parts, or_cases}
use Rattle.std.proofs.lemmas.List.{get_or_append_left, get_or-append-add}
use Rattle.std.proofs.lemmas.List.FromFn.{get_or-map-range_with_len, length-map-range_with_len}
use Rattle.num_ends.specs.Decimal.{Decimal}
use Rattle.num_ends.specs.Ends.{Interval, is_above, is_below, is_within, lower_covers}
use Rattle.num_ends.specs.declared.ends.End.{End}
use Rattle.num_ends.specs.declared.ends.End.TheVariants.{Incl}
use Rattle.num_ends.proofs.Members.{has_parts}
use Rattle.ground_task.specs.Meaning.{fluent_value}
use Rattle.ground_task.specs.States.{StateValue}
use Rattle.ground_task.specs.Tasks.{TaskValue}
use Rattle.ground_task.specs.declared.raw.Change.{Change}
use Rattle.ground_task.specs.declared.raw.Ground.{Ground}
use Rattle.box_model.specs.Boxes.{fact_in, fluent_in, is_may_within, may_be, Contains, IsBoxOf, LiesWithin}
use Rattle.box_model.specs.Demands.{covers, end_on, implies, infinity, is_closed}
use Rattle.box_model.specs.Hold.{may_hold}
use Rattle.box_model.specs.declared.caps.Side.{Side}
use Rattle.box_model.specs.declared.caps.Side.TheVariants.{Upper, Lower}
use Rattle.box_model.specs.declared.state_box.May.{May}
use Rattle.box_model.specs.declared.state_box.May.TheVariants.{True, False, Any}
use Rattle.box_model.specs.declared.state_box.StateBox.{StateBox}
use Rattle.box_model.proofs.CapLemmas.{option_cases, some_same}
use Rattle.box_rows.specs.Asking.{is_demanded, is_reached, may_pass, some_passes}
use Rattle.box_rows.specs.BoxRows.{box_at, end_at, may_with, row_of, says}
use Rattle.box_rows.specs.Candidates.{HasEqual, IsDemandedEnd, IsEffect}
use Rattle.box_rows.specs.Instances.{IsInstance}
use Rattle.box_rows.specs.Moves.{may_move}
use Rattle.box_rows.specs.Ranks.{end_after, rank_of, steps_by, word_after}
use Rattle.box_rows.specs.Rules.{IsRule, demands_of, end_word, ends_of}
use Rattle.box_rows.specs.declared.rule.Demand.{Demand}
use Rattle.box_rows.specs.declared.rule.Demand.TheVariants.{MayBe, Reaches}
use Rattle.box_rows.specs.declared.rule.Rule.{Rule}
use Rattle.box_rows.specs.Tables.{SupportersValue}
use Rattle.box_rows.proofs.Alls.{OfAction, all_supporters, all_unmapped}
use Rattle.box_rows.proofs.Chains.{rank_few, steps_within, within_end, within_few, within_reaches, word_steps}
use Rattle.box_rows.proofs.Closing.{AreSatisfied, Demanding, IsSatisfied, all_known, closed_meets, effect_known, fact_known, implies_true, steps_reached}
use Rattle.box_rows.proofs.Meets.{above_is, below_is, part_is}
use Rattle.box_rows.proofs.RowBoxes.{demanded_wider, fact_in_box, fluent_in_box, row_box}

-- ---- words of rows

module _ (t : TaskValue) (sup : SupportersValue) (s : StateValue) (bits : ℕ → ℕ) (steps : Side → ℕ → ℕ) where
  abbrev facts : List ℕ
  facts = map bits (range_with_len 0 (length t.raw.facts))

  abbrev uppers : List ℕ
  uppers = map (λ x. word_after Upper (ends_of sup Upper x) (steps Upper x)) (range_with_len 0 (length t.raw.fluents))

  abbrev lowers : List ℕ
  lowers = map (λ x. word_after Lower (ends_of sup Lower x) (steps Lower x)) (range_with_len 0 (length t.raw.fluents))

  abbrev row : List ℕ
  row = row_of t sup s bits steps

  facts_few : length facts ≡ length t.raw.facts
  facts_few = length-map-range_with_len bits 0 (length t.raw.facts)

  uppers_few : length uppers ≡ length t.raw.fluents
  uppers_few = length-map-range_with_len (λ x. word_after Upper (ends_of sup Upper x) (steps Upper x)) 0 (length t.raw.fluents)

  lowers_few : length lowers ≡ length t.raw.fluents
  lowers_few = length-map-range_with_len (λ x. word_after Lower (ends_of sup Lower x) (steps Lower x)) 0 (length t.raw.fluents)

  pub row_length : length row ≡ length t.raw.facts + (length t.raw.fluents + length t.raw.fluents)
  row_length = omega (arith, length-append facts (uppers ++ lowers), length-append uppers lowers, facts_few, uppers_few, lowers_few)

  pub fact_word : (f : ℕ) → f < length t.raw.facts → get_or row f 0 ≡ bits f
  fact_word f h =
      get_or_append_left facts (uppers ++ lowers) 0 f (subst (λ (n : ℕ). f < n) (sym facts_few) h)
      ∙ get_or-map-range_with_len bits 0 (length t.raw.facts) f f 0 h (omega arith)

  pub end_word_of : (side : Side) (x : ℕ) → x < length t.raw.fluents → get_or row (end_word t side x) 0 ≡ word_after side (ends_of sup side x) (steps side x)
  end_word_of Upper x h =
      subst (λ (n : ℕ). get_or row (n + x) 0 ≡ word_after Upper (ends_of sup Upper x) (steps Upper x)) facts_few
      (get_or-append-add facts (uppers ++ lowers) x 0
      ∙ get_or_append_left uppers lowers 0 x (subst (λ (n : ℕ). x < n) (sym uppers_few) h)
      ∙ get_or-map-range_with_len (λ x. word_after Upper (ends_of sup Upper x) (steps Upper x)) 0 (length t.raw.fluents) x x 0 h (omega arith))
  end_word_of Lower x h =
      subst (λ (n : ℕ). get_or row (n + (length t.raw.fluents + x)) 0 ≡ word_after Lower (ends_of sup Lower x) (steps Lower x)) facts_few
      (get_or-append-add facts (uppers ++ lowers) (length t.raw.fluents + x) 0
      ∙ subst (λ (n : ℕ). get_or (uppers ++ lowers) (n + x) 0 ≡ word_after Lower (ends_of sup Lower x) (steps Lower x)) uppers_few
      (get_or-append-add uppers lowers x 0
      ∙ get_or-map-range_with_len (λ x. word_after Lower (ends_of sup Lower x) (steps Lower x)) 0 (length t.raw.fluents) x x 0 h (omega arith)))

-- ---- the inner row of a box

-- the bits of truth values
abbrev pub may_word : May → ℕ
may_word True = 1
may_word False = 2
may_word Any = 3

abbrev pub inner_steps : SupportersValue → StateBox → Side → ℕ → ℕ
inner_steps sup c side x = steps_within side (ends_of sup side x) (end_on side (fluent_in c x))

abbrev pub inner_row : TaskValue → SupportersValue → StateValue → StateBox → List ℕ
inner_row t sup s c = row_of t sup s (λ f. may_word (fact_in c f)) (inner_steps sup c)

may_inner : (m : May) (truth : Bool) → may_be m truth ≡ true → is_may_within (may_with truth (says (not truth) (may_word m))) m ≡ true
may_inner True true h = refl
may_inner True false h = cc
may_inner False true h = cc
may_inner False false h = refl
may_inner Any true h = refl
may_inner Any false h = refl

says_inner : (m : May) (truth : Bool) → may_be m truth ≡ true → says truth (may_word m) ≡ true
says_inner True true h = refl
says_inner True false h = cc
says_inner False true h = cc
says_inner False false h = refl
says_inner Any true h = refl
says_inner Any false h = refl

module _ (t : TaskValue) (sup : SupportersValue) (s : StateValue) (ok : IsInstance t sup s) (c : StateBox) (a_box : IsBoxOf t c) (inside : Contains t.places c s) where
  abbrev value : ℕ → Decimal
  value = fluent_value t.places s

  abbrev inner : List ℕ
  inner = inner_row t sup s c

  fact_of_state : (f : ℕ) → f < length t.raw.facts → may_be (fact_in c f) (get_or s.facts f false) ≡ true
  fact_of_state f h = inside.facts f (subst (λ (n : ℕ). f < n) (sym a_box.as_many_facts) h)

  pub inner_own : (f : ℕ) → f < length t.raw.facts → says (get_or s.facts f false) (get_or inner f 0) ≡ true
  inner_own f h =
      subst (λ (w : ℕ). says (get_or s.facts f false) w ≡ true) (sym (fact_word t sup s (λ f. may_word (fact_in c f)) (inner_steps sup c) f h))
      (says_inner (fact_in c f) (get_or s.facts f false) (fact_of_state f h))

  value_covered : (side : Side) (x : ℕ) → x < length t.raw.fluents → covers side (end_on side (fluent_in c x)) (Incl (value x)) ≡ true
  value_covered side x h = at side
    where
      parts : (is_above (fluent_in c x).0 (value x) ≡ true) × (is_below (fluent_in c x).1 (value x) ≡ true)
      parts = has_parts (fluent_in c x) (value x) (inside.fluents x (subst (λ (n : ℕ). x < n) (sym a_box.as_many_fluents) h))

      at : (side : Side) → covers side (end_on side (fluent_in c x)) (Incl (value x)) ≡ true
      at Upper = sym (below_is (fluent_in c x).1 (value x)) ∙ parts.1
      at Lower = sym (above_is (fluent_in c x).0 (value x)) ∙ parts.0

  pub inner_by : (side : Side) (x : ℕ) → x < length t.raw.fluents → steps_by side (ends_of sup side x) (get_or inner (end_word t side x) 0) ≡ inner_steps sup c side x
  inner_by side x h =
      ap (steps_by side (ends_of sup side x)) (end_word_of t sup s (λ f. may_word (fact_in c f)) (inner_steps sup c) side x h)
      ∙ word_steps side (ends_of sup side x) (inner_steps sup c side x) (within_few side (ends_of sup side x) (end_on side (fluent_in c x)))

  end_inside : (side : Side) (x : ℕ) → x < length t.raw.fluents → covers side (end_on side (fluent_in c x)) (end_at t sup s inner side x) ≡ true
  end_inside side x h =
      subst (λ (r : ℕ). covers side (end_on side (fluent_in c x)) (end_after side (value x) (ends_of sup side x) r) ≡ true) (sym (inner_by side x h))
      (within_end side (ends_of sup side x) (value x) (end_on side (fluent_in c x)) (value_covered side x h))

  -- the box of the inner row lies within the box
  pub inner_within : LiesWithin (box_at t sup s inner) c
  inner_within =
      record {
        as_many_facts = inner_box.as_many_facts ∙ sym a_box.as_many_facts;
        as_many_fluents = inner_box.as_many_fluents ∙ sym a_box.as_many_fluents;
        facts = λ f h. let k : f < length t.raw.facts = subst (λ (n : ℕ). f < n) inner_box.as_many_facts h in
            let truth = get_or s.facts f false in
            subst (λ (m : May). is_may_within m (fact_in c f) ≡ true) (sym (fact_in_box t sup s ok inner f k))
            (subst (λ (w : ℕ). is_may_within (may_with truth (says (not truth) w)) (fact_in c f) ≡ true) (sym (fact_word t sup s (λ f. may_word (fact_in c f)) (inner_steps sup c) f k))
            (may_inner (fact_in c f) truth (fact_of_state f k)));
        fluents = λ x h. let k : x < length t.raw.fluents = subst (λ (n : ℕ). x < n) inner_box.as_many_fluents h in
            subst (λ (i : Interval). is_within i (fluent_in c x) ≡ true) (sym (fluent_in_box t sup s ok inner x k))
            (and_from (lower_covers (fluent_in c x).0 (end_at t sup s inner Lower x)) _ (end_inside Lower x k) (end_inside Upper x k));
      }
    where
      inner_box : IsBoxOf t (box_at t sup s inner)
      inner_box = row_box t sup s ok inner

  -- a demanded end is one of the candidates, or infinite
  demanded_known : (side : Side) (n k : ℕ) (a : Ground) (x : ℕ) (change : Change) (end : End) → IsEffect t n k a x change → IsDemandedEnd t.places side a.pre x change end
      → HasEqual side (ends_of sup side x) end ⊎ (end ≡ infinity side)
  demanded_known side n k a x change end of (inl stop) =
      inl ((ok.supporters.candidates side x (effect_known t ok.valid n k a x change of)).every end (record { action = n; effect = k; performed = a; change = change; changes = of; stops = stop }))
  demanded_known side n k a x change end of (inr other) = inr other.1

  -- where the box is closed, no rule asks for more on the inner row
  pub inner_satisfied : is_closed t c ≡ true → AreSatisfied t sup s ok inner
  inner_satisfied closed = λ i d h.
      let r = get_or sup.rules i d in
      satisfied r r.supporter.demand (ok.supporters.rules i d h) (all_known t sup s ok i d h) (λ a at. (met i d h).1 r.supporter.action a (omega arith) at)
    where
      met : All (λ r. (0 ≤ r.supporter.action) × OfAction (Demanding t c) 0 t.raw.actions r.supporter) sup.rules
      met =
          all_unmapped (λ o. (0 ≤ o.action) × OfAction (Demanding t c) 0 t.raw.actions o) (λ r. r.supporter) sup.rules
          (subst (All (λ o. (0 ≤ o.action) × OfAction (Demanding t c) 0 t.raw.actions o)) (sym ok.supporters.in_order) (all_supporters (Demanding t c) 0 t.raw.actions (λ k a at. subst (λ (m : ℕ). All (Demanding t c m a) (demands_of a)) (omega arith) (closed_meets t c closed k a at))))

      no_action : {v : Bool} → v ≡ false → v ≡ true → ⊥
      no_action h k = cc

      satisfied : (r : Rule) (d : Demand) → IsRule t sup r d → fact_known t d → ((a : Ground) → slice_get t.raw.actions r.supporter.action ≡ Some a → Demanding t c r.supporter.action a d) → IsSatisfied t sup s ok inner r d
      satisfied r d rule known of asked =
          elim (or_cases (is_reached d r.value (get_or inner r.word 0)) _ asked) [
            | inl reached ↦ reached
            | inr demanded ↦ elim (option_cases (slice_get t.raw.actions r.supporter.action)) [
              | inl none ↦ absurd (no_action (ap (some_passes (λ a. is_demanded t s (box_at t sup s inner) a d r.end)) none) demanded)
              | inr some ↦
                  by_demand d rule known some.0 some.1 (of some.0 some.1)
                  (demanded_wider t s (box_at t sup s inner) c (row_box t sup s ok inner) a_box inner_within some.0 d r.end
                  (sym (ap (some_passes (λ a. is_demanded t s (box_at t sup s inner) a d r.end)) some.1) ∙ demanded))
            ]
          ]
        where
          by_demand : (d : Demand) → IsRule t sup r d → fact_known t d → (a : Ground) → slice_get t.raw.actions r.supporter.action ≡ Some a → Demanding t c r.supporter.action a d
              → is_demanded t s c a d r.end ≡ true → is_reached d r.value (get_or inner r.word 0) ≡ true
          by_demand (MayBe f truth) rule known a at meets holds =
              subst (λ (w : ℕ). says truth (get_or inner w 0) ≡ true) (sym rule.0)
              (subst (λ (w : ℕ). says truth w ≡ true) (sym (fact_word t sup s (λ f. may_word (fact_in c f)) (inner_steps sup c) f known)) (says_inner (fact_in c f) truth (meets at holds)))
          by_demand (Reaches side k) rule known a at meets demanded =
              let act : rule.performed ≡ a = some_same rule.performed a (sym rule.changes.is_action ∙ at) in
              let x = rule.fluent in
              let e : ℕ × Change = (x, rule.change) in
              let ends = ends_of sup side x in
              let of : slice_get a.nums k ≡ Some e = ap (λ (g : Ground). slice_get g.nums k) (sym act) ∙ rule.changes.is_effect in
              let inside = effect_known t ok.valid r.supporter.action k rule.performed x rule.change rule.changes in
              let outward = (ok.supporters.candidates side x inside).outward in
              let parts = and_parts (may_hold t.places c a.pre) _ demanded in
              let passes : may_pass t s c side r.end e ≡ true = sym (ap (some_passes (may_pass t s c side r.end)) of) ∙ parts.1 in
              let further = and_parts (not (covers side (Incl (value x)) r.end)) _ passes in
              let wanted : IsDemandedEnd t.places side a.pre x rule.change r.end = subst (λ (g : Ground). IsDemandedEnd t.places side g.pre x rule.change r.end) act rule.demanded in
              let part : implies (may_move t.places c side x rule.change) (covers side (end_on side (fluent_in c x)) r.end) ≡ true =
              sym (part_is t.places c a.pre x rule.change (fluent_in c x) side r.end wanted) ∙ meets at parts.0 x rule.change of in
              let steps : rank_of side ends r.end ≤ steps_by side ends (get_or inner (end_word t side x) 0) =
              subst (λ (n : ℕ). rank_of side ends r.end ≤ n) (sym (inner_by side x inside))
              (within_reaches side ends outward (end_on side (fluent_in c x)) r.end (demanded_known side r.supporter.action k rule.performed x rule.change r.end rule.changes rule.demanded)
              (implies_true (may_move t.places c side x rule.change) _ part further.1)) in
              subst (λ (w : ℕ). is_reached (Reaches side k) r.value (get_or inner w 0) ≡ true) (sym rule.raises)
              (subst (λ (v : ℕ). is_reached (Reaches side k) v (get_or inner (end_word t side x) 0) ≡ true) (sym rule.raised)
              (steps_reached side ends k (rank_of side ends r.end) (get_or inner (end_word t side x) 0) (omega arith) (rank_few side ends outward r.end) steps))
