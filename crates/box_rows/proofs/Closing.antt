-- A box is closed where it meets each demand of each action, and a row is closed where its box is.
use Rattle.std.proofs.Common.{◌≡◌, ℕ, suc, ◌-◌, ◌<◌, ◌≤◌, ◌==◌, ◌⊎◌, ◌++◌, Bool, true, false, not, ◌&&◌, ◌||◌, List, [], ◌∷◌, Some, All, length, map, get_or, slice_get, leb-true, eqb-true, refl, sym, ap, ◌∙◌, subst, inl, inr, arith}
use Rattle.std.specs.List.{flat_map, list_all, range_with_len}
use Rattle.std.proofs.lemmas.Bool.{and_from, and_parts, both_ways, cases_Bool, le-leb, or_cases, or_left, or_right}
use Rattle.std.proofs.lemmas.Option.{slice_get-get_or, slice_get_within, get_or_from_slice_get}
use Rattle.std.proofs.lemmas.List.Elements.{All-append, All-head, All-map, All-nil, All-tail}
use Rattle.num_ends.specs.Decimal.{Decimal}
use Rattle.num_ends.specs.declared.ends.End.{End}
use Rattle.num_ends.specs.declared.ends.End.TheVariants.{Incl}
use Rattle.ground_task.specs.Meaning.{fluent_value}
use Rattle.ground_task.specs.States.{StateValue}
use Rattle.ground_task.specs.Tasks.{TaskValue, is_listed}
use Rattle.ground_task.specs.Valid.{IsValid, IsValidAction}
use Rattle.ground_task.specs.declared.raw.Change.{Change}
use Rattle.ground_task.specs.declared.raw.Ground.{Ground}
use Rattle.box_model.specs.Boxes.{fact_in, fluent_in, may_be}
use Rattle.box_model.specs.Demands.{covers, end_on, implies, is_closed, is_unmet, meets, meets_change}
use Rattle.box_model.specs.Hold.{may_hold}
use Rattle.box_model.specs.declared.caps.Side.{Side}
use Rattle.box_model.specs.declared.caps.Side.TheVariants.{Upper, Lower}
use Rattle.box_model.specs.declared.state_box.May.{May}
use Rattle.box_model.specs.declared.state_box.StateBox.{StateBox}
use Rattle.box_model.proofs.CapLemmas.{option_cases, some_same}
use Rattle.box_rows.specs.Asking.{is_demanded, is_reached, may_pass, some_passes}
use Rattle.box_rows.specs.BoxRows.{box_at, end_at, says}
use Rattle.box_rows.specs.Candidates.{IsDemandedEnd, IsEffect}
use Rattle.box_rows.specs.Instances.{IsInstance}
use Rattle.box_rows.specs.Moves.{may_move}
use Rattle.box_rows.specs.Ranks.{rank_of, steps_by, word_after}
use Rattle.supporter_count.specs.Counts.{changed_facts}
use Rattle.box_rows.specs.Rules.{IsRule, demands_of, end_word, ends_of, fact_demand, supporters_from, supporters_of}
use Rattle.box_rows.specs.declared.rule.Demand.{Demand}
use Rattle.box_rows.specs.declared.rule.Demand.TheVariants.{MayBe, Reaches}
use Rattle.box_rows.specs.declared.rule.Rule.{Rule}
use Rattle.box_rows.specs.declared.rule.Supporter.{Supporter}
use Rattle.box_rows.specs.Tables.{SupportersValue}
use Rattle.box_rows.proofs.Alls.{OfAction, all_effects, all_first, all_given, all_listed, all_second, all_supporters, all_unique, all_unmapped, both, effects_all, from_list_all, list_all_from, supporters_all, unique_all}
use Rattle.box_rows.proofs.Chains.{after_reaches, rank_few, reached_after}
use Rattle.box_rows.proofs.Meets.{meets_part, meets_parts, part_is}
use Rattle.box_rows.proofs.RowBoxes.{covers_value, end_in_box, fact_in_box, may_says, says_may}
use Rattle.box_rows.proofs.Sides.{side_trans}

-- ---- the demands of an action on a box

module _ (places : List ℕ) (b : StateBox) (a : Ground) where
  abbrev pub IsMet : Demand → Type 0
  IsMet (MayBe f truth) = may_be (fact_in b f) truth ≡ true
  IsMet (Reaches side effect) = (x : ℕ) (change : Change) → slice_get a.nums effect ≡ Some (x, change) → meets_part places b a.pre x change (fluent_in b x) side ≡ true

  abbrev of_fact : ℕ → Type 0
  of_fact f = may_be (fact_in b f) (is_listed a.adds f) ≡ true

  added : (f : ℕ) → is_listed a.adds f ≡ true → of_fact f → may_be (fact_in b f) true ≡ true
  added f h k = subst (λ (v : Bool). may_be (fact_in b f) v ≡ true) h k

  deleted : (f : ℕ) → of_fact f → (is_listed a.adds f || may_be (fact_in b f) false) ≡ true
  deleted f k =
      elim (cases_Bool (is_listed a.adds f)) [
        | inl h ↦ or_left (is_listed a.adds f) _ h
        | inr h ↦ or_right (is_listed a.adds f) _ (subst (λ (v : Bool). may_be (fact_in b f) v ≡ true) h k)
      ]

  undeleted : (f : ℕ) → may_be (fact_in b f) true ≡ true ⊎ (is_listed a.adds f ≡ false) → (is_listed a.adds f || may_be (fact_in b f) false) ≡ true → of_fact f
  undeleted f (inr h) k = elim (or_cases (is_listed a.adds f) _ k) [
    | inl l ↦ absurd (both_ways (is_listed a.adds f) h l)
    | inr m ↦ subst (λ (v : Bool). may_be (fact_in b f) v ≡ true) (sym h) m
  ]
  undeleted f (inl m) k = elim (cases_Bool (is_listed a.adds f)) [
    | inl h ↦ subst (λ (v : Bool). may_be (fact_in b f) v ≡ true) (sym h) m
    | inr h ↦ elim (or_cases (is_listed a.adds f) _ k) [
      | inl l ↦ absurd (both_ways (is_listed a.adds f) h l)
      | inr n ↦ subst (λ (v : Bool). may_be (fact_in b f) v ≡ true) (sym h) n
    ]
  ]

  pub demands_meet : All IsMet (demands_of a) → meets places b a ≡ true
  demands_meet all =
      let facts = all_unmapped IsMet (fact_demand a) (changed_facts a) (all_first IsMet (map (fact_demand a) (changed_facts a)) (flat_map both (range_with_len 0 (length a.nums))) all) in
      let changed : All of_fact (a.adds ++ a.dels) = unique_all of_fact (a.adds ++ a.dels) facts in
      let adds = all_first of_fact a.adds a.dels changed in
      let dels = all_second of_fact a.adds a.dels changed in
      let effects = all_second IsMet (map (fact_demand a) (changed_facts a)) (flat_map both (range_with_len 0 (length a.nums))) all in
      and_from (list_all (λ f. may_be (fact_in b f) true) a.adds && list_all (λ f. is_listed a.adds f || may_be (fact_in b f) false) a.dels) _
      (and_from (list_all (λ f. may_be (fact_in b f) true) a.adds) _
      (list_all_from (λ f. may_be (fact_in b f) true) a.adds (λ i d h. added (get_or a.adds i d) (all_listed a.adds i d h) (adds i d h)))
      (list_all_from (λ f. is_listed a.adds f || may_be (fact_in b f) false) a.dels (all_given of_fact (λ f. (is_listed a.adds f || may_be (fact_in b f) false) ≡ true) a.dels deleted dels)))
      (list_all_from (λ e. meets_change places b a.pre e.0 e.1) a.nums (λ i d h.
      let e = get_or a.nums i d in
      let met = effects_all IsMet 0 (length a.nums) effects i (omega arith) (omega (arith, h)) in
      let at : slice_get a.nums i ≡ Some e = slice_get-get_or a.nums i d h in
      meets_parts places b a.pre e.0 e.1 (fluent_in b e.0)
      ∙ and_from (meets_part places b a.pre e.0 e.1 (fluent_in b e.0) Upper) _ (met.0 e.0 e.1 at) (met.1 e.0 e.1 at)))

  pub meets_demands : meets places b a ≡ true → All IsMet (demands_of a)
  meets_demands h =
      let one = and_parts (list_all (λ f. may_be (fact_in b f) true) a.adds && list_all (λ f. is_listed a.adds f || may_be (fact_in b f) false) a.dels) _ h in
      let two = and_parts (list_all (λ f. may_be (fact_in b f) true) a.adds) _ one.0 in
      let adds = from_list_all (λ f. may_be (fact_in b f) true) a.adds two.0 in
      let dels = from_list_all (λ f. is_listed a.adds f || may_be (fact_in b f) false) a.dels two.1 in
      let nums = from_list_all (λ e. meets_change places b a.pre e.0 e.1) a.nums one.1 in
      let facts : All of_fact (a.adds ++ a.dels) =
      All-append of_fact a.adds a.dels
      (λ i d k. subst (λ (v : Bool). may_be (fact_in b (get_or a.adds i d)) v ≡ true) (sym (all_listed a.adds i d k)) (adds i d k))
      (λ i d k. fact_deleted (get_or a.dels i d) adds (dels i d k)) in
      All-append IsMet (map (fact_demand a) (changed_facts a)) (flat_map both (range_with_len 0 (length a.nums)))
      (All-map IsMet (fact_demand a) (changed_facts a) (all_unique of_fact (a.adds ++ a.dels) facts))
      (all_effects IsMet 0 (length a.nums) (λ k low high.
      (λ x change at. (side_parts x change k at nums).0, λ x change at. (side_parts x change k at nums).1)))
    where
      listed_may : (xs : List ℕ) (f : ℕ) → All (λ g. may_be (fact_in b g) true ≡ true) xs → is_listed xs f ≡ true → may_be (fact_in b f) true ≡ true
      listed_may [] f all h = absurd cc
      listed_may (x ∷ xs) f all h =
          elim (or_cases (x == f) (is_listed xs f) h) [
            | inl here ↦ subst (λ (g : ℕ). may_be (fact_in b g) true ≡ true) (eqb-true x f here) (All-head (λ g. may_be (fact_in b g) true ≡ true) x xs all)
            | inr later ↦ listed_may xs f (All-tail (λ g. may_be (fact_in b g) true ≡ true) x xs all) later
          ]

      fact_deleted : (f : ℕ) → All (λ g. may_be (fact_in b g) true ≡ true) a.adds → (is_listed a.adds f || may_be (fact_in b f) false) ≡ true → of_fact f
      fact_deleted f adds k =
          elim (cases_Bool (is_listed a.adds f)) [
            | inl listed ↦ undeleted f (inl (listed_may a.adds f adds listed)) k
            | inr other ↦ undeleted f (inr other) k
          ]

      side_parts : (x : ℕ) (change : Change) (k : ℕ) → slice_get a.nums k ≡ Some (x, change) → All (λ e. meets_change places b a.pre e.0 e.1 ≡ true) a.nums
          → (meets_part places b a.pre x change (fluent_in b x) Upper ≡ true) × (meets_part places b a.pre x change (fluent_in b x) Lower ≡ true)
      side_parts x change k at all =
          let e : ℕ × Change = (x, change) in
          let here : get_or a.nums k e ≡ e = get_or_from_slice_get a.nums k e e at in
          let met : meets_change places b a.pre x change ≡ true = subst (λ (o : ℕ × Change). meets_change places b a.pre o.0 o.1 ≡ true) here (all k e (slice_get_within a.nums k e at)) in
          and_parts (meets_part places b a.pre x change (fluent_in b x) Upper) _ (sym (meets_parts places b a.pre x change (fluent_in b x)) ∙ met)

-- ---- closed boxes

unmet_not : (p m : Bool) → not (p && not m) ≡ true → p ≡ true → m ≡ true
unmet_not true true h k = refl
unmet_not true false h k = h
unmet_not false m h k = absurd cc

met_not : (p m : Bool) → (p ≡ true → m ≡ true) → not (p && not m) ≡ true
met_not true m h = rw (h refl) refl
met_not false m h = refl

-- an action whose precondition may hold meets its demands
abbrev pub Demanding : TaskValue → StateBox → ℕ → Ground → Demand → Type 0
Demanding t b n a d = slice_get t.raw.actions n ≡ Some a → may_hold t.places b a.pre ≡ true → IsMet t.places b a d

pub closed_meets : (t : TaskValue) (b : StateBox) → is_closed t b ≡ true → (n : ℕ) (a : Ground) → slice_get t.raw.actions n ≡ Some a → All (Demanding t b n a) (demands_of a)
closed_meets t b h n a at =
    let all = from_list_all (λ a. not (is_unmet t.places b a)) t.raw.actions h in
    let here : get_or t.raw.actions n a ≡ a = get_or_from_slice_get t.raw.actions n a a at in
    let one : not (is_unmet t.places b a) ≡ true = subst (λ (a : Ground). not (is_unmet t.places b a) ≡ true) here (all n a (slice_get_within t.raw.actions n a at)) in
    elim (cases_Bool (may_hold t.places b a.pre)) [
      | inl holds ↦
          all_given (IsMet t.places b a) (Demanding t b n a) (demands_of a) (λ d m. λ at k. m) (meets_demands t.places b a (unmet_not (may_hold t.places b a.pre) (meets t.places b a) one holds))
      | inr fails ↦ λ i d inside. λ at k. absurd (both_ways (may_hold t.places b a.pre) fails k)
    ]

pub meets_closed : (t : TaskValue) (b : StateBox) → ((n : ℕ) (a : Ground) → slice_get t.raw.actions n ≡ Some a → All (Demanding t b n a) (demands_of a)) → is_closed t b ≡ true
meets_closed t b h =
    list_all_from (λ a. not (is_unmet t.places b a)) t.raw.actions (λ i d inside.
    let a = get_or t.raw.actions i d in
    let at : slice_get t.raw.actions i ≡ Some a = slice_get-get_or t.raw.actions i d inside in
    met_not (may_hold t.places b a.pre) (meets t.places b a) (λ holds.
    demands_meet t.places b a (all_given (Demanding t b i a) (IsMet t.places b a) (demands_of a) (λ d m. m at holds) (h i a at))))

-- ---- rules

implies_from : (p q : Bool) → (p ≡ true → q ≡ true) → implies p q ≡ true
implies_from true q h = h refl
implies_from false q h = refl

pub implies_true : (p q : Bool) → implies p q ≡ true → p ≡ true → q ≡ true
implies_true true q h k = h
implies_true false q h k = absurd cc

not_from : (b : Bool) → b ≡ false → not b ≡ true
not_from true h = absurd cc
not_from false h = refl

not_to : (b : Bool) → not b ≡ true → b ≡ false
not_to true h = absurd cc
not_to false h = refl

-- the steps that a row says reach those that are asked
pub reached_steps : (side : Side) (ends : List End) (k r w : ℕ) → 1 ≤ r → r ≤ suc (length ends) → is_reached (Reaches side k) (word_after side ends r) w ≡ true → r ≤ steps_by side ends w
reached_steps Upper ends k r w low high h = leb-true r w h
reached_steps Lower ends k r w low high h = omega (arith, low, high, leb-true w (suc (length ends) - r) h)

pub steps_reached : (side : Side) (ends : List End) (k r w : ℕ) → 1 ≤ r → r ≤ suc (length ends) → r ≤ steps_by side ends w → is_reached (Reaches side k) (word_after side ends r) w ≡ true
steps_reached Upper ends k r w low high h = le-leb r w h
steps_reached Lower ends k r w low high h = le-leb w (suc (length ends) - r) (omega (arith, low, high, h))

-- the fluent of an effect is one of the task
pub effect_known : (t : TaskValue) → IsValid t.raw → (n k : ℕ) (a : Ground) (x : ℕ) (change : Change) → IsEffect t n k a x change → x < length t.raw.fluents
effect_known t valid n k a x change of =
    let e : ℕ × Change = (x, change) in
    let action : IsValidAction (length t.raw.facts) (length t.raw.fluents) a =
    subst (IsValidAction (length t.raw.facts) (length t.raw.fluents)) (get_or_from_slice_get t.raw.actions n a a of.is_action) (valid.valid_actions n a (slice_get_within t.raw.actions n a of.is_action)) in
    subst (λ (e : ℕ × Change). e.0 < length t.raw.fluents) (get_or_from_slice_get a.nums k e e of.is_effect) (action.known_fluents k e (slice_get_within a.nums k e of.is_effect))

abbrev pub fact_known : TaskValue → Demand → Type 0
fact_known t (MayBe f truth) = f < length t.raw.facts
fact_known t (Reaches side effect) = Unit {0}

abbrev KnownOf : TaskValue → Supporter → Type 0
KnownOf t o = fact_known t o.demand

abbrev tag : ℕ → Demand → Supporter
tag n d = record { action = n; demand = d }

module _ (t : TaskValue) (sup : SupportersValue) (s : StateValue) (ok : IsInstance t sup s) where
  abbrev value : ℕ → Decimal
  value = fluent_value t.places s

  -- each fact of a supporter is one of the task
  pub all_known : All (λ r. fact_known t r.supporter.demand) sup.rules
  all_known =
      all_unmapped (KnownOf t) (λ r. r.supporter) sup.rules
      (subst (All (KnownOf t)) (sym ok.supporters.in_order) listed)
    where
      known_of : (a : Ground) → IsValidAction (length t.raw.facts) (length t.raw.fluents) a → All (fact_known t) (demands_of a)
      known_of a valid =
          All-append (fact_known t) (map (fact_demand a) (changed_facts a)) (flat_map both (range_with_len 0 (length a.nums)))
          (All-map (fact_known t) (fact_demand a) (changed_facts a)
          (all_unique (λ f. f < length t.raw.facts) (a.adds ++ a.dels) (All-append (λ f. f < length t.raw.facts) a.adds a.dels valid.known_adds valid.known_dels)))
          (all_effects (fact_known t) 0 (length a.nums) (λ k low high. (tt, tt)))

      listed : All (KnownOf t) (supporters_of t)
      listed = from_actions 0 t.raw.actions ok.valid.valid_actions
        where
          from_actions : (n : ℕ) (others : List Ground) → All (IsValidAction (length t.raw.facts) (length t.raw.fluents)) others → All (KnownOf t) (supporters_from n others)
          from_actions n [] all = All-nil (KnownOf t)
          from_actions n (a ∷ others) all =
              All-append (KnownOf t) (map (tag n) (demands_of a)) (supporters_from (suc n) others)
              (All-map (KnownOf t) (tag n) (demands_of a) (known_of a (All-head (IsValidAction (length t.raw.facts) (length t.raw.fluents)) a others all)))
              (from_actions (suc n) others (All-tail (IsValidAction (length t.raw.facts) (length t.raw.fluents)) a others all))

  module _ (row : List ℕ) where
    abbrev b : StateBox
    b = box_at t sup s row

    abbrev asks : Rule → Demand → Bool
    asks r d = is_reached d r.value (get_or row r.word 0) || some_passes (λ a. is_demanded t s b a d r.end) (slice_get t.raw.actions r.supporter.action)

    abbrev pub IsSatisfied : Rule → Demand → Type 0
    IsSatisfied r d = asks r d ≡ true → is_reached d r.value (get_or row r.word 0) ≡ true

    -- ---- a rule that asks for nothing more has its demand met
    pub met_by : (r : Rule) (d : Demand) → IsRule t sup r d → fact_known t d → IsSatisfied r d → (a : Ground) → Demanding t b r.supporter.action a d
    met_by r (MayBe f truth) rule known satisfied a = λ at holds.
        let asked : some_passes (λ a. is_demanded t s b a (MayBe f truth) r.end) (slice_get t.raw.actions r.supporter.action) ≡ true =
        ap (some_passes (λ a. is_demanded t s b a (MayBe f truth) r.end)) at ∙ holds in
        let said : says truth (get_or row f 0) ≡ true = subst (λ (w : ℕ). says truth (get_or row w 0) ≡ true) rule.0 (satisfied (or_right (says truth (get_or row r.word 0)) _ asked)) in
        subst (λ (m : May). may_be m truth ≡ true) (sym (fact_in_box t sup s ok row f known)) (says_may (get_or s.facts f false) truth (get_or row f 0) said)
    met_by r (Reaches side k) rule known satisfied a = λ at holds x change of.
        let ends = ends_of sup side rule.fluent in
        let act : rule.performed ≡ a = some_same rule.performed a (sym rule.changes.is_action ∙ at) in
        let eff : ◌≡◌ {A = ℕ × Change} (rule.fluent, rule.change) (x, change) = some_same (rule.fluent, rule.change) (x, change) (sym rule.changes.is_effect ∙ ap (λ (g : Ground). slice_get g.nums k) act ∙ of) in
        let inside = effect_known t ok.valid r.supporter.action k rule.performed rule.fluent rule.change rule.changes in
        let outward = (ok.supporters.candidates side rule.fluent inside).outward in
        let i = fluent_in b rule.fluent in
        let part : implies (may_move t.places b side rule.fluent rule.change) (covers side (end_on side i) r.end) ≡ true =
        implies_from (may_move t.places b side rule.fluent rule.change) (covers side (end_on side i) r.end) (λ moves.
        elim (cases_Bool (covers side (Incl (value rule.fluent)) r.end)) [
          | inl here ↦
              subst (λ (e : End). covers side e r.end ≡ true) (sym (end_in_box t sup s ok row side rule.fluent inside))
              (side_trans side (end_at t sup s row side rule.fluent) (Incl (value rule.fluent)) r.end (covers_value t sup s ok row side rule.fluent inside) here)
          | inr further ↦
              let passes : may_pass t s b side r.end (rule.fluent, rule.change) ≡ true = and_from _ _ (not_from (covers side (Incl (value rule.fluent)) r.end) further) moves in
              let demanded : is_demanded t s b rule.performed (Reaches side k) r.end ≡ true =
              and_from (may_hold t.places b rule.performed.pre) _ (ap (λ (g : Ground). may_hold t.places b g.pre) act ∙ holds) (ap (some_passes (may_pass t s b side r.end)) rule.changes.is_effect ∙ passes) in
              let asked : asks r (Reaches side k) ≡ true =
              or_right (is_reached (Reaches side k) r.value (get_or row r.word 0)) _ (ap (some_passes (λ a. is_demanded t s b a (Reaches side k) r.end)) rule.changes.is_action ∙ demanded) in
              let reached : is_reached (Reaches side k) (word_after side ends (rank_of side ends r.end)) (get_or row (end_word t side rule.fluent) 0) ≡ true =
              subst (λ (v : ℕ). is_reached (Reaches side k) v (get_or row (end_word t side rule.fluent) 0) ≡ true) rule.raised
              (subst (λ (w : ℕ). is_reached (Reaches side k) r.value (get_or row w 0) ≡ true) rule.raises (satisfied asked)) in
              let steps = reached_steps side ends k (rank_of side ends r.end) (get_or row (end_word t side rule.fluent) 0) (omega arith) (rank_few side ends outward r.end) reached in
              subst (λ (e : End). covers side e r.end ≡ true) (sym (end_in_box t sup s ok row side rule.fluent inside))
              (after_reaches side ends outward (value rule.fluent) (steps_by side ends (get_or row (end_word t side rule.fluent) 0)) r.end steps)
        ]) in
        subst (λ (e : ℕ × Change). meets_part t.places b a.pre e.0 e.1 (fluent_in b e.0) side ≡ true) eff
        (subst (λ (g : Ground). meets_part t.places b g.pre rule.fluent rule.change i side ≡ true) act
        (part_is t.places b rule.performed.pre rule.fluent rule.change i side r.end rule.demanded ∙ part))

    -- ---- and where its demand is met, it asks for nothing more

    abbrev pub SaysOwn : Type 0
    SaysOwn = (f : ℕ) → f < length t.raw.facts → says (get_or s.facts f false) (get_or row f 0) ≡ true

    pub satisfied_by : (r : Rule) (d : Demand) → IsRule t sup r d → fact_known t d → SaysOwn → ((a : Ground) → Demanding t b r.supporter.action a d) → IsSatisfied r d
    satisfied_by r d rule known own met asked =
        elim (or_cases (is_reached d r.value (get_or row r.word 0)) _ asked) [
          | inl reached ↦ reached
          | inr demanded ↦ elim (option_cases (slice_get t.raw.actions r.supporter.action)) [
            | inl none ↦ absurd (no_action (ap (some_passes (λ a. is_demanded t s b a d r.end)) none) demanded)
            | inr some ↦ by_demand d rule known some.0 some.1 (met some.0) (sym (ap (some_passes (λ a. is_demanded t s b a d r.end)) some.1) ∙ demanded)
          ]
        ]
      where
        no_action : {v : Bool} → v ≡ false → v ≡ true → ⊥
        no_action h k = cc

        by_demand : (d : Demand) → IsRule t sup r d → fact_known t d → (a : Ground) → slice_get t.raw.actions r.supporter.action ≡ Some a → Demanding t b r.supporter.action a d
            → is_demanded t s b a d r.end ≡ true → is_reached d r.value (get_or row r.word 0) ≡ true
        by_demand (MayBe f truth) rule known a at met holds =
            subst (λ (w : ℕ). says truth (get_or row w 0) ≡ true) (sym rule.0)
            (elim (may_says (get_or s.facts f false) truth (get_or row f 0) (subst (λ (m : May). may_be m truth ≡ true) (fact_in_box t sup s ok row f known) (met at holds))) [
              | inl same ↦ subst (λ (v : Bool). says v (get_or row f 0) ≡ true) same (own f known)
              | inr said ↦ said
            ])
        by_demand (Reaches side k) rule known a at met demanded =
            let act : rule.performed ≡ a = some_same rule.performed a (sym rule.changes.is_action ∙ at) in
            let x = rule.fluent in
            let e : ℕ × Change = (x, rule.change) in
            let ends = ends_of sup side x in
            let of : slice_get a.nums k ≡ Some e = ap (λ (g : Ground). slice_get g.nums k) (sym act) ∙ rule.changes.is_effect in
            let inside = effect_known t ok.valid r.supporter.action k rule.performed x rule.change rule.changes in
            let outward = (ok.supporters.candidates side x inside).outward in
            let word = get_or row (end_word t side x) 0 in
            let parts = and_parts (may_hold t.places b a.pre) _ demanded in
            let passes : may_pass t s b side r.end e ≡ true = sym (ap (some_passes (may_pass t s b side r.end)) of) ∙ parts.1 in
            let further = and_parts (not (covers side (Incl (value x)) r.end)) _ passes in
            let wanted : IsDemandedEnd t.places side a.pre x rule.change r.end = subst (λ (g : Ground). IsDemandedEnd t.places side g.pre x rule.change r.end) act rule.demanded in
            let part : implies (may_move t.places b side x rule.change) (covers side (end_on side (fluent_in b x)) r.end) ≡ true =
            sym (part_is t.places b a.pre x rule.change (fluent_in b x) side r.end wanted) ∙ met at parts.0 x rule.change of in
            let covered : covers side (end_at t sup s row side x) r.end ≡ true =
            subst (λ (e : End). covers side e r.end ≡ true) (end_in_box t sup s ok row side x inside) (implies_true (may_move t.places b side x rule.change) _ part further.1) in
            let steps : rank_of side ends r.end ≤ steps_by side ends word =
            elim (reached_after side ends outward (value x) (steps_by side ends word) r.end covered) [
              | inl here ↦ absurd (both_ways (covers side (Incl (value x)) r.end) (not_to (covers side (Incl (value x)) r.end) further.0) here)
              | inr far ↦ far
            ] in
            subst (λ (w : ℕ). is_reached (Reaches side k) r.value (get_or row w 0) ≡ true) (sym rule.raises)
            (subst (λ (v : ℕ). is_reached (Reaches side k) v word ≡ true) (sym rule.raised)
            (steps_reached side ends k (rank_of side ends r.end) word (omega arith) (rank_few side ends outward r.end) steps))

    -- ---- all rules

    abbrev pub AreSatisfied : Type 0
    AreSatisfied = All (λ r. IsSatisfied r r.supporter.demand) sup.rules

    pub satisfied_closes : AreSatisfied → is_closed t b ≡ true
    satisfied_closes all =
        meets_closed t b (λ n a at.
        subst (λ (m : ℕ). All (Demanding t b m a) (demands_of a)) (omega arith)
        (supporters_all (Demanding t b) 0 t.raw.actions
        (subst (All (λ o. (a : Ground) → Demanding t b o.action a o.demand)) ok.supporters.in_order
        (All-map (λ o. (a : Ground) → Demanding t b o.action a o.demand) (λ r. r.supporter) sup.rules
        (λ i d h. let r = get_or sup.rules i d in met_by r r.supporter.demand (ok.supporters.rules i d h) (all_known i d h) (all i d h))))
        n a at))

    pub closed_satisfies : is_closed t b ≡ true → SaysOwn → AreSatisfied
    closed_satisfies closed own = λ i d h.
        let listed = all_supporters (Demanding t b) 0 t.raw.actions (λ k a at. subst (λ (m : ℕ). All (Demanding t b m a) (demands_of a)) (omega arith) (closed_meets t b closed k a at)) in
        let met = all_unmapped (λ o. (0 ≤ o.action) × OfAction (Demanding t b) 0 t.raw.actions o) (λ r. r.supporter) sup.rules (subst (All (λ o. (0 ≤ o.action) × OfAction (Demanding t b) 0 t.raw.actions o)) (sym ok.supporters.in_order) listed) in
        let r = get_or sup.rules i d in
        satisfied_by r r.supporter.demand (ok.supporters.rules i d h) (all_known i d h) own (λ a. λ at holds. (met i d h).1 r.supporter.action a (omega arith) at at holds)
