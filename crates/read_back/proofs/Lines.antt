-- The lines of boxes and states spell them.
use Rattle.std.proofs.Common.{◌≡◌, ◌≢◌, ℕ, suc, ◌<◌, ℤ, Bool, true, false, List, [], ◌∷◌, ◌++◌, All, codes, get_or, inl, inr, length, refl, sym, subst, arith, append_assoc}
use Rattle.std.proofs.lemmas.Bool.{and_parts, cases_Bool}
use Rattle.std.proofs.lemmas.List.Elements.{All-head, All-tail}
use Rattle.std.specs.List.{list_all, join_with_byte}
use Rattle.num_ends.specs.Decimal.{Decimal, InRange, trimmed}
use Rattle.num_ends.specs.Ends.{Interval, whole_line}
use Rattle.num_ends.specs.Names.{begins_name, continues_name, is_name, IsGroundText}
use Rattle.num_ends.specs.Texts.{decimal_text, interval_text, lower_text, upper_text}
use Rattle.num_ends.specs.declared.ends.End.{End}
use Rattle.num_ends.specs.declared.ends.End.TheVariants.{NegInf, Excl, Incl, PosInf}
use Rattle.num_ends.proofs.Trimmed.{trimmed_range}
use Rattle.ground_task.specs.Placed.{IsPlaced}
use Rattle.ground_task.specs.States.{StateValue}
use Rattle.ground_task.specs.Tasks.{IsStateOf, TaskValue}
use Rattle.ground_task.specs.Valid.{IsValid}
use Rattle.box_model.specs.Boxes.{IsBoxOf, IsEndFor}
use Rattle.box_model.specs.declared.state_box.May.{May}
use Rattle.box_model.specs.declared.state_box.May.TheVariants.{True, False, Any}
use Rattle.box_model.specs.declared.state_box.StateBox.{StateBox}
use Rattle.cert_text.specs.declared.cert.Version.TheVariants.{Short}
use Rattle.cert_text.specs.Lines.{decimals_of, fact_part, fluent_part, is_unbounded, may_text, part_text, state_facts, state_fluents, truth_text, version_fact_parts, version_fluent_parts}
use Rattle.cert_reader.specs.Parts.{IsWithout}
use Rattle.cert_reader.specs.Spelling.{SpellsBox, SpellsState}
use Rattle.cert_reader.proofs.Numbers.{IsForeign, decided, decimal_without, without_append}
use Rattle.read_back.specs.Certificates.{trimmed_box}
use Rattle.read_back.proofs.Ends.{decimal_spelled}
use Rattle.read_back.proofs.Parts.{IsIntervalFor, facts_said, fluents_said, numbers_said, truths_said}

-- ---- texts without a line feed

abbrev pub IsFeedless : List ℕ → Type 0
IsFeedless text = IsWithout 10 text

feed_foreign : IsForeign 10
feed_foreign = record { no_digit = λ x digit e. absurd (omega arith); no_minus = λ e. absurd (omega arith); no_point = λ e. absurd (omega arith) }

decimal_feedless : (d : Decimal) → InRange (trimmed d).n → IsFeedless (decimal_text d)
decimal_feedless d fits = decimal_without 10 feed_foreign (trimmed d).p (decimal_text d) (trimmed d) (decimal_spelled (trimmed d).p d (omega arith) fits)

lower_feedless : (places : ℕ) (e : End) → IsEndFor places e → IsFeedless (lower_text e)
lower_feedless places NegInf fits = decided 10 (codes "(-inf") refl
lower_feedless places (Excl d) fits = without_append 10 (codes "(") (decimal_text d) (decided 10 (codes "(") refl) (decimal_feedless d fits.1)
lower_feedless places (Incl d) fits = without_append 10 (codes "[") (decimal_text d) (decided 10 (codes "[") refl) (decimal_feedless d fits.1)
lower_feedless places PosInf fits = decided 10 (codes "(inf") refl

upper_feedless : (places : ℕ) (e : End) → IsEndFor places e → IsFeedless (upper_text e)
upper_feedless places NegInf fits = decided 10 (codes "-inf)") refl
upper_feedless places (Excl d) fits = without_append 10 (decimal_text d) (codes ")") (decimal_feedless d fits.1) (decided 10 (codes ")") refl)
upper_feedless places (Incl d) fits = without_append 10 (decimal_text d) (codes "]") (decimal_feedless d fits.1) (decided 10 (codes "]") refl)
upper_feedless places PosInf fits = decided 10 (codes "inf)") refl

interval_feedless : (places : ℕ) (i : Interval) → IsIntervalFor places i → IsFeedless (interval_text i)
interval_feedless places i fits =
    without_append 10 (lower_text i.0 ++ codes ",") (upper_text i.1)
    (without_append 10 (lower_text i.0) (codes ",") (lower_feedless places i.0 fits.lower) (decided 10 (codes ",") refl))
    (upper_feedless places i.1 fits.upper)

may_feedless : (may : May) → IsFeedless (may_text may)
may_feedless True = decided 10 (codes "true") refl
may_feedless False = decided 10 (codes "false") refl
may_feedless Any = decided 10 (codes "any") refl

truth_feedless : (truth : Bool) → IsFeedless (truth_text truth)
truth_feedless true = decided 10 (codes "true") refl
truth_feedless false = decided 10 (codes "false") refl

-- ---- names

byte_of_name : (b : ℕ) → continues_name b ≡ true → b ≢ 10
byte_of_name b h e = let none : continues_name 10 ≡ true = subst (λ (x : ℕ). continues_name x ≡ true) e h in cc

begins_not : (b : ℕ) → begins_name b ≡ true → b ≢ 10
begins_not b h e = let none : begins_name 10 ≡ true = subst (λ (x : ℕ). begins_name x ≡ true) e h in cc

bytes_of_name : (bs : List ℕ) → list_all continues_name bs ≡ true → IsFeedless bs
bytes_of_name [] h = tt
bytes_of_name (b ∷ bs) h =
    let both = and_parts (continues_name b) (list_all continues_name bs) h in (byte_of_name b both.0, bytes_of_name bs both.1)

name_feedless : (name : List ℕ) → is_name name ≡ true → IsFeedless name
name_feedless [] h = tt
name_feedless (b ∷ bs) h =
    let both = and_parts (begins_name b) (list_all continues_name bs) h in (begins_not b both.0, bytes_of_name bs both.1)

names_feedless : (name : List ℕ) (names : List (List ℕ)) → is_name name ≡ true → list_all is_name names ≡ true → IsFeedless (join_with_byte 32 (name ∷ names))
names_feedless name [] h k = name_feedless name h
names_feedless name (other ∷ names) h k =
    let both = and_parts (is_name other) (list_all is_name names) k in
    without_append 10 name (32 ∷ join_with_byte 32 (other ∷ names)) (name_feedless name h) ((λ e. absurd (omega arith)), names_feedless other names both.0 both.1)

text_feedless : (text : List ℕ) → IsGroundText text → IsFeedless text
text_feedless text is =
    subst IsFeedless (sym is.spelled)
    (without_append 10 (codes "(" ++ join_with_byte 32 (is.name ∷ is.objects)) (codes ")")
    ((λ e. absurd (omega arith)), names_feedless is.name is.objects is.a_name is.object_names) (decided 10 (codes ")") refl))

all_feedless : (texts : List (List ℕ)) → All IsGroundText texts → All IsFeedless texts
all_feedless texts h = λ k d l. text_feedless (get_or texts k d) (h k d l)

-- ---- parts

part_feedless : (name said : List ℕ) → IsFeedless name → IsFeedless said → IsFeedless (part_text name said)
part_feedless name said h k =
    without_append 10 (codes " " ++ name ++ codes "=") said
    (without_append 10 (codes " " ++ name) (codes "=") (without_append 10 (codes " ") name (decided 10 (codes " ") refl) h) (decided 10 (codes "=") refl)) k

fact_feedless : (name : List ℕ) (may : May) → IsFeedless name → IsFeedless (fact_part Short name may)
fact_feedless name True h = part_feedless name (may_text True) h (may_feedless True)
fact_feedless name False h = part_feedless name (may_text False) h (may_feedless False)
fact_feedless name Any h = tt

fluent_feedless : (name : List ℕ) (places : ℕ) (i : Interval) → IsFeedless name → IsIntervalFor places i → IsFeedless (fluent_part Short name i)
fluent_feedless name places i h fits =
    elim (cases_Bool (is_unbounded i)) [
      | inl e ↦ rw e tt
      | inr e ↦ rw e (part_feedless name (interval_text i) h (interval_feedless places i fits))
    ]

facts_feedless : (names : List (List ℕ)) (facts : List May) → All IsFeedless names → IsFeedless (version_fact_parts Short names facts)
facts_feedless [] facts h = tt
facts_feedless (name ∷ names) [] h = tt
facts_feedless (name ∷ names) (may ∷ facts) h =
    without_append 10 (fact_part Short name may) (version_fact_parts Short names facts)
    (fact_feedless name may (All-head IsFeedless name names h)) (facts_feedless names facts (All-tail IsFeedless name names h))

fluents_feedless : (names : List (List ℕ)) (places : List ℕ) (fluents : List Interval) → All IsFeedless names
    → ((x : ℕ) → x < length fluents → IsIntervalFor (get_or places x 0) (get_or fluents x whole_line))
    → IsFeedless (version_fluent_parts Short names fluents)
fluents_feedless [] places fluents h fits = tt
fluents_feedless (name ∷ names) places [] h fits = tt
fluents_feedless (name ∷ names) [] (i ∷ fluents) h fits =
    without_append 10 (fluent_part Short name i) (version_fluent_parts Short names fluents)
    (fluent_feedless name 0 i (All-head IsFeedless name names h) (fits 0 (omega arith)))
    (fluents_feedless names [] fluents (All-tail IsFeedless name names h) (λ x l. fits (suc x) (omega (arith, l))))
fluents_feedless (name ∷ names) (p ∷ places) (i ∷ fluents) h fits =
    without_append 10 (fluent_part Short name i) (version_fluent_parts Short names fluents)
    (fluent_feedless name p i (All-head IsFeedless name names h) (fits 0 (omega arith)))
    (fluents_feedless names places fluents (All-tail IsFeedless name names h) (λ x l. fits (suc x) (omega (arith, l))))

truths_feedless : (names : List (List ℕ)) (truths : List Bool) → All IsFeedless names → IsFeedless (state_facts names truths)
truths_feedless [] truths h = tt
truths_feedless (name ∷ names) [] h = tt
truths_feedless (name ∷ names) (truth ∷ truths) h =
    without_append 10 (part_text name (truth_text truth)) (state_facts names truths)
    (part_feedless name (truth_text truth) (All-head IsFeedless name names h) (truth_feedless truth))
    (truths_feedless names truths (All-tail IsFeedless name names h))

numbers_feedless : (names : List (List ℕ)) (places : List ℕ) (values : List ℤ) → All IsFeedless names → All InRange values
    → IsFeedless (state_fluents names (decimals_of places values))
numbers_feedless [] places values h fits = tt
numbers_feedless (name ∷ names) [] values h fits = tt
numbers_feedless (name ∷ names) (p ∷ places) [] h fits = tt
numbers_feedless (name ∷ names) (p ∷ places) (n ∷ values) h fits =
    let d : Decimal = record { n = n; p = p } in
    without_append 10 (part_text name (decimal_text d)) (state_fluents names (decimals_of places values))
    (part_feedless name (decimal_text d) (All-head IsFeedless name names h) (decimal_feedless d (trimmed_range d (All-head InRange n values fits))))
    (numbers_feedless names places values (All-tail IsFeedless name names h) (All-tail InRange n values fits))

-- ---- lines

-- the lines without their line feeds
abbrev pub box_text : TaskValue → StateBox → List ℕ
box_text t b = codes "box" ++ version_fact_parts Short t.raw.facts b.facts ++ version_fluent_parts Short t.raw.fluents b.fluents

abbrev pub state_text : TaskValue → StateValue → List ℕ
state_text t s = codes "state" ++ state_facts t.raw.facts s.facts ++ state_fluents t.raw.fluents (decimals_of t.places s.values)

module _ (t : TaskValue) (valid : IsValid t.raw) (placed : IsPlaced t.raw t.places) where
  pub box_spelled : (b : StateBox) → IsBoxOf t b → SpellsBox t Short (box_text t b) (trimmed_box b)
  box_spelled b is =
      let front = version_fact_parts Short t.raw.facts b.facts in
      let back = version_fluent_parts Short t.raw.fluents b.fluents in
      let fits : (x : ℕ) → x < length b.fluents → IsIntervalFor (get_or t.places x 0) (get_or b.fluents x whole_line) =
      λ x l. record { inhabited = is.inhabited x l; lower = is.lower_fits x l; upper = is.upper_fits x l } in
      record {
        parts = front ++ back;
        fluent_parts = back;
        spelled = append_assoc (codes "box") front back;
        facts = facts_said t.raw.facts b.facts back is.as_many_facts;
        fluents = fluents_said t.raw.fluents t.places b.fluents is.as_many_fluents placed.a_count_each fits;
        one_line =
            without_append 10 (codes "box" ++ front) back
            (without_append 10 (codes "box") front (decided 10 (codes "box") refl) (facts_feedless t.raw.facts b.facts (all_feedless t.raw.facts valid.fact_texts)))
            (fluents_feedless t.raw.fluents t.places b.fluents (all_feedless t.raw.fluents valid.fluent_texts) fits);
      }

  pub state_spelled : (s : StateValue) → IsStateOf t s → All InRange s.values → SpellsState t (state_text t s) s
  state_spelled s is fits =
      let front = state_facts t.raw.facts s.facts in
      let back = state_fluents t.raw.fluents (decimals_of t.places s.values) in
      record {
        parts = front ++ back;
        fluent_parts = back;
        spelled = append_assoc (codes "state") front back;
        facts = truths_said t.raw.facts s.facts back is.a_truth_each;
        fluents = numbers_said t.raw.fluents t.places s.values is.a_number_each placed.a_count_each fits;
        one_line =
            without_append 10 (codes "state" ++ front) back
            (without_append 10 (codes "state") front (decided 10 (codes "state") refl) (truths_feedless t.raw.facts s.facts (all_feedless t.raw.facts valid.fact_texts)))
            (numbers_feedless t.raw.fluents t.places s.values (all_feedless t.raw.fluents valid.fluent_texts) fits);
      }
