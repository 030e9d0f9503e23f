-- What is written of facts and fluents, part by part, says that of them.
use Rattle.std.proofs.Common.{◌≡◌, ℕ, suc, ◌<◌, ℤ, Bool, true, List, [], ◌∷◌, ◌++◌, All, IsTrue, get_or, inl, inr, length, map, zip, refl, arith, append_assoc}
use Rattle.std.proofs.lemmas.Bool.{and_parts, cases_Bool}
use Rattle.num_ends.specs.Decimal.{InRange}
use Rattle.num_ends.specs.Ends.{Interval, is_inhabited, whole_line}
use Rattle.num_ends.specs.Texts.{decimal_text, interval_text}
use Rattle.num_ends.specs.declared.ends.End.{End}
use Rattle.num_ends.specs.declared.ends.End.TheVariants.{NegInf, Excl, Incl, PosInf}
use Rattle.box_model.specs.Boxes.{IsEndFor}
use Rattle.box_model.specs.Hold.{trimmed_end}
use Rattle.box_model.specs.declared.state_box.May.{May}
use Rattle.box_model.specs.declared.state_box.May.TheVariants.{True, False, Any}
use Rattle.cert_text.specs.declared.cert.Version.TheVariants.{Short}
use Rattle.cert_text.specs.Lines.{decimals_of, fact_part, fluent_part, is_infinite, is_unbounded, may_text, part_text, state_facts, state_fluents, truth_text, version_fact_parts, version_fluent_parts}
use Rattle.cert_reader.specs.Parts.{HasParts, IsPart}
use Rattle.cert_reader.specs.Spelling.{facts_of_box, facts_of_state, fluents_of_box, fluents_of_state}
use Rattle.read_back.specs.Certificates.{trimmed_interval}
use Rattle.read_back.proofs.Ends.{IsLower, IsUpper, ends_stand, interval_spelled, number_spelled}

-- ---- boxes

fact_said : (name : List ℕ) (may : May) → IsPart (facts_of_box Short) name may (fact_part Short name may)
fact_said name True = inl (may_text True, refl, refl)
fact_said name False = inl (may_text False, refl, refl)
fact_said name Any = inr ((tt, refl), refl)

pub facts_said : (names : List (List ℕ)) (facts : List May) (rest : List ℕ) → length facts ≡ length names
    → HasParts (facts_of_box Short) names facts (version_fact_parts Short names facts ++ rest) rest
facts_said [] [] rest h = refl
facts_said [] (may ∷ facts) rest h = absurd (omega (arith, h))
facts_said (name ∷ names) [] rest h = absurd (omega (arith, h))
facts_said (name ∷ names) (may ∷ facts) rest h = (
  fact_part Short name may,
  version_fact_parts Short names facts ++ rest,
  append_assoc (fact_part Short name may) (version_fact_parts Short names facts) rest,
  fact_said name may,
  facts_said names facts rest (omega (arith, h)),
)

-- ends that stand on both sides and are infinite are those of the whole line
whole_only : (l u : End) → IsLower l → IsUpper u → is_infinite l ≡ true → is_infinite u ≡ true → (trimmed_end l, trimmed_end u) ≡ whole_line
whole_only NegInf NegInf a b h k = absurd b
whole_only NegInf (Excl d) a b h k = cc
whole_only NegInf (Incl d) a b h k = cc
whole_only NegInf PosInf a b h k = refl
whole_only (Excl d) u a b h k = cc
whole_only (Incl d) u a b h k = cc
whole_only PosInf u a b h k = absurd a

-- an interval that a fluent of so many places may have
pub record IsIntervalFor (places : ℕ) (i : Interval) : Type 0 where
  pub inhabited : IsTrue (is_inhabited i.0 i.1)
  pub lower : IsEndFor places i.0
  pub upper : IsEndFor places i.1

fluent_said : (name : List ℕ) (places : ℕ) (i : Interval) → IsIntervalFor places i
    → IsPart (fluents_of_box Short) (name, places) (trimmed_interval i) (fluent_part Short name i)
fluent_said name places i fits =
    elim (cases_Bool (is_unbounded i)) [
      | inl e ↦
          let infinite = and_parts (is_infinite i.0) (is_infinite i.1) e in
          let stand = ends_stand i.0 i.1 fits.inhabited in
          rw e (inr ((tt, whole_only i.0 i.1 stand.0 stand.1 infinite.0 infinite.1), refl))
      | inr e ↦ rw e (inl (interval_text i, refl, interval_spelled places i fits.inhabited fits.lower fits.upper))
    ]

pub fluents_said : (names : List (List ℕ)) (places : List ℕ) (fluents : List Interval) → length fluents ≡ length names → length places ≡ length names
    → ((x : ℕ) → x < length fluents → IsIntervalFor (get_or places x 0) (get_or fluents x whole_line))
    → HasParts (fluents_of_box Short) (zip names places) (map trimmed_interval fluents) (version_fluent_parts Short names fluents) []
fluents_said [] [] [] h k fits = refl
fluents_said [] [] (i ∷ fluents) h k fits = absurd (omega (arith, h))
fluents_said [] (p ∷ places) fluents h k fits = absurd (omega (arith, k))
fluents_said (name ∷ names) [] fluents h k fits = absurd (omega (arith, k))
fluents_said (name ∷ names) (p ∷ places) [] h k fits = absurd (omega (arith, h))
fluents_said (name ∷ names) (p ∷ places) (i ∷ fluents) h k fits = (
  fluent_part Short name i,
  version_fluent_parts Short names fluents,
  refl,
  fluent_said name p i (fits 0 (omega arith)),
  fluents_said names places fluents (omega (arith, h)) (omega (arith, k)) (λ x l. fits (suc x) (omega (arith, l))),
)

-- ---- states

pub truths_said : (names : List (List ℕ)) (truths : List Bool) (rest : List ℕ) → length truths ≡ length names
    → HasParts facts_of_state names truths (state_facts names truths ++ rest) rest
truths_said [] [] rest h = refl
truths_said [] (truth ∷ truths) rest h = absurd (omega (arith, h))
truths_said (name ∷ names) [] rest h = absurd (omega (arith, h))
truths_said (name ∷ names) (truth ∷ truths) rest h = (
  part_text name (truth_text truth),
  state_facts names truths ++ rest,
  append_assoc (part_text name (truth_text truth)) (state_facts names truths) rest,
  inl (truth_text truth, refl, refl),
  truths_said names truths rest (omega (arith, h)),
)

pub numbers_said : (names : List (List ℕ)) (places : List ℕ) (values : List ℤ) → length values ≡ length names → length places ≡ length names
    → All InRange values
    → HasParts fluents_of_state (zip names places) values (state_fluents names (decimals_of places values)) []
numbers_said [] [] [] h k fits = refl
numbers_said [] [] (n ∷ values) h k fits = absurd (omega (arith, h))
numbers_said [] (p ∷ places) values h k fits = absurd (omega (arith, k))
numbers_said (name ∷ names) [] values h k fits = absurd (omega (arith, k))
numbers_said (name ∷ names) (p ∷ places) [] h k fits = absurd (omega (arith, h))
numbers_said (name ∷ names) (p ∷ places) (n ∷ values) h k fits = (
  part_text name (decimal_text (record { n = n; p = p })),
  state_fluents names (decimals_of places values),
  refl,
  inl (decimal_text (record { n = n; p = p }), refl, number_spelled p n (fits 0 n (omega arith))),
  numbers_said names places values (omega (arith, h)) (omega (arith, k)) (λ x d l. fits (suc x) d (omega (arith, l))),
)
