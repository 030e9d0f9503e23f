-- The lines of boxes and states: facts and then fluents, in the order of the task.
use Rattle.std.specs.Prelude.{ℕ, ℤ, ◌≡◌, ◌++◌, ◌&&◌, Bool, true, false, List, [], codes, flat_map, map, zip, if◌then◌else◌}
use Rattle.num_ends.specs.Decimal.{Decimal}
use Rattle.num_ends.specs.Ends.{Interval}
use Rattle.num_ends.specs.Texts.{decimal_text, interval_text}
use Rattle.num_ends.specs.declared.ends.End.{End}
use Rattle.num_ends.specs.declared.ends.End.TheVariants.{NegInf, Excl, Incl, PosInf}
use Rattle.ground_task.specs.declared.raw.RawTask.{RawTask}
use Rattle.ground_task.specs.States.{StateValue}
use Rattle.ground_task.specs.Tasks.{TaskValue}
use Rattle.box_model.specs.declared.state_box.May.{May}
use Rattle.box_model.specs.declared.state_box.May.TheVariants.{True, False, Any}
use Rattle.box_model.specs.declared.state_box.StateBox.{StateBox}
use Rattle.cert_text.specs.declared.cert.Version.{Version}
use Rattle.cert_text.specs.declared.cert.Version.TheVariants.{Full, Short}

-- ---- boxes

abbrev pub may_text : May → List ℕ
may_text True = codes "true"
may_text False = codes "false"
may_text Any = codes "any"

-- a blank, the text of a fact or a fluent, `=`, and what the line says of it
abbrev pub part_text : List ℕ → List ℕ → List ℕ
part_text name said = codes " " ++ name ++ codes "=" ++ said

abbrev pub fact_parts : List (List ℕ) → List May → List ℕ
fact_parts names facts = flat_map (λ part. part_text part.0 (may_text part.1)) (zip names facts)

abbrev pub fluent_parts : List (List ℕ) → List Interval → List ℕ
fluent_parts names fluents = flat_map (λ part. part_text part.0 (interval_text part.1)) (zip names fluents)

-- the line, with its line feed
abbrev pub box_line : RawTask → StateBox → List ℕ
box_line raw b = codes "box" ++ fact_parts raw.facts b.facts ++ fluent_parts raw.fluents b.fluents ++ codes "\n"

-- ---- boxes without the parts that tell nothing

abbrev pub is_infinite : End → Bool
is_infinite NegInf = true
is_infinite (Excl d) = false
is_infinite (Incl d) = false
is_infinite PosInf = true

-- no end is finite
abbrev pub is_unbounded : Interval → Bool
is_unbounded i = is_infinite i.0 && is_infinite i.1

-- what a line says of a fact; a short line says nothing of one that may have either truth value
abbrev pub fact_part : Version → List ℕ → May → List ℕ
fact_part Full name may = part_text name (may_text may)
fact_part Short name True = part_text name (may_text True)
fact_part Short name False = part_text name (may_text False)
fact_part Short name Any = []

-- what a line says of a fluent; a short line says nothing of one that may have any value
abbrev pub fluent_part : Version → List ℕ → Interval → List ℕ
fluent_part Full name i = part_text name (interval_text i)
fluent_part Short name i = if is_unbounded i then [] else part_text name (interval_text i)

-- the parts of a line in this version
abbrev pub version_fact_parts : Version → List (List ℕ) → List May → List ℕ
version_fact_parts version names facts = flat_map (λ part. fact_part version part.0 part.1) (zip names facts)

abbrev pub version_fluent_parts : Version → List (List ℕ) → List Interval → List ℕ
version_fluent_parts version names fluents = flat_map (λ part. fluent_part version part.0 part.1) (zip names fluents)

-- the line in this version, with its line feed; the full one is `box_line`
abbrev pub version_line : Version → RawTask → StateBox → List ℕ
version_line version raw b =
    codes "box" ++ version_fact_parts version raw.facts b.facts ++ version_fluent_parts version raw.fluents b.fluents ++ codes "\n"

abbrev pub short_box_line : RawTask → StateBox → List ℕ
short_box_line raw b = version_line Short raw b

-- ---- states

abbrev pub truth_text : Bool → List ℕ
truth_text true = codes "true"
truth_text false = codes "false"

abbrev pub state_facts : List (List ℕ) → List Bool → List ℕ
state_facts names truths = flat_map (λ part. part_text part.0 (truth_text part.1)) (zip names truths)

-- values by their numbers at the places of their fluents
abbrev pub decimals_of : List ℕ → List ℤ → List Decimal
decimals_of places numbers = map (λ value. record { n = value.1; p = value.0 }) (zip places numbers)

abbrev pub state_fluents : List (List ℕ) → List Decimal → List ℕ
state_fluents names values = flat_map (λ part. part_text part.0 (decimal_text part.1)) (zip names values)

-- the line, with its line feed
abbrev pub state_line : TaskValue → StateValue → List ℕ
state_line t s =
    codes "state" ++ state_facts t.raw.facts s.facts ++ state_fluents t.raw.fluents (decimals_of t.places s.values) ++ codes "\n"

-- ---- lists

-- the second list begins with the first
abbrev pub GoesOn : List ℕ → List ℕ → Type 0
GoesOn old new = (more : List ℕ) × (new ≡ old ++ more)
