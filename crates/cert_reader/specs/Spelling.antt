-- The lines that spell the boxes and states of a task.
use Rattle.std.specs.Prelude.{ℕ, ℤ, ◌≡◌, ◌≤◌, ◌++◌, Bool, List, [], codes, zip, IsTrue}
use Rattle.num_ends.specs.Decimal.{Decimal, number_at, trimmed, InRange}
use Rattle.num_ends.specs.Ends.{Interval, is_inhabited, whole_line}
use Rattle.num_ends.specs.Texts.{IsNumeral}
use Rattle.num_ends.specs.declared.ends.End.{End}
use Rattle.num_ends.specs.declared.ends.End.TheVariants.{NegInf, Excl, Incl, PosInf}
use Rattle.ground_task.specs.States.{StateValue}
use Rattle.ground_task.specs.Tasks.{TaskValue}
use Rattle.box_model.specs.declared.state_box.May.{May}
use Rattle.box_model.specs.declared.state_box.May.TheVariants.{Any}
use Rattle.box_model.specs.declared.state_box.StateBox.{StateBox}
use Rattle.cert_text.specs.declared.cert.Version.{Version}
use Rattle.cert_text.specs.declared.cert.Version.TheVariants.{Full, Short}
use Rattle.cert_text.specs.Lines.{may_text, truth_text}
use Rattle.cert_reader.specs.Parts.{IsWithout, Kind, HasParts}

-- ---- numbers and intervals

-- a number in any form, whose trimmed value has at most so many places and is in range
abbrev pub SpellsDecimal : ℕ → List ℕ → Decimal → Type 0
SpellsDecimal places text d =
    (e : Decimal) × IsNumeral text e × (d ≡ trimmed e) × (d.p ≤ places) × InRange d.n

abbrev pub SpellsLower : ℕ → List ℕ → End → Type 0
SpellsLower places text NegInf = text ≡ codes "(-inf"
SpellsLower places text (Excl d) = (digits : List ℕ) × (text ≡ codes "(" ++ digits) × SpellsDecimal places digits d
SpellsLower places text (Incl d) = (digits : List ℕ) × (text ≡ codes "[" ++ digits) × SpellsDecimal places digits d
SpellsLower places text PosInf = ⊥

abbrev pub SpellsUpper : ℕ → List ℕ → End → Type 0
SpellsUpper places text NegInf = ⊥
SpellsUpper places text (Excl d) = (digits : List ℕ) × (text ≡ digits ++ codes ")") × SpellsDecimal places digits d
SpellsUpper places text (Incl d) = (digits : List ℕ) × (text ≡ digits ++ codes "]") × SpellsDecimal places digits d
SpellsUpper places text PosInf = text ≡ codes "inf)"

-- two ends, with a decimal between them
pub record SpellsInterval (places : ℕ) (text : List ℕ) (i : Interval) : Type 0 where
  pub lower : List ℕ
  pub upper : List ℕ
  pub spelled : text ≡ lower ++ codes "," ++ upper
  pub spells_lower : SpellsLower places lower i.0
  pub spells_upper : SpellsUpper places upper i.1
  pub inhabited : IsTrue (is_inhabited i.0 i.1)

-- a number in any form, whose value at these places is this number, in range
abbrev pub SpellsNumber : ℕ → List ℕ → ℤ → Type 0
SpellsNumber places text n =
    (d : Decimal) × SpellsDecimal places text d × (n ≡ number_at places d) × InRange n

-- ---- lines

-- a short line may leave out what tells nothing
abbrev pub MayLeaveOut : Version → Type 0
MayLeaveOut Full = ⊥
MayLeaveOut Short = Unit {0}

abbrev pub facts_of_box : Version → Kind (List ℕ) May
facts_of_box version = record {
  name = λ name. name;
  Said = λ name said may. said ≡ may_text may;
  MayLack = λ may. MayLeaveOut version × (may ≡ Any);
}

-- a fluent by its text and its places
abbrev pub fluents_of_box : Version → Kind (List ℕ × ℕ) Interval
fluents_of_box version = record {
  name = λ fluent. fluent.0;
  Said = λ fluent said i. SpellsInterval fluent.1 said i;
  MayLack = λ i. MayLeaveOut version × (i ≡ whole_line);
}

abbrev pub facts_of_state : Kind (List ℕ) Bool
facts_of_state = record {
  name = λ name. name;
  Said = λ name said truth. said ≡ truth_text truth;
  MayLack = λ truth. ⊥;
}

abbrev pub fluents_of_state : Kind (List ℕ × ℕ) ℤ
fluents_of_state = record {
  name = λ fluent. fluent.0;
  Said = λ fluent said n. SpellsNumber fluent.1 said n;
  MayLack = λ n. ⊥;
}

-- the fluents of a task by their texts and places
abbrev pub fluents_of : TaskValue → List (List ℕ × ℕ)
fluents_of t = zip t.raw.fluents t.places

-- the line, without its line feed: facts and then fluents, in the order of the task
pub record SpellsBox (t : TaskValue) (version : Version) (line : List ℕ) (b : StateBox) : Type 0 where
  pub parts : List ℕ
  pub fluent_parts : List ℕ
  pub spelled : line ≡ codes "box" ++ parts
  pub facts : HasParts (facts_of_box version) t.raw.facts b.facts parts fluent_parts
  pub fluents : HasParts (fluents_of_box version) (fluents_of t) b.fluents fluent_parts []
  pub one_line : IsWithout 10 line

pub record SpellsState (t : TaskValue) (line : List ℕ) (s : StateValue) : Type 0 where
  pub parts : List ℕ
  pub fluent_parts : List ℕ
  pub spelled : line ≡ codes "state" ++ parts
  pub facts : HasParts facts_of_state t.raw.facts s.facts parts fluent_parts
  pub fluents : HasParts fluents_of_state (fluents_of t) s.values fluent_parts []
  pub one_line : IsWithout 10 line
