-- Boxes of a task, and the states in them.
use Rattle.std.specs.Prelude.{ℕ, ◌≡◌, ◌<◌, ◌≤◌, List, Bool, true, false, not, IsTrue, length, slice_index_or, ⊤}
use Rattle.num_ends.specs.Decimal.{trimmed, InRange}
use Rattle.num_ends.specs.Ends.{Interval, has, is_within, is_inhabited, point_of, whole_line}
use Rattle.num_ends.specs.declared.ends.End.{End}
use Rattle.num_ends.specs.declared.ends.End.TheVariants.{NegInf, Excl, Incl, PosInf}
use Rattle.ground_task.specs.Meaning.{fluent_value}
use Rattle.ground_task.specs.States.{StateValue}
use Rattle.ground_task.specs.Tasks.{TaskValue}
use Rattle.box_model.specs.declared.state_box.May.{May}
use Rattle.box_model.specs.declared.state_box.May.TheVariants.{True, False, Any}
use Rattle.box_model.specs.declared.state_box.StateBox.{StateBox}

-- the truth value may occur
abbrev pub may_be : May → Bool → Bool
may_be True truth = truth
may_be False truth = not truth
may_be Any truth = true

-- what may occur in the first may occur in the second
abbrev pub is_may_within : May → May → Bool
is_may_within True True = true
is_may_within True False = false
is_may_within True Any = true
is_may_within False True = false
is_may_within False False = true
is_may_within False Any = true
is_may_within Any True = false
is_may_within Any False = false
is_may_within Any Any = true

-- the truth values of a fact, and the interval of a fluent
abbrev pub fact_in : StateBox → ℕ → May
fact_in b f = slice_index_or b.facts f Any

abbrev pub fluent_in : StateBox → ℕ → Interval
fluent_in b x = slice_index_or b.fluents x whole_line

-- a finite end, trimmed, has at most this many places, and is in range at its own
abbrev pub IsEndFor : ℕ → End → Type 0
IsEndFor q NegInf = ⊤
IsEndFor q (Excl d) = ((trimmed d).p ≤ q) × InRange (trimmed d).n
IsEndFor q (Incl d) = ((trimmed d).p ≤ q) × InRange (trimmed d).n
IsEndFor q PosInf = ⊤

-- so has either end of an interval
abbrev pub AreEndsFor : ℕ → Interval → Type 0
AreEndsFor q i = IsEndFor q i.0 × IsEndFor q i.1

-- a box of the task: a part per fact and fluent, none of them empty, with ends that the fluent may have
pub record IsBoxOf (t : TaskValue) (b : StateBox) : Type 0 where
  pub as_many_facts : length b.facts ≡ length t.raw.facts
  pub as_many_fluents : length b.fluents ≡ length t.raw.fluents
  pub inhabited : (x : ℕ) → x < length b.fluents → IsTrue (is_inhabited (fluent_in b x).0 (fluent_in b x).1)
  pub lower_fits : (x : ℕ) → x < length b.fluents → IsEndFor (slice_index_or t.places x 0) (fluent_in b x).0
  pub upper_fits : (x : ℕ) → x < length b.fluents → IsEndFor (slice_index_or t.places x 0) (fluent_in b x).1

-- the state, with values of no bounds, lies in the box
pub record Contains (places : List ℕ) (b : StateBox) (s : StateValue) : Type 0 where
  pub as_many_facts : length s.facts ≡ length b.facts
  pub as_many_values : length s.values ≡ length b.fluents
  pub facts : (f : ℕ) → f < length b.facts → IsTrue (may_be (fact_in b f) (slice_index_or s.facts f false))
  pub fluents : (x : ℕ) → x < length b.fluents → IsTrue (has (fluent_in b x) (fluent_value places s x))

-- each part of the first box lies within that of the second
pub record LiesWithin (b c : StateBox) : Type 0 where
  pub as_many_facts : length b.facts ≡ length c.facts
  pub as_many_fluents : length b.fluents ≡ length c.fluents
  pub facts : (f : ℕ) → f < length b.facts → IsTrue (is_may_within (fact_in b f) (fact_in c f))
  pub fluents : (x : ℕ) → x < length b.fluents → IsTrue (is_within (fluent_in b x) (fluent_in c x))

-- the one truth value
abbrev pub only : Bool → May
only true = True
only false = False

-- the box of the state alone: each fact has its truth value only, and each fluent its value
pub record IsAround (places : List ℕ) (s : StateValue) (b : StateBox) : Type 0 where
  pub as_many_facts : length b.facts ≡ length s.facts
  pub as_many_fluents : length b.fluents ≡ length s.values
  pub facts : (f : ℕ) → f < length s.facts → fact_in b f ≡ only (slice_index_or s.facts f false)
  pub fluents : (x : ℕ) → x < length s.values → fluent_in b x ≡ point_of (fluent_value places s x)
