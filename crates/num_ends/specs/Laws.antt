-- What members have to do with the tests of intervals.
use Rattle.std.specs.Prelude.{◌≡◌, ◌≤◌, ℕ, IsTrue, int_le, false}
use Rattle.num_ends.specs.Decimal.{Decimal, InRange, number_at, is_less, is_at_most}
use Rattle.num_ends.specs.Ends.{Interval, has, is_inhabited}
use Rattle.num_ends.specs.Arithmetic.{HasPlaces, end_places, top_number, bottom_number}
use Rattle.num_ends.specs.declared.ends.End.{End}
use Rattle.num_ends.specs.declared.ends.End.TheVariants.{NegInf, Excl, Incl, PosInf}

abbrev pub IsInhabited : Interval → Type 0
IsInhabited i = IsTrue (is_inhabited i.0 i.1)

-- some decimal is a member
abbrev pub HasMember : Interval → Type 0
HasMember i = (d : Decimal) × IsTrue (has i d)

-- some member of the one is less than some member of the other
abbrev pub MeetLess : Interval → Interval → Type 0
MeetLess i j = (d : Decimal) × (e : Decimal) × IsTrue (has i d) × IsTrue (has j e) × IsTrue (is_less d e)

-- some member of the one is at most some member of the other
abbrev pub MeetAtMost : Interval → Interval → Type 0
MeetAtMost i j = (d : Decimal) × (e : Decimal) × IsTrue (has i d) × IsTrue (has j e) × IsTrue (is_at_most d e)

-- some decimal is a member of both
abbrev pub MeetEqual : Interval → Interval → Type 0
MeetEqual i j = (d : Decimal) × IsTrue (has i d) × IsTrue (has j d)

-- each member of the one is a member of the other
abbrev pub HoldsMembers : Interval → Interval → Type 0
HoldsMembers i j = (d : Decimal) → IsTrue (has i d) → IsTrue (has j d)

-- each finite end has at most q places
pub record PlacesUpTo (q : ℕ) (i : Interval) : Type 0 where
  pub lower : end_places i.0 ≤ q
  pub upper : end_places i.1 ≤ q

-- the finite ends of both intervals have p places
pub record BothPlaces (p : ℕ) (i m : Interval) : Type 0 where
  pub inner_lower : HasPlaces p i.0
  pub inner_upper : HasPlaces p i.1
  pub outer_lower : HasPlaces p m.0
  pub outer_upper : HasPlaces p m.1

-- a lower end is in range at q places, and not open at the top
abbrev pub FitsLower : ℕ → End → Type 0
FitsLower q NegInf = Unit {0}
FitsLower q (Excl d) = InRange (number_at q d) × (int_le top_number (number_at q d) ≡ false)
FitsLower q (Incl d) = InRange (number_at q d)
FitsLower q PosInf = Unit {0}

-- an upper end is in range at q places, and not open at the bottom
abbrev pub FitsUpper : ℕ → End → Type 0
FitsUpper q NegInf = Unit {0}
FitsUpper q (Excl d) = InRange (number_at q d) × (int_le (number_at q d) bottom_number ≡ false)
FitsUpper q (Incl d) = InRange (number_at q d)
FitsUpper q PosInf = Unit {0}
