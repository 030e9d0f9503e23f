-- What a borrow of the value leaves behind.
use Rattle.std.specs.Borrow.{Lends, MutBor, Fml, RattleType}
use Rattle.turn_lock.specs.declared.turn.Held.{Held}
use Rattle.turn_lock.specs.contracts.turn.Held.{the_row}

-- a value that is out, with another content
abbrev pub with_value : {T : Type 0} → Held T → T → Held T
with_value held value = record held { value = value }

-- `held` ends with the last value behind r
abbrev pub LendsValue : (R : RattleType) → MutBor (the_row R).Denot → MutBor R.Denot → Fml
LendsValue R held r = Lends (the_row R) R held r (with_value held.now)
