-- What the supporters of a task ask of a row, at a state.
use Rattle.std.specs.Prelude.{ℕ, ◌&&◌, ◌||◌, List, Bool, false, not, if◌then◌else◌, Option, Some, None, nat_le, slice_get, slice_index}
use Rattle.std.specs.Option.{option_map_or}
use Rattle.num_ends.specs.declared.ends.End.{End}
use Rattle.num_ends.specs.declared.ends.End.TheVariants.{Incl}
use Rattle.ground_task.specs.declared.raw.Change.{Change}
use Rattle.ground_task.specs.declared.raw.Ground.{Ground}
use Rattle.ground_task.specs.Meaning.{fluent_value}
use Rattle.ground_task.specs.States.{StateValue}
use Rattle.ground_task.specs.Tasks.{TaskValue}
use Rattle.box_model.specs.Demands.{covers}
use Rattle.box_model.specs.Hold.{may_hold}
use Rattle.box_model.specs.declared.caps.Side.{Side}
use Rattle.box_model.specs.declared.caps.Side.TheVariants.{Upper, Lower}
use Rattle.box_model.specs.declared.state_box.StateBox.{StateBox}
use Rattle.box_rows.specs.BoxRows.{box_at, says}
use Rattle.box_rows.specs.Moves.{may_move}
use Rattle.box_rows.specs.declared.rule.Demand.{Demand}
use Rattle.box_rows.specs.declared.rule.Demand.TheVariants.{MayBe, Reaches}
use Rattle.box_rows.specs.declared.rule.Rule.{Rule}
use Rattle.box_rows.specs.Tables.{SupportersValue}

-- there is a value, and it passes the test
abbrev pub some_passes : {X : Type 0} → (X → Bool) → Option X → Bool
some_passes test o = option_map_or test o false

-- the row has the bit, or a rank as far out
abbrev pub is_reached : Demand → ℕ → ℕ → Bool
is_reached (MayBe f truth) asked had = says truth had
is_reached (Reaches Upper effect) asked had = nat_le asked had
is_reached (Reaches Lower effect) asked had = nat_le had asked

module _ (t : TaskValue) (s : StateValue) where
  -- an effect may move its fluent past the value that the state gives it, to the end that it demands
  abbrev pub may_pass : StateBox → Side → End → ℕ × Change → Bool
  may_pass b side end effect = not (covers side (Incl (fluent_value t.places s effect.0)) end) && may_move t.places b side effect.0 effect.1

  -- an action makes this demand in a box, and the state doesn't meet it yet
  abbrev pub is_demanded : StateBox → Ground → Demand → End → Bool
  is_demanded b a (MayBe f truth) end = may_hold t.places b a.pre
  is_demanded b a (Reaches side effect) end = may_hold t.places b a.pre && some_passes (may_pass b side end) (slice_get a.nums effect)

  -- a rule asks where the row has reached its value already, and where its action makes its demand in the row's box
  abbrev pub is_asking : SupportersValue → List ℕ → Rule → Bool
  is_asking sup row r =
      is_reached r.supporter.demand r.value (slice_index row r.word)
      || some_passes (λ a. is_demanded (box_at t sup s row) a r.supporter.demand r.end) (slice_get t.raw.actions r.supporter.action)

  abbrev pub asked_by : SupportersValue → List ℕ → Rule → Option (ℕ × ℕ)
  asked_by sup row r = if is_asking sup row r then Some (r.word, r.value) else None
