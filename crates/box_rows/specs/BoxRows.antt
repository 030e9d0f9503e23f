-- What a row says of a state's box, and the row at which a state starts.
use Rattle.std.specs.Prelude.{ℕ, suc, ◌≡◌, ◌<◌, ◌≤◌, ◌==◌, ◌/◌, ◌%◌, ◌++◌, List, Bool, true, false, not, cond, length, map, slice_index, slice_index_or}
use Rattle.std.specs.List.{range_with_len}
use Rattle.num_ends.specs.Ends.{Interval}
use Rattle.num_ends.specs.declared.ends.End.{End}
use Rattle.ground_task.specs.Meaning.{fluent_value}
use Rattle.ground_task.specs.States.{StateValue}
use Rattle.ground_task.specs.Tasks.{TaskValue}
use Rattle.box_model.specs.Demands.{covers}
use Rattle.box_model.specs.declared.caps.Side.{Side}
use Rattle.box_model.specs.declared.caps.Side.TheVariants.{Upper, Lower}
use Rattle.box_model.specs.declared.state_box.May.{May}
use Rattle.box_model.specs.declared.state_box.May.TheVariants.{True, False, Any}
use Rattle.box_model.specs.declared.state_box.StateBox.{StateBox}
use Rattle.box_rows.specs.Ranks.{end_after, steps_by, word_after}
use Rattle.box_rows.specs.Rules.{end_word, ends_of, mask}
use Rattle.box_rows.specs.Tables.{SupportersValue}

-- bit 0 of a fact's word says that the fact may be true, and bit 1 that it may be false
abbrev pub says : Bool → ℕ → Bool
says true w = w % 2 == 1
says false w = w / 2 % 2 == 1

-- the truth values that a fact may have, of which one is the state's
abbrev pub may_with : Bool → Bool → May
may_with true other = cond other Any True
may_with false other = cond other Any False

module _ (t : TaskValue) (sup : SupportersValue) (s : StateValue) where
  abbrev pub fact_at : List ℕ → ℕ → May
  fact_at row f = let truth = slice_index_or s.facts f false in may_with truth (says (not truth) (slice_index row f))

  -- the end that the word of a fluent's end stands for
  abbrev pub end_at : List ℕ → Side → ℕ → End
  end_at row side x =
      end_after side (fluent_value t.places s x) (ends_of sup side x) (steps_by side (ends_of sup side x) (slice_index row (end_word t side x)))

  abbrev pub fluent_at : List ℕ → ℕ → Interval
  fluent_at row x = (end_at row Lower x, end_at row Upper x)

  -- the box that a row stands for
  abbrev pub box_at : List ℕ → StateBox
  box_at row =
      record {
        facts = map (fact_at row) (range_with_len 0 (length t.raw.facts));
        fluents = map (fluent_at row) (range_with_len 0 (length t.raw.fluents));
      }

  -- the row with these words for the facts and so many steps to the ends
  abbrev pub row_of : (ℕ → ℕ) → (Side → ℕ → ℕ) → List ℕ
  row_of bits steps =
      map bits (range_with_len 0 (length t.raw.facts))
      ++ (map (λ x. word_after Upper (ends_of sup Upper x) (steps Upper x)) (range_with_len 0 (length t.raw.fluents))
      ++ map (λ x. word_after Lower (ends_of sup Lower x) (steps Lower x)) (range_with_len 0 (length t.raw.fluents)))

  -- the row at which the state starts: each fact has its truth value alone, and each fluent its value
  abbrev pub start_row : List ℕ
  start_row = row_of (λ f. mask (slice_index_or s.facts f false)) (λ side x. 0)

  -- the row has no other bits than those of truth values, and no other words for ends than those of ranks, each the first of
  -- its end
  pub record IsRanked (row : List ℕ) : Type 0 where
    pub bits : (f : ℕ) → f < length t.raw.facts → slice_index row f < 4
    pub ranks : (side : Side) (x : ℕ) → x < length t.raw.fluents → slice_index row (end_word t side x) ≤ suc (length (ends_of sup side x))
    pub first : (side : Side) (x : ℕ) → x < length t.raw.fluents → (r : ℕ) → r < steps_by side (ends_of sup side x) (slice_index row (end_word t side x))
        → covers side (end_after side (fluent_value t.places s x) (ends_of sup side x) r) (end_at row side x) ≡ false
