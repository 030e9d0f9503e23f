-- Which conditions may hold in a box (interval relaxation, Scala et al. 2016).
use Rattle.std.specs.Prelude.{ℕ, List, Bool, true, false, slice_index_or}
use Rattle.std.specs.List.{list_all, list_any}
use Rattle.num_ends.specs.Decimal.{trimmed}
use Rattle.num_ends.specs.Arithmetic.{HasPlaces, interval_difference, interval_product, interval_sum, outward_of}
use Rattle.num_ends.specs.declared.ends.End.{End}
use Rattle.num_ends.specs.declared.ends.End.TheVariants.{NegInf, Excl, Incl, PosInf}
use Rattle.num_ends.specs.Ends.{Interval, point_of, may_less, may_less_equal, may_equal}
use Rattle.ground_task.specs.declared.raw.Rel.{Rel}
use Rattle.ground_task.specs.declared.raw.Rel.TheVariants.{Less, LessEqual, Equal, GreaterEqual, Greater}
use Rattle.ground_task.specs.declared.raw.GExpr.{GExpr, GExpr-F, fold-GExpr, map-GExpr}
use Rattle.ground_task.specs.declared.raw.GExpr.TheOpen as expr
use Rattle.ground_task.specs.declared.raw.GCond.{GCond, GCond-F, fold-GCond}
use Rattle.ground_task.specs.declared.raw.GCond.TheOpen as cond
use Rattle.ground_task.specs.Placed.{places_layer}
use Rattle.box_model.specs.Boxes.{fact_in, fluent_in, may_be}
use Rattle.box_model.specs.declared.state_box.StateBox.{StateBox}

-- an end of the same value, with the fewest places
abbrev pub trimmed_end : End → End
trimmed_end NegInf = NegInf
trimmed_end (Excl d) = Excl (trimmed d)
trimmed_end (Incl d) = Incl (trimmed d)
trimmed_end PosInf = PosInf

-- the interval of a fluent as expressions have it: its ends are brought to the fluent's places, and
-- move outward into the range there
abbrev pub read_interval : ℕ → Interval → Interval
read_interval q i = outward_of q (trimmed_end i.0, trimmed_end i.1)

-- both ends, where they are finite, have this count of places
pub record EndsHave (p : ℕ) (i : Interval) : Type 0 where
  pub lower : HasPlaces p i.0
  pub upper : HasPlaces p i.1

-- the interval of an expression, and the places of its finite ends
pub record Ranging : Type 0 where
  pub interval : Interval
  pub places : ℕ

-- The interval of a constant is its point, that of a read the box's, and that of an operation is made of those of its
-- parts.
abbrev pub combined : StateBox → GExpr-F Interval → Interval
combined b (expr.Const c) = point_of (trimmed c)
combined b (expr.Read x) = (trimmed_end (fluent_in b x).0, trimmed_end (fluent_in b x).1)
combined b (expr.Add i j) = interval_sum i j
combined b (expr.Sub i j) = interval_difference i j
combined b (expr.Mul i j) = interval_product i j

-- Each part's ends are brought to its places, and move outward into the range there, before they are used further.
-- So the places of an end don't depend on the box, and a wider box gives wider intervals.
abbrev pub ranging_layer : List ℕ → StateBox → GExpr-F Ranging → Ranging
ranging_layer places b o =
    let q = places_layer places (map-GExpr Ranging ℕ (λ r. r.places) o) in
    record { interval = outward_of q (combined b (map-GExpr Ranging Interval (λ r. r.interval) o)); places = q }

abbrev pub ranging_of : List ℕ → StateBox → GExpr → Ranging
ranging_of places b = fold-GExpr Ranging (ranging_layer places b)

-- the values that an expression may have in a box
abbrev pub interval_of : List ℕ → StateBox → GExpr → Interval
interval_of places b e = (ranging_of places b e).interval

-- some value of the first interval and some value of the second stand so
abbrev pub may_stand : Rel → Interval → Interval → Bool
may_stand Less i j = may_less i j
may_stand LessEqual i j = may_less_equal i j
may_stand Equal i j = may_equal i j
may_stand GreaterEqual i j = may_less_equal j i
may_stand Greater i j = may_less j i

abbrev pub may_hold_layer : List ℕ → StateBox → GCond-F Bool → Bool
may_hold_layer places b cond.True = true
may_hold_layer places b cond.False = false
may_hold_layer places b (cond.Fact f truth) = may_be (fact_in b f) truth
may_hold_layer places b (cond.Cmp r e1 e2) = may_stand r (interval_of places b e1) (interval_of places b e2)
may_hold_layer places b (cond.And cs) = list_all (λ c. c) cs
may_hold_layer places b (cond.Or cs) = list_any (λ c. c) cs

-- a condition may hold in a box
abbrev pub may_hold : List ℕ → StateBox → GCond → Bool
may_hold places b = fold-GCond Bool (may_hold_layer places b)
