-- What a ground action demands of a box, and when a box is closed.
use Rattle.std.specs.Prelude.{ℕ, ◌+ℤ◌, List, [], ◌∷◌, Bool, true, false, not, ◌&&◌, ◌||◌, Option, Some, None, pos, nat_le, slice_index_or, if◌then◌else◌, ◌==◌, filter_map, option_and_then}
use Rattle.std.specs.List.{list_all, list_any}
use Rattle.num_ends.specs.Decimal.{Decimal, trimmed, number_at, origin}
use Rattle.num_ends.specs.Range.{in_range, where_fits}
use Rattle.num_ends.specs.Ends.{Interval, has, point_of, may_less, lower_covers, upper_covers}
use Rattle.num_ends.specs.declared.ends.End.{End}
use Rattle.num_ends.specs.declared.ends.End.TheVariants.{NegInf, Excl, Incl, PosInf}
use Rattle.ground_task.specs.declared.raw.Rel.{Rel}
use Rattle.ground_task.specs.declared.raw.Rel.TheVariants.{Less, LessEqual, Equal, GreaterEqual, Greater}
use Rattle.ground_task.specs.declared.raw.GExpr.{GExpr, GExpr-F, out-GExpr}
use Rattle.ground_task.specs.declared.raw.GExpr.TheOpen as expr
use Rattle.ground_task.specs.declared.raw.GCond.{GCond, GCond-F, out-GCond}
use Rattle.ground_task.specs.declared.raw.GCond.TheOpen as cond
use Rattle.ground_task.specs.declared.raw.Change.{Change}
use Rattle.ground_task.specs.declared.raw.Change.TheVariants.{Add, Set}
use Rattle.ground_task.specs.declared.raw.Ground.{Ground}
use Rattle.ground_task.specs.Ranged.{top_conjuncts}
use Rattle.ground_task.specs.Tasks.{TaskValue}
use Rattle.box_model.specs.Boxes.{fact_in, fluent_in, may_be}
use Rattle.box_model.specs.Hold.{may_hold, interval_of, read_interval}
use Rattle.box_model.specs.declared.caps.Side.{Side}
use Rattle.box_model.specs.declared.caps.Side.TheVariants.{Upper, Lower}
use Rattle.box_model.specs.declared.state_box.StateBox.{StateBox}

-- the constant that an expression is
abbrev pub constant_layer : GExpr-F GExpr → Option Decimal
constant_layer (expr.Const c) = Some c
constant_layer (expr.Read x) = None
constant_layer (expr.Add a b) = None
constant_layer (expr.Sub a b) = None
constant_layer (expr.Mul a b) = None

abbrev pub constant_of : GExpr → Option Decimal
constant_of e = constant_layer (out-GExpr e)

-- an expression is this fluent
abbrev pub reads_layer : ℕ → GExpr-F GExpr → Bool
reads_layer x (expr.Const c) = false
reads_layer x (expr.Read y) = x == y
reads_layer x (expr.Add a b) = false
reads_layer x (expr.Sub a b) = false
reads_layer x (expr.Mul a b) = false

abbrev pub reads : ℕ → GExpr → Bool
reads x e = reads_layer x (out-GExpr e)

-- the same comparison with its sides exchanged
abbrev pub exchanged : Rel → Rel
exchanged Less = Greater
exchanged LessEqual = GreaterEqual
exchanged Equal = Equal
exchanged GreaterEqual = LessEqual
exchanged Greater = Less

-- the end of this side that a fluent has where it stands so to a number
abbrev pub end_by : Side → Rel → Decimal → Option End
end_by Upper Less k = Some (Excl k)
end_by Upper LessEqual k = Some (Incl k)
end_by Upper Equal k = Some (Incl k)
end_by Upper GreaterEqual k = None
end_by Upper Greater k = None
end_by Lower Less k = None
end_by Lower LessEqual k = None
end_by Lower Equal k = Some (Incl k)
end_by Lower GreaterEqual k = Some (Incl k)
end_by Lower Greater k = Some (Excl k)

-- one half
abbrev pub half : Decimal
half = record { n = pos 5; p = 1 }

-- k + c at q places, where neither has more places, and neither k nor the sum leaves the range there
abbrev pub moved_bound : ℕ → Decimal → Decimal → Option Decimal
moved_bound q c k =
    let bound = number_at q (trimmed k) in
    let moved = bound +ℤ number_at q (trimmed c) in
    where_fits (nat_le (trimmed k).p q && nat_le (trimmed c).p q && in_range bound && in_range moved) (record { n = moved; p = q })

abbrev pub bound_end : Side → ℕ → Rel → Decimal → Option Decimal → Option End
bound_end side q r c None = None
bound_end side q r c (Some k) = option_and_then (end_by side r) (moved_bound q c k)

-- what a comparison of x with a constant k bounds after a change by c: the end of this side at k + c
abbrev pub moved_end_layer : Side → ℕ → ℕ → Decimal → GCond-F GCond → Option End
moved_end_layer side q x c cond.True = None
moved_end_layer side q x c cond.False = None
moved_end_layer side q x c (cond.Fact f truth) = None
moved_end_layer side q x c (cond.Cmp r a b) =
    if reads x a then bound_end side q r c (constant_of b)
    else (if reads x b then bound_end side q (exchanged r) c (constant_of a) else None)
moved_end_layer side q x c (cond.And cs) = None
moved_end_layer side q x c (cond.Or cs) = None

abbrev pub moved_end : Side → ℕ → ℕ → Decimal → GCond → Option End
moved_end side q x c g = moved_end_layer side q x c (out-GCond g)

-- The ends of this side that the bounds of a precondition give after a change of x by a constant: a bound is a top
-- conjunct that compares x with a constant k of at most x's places. A change by another expression has none.
abbrev pub moved_ends : Side → ℕ → ℕ → Option Decimal → GCond → List End
moved_ends side q x None pre = []
moved_ends side q x (Some c) pre = filter_map (moved_end side q x c) (top_conjuncts pre)

abbrev pub infinity : Side → End
infinity Upper = PosInf
infinity Lower = NegInf

abbrev pub is_finite : End → Bool
is_finite NegInf = false
is_finite (Excl d) = true
is_finite (Incl d) = true
is_finite PosInf = false

-- the first end is as far out as the second on this side
abbrev pub covers : Side → End → End → Bool
covers Upper a b = upper_covers a b
covers Lower a b = lower_covers a b

abbrev pub end_on : Side → Interval → End
end_on Upper i = i.1
end_on Lower i = i.0

-- the end of this side is as far out as one of these ends, or infinite
abbrev pub reaches : Side → List End → Interval → Bool
reaches side ends i = list_any (covers side (end_on side i)) (infinity side ∷ ends)

abbrev pub implies : Bool → Bool → Bool
implies p q = not p || q

-- Where a change by e may move a fluent up, its upper end is infinite, or as far out as a bound lets it move; and so for
-- the lower end.
abbrev pub meets_growth : (Side → List End) → Interval → Interval → Bool
meets_growth bounds by i =
    implies (may_less (point_of origin) by) (reaches Upper (bounds Upper) i)
    && implies (may_less by (point_of origin)) (reaches Lower (bounds Lower) i)

-- An assigned constant lies in the interval. Another assigned value sends an end to infinity where it may lie past the
-- values that the fluent had.
abbrev pub meets_value : Option Decimal → Interval → Interval → Interval → Bool
meets_value (Some c) had to i = has i c
meets_value None had to i = implies (may_less had to) (reaches Upper [] i) && implies (may_less to had) (reaches Lower [] i)

-- the ends that the bounds of a precondition give after x += e
abbrev pub bounds_of : List ℕ → GCond → ℕ → GExpr → Side → List End
bounds_of places pre x e side = moved_ends side (slice_index_or places x 0) x (constant_of e) pre

-- an interval of x meets what a change of x demands in a box
abbrev pub meets_demand : List ℕ → StateBox → GCond → ℕ → Change → Interval → Bool
meets_demand places b pre x (Add e) i = meets_growth (bounds_of places pre x e) (interval_of places b e) i
meets_demand places b pre x (Set e) i =
    meets_value (constant_of e) (read_interval (slice_index_or places x 0) (fluent_in b x)) (interval_of places b e) i

abbrev pub meets_change : List ℕ → StateBox → GCond → ℕ → Change → Bool
meets_change places b pre x change = meets_demand places b pre x change (fluent_in b x)

-- the box meets each demand of an action
abbrev pub meets : List ℕ → StateBox → Ground → Bool
meets places b a =
    list_all (λ f. may_be (fact_in b f) true) a.adds
    && list_all (λ f. list_any (λ g. g == f) a.adds || may_be (fact_in b f) false) a.dels
    && list_all (λ effect. meets_change places b a.pre effect.0 effect.1) a.nums

-- an action whose precondition may hold, with a demand that the box doesn't meet
abbrev pub is_unmet : List ℕ → StateBox → Ground → Bool
is_unmet places b a = may_hold places b a.pre && not (meets places b a)

-- every demand of every action whose precondition may hold is met
abbrev pub is_closed : TaskValue → StateBox → Bool
is_closed t b = list_all (λ a. not (is_unmet t.places b a)) t.raw.actions
