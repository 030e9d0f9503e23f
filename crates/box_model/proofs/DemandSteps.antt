-- Steps of the code that tells what changes demand.
use Rattle.std.proofs.Common.{◌≡◌, ℕ, ◌+◌, ◌<◌, ◌≤◌, Bool, true, false, ◌&&◌, List, [], ◌∷◌, Some, None, length, get_or, drop, sym, refl, ap, ap₂, ◌∙◌, subst, arith}
use Rattle.std.specs.List.{list_all}
use Rattle.std.proofs.lemmas.List.{drop_more}
use Rattle.num_ends.specs.Decimal.{Decimal, origin, trimmed}
use Rattle.num_ends.specs.Ends.{Interval, is_within, lower_covers, may_less, point_of, upper_covers}
use Rattle.num_ends.specs.declared.ends.End.{End}
use Rattle.ground_task.specs.Placed.{places_layer, places_of}
use Rattle.ground_task.specs.declared.raw.GExpr.{GExpr, GExpr-F, fold_out-GExpr, map-GExpr, out-GExpr}
use Rattle.ground_task.specs.declared.raw.GExpr.TheOpen as expr
use Rattle.box_model.specs.Demands.{constant_layer, constant_of, implies, meets_growth, reaches}
use Rattle.box_model.specs.declared.caps.Side.{Side}
use Rattle.box_model.specs.declared.caps.Side.TheVariants.{Upper, Lower}
use Rattle.box_model.proofs.CapLemmas.{some_same}

and_swapped : (p q r s : Bool) → p ≡ s → q ≡ r → (p && q) ≡ (r && s)
and_swapped true true r s h k = ap₂ (λ (u v : Bool). u && v) k h
and_swapped true false r s h k = rw (sym h, sym k) refl
and_swapped false true r s h k = rw (sym h, sym k) refl
and_swapped false false r s h k = rw (sym h, sym k) refl

pub growth_by : (bounds : Side → List End) (by i by' still : Interval) (l u : End) (m n : Bool) → by' ≡ by → still ≡ point_of origin → m ≡ may_less by' still → n ≡ may_less still by' →
    implies m (reaches Lower (bounds Lower) i) ≡ lower_covers i.0 l → implies n (reaches Upper (bounds Upper) i) ≡ upper_covers i.1 u → meets_growth bounds by i ≡ is_within (l, u) i
growth_by bounds by i by' still l u m n by_is still_is m_is n_is low high =
    let fall : m ≡ may_less by (point_of origin) = m_is ∙ ap₂ may_less by_is still_is in
    let rise : n ≡ may_less (point_of origin) by = n_is ∙ ap₂ may_less still_is by_is in
    and_swapped _ _ (lower_covers i.0 l) (upper_covers i.1 u)
    (ap (λ (v : Bool). implies v (reaches Upper (bounds Upper) i)) (sym rise) ∙ high)
    (ap (λ (v : Bool). implies v (reaches Lower (bounds Lower) i)) (sym fall) ∙ low)

-- a constant has its trimmed places
pub constant_few : (places : List ℕ) (e : GExpr) (c : Decimal) (q : ℕ) → constant_of e ≡ Some c → places_of places e ≤ q → (trimmed c).p ≤ q
constant_few places e c q h few =
    let at : (o : GExpr-F GExpr) → constant_layer o ≡ Some c → places_layer places (map-GExpr GExpr ℕ (places_of places) o) ≡ (trimmed c).p =
    λ (o : GExpr-F GExpr). elim o as (λ o. constant_layer o ≡ Some c → places_layer places (map-GExpr GExpr ℕ (places_of places) o) ≡ (trimmed c).p) [
      | expr.Const d ↦ λ k. ap (λ (d : Decimal). (trimmed d).p) (some_same d c k)
      | expr.Read x ↦ λ (k : None ≡ Some c). cc
      | expr.Add a b ↦ λ (k : None ≡ Some c). cc
      | expr.Sub a b ↦ λ (k : None ≡ Some c). cc
      | expr.Mul a b ↦ λ (k : None ≡ Some c). cc
    ] in
    subst (λ (p : ℕ). p ≤ q) (fold_out-GExpr ℕ (places_layer places) e ∙ at (out-GExpr e) h) few

-- where a member fails, not all pass
pub fails_at : {X : Type 0} (test : X → Bool) (xs : List X) (n : ℕ) (x : X) → n < length xs → x ≡ get_or xs n x → test x ≡ false → list_all test (drop n xs) ≡ list_all test xs → false ≡ list_all test xs
fails_at test xs n x h is fails invariant =
    sym (sym invariant ∙ ap (list_all test) (drop_more xs n x h) ∙ ap (λ (v : Bool). v && list_all test (drop (n + 1) xs)) (ap test (sym is) ∙ fails))
