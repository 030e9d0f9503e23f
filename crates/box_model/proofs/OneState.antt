-- The box of one state.
use Rattle.std.proofs.Common.{◌≡◌, ℕ, ◌<◌, Bool, true, false, pos, List, length, map, get_or, sym, refl, ap, ◌∙◌, subst, arith}
use Rattle.std.specs.List.{range_with_len}
use Rattle.std.proofs.lemmas.Bool.{and_parts, and_from}
use Rattle.std.proofs.lemmas.List.FromFn.{length-map-range_with_len, get_or-map-range_with_len}
use Rattle.num_ends.specs.Decimal.{Decimal, InRange}
use Rattle.num_ends.specs.Ends.{Interval, has, is_above, is_within, lower_covers, upper_covers, is_below, point_of, whole_line}
use Rattle.num_ends.specs.declared.ends.End.{End}
use Rattle.num_ends.specs.declared.ends.End.TheVariants.{NegInf, Excl, Incl, PosInf}
use Rattle.num_ends.proofs.DecimalOrder.{most_refl}
use Rattle.ground_task.specs.Meaning.{fluent_value}
use Rattle.ground_task.specs.States.{StateValue}
use Rattle.ground_task.specs.Tasks.{TaskValue}
use Rattle.box_model.specs.Boxes.{fact_in, fluent_in, may_be, is_may_within, only, IsAround, IsBoxOf, Contains, LiesWithin}
use Rattle.box_model.proofs.Numbers.{trimmed_places, trimmed_range}
use Rattle.box_model.specs.declared.state_box.May.{May}
use Rattle.box_model.specs.declared.state_box.May.TheVariants.{True, False, Any}
use Rattle.box_model.specs.declared.state_box.StateBox.{StateBox}

-- an interval around a decimal is one around its point
pub lower_point : (l : End) (d : Decimal) → lower_covers l (Incl d) ≡ is_above l d
lower_point NegInf d = refl
lower_point (Excl a) d = refl
lower_point (Incl a) d = refl
lower_point PosInf d = refl

pub upper_point : (u : End) (d : Decimal) → upper_covers u (Incl d) ≡ is_below u d
upper_point NegInf d = refl
upper_point (Excl a) d = refl
upper_point (Incl a) d = refl
upper_point PosInf d = refl

pub point_within : (i : Interval) (d : Decimal) → has i d ≡ true → is_within (point_of d) i ≡ true
point_within i d h =
    let parts = and_parts (is_above i.0 d) (is_below i.1 d) h in
    and_from _ _ (lower_point i.0 d ∙ parts.0) (upper_point i.1 d ∙ parts.1)

pub only_may_be : (truth : Bool) → may_be (only truth) truth ≡ true
only_may_be true = refl
only_may_be false = refl

pub only_within : (truth : Bool) (m : May) → may_be m truth ≡ true → is_may_within (only truth) m ≡ true
only_within true True h = refl
only_within true False h = h
only_within true Any h = refl
only_within false True h = h
only_within false False h = refl
only_within false Any h = refl

-- ---- the box

pub made_around : (places : List ℕ) (s : StateValue) (b : StateBox) (facts fluents : ℕ) → length s.facts ≡ facts → length s.values ≡ fluents →
    b.facts ≡ map (λ f. only (get_or s.facts f false)) (range_with_len 0 facts) → b.fluents ≡ map (λ x. point_of (fluent_value places s x)) (range_with_len 0 fluents) → IsAround places s b
made_around places s b facts fluents h k e d =
    let f : ℕ → May = λ n. only (get_or s.facts n false) in
    let g : ℕ → Interval = λ x. point_of (fluent_value places s x) in
    record {
      as_many_facts = ap length e ∙ length-map-range_with_len f 0 facts ∙ sym h;
      as_many_fluents = ap length d ∙ length-map-range_with_len g 0 fluents ∙ sym k;
      facts = λ n l. ap (λ (xs : List May). get_or xs n Any) e ∙ get_or-map-range_with_len f 0 facts n n Any (omega arith) (omega arith);
      fluents = λ x l. ap (λ (xs : List Interval). get_or xs x whole_line) d ∙ get_or-map-range_with_len g 0 fluents x x whole_line (omega arith) (omega arith);
    }

module _ (places : List ℕ) (s : StateValue) (b : StateBox) (around : IsAround places s b) where
  pub around_contains : Contains places b s
  around_contains =
      record {
        as_many_facts = sym around.as_many_facts;
        as_many_values = sym around.as_many_fluents;
        facts = λ f h. rw (around.facts f (subst (λ (n : ℕ). f < n) around.as_many_facts h)) (only_may_be (get_or s.facts f false));
        fluents = λ x h. rw (around.fluents x (subst (λ (n : ℕ). x < n) around.as_many_fluents h))
            (and_from _ _ (most_refl (fluent_value places s x)) (most_refl (fluent_value places s x)));
      }

  pub around_least : (c : StateBox) → Contains places c s → LiesWithin b c
  around_least c inside =
      record {
        as_many_facts = around.as_many_facts ∙ inside.as_many_facts;
        as_many_fluents = around.as_many_fluents ∙ inside.as_many_values;
        facts = λ f h.
            let known : f < length s.facts = subst (λ (n : ℕ). f < n) around.as_many_facts h in
            rw (around.facts f known) (only_within (get_or s.facts f false) (fact_in c f) (inside.facts f (subst (λ (n : ℕ). f < n) inside.as_many_facts known)));
        fluents = λ x h.
            let known : x < length s.values = subst (λ (n : ℕ). x < n) around.as_many_fluents h in
            rw (around.fluents x known) (point_within (fluent_in c x) (fluent_value places s x) (inside.fluents x (subst (λ (n : ℕ). x < n) inside.as_many_values known)));
      }

pub around_of_task : (t : TaskValue) (s : StateValue) (b : StateBox) → length s.facts ≡ length t.raw.facts → length s.values ≡ length t.raw.fluents →
    ((x : ℕ) → x < length t.raw.fluents → InRange (get_or s.values x (pos 0))) → IsAround t.places s b → IsBoxOf t b
around_of_task t s b facts values ranges around =
    let known : (x : ℕ) → x < length b.fluents → x < length s.values = λ x h. subst (λ (n : ℕ). x < n) around.as_many_fluents h in
    let value : ℕ → Decimal = fluent_value t.places s in
    let range : (x : ℕ) → x < length b.fluents → InRange (value x).n = λ x h. ranges x (subst (λ (n : ℕ). x < n) (around.as_many_fluents ∙ values) h) in
    record {
      as_many_facts = around.as_many_facts ∙ facts;
      as_many_fluents = around.as_many_fluents ∙ values;
      inhabited = λ x h. rw (around.fluents x (known x h)) (most_refl (value x));
      lower_fits = λ x h. rw (around.fluents x (known x h)) (trimmed_places (value x), trimmed_range (value x) (range x h));
      upper_fits = λ x h. rw (around.fluents x (known x h)) (trimmed_places (value x), trimmed_range (value x) (range x h));
    }
