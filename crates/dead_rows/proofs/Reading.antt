-- What the words of a dead box say of it.
use Rattle.std.proofs.Common.{◌≡◌, ℕ, ◌+◌, ◌*◌, ◌<◌, Bool, true, false, List, map, length, get_or, IsTrue, IsFalse, sym, ap, ◌∙◌, subst}
use Rattle.std.specs.List.{range_with_len}
use Rattle.num_ends.specs.Decimal.{Decimal}
use Rattle.num_ends.specs.Ends.{Interval, has, is_inhabited}
use Rattle.ground_task.specs.Meaning.{fluent_value}
use Rattle.ground_task.specs.States.{StateValue}
use Rattle.ground_task.specs.Tasks.{TaskValue}
use Rattle.box_model.specs.Boxes.{fact_in, fluent_in, may_be, Contains}
use Rattle.box_model.specs.Least.{IsDead}
use Rattle.box_model.specs.declared.state_box.May.{May}
use Rattle.box_model.specs.declared.state_box.StateBox.{StateBox}
use Rattle.box_words.specs.Words.{fact_at, interval_at, box_of, IsEndWords}
use Rattle.box_words.proofs.Decoding.{fact_decodes, fluent_decodes, whole, lower_is_end, upper_is_end}
use Rattle.dead_rows.specs.declared.shape.Shape.{Shape}
use Rattle.dead_rows.specs.Entries.{SpellsDead}
use Rattle.dead_rows.specs.Readings.{AreEnds, AreInhabited, IsFor}
use Rattle.dead_rows.specs.Shapes.{IsShapeOf}

pub width_is : (t : TaskValue) (shape : Shape) (b : StateBox) → IsShapeOf t shape → IsDead t b → (shape.facts ≡ length b.facts) × (length shape.places ≡ length b.fluents)
width_is t shape b is dead = (is.facts ∙ sym dead.a_box.as_many_facts, is.fluents ∙ sym dead.a_box.as_many_fluents)

module _ (t : TaskValue) (shape : Shape) (is : IsShapeOf t shape) (words : List ℕ) (b : StateBox) (spells : SpellsDead t words b) where
  facts_are : shape.facts ≡ length b.facts
  facts_are = is.facts ∙ sym spells.dead.a_box.as_many_facts

  fluents_are : length shape.places ≡ length b.fluents
  fluents_are = is.fluents ∙ sym spells.dead.a_box.as_many_fluents

  fact_is : (f : ℕ) → f < length b.facts → fact_at words f ≡ fact_in b f
  fact_is f lt = ap (λ (l : List ℕ). fact_at l f) spells.spelled ∙ fact_decodes b f lt

  fluent_is : (x : ℕ) → x < length b.fluents → interval_at shape.facts words x ≡ fluent_in b x
  fluent_is x lt = (λ i. interval_at (facts_are i) (spells.spelled i) x) ∙ fluent_decodes b x spells.wordable lt

  value_is : (s : StateValue) (x : ℕ) → x < length shape.places → fluent_value shape.places s x ≡ fluent_value t.places s x
  value_is s x lt = ap (λ (p : ℕ). record { n = (fluent_value t.places s x).n; p = p }) (is.places x lt)

  pub contains_by : (s : StateValue) → IsFor t s → ((f : ℕ) → f < shape.facts → IsTrue (may_be (fact_at words f) (get_or s.facts f false)))
      → ((x : ℕ) → x < length shape.places → IsTrue (has (interval_at shape.facts words x) (fluent_value shape.places s x))) → Contains t.places b s
  contains_by s for facts values = record {
    as_many_facts = for.0 ∙ sym spells.dead.a_box.as_many_facts;
    as_many_values = for.1 ∙ sym spells.dead.a_box.as_many_fluents;
    facts = λ f lt. subst (λ (m : May). IsTrue (may_be m (get_or s.facts f false))) (fact_is f lt) (facts f (subst (λ (n : ℕ). f < n) (sym facts_are) lt));
    fluents = λ x lt. let inside : x < length shape.places = subst (λ (n : ℕ). x < n) (sym fluents_are) lt in
        subst (λ (p : Interval × Decimal). IsTrue (has p.0 p.1)) (λ i. (fluent_is x lt i, value_is s x inside i)) (values x inside);
  }

  not_both : (p : Bool) → IsTrue p → IsFalse p → ⊥
  not_both p yes_p no_p = let e : true ≡ false = sym yes_p ∙ no_p in absurd (cc)

  pub fact_decides : (s : StateValue) → (f : ℕ) × (f < shape.facts) × IsFalse (may_be (fact_at words f) (get_or s.facts f false)) → Contains t.places b s → ⊥
  fact_decides s o c = let lt : o.0 < length b.facts = subst (λ (n : ℕ). o.0 < n) facts_are o.1 in
      not_both (may_be (fact_in b o.0) (get_or s.facts o.0 false)) (c.facts o.0 lt) (subst (λ (m : May). IsFalse (may_be m (get_or s.facts o.0 false))) (fact_is o.0 lt) o.2)

  pub value_decides : (s : StateValue) → (x : ℕ) × (x < length shape.places) × IsFalse (has (interval_at shape.facts words x) (fluent_value shape.places s x)) → Contains t.places b s → ⊥
  value_decides s o c = let lt : o.0 < length b.fluents = subst (λ (n : ℕ). o.0 < n) fluents_are o.1 in
      not_both (has (fluent_in b o.0) (fluent_value t.places s o.0)) (c.fluents o.0 lt) (subst (λ (p : Interval × Decimal). IsFalse (has p.0 p.1)) (λ i. (fluent_is o.0 lt i, value_is s o.0 o.1 i)) o.2)

  pub ends_are : AreEnds shape words
  ends_are x lt = let inside : x < length b.fluents = subst (λ (n : ℕ). x < n) fluents_are lt in
      subst (λ (p : ℕ × List ℕ). IsEndWords p.1 (p.0 + 8 * x) × IsEndWords p.1 (p.0 + 8 * x + 4)) (λ i. (sym facts_are i, sym spells.spelled i)) (lower_is_end b x spells.wordable inside, upper_is_end b x spells.wordable inside)

  pub inhabited_are : AreInhabited shape words
  inhabited_are x lt = let inside : x < length b.fluents = subst (λ (n : ℕ). x < n) fluents_are lt in
      subst (λ (p : Interval). IsTrue (is_inhabited p.0 p.1)) (sym (fluent_is x inside)) (spells.wordable.inhabited x inside)

  pub box_is : (facts : List May) (fluents : List Interval) → facts ≡ map (fact_at words) (range_with_len 0 shape.facts) → fluents ≡ map (interval_at shape.facts words) (range_with_len 0 (length shape.places))
      → (r : StateBox) → r.facts ≡ facts → r.fluents ≡ fluents → r ≡ b
  box_is facts fluents fs xs r rf rx = (λ i. record { facts = (rf ∙ fs) i; fluents = (rx ∙ xs) i }) ∙ ((λ i. box_of (facts_are i) (fluents_are i) (spells.spelled i)) ∙ whole b spells.wordable)
