-- A comparison stands where its form is met.
use Rattle.std.proofs.Common.{if◌then◌else◌, ◌≡◌, ◌∷◌, [], ℕ, true, List, Option, Some, refl, sym, ap, ap₂, ◌∙◌}
use Rattle.std.specs.Option.{option_and_then}
use Rattle.num_ends.specs.Decimal.{Decimal, origin, is_less, is_at_most, is_same_value, sum_of, difference_of, product_of, trimmed}
use Rattle.num_ends.proofs.Trimmed.{less_of_trimmed, most_of_trimmed, same_of_trimmed, trimmed_same}
use Rattle.ground_task.proofs.Trees.{fold-Const, fold-Read, fold-Add, fold-Sub, fold-Mul, induct_expression}
use Rattle.ground_task.specs.declared.raw.GExpr.{GExpr}
use Rattle.ground_task.specs.declared.raw.Rel.{Rel}
use Rattle.ground_task.specs.declared.raw.Rel.TheVariants.{Less, LessEqual, Equal, GreaterEqual, Greater}
use Rattle.ground_task.specs.Meaning.{fluent_value, stands, value_layer, value_of}
use Rattle.ground_task.specs.States.{StateValue}
use Rattle.simple_atoms.specs.declared.combination.Combination.{Combination}
use Rattle.simple_atoms.specs.declared.linear.Linear.{Linear}
use Rattle.simple_atoms.specs.Forms.{Term, combined, difference_of_forms, form_of, form_of_difference, is_upward, linear_form, marked, one, product_of_forms, sum_of_forms}
use Rattle.simple_atoms.specs.Values.{form_value, is_met, number_in, term_added, value_of_form, value_of_terms, weighted}
use Rattle.simple_atoms.specs.Ranged.{trimmed_sum, trimmed_product}
use Rattle.simple_atoms.proofs.Layers.{form_of_Const, form_of_Read, form_of_Add, form_of_Sub, form_of_Mul}
use Rattle.simple_atoms.proofs.Ring.{Same, same_trim, same_sum, same_product, same_difference, sum_comm, sum_assoc, sum_zero, product_one, less_by_difference, most_by_difference, same_by_difference}
use Rattle.simple_atoms.proofs.FormValues.{mapped, followed, sum_is, product_is, meant, total-cons, total-none, sum_value, difference_value, product_value}

module _ (places : List ℕ) (s : StateValue) where
  some_one : {C : Type 0} (a b : C) → Some a ≡ Some b → a ≡ b
  some_one a b h = cc

  no_terms : (c : Decimal) → Same (meant (fluent_value places s) (record { terms = []; constant = trimmed c })) c
  no_terms c =
      ap trimmed (ap (sum_of (trimmed c)) (total-none (fluent_value places s)) ∙ sum_comm (trimmed c) origin ∙ sum_zero (trimmed c)) ∙ same_trim c

  one_term : (x : ℕ) → meant (fluent_value places s) (record { terms = (x, one) ∷ []; constant = origin }) ≡ fluent_value places s x
  one_term x =
      sum_zero (value_of_terms (fluent_value places s) ((x, one) ∷ []))
      ∙ total-cons (fluent_value places s) (x, one) []
      ∙ ap₂ sum_of (product_one (fluent_value places s x)) (total-none (fluent_value places s))
      ∙ sum_comm (fluent_value places s x) origin ∙ sum_zero (fluent_value places s x)

  both_parts : (operate : Combination → Combination → Option Combination) (x y : Option Combination) (f : Combination) → combined operate x y ≡ Some f
      → (a : Combination) × (b : Combination) × (x ≡ Some a) × (y ≡ Some b) × (operate a b ≡ Some f)
  both_parts operate x y f h =
      let first = followed (λ (a : Combination). option_and_then (operate a) y) x f h in
      let second = followed (operate first.0) y f first.2 in
      (first.0, second.0, first.1, second.1, second.2)

  pub form_meant : (x : GExpr) → (f : Combination) → form_of x ≡ Some f → Same (meant (fluent_value places s) f) (value_of places s x)
  form_meant = induct_expression (λ x. (f : Combination) → form_of x ≡ Some f → Same (meant (fluent_value places s) f) (value_of places s x))
      (λ c f h.
      ap (λ (a : Combination). trimmed (meant (fluent_value places s) a)) (sym (some_one (record { terms = []; constant = trimmed c }) f (sym (form_of_Const c) ∙ h)))
      ∙ no_terms c ∙ sym (same_trim c) ∙ ap trimmed (sym (fold-Const (value_layer (fluent_value places s)) c)))
      (λ x f h.
      ap (λ (a : Combination). trimmed (meant (fluent_value places s) a)) (sym (some_one (record { terms = (x, one) ∷ []; constant = origin }) f (sym (form_of_Read x) ∙ h)))
      ∙ ap trimmed (one_term x) ∙ ap trimmed (sym (fold-Read (value_layer (fluent_value places s)) x)))
      (λ a b ia ib f h.
      let p = both_parts sum_of_forms (form_of a) (form_of b) f (sym (form_of_Add a b) ∙ h) in
      sum_value (fluent_value places s) p.0 p.1 f p.4
      ∙ same_sum (meant (fluent_value places s) p.0) (meant (fluent_value places s) p.1) (value_of places s a) (value_of places s b) (ia p.0 p.2) (ib p.1 p.3)
      ∙ ap trimmed (sym (fold-Add (value_layer (fluent_value places s)) a b)))
      (λ a b ia ib f h.
      let p = both_parts difference_of_forms (form_of a) (form_of b) f (sym (form_of_Sub a b) ∙ h) in
      difference_value (fluent_value places s) p.0 p.1 f p.4
      ∙ same_difference (meant (fluent_value places s) p.0) (meant (fluent_value places s) p.1) (value_of places s a) (value_of places s b) (ia p.0 p.2) (ib p.1 p.3)
      ∙ ap trimmed (sym (fold-Sub (value_layer (fluent_value places s)) a b)))
      (λ a b ia ib f h.
      let p = both_parts product_of_forms (form_of a) (form_of b) f (sym (form_of_Mul a b) ∙ h) in
      product_value (fluent_value places s) p.0 p.1 f p.4
      ∙ same_product (meant (fluent_value places s) p.0) (meant (fluent_value places s) p.1) (value_of places s a) (value_of places s b) (ia p.0 p.2) (ib p.1 p.3)
      ∙ ap trimmed (sym (fold-Mul (value_layer (fluent_value places s)) a b)))

  difference_meant : (a b : GExpr) (f : Combination) → form_of_difference a b ≡ Some f → Same (meant (fluent_value places s) f) (difference_of (value_of places s a) (value_of places s b))
  difference_meant a b f h =
      let p = both_parts difference_of_forms (form_of a) (form_of b) f h in
      difference_value (fluent_value places s) p.0 p.1 f p.4
      ∙ same_difference (meant (fluent_value places s) p.0) (meant (fluent_value places s) p.1) (value_of places s a) (value_of places s b) (form_meant a p.0 p.2) (form_meant b p.1 p.3)

  same_less : (d e : Decimal) → Same d e → is_less origin d ≡ is_less origin e
  same_less d e h = sym (less_of_trimmed origin d) ∙ ap (is_less (trimmed origin)) h ∙ less_of_trimmed origin e

  same_most : (d e : Decimal) → Same d e → is_at_most origin d ≡ is_at_most origin e
  same_most d e h = sym (most_of_trimmed origin d) ∙ ap (is_at_most (trimmed origin)) h ∙ most_of_trimmed origin e

  same_zero : (d e : Decimal) → Same d e → is_same_value d origin ≡ is_same_value e origin
  same_zero d e h = sym (same_of_trimmed d origin) ∙ ap (λ (x : Decimal). is_same_value x (trimmed origin)) h ∙ same_of_trimmed e origin

  difference_met : (r : Rel) (a b : GExpr) (f : Combination)
      → (if is_upward r then form_of_difference a b else form_of_difference b a) ≡ Some f
      → stands r (value_of places s a) (value_of places s b) ≡ is_met (marked r f) (meant (fluent_value places s) f)
  difference_met Less a b f h =
      sym (same_less (meant (fluent_value places s) f) (difference_of (value_of places s b) (value_of places s a)) (difference_meant b a f h) ∙ less_by_difference (value_of places s b) (value_of places s a))
  difference_met LessEqual a b f h =
      sym (same_most (meant (fluent_value places s) f) (difference_of (value_of places s b) (value_of places s a)) (difference_meant b a f h) ∙ most_by_difference (value_of places s b) (value_of places s a))
  difference_met Equal a b f h =
      sym (same_zero (meant (fluent_value places s) f) (difference_of (value_of places s a) (value_of places s b)) (difference_meant a b f h) ∙ same_by_difference (value_of places s a) (value_of places s b))
  difference_met GreaterEqual a b f h =
      sym (same_most (meant (fluent_value places s) f) (difference_of (value_of places s a) (value_of places s b)) (difference_meant a b f h) ∙ most_by_difference (value_of places s a) (value_of places s b))
  difference_met Greater a b f h =
      sym (same_less (meant (fluent_value places s) f) (difference_of (value_of places s a) (value_of places s b)) (difference_meant a b f h) ∙ less_by_difference (value_of places s a) (value_of places s b))

  pub form_met : (r : Rel) (a b : GExpr) (f : Linear) → linear_form r a b ≡ Some f
      → stands r (value_of places s a) (value_of places s b) ≡ is_met f (value_of_form (fluent_value places s) f)
  form_met r a b f h =
      let got = mapped (marked r) (if is_upward r then form_of_difference a b else form_of_difference b a) f h in
      difference_met r a b got.0 got.1 ∙ ap (λ (g : Linear). is_met g (value_of_form (fluent_value places s) g)) got.2

  -- ---- the value within the range is the value

  term_value : (total coefficient n sum : Decimal) (x : ℕ) → n ≡ trimmed (fluent_value places s x) → term_added total coefficient n ≡ Some sum
      → Same sum (sum_of total (product_of coefficient (fluent_value places s x)))
  term_value total coefficient n sum x is h =
      let p = followed (trimmed_sum total) (trimmed_product coefficient n) sum h in
      ap trimmed (sum_is total p.0 sum p.2) ∙ same_trim (sum_of total p.0)
      ∙ same_sum total p.0 total (product_of coefficient (fluent_value places s x)) refl
      (ap trimmed (product_is coefficient n p.0 p.1) ∙ same_trim (product_of coefficient n)
      ∙ same_product coefficient n coefficient (fluent_value places s x) refl (ap trimmed is ∙ same_trim (fluent_value places s x)))

  weighted_value : (ts : List Term) (start value : Decimal) → weighted (number_in places s) start ts ≡ Some value
      → Same value (sum_of start (value_of_terms (fluent_value places s) ts))
  unfolding weighted
  weighted_value [] start value h =
      ap trimmed (sym (some_one start value h) ∙ sym (ap (sum_of start) (total-none (fluent_value places s)) ∙ sum_comm start origin ∙ sum_zero start))
  weighted_value (t ∷ ts) start value h =
      let one = followed (λ (sum : Decimal). weighted (number_in places s) sum ts) (term_added start t.1 (trimmed (fluent_value places s t.0))) value h in
      weighted_value ts one.0 value one.2
      ∙ same_sum one.0 (value_of_terms (fluent_value places s) ts) (sum_of start (product_of t.1 (fluent_value places s t.0))) (value_of_terms (fluent_value places s) ts)
      (term_value start t.1 (trimmed (fluent_value places s t.0)) one.0 t.0 refl one.1) refl
      ∙ ap trimmed (sum_assoc start (product_of t.1 (fluent_value places s t.0)) (value_of_terms (fluent_value places s) ts) ∙ ap (sum_of start) (sym (total-cons (fluent_value places s) t ts)))

  pub form_value_exact : (f : Linear) (value : Decimal) → form_value places s f ≡ Some value → is_same_value value (value_of_form (fluent_value places s) f) ≡ true
  form_value_exact f value h = trimmed_same value (value_of_form (fluent_value places s) f) (weighted_value f.terms f.constant value h)
