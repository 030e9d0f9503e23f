-- Which bindings read nothing undefined depends on the initial world alone.
use Rattle.std.proofs.Common.{◌≡◌, ◌&&◌, ◌||◌, ℕ, Bool, not, List, sym, ap, ap₂, ◌∙◌}
use Rattle.std.specs.List.{list_all}
use Rattle.std.specs.FinMap as finite
use Rattle.pddl_terms.specs.declared.names.Typed.{Typed}
use Rattle.pddl_terms.specs.declared.expressions.Expr.{Expr}
use Rattle.pddl_terms.specs.declared.conditions.Cond.{Cond}
use Rattle.pddl_terms.specs.declared.actions.Schema.{Schema}
use Rattle.pddl_terms.proofs.Induction.{induct_expression}
use Rattle.pddl_types.specs.declared.pairs.Pair.{Pair}
use Rattle.pddl_meaning.specs.Worlds.{WorldValue, initial_world}
use Rattle.pddl_meaning.specs.Values.{reads_defined}
use Rattle.pddl_meaning.specs.Truth.{each_comparison, is_defined}
use Rattle.pddl_meaning.specs.Effects.{NumericEffect, are_compatible, are_effects_defined, numeric_effects, reads_old}
use Rattle.pddl_meaning.specs.Steps.{is_ready}
use Rattle.pddl_meaning.proofs.Layers.{reads_of_Lit, reads_of_Op, reads_of_Read}
use Rattle.ground_meaning.specs.Worlds.{IsLike}

module _ (params : List Typed) (args : List (List ℕ)) (w o : WorldValue) (defined : (x : List ℕ) → finite.contains_key w.values x ≡ finite.contains_key o.values x) where
  same_reads : (x : Expr) → reads_defined params args w x ≡ reads_defined params args o x
  same_reads =
      induct_expression (λ x. reads_defined params args w x ≡ reads_defined params args o x)
      (λ d at. reads_of_Lit params args w d at ∙ sym (reads_of_Lit params args o d at))
      (λ a. reads_of_Read params args w a ∙ defined _ ∙ sym (reads_of_Read params args o a))
      (λ at op x y f g. reads_of_Op params args w at op x y ∙ ap₂ (λ (s t : Bool). s && t) f g ∙ sym (reads_of_Op params args o at op x y))

  pub same_defined : (c : Cond) → is_defined params args w c ≡ is_defined params args o c
  same_defined c = ap (λ (test : Expr → Expr → Bool). each_comparison test c) (λ i. λ e f. same_reads e i && same_reads f i)

  same_effects_defined : (changes : List NumericEffect) → are_effects_defined params args w changes ≡ are_effects_defined params args o changes
  unfolding are_effects_defined
  same_effects_defined changes =
      ap (λ (test : NumericEffect → Bool). list_all test changes) (λ i. λ c. same_reads c.by i && (not (reads_old c.how) || defined c.fluent i))

pub same_readiness : (p : Pair) (s : Schema) (args : List (List ℕ)) (w : WorldValue) → IsLike p w → is_ready s args w ≡ is_ready s args (initial_world p)
unfolding is_ready
same_readiness p s args w like =
    ap₂ (λ (a b : Bool). (a && b) && are_compatible (numeric_effects s.params args s.effects))
    (same_defined s.params args w (initial_world p) like.defined s.pre) (same_effects_defined s.params args w (initial_world p) like.defined (numeric_effects s.params args s.effects))
