-- The literals among the top conjuncts, by what a condition is.
use Rattle.std.proofs.Common.{◌≡◌, ◌&&◌, ◌||◌, ℕ, Bool, true, false, not, List, ap, ◌∙◌}
use Rattle.std.specs.Prelude.{bytes_eq}
use Rattle.std.specs.List.{list_all}
use Rattle.std.specs.FinSet as set
use Rattle.std.proofs.lemmas.List.Folds as folds
use Rattle.pddl_terms.specs.declared.names.Arg.{Arg}
use Rattle.pddl_terms.specs.declared.names.Atom.{Atom}
use Rattle.pddl_terms.specs.declared.names.Typed.{Typed}
use Rattle.pddl_terms.specs.declared.expressions.Expr.{Expr}
use Rattle.pddl_terms.specs.declared.conditions.Rel.{Rel}
use Rattle.pddl_terms.specs.declared.conditions.Cond.{Cond}
use Rattle.pddl_terms.specs.declared.conditions.Cond.TheVariants as condition
use Rattle.pddl_terms.specs.Texts.{argument_text, ground_text}
use Rattle.pddl_meaning.specs.Worlds.{WorldValue}
use Rattle.pddl_meaning.specs.Truth.{at_polarity, literals_layer, literals_true}
use Rattle.pddl_meaning.proofs.Folds.{fold-And, fold-Or, fold-Not, fold-Imply, fold-Fact, fold-Same, fold-Cmp}

module _ (params : List Typed) (args : List (List ℕ)) (w : WorldValue) where
  pub literals_And : (cs : List Cond) (polarity : Bool) → literals_true params args w (condition.And cs) polarity ≡ (not polarity || list_all (λ c. literals_true params args w c true) cs)
  unfolding literals_true
  literals_And cs polarity =
      ap (λ (f : Bool → Bool). f polarity) (fold-And (literals_layer params args w) cs)
      ∙ ap (λ (b : Bool). not polarity || b) (folds.list_all-map (λ (f : Bool → Bool). f true) (literals_true params args w) cs)

  pub literals_Or : (cs : List Cond) (polarity : Bool) → literals_true params args w (condition.Or cs) polarity ≡ (polarity || list_all (λ c. literals_true params args w c false) cs)
  unfolding literals_true
  literals_Or cs polarity =
      ap (λ (f : Bool → Bool). f polarity) (fold-Or (literals_layer params args w) cs)
      ∙ ap (λ (b : Bool). polarity || b) (folds.list_all-map (λ (f : Bool → Bool). f false) (literals_true params args w) cs)

  pub literals_Not : (c : Cond) (polarity : Bool) → literals_true params args w (condition.Not c) polarity ≡ literals_true params args w c (not polarity)
  unfolding literals_true
  literals_Not c polarity = ap (λ (f : Bool → Bool). f polarity) (fold-Not (literals_layer params args w) c)

  pub literals_Imply : (b c : Cond) (polarity : Bool) → literals_true params args w (condition.Imply b c) polarity ≡ (polarity || (literals_true params args w b true && literals_true params args w c false))
  unfolding literals_true
  literals_Imply b c polarity = ap (λ (f : Bool → Bool). f polarity) (fold-Imply (literals_layer params args w) b c)

  pub literals_Fact : (a : Atom) (polarity : Bool) → literals_true params args w (condition.Fact a) polarity ≡ at_polarity polarity (set.contains w.facts (ground_text params args a))
  unfolding literals_true
  literals_Fact a polarity = ap (λ (f : Bool → Bool). f polarity) (fold-Fact (literals_layer params args w) a)

  pub literals_Same : (a b : Arg) (polarity : Bool) → literals_true params args w (condition.Same a b) polarity ≡ at_polarity polarity (bytes_eq (argument_text params args a) (argument_text params args b))
  unfolding literals_true
  literals_Same a b polarity = ap (λ (f : Bool → Bool). f polarity) (fold-Same (literals_layer params args w) a b)

  pub literals_Cmp : (r : Rel) (e f : Expr) (polarity : Bool) → literals_true params args w (condition.Cmp r e f) polarity ≡ true
  unfolding literals_true
  literals_Cmp r e f polarity = ap (λ (g : Bool → Bool). g polarity) (fold-Cmp (literals_layer params args w) r e f)
