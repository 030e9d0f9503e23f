-- The literals among the top conjuncts, by what a condition is.
use Rattle.std.proofs.Common.{◌≡◌, ◌++◌, Bool, true, false, not, List, [], ◌∷◌, sym, ap, ◌∙◌, if◌then◌else◌}
use Rattle.std.specs.Prelude.{flat_map}
use Rattle.std.proofs.lemmas.List.Folds.{flat_map-map}
use Rattle.pddl_terms.specs.declared.names.Arg.{Arg}
use Rattle.pddl_terms.specs.declared.names.Atom.{Atom}
use Rattle.pddl_terms.specs.declared.expressions.Expr.{Expr}
use Rattle.pddl_terms.specs.declared.conditions.Rel.{Rel}
use Rattle.pddl_terms.specs.declared.conditions.Cond.{Cond, Cond-F, fold-Cond, fold-roll-Cond}
use Rattle.pddl_terms.specs.declared.conditions.Cond.TheVariants as condition
use Rattle.static_facts.specs.Literals.{conjuncts, conjuncts_layer, Literal}
use Rattle.static_facts.specs.Literals as literal

abbrev folded : Cond → Bool → List Literal
folded = fold-Cond (Bool → List Literal) conjuncts_layer

pub conjuncts_And : (cs : List Cond) (polarity : Bool) → conjuncts (condition.And cs) polarity ≡ (if polarity then flat_map (λ c. conjuncts c true) cs else [])
unfolding conjuncts
conjuncts_And cs polarity =
    ap (λ (c : Cond). folded c polarity) (sym (condition.rolls-And cs))
    ∙ ap (λ (f : Bool → List Literal). f polarity) (fold-roll-Cond (Bool → List Literal) conjuncts_layer (Cond-F.And cs))
    ∙ ap (λ (ls : List Literal). if polarity then ls else []) (flat_map-map (λ (f : Bool → List Literal). f true) folded cs)

pub conjuncts_Or : (cs : List Cond) (polarity : Bool) → conjuncts (condition.Or cs) polarity ≡ (if polarity then [] else flat_map (λ c. conjuncts c false) cs)
unfolding conjuncts
conjuncts_Or cs polarity =
    ap (λ (c : Cond). folded c polarity) (sym (condition.rolls-Or cs))
    ∙ ap (λ (f : Bool → List Literal). f polarity) (fold-roll-Cond (Bool → List Literal) conjuncts_layer (Cond-F.Or cs))
    ∙ ap (λ (ls : List Literal). if polarity then [] else ls) (flat_map-map (λ (f : Bool → List Literal). f false) folded cs)

pub conjuncts_Not : (c : Cond) (polarity : Bool) → conjuncts (condition.Not c) polarity ≡ conjuncts c (not polarity)
unfolding conjuncts
conjuncts_Not c polarity =
    ap (λ (d : Cond). folded d polarity) (sym (condition.rolls-Not c))
    ∙ ap (λ (f : Bool → List Literal). f polarity) (fold-roll-Cond (Bool → List Literal) conjuncts_layer (Cond-F.Not c))

pub conjuncts_Imply : (b c : Cond) (polarity : Bool) → conjuncts (condition.Imply b c) polarity ≡ (if polarity then [] else conjuncts b true ++ conjuncts c false)
unfolding conjuncts
conjuncts_Imply b c polarity =
    ap (λ (d : Cond). folded d polarity) (sym (condition.rolls-Imply b c))
    ∙ ap (λ (f : Bool → List Literal). f polarity) (fold-roll-Cond (Bool → List Literal) conjuncts_layer (Cond-F.Imply b c))

pub conjuncts_Fact : (a : Atom) (polarity : Bool) → conjuncts (condition.Fact a) polarity ≡ literal.fact polarity a ∷ []
unfolding conjuncts
conjuncts_Fact a polarity =
    ap (λ (d : Cond). folded d polarity) (sym (condition.rolls-Fact a))
    ∙ ap (λ (f : Bool → List Literal). f polarity) (fold-roll-Cond (Bool → List Literal) conjuncts_layer (Cond-F.Fact a))

pub conjuncts_Same : (a b : Arg) (polarity : Bool) → conjuncts (condition.Same a b) polarity ≡ literal.same polarity a b ∷ []
unfolding conjuncts
conjuncts_Same a b polarity =
    ap (λ (d : Cond). folded d polarity) (sym (condition.rolls-Same a b))
    ∙ ap (λ (f : Bool → List Literal). f polarity) (fold-roll-Cond (Bool → List Literal) conjuncts_layer (Cond-F.Same a b))

pub conjuncts_Cmp : (r : Rel) (e f : Expr) (polarity : Bool) → conjuncts (condition.Cmp r e f) polarity ≡ []
unfolding conjuncts
conjuncts_Cmp r e f polarity =
    ap (λ (d : Cond). folded d polarity) (sym (condition.rolls-Cmp r e f))
    ∙ ap (λ (g : Bool → List Literal). g polarity) (fold-roll-Cond (Bool → List Literal) conjuncts_layer (Cond-F.Cmp r e f))
