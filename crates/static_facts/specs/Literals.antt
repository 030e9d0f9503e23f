-- The literals among the top conjuncts of a condition, with negation moved inward.
use Rattle.std.specs.Prelude.{ℕ, ◌++◌, ◌&&◌, Bool, true, false, not, List, [], ◌∷◌, bytes_eq, flat_map, is_some, if◌then◌else◌}
use Rattle.std.specs.Bool.{beq}
use Rattle.std.specs.List.{list_all}
use Rattle.pddl_terms.specs.declared.names.Arg.{Arg}
use Rattle.pddl_terms.specs.declared.names.Arg.TheVariants.{Var, Obj}
use Rattle.pddl_terms.specs.declared.names.Atom.{Atom}
use Rattle.pddl_terms.specs.declared.names.Typed.{Typed}
use Rattle.pddl_terms.specs.declared.conditions.Cond.{Cond, Cond-F, fold-Cond}
use Rattle.pddl_terms.specs.declared.conditions.Cond.TheOpen as condition
use Rattle.pddl_terms.specs.Texts.{argument_text}
use Rattle.name_table.specs.TypedLists.{first_typed}
use Rattle.pddl_types.specs.declared.pairs.Pair.{Pair}
use Rattle.static_facts.specs.Atoms.{atom_of, is_true_at_first}
use Rattle.static_facts.specs.Fixed.{is_fixed_predicate}

-- a fact or an equality of objects, or where the truth value is `false` the negation of one
pub data Literal : Type 0 where
  fact : Bool → Atom → Literal
  same : Bool → Arg → Arg → Literal

-- ---- top conjuncts

abbrev pub conjuncts_layer : Cond-F (Bool → List Literal) → Bool → List Literal
conjuncts_layer (condition.And cs) polarity = if polarity then flat_map (λ c. c true) cs else []
conjuncts_layer (condition.Or cs) polarity = if polarity then [] else flat_map (λ c. c false) cs
conjuncts_layer (condition.Not c) polarity = c (not polarity)
conjuncts_layer (condition.Imply b c) polarity = if polarity then [] else b true ++ c false
conjuncts_layer (condition.Fact a) polarity = fact polarity a ∷ []
conjuncts_layer (condition.Same a b) polarity = same polarity a b ∷ []
conjuncts_layer (condition.Cmp r e f) polarity = []

-- the literals among the top conjuncts of a condition, or at `false` of its negation, in the order of the file
unfoldable pub conjuncts : Cond → Bool → List Literal
conjuncts = fold-Cond (Bool → List Literal) conjuncts_layer

-- ---- what is known of a literal once some parameters are bound

-- a variable is one of these parameters; an object needs none
abbrev pub is_bound : List Typed → Arg → Bool
is_bound params (Var n) = is_some (first_typed n.text params)
is_bound params (Obj n) = true

-- the literal never changes, and each of its variables is one of these parameters
abbrev pub is_judged : Pair → List Typed → Literal → Bool
is_judged p params (fact positive a) = is_fixed_predicate p a.head.text && list_all (is_bound params) a.args
is_judged p params (same positive a b) = is_bound params a && is_bound params b

-- the literal is true at first, with the parameters bound to the names of objects
abbrev pub is_true_literal : Pair → List Typed → List (List ℕ) → Literal → Bool
is_true_literal p params args (fact positive a) = beq positive (is_true_at_first p (atom_of params args a))
is_true_literal p params args (same positive a b) = beq positive (bytes_eq (argument_text params args a) (argument_text params args b))
