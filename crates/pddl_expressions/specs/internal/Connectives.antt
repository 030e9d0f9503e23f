-- What the first word of a condition's list makes of the list.
use Rattle.std.specs.Prelude.{ℕ, List, Option, Some, None, codes, bytes_eq, if◌then◌else◌}
use Rattle.std.specs.Option.{option_map_or}
use Rattle.pddl_terms.specs.declared.names.Atom.{Atom}
use Rattle.pddl_terms.specs.declared.conditions.Cond.{Cond}
use Rattle.pddl_terms.specs.declared.conditions.Cond.TheVariants as condition
use Rattle.pddl_expressions.specs.declared.conditions.Connective.{Connective}
use Rattle.pddl_expressions.specs.declared.conditions.Connective.TheVariants.{And, Or, Not, Imply, Compared, Fact}
use Rattle.pddl_trees.specs.Words.{relation_of}
use Rattle.pddl_trees.specs.Forms.{Form, Parsed}
use Rattle.pddl_trees.specs.Conditions.{all_conds, comparison, cond_of_conds, fact_of, implied, negated}

abbrev pub connective_of : Option (List ℕ) → Connective
connective_of None = Fact
connective_of (Some w) =
    if bytes_eq w (codes "and") then And
    else (if bytes_eq w (codes "or") then Or
    else (if bytes_eq w (codes "not") then Not
    else (if bytes_eq w (codes "imply") then Imply
    else option_map_or Compared (relation_of w) Fact)))

-- the condition that a list is by its connective, from the trees behind the first and the list as an atom
abbrev pub connective_said : ℕ → Connective → List Form → Parsed Atom → Parsed Cond
connective_said at And ts a = all_conds condition.And ts
connective_said at Or ts a = all_conds condition.Or ts
connective_said at Not ts a = cond_of_conds at 1 (negated ts) ts
connective_said at Imply ts a = cond_of_conds at 2 (implied ts) ts
connective_said at (Compared r) ts a = comparison at r ts
connective_said at Fact ts a = fact_of a
