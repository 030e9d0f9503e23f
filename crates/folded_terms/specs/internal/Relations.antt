-- Comparisons and their negations by one relation, but for the negation of an equality.
use Rattle.std.specs.Prelude.{Bool, true, false, Option, Some, None}
use Rattle.pddl_terms.specs.declared.conditions.Rel.{Rel}
use Rattle.pddl_terms.specs.declared.conditions.Rel.TheVariants as rel
use Rattle.ground_task.specs.declared.raw.Rel.{Rel as Relation}
use Rattle.ground_task.specs.declared.raw.Rel.TheVariants as relation

abbrev pub relation_of : Bool → Rel → Option Relation
relation_of true rel.Less = Some relation.Less
relation_of true rel.LessEqual = Some relation.LessEqual
relation_of true rel.Equal = Some relation.Equal
relation_of true rel.GreaterEqual = Some relation.GreaterEqual
relation_of true rel.Greater = Some relation.Greater
relation_of false rel.Less = Some relation.GreaterEqual
relation_of false rel.LessEqual = Some relation.Greater
relation_of false rel.Equal = None
relation_of false rel.GreaterEqual = Some relation.Less
relation_of false rel.Greater = Some relation.LessEqual
