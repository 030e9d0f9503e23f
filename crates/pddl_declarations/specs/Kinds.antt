-- The kinds of typed lists.
use Rattle.pddl_declarations.specs.declared.kinds.Kind.TheVariants as kinds
use Rattle.pddl_trees.specs.TypedLists.{Kind, names_alone, objects_kind, parameters_kind}

abbrev pub kind_of : Rattle.pddl_declarations.specs.declared.kinds.Kind.Kind → Kind
kind_of kinds.Names = names_alone
kind_of kinds.Objects = objects_kind
kind_of kinds.Parameters = parameters_kind
