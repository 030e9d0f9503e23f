-- All faults of a domain and a problem.
use Rattle.std.specs.Prelude.{◌++◌, List, [], flat_map}
use Rattle.pddl_terms.specs.declared.actions.Schema.{Schema}
use Rattle.pddl_types.specs.declared.faults.Side.TheVariants as side
use Rattle.pddl_types.specs.declared.faults.Fault.{Fault}
use Rattle.pddl_types.specs.declared.pairs.Pair.{Pair}
use Rattle.pddl_types.specs.Pairs.{schema_names}
use Rattle.pddl_types.specs.DeclarationFaults.{declaration_faults, object_faults, parameter_faults, repeated}
use Rattle.pddl_types.specs.UseFaults.{condition_faults, effect_faults, facts_faults, fluents_faults, repeated_values}

-- the faults inside an action
unfoldable pub schema_faults : Pair → Schema → List Fault
schema_faults p s =
    parameter_faults p.domain.types s.params ++ condition_faults p side.Domain s.params s.pre ++ flat_map (effect_faults p side.Domain s.params) s.effects

unfoldable pub schemas_faults : Pair → List Fault
schemas_faults p = repeated side.Domain [] (schema_names p.domain.schemas) ++ flat_map (schema_faults p) p.domain.schemas

unfoldable pub initial_faults : Pair → List Fault
initial_faults p =
    facts_faults p side.Problem [] p.problem.facts ++ fluents_faults p side.Problem [] p.problem.values ++ repeated_values [] p.problem.values

unfoldable pub problem_faults : Pair → List Fault
problem_faults p = object_faults p.domain p.problem.objects ++ initial_faults p ++ condition_faults p side.Problem [] p.problem.goal

unfoldable pub faults_of : Pair → List Fault
faults_of p = declaration_faults p.domain ++ schemas_faults p ++ problem_faults p
