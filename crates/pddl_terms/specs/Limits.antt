-- How many there may be of each kind of things.
use Rattle.std.specs.Prelude.{ℕ}
use Rattle.pddl_terms.specs.declared.limits.What.{What}
use Rattle.pddl_terms.specs.declared.limits.What.TheVariants as what
use Rattle.pddl_terms.specs.declared.limits.TheConstants.{MAX_OBJECTS, MAX_PARAMETERS, MAX_EFFECTS, MAX_LETTERS, MAX_FACTS, MAX_FLUENTS, MAX_ACTIONS, MAX_PREFIXES, MAX_SUPPORTERS}

abbrev pub limit_of : What → ℕ
limit_of what.Objects = MAX_OBJECTS
limit_of what.Parameters = MAX_PARAMETERS
limit_of what.Effects = MAX_EFFECTS
limit_of what.Letters = MAX_LETTERS
limit_of what.Facts = MAX_FACTS
limit_of what.Fluents = MAX_FLUENTS
limit_of what.Actions = MAX_ACTIONS
limit_of what.Prefixes = MAX_PREFIXES
limit_of what.Supporters = MAX_SUPPORTERS
