-- When an action has no list of bindings.
use Rattle.std.specs.Prelude.{ℕ, ◌≡◌, ◌<◌}
use Rattle.pddl_terms.specs.declared.actions.Schema.{Schema}
use Rattle.pddl_terms.specs.declared.limits.TheConstants.{MAX_PREFIXES}
use Rattle.pddl_types.specs.declared.pairs.Pair.{Pair}
use Rattle.static_facts.specs.Bindings.{prefix_count}
use Rattle.binder.specs.declared.bindings.BindFault.{BindFault}
use Rattle.binder.specs.declared.bindings.BindFault.TheVariants as fault

-- too many is said of the action itself, exactly past the limit; want of memory says nothing
abbrev pub IsBindFault : Pair → ℕ → Schema → BindFault → Type 0
IsBindFault p number s fault.NoMemory = Unit {0}
IsBindFault p number s (fault.TooMany schema) = (schema ≡ number) × (MAX_PREFIXES < prefix_count p s)
