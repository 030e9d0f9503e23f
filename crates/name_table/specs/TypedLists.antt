-- Typed lists by the names in them.
use Rattle.std.specs.Prelude.{ℕ, List, Option, map, bytes_eq}
use Rattle.std.specs.List.{find}
use Rattle.pddl_terms.specs.declared.names.Name.{Name}
use Rattle.pddl_terms.specs.declared.names.Typed.{Typed}

abbrev pub names_of : List Typed → List Name
names_of items = map (λ t. t.name) items

-- the first in a typed list that has a name
abbrev pub first_typed : List ℕ → List Typed → Option Typed
first_typed text items = find (λ t. bytes_eq text t.name.text) items
