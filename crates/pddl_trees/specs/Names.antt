-- Trees that are words or names.
use Rattle.std.specs.Prelude.{ℕ, ◌++◌, Bool, false, List, [], ◌∷◌, Option, Some, None, codes, bytes_eq, if◌then◌else◌}
use Rattle.std.specs.Option.{option_map_or}
use Rattle.num_ends.specs.Names.{is_name}
use Rattle.pddl_terms.specs.declared.names.Name.{Name}
use Rattle.pddl_trees.specs.declared.faults.Fault.{Fault}
use Rattle.pddl_trees.specs.Words.{is_symbol}
use Rattle.pddl_trees.specs.Forms.{Parsed, Form, shape_at, misfit, sound, extra}

abbrev pub named_at : ℕ → List ℕ → Name
named_at at w = record { text = w; at = at }

abbrev pub is_word : List ℕ → Form → Bool
is_word word t = option_map_or (λ w. bytes_eq w word) t.word false

abbrev pub is_headed : List ℕ → Form → Bool
is_headed word t = option_map_or (λ w. bytes_eq w word) t.head false

-- a type is a name; a list that begins with `either` is refused by that word
abbrev pub type_name : Form → Option Name
type_name t = option_map_or (λ w. if is_name w then Some (named_at t.at w) else None) t.word None

abbrev pub type_faults : Form → List Fault
type_faults t = option_map_or (λ n. []) (type_name t) (if is_headed (codes "either") t then [] else shape_at t.at ∷ [])

abbrev pub symbol_name : Form → Parsed Name
symbol_name t = option_map_or (λ w. if is_symbol w then record { value = Some (named_at t.at w); faults = [] } else misfit Name t.at) t.word (misfit Name t.at)

-- a list of one name, behind its word
abbrev pub name_of : Form → Parsed Name
name_of t = option_map_or (λ w. if is_name w then sound Name (named_at t.at w) else misfit Name t.at) t.word (misfit Name t.at)

abbrev pub only_name : ℕ → List Form → Parsed Name
only_name at [] = misfit Name at
only_name at (t ∷ ts) = record { value = (name_of t).value; faults = (name_of t).faults ++ extra 1 (t ∷ ts) }
