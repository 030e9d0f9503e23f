-- The texts of atoms under a binding of parameters to the texts of objects.
use Rattle.std.specs.Prelude.{ℕ, ◌++◌, List, [], ◌∷◌, map, codes, bytes_eq, if◌then◌else◌}
use Rattle.std.specs.List.{join_with_byte}
use Rattle.pddl_terms.specs.declared.names.Arg.{Arg}
use Rattle.pddl_terms.specs.declared.names.Arg.TheVariants.{Var, Obj}
use Rattle.pddl_terms.specs.declared.names.Atom.{Atom}
use Rattle.pddl_terms.specs.declared.names.Typed.{Typed}

-- a variable stands for the argument at the place of the first parameter with its name, and else for itself
abbrev pub variable_text : List Typed → List (List ℕ) → List ℕ → List ℕ
variable_text [] args v = v
variable_text (p ∷ params) [] v = v
variable_text (p ∷ params) (a ∷ args) v = if bytes_eq v p.name.text then a else variable_text params args v

abbrev pub argument_text : List Typed → List (List ℕ) → Arg → List ℕ
argument_text params args (Var n) = variable_text params args n.text
argument_text params args (Obj n) = n.text

-- a name and its arguments in brackets, with single spaces
unfoldable pub ground_text : List Typed → List (List ℕ) → Atom → List ℕ
ground_text params args a = codes "(" ++ join_with_byte 32 (a.head.text ∷ map (argument_text params args) a.args) ++ codes ")"
