-- What a list says as an atom, with all its faults.
use Rattle.std.specs.Prelude.{ℕ, ◌&&◌, Bool, List, [], ◌∷◌, map, flat_map, option_map, if◌then◌else◌}
use Rattle.std.specs.Option.{option_map_or}
use Rattle.num_ends.specs.Names.{is_name}
use Rattle.pddl_terms.specs.declared.names.Name.{Name}
use Rattle.pddl_terms.specs.declared.names.Arg.{Arg}
use Rattle.pddl_terms.specs.declared.names.Arg.TheVariants.{Var, Obj}
use Rattle.pddl_terms.specs.declared.names.Atom.{Atom}
use Rattle.pddl_trees.specs.Words.{is_symbol, is_variable}
use Rattle.pddl_trees.specs.Forms.{Form, Parsed, all_of, misfit, sound}

abbrev pub argument_word : Bool → ℕ → List ℕ → Parsed Arg
argument_word variables at w =
    if is_name w then sound Arg (Obj (record { text = w; at = at }))
    else (if variables && is_variable w then sound Arg (Var (record { text = w; at = at })) else misfit Arg at)

-- the name of an object or, where these are allowed, a variable
abbrev pub argument : Bool → Form → Parsed Arg
argument variables t = option_map_or (argument_word variables t.at) t.word (misfit Arg t.at)

abbrev pub with_arguments : Name → List (Parsed Arg) → Parsed Atom
with_arguments head args = record {
  value = option_map (λ xs. record { head = head; args = xs }) (all_of (map (λ a. a.value) args));
  faults = flat_map (λ a. a.faults) args;
}

abbrev pub headed_atom : Bool → ℕ → List ℕ → List Form → Parsed Atom
headed_atom variables at w ts =
    if is_symbol w then with_arguments (record { text = w; at = at }) (map (argument variables) ts) else misfit Atom at

-- (NAME argument ..)
abbrev pub atom_of : Bool → ℕ → List Form → Parsed Atom
atom_of variables at [] = misfit Atom at
atom_of variables at (t ∷ ts) = option_map_or (λ w. headed_atom variables t.at w ts) t.word (misfit Atom t.at)
