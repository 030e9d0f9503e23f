-- The texts of atoms, piece by piece.
use Rattle.std.proofs.Common.{◌≡◌, ◌++◌, ℕ, List, [], ◌∷◌, refl, sym, ap, ◌∙◌}
use Rattle.std.specs.Prelude.{flat_map}
use Rattle.pddl_terms.specs.declared.names.Arg.{Arg}
use Rattle.pddl_terms.specs.declared.names.Arg.TheVariants.{Var, Obj}
use Rattle.pddl_terms.specs.declared.names.Atom.{Atom}
use Rattle.pddl_terms.specs.Texts.{argument_text, ground_text}
use Rattle.pddl_types.specs.Pairs.{written_text}
use Rattle.pddl_meaning.proofs.Spelled.{spelled}
use Rattle.static_facts.specs.Atoms.{atom_of, text_of_atom}

-- an argument without parameters is as it is written
pub as_written : (a : Arg) → argument_text [] [] a ≡ written_text a
as_written (Var n) = refl
as_written (Obj n) = refl

pub all_written : (args : List Arg) → flat_map (λ a. 32 ∷ argument_text [] [] a) args ≡ flat_map (λ a. 32 ∷ written_text a) args
all_written [] = refl
all_written (Var n ∷ args) = ap (λ (bs : List ℕ). (32 ∷ n.text) ++ bs) (all_written args)
all_written (Obj n ∷ args) = ap (λ (bs : List ℕ). (32 ∷ n.text) ++ bs) (all_written args)

-- the text of an atom by its parts
pub text_by_parts : (a : Atom) → (40 ∷ (a.head.text ++ flat_map (λ b. 32 ∷ written_text b) a.args)) ++ 41 ∷ [] ≡ text_of_atom (atom_of [] [] a)
unfolding ground_text
text_by_parts a = ap (λ (bs : List ℕ). (40 ∷ (a.head.text ++ bs)) ++ 41 ∷ []) (sym (all_written a.args)) ∙ spelled [] [] a
