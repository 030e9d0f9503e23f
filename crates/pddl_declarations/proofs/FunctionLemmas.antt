-- A list of functions is read tree by tree.
use Rattle.std.proofs.Common.{◌≡◌, ℕ, Bool, true, false, List, ◌∷◌, ◌++◌, Option, None, codes, refl, sym, ap, ◌∙◌, append_assoc}
use Rattle.sexp_text.specs.declared.trees.Tree.{Tree}
use Rattle.pddl_terms.specs.declared.names.Sig.{Sig}
use Rattle.pddl_trees.specs.declared.faults.Fault.{Fault}
use Rattle.pddl_declarations.specs.declared.functions.Functions.{Functions}
use Rattle.pddl_trees.specs.Faults.{all_noted}
use Rattle.pddl_trees.specs.Trees.{form_of}
use Rattle.pddl_declarations.specs.internal.FunctionSteps.{IsFunctionTaken}
use Rattle.pddl_trees.specs.TypedLists.{Listed, after}
use Rattle.pddl_trees.specs.Declarations.{functions_from, one_item, signature}
use Rattle.pddl_trees.specs.Names.{is_word}
use Rattle.pddl_trees.proofs.Noted.{noted_append}
use Rattle.pddl_trees.proofs.Quiet.{quiet_behind}

pub step_signature : (text : List ℕ) (at : ℕ) (signed : Bool) (t : Tree) (ts : List Tree) → is_word (codes "-") (form_of text t) ≡ false
    → functions_from text at false signed (t ∷ ts) ≡ after (one_item (signature text t).value) (signature text t).faults (functions_from text at false true ts)
unfolding functions_from
step_signature text at signed t ts dash = rw dash refl

-- a declaration was taken
pub taken_signature : (text : List ℕ) (t : Tree) (before behind : Functions) (first now : Option Fault) (sig : Option Sig) → is_word (codes "-") (form_of text t) ≡ false
    → before.dashed ≡ false → behind.dashed ≡ false → behind.signed ≡ true → behind.sigs.items ≡ before.sigs.items ++ one_item sig
    → now ≡ all_noted first (signature text t).faults → (now ≡ None → sig ≡ (signature text t).value) → IsFunctionTaken text t before first behind now
taken_signature text t before behind first now sig dash undashed undashed_behind signed sigs noted-is sig-is =
    let next : (at : ℕ) (ts : List Tree) → functions_from text at before.dashed before.signed (t ∷ ts)
    ≡ after (one_item (signature text t).value) (signature text t).faults (functions_from text at behind.dashed behind.signed ts) =
    λ at ts. rw (undashed, undashed_behind, signed) (step_signature text at before.signed t ts dash) in
    record {
      faults = λ at ts.
          ap (λ (n : Option Fault). all_noted n (functions_from text at behind.dashed behind.signed ts).faults) noted-is
          ∙ sym (noted_append first (signature text t).faults (functions_from text at behind.dashed behind.signed ts).faults)
          ∙ ap (λ (l : Listed Sig). all_noted first l.faults) (sym (next at ts));
      items = λ quiet at ts.
          ap (λ (xs : List Sig). xs ++ (functions_from text at behind.dashed behind.signed ts).items) (sigs ∙ ap (λ (x : Option Sig). before.sigs.items ++ one_item x) (sig-is quiet))
          ∙ append_assoc before.sigs.items (one_item (signature text t).value) (functions_from text at behind.dashed behind.signed ts).items
          ∙ ap (λ (l : Listed Sig). before.sigs.items ++ l.items) (sym (next at ts));
      quiet = quiet_behind first now (signature text t).faults noted-is;
    }
