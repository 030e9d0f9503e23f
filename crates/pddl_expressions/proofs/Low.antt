-- Of a tree without faults all that it says is kept.
use Rattle.std.proofs.Common.{◌≡◌, ℕ, List, [], refl, sym, ap, ◌∙◌}
use Rattle.sexp_text.specs.declared.trees.Tree.{Tree}
use Rattle.pddl_trees.specs.Trees.{form_of}
use Rattle.pddl_expressions.specs.Cut.{cut_cond}
use Rattle.pddl_expressions.specs.internal.Fine.{fine_of}
use Rattle.pddl_expressions.proofs.Soundness.{condition_built}

-- its condition is found as it is
pub low_cond : (text : List ℕ) (t : Tree) → (form_of text t).cond.faults ≡ [] → fine_of (cut_cond (form_of text t).cond.value) ≡ (form_of text t).cond.value
low_cond text t none =
    let built = condition_built text t (cut_cond (form_of text t).cond.value) refl none in
    ap fine_of built.2 ∙ sym built.1
