-- Trees by their places, words and parts, and what they say.
use Rattle.std.specs.Prelude.{ℕ, true, List, [], ◌∷◌, Option, Some, None, map}
use Rattle.sexp_text.specs.declared.trees.Tree.{Tree, Tree-F, fold-Tree, out-Tree}
use Rattle.sexp_text.specs.declared.trees.Tree.TheOpen as layer
use Rattle.pddl_terms.specs.declared.names.Atom.{Atom}
use Rattle.pddl_terms.specs.declared.conditions.Cond.{Cond}
use Rattle.pddl_trees.specs.Words.{word_in}
use Rattle.pddl_trees.specs.Forms.{Form, shape_at, misfit}
use Rattle.pddl_trees.specs.Atoms.{atom_of}
use Rattle.pddl_trees.specs.Expressions.{expr_of, leaf_expr}
use Rattle.pddl_trees.specs.Conditions.{cond_of, measured_cond}
use Rattle.pddl_trees.specs.Effects.{effects_of}

abbrev pub head_word : List Form → Option (List ℕ)
head_word [] = None
head_word (t ∷ ts) = t.word

abbrev pub leaf_form : ℕ → List ℕ → Form
leaf_form at w = record {
  at = at;
  word = Some w;
  head = None;
  atom = misfit Atom at;
  expr = leaf_expr at w;
  cond = misfit Cond at;
  effects = record { found = []; faults = shape_at at ∷ [] };
}

abbrev pub list_form : ℕ → List Form → Form
list_form at ts =
    let a = atom_of true at ts in
    record {
      at = at;
      word = None;
      head = head_word ts;
      atom = a;
      expr = expr_of at (head_word ts) ts a;
      cond = measured_cond at (cond_of at ts a);
      effects = effects_of at ts a;
    }

abbrev pub form_layer : List ℕ → Tree-F Form → Form
form_layer text (layer.Leaf span) = leaf_form span.from (word_in text span)
form_layer text (layer.List span ts) = list_form span.from ts

-- what a tree of this text says
unfoldable pub form_of : List ℕ → Tree → Form
form_of text = fold-Tree Form (form_layer text)

abbrev pub forms_of : List ℕ → List Tree → List Form
forms_of text trees = map (form_of text) trees

-- the trees of a list
abbrev pub parts_layer : Tree-F Tree → Option (List Tree)
parts_layer (layer.Leaf span) = None
parts_layer (layer.List span ts) = Some ts

abbrev pub parts_of : Tree → Option (List Tree)
parts_of t = parts_layer (out-Tree t)

abbrev pub place_of : List ℕ → Tree → ℕ
place_of text t = (form_of text t).at
