-- Lists that are read as operations.
use Rattle.std.proofs.Common.{◌≡◌, ℕ, ◌≤◌, true, List, [], ◌∷◌, Option, Some, None, get_or, map, length, sym, ap, ◌∙◌, arith}
use Rattle.std.specs.Prelude.{flat_map, fold}
use Rattle.std.specs.Option.{option_map_or}
use Rattle.sexp_text.specs.declared.trees.Tree.{Tree}
use Rattle.pddl_terms.specs.declared.expressions.Op.{Op}
use Rattle.pddl_terms.specs.declared.expressions.Expr.{Expr}
use Rattle.pddl_trees.specs.declared.faults.Fault.{Fault}
use Rattle.pddl_expressions.specs.declared.found.Found.{Found}
use Rattle.pddl_trees.specs.Faults.{all_noted}
use Rattle.pddl_trees.specs.Words.{operation_of}
use Rattle.pddl_trees.specs.Forms.{Form, Parsed}
use Rattle.pddl_trees.specs.Atoms.{atom_of}
use Rattle.pddl_trees.specs.Expressions.{expr_of, measured_expr, operation, read_of}
use Rattle.pddl_trees.specs.Trees.{form_of, forms_of, head_word}
use Rattle.pddl_expressions.specs.Cut.{cut_expr}
use Rattle.pddl_expressions.specs.internal.CutSteps.{height_faults, misfits, operation_found, with_operand}
use Rattle.pddl_expressions.proofs.Grouping.{operation_value, operation_faults, expr_of_cases}
use Rattle.pddl_expressions.proofs.Tails.{tail_of, tail_is}

-- a list of trees as an expression
abbrev pub list_expr : List ℕ → ℕ → List Tree → Parsed Expr
list_expr text at ts = expr_of at (head_word (forms_of text ts)) (forms_of text ts) (atom_of true at (forms_of text ts))

-- a list whose first tree stands for an operation
pub listed_operation : (text : List ℕ) (at : ℕ) (ts : List Tree) (head : Tree) (o : Op) → 1 ≤ length ts → head ≡ get_or ts 0 head
    → Some o ≡ option_map_or operation_of (form_of text head).word None
    → list_expr text at ts ≡ measured_expr at (operation at o (forms_of text (tail_of ts)))
listed_operation text at [] head o some first e = absurd (omega arith)
listed_operation text at (t ∷ ts) head o some first e =
    let word : Some o ≡ option_map_or operation_of (form_of text t).word None = e ∙ ap (λ (u : Tree). option_map_or operation_of (form_of text u).word None) first in
    expr_of_cases at (form_of text t).word (forms_of text (t ∷ ts)) (atom_of true at (forms_of text (t ∷ ts))) (Some o) word
    ∙ ap (λ (us : List Tree). measured_expr at (operation at o (forms_of text us))) (sym (tail_is t ts))

-- a list whose first tree stands for none
pub listed_read : (text : List ℕ) (at : ℕ) (ts : List Tree) (head : Tree) → 1 ≤ length ts → head ≡ get_or ts 0 head
    → None ≡ option_map_or operation_of (form_of text head).word None
    → list_expr text at ts ≡ read_of (atom_of true at (forms_of text ts))
listed_read text at [] head some first e = absurd (omega arith)
listed_read text at (t ∷ ts) head some first e =
    let word : None ≡ option_map_or operation_of (form_of text t).word None = e ∙ ap (λ (u : Tree). option_map_or operation_of (form_of text u).word None) first in
    expr_of_cases at (form_of text t).word (forms_of text (t ∷ ts)) (atom_of true at (forms_of text (t ∷ ts))) None word

pub built_operation : (text : List ℕ) (at : ℕ) (ts : List Tree) (o : Op) (grouped : Option (Found Expr)) (found : Found Expr)
    → list_expr text at ts ≡ measured_expr at (operation at o (forms_of text (tail_of ts)))
    → grouped ≡ fold (with_operand at o) None (map (λ (t : Form). cut_expr t.expr.value) (forms_of text (tail_of ts)))
    → found ≡ operation_found at o (forms_of text (tail_of ts)) grouped
    → found ≡ cut_expr (list_expr text at ts).value
built_operation text at ts o grouped found listed operands built =
    built
    ∙ ap (operation_found at o (forms_of text (tail_of ts))) operands
    ∙ operation_value at o (forms_of text (tail_of ts))
    ∙ ap (λ (e : Parsed Expr). cut_expr e.value) (sym listed)

pub built_faults : (text : List ℕ) (at : ℕ) (ts : List Tree) (o : Op) (old behind new : Option Fault) (found : Found Expr)
    → list_expr text at ts ≡ measured_expr at (operation at o (forms_of text (tail_of ts)))
    → behind ≡ all_noted old (flat_map (λ (t : Form). t.expr.faults) (forms_of text (tail_of ts)))
    → found ≡ cut_expr (list_expr text at ts).value
    → new ≡ all_noted (all_noted behind (misfits at o (forms_of text (tail_of ts)))) (height_faults at found)
    → new ≡ all_noted old (list_expr text at ts).faults
built_faults text at ts o old behind new found listed operands value built =
    built
    ∙ ap (λ (f : Option Fault). all_noted (all_noted f (misfits at o (forms_of text (tail_of ts)))) (height_faults at found)) operands
    ∙ operation_faults at o (forms_of text (tail_of ts)) old found (value ∙ ap (λ (e : Parsed Expr). cut_expr e.value) listed)
    ∙ ap (λ (e : Parsed Expr). all_noted old e.faults) (sym listed)
