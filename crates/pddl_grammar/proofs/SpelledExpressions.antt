-- Expressions: what trees say without a fault is what they spell.
use Rattle.std.proofs.Common.{◌≡◌, ℕ, suc, ◌≤◌, Bool, true, inl, inr, List, [], ◌∷◌, ◌++◌, All, map, drop, length, Option, Some, None, refl, sym, ap, ap₂, subst, ◌∙◌, append_assoc, arith}
use Rattle.std.specs.Prelude.{nat_lt, flat_map, fold, option_map, if◌then◌else◌}
use Rattle.std.specs.Option.{option_map_or}
use Rattle.std.proofs.lemmas.Bool.{cases_Bool, le-ltb, ltb-false}
use Rattle.std.proofs.lemmas.List.{append-nil, map-append}
use Rattle.std.proofs.lemmas.List.Elements.{All-head, All-tail}
use Rattle.num_ends.specs.Decimal.{Decimal, origin}
use Rattle.sexp_text.specs.declared.marks.Span.{Span}
use Rattle.sexp_text.specs.declared.trees.Tree.{Tree}
use Rattle.sexp_text.specs.declared.trees.Tree.TheVariants as trees
use Rattle.sexp_text.proofs.Walks.{induct_tree}
use Rattle.pddl_terms.specs.declared.names.Atom.{Atom}
use Rattle.pddl_terms.specs.declared.expressions.Op.{Op}
use Rattle.pddl_terms.specs.declared.expressions.Op.TheVariants as op
use Rattle.pddl_terms.specs.declared.expressions.Expr.{Expr}
use Rattle.pddl_terms.specs.declared.expressions.Expr.TheVariants as expr
use Rattle.pddl_terms.specs.Heights.{expression_height}
use Rattle.pddl_trees.specs.declared.faults.Reason.TheVariants.{TooDeep}
use Rattle.pddl_trees.specs.declared.faults.Fault.{Fault}
use Rattle.pddl_trees.specs.Faults.{fault_at}
use Rattle.pddl_trees.specs.Words.{word_in, is_number_word, number_in, operation_of}
use Rattle.pddl_trees.specs.Forms.{Parsed, Form, both, missing, extra}
use Rattle.pddl_trees.specs.Trees.{form_of, forms_of, leaf_form, head_word}
use Rattle.pddl_trees.specs.Expressions.{leaf_expr, extra_operands, fewest_operands, grouped, operation, measured_expr, read_of, expr_of, too_high}
use Rattle.pddl_trees.specs.Atoms.{atom_of}
use Rattle.pddl_trees.specs.Leaves.{all_leaves, leaf_faults, leaves_of}
use Rattle.pddl_grammar.specs.Trees.{IsWordAt, IsListAt, Begins}
use Rattle.pddl_grammar.specs.Atoms.{SpellsAtom}
use Rattle.pddl_grammar.specs.Expressions.{SpellsExpr, SpellsExprs, Groups, is_joining}
use Rattle.pddl_trees.proofs.Trees.{form_of-Leaf, form_of-List}
use Rattle.pddl_grammar.proofs.Spelled.{Says, nils, no_more, form_of_word, form_of_list, form_of_begun, begun_at, leaf_itself, list_itself, none_missing}
use Rattle.pddl_grammar.proofs.SpelledLeaves.{leaves_of-Leaf, leaves_of-List}
use Rattle.pddl_grammar.proofs.SpelledNames.{atom_fits, atom_said}
use Rattle.pddl_grammar.proofs.SpelledWords.{no_operation, symbol_named}

-- ---- heights

pub height_fits : (at height : ℕ) → too_high at height ≡ [] → height ≤ 400
height_fits at height e =
    elim (cases_Bool (nat_lt 400 height)) [
      | inl t ↦ absurd (cc (sym (ap (λ (b : Bool). if b then fault_at at TooDeep ∷ [] else []) t) ∙ e))
      | inr n ↦ ltb-false 400 height n
    ]

pub height_said : (at height : ℕ) → height ≤ 400 → too_high at height ≡ []
height_said at height h = ap (λ (b : Bool). if b then fault_at at TooDeep ∷ [] else []) (le-ltb 400 height h)

-- ---- groups

fold_both : {A : Type 0} (f : A → A → A) (x : A) (xs : List A) → fold (both f) (Some x) (map Some xs) ≡ Some (fold f x xs)
fold_both f x [] = refl
fold_both f x (y ∷ ys) = fold_both f (f x y) ys

fold_push : {A B : Type 0} (f : B → A → B) (b : B) (xs : List A) (z : A) → fold f b (xs ++ z ∷ []) ≡ f (fold f b xs) z
fold_push f b [] z = refl
fold_push f b (x ∷ xs) z = fold_push f (f b x) xs z

groups_more : (at : ℕ) (o : Op) (joins : is_joining o ≡ true) (x y : Expr) (xs zs : List Expr) (e : Expr) → Groups at o (x ∷ y ∷ xs) e
    → Groups at o (x ∷ y ∷ xs ++ zs) (fold (expr.Op at o) e zs)
groups_more at o joins x y xs [] e g = subst (λ (es : List Expr). Groups at o (x ∷ y ∷ es) e) (sym (append-nil xs)) g
groups_more at o joins x y xs (z ∷ zs) e g =
    subst (λ (es : List Expr). Groups at o (x ∷ y ∷ es) (fold (expr.Op at o) (expr.Op at o e z) zs)) (append_assoc xs (z ∷ []) zs)
    (groups_more at o joins x y (xs ++ z ∷ []) zs (expr.Op at o e z) (Groups.more o x y z xs e joins g))

all_joined : (at : ℕ) (o : Op) (joins : is_joining o ≡ true) (x y : Expr) (ys : List Expr)
    → (e : Expr) × (grouped at o (map Some (x ∷ y ∷ ys)) ≡ Some e) × Groups at o (x ∷ y ∷ ys) e
all_joined at o joins x y ys =
    (fold (expr.Op at o) (expr.Op at o x y) ys, fold_both (expr.Op at o) x (y ∷ ys), groups_more at o joins x y [] ys (expr.Op at o x y) (Groups.pair o x y))

three_too_many : (at count : ℕ) (f g h : Form) (fs : List Form) → missing at count (f ∷ g ∷ h ∷ fs) ++ extra 2 (f ∷ g ∷ h ∷ fs) ≡ [] → ⊥
three_too_many at count f g h fs e =
    let parts = nils (missing at count (f ∷ g ∷ h ∷ fs)) (extra 2 (f ∷ g ∷ h ∷ fs)) e in
    cc

-- operands of the right number are grouped
groups_fit : (text : List ℕ) (at : ℕ) (o : Op) (ts : List Tree) (es : List Expr) → SpellsExprs text ts es
    → missing at (fewest_operands o) (forms_of text ts) ++ extra_operands o (forms_of text ts) ≡ []
    → (e : Expr) × (grouped at o (map Some es) ≡ Some e) × Groups at o es e
groups_fit text at op.Add ts es SpellsExprs.none e = absurd cc
groups_fit text at op.Add ts es (SpellsExprs.next t _ x _ s SpellsExprs.none) e = absurd cc
groups_fit text at op.Add ts es (SpellsExprs.next t _ x _ s (SpellsExprs.next u _ y ys _ _)) e = all_joined at op.Add refl x y ys
groups_fit text at op.Mul ts es SpellsExprs.none e = absurd cc
groups_fit text at op.Mul ts es (SpellsExprs.next t _ x _ s SpellsExprs.none) e = absurd cc
groups_fit text at op.Mul ts es (SpellsExprs.next t _ x _ s (SpellsExprs.next u _ y ys _ _)) e = all_joined at op.Mul refl x y ys
groups_fit text at op.Sub ts es SpellsExprs.none e = absurd cc
groups_fit text at op.Sub ts es (SpellsExprs.next t _ x _ s SpellsExprs.none) e = (expr.Op at op.Sub (expr.Lit origin at) x, refl, Groups.negative x)
groups_fit text at op.Sub ts es (SpellsExprs.next t _ x _ s (SpellsExprs.next u _ y _ _ SpellsExprs.none)) e = (expr.Op at op.Sub x y, refl, Groups.pair op.Sub x y)
groups_fit text at op.Sub ts es (SpellsExprs.next t _ x _ s (SpellsExprs.next u _ y _ _ (SpellsExprs.next v _ z _ _ _))) e = absurd (three_too_many at 1 (form_of text t) (form_of text u) (form_of text v) _ e)
groups_fit text at op.Div ts es SpellsExprs.none e = absurd cc
groups_fit text at op.Div ts es (SpellsExprs.next t _ x _ s SpellsExprs.none) e = absurd cc
groups_fit text at op.Div ts es (SpellsExprs.next t _ x _ s (SpellsExprs.next u _ y _ _ SpellsExprs.none)) e = (expr.Op at op.Div x y, refl, Groups.pair op.Div x y)
groups_fit text at op.Div ts es (SpellsExprs.next t _ x _ s (SpellsExprs.next u _ y _ _ (SpellsExprs.next v _ z _ _ _))) e = absurd (three_too_many at 2 (form_of text t) (form_of text u) (form_of text v) _ e)

groups_value : (at : ℕ) (o : Op) (es : List Expr) (e : Expr) → Groups at o es e → grouped at o (map Some es) ≡ Some e
groups_value at o es e (Groups.negative x) = refl
groups_value at o es e (Groups.pair p x y) = refl
groups_value at o es e (Groups.more p x y z xs d joins g) =
    ap (λ (vs : List (Option Expr)). fold (both (expr.Op at p)) (both (expr.Op at p) (Some x) (Some y)) vs) (map-append Some xs (z ∷ []))
    ∙ fold_push (both (expr.Op at p)) (both (expr.Op at p) (Some x) (Some y)) (map Some xs) (Some z)
    ∙ ap (λ (v : Option Expr). both (expr.Op at p) v (Some z)) (groups_value at p (x ∷ y ∷ xs) d g)

one_form : (fs : List Form) → length fs ≡ 1 → (f : Form) × (fs ≡ f ∷ [])
one_form [] e = absurd (omega arith)
one_form (f ∷ []) e = (f, refl)
one_form (f ∷ g ∷ fs) e = absurd (omega arith)

two_forms : (fs : List Form) → length fs ≡ 2 → (f g : Form) × (fs ≡ f ∷ g ∷ [])
two_forms [] e = absurd (omega arith)
two_forms (f ∷ []) e = absurd (omega arith)
two_forms (f ∷ g ∷ []) e = (f, g, refl)
two_forms (f ∷ g ∷ h ∷ fs) e = absurd (omega arith)

abbrev operand_misfits : ℕ → Op → List Form → List Fault
operand_misfits at o fs = missing at (fewest_operands o) fs ++ extra_operands o fs

two_operands : (at : ℕ) (o : Op) (f g : Form) → operand_misfits at o (f ∷ g ∷ []) ≡ []
two_operands at op.Add f g = refl
two_operands at op.Sub f g = refl
two_operands at op.Mul f g = refl
two_operands at op.Div f g = refl

many_operands : (at : ℕ) (o : Op) → is_joining o ≡ true → (fs : List Form) → 2 ≤ length fs → operand_misfits at o fs ≡ []
many_operands at op.Add joins fs h = ap (λ (l : List Fault). l ++ []) (none_missing at 2 fs h)
many_operands at op.Sub joins fs h = absurd cc
many_operands at op.Mul joins fs h = ap (λ (l : List Fault). l ++ []) (none_missing at 2 fs h)
many_operands at op.Div joins fs h = absurd cc

groups_counted : (at : ℕ) (o : Op) (es : List Expr) (e : Expr) → Groups at o es e → (fs : List Form) → length fs ≡ length es → operand_misfits at o fs ≡ []
groups_counted at o es e (Groups.negative x) fs long =
    let one = one_form fs long in
    ap (operand_misfits at op.Sub) one.1
groups_counted at o es e (Groups.pair p x y) fs long =
    let two = two_forms fs long in
    ap (operand_misfits at p) two.2 ∙ two_operands at p two.0 two.1
groups_counted at o es e (Groups.more p x y z xs d joins g) fs long = many_operands at p joins fs (omega arith)

-- ---- leaves

leaf_fits : (text : List ℕ) (t : Tree) (at : ℕ) (w : List ℕ) → IsWordAt text t at w → (leaf_expr at w).faults ≡ [] → leaf_faults at w ≡ []
    → (e : Expr) × ((leaf_expr at w).value ≡ Some e) × SpellsExpr text t e
leaf_fits text t at w x faultless fit =
    elim (cases_Bool (is_number_word w)) [
      | inl n ↦ taken n (number_in w) refl
      | inr n ↦ absurd (cc (rw n at faultless))
    ]
  where
    taken : is_number_word w ≡ true → (o : Option Decimal) → number_in w ≡ o → (e : Expr) × ((leaf_expr at w).value ≡ Some e) × SpellsExpr text t e
    taken n None is = absurd (cc (rw (n, is) at fit))
    taken n (Some d) is = (expr.Lit d at, rw (n, is) refl, SpellsExpr.number t at w d x n is)

leaf_said : (at : ℕ) (w : List ℕ) (d : Decimal) → is_number_word w ≡ true → number_in w ≡ Some d → Says (leaf_expr at w) (expr.Lit d at)
leaf_said at w d n is = (rw (n, is) refl, rw n refl)

-- ---- operations

operation_said : (at : ℕ) (o : Op) (fs : List Form) (es : List Expr) (e : Expr) → map (λ (f : Form). f.expr.value) fs ≡ map Some es → flat_map (λ (f : Form). f.expr.faults) fs ≡ []
    → length fs ≡ length es → Groups at o es e → expression_height e ≤ 400 → Says (measured_expr at (operation at o fs)) e
operation_said at o fs es e values faults long g h =
    let counted = groups_counted at o es e g fs long in
    let value : (operation at o fs).value ≡ Some e =
    ap (λ (l : List Fault). if nat_lt 0 (length l) then None else grouped at o (map (λ (f : Form). f.expr.value) fs)) counted
    ∙ ap (grouped at o) values ∙ groups_value at o es e g in
    let none : (operation at o fs).faults ≡ [] = no_more (flat_map (λ (f : Form). f.expr.faults) fs) (operand_misfits at o fs) faults counted in
    (value, no_more (operation at o fs).faults _ none (ap (λ (v : Option Expr). option_map_or (λ x. too_high at (expression_height x)) v []) value ∙ height_said at (expression_height e) h))

operation_fits : (text : List ℕ) (t : Tree) (at : ℕ) (w : List ℕ) (o : Op) (ts : List Tree) (es : List Expr) → Begins text t at w ts → operation_of w ≡ Some o
    → map (λ (f : Form). f.expr.value) (forms_of text ts) ≡ map Some es → SpellsExprs text ts es
    → (measured_expr at (operation at o (forms_of text ts))).faults ≡ []
    → (e : Expr) × ((measured_expr at (operation at o (forms_of text ts))).value ≡ Some e) × SpellsExpr text t e
operation_fits text t at w o ts es begun is values spelled faultless =
    let fs = forms_of text ts in
    let outer = nils (operation at o fs).faults _ faultless in
    let misfits = (nils (flat_map (λ (f : Form). f.expr.faults) fs) (operand_misfits at o fs) outer.0).1 in
    let found = groups_fit text at o ts es spelled misfits in
    let value : (operation at o fs).value ≡ Some found.0 =
    ap (λ (l : List Fault). if nat_lt 0 (length l) then None else grouped at o (map (λ (f : Form). f.expr.value) fs)) misfits
    ∙ ap (grouped at o) values ∙ found.1 in
    let high = height_fits at (expression_height found.0) (sym (ap (λ (v : Option Expr). option_map_or (λ x. too_high at (expression_height x)) v []) value) ∙ outer.1) in
    (found.0, value, SpellsExpr.operation t at w o ts es found.0 begun is spelled found.2 high)

-- ---- trees

abbrev ExprFits : List ℕ → Tree → Type 0
ExprFits text t = (form_of text t).expr.faults ≡ [] → leaves_of text t ≡ [] → (e : Expr) × ((form_of text t).expr.value ≡ Some e) × SpellsExpr text t e

pub exprs_fit_from : (text : List ℕ) (ts : List Tree) → All (ExprFits text) ts → flat_map (λ (f : Form). f.expr.faults) (forms_of text ts) ≡ [] → all_leaves text ts ≡ []
    → (es : List Expr) × (map (λ (f : Form). f.expr.value) (forms_of text ts) ≡ map Some es) × SpellsExprs text ts es
exprs_fit_from text [] each e k = ([], refl, SpellsExprs.none)
exprs_fit_from text (t ∷ ts) each e k =
    let faults = nils (form_of text t).expr.faults (flat_map (λ (f : Form). f.expr.faults) (forms_of text ts)) e in
    let leaves = nils (leaves_of text t) (all_leaves text ts) k in
    let here = All-head (ExprFits text) t ts each faults.0 leaves.0 in
    let rest = exprs_fit_from text ts (All-tail (ExprFits text) t ts each) faults.1 leaves.1 in
    (here.0 ∷ rest.0, ap₂ (λ (v : Option Expr) (vs : List (Option Expr)). v ∷ vs) here.1 rest.1, SpellsExprs.next t ts here.0 rest.0 here.2 rest.2)

read_fits : (text : List ℕ) (t : Tree) (at : ℕ) (ts : List Tree) → IsListAt t at ts → (read_of (atom_of true at (forms_of text ts))).faults ≡ []
    → (e : Expr) × ((read_of (atom_of true at (forms_of text ts))).value ≡ Some e) × SpellsExpr text t e
read_fits text t at ts list faultless =
    let found = atom_fits text true t at ts list faultless in
    (expr.Read found.0, ap (option_map expr.Read) found.1, SpellsExpr.read t found.0 found.2)

-- an operation, or else a read
abbrev chosen_expr : ℕ → Option Op → List Form → Parsed Atom → Parsed Expr
chosen_expr at o fs a = option_map_or (λ p. measured_expr at (operation at p fs)) o (read_of a)

abbrev list_expr : ℕ → Option (List ℕ) → List Form → Parsed Expr
list_expr at o fs = expr_of at o fs (atom_of true at fs)

headed_fits : (text : List ℕ) (t u : Tree) (at : ℕ) (us : List Tree) (w : List ℕ) → IsListAt t at (u ∷ us) → (form_of text u).word ≡ Some w → All (ExprFits text) us
    → all_leaves text us ≡ [] → (list_expr at (Some w) (forms_of text (u ∷ us))).faults ≡ []
    → (e : Expr) × ((list_expr at (Some w) (forms_of text (u ∷ us))).value ≡ Some e) × SpellsExpr text t e
headed_fits text t u at us w list is each leaves = by_operation (operation_of w) refl
  where
    by_operation : (o : Option Op) → operation_of w ≡ o → (chosen_expr at o (forms_of text us) (atom_of true at (forms_of text (u ∷ us)))).faults ≡ []
        → (e : Expr) × ((chosen_expr at o (forms_of text us) (atom_of true at (forms_of text (u ∷ us)))).value ≡ Some e) × SpellsExpr text t e
    by_operation None none faultless = read_fits text t at (u ∷ us) list faultless
    by_operation (Some o) some faultless =
        let outer = nils (operation at o (forms_of text us)).faults _ faultless in
        let inner = nils (flat_map (λ (f : Form). f.expr.faults) (forms_of text us)) (operand_misfits at o (forms_of text us)) outer.0 in
        let found = exprs_fit_from text us each inner.0 leaves in
        operation_fits text t at w o us found.0 (begun_at text t u at us w list is) some found.1 found.2 faultless

list_fits : (text : List ℕ) (t : Tree) (at : ℕ) (ts : List Tree) → IsListAt t at ts → All (ExprFits text) ts → all_leaves text ts ≡ []
    → (o : Option (List ℕ)) → head_word (forms_of text ts) ≡ o → (list_expr at o (forms_of text ts)).faults ≡ []
    → (e : Expr) × ((list_expr at o (forms_of text ts)).value ≡ Some e) × SpellsExpr text t e
list_fits text t at ts list each leaves None is faultless = read_fits text t at ts list faultless
list_fits text t at [] list each leaves (Some w) is faultless = absurd cc
list_fits text t at (u ∷ us) list each leaves (Some w) is faultless =
    headed_fits text t u at us w list is (All-tail (ExprFits text) u us each) (nils (leaves_of text u) (all_leaves text us) leaves).1 faultless

-- a tree that says an expression without a fault, and whose leaves have none, spells it
pub expr_fits : (text : List ℕ) (t : Tree) → ExprFits text t
expr_fits text = induct_tree (ExprFits text) leaf list
  where
    leaf : (span : Span) → ExprFits text (trees.Leaf span)
    leaf span =
        subst (λ (f : Form). f.expr.faults ≡ [] → leaves_of text (trees.Leaf span) ≡ [] → (e : Expr) × (f.expr.value ≡ Some e) × SpellsExpr text (trees.Leaf span) e)
        (sym (form_of-Leaf text span))
        (λ faultless leaves. leaf_fits text (trees.Leaf span) span.from (word_in text span) (leaf_itself text span) faultless (sym (leaves_of-Leaf text span) ∙ leaves))

    list : (span : Span) (ts : List Tree) → All (ExprFits text) ts → ExprFits text (trees.List span ts)
    list span ts each =
        subst (λ (f : Form). f.expr.faults ≡ [] → leaves_of text (trees.List span ts) ≡ [] → (e : Expr) × (f.expr.value ≡ Some e) × SpellsExpr text (trees.List span ts) e)
        (sym (form_of-List text span ts))
        (λ faultless leaves. list_fits text (trees.List span ts) span.from ts (list_itself span ts) each (sym (leaves_of-List text span ts) ∙ leaves) (head_word (forms_of text ts)) refl faultless)

-- ---- what is spelled is said

exprs_long : (text : List ℕ) (ts : List Tree) (es : List Expr) → SpellsExprs text ts es → length (forms_of text ts) ≡ length es
exprs_long text ts es SpellsExprs.none = refl
exprs_long text ts es (SpellsExprs.next t us e fs here rest) = ap suc (exprs_long text us fs rest)

read_said : (text : List ℕ) (t : Tree) (a : Atom) → SpellsAtom text true t a → Says (form_of text t).expr (expr.Read a)
read_said text t a x =
    let form = form_of_list text t x.at (x.symbol ∷ x.arguments) x.list in
    let word : (form_of text x.symbol).word ≡ Some a.head.text = ap (λ (f : Form). f.word) (form_of_word text x.symbol a.head.at a.head.text x.head.word) in
    let fs = forms_of text (x.symbol ∷ x.arguments) in
    let none = no_operation a.head.text (symbol_named a.head.text x.head.a_symbol) in
    let said = atom_said text true t a x in
    let is : list_expr x.at (head_word fs) fs ≡ read_of (atom_of true x.at fs) =
    ap (λ (o : Option (List ℕ)). list_expr x.at o fs) word
    ∙ ap (λ (o : Option Op). option_map_or (λ p. measured_expr x.at (operation x.at p (drop 1 fs))) o (read_of (atom_of true x.at fs))) none in
    subst (λ (f : Form). Says f.expr (expr.Read a)) (sym form)
    (subst (λ (p : Parsed Expr). Says p (expr.Read a)) (sym is) (ap (option_map expr.Read) said.0, said.1))

number_said : (text : List ℕ) (t : Tree) (at : ℕ) (w : List ℕ) (d : Decimal) → IsWordAt text t at w → is_number_word w ≡ true → number_in w ≡ Some d
    → Says (form_of text t).expr (expr.Lit d at)
number_said text t at w d x n is = subst (λ (f : Form). Says f.expr (expr.Lit d at)) (sym (form_of_word text t at w x)) (leaf_said at w d n is)

begun_said : (text : List ℕ) (t : Tree) (at : ℕ) (w : List ℕ) (o : Op) (ts : List Tree) (es : List Expr) (e : Expr) → Begins text t at w ts → operation_of w ≡ Some o
    → (map (λ (f : Form). f.expr.value) (forms_of text ts) ≡ map Some es) × (flat_map (λ (f : Form). f.expr.faults) (forms_of text ts) ≡ []) → length (forms_of text ts) ≡ length es
    → Groups at o es e → expression_height e ≤ 400 → Says (form_of text t).expr e
begun_said text t at w o ts es e x some said long g h =
    let fs = leaf_form x.first_at w ∷ forms_of text ts in
    let is : list_expr at (Some w) fs ≡ measured_expr at (operation at o (forms_of text ts)) =
    ap (λ (q : Option Op). option_map_or (λ p. measured_expr at (operation at p (forms_of text ts))) q (read_of (atom_of true at fs))) some in
    subst (λ (f : Form). Says f.expr e) (sym (form_of_begun text t at w ts x))
    (subst (λ (p : Parsed Expr). Says p e) (sym is) (operation_said at o (forms_of text ts) es e said.0 said.1 long g h))

mutual
  -- a spelled expression is said without a fault
  pub expr_said : (text : List ℕ) (t : Tree) (e : Expr) → SpellsExpr text t e → Says (form_of text t).expr e
  expr_said text t e (SpellsExpr.number u at w d x n is) = number_said text u at w d x n is
  expr_said text t e (SpellsExpr.read u a x) = read_said text u a x
  expr_said text t e (SpellsExpr.operation u at w o ts es f x is operands g h) =
      begun_said text u at w o ts es f x is (exprs_said text ts es operands) (exprs_long text ts es operands) g h

  pub exprs_said : (text : List ℕ) (ts : List Tree) (es : List Expr) → SpellsExprs text ts es
      → (map (λ (f : Form). f.expr.value) (forms_of text ts) ≡ map Some es) × (flat_map (λ (f : Form). f.expr.faults) (forms_of text ts) ≡ [])
  exprs_said text ts es SpellsExprs.none = (refl, refl)
  exprs_said text ts es (SpellsExprs.next t us e fs here rest) =
      let a = expr_said text t e here in
      let b = exprs_said text us fs rest in
      (ap₂ (λ (v : Option Expr) (vs : List (Option Expr)). v ∷ vs) a.0 b.0, no_more (form_of text t).expr.faults (flat_map (λ (f : Form). f.expr.faults) (forms_of text us)) a.1 b.1)
