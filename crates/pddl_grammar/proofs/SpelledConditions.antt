-- Conditions: what trees say without a fault is what they spell.
use Rattle.std.proofs.Common.{◌≡◌, ℕ, ◌+◌, ◌≤◌, true, false, ◌&&◌, ◌||◌, inl, inr, List, [], ◌∷◌, ◌++◌, All, map, max, take, Option, Some, None, refl, sym, ap, ap₂, subst, ◌∙◌, arith}
use Rattle.std.specs.Prelude.{bytes_eq, codes, flat_map, fold, option_map}
use Rattle.std.specs.Option.{option_map_or}
use Rattle.std.proofs.lemmas.Bool.{cases_Bool, and_parts, and_from, and_left, and_right, or_left, or_right, or_from}
use Rattle.std.proofs.lemmas.List.Elements.{All-head, All-tail}
use Rattle.num_ends.specs.Names.{is_name}
use Rattle.sexp_text.specs.declared.marks.Span.{Span}
use Rattle.sexp_text.specs.declared.trees.Tree.{Tree}
use Rattle.sexp_text.specs.declared.trees.Tree.TheVariants as trees
use Rattle.sexp_text.proofs.Walks.{induct_tree}
use Rattle.pddl_terms.specs.declared.names.Arg.{Arg}
use Rattle.pddl_terms.specs.declared.names.Arg.TheVariants.{Var, Obj}
use Rattle.pddl_terms.specs.declared.names.Atom.{Atom}
use Rattle.pddl_terms.specs.declared.expressions.Expr.{Expr}
use Rattle.pddl_terms.specs.declared.conditions.Rel.{Rel}
use Rattle.pddl_terms.specs.declared.conditions.Rel.TheVariants as rel
use Rattle.pddl_terms.specs.declared.conditions.Cond.{Cond, Cond-F, fold-roll-Cond}
use Rattle.pddl_terms.specs.declared.conditions.Cond.TheVariants as condition
use Rattle.pddl_terms.specs.Heights.{condition_height, condition_layer}
use Rattle.pddl_trees.specs.Words.{is_variable, is_symbol, relation_of}
use Rattle.pddl_trees.specs.Forms.{Parsed, Form, all_of, extra, missing, shape_at, sound}
use Rattle.pddl_trees.specs.Conditions.{all_conds, compared, comparison, cond_of, cond_of_conds, fact_of, headed_cond, implied, is_argument, is_equal, measured_cond, negated, of_objects, same_objects}
use Rattle.pddl_trees.specs.Atoms.{argument, argument_word, atom_of}
use Rattle.pddl_trees.specs.Trees.{form_of, forms_of, leaf_form}
use Rattle.pddl_trees.specs.Expressions.{too_high}
use Rattle.pddl_trees.specs.Leaves.{all_leaves, leaves_of}
use Rattle.pddl_grammar.specs.Trees.{IsListAt, Begins}
use Rattle.pddl_grammar.specs.Atoms.{SpellsArg, SpellsAtom}
use Rattle.pddl_grammar.specs.Expressions.{SpellsExpr}
use Rattle.pddl_grammar.specs.Conditions.{SpellsCond, SpellsConds}
use Rattle.pddl_trees.proofs.Trees.{form_of-Leaf, form_of-List}
use Rattle.pddl_grammar.proofs.Spelled.{Says, nils, no_more, all_of_somes, form_of_word, form_of_list, form_of_begun, begun_at, list_itself, same_word, past_one, past_two, too_few, both_values}
use Rattle.pddl_grammar.proofs.SpelledLeaves.{leaves_of-List}
use Rattle.pddl_grammar.proofs.SpelledNames.{argument_fits, argument_said, atom_fits, atom_said}
use Rattle.pddl_grammar.proofs.SpelledWords.{symbol_named, other_word, no_relation, no_connective, equal_word, number_no_name, number_no_variable}
use Rattle.pddl_grammar.proofs.SpelledExpressions.{height_fits, height_said, expr_fits, expr_said}

-- ---- heights

height-And : (cs : List Cond) → condition_height (condition.And cs) ≡ fold max 0 (map condition_height cs) + 1
height-And cs = ap condition_height (sym (condition.rolls-And cs)) ∙ fold-roll-Cond ℕ condition_layer (Cond-F.And cs)

height-Fact : (a : Atom) → condition_height (condition.Fact a) ≡ 1
height-Fact a = ap condition_height (sym (condition.rolls-Fact a)) ∙ fold-roll-Cond ℕ condition_layer (Cond-F.Fact a)

height-Same : (a b : Arg) → condition_height (condition.Same a b) ≡ 1
height-Same a b = ap condition_height (sym (condition.rolls-Same a b)) ∙ fold-roll-Cond ℕ condition_layer (Cond-F.Same a b)

pub low_nothing : condition_height (condition.And []) ≤ 400
low_nothing =
    let e = height-And [] in
    omega arith

pub low_fact : (a : Atom) → condition_height (condition.Fact a) ≤ 400
low_fact a =
    let e = height-Fact a in
    omega arith

pub low_same : (a b : Arg) → condition_height (condition.Same a b) ≤ 400
low_same a b =
    let e = height-Same a b in
    omega arith

-- a condition that is spelled where it isn't too high
abbrev Fits : List ℕ → Tree → Parsed Cond → Type 0
Fits text t p = (c : Cond) × (p.value ≡ Some c) × (condition_height c ≤ 400 → SpellsCond text t c)

measured_fits : (text : List ℕ) (t : Tree) (at : ℕ) (p : Parsed Cond) → (p.faults ≡ [] → Fits text t p) → (measured_cond at p).faults ≡ []
    → (c : Cond) × ((measured_cond at p).value ≡ Some c) × SpellsCond text t c
measured_fits text t at p fits faultless =
    let parts = nils p.faults _ faultless in
    let found = fits parts.0 in
    let high = height_fits at (condition_height found.0) (sym (ap (λ (v : Option Cond). option_map_or (λ x. too_high at (condition_height x)) v []) found.1) ∙ parts.1) in
    (found.0, found.1, found.2 high)

measured_said : (at : ℕ) (p : Parsed Cond) (c : Cond) → Says p c → condition_height c ≤ 400 → Says (measured_cond at p) c
measured_said at p c said h =
    (said.0, no_more p.faults _ said.1 (ap (λ (v : Option Cond). option_map_or (λ x. too_high at (condition_height x)) v []) said.0 ∙ height_said at (condition_height c) h))

-- ---- connectives

abbrev CondFits : List ℕ → Tree → Type 0
CondFits text t = (form_of text t).cond.faults ≡ [] → leaves_of text t ≡ [] → (c : Cond) × ((form_of text t).cond.value ≡ Some c) × SpellsCond text t c

conds_fit_from : (text : List ℕ) (ts : List Tree) → All (CondFits text) ts → flat_map (λ (f : Form). f.cond.faults) (forms_of text ts) ≡ [] → all_leaves text ts ≡ []
    → (cs : List Cond) × (map (λ (f : Form). f.cond.value) (forms_of text ts) ≡ map Some cs) × SpellsConds text ts cs
conds_fit_from text [] each e k = ([], refl, SpellsConds.none)
conds_fit_from text (t ∷ ts) each e k =
    let faults = nils (form_of text t).cond.faults (flat_map (λ (f : Form). f.cond.faults) (forms_of text ts)) e in
    let leaves = nils (leaves_of text t) (all_leaves text ts) k in
    let here = All-head (CondFits text) t ts each faults.0 leaves.0 in
    let rest = conds_fit_from text ts (All-tail (CondFits text) t ts each) faults.1 leaves.1 in
    (here.0 ∷ rest.0, ap₂ (λ (v : Option Cond) (vs : List (Option Cond)). v ∷ vs) here.1 rest.1, SpellsConds.next t ts here.0 rest.0 here.2 rest.2)

joined_value : (make : List Cond → Cond) (fs : List Form) (cs : List Cond) → map (λ (f : Form). f.cond.value) fs ≡ map Some cs → (all_conds make fs).value ≡ Some (make cs)
joined_value make fs cs e = ap (λ (vs : List (Option Cond)). option_map make (all_of vs)) e ∙ ap (option_map make) (all_of_somes cs)

and_fits : (text : List ℕ) (t : Tree) (at : ℕ) (ts : List Tree) → Begins text t at (codes "and") ts → All (CondFits text) ts → all_leaves text ts ≡ []
    → (all_conds condition.And (forms_of text ts)).faults ≡ [] → Fits text t (all_conds condition.And (forms_of text ts))
and_fits text t at ts begun each leaves e =
    let found = conds_fit_from text ts each e leaves in
    (condition.And found.0, joined_value condition.And (forms_of text ts) found.0 found.1, λ h. SpellsCond.conjunction t at ts found.0 begun found.2 h)

or_fits : (text : List ℕ) (t : Tree) (at : ℕ) (ts : List Tree) → Begins text t at (codes "or") ts → All (CondFits text) ts → all_leaves text ts ≡ []
    → (all_conds condition.Or (forms_of text ts)).faults ≡ [] → Fits text t (all_conds condition.Or (forms_of text ts))
or_fits text t at ts begun each leaves e =
    let found = conds_fit_from text ts each e leaves in
    (condition.Or found.0, joined_value condition.Or (forms_of text ts) found.0 found.1, λ h. SpellsCond.disjunction t at ts found.0 begun found.2 h)

not_fits : (text : List ℕ) (t : Tree) (at : ℕ) (ts : List Tree) → Begins text t at (codes "not") ts → All (CondFits text) ts → all_leaves text ts ≡ []
    → (cond_of_conds at 1 (negated (forms_of text ts)) (forms_of text ts)).faults ≡ [] → Fits text t (cond_of_conds at 1 (negated (forms_of text ts)) (forms_of text ts))
not_fits text t at [] begun each leaves e = absurd cc
not_fits text t at (u ∷ []) begun each leaves e =
    let f = form_of text u in
    let faults = nils (f.cond.faults ++ [] ++ []) [] e in
    let inner = nils (f.cond.faults ++ []) [] faults.0 in
    let here = All-head (CondFits text) u [] each (nils f.cond.faults [] inner.0).0 (nils (leaves_of text u) [] leaves).0 in
    (condition.Not here.0, ap (option_map condition.Not) here.1, λ h. SpellsCond.negation t at u here.0 begun here.2 h)
not_fits text t at (u ∷ v ∷ us) begun each leaves e =
    absurd (past_one at (flat_map (λ (f : Form). f.cond.faults) (take 1 (forms_of text (u ∷ v ∷ us)))) (form_of text u) (form_of text v) (forms_of text us) e)

imply_fits : (text : List ℕ) (t : Tree) (at : ℕ) (ts : List Tree) → Begins text t at (codes "imply") ts → All (CondFits text) ts → all_leaves text ts ≡ []
    → (cond_of_conds at 2 (implied (forms_of text ts)) (forms_of text ts)).faults ≡ [] → Fits text t (cond_of_conds at 2 (implied (forms_of text ts)) (forms_of text ts))
imply_fits text t at [] begun each leaves e = absurd cc
imply_fits text t at (u ∷ []) begun each leaves e = absurd (too_few (flat_map (λ (f : Form). f.cond.faults) (forms_of text (u ∷ []))) (shape_at at) e)
imply_fits text t at (u ∷ v ∷ []) begun each leaves e =
    let f = form_of text u in
    let g = form_of text v in
    let faults = nils (f.cond.faults ++ (g.cond.faults ++ []) ++ []) [] e in
    let inner = nils (f.cond.faults ++ (g.cond.faults ++ [])) [] faults.0 in
    let two = nils f.cond.faults (g.cond.faults ++ []) inner.0 in
    let fit = nils (leaves_of text u) (leaves_of text v ++ []) leaves in
    let first = All-head (CondFits text) u (v ∷ []) each two.0 fit.0 in
    let second = All-head (CondFits text) v [] (All-tail (CondFits text) u (v ∷ []) each) (nils g.cond.faults [] two.1).0 (nils (leaves_of text v) [] fit.1).0 in
    (condition.Imply first.0 second.0, both_values condition.Imply f.cond.value g.cond.value first.0 second.0 first.1 second.1, λ h. SpellsCond.implication t at u v first.0 second.0 begun first.2 second.2 h)
imply_fits text t at (u ∷ v ∷ w ∷ us) begun each leaves e =
    absurd (past_two at (flat_map (λ (f : Form). f.cond.faults) (take 2 (forms_of text (u ∷ v ∷ w ∷ us)))) (form_of text u) (form_of text v) (form_of text w) (forms_of text us) e)

-- ---- comparisons

-- an argument is one without a fault
argument_there : (f : Form) → is_argument f ≡ true → (argument true f).faults ≡ []
argument_there f h = by_word f.word h
  where
    by_word : (o : Option (List ℕ)) → option_map_or (λ w. is_name w || is_variable w) o false ≡ true
        → (option_map_or (argument_word true f.at) o (record { value = None; faults = shape_at f.at ∷ [] })).faults ≡ []
    by_word None k = absurd cc
    by_word (Some w) k =
        elim (cases_Bool (is_name w)) [
          | inl n ↦ rw n refl
          | inr n ↦
              let v : is_variable w ≡ true = rw n at k in
              rw (n, v) refl
        ]

same_fits : (text : List ℕ) (t : Tree) (at : ℕ) (ts : List Tree) → Begins text t at (codes "=") ts → of_objects (forms_of text ts) ≡ true → extra 2 (forms_of text ts) ≡ []
    → (c : Cond) × (same_objects (forms_of text ts) ≡ Some c) × SpellsCond text t c
same_fits text t at [] begun objects e = absurd cc
same_fits text t at (u ∷ []) begun objects e = absurd cc
same_fits text t at (u ∷ v ∷ []) begun objects e =
    let parts = and_parts (is_argument (form_of text u)) (is_argument (form_of text v)) objects in
    let first = argument_fits text true u (argument_there (form_of text u) parts.0) in
    let second = argument_fits text true v (argument_there (form_of text v) parts.1) in
    (condition.Same first.0 second.0, both_values condition.Same _ _ first.0 second.0 first.1 second.1, SpellsCond.equality t at u v first.0 second.0 begun first.2 second.2)
same_fits text t at (u ∷ v ∷ w ∷ us) begun objects e = absurd cc

compared_fits : (text : List ℕ) (t : Tree) (at : ℕ) (w : List ℕ) (r : Rel) (ts : List Tree) → Begins text t at w ts → relation_of w ≡ Some r → all_leaves text ts ≡ []
    → flat_map (λ (f : Form). f.expr.faults) (take 2 (forms_of text ts)) ++ missing at 2 (forms_of text ts) ++ extra 2 (forms_of text ts) ≡ []
    → (c : Cond) × (compared r (forms_of text ts) ≡ Some c) × (condition_height c ≤ 400 → SpellsCond text t c)
compared_fits text t at w r [] begun some leaves e = absurd cc
compared_fits text t at w r (u ∷ []) begun some leaves e = absurd (too_few (flat_map (λ (f : Form). f.expr.faults) (forms_of text (u ∷ []))) (shape_at at) e)
compared_fits text t at w r (u ∷ v ∷ []) begun some leaves e =
    let f = form_of text u in
    let g = form_of text v in
    let faults = nils (f.expr.faults ++ (g.expr.faults ++ []) ++ []) [] e in
    let inner = nils (f.expr.faults ++ (g.expr.faults ++ [])) [] faults.0 in
    let two = nils f.expr.faults (g.expr.faults ++ []) inner.0 in
    let fit = nils (leaves_of text u) (leaves_of text v ++ []) leaves in
    let first = expr_fits text u two.0 fit.0 in
    let second = expr_fits text v (nils g.expr.faults [] two.1).0 (nils (leaves_of text v) [] fit.1).0 in (
      condition.Cmp r first.0 second.0,
      both_values (condition.Cmp r) f.expr.value g.expr.value first.0 second.0 first.1 second.1,
      λ h. SpellsCond.comparison t at w r u v first.0 second.0 begun some first.2 second.2 h,
    )
compared_fits text t at w r (u ∷ v ∷ x ∷ us) begun some leaves e =
    absurd (past_two at (flat_map (λ (f : Form). f.expr.faults) (take 2 (forms_of text (u ∷ v ∷ x ∷ us)))) (form_of text u) (form_of text v) (form_of text x) (forms_of text us) e)

equal_relation : (r : Rel) → is_equal r ≡ true → r ≡ rel.Equal
equal_relation rel.Less h = cc
equal_relation rel.LessEqual h = cc
equal_relation rel.Equal h = refl
equal_relation rel.GreaterEqual h = cc
equal_relation rel.Greater h = cc

comparison_fits : (text : List ℕ) (t : Tree) (at : ℕ) (w : List ℕ) (r : Rel) (ts : List Tree) → Begins text t at w ts → relation_of w ≡ Some r → all_leaves text ts ≡ []
    → (comparison at r (forms_of text ts)).faults ≡ [] → Fits text t (comparison at r (forms_of text ts))
comparison_fits text t at w r ts begun some leaves e =
    elim (cases_Bool (is_equal r && of_objects (forms_of text ts))) [
      | inl objects ↦
          let parts = and_parts (is_equal r) (of_objects (forms_of text ts)) objects in
          let equal = equal_word w (some ∙ ap Some (equal_relation r parts.0)) in
          let found = same_fits text t at ts (subst (λ (x : List ℕ). Begins text t at x ts) equal begun) parts.1 (rw objects at e) in
          (found.0, rw objects found.1, λ h. found.2)
      | inr numbers ↦
          let found = compared_fits text t at w r ts begun some leaves (rw numbers at e) in
          (found.0, rw numbers found.1, found.2)
    ]

-- ---- trees

fact_fits : (text : List ℕ) (t : Tree) (at : ℕ) (ts : List Tree) → IsListAt t at ts → (fact_of (atom_of true at (forms_of text ts))).faults ≡ []
    → Fits text t (fact_of (atom_of true at (forms_of text ts)))
fact_fits text t at ts listed e =
    let found = atom_fits text true t at ts listed e in
    (condition.Fact found.0, ap (option_map condition.Fact) found.1, λ h. SpellsCond.fact t found.0 found.2)

-- a comparison, or else a fact
abbrev chosen_cond : ℕ → Option Rel → List Form → Parsed Atom → Parsed Cond
chosen_cond at o fs a = option_map_or (λ r. comparison at r fs) o (fact_of a)

headed_fits : (text : List ℕ) (t u : Tree) (at : ℕ) (us : List Tree) (w : List ℕ) → IsListAt t at (u ∷ us) → (form_of text u).word ≡ Some w → All (CondFits text) us
    → all_leaves text us ≡ [] → (headed_cond at w (forms_of text us) (atom_of true at (forms_of text (u ∷ us)))).faults ≡ []
    → Fits text t (headed_cond at w (forms_of text us) (atom_of true at (forms_of text (u ∷ us))))
headed_fits text t u at us w listed is each leaves e =
    elim (cases_Bool (bytes_eq w (codes "and"))) [
      | inl conjunction ↦ rw conjunction (and_fits text t at us (begins (codes "and") conjunction) each leaves (rw conjunction at e))
      | inr no_and ↦ elim (cases_Bool (bytes_eq w (codes "or"))) [
        | inl disjunction ↦ rw (no_and, disjunction) (or_fits text t at us (begins (codes "or") disjunction) each leaves (rw (no_and, disjunction) at e))
        | inr no_or ↦ elim (cases_Bool (bytes_eq w (codes "not"))) [
          | inl negation ↦ rw (no_and, no_or, negation) (not_fits text t at us (begins (codes "not") negation) each leaves (rw (no_and, no_or, negation) at e))
          | inr no_not ↦ elim (cases_Bool (bytes_eq w (codes "imply"))) [
            | inl implication ↦
                rw (no_and, no_or, no_not, implication) (imply_fits text t at us (begins (codes "imply") implication) each leaves (rw (no_and, no_or, no_not, implication) at e))
            | inr no_imply ↦ rw (no_and, no_or, no_not, no_imply) (by_relation (relation_of w) refl (rw (no_and, no_or, no_not, no_imply) at e))
          ]
        ]
      ]
    ]
  where
    begins : (v : List ℕ) → bytes_eq w v ≡ true → Begins text t at v us
    begins v same = subst (λ (x : List ℕ). Begins text t at x us) (same_word w v same) (begun_at text t u at us w listed is)

    by_relation : (o : Option Rel) → relation_of w ≡ o → (chosen_cond at o (forms_of text us) (atom_of true at (forms_of text (u ∷ us)))).faults ≡ []
        → Fits text t (chosen_cond at o (forms_of text us) (atom_of true at (forms_of text (u ∷ us))))
    by_relation None none k = fact_fits text t at (u ∷ us) listed k
    by_relation (Some r) some k = comparison_fits text t at w r us (begun_at text t u at us w listed is) some leaves k

list_fits : (text : List ℕ) (t : Tree) (at : ℕ) (ts : List Tree) → IsListAt t at ts → All (CondFits text) ts → all_leaves text ts ≡ []
    → (cond_of at (forms_of text ts) (atom_of true at (forms_of text ts))).faults ≡ [] → Fits text t (cond_of at (forms_of text ts) (atom_of true at (forms_of text ts)))
list_fits text t at [] listed each leaves e = (condition.And [], refl, λ h. SpellsCond.nothing t at listed)
list_fits text t at (u ∷ us) listed each leaves e = by_word (form_of text u).word refl e
  where
    by_word : (o : Option (List ℕ)) → (form_of text u).word ≡ o
        → (option_map_or (λ w. headed_cond at w (forms_of text us) (atom_of true at (forms_of text (u ∷ us)))) o (fact_of (atom_of true at (forms_of text (u ∷ us))))).faults ≡ []
        → Fits text t (option_map_or (λ w. headed_cond at w (forms_of text us) (atom_of true at (forms_of text (u ∷ us)))) o (fact_of (atom_of true at (forms_of text (u ∷ us)))))
    by_word None is k = fact_fits text t at (u ∷ us) listed k
    by_word (Some w) is k = headed_fits text t u at us w listed is (All-tail (CondFits text) u us each) (nils (leaves_of text u) (all_leaves text us) leaves).1 k

-- a tree that says a condition without a fault, and whose leaves have none, spells it
pub cond_fits : (text : List ℕ) (t : Tree) → CondFits text t
cond_fits text = induct_tree (CondFits text) leaf_case list_case
  where
    leaf_case : (span : Span) → CondFits text (trees.Leaf span)
    leaf_case span =
        subst (λ (f : Form). f.cond.faults ≡ [] → leaves_of text (trees.Leaf span) ≡ [] → (c : Cond) × (f.cond.value ≡ Some c) × SpellsCond text (trees.Leaf span) c)
        (sym (form_of-Leaf text span)) (λ faultless leaves. absurd (cc faultless))

    list_case : (span : Span) (ts : List Tree) → All (CondFits text) ts → CondFits text (trees.List span ts)
    list_case span ts each =
        subst (λ (f : Form). f.cond.faults ≡ [] → leaves_of text (trees.List span ts) ≡ [] → (c : Cond) × (f.cond.value ≡ Some c) × SpellsCond text (trees.List span ts) c)
        (sym (form_of-List text span ts))
        (λ faultless leaves.
        measured_fits text (trees.List span ts) span.from (cond_of span.from (forms_of text ts) (atom_of true span.from (forms_of text ts)))
        (list_fits text (trees.List span ts) span.from ts (list_itself span ts) each (sym (leaves_of-List text span ts) ∙ leaves)) faultless)

-- ---- what is spelled is said

-- a list that begins with a word of a condition says what stands behind it
begun_said : (text : List ℕ) (t : Tree) (at : ℕ) (w : List ℕ) (ts : List Tree) (c : Cond) (x : Begins text t at w ts)
    → Says (headed_cond at w (forms_of text ts) (atom_of true at (leaf_form x.first_at w ∷ forms_of text ts))) c → condition_height c ≤ 400 → Says (form_of text t).cond c
begun_said text t at w ts c x said h =
    subst (λ (f : Form). Says f.cond c) (sym (form_of_begun text t at w ts x))
    (measured_said at (headed_cond at w (forms_of text ts) (atom_of true at (leaf_form x.first_at w ∷ forms_of text ts))) c said h)

nothing_said : (text : List ℕ) (t : Tree) (at : ℕ) → IsListAt t at [] → Says (form_of text t).cond (condition.And [])
nothing_said text t at listed =
    subst (λ (f : Form). Says f.cond (condition.And [])) (sym (form_of_list text t at [] listed))
    (measured_said at (sound Cond (condition.And [])) (condition.And []) (refl, refl) low_nothing)

fact_said : (text : List ℕ) (t : Tree) (a : Atom) → SpellsAtom text true t a → Says (form_of text t).cond (condition.Fact a)
fact_said text t a x =
    let form = form_of_list text t x.at (x.symbol ∷ x.arguments) x.list in
    let w = a.head.text in
    let s = x.head.a_symbol in
    let word : (form_of text x.symbol).word ≡ Some w = ap (λ (f : Form). f.word) (form_of_word text x.symbol a.head.at w x.head.word) in
    let fs = forms_of text x.arguments in
    let atom = atom_of true x.at (forms_of text (x.symbol ∷ x.arguments)) in
    let no_and = other_word is_symbol (codes "and") w refl s in
    let no_or = other_word is_symbol (codes "or") w refl s in
    let no_not = other_word is_symbol (codes "not") w refl s in
    let no_imply = other_word is_symbol (codes "imply") w refl s in
    let headed : headed_cond x.at w fs atom ≡ fact_of atom =
    rw (no_and, no_or, no_not, no_imply) (ap (λ (o : Option Rel). chosen_cond x.at o fs atom) (no_relation w (symbol_named w s))) in
    let is : cond_of x.at (forms_of text (x.symbol ∷ x.arguments)) atom ≡ fact_of atom =
    ap (λ (o : Option (List ℕ)). option_map_or (λ v. headed_cond x.at v fs atom) o (fact_of atom)) word ∙ headed in
    let said = atom_said text true t a x in
    let fact : Says (fact_of atom) (condition.Fact a) = (ap (option_map condition.Fact) said.0, said.1) in
    subst (λ (f : Form). Says f.cond (condition.Fact a)) (sym form)
    (measured_said x.at (cond_of x.at (forms_of text (x.symbol ∷ x.arguments)) atom) (condition.Fact a)
    (subst (λ (p : Parsed Cond). Says p (condition.Fact a)) (sym is) fact) (low_fact a))

argument_is : (text : List ℕ) (t : Tree) (a : Arg) → SpellsArg text true t a → is_argument (form_of text t) ≡ true
argument_is text t (Var name) x =
    ap is_argument (form_of_word text t name.at name.text x.1.word) ∙ or_right (is_name name.text) (is_variable name.text) x.1.a_variable
argument_is text t (Obj name) x =
    ap is_argument (form_of_word text t name.at name.text x.word) ∙ or_left (is_name name.text) (is_variable name.text) x.a_name

equality_said : (text : List ℕ) (u v : Tree) (a b : Arg) (at : ℕ) → SpellsArg text true u a → SpellsArg text true v b
    → Says (comparison at rel.Equal (forms_of text (u ∷ v ∷ []))) (condition.Same a b)
equality_said text u v a b at x y =
    let objects = and_from (is_argument (form_of text u)) (is_argument (form_of text v)) (argument_is text u a x) (argument_is text v b y) in
    (rw objects (both_values condition.Same _ _ a b (argument_said text true u a x).0 (argument_said text true v b y).0), rw objects refl)

-- an expression is no argument
no_argument : (text : List ℕ) (t : Tree) (e : Expr) → SpellsExpr text t e → is_argument (form_of text t) ≡ false
no_argument text t e (SpellsExpr.number u at w d x n is) =
    ap is_argument (form_of_word text u at w x) ∙ or_from (is_name w) (is_variable w) (number_no_name w n) (number_no_variable w n)
no_argument text t e (SpellsExpr.read u a x) = ap is_argument (form_of_list text u x.at (x.symbol ∷ x.arguments) x.list)
no_argument text t e (SpellsExpr.operation u at w o ts es f x is operands g h) = ap is_argument (form_of_begun text u at w ts x)

comparison_said : (text : List ℕ) (u v : Tree) (e f : Expr) (at : ℕ) (r : Rel) → SpellsExpr text u e → SpellsExpr text v f
    → Says (comparison at r (forms_of text (u ∷ v ∷ []))) (condition.Cmp r e f)
comparison_said text u v e f at r x y =
    let numbers = and_right (is_equal r) (is_argument (form_of text u) && is_argument (form_of text v)) (and_left (is_argument (form_of text u)) (is_argument (form_of text v)) (no_argument text u e x)) in
    let first = expr_said text u e x in
    let second = expr_said text v f y in
    (rw numbers (both_values (condition.Cmp r) _ _ e f first.0 second.0), rw (numbers, first.1, second.1) refl)

related_said : (text : List ℕ) (t : Tree) (at : ℕ) (w : List ℕ) (r : Rel) (ts : List Tree) (c : Cond) (x : Begins text t at w ts) → relation_of w ≡ Some r
    → Says (comparison at r (forms_of text ts)) c → condition_height c ≤ 400 → Says (form_of text t).cond c
related_said text t at w r ts c x some said h =
    let atom = atom_of true at (leaf_form x.first_at w ∷ forms_of text ts) in
    let no_and = no_connective (codes "and") w r some refl in
    let no_or = no_connective (codes "or") w r some refl in
    let no_not = no_connective (codes "not") w r some refl in
    let no_imply = no_connective (codes "imply") w r some refl in
    let is : headed_cond at w (forms_of text ts) atom ≡ comparison at r (forms_of text ts) =
    rw (no_and, no_or, no_not, no_imply) (ap (λ (o : Option Rel). chosen_cond at o (forms_of text ts) atom) some) in
    begun_said text t at w ts c x (subst (λ (p : Parsed Cond). Says p c) (sym is) said) h

mutual
  -- a spelled condition is said without a fault
  pub cond_said : (text : List ℕ) (t : Tree) (c : Cond) → SpellsCond text t c → Says (form_of text t).cond c
  cond_said text t c (SpellsCond.nothing u at x) = nothing_said text u at x
  cond_said text t c (SpellsCond.conjunction u at ts cs x each h) =
      let said = conds_said text ts cs each in
      begun_said text u at (codes "and") ts (condition.And cs) x (joined_value condition.And (forms_of text ts) cs said.0, said.1) h
  cond_said text t c (SpellsCond.disjunction u at ts cs x each h) =
      let said = conds_said text ts cs each in
      begun_said text u at (codes "or") ts (condition.Or cs) x (joined_value condition.Or (forms_of text ts) cs said.0, said.1) h
  cond_said text t c (SpellsCond.negation u at v b x y h) =
      let said = cond_said text v b y in
      begun_said text u at (codes "not") (v ∷ []) (condition.Not b) x (ap (option_map condition.Not) said.0, rw said.1 refl) h
  cond_said text t c (SpellsCond.implication u at v w a b x y z h) =
      let first = cond_said text v a y in
      let second = cond_said text w b z in
      begun_said text u at (codes "imply") (v ∷ w ∷ []) (condition.Imply a b) x (both_values condition.Imply _ _ a b first.0 second.0, rw (first.1, second.1) refl) h
  cond_said text t c (SpellsCond.equality u at v w a b x y z) =
      related_said text u at (codes "=") rel.Equal (v ∷ w ∷ []) (condition.Same a b) x refl (equality_said text v w a b at y z) (low_same a b)
  cond_said text t c (SpellsCond.comparison u at w r v x e f begun some y z h) =
      related_said text u at w r (v ∷ x ∷ []) (condition.Cmp r e f) begun some (comparison_said text v x e f at r y z) h
  cond_said text t c (SpellsCond.fact u a x) = fact_said text u a x

  pub conds_said : (text : List ℕ) (ts : List Tree) (cs : List Cond) → SpellsConds text ts cs
      → (map (λ (f : Form). f.cond.value) (forms_of text ts) ≡ map Some cs) × (flat_map (λ (f : Form). f.cond.faults) (forms_of text ts) ≡ [])
  conds_said text ts cs SpellsConds.none = (refl, refl)
  conds_said text ts cs (SpellsConds.next t us c ds here rest) =
      let a = cond_said text t c here in
      let b = conds_said text us ds rest in
      (ap₂ (λ (v : Option Cond) (vs : List (Option Cond)). v ∷ vs) a.0 b.0, no_more (form_of text t).cond.faults (flat_map (λ (f : Form). f.cond.faults) (forms_of text us)) a.1 b.1)
