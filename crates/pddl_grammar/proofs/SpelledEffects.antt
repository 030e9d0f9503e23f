-- Effects: what trees say without a fault is what they spell.
use Rattle.std.proofs.Common.{◌≡◌, ℕ, true, false, inl, inr, List, [], ◌∷◌, ◌++◌, All, map, take, Option, Some, None, refl, sym, ap, ap₂, subst, ◌∙◌}
use Rattle.std.specs.Prelude.{bytes_eq, codes, flat_map, option_map}
use Rattle.std.specs.Option.{option_map_or}
use Rattle.std.proofs.lemmas.Bool.{cases_Bool}
use Rattle.std.proofs.lemmas.List.{map-append}
use Rattle.std.proofs.lemmas.List.Elements.{All-head, All-tail}
use Rattle.sexp_text.specs.declared.marks.Span.{Span}
use Rattle.sexp_text.specs.declared.trees.Tree.{Tree}
use Rattle.sexp_text.specs.declared.trees.Tree.TheVariants as trees
use Rattle.sexp_text.proofs.Walks.{induct_tree}
use Rattle.pddl_terms.specs.declared.names.Atom.{Atom}
use Rattle.pddl_terms.specs.declared.expressions.Expr.{Expr}
use Rattle.pddl_terms.specs.declared.actions.Assign.{Assign}
use Rattle.pddl_terms.specs.declared.actions.Effect.{Effect}
use Rattle.pddl_terms.specs.declared.actions.Effect.TheVariants as effect
use Rattle.pddl_trees.specs.Words.{is_symbol, change_of}
use Rattle.pddl_trees.specs.Forms.{Parsed, Form, Effects, shape_at}
use Rattle.pddl_trees.specs.Effects.{addition, all_effects, change, deletion, effects_of, headed_effects}
use Rattle.pddl_trees.specs.Atoms.{atom_of}
use Rattle.pddl_trees.specs.Trees.{form_of, forms_of, leaf_form}
use Rattle.pddl_trees.specs.Leaves.{all_leaves, leaves_of}
use Rattle.pddl_grammar.specs.Trees.{IsListAt, Begins}
use Rattle.pddl_grammar.specs.Atoms.{SpellsAtom}
use Rattle.pddl_grammar.specs.Expressions.{SpellsExpr}
use Rattle.pddl_grammar.specs.Effects.{SpellsEffects, SpellsEffectsOfAll}
use Rattle.pddl_trees.proofs.Trees.{form_of-Leaf, form_of-List}
use Rattle.pddl_grammar.proofs.Spelled.{nils, no_more, form_of_word, form_of_list, form_of_begun, begun_at, list_itself, same_word, past_one, past_two, too_few, both_values}
use Rattle.pddl_grammar.proofs.SpelledLeaves.{leaves_of-List}
use Rattle.pddl_grammar.proofs.SpelledNames.{atom_fits, atom_said, tree_atom_fits, tree_atom_said}
use Rattle.pddl_grammar.proofs.SpelledWords.{other_word, no_change}
use Rattle.pddl_grammar.proofs.SpelledExpressions.{expr_fits, expr_said}

-- the single effects of a tree, where each is there
abbrev pub found_effects : Effects → List (Option Effect)
found_effects e = map (λ (f : ℕ × Option Effect). f.1) e.found

abbrev Fits : List ℕ → Tree → Effects → Type 0
Fits text t e = (es : List Effect) × (found_effects e ≡ map Some es) × SpellsEffects text t es

abbrev pub SaysEffects : Effects → List Effect → Type 0
SaysEffects e es = (found_effects e ≡ map Some es) × (e.faults ≡ [])

abbrev EffectsFit : List ℕ → Tree → Type 0
EffectsFit text t = (form_of text t).effects.faults ≡ [] → leaves_of text t ≡ [] → Fits text t (form_of text t).effects

-- ---- effects by effects

found_joined : (a b : List (ℕ × Option Effect)) (es fs : List Effect) → map (λ (f : ℕ × Option Effect). f.1) a ≡ map Some es → map (λ (f : ℕ × Option Effect). f.1) b ≡ map Some fs
    → map (λ (f : ℕ × Option Effect). f.1) (a ++ b) ≡ map Some (es ++ fs)
found_joined a b es fs e f =
    map-append (λ (f : ℕ × Option Effect). f.1) a b ∙ ap₂ (λ (x y : List (Option Effect)). x ++ y) e f ∙ sym (map-append Some es fs)

all_fit_from : (text : List ℕ) (ts : List Tree) → All (EffectsFit text) ts → (all_effects (forms_of text ts)).faults ≡ [] → all_leaves text ts ≡ []
    → (es : List Effect) × (found_effects (all_effects (forms_of text ts)) ≡ map Some es) × SpellsEffectsOfAll text ts es
all_fit_from text [] each e k = ([], refl, SpellsEffectsOfAll.none)
all_fit_from text (t ∷ ts) each e k =
    let faults = nils (form_of text t).effects.faults (all_effects (forms_of text ts)).faults e in
    let leaves = nils (leaves_of text t) (all_leaves text ts) k in
    let here = All-head (EffectsFit text) t ts each faults.0 leaves.0 in
    let rest = all_fit_from text ts (All-tail (EffectsFit text) t ts each) faults.1 leaves.1 in (
      here.0 ++ rest.0,
      found_joined (form_of text t).effects.found (all_effects (forms_of text ts)).found here.0 rest.0 here.1 rest.1,
      SpellsEffectsOfAll.next t ts here.0 rest.0 here.2 rest.2,
    )

single : (x : Option Effect) (e : Effect) → x ≡ Some e → x ∷ [] ≡ map Some (e ∷ [])
single x e is = ap (λ (o : Option Effect). o ∷ []) is

deletion_fits : (text : List ℕ) (t : Tree) (at : ℕ) (ts : List Tree) → Begins text t at (codes "not") ts → (deletion at (forms_of text ts)).faults ≡ []
    → Fits text t (deletion at (forms_of text ts))
deletion_fits text t at [] begun e = absurd cc
deletion_fits text t at (u ∷ []) begun e =
    let f = form_of text u in
    let faults = nils (f.atom.faults ++ [] ++ []) [] e in
    let inner = nils (f.atom.faults ++ []) [] faults.0 in
    let found = tree_atom_fits text u (nils f.atom.faults [] inner.0).0 in
    (effect.Del found.0 ∷ [], single _ (effect.Del found.0) (ap (option_map effect.Del) found.1), SpellsEffects.deletion t at u found.0 begun found.2)
deletion_fits text t at (u ∷ v ∷ us) begun e =
    absurd (past_one at (flat_map (λ (f : Form). f.atom.faults) (take 1 (forms_of text (u ∷ v ∷ us)))) (form_of text u) (form_of text v) (forms_of text us) e)

change_fits : (text : List ℕ) (t : Tree) (at : ℕ) (w : List ℕ) (how : Assign) (ts : List Tree) → Begins text t at w ts → change_of w ≡ Some how → all_leaves text ts ≡ []
    → (change at how (forms_of text ts)).faults ≡ [] → Fits text t (change at how (forms_of text ts))
change_fits text t at w how [] begun some leaves e = absurd cc
change_fits text t at w how (u ∷ []) begun some leaves e = absurd (too_few (((form_of text u).atom.faults ++ []) ++ []) (shape_at at) e)
change_fits text t at w how (u ∷ v ∷ []) begun some leaves e =
    let f = form_of text u in
    let g = form_of text v in
    let faults = nils ((f.atom.faults ++ []) ++ (g.expr.faults ++ []) ++ []) [] e in
    let inner = nils ((f.atom.faults ++ []) ++ (g.expr.faults ++ [])) [] faults.0 in
    let two = nils (f.atom.faults ++ []) (g.expr.faults ++ []) inner.0 in
    let fit = nils (leaves_of text u) (leaves_of text v ++ []) leaves in
    let fluent = tree_atom_fits text u (nils f.atom.faults [] two.0).0 in
    let value = expr_fits text v (nils g.expr.faults [] two.1).0 (nils (leaves_of text v) [] fit.1).0 in (
      effect.Num how fluent.0 value.0 ∷ [],
      single _ (effect.Num how fluent.0 value.0) (both_values (effect.Num how) f.atom.value g.expr.value fluent.0 value.0 fluent.1 value.1),
      SpellsEffects.change t at w how u v fluent.0 value.0 begun some fluent.2 value.2,
    )
change_fits text t at w how (u ∷ v ∷ x ∷ us) begun some leaves e =
    absurd (past_two at (((form_of text u).atom.faults ++ []) ++ ((form_of text v).expr.faults ++ [])) (form_of text u) (form_of text v) (form_of text x) (forms_of text us) e)

addition_fits : (text : List ℕ) (t : Tree) (at : ℕ) (ts : List Tree) → IsListAt t at ts → (addition at (atom_of true at (forms_of text ts))).faults ≡ []
    → Fits text t (addition at (atom_of true at (forms_of text ts)))
addition_fits text t at ts listed e =
    let found = atom_fits text true t at ts listed e in
    (effect.Add found.0 ∷ [], single _ (effect.Add found.0) (ap (option_map effect.Add) found.1), SpellsEffects.addition t found.0 found.2)

-- ---- trees

-- a change, or else an addition
abbrev chosen_effects : ℕ → Option Assign → List Form → Parsed Atom → Effects
chosen_effects at o fs a = option_map_or (λ how. change at how fs) o (addition at a)

headed_fits : (text : List ℕ) (t u : Tree) (at : ℕ) (us : List Tree) (w : List ℕ) → IsListAt t at (u ∷ us) → (form_of text u).word ≡ Some w → All (EffectsFit text) us
    → all_leaves text us ≡ [] → (headed_effects at w (forms_of text us) (atom_of true at (forms_of text (u ∷ us)))).faults ≡ []
    → Fits text t (headed_effects at w (forms_of text us) (atom_of true at (forms_of text (u ∷ us))))
headed_fits text t u at us w listed is each leaves e =
    elim (cases_Bool (bytes_eq w (codes "and"))) [
      | inl conjunction ↦
          let found = all_fit_from text us each (rw conjunction at e) leaves in
          rw conjunction (found.0, found.1, SpellsEffects.conjunction t at us found.0 (begins (codes "and") conjunction) found.2)
      | inr no_and ↦ elim (cases_Bool (bytes_eq w (codes "not"))) [
        | inl negation ↦ rw (no_and, negation) (deletion_fits text t at us (begins (codes "not") negation) (rw (no_and, negation) at e))
        | inr no_not ↦ rw (no_and, no_not) (by_change (change_of w) refl (rw (no_and, no_not) at e))
      ]
    ]
  where
    begins : (v : List ℕ) → bytes_eq w v ≡ true → Begins text t at v us
    begins v same = subst (λ (x : List ℕ). Begins text t at x us) (same_word w v same) (begun_at text t u at us w listed is)

    by_change : (o : Option Assign) → change_of w ≡ o → (chosen_effects at o (forms_of text us) (atom_of true at (forms_of text (u ∷ us)))).faults ≡ []
        → Fits text t (chosen_effects at o (forms_of text us) (atom_of true at (forms_of text (u ∷ us))))
    by_change None none k = addition_fits text t at (u ∷ us) listed k
    by_change (Some how) some k = change_fits text t at w how us (begun_at text t u at us w listed is) some leaves k

list_fits : (text : List ℕ) (t : Tree) (at : ℕ) (ts : List Tree) → IsListAt t at ts → All (EffectsFit text) ts → all_leaves text ts ≡ []
    → (effects_of at (forms_of text ts) (atom_of true at (forms_of text ts))).faults ≡ [] → Fits text t (effects_of at (forms_of text ts) (atom_of true at (forms_of text ts)))
list_fits text t at [] listed each leaves e = ([], refl, SpellsEffects.nothing t at listed)
list_fits text t at (u ∷ us) listed each leaves e = by_word (form_of text u).word refl e
  where
    by_word : (o : Option (List ℕ)) → (form_of text u).word ≡ o
        → (option_map_or (λ w. headed_effects at w (forms_of text us) (atom_of true at (forms_of text (u ∷ us)))) o (addition at (atom_of true at (forms_of text (u ∷ us))))).faults ≡ []
        → Fits text t (option_map_or (λ w. headed_effects at w (forms_of text us) (atom_of true at (forms_of text (u ∷ us)))) o (addition at (atom_of true at (forms_of text (u ∷ us)))))
    by_word None is k = addition_fits text t at (u ∷ us) listed k
    by_word (Some w) is k = headed_fits text t u at us w listed is (All-tail (EffectsFit text) u us each) (nils (leaves_of text u) (all_leaves text us) leaves).1 k

-- a tree that says effects without a fault, and whose leaves have none, spells them
pub effects_fit : (text : List ℕ) (t : Tree) → EffectsFit text t
effects_fit text = induct_tree (EffectsFit text) leaf_case list_case
  where
    leaf_case : (span : Span) → EffectsFit text (trees.Leaf span)
    leaf_case span =
        subst (λ (f : Form). f.effects.faults ≡ [] → leaves_of text (trees.Leaf span) ≡ [] → Fits text (trees.Leaf span) f.effects)
        (sym (form_of-Leaf text span)) (λ faultless leaves. absurd (cc faultless))

    list_case : (span : Span) (ts : List Tree) → All (EffectsFit text) ts → EffectsFit text (trees.List span ts)
    list_case span ts each =
        subst (λ (f : Form). f.effects.faults ≡ [] → leaves_of text (trees.List span ts) ≡ [] → Fits text (trees.List span ts) f.effects)
        (sym (form_of-List text span ts))
        (λ faultless leaves. list_fits text (trees.List span ts) span.from ts (list_itself span ts) each (sym (leaves_of-List text span ts) ∙ leaves) faultless)

-- ---- what is spelled is said

begun_said : (text : List ℕ) (t : Tree) (at : ℕ) (w : List ℕ) (ts : List Tree) (es : List Effect) (x : Begins text t at w ts)
    → SaysEffects (headed_effects at w (forms_of text ts) (atom_of true at (leaf_form x.first_at w ∷ forms_of text ts))) es → SaysEffects (form_of text t).effects es
begun_said text t at w ts es x said = subst (λ (f : Form). SaysEffects f.effects es) (sym (form_of_begun text t at w ts x)) said

nothing_said : (text : List ℕ) (t : Tree) (at : ℕ) → IsListAt t at [] → SaysEffects (form_of text t).effects []
nothing_said text t at listed = subst (λ (f : Form). SaysEffects f.effects []) (sym (form_of_list text t at [] listed)) (refl, refl)

addition_said : (text : List ℕ) (t : Tree) (a : Atom) → SpellsAtom text true t a → SaysEffects (form_of text t).effects (effect.Add a ∷ [])
addition_said text t a x =
    let form = form_of_list text t x.at (x.symbol ∷ x.arguments) x.list in
    let w = a.head.text in
    let s = x.head.a_symbol in
    let word : (form_of text x.symbol).word ≡ Some w = ap (λ (f : Form). f.word) (form_of_word text x.symbol a.head.at w x.head.word) in
    let fs = forms_of text x.arguments in
    let atom = atom_of true x.at (forms_of text (x.symbol ∷ x.arguments)) in
    let no_and = other_word is_symbol (codes "and") w refl s in
    let no_not = other_word is_symbol (codes "not") w refl s in
    let headed : headed_effects x.at w fs atom ≡ addition x.at atom =
    rw (no_and, no_not) (ap (λ (o : Option Assign). chosen_effects x.at o fs atom) (no_change w s)) in
    let is : effects_of x.at (forms_of text (x.symbol ∷ x.arguments)) atom ≡ addition x.at atom =
    ap (λ (o : Option (List ℕ)). option_map_or (λ v. headed_effects x.at v fs atom) o (addition x.at atom)) word ∙ headed in
    let said = atom_said text true t a x in
    let added : SaysEffects (addition x.at atom) (effect.Add a ∷ []) = (single _ (effect.Add a) (ap (option_map effect.Add) said.0), said.1) in
    subst (λ (f : Form). SaysEffects f.effects (effect.Add a ∷ [])) (sym form) (subst (λ (e : Effects). SaysEffects e (effect.Add a ∷ [])) (sym is) added)

-- a word of a change is neither of these
no_joining : (v w : List ℕ) (how : Assign) → change_of w ≡ Some how → change_of v ≡ None → bytes_eq w v ≡ false
no_joining v w how some none =
    elim (cases_Bool (bytes_eq w v)) [
      | inl same ↦ absurd (cc (sym some ∙ ap change_of (same_word w v same) ∙ none))
      | inr other ↦ other
    ]

change_said : (text : List ℕ) (t : Tree) (at : ℕ) (w : List ℕ) (how : Assign) (u v : Tree) (a : Atom) (e : Expr) (x : Begins text t at w (u ∷ v ∷ []))
    → change_of w ≡ Some how → SpellsAtom text true u a → SpellsExpr text v e → SaysEffects (form_of text t).effects (effect.Num how a e ∷ [])
change_said text t at w how u v a e x some y z =
    let fs = forms_of text (u ∷ v ∷ []) in
    let atom = atom_of true at (leaf_form x.first_at w ∷ fs) in
    let no_and = no_joining (codes "and") w how some refl in
    let no_not = no_joining (codes "not") w how some refl in
    let is : headed_effects at w fs atom ≡ change at how fs = rw (no_and, no_not) (ap (λ (o : Option Assign). chosen_effects at o fs atom) some) in
    let fluent = tree_atom_said text u a y in
    let value = expr_said text v e z in
    let said : SaysEffects (change at how fs) (effect.Num how a e ∷ []) =
    (single _ (effect.Num how a e) (both_values (effect.Num how) _ _ a e fluent.0 value.0), rw (fluent.1, value.1) refl) in
    begun_said text t at w (u ∷ v ∷ []) (effect.Num how a e ∷ []) x (subst (λ (es : Effects). SaysEffects es (effect.Num how a e ∷ [])) (sym is) said)

mutual
  -- spelled effects are said without a fault
  pub effects_said : (text : List ℕ) (t : Tree) (es : List Effect) → SpellsEffects text t es → SaysEffects (form_of text t).effects es
  effects_said text t es (SpellsEffects.nothing u at x) = nothing_said text u at x
  effects_said text t es (SpellsEffects.conjunction u at ts fs x each) = begun_said text u at (codes "and") ts fs x (all_said text ts fs each)
  effects_said text t es (SpellsEffects.addition u a x) = addition_said text u a x
  effects_said text t es (SpellsEffects.deletion u at v a x y) =
      let said = tree_atom_said text v a y in
      begun_said text u at (codes "not") (v ∷ []) (effect.Del a ∷ []) x (single _ (effect.Del a) (ap (option_map effect.Del) said.0), rw said.1 refl)
  effects_said text t es (SpellsEffects.change u at w how v x a e begun some y z) = change_said text u at w how v x a e begun some y z

  pub all_said : (text : List ℕ) (ts : List Tree) (es : List Effect) → SpellsEffectsOfAll text ts es → SaysEffects (all_effects (forms_of text ts)) es
  all_said text ts es SpellsEffectsOfAll.none = (refl, refl)
  all_said text ts es (SpellsEffectsOfAll.next t us fs gs here rest) =
      let a = effects_said text t fs here in
      let b = all_said text us gs rest in (
        found_joined (form_of text t).effects.found (all_effects (forms_of text us)).found fs gs a.0 b.0,
        no_more (form_of text t).effects.faults (all_effects (forms_of text us)).faults a.1 b.1,
      )
