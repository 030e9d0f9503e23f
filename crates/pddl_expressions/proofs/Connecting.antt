-- Conditions by their connectives and parts.
use Rattle.std.proofs.Common.{◌≡◌, ℕ, suc, ◌+◌, ◌≤◌, Bool, true, false, max, List, [], ◌∷◌, ◌++◌, Option, Some, None, map, get_or, take, drop, length, refl, sym, ap, ap₂, ◌∙◌, arith, append_assoc}
use Rattle.std.specs.Prelude.{bytes_eq, codes, flat_map, fold, nat_lt, option_map, ◌==◌, if◌then◌else◌}
use Rattle.std.specs.Option.{option_map_or}
use Rattle.std.proofs.lemmas.Bool.Decides.{nat_tests}
use Rattle.std.proofs.lemmas.List.{map-append}
use Rattle.sexp_text.specs.declared.trees.Tree.{Tree}
use Rattle.pddl_terms.specs.declared.names.Atom.{Atom}
use Rattle.pddl_terms.specs.declared.conditions.Rel.{Rel}
use Rattle.pddl_terms.specs.declared.conditions.Cond.{Cond, Cond-F, fold-roll-Cond}
use Rattle.pddl_terms.specs.declared.conditions.Cond.TheVariants as condition
use Rattle.pddl_terms.specs.Heights.{condition_height, condition_layer}
use Rattle.pddl_trees.specs.declared.faults.Fault.{Fault}
use Rattle.pddl_expressions.specs.declared.found.Found.{Found}
use Rattle.pddl_expressions.specs.declared.found.Found.TheVariants.{Misfit, TooHigh, Fine}
use Rattle.pddl_expressions.specs.declared.conditions.Connective.{Connective}
use Rattle.pddl_expressions.specs.declared.conditions.Connective.TheVariants as connective
use Rattle.pddl_trees.specs.Faults.{all_noted}
use Rattle.pddl_trees.specs.Words.{relation_of}
use Rattle.pddl_trees.specs.Forms.{Form, Parsed, all_of, first_of}
use Rattle.pddl_trees.specs.Conditions.{all_conds, comparison, cond_of, cond_of_conds, fact_of, headed_cond, implied, measured_cond, negated}
use Rattle.pddl_trees.specs.Atoms.{atom_of}
use Rattle.pddl_trees.specs.Trees.{form_of, forms_of}
use Rattle.pddl_trees.specs.Expressions.{too_high}
use Rattle.pddl_expressions.specs.internal.Gathered.{appended}
use Rattle.pddl_expressions.specs.Cut.{cut, cut_cond}
use Rattle.pddl_expressions.specs.internal.CutSteps.{cut_conds, height_faults, highest, implied_found, negated_found, raised, where_count, with_condition}
use Rattle.pddl_expressions.specs.internal.Connectives.{connective_of, connective_said}
use Rattle.pddl_trees.proofs.Noted.{noted_append}
use Rattle.pddl_expressions.proofs.Tails.{tail_of, tail_is}
use Rattle.pddl_expressions.proofs.Arguments.{gathered_all}
use Rattle.pddl_expressions.proofs.Grouping.{joined_cuts, low_cut, raised_cut, high_cut, height_cut}

-- ---- heights

pub height_of_Fact : (a : Atom) → condition_height (condition.Fact a) ≡ 1
height_of_Fact a = ap condition_height (sym (condition.rolls-Fact a)) ∙ fold-roll-Cond ℕ condition_layer (Cond-F.Fact a)

pub height_of_And : (cs : List Cond) → condition_height (condition.And cs) ≡ highest cs + 1
height_of_And cs = ap condition_height (sym (condition.rolls-And cs)) ∙ fold-roll-Cond ℕ condition_layer (Cond-F.And cs)

pub height_of_Or : (cs : List Cond) → condition_height (condition.Or cs) ≡ highest cs + 1
height_of_Or cs = ap condition_height (sym (condition.rolls-Or cs)) ∙ fold-roll-Cond ℕ condition_layer (Cond-F.Or cs)

pub height_of_Not : (c : Cond) → condition_height (condition.Not c) ≡ condition_height c + 1
height_of_Not c = ap condition_height (sym (condition.rolls-Not c)) ∙ fold-roll-Cond ℕ condition_layer (Cond-F.Not c)

pub height_of_Imply : (c d : Cond) → condition_height (condition.Imply c d) ≡ max (condition_height c) (condition_height d) + 1
height_of_Imply c d = ap condition_height (sym (condition.rolls-Imply c d)) ∙ fold-roll-Cond ℕ condition_layer (Cond-F.Imply c d)

pub cut_Fact : (a : Atom) → cut_cond (Some (condition.Fact a)) ≡ Fine (condition.Fact a) 1
cut_Fact a = low_cut condition_height (condition.Fact a) 1 (height_of_Fact a) (omega arith)

-- what is one higher than a part is raised as the part is cut
pub raised_part : {A B : Type 0} (make : A → B) (h : A → ℕ) (k : B → ℕ) → ((x : A) → k (make x) ≡ h x + 1) → (v : Option A) → raised make (cut h v) ≡ cut k (option_map make v)
raised_part make h k up None = refl
raised_part make h k up (Some x) = cases (nat_lt 400 (h x)) refl (up x)
  where
    cases : (test : Bool) → nat_lt 400 (h x) ≡ test → k (make x) ≡ h x + 1 → raised make (if nat_lt 400 (h x) then TooHigh else Fine x (h x)) ≡ cut k (Some (make x))
    cases true e size =
        ap (λ (b : Bool). raised make (if b then TooHigh else Fine x (h x))) e ∙ high_cut (make x) k (grind (arith, nat_tests))
    cases false e size =
        ap (λ (b : Bool). raised make (if b then TooHigh else Fine x (h x))) e ∙ raised_cut make x (h x) k size

-- ---- several conditions

fold_more : {S X : Type 0} (f : S → X → S) (s : S) (xs ys : List X) → fold f s (xs ++ ys) ≡ fold f (fold f s xs) ys
fold_more f s [] ys = refl
fold_more f s (x ∷ xs) ys = fold_more f (f s x) xs ys

highest_more : (cs : List Cond) (c : Cond) → highest (cs ++ c ∷ []) ≡ max (highest cs) (condition_height c)
highest_more cs c =
    ap (fold max 0) (map-append condition_height cs (c ∷ [])) ∙ fold_more max 0 (map condition_height cs) (condition_height c ∷ [])

one_more : (v : Option (List Cond)) (w : Option Cond) → with_condition (cut_conds v) (cut_cond w) ≡ cut_conds (appended v w)
one_more None w = refl
one_more (Some cs) None = cases (nat_lt 400 (highest cs))
  where
    cases : (a : Bool) → with_condition (if a then TooHigh else Fine cs (highest cs)) Misfit ≡ Misfit
    cases true = refl
    cases false = refl
one_more (Some cs) (Some c) = cases (nat_lt 400 (highest cs)) (nat_lt 400 (condition_height c)) refl refl (highest_more cs c)
  where
    by_tests : (a b : Bool) → nat_lt 400 (highest cs) ≡ a → nat_lt 400 (condition_height c) ≡ b
        → with_condition (cut_conds (Some cs)) (cut_cond (Some c)) ≡ with_condition (if a then TooHigh else Fine cs (highest cs)) (if b then TooHigh else Fine c (condition_height c))
    by_tests a b e f = ap₂ (λ (x y : Bool). with_condition (if x then TooHigh else Fine cs (highest cs)) (if y then TooHigh else Fine c (condition_height c))) e f

    cases : (a b : Bool) → nat_lt 400 (highest cs) ≡ a → nat_lt 400 (condition_height c) ≡ b → highest (cs ++ c ∷ []) ≡ max (highest cs) (condition_height c)
        → with_condition (cut_conds (Some cs)) (cut_cond (Some c)) ≡ cut_conds (Some (cs ++ c ∷ []))
    cases true true e f size = by_tests true true e f ∙ high_cut (cs ++ c ∷ []) highest (grind (arith, nat_tests))
    cases true false e f size = by_tests true false e f ∙ high_cut (cs ++ c ∷ []) highest (grind (arith, nat_tests))
    cases false true e f size = by_tests false true e f ∙ high_cut (cs ++ c ∷ []) highest (grind (arith, nat_tests))
    cases false false e f size =
        by_tests false false e f ∙ sym (low_cut highest (cs ++ c ∷ []) (max (highest cs) (condition_height c)) size (grind (arith, nat_tests)))

pub conditions_cut : (v : Option (List Cond)) (ws : List (Option Cond)) → fold with_condition (cut_conds v) (map cut_cond ws) ≡ cut_conds (fold appended v ws)
conditions_cut v [] = refl
conditions_cut v (w ∷ ws) =
    ap (λ (s : Found (List Cond)). fold with_condition s (map cut_cond ws)) (one_more v w) ∙ conditions_cut (appended v w) ws

cut_each : (ts : List Form) → map (λ (t : Form). cut_cond t.cond.value) ts ≡ map cut_cond (map (λ (t : Form). t.cond.value) ts)
cut_each [] = refl
cut_each (t ∷ ts) = ap (λ (xs : List (Found Cond)). cut_cond t.cond.value ∷ xs) (cut_each ts)

-- the conditions of some forms, where each has one
abbrev pub all_conditions : List Form → Option (List Cond)
all_conditions ts = all_of (map (λ (t : Form). t.cond.value) ts)

-- all the conditions of a list, from those that were gathered one after another
pub conditions_gathered : (ts : List Form) → fold with_condition (Fine [] 0) (map (λ (t : Form). cut_cond t.cond.value) ts) ≡ cut_conds (all_of (map (λ (t : Form). t.cond.value) ts))
conditions_gathered ts =
    ap (fold with_condition (Fine [] 0)) (cut_each ts)
    ∙ conditions_cut (Some []) (map (λ (t : Form). t.cond.value) ts)
    ∙ ap cut_conds (gathered_all (map (λ (t : Form). t.cond.value) ts))

pub all_And : (v : Option (List Cond)) → raised condition.And (cut_conds v) ≡ cut_cond (option_map condition.And v)
all_And v = raised_part condition.And highest condition_height height_of_And v

pub all_Or : (v : Option (List Cond)) → raised condition.Or (cut_conds v) ≡ cut_cond (option_map condition.Or v)
all_Or v = raised_part condition.Or highest condition_height height_of_Or v

-- ---- one or two conditions

many_parts : (n m : ℕ) → n ≤ 2 → (suc (suc (suc m)) == n) ≡ false
many_parts n m h = grind (arith, nat_tests)

two_are_not_one : (n : ℕ) → (suc (suc n) == 1) ≡ false
two_are_not_one n = grind (arith, nat_tests)

pub negated_by_count : (ts : List Form) → cut_cond (negated ts) ≡ where_count 1 ts (negated_found (cut_cond (first_of (λ t. t.cond.value) (drop 0 ts))))
negated_by_count [] = refl
negated_by_count (t ∷ []) = sym (raised_part condition.Not condition_height condition_height height_of_Not t.cond.value)
negated_by_count (t ∷ u ∷ us) = ap (λ (b : Bool). if b then negated_found (cut_cond t.cond.value) else Misfit) (sym (two_are_not_one (length us)))

pub implied_by_count : (ts : List Form) → cut_cond (implied ts)
    ≡ where_count 2 ts (implied_found (cut_cond (first_of (λ t. t.cond.value) (drop 0 ts))) (cut_cond (first_of (λ t. t.cond.value) (drop 1 ts))))
implied_by_count [] = refl
implied_by_count (t ∷ []) = refl
implied_by_count (t ∷ u ∷ []) = sym (joined_cuts condition.Imply condition_height condition_height height_of_Imply t.cond.value u.cond.value)
implied_by_count (t ∷ u ∷ v ∷ vs) =
    ap (λ (b : Bool). if b then implied_found (cut_cond t.cond.value) (cut_cond u.cond.value) else Misfit) (sym (many_parts 2 (length vs) (omega arith)))

-- ---- connectives

-- a list's condition goes by the connective that its first word is
pub said_by_connective : (at : ℕ) (word : Option (List ℕ)) (ts : List Form) (a : Parsed Atom) → option_map_or (λ w. headed_cond at w ts a) word (fact_of a) ≡ connective_said at (connective_of word) ts a
said_by_connective at None ts a = refl
said_by_connective at (Some w) ts a =
    by_tests (bytes_eq w (codes "and")) (bytes_eq w (codes "or")) (bytes_eq w (codes "not")) (bytes_eq w (codes "imply")) (relation_of w)
  where
    by_tests : (b1 b2 b3 b4 : Bool) (r : Option Rel)
        → (if b1 then all_conds condition.And ts else (if b2 then all_conds condition.Or ts else (if b3 then cond_of_conds at 1 (negated ts) ts else (if b4 then cond_of_conds at 2 (implied ts) ts else option_map_or (λ q. comparison at q ts) r (fact_of a)))))
        ≡ connective_said at (if b1 then connective.And else (if b2 then connective.Or else (if b3 then connective.Not else (if b4 then connective.Imply else option_map_or connective.Compared r connective.Fact)))) ts a
    by_tests true b2 b3 b4 r = refl
    by_tests false true b3 b4 r = refl
    by_tests false false true b4 r = refl
    by_tests false false false true r = refl
    by_tests false false false false None = refl
    by_tests false false false false (Some r) = refl

-- ---- faults

-- the faults of a condition and of its height, noted one after the other
pub measured_noted : (at : ℕ) (c : Parsed Cond) (first : Option Fault) → all_noted (all_noted first c.faults) (height_faults at (cut_cond c.value)) ≡ all_noted first (measured_cond at c).faults
measured_noted at c first =
    ap (all_noted (all_noted first c.faults)) (height_cut at condition_height c.value)
    ∙ sym (noted_append first c.faults (option_map_or (λ x. too_high at (condition_height x)) c.value []))

-- the faults of a part and of the number of parts, noted one after the other
pub one_noted : (f : Form → List Fault) (ts : List Form) (first : Option Fault) (behind more : List Fault)
    → all_noted (all_noted first (flat_map f (take 1 (drop 0 ts)))) (behind ++ more) ≡ all_noted first (flat_map f (take 1 ts) ++ behind ++ more)
one_noted f ts first behind more =
    sym (noted_append first (flat_map f (take 1 ts)) (behind ++ more)) ∙ ap (all_noted first) (sym (append_assoc (flat_map f (take 1 ts)) behind more))

-- ---- lists

-- a list of trees as a condition, but for its height
abbrev pub list_cond : List ℕ → ℕ → List Tree → Parsed Cond
list_cond text at ts = cond_of at (forms_of text ts) (atom_of true at (forms_of text ts))

-- a list by the connective that its first tree is
pub listed_connective : (text : List ℕ) (at : ℕ) (ts : List Tree) (head : Tree) (k : Connective) → 1 ≤ length ts → head ≡ get_or ts 0 head
    → k ≡ connective_of (form_of text head).word
    → list_cond text at ts ≡ connective_said at k (forms_of text (tail_of ts)) (atom_of true at (forms_of text ts))
listed_connective text at [] head k some first e = absurd (omega arith)
listed_connective text at (t ∷ ts) head k some first e =
    let word : connective_of (form_of text t).word ≡ k = ap (λ (u : Tree). connective_of (form_of text u).word) (sym first) ∙ sym e in
    let a = atom_of true at (forms_of text (t ∷ ts)) in
    said_by_connective at (form_of text t).word (forms_of text ts) a
    ∙ ap₂ (λ (l : Connective) (us : List Tree). connective_said at l (forms_of text us) a) word (sym (tail_is t ts))
