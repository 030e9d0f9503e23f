-- The parts of an action are read tree by tree.
use Rattle.std.proofs.Common.{◌≡◌, ℕ, List, [], ◌∷◌, ◌++◌, Option, Some, None, refl, sym, ap, ◌∙◌, append_assoc}
use Rattle.std.specs.Option.{option_map_or}
use Rattle.sexp_text.specs.declared.trees.Tree.{Tree}
use Rattle.pddl_trees.specs.declared.faults.Fault.{Fault}
use Rattle.pddl_trees.specs.Faults.{all_noted}
use Rattle.pddl_trees.specs.Trees.{form_of, place_of}
use Rattle.pddl_trees.specs.Forms.{shape_at}
use Rattle.pddl_trees.specs.Actions.{Clause, Clauses, Params, Pre, Eff, clause_of, clauses_from, with_clause, with_faults}
use Rattle.pddl_actions.specs.internal.ClauseSteps.{AreSameClauses}
use Rattle.pddl_trees.proofs.Noted.{noted_append}

-- the same parts, with further faults in front
abbrev pub behind_faults : List Fault → Clauses → Clauses
behind_faults fs c = record { parameters = c.parameters; precondition = c.precondition; effect = c.effect; faults = fs ++ c.faults }

with_clause_behind : (fs : List Fault) (k : Clause) (t : Tree) (c : Clauses) → with_clause k t (behind_faults fs c) ≡ behind_faults fs (with_clause k t c)
with_clause_behind fs Params t c = refl
with_clause_behind fs Pre t c = refl
with_clause_behind fs Eff t c = refl

with_faults_behind : (fs more : List Fault) (c : Clauses) → with_faults more (behind_faults fs c) ≡ behind_faults fs (with_faults more c)
with_faults_behind fs more c =
    ap (λ (all : List Fault). record { parameters = c.parameters; precondition = c.precondition; effect = c.effect; faults = all }) (append_assoc fs c.faults more)

word_behind : (text : List ℕ) (at : ℕ) (fs : List Fault) (c : Clauses) (t : Tree) (ts : List Tree) (found : Option Clause)
    → ((keyword : Option Clause) (d : Clauses) → clauses_from text at keyword (behind_faults fs d) ts ≡ behind_faults fs (clauses_from text at keyword d ts))
    → option_map_or (λ k. clauses_from text at (Some k) (behind_faults fs c) ts) found (clauses_from text at None (with_faults (shape_at (place_of text t) ∷ []) (behind_faults fs c)) ts)
    ≡ behind_faults fs (option_map_or (λ k. clauses_from text at (Some k) c ts) found (clauses_from text at None (with_faults (shape_at (place_of text t) ∷ []) c) ts))
word_behind text at fs c t ts (Some k) rest = rest (Some k) c
word_behind text at fs c t ts None rest =
    ap (λ (d : Clauses). clauses_from text at None d ts) (with_faults_behind fs (shape_at (place_of text t) ∷ []) c)
    ∙ rest None (with_faults (shape_at (place_of text t) ∷ []) c)

-- faults that were there stay in front
clauses_behind : (text : List ℕ) (at : ℕ) (keyword : Option Clause) (fs : List Fault) (c : Clauses) (ts : List Tree)
    → clauses_from text at keyword (behind_faults fs c) ts ≡ behind_faults fs (clauses_from text at keyword c ts)
unfolding clauses_from
clauses_behind text at None fs c [] = refl
clauses_behind text at (Some k) fs c [] = with_faults_behind fs (shape_at at ∷ []) c
clauses_behind text at (Some k) fs c (t ∷ ts) =
    ap (λ (d : Clauses). clauses_from text at None d ts) (with_clause_behind fs k t c) ∙ clauses_behind text at None fs (with_clause k t c) ts
clauses_behind text at None fs c (t ∷ ts) =
    word_behind text at fs c t ts (clause_of c (form_of text t)) (λ keyword d. clauses_behind text at keyword fs d ts)

pub same_clauses : (fs : List Fault) (c d : Clauses) (first now : Option Fault) → c ≡ behind_faults fs d → now ≡ all_noted first fs → AreSameClauses first c now d
same_clauses fs c d first now is noted-is = record {
  parameters = ap (λ (x : Clauses). x.parameters) (sym is);
  precondition = ap (λ (x : Clauses). x.precondition) (sym is);
  effect = ap (λ (x : Clauses). x.effect) (sym is);
  faults = ap (λ (n : Option Fault). all_noted n d.faults) noted-is ∙ sym (noted_append first fs d.faults) ∙ ap (λ (x : Clauses). all_noted first x.faults) (sym is);
}

-- behind a keyword
pub body_taken : (text : List ℕ) (k : Clause) (c d : Clauses) (t : Tree) (first : Option Fault) → d ≡ with_clause k t c → (at : ℕ) (ts : List Tree)
    → AreSameClauses first (clauses_from text at (Some k) c (t ∷ ts)) first (clauses_from text at None d ts)
unfolding clauses_from
body_taken text k c d t first is at ts =
    same_clauses [] (clauses_from text at (Some k) c (t ∷ ts)) (clauses_from text at None d ts) first first (ap (λ (x : Clauses). clauses_from text at None x ts) (sym is)) refl

-- a keyword
pub keyword_taken : (text : List ℕ) (k : Clause) (c : Clauses) (t : Tree) (first : Option Fault) → Some k ≡ clause_of c (form_of text t) → (at : ℕ) (ts : List Tree)
    → AreSameClauses first (clauses_from text at None c (t ∷ ts)) first (clauses_from text at (Some k) c ts)
unfolding clauses_from
keyword_taken text k c t first is at ts =
    same_clauses [] (clauses_from text at None c (t ∷ ts)) (clauses_from text at (Some k) c ts) first first
    (ap (λ (found : Option Clause). option_map_or (λ k. clauses_from text at (Some k) c ts) found (clauses_from text at None (with_faults (shape_at (place_of text t) ∷ []) c) ts)) (sym is)) refl

-- another tree where a keyword must stand
pub misfit_taken : (text : List ℕ) (c : Clauses) (t : Tree) (first now : Option Fault) → None ≡ clause_of c (form_of text t) → c.faults ≡ [] → now ≡ all_noted first (shape_at (place_of text t) ∷ [])
    → (at : ℕ) (ts : List Tree) → AreSameClauses first (clauses_from text at None c (t ∷ ts)) now (clauses_from text at None c ts)
unfolding clauses_from
misfit_taken text c t first now is none noted-is at ts =
    let fs : List Fault = shape_at (place_of text t) ∷ [] in
    let same : with_faults fs c ≡ behind_faults fs c =
    ap (λ (before : List Fault). record { parameters = c.parameters; precondition = c.precondition; effect = c.effect; faults = before ++ fs }) none
    ∙ ap (λ (before : List Fault). record { parameters = c.parameters; precondition = c.precondition; effect = c.effect; faults = fs ++ before }) (sym none) in
    same_clauses fs (clauses_from text at None c (t ∷ ts)) (clauses_from text at None c ts) first now
    (ap (λ (found : Option Clause). option_map_or (λ k. clauses_from text at (Some k) c ts) found (clauses_from text at None (with_faults fs c) ts)) (sym is)
    ∙ ap (λ (x : Clauses). clauses_from text at None x ts) same
    ∙ clauses_behind text at None fs c ts)
    noted-is
