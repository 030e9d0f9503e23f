-- The parts of a problem, put together; and a problem without a fault is there.
use Rattle.std.proofs.Common.{◌≡◌, ℕ, List, [], ◌∷◌, Option, Some, None, codes, ap, ◌∙◌, refl, sym}
use Rattle.std.specs.Prelude.{filter_map, flat_map, is_some, if◌then◌else◌}
use Rattle.std.specs.Option.{option_map_or}
use Rattle.num_ends.specs.Decimal.{Decimal}
use Rattle.sexp_text.specs.declared.trees.Tree.{Tree}
use Rattle.pddl_terms.specs.declared.names.Name.{Name}
use Rattle.pddl_terms.specs.declared.names.Atom.{Atom}
use Rattle.pddl_terms.specs.declared.names.Typed.{Typed}
use Rattle.pddl_terms.specs.declared.conditions.Cond.{Cond}
use Rattle.pddl_terms.specs.declared.files.Problem.{Problem}
use Rattle.pddl_trees.specs.Forms.{Parsed, both, misfit, shape_at}
use Rattle.pddl_trees.specs.Trees.{form_of, forms_of, parts_of, place_of}
use Rattle.pddl_trees.specs.Initial.{Entry, entries_in}
use Rattle.pddl_trees.specs.Sections.{content_of, problem_sections, section_named, objects_in, requirements_faults, sections_of, word_and_repeat_faults}
use Rattle.pddl_trees.specs.Goals.{goal_of, goal_in, metric_in}
use Rattle.pddl_trees.specs.Problems.{domain_name_faults, needed_section, problem_in, problem_of_sections, problem_parts, problem_tree}
use Rattle.pddl_trees.specs.Frames.{frame_of}
use Rattle.pddl_expressions.proofs.Soundness.{tree_sound}
use Rattle.pddl_reader.proofs.There.{IsThere, back_empty, frame_there, front_empty}

abbrev made : Option Name → List Typed → List Atom → List (Atom × Decimal) → Option Cond → Option Problem
made name objects facts values goal = both (λ n g. record { name = n; objects = objects; facts = facts; values = values; goal = g }) name goal

pub same_parts : (text : List ℕ) (at : ℕ) (front : Parsed Name) (name : Option Name) (ss : List Tree) (objects : List Typed) (facts : List Atom)
    (values : List (Atom × Decimal)) (goal : Option Cond) (found : Option Problem) → found ≡ made name objects facts values goal
    → objects ≡ (objects_in text (codes ":objects") ss).items → facts ≡ filter_map (λ (e : Entry). e.fact) (entries_in text ss)
    → values ≡ filter_map (λ (e : Entry). e.value) (entries_in text ss) → goal ≡ (goal_in text ss).value → name ≡ front.value
    → found ≡ (problem_of_sections text at front ss).value
same_parts text at front name ss objects facts values goal found is o f v g n =
    is ∙ ap (λ (x : List Typed). made name x facts values goal) o
    ∙ ap (λ (x : List Atom). made name (objects_in text (codes ":objects") ss).items x values goal) f
    ∙ ap (λ (x : List (Atom × Decimal)). made name (objects_in text (codes ":objects") ss).items (filter_map (λ (e : Entry). e.fact) (entries_in text ss)) x goal) v
    ∙ ap (λ (x : Option Cond). made name (objects_in text (codes ":objects") ss).items (filter_map (λ (e : Entry). e.fact) (entries_in text ss))
    (filter_map (λ (e : Entry). e.value) (entries_in text ss)) x) g
    ∙ ap (λ (x : Option Name). made x (objects_in text (codes ":objects") ss).items (filter_map (λ (e : Entry). e.fact) (entries_in text ss))
    (filter_map (λ (e : Entry). e.value) (entries_in text ss)) (goal_in text ss).value) n

-- ---- a problem without a fault is there

-- both are there where each is
both_there : {A B C : Type 0} (f : A → B → C) (x : Option A) (y : Option B) → (x ≡ None → ⊥) → (y ≡ None → ⊥) → both f x y ≡ None → ⊥
both_there f None y there other e = there refl
both_there f (Some x) None there other e = other refl
both_there f (Some x) (Some y) there other e = cc e

condition_there : (text : List ℕ) (t : Tree) → (form_of text t).cond.faults ≡ [] → (form_of text t).cond.value ≡ None → ⊥
condition_there text t none missing =
    let there = (tree_sound text t).cond none in
    let clash : Some there.0 ≡ None = sym there.1 ∙ missing in
    cc clash

goal_there : (text : List ℕ) (at : ℕ) (ts : List Tree) → IsThere Cond (goal_of at (forms_of text ts))
goal_there text at [] e n = cc e
goal_there text at (t ∷ ts) e n = condition_there text t (front_empty (form_of text t).cond.faults _ e) n

-- a section that is needed is there, and says a goal
section_there : (text : List ℕ) (at : ℕ) (section : Option Tree) → (if is_some section then [] else shape_at at ∷ []) ≡ []
    → IsThere Cond (option_map_or (λ s. goal_of (place_of text s) (forms_of text (content_of s))) section (record { value = None; faults = [] }))
section_there text at None needed e n = cc needed
section_there text at (Some s) needed e n = goal_there text (place_of text s) (content_of s) e n

sections_there : (text : List ℕ) (at : ℕ) (name : Parsed Name) (ss : List Tree) → IsThere Name name → IsThere Problem (problem_of_sections text at name ss)
sections_there text at name ss there e n =
    let a9 : _ ≡ [] = front_empty _ (metric_in text ss) e in
    let goal : (goal_in text ss).faults ≡ [] = back_empty _ (goal_in text ss).faults a9 in
    let a8 = front_empty _ (goal_in text ss).faults a9 in
    let a7 = front_empty _ (flat_map (λ (x : Entry). x.faults) (entries_in text ss)) a8 in
    let a6 = front_empty _ (objects_in text (codes ":objects") ss).faults a7 in
    let a5 = front_empty _ (domain_name_faults text ss) a6 in
    let needed : needed_section text at (codes ":goal") ss ≡ [] = back_empty _ (needed_section text at (codes ":goal") ss) a5 in
    let a4 = front_empty _ (needed_section text at (codes ":goal") ss) a5 in
    let a3 = front_empty _ (needed_section text at (codes ":init") ss) a4 in
    let a2 = front_empty _ (requirements_faults text ss) a3 in
    let front : name.faults ≡ [] = front_empty name.faults (word_and_repeat_faults text problem_sections ss) a2 in
    both_there _ name.value (goal_in text ss).value (there front) (section_there text at (section_named text (codes ":goal") ss) needed goal) n

parts_there : (text : List ℕ) (at : ℕ) (ts : List Tree) → IsThere Problem (problem_parts text at ts)
parts_there text at [] e n = cc e
parts_there text at (t ∷ ts) e n =
    sections_there text at (frame_of text (codes "problem") at (t ∷ ts)) (sections_of (t ∷ ts)) (frame_there text (codes "problem") at (t ∷ ts)) e n

tree_there : (text : List ℕ) (at : ℕ) (parts : Option (List Tree)) → IsThere Problem (option_map_or (problem_parts text at) parts (misfit Problem at))
tree_there text at None e n = cc e
tree_there text at (Some ts) e n = parts_there text at ts e n

pub problem_there : (text : List ℕ) (ts : List Tree) → IsThere Problem (problem_in text ts)
problem_there text [] e n = cc e
problem_there text (t ∷ ts) e n =
    tree_there text (place_of text t) (parts_of t) (back_empty _ (problem_tree text t).faults e) n
