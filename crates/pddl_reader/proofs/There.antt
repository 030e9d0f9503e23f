-- What is read without a fault is there.
use Rattle.std.proofs.Common.{◌≡◌, ℕ, Bool, true, false, List, [], ◌∷◌, ◌++◌, Option, Some, None, refl}
use Rattle.std.specs.Prelude.{option_map, codes, if◌then◌else◌}
use Rattle.std.specs.Option.{option_map_or}
use Rattle.num_ends.specs.Names.{is_name}
use Rattle.sexp_text.specs.declared.trees.Tree.{Tree}
use Rattle.pddl_terms.specs.declared.names.Name.{Name}
use Rattle.pddl_terms.specs.declared.files.Domain.{Domain}
use Rattle.pddl_trees.specs.Forms.{Parsed, Form, misfit, shape_at, sound}
use Rattle.pddl_trees.specs.Trees.{forms_of, parts_of, place_of}
use Rattle.pddl_trees.specs.Names.{named_at, name_of, only_name}
use Rattle.pddl_trees.specs.Sections.{domain_sections, objects_in, requirements_faults, sections_of, word_and_repeat_faults}
use Rattle.pddl_trees.specs.Frames.{definition_in, definition_of, definition_word_faults, frame_of}
use Rattle.pddl_trees.specs.Domains.{domain_in, domain_of_sections, domain_tree, functions_in, predicates_in, types_in}
use Rattle.pddl_trees.specs.Actions.{schemas_in}

-- it has a fault, or it is there
abbrev pub IsThere : (A : Type 0) → Parsed A → Type 0
IsThere A p = p.faults ≡ [] → p.value ≡ None → ⊥

pub front_empty : {X : Type 0} (xs ys : List X) → xs ++ ys ≡ [] → xs ≡ []
front_empty [] ys e = refl
front_empty (x ∷ xs) ys e = absurd (cc e)

pub back_empty : {X : Type 0} (xs ys : List X) → xs ++ ys ≡ [] → ys ≡ []
back_empty [] ys e = e
back_empty (x ∷ xs) ys e = absurd (cc e)

pub none_mapped : {A B : Type 0} (f : A → B) (x : Option A) → option_map f x ≡ None → x ≡ None
none_mapped f None e = refl
none_mapped f (Some x) e = absurd (cc e)

last_there : {X : Type 0} (xs : List X) (x : X) → xs ++ x ∷ [] ≡ [] → ⊥
last_there [] x e = cc e
last_there (y ∷ ys) x e = cc e

pub misfit_there : (A : Type 0) (at : ℕ) → IsThere A (misfit A at)
misfit_there A at e n = cc e

name_there : (at : ℕ) (w : List ℕ) (b : Bool) → IsThere Name (if b then sound Name (named_at at w) else misfit Name at)
name_there at w true e n = cc n
name_there at w false e n = cc e

word_there : (at : ℕ) (word : Option (List ℕ)) → IsThere Name (option_map_or (λ w. if is_name w then sound Name (named_at at w) else misfit Name at) word (misfit Name at))
word_there at None e n = cc e
word_there at (Some w) e n = name_there at w (is_name w) e n

only_name_there : (at : ℕ) (ts : List Form) → IsThere Name (only_name at ts)
only_name_there at [] e n = cc e
only_name_there at (t ∷ ts) e n = word_there t.at t.word (front_empty (name_of t).faults _ e) n

definition_there : (word : List ℕ) (at : ℕ) (ts : List Form) → IsThere Name (definition_of word at ts)
definition_there word at [] e n = cc e
definition_there word at (t ∷ ts) e n = only_name_there at ts (back_empty _ (only_name at ts).faults e) n

parts_there : (text word : List ℕ) (at : ℕ) (parts : Option (List Tree)) → IsThere Name (option_map_or (λ ts. definition_of word at (forms_of text ts)) parts (misfit Name at))
parts_there text word at None e n = cc e
parts_there text word at (Some ts) e n = definition_there word at (forms_of text ts) e n

pub frame_there : (text word : List ℕ) (at : ℕ) (ts : List Tree) → IsThere Name (frame_of text word at ts)
frame_there text word at [] e n = cc e
frame_there text word at (t ∷ []) e n = last_there (definition_word_faults (codes "define") (forms_of text (t ∷ []))) (shape_at at) e
frame_there text word at (t ∷ u ∷ us) e n = parts_there text word (place_of text u) (parts_of u) (back_empty _ (definition_in text word u).faults e) n

sections_there : (text : List ℕ) (name : Parsed Name) (ss : List Tree) → IsThere Name name → IsThere Domain (domain_of_sections text name ss)
sections_there text name ss there e n = there
    (front_empty name.faults (word_and_repeat_faults text domain_sections ss)
    (front_empty _ (requirements_faults text ss) (front_empty _ (types_in text ss).faults (front_empty _ (objects_in text (codes ":constants") ss).faults
    (front_empty _ (predicates_in text ss).faults (front_empty _ (functions_in text ss).faults (front_empty _ (schemas_in text ss).faults e))))))) (none_mapped _ name.value n)

tree_there : (text : List ℕ) (at : ℕ) (parts : Option (List Tree))
    → IsThere Domain (option_map_or (λ ts. domain_of_sections text (frame_of text (codes "domain") at ts) (sections_of ts)) parts (misfit Domain at))
tree_there text at None e n = cc e
tree_there text at (Some ts) e n =
    sections_there text (frame_of text (codes "domain") at ts) (sections_of ts) (frame_there text (codes "domain") at ts) e n

pub domain_there : (text : List ℕ) (ts : List Tree) → IsThere Domain (domain_in text ts)
domain_there text [] e n = cc e
domain_there text (t ∷ ts) e n =
    tree_there text (place_of text t) (parts_of t) (back_empty _ (domain_tree text t).faults e) n
