-- Typed lists while they are read.
use Rattle.std.specs.Prelude.{ℕ, ◌≡◌, List, [], ◌∷◌, Option, flat_map}
use Rattle.std.specs.Option.{option_map_or}
use Rattle.pddl_terms.specs.declared.names.Name.{Name}
use Rattle.pddl_terms.specs.declared.names.Typed.{Typed}
use Rattle.pddl_declarations.specs.declared.groups.Group.{Group}
use Rattle.pddl_declarations.specs.declared.typed.TypedNames.{TypedNames}
use Rattle.pddl_trees.specs.declared.faults.Fault.{Fault}
use Rattle.pddl_trees.specs.Faults.{all_noted}
use Rattle.pddl_trees.specs.Forms.{Form}
use Rattle.pddl_trees.specs.Words.{is_among}
use Rattle.pddl_trees.specs.TypedLists.{Kind, Listed, after, typed_as, typed_from, untyped}

-- names with a type, or without one
abbrev pub with_type : Option Name → List Name → List Typed
with_type kind names = option_map_or (λ k. typed_as k names) kind (untyped names)

-- the names of groups in order, each with its type
abbrev pub typed_of : List Group → List Typed
typed_of groups = flat_map (λ g. with_type g.kind g.names.items) groups

-- what is typed so far, and what the rest of the list at a position adds
abbrev pub typed_with : TypedNames → Kind → ℕ → List Form → Listed Typed
typed_with names kind at ts = after (typed_of names.groups.items) [] (typed_from kind at names.seen names.dashed names.waiting.items ts)

-- a tree was taken: what is typed and noted behind it, with the rest of any list, is what was typed and noted before it, with
-- the tree and that rest
pub record IsTaken (kind : Kind) (t : Form) (before : TypedNames) (first : Option Fault) (behind : TypedNames) (first_behind : Option Fault) : Type 0 where
  pub faults : (at : ℕ) (ts : List Form) → all_noted first_behind (typed_with behind kind at ts).faults ≡ all_noted first (typed_with before kind at (t ∷ ts)).faults
  pub items : (at : ℕ) (ts : List Form) → (typed_with behind kind at ts).items ≡ (typed_with before kind at (t ∷ ts)).items

-- the same words are known by both
abbrev pub AreSameWords : List (List ℕ) → List (List ℕ) → Type 0
AreSameWords ks js = (word : List ℕ) → is_among word ks ≡ is_among word js
