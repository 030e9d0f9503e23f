-- Walks over the sections of a text.
use Rattle.std.proofs.Common.{◌≡◌, ℕ, Bool, true, false, List, [], ◌∷◌, ◌++◌, Option, map, drop, refl, sym, ap, ◌∙◌}
use Rattle.std.specs.Prelude.{flat_map, fold, if◌then◌else◌}
use Rattle.std.specs.List.{filter}
use Rattle.sexp_text.specs.declared.trees.Tree.{Tree}
use Rattle.pddl_trees.specs.declared.faults.Fault.{Fault}
use Rattle.pddl_trees.specs.Faults.{all_noted}
use Rattle.pddl_trees.specs.Trees.{form_of, place_of}
use Rattle.pddl_trees.specs.Forms.{shape_at}
use Rattle.pddl_trees.specs.Names.{is_headed}
use Rattle.pddl_trees.specs.Sections.{repeats_of}
use Rattle.pddl_trees.proofs.Noted.{noted_append}

-- the first fault so far and those of a further thing
abbrev pub with_those : {X : Type 0} → (X → List Fault) → Option Fault → X → Option Fault
with_those faults first x = all_noted first (faults x)

pub those_noted : {X : Type 0} (faults : X → List Fault) (first : Option Fault) (xs : List X) → fold (with_those faults) first xs ≡ all_noted first (flat_map faults xs)
those_noted faults first [] = refl
those_noted faults first (x ∷ xs) = those_noted faults (all_noted first (faults x)) xs ∙ sym (noted_append first (faults x) (flat_map faults xs))

-- the sections of a name, where the first may have been seen
abbrev pub repeats_after : List ℕ → List ℕ → Bool → List Tree → List Fault
repeats_after text word seen [] = []
repeats_after text word seen (s ∷ ss) =
    if is_headed word (form_of text s)
    then (if seen then shape_at (place_of text s) ∷ repeats_after text word true ss else repeats_after text word true ss)
    else repeats_after text word seen ss

abbrev named_like : List ℕ → List ℕ → Tree → Bool
named_like text word s = is_headed word (form_of text s)

abbrev places : List ℕ → List Tree → List Fault
places text ss = map (λ (s : Tree). shape_at (place_of text s)) ss

with_head : (text word : List ℕ) (s : Tree) (ss : List Tree) → repeats_after text word true ss ≡ places text (filter (named_like text word) ss)
    → (b : Bool) → (if b then shape_at (place_of text s) ∷ repeats_after text word true ss else repeats_after text word true ss)
    ≡ places text (if b then s ∷ filter (named_like text word) ss else filter (named_like text word) ss)
with_head text word s ss rest true = ap (λ (fs : List Fault). shape_at (place_of text s) ∷ fs) rest
with_head text word s ss rest false = rest

all_repeats : (text word : List ℕ) (ss : List Tree) → repeats_after text word true ss ≡ places text (filter (named_like text word) ss)
all_repeats text word [] = refl
all_repeats text word (s ∷ ss) = with_head text word s ss (all_repeats text word ss) (named_like text word s)

with_first : (text word : List ℕ) (s : Tree) (ss : List Tree) → repeats_after text word true ss ≡ places text (filter (named_like text word) ss)
    → repeats_after text word false ss ≡ repeats_of text ss word → (b : Bool)
    → (if b then repeats_after text word true ss else repeats_after text word false ss)
    ≡ places text (drop 1 (if b then s ∷ filter (named_like text word) ss else filter (named_like text word) ss))
with_first text word s ss all later true = all
with_first text word s ss all later false = later

pub first_repeats : (text word : List ℕ) (ss : List Tree) → repeats_after text word false ss ≡ repeats_of text ss word
first_repeats text word [] = refl
first_repeats text word (s ∷ ss) = with_first text word s ss (all_repeats text word ss) (first_repeats text word ss) (named_like text word s)

-- what was noted, and then more
pub noted_after : (first now later : Option Fault) (xs ys : List Fault) → now ≡ all_noted first xs → later ≡ all_noted now ys → later ≡ all_noted first (xs ++ ys)
noted_after first now later xs ys is more = more ∙ ap (λ (f : Option Fault). all_noted f ys) is ∙ sym (noted_append first xs ys)
