-- The entries of the initial state: what they say, and their faults.
use Rattle.std.specs.Prelude.{ℕ, ◌++◌, ◌&&◌, Bool, false, not, List, [], ◌∷◌, Option, None, map, take, drop, codes, bytes_eq, flat_map, if◌then◌else◌}
use Rattle.std.specs.Option.{option_map_or}
use Rattle.num_ends.specs.Decimal.{Decimal}
use Rattle.sexp_text.specs.declared.trees.Tree.{Tree}
use Rattle.pddl_terms.specs.declared.names.Atom.{Atom}
use Rattle.pddl_trees.specs.declared.faults.Reason.TheVariants.{Unsupported}
use Rattle.pddl_trees.specs.declared.faults.Fault.{Fault}
use Rattle.pddl_trees.specs.Faults.{fault_at}
use Rattle.pddl_trees.specs.Words.{is_number_word, number_in}
use Rattle.pddl_trees.specs.Forms.{Parsed, Form, shape_at, misfit, missing, extra, both}
use Rattle.pddl_trees.specs.Trees.{form_of, forms_of, parts_of, place_of}
use Rattle.pddl_trees.specs.Atoms.{atom_of}
use Rattle.pddl_trees.specs.Sections.{content_named}

-- an entry of the initial state: a fact, or a fluent with its value, or nothing
pub record Entry : Type 0 where
  pub fact : Option Atom
  pub value : Option (Atom × Decimal)
  pub faults : List Fault

abbrev pub ground_atom : List ℕ → Tree → Parsed Atom
ground_atom text t = option_map_or (λ ts. atom_of false (place_of text t) (forms_of text ts)) (parts_of t) (misfit Atom (place_of text t))

abbrev pub entry_fault : Fault → Entry
entry_fault f = record { fact = None; value = None; faults = f ∷ [] }

abbrev pub is_number_leaf : Form → Bool
is_number_leaf t = option_map_or is_number_word t.word false

abbrev pub begins_with_number : List Form → Bool
begins_with_number [] = false
begins_with_number (t ∷ ts) = is_number_leaf t

abbrev pub number_leaf : Form → Option Decimal
number_leaf t = option_map_or number_in t.word None

-- (not ATOM), which says nothing
abbrev pub negative_entry : List ℕ → ℕ → List Tree → Entry
negative_entry text at ts = record {
  fact = None;
  value = None;
  faults = flat_map (λ t. (ground_atom text t).faults) (take 1 ts) ++ missing at 1 (forms_of text ts) ++ extra 1 (forms_of text ts);
}

abbrev pub value_in : List ℕ → List Tree → Option (Atom × Decimal)
value_in text [] = None
value_in text (t ∷ []) = None
value_in text (t ∷ u ∷ us) = both (λ a d. (a, d)) (ground_atom text t).value (number_leaf (form_of text u))

-- (= FLUENT number)
abbrev pub value_entry : List ℕ → ℕ → List Tree → Entry
value_entry text at ts = record {
  fact = None;
  value = value_in text ts;
  faults =
      flat_map (λ t. (ground_atom text t).faults) (take 1 ts)
      ++ flat_map (λ t. if is_number_leaf (form_of text t) then [] else shape_at (place_of text t) ∷ []) (take 1 (drop 1 ts))
      ++ missing at 2 (forms_of text ts) ++ extra 2 (forms_of text ts);
}

abbrev pub fact_entry : Parsed Atom → Entry
fact_entry a = record { fact = a.value; value = None; faults = a.faults }

-- an entry by its word; `(at 5 ..)` speaks of time, which isn't taken
abbrev pub headed_entry : List ℕ → Tree → ℕ → List ℕ → List Tree → Entry
headed_entry text t head_at w ts =
    if bytes_eq w (codes "at") && begins_with_number (forms_of text ts) then entry_fault (fault_at head_at Unsupported)
    else (if bytes_eq w (codes "not") then negative_entry text (place_of text t) ts
    else (if bytes_eq w (codes "=") then value_entry text (place_of text t) ts
    else fact_entry (ground_atom text t)))

abbrev pub entry_parts : List ℕ → Tree → List Tree → Entry
entry_parts text t [] = entry_fault (shape_at (place_of text t))
entry_parts text t (h ∷ ts) =
    option_map_or (λ w. headed_entry text t (place_of text h) w ts) (form_of text h).word (fact_entry (ground_atom text t))

abbrev pub entry_of : List ℕ → Tree → Entry
entry_of text t = option_map_or (entry_parts text t) (parts_of t) (entry_fault (shape_at (place_of text t)))

abbrev pub entries_in : List ℕ → List Tree → List Entry
entries_in text ss = map (entry_of text) (content_named text (codes ":init") ss)
