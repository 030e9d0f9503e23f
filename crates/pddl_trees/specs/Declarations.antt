-- Declarations of types, predicates and functions, and requirements: what they say, and their faults.
use Rattle.std.specs.Prelude.{◌||◌, ℕ, ◌++◌, ◌&&◌, Bool, true, false, not, List, [], ◌∷◌, Option, Some, None, map, codes, bytes_eq, flat_map, filter_map, option_map, if◌then◌else◌}
use Rattle.std.specs.Option.{option_map_or}
use Rattle.sexp_text.specs.declared.trees.Tree.{Tree}
use Rattle.pddl_terms.specs.declared.names.Name.{Name}
use Rattle.pddl_terms.specs.declared.names.Typed.{Typed}
use Rattle.pddl_terms.specs.declared.names.Sig.{Sig}
use Rattle.pddl_trees.specs.declared.faults.Reason.TheVariants.{Unsupported}
use Rattle.pddl_trees.specs.declared.faults.Fault.{Fault}
use Rattle.pddl_trees.specs.Faults.{fault_at}
use Rattle.pddl_trees.specs.Words.{is_among, is_key}
use Rattle.pddl_trees.specs.Forms.{Parsed, Form, shape_at, misfit}
use Rattle.pddl_trees.specs.Trees.{form_of, forms_of, parts_of}
use Rattle.pddl_trees.specs.Names.{is_word, named_at, symbol_name, type_faults, type_name}
use Rattle.pddl_trees.specs.TypedLists.{Listed, after, names_alone, parameters_kind, typed_list}

abbrev pub names_of : List Typed → List (List ℕ)
names_of items = map (λ t. t.name.text) items

-- a name that is `number`, which can't be declared, and its type where that is, but isn't declared itself
abbrev pub number_faults_if : Bool → Typed → List Fault
number_faults_if named t =
    (if bytes_eq t.name.text (codes "number") then shape_at t.name.at ∷ [] else [])
    ++ (if bytes_eq t.kind.text (codes "number") && not named then shape_at t.kind.at ∷ [] else [])

-- `number` can't be declared, also not by standing behind `-` alone
abbrev pub number_faults : List (List ℕ) → Typed → List Fault
number_faults names t = number_faults_if (is_among (codes "number") names) t

-- the types of types that aren't declared themselves, each once, as children of `object`
abbrev pub implied_types : List (List ℕ) → List Typed → List Typed
implied_types known [] = []
implied_types known (t ∷ ts) =
    if is_among t.kind.text known || bytes_eq t.kind.text (codes "object") then implied_types known ts
    else record { name = t.kind; kind = named_at t.kind.at (codes "object") } ∷ implied_types (t.kind.text ∷ known) ts

abbrev pub with_implied : Listed Typed → Listed Typed
with_implied l = record {
  items = l.items ++ implied_types (names_of l.items) l.items;
  faults = l.faults ++ flat_map (number_faults (names_of l.items)) l.items;
}

abbrev pub types_list : ℕ → List Form → Listed Typed
types_list at ts = with_implied (typed_list names_alone at ts)

abbrev pub with_params : Parsed Name → Listed Typed → Parsed Sig
with_params n l = record { value = option_map (λ name. record { name = name; params = l.items }) n.value; faults = n.faults ++ l.faults }

abbrev pub signature_parts : ℕ → List Form → Parsed Sig
signature_parts at [] = misfit Sig at
signature_parts at (t ∷ ts) = with_params (symbol_name t) (typed_list parameters_kind at ts)

-- (NAME variable ..), with types
abbrev pub signature : List ℕ → Tree → Parsed Sig
signature text t = option_map_or (λ ts. signature_parts (form_of text t).at (forms_of text ts)) (parts_of t) (misfit Sig (form_of text t).at)

abbrev pub predicates_list : List ℕ → List Tree → Listed Sig
predicates_list text ts = record {
  items = filter_map (λ t. (signature text t).value) ts;
  faults = flat_map (λ t. (signature text t).faults) ts;
}

-- a function's type is `number`
abbrev pub number_type_faults : Form → List Fault
number_type_faults t =
    option_map_or (λ n. if bytes_eq n.text (codes "number") then [] else fault_at n.at Unsupported ∷ []) (type_name t) (type_faults t)

abbrev pub one_item : {A : Type 0} → Option A → List A
one_item None = []
one_item (Some x) = x ∷ []

-- the functions of a list at a position from here on: whether `-` stands before, or else whether a signature does
unfoldable pub functions_from : List ℕ → ℕ → Bool → Bool → List Tree → Listed Sig
functions_from text at true signed [] = record { items = []; faults = shape_at at ∷ [] }
functions_from text at false signed [] = record { items = []; faults = [] }
functions_from text at true signed (t ∷ ts) = after [] (number_type_faults (form_of text t)) (functions_from text at false false ts)
functions_from text at false signed (t ∷ ts) =
    if is_word (codes "-") (form_of text t)
    then after [] (if signed then [] else shape_at (form_of text t).at ∷ []) (functions_from text at true false ts)
    else after (one_item (signature text t).value) (signature text t).faults (functions_from text at false true ts)

abbrev pub functions_list : List ℕ → ℕ → List Tree → Listed Sig
functions_list text at ts = functions_from text at false false ts

abbrev pub known_keys : List (List ℕ)
known_keys =
    codes ":strips" ∷ codes ":typing" ∷ codes ":equality" ∷ codes ":negative-preconditions" ∷ codes ":disjunctive-preconditions"
    ∷ codes ":fluents" ∷ codes ":numeric-fluents" ∷ codes ":action-costs" ∷ codes ":adl" ∷ codes ":conditional-effects"
    ∷ codes ":existential-preconditions" ∷ codes ":universal-preconditions" ∷ codes ":quantified-preconditions" ∷ []

abbrev pub key_faults : ℕ → List ℕ → List Fault
key_faults at w = if is_key w then (if is_among w known_keys then [] else fault_at at Unsupported ∷ []) else shape_at at ∷ []

abbrev pub requirement_faults : Form → List Fault
requirement_faults t = option_map_or (key_faults t.at) t.word (shape_at t.at ∷ [])
