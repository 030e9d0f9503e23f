-- Words that are known, as references in a set and as a list.
use Rattle.std.proofs.Common.{◌≡◌, ℕ, Bool, true, false, List, [], ◌∷◌, ◌++◌, map, refl, sym, ap, ap₂, ◌∙◌, ◌||◌, Bor, codes, not, append_assoc}
use Rattle.std.specs.Prelude.{bytes_eq, if◌then◌else◌}
use Rattle.std.proofs.lemmas.List.{map-append}
use Rattle.std.proofs.lemmas.List.Folds.{list_any-append}
use Rattle.std.proofs.lemmas.Slice.Eq.{bytes_eq-Decides}
use Rattle.pddl_terms.specs.declared.names.Name.{Name}
use Rattle.pddl_terms.specs.declared.names.Typed.{Typed}
use Rattle.pddl_trees.specs.Declarations.{implied_types}
use Rattle.pddl_trees.specs.Names.{named_at}
use Rattle.std.specs.List.{list_any}
use Rattle.pddl_trees.specs.Words.{is_among}
use Rattle.pddl_declarations.specs.internal.Typing.{AreSameWords}
use Rattle.pddl_trees.proofs.Numbers.{bytes_eq_back}

pub among_references : (word : List ℕ) (keys : List (Bor (List ℕ))) → list_any (λ (k : Bor (List ℕ)). bytes_eq word k.now) keys ≡ is_among word (map (λ (k : Bor (List ℕ)). k.now) keys)
among_references word [] = refl
among_references word (k ∷ ks) = ap₂ (λ (a b : Bool). a || b) (bytes_eq_back word k.now) (among_references word ks)

inserted_if : (known : Bool) (word : Bor (List ℕ)) (keys : List (Bor (List ℕ)))
    → map (λ (k : Bor (List ℕ)). k.now) (if known then keys else keys ++ word ∷ [])
    ≡ (if known then map (λ (k : Bor (List ℕ)). k.now) keys else map (λ (k : Bor (List ℕ)). k.now) keys ++ word.now ∷ [])
inserted_if true word keys = refl
inserted_if false word keys = map-append (λ (k : Bor (List ℕ)). k.now) keys (word ∷ [])

-- the words once one is put into a set where it isn't there
pub inserted : (word : Bor (List ℕ)) (keys now : List (Bor (List ℕ))) → now ≡ (if list_any (λ (k : Bor (List ℕ)). bytes_eq word.now k.now) keys then keys else keys ++ word ∷ [])
    → map (λ (k : Bor (List ℕ)). k.now) now
    ≡ (if is_among word.now (map (λ (k : Bor (List ℕ)). k.now) keys) then map (λ (k : Bor (List ℕ)). k.now) keys else map (λ (k : Bor (List ℕ)). k.now) keys ++ word.now ∷ [])
inserted word keys now is =
    ap (map (λ (k : Bor (List ℕ)). k.now)) is
    ∙ inserted_if (list_any (λ (k : Bor (List ℕ)). bytes_eq word.now k.now) keys) word keys
    ∙ ap (λ (known : Bool). if known then map (λ (k : Bor (List ℕ)). k.now) keys else map (λ (k : Bor (List ℕ)). k.now) keys ++ word.now ∷ []) (among_references word.now keys)

same_more : (k : List ℕ) (ks js : List (List ℕ)) → AreSameWords ks js → AreSameWords (k ∷ ks) (k ∷ js)
same_more k ks js same word = ap (λ (b : Bool). bytes_eq k word || b) (same word)

-- which types are implied depends only on which words are known
pub same_implied : (ts : List Typed) (ks js : List (List ℕ)) → AreSameWords ks js → implied_types ks ts ≡ implied_types js ts
same_implied [] ks js same = refl
same_implied (t ∷ ts) ks js same =
    ap₂ (λ (known : Bool) (none : List Typed). if known || bytes_eq t.kind.text (codes "object") then none else record { name = t.kind; kind = named_at t.kind.at (codes "object") } ∷ implied_types (t.kind.text ∷ ks) ts)
    (same t.kind.text) (same_implied ts ks js same)
    ∙ ap (λ (more : List Typed). if is_among t.kind.text js || bytes_eq t.kind.text (codes "object") then implied_types js ts else record { name = t.kind; kind = named_at t.kind.at (codes "object") } ∷ more)
    (same_implied ts (t.kind.text ∷ ks) (t.kind.text ∷ js) (same_more t.kind.text ks js same))

or_swap : (a b : Bool) → (a || (b || false)) ≡ (b || a)
or_swap true true = refl
or_swap true false = refl
or_swap false true = refl
or_swap false false = refl

-- a word at the end is known as one in front
pub same_at_end : (k : List ℕ) (ks : List (List ℕ)) → AreSameWords (ks ++ k ∷ []) (k ∷ ks)
same_at_end k ks word = list_any-append (λ (w : List ℕ). bytes_eq w word) ks (k ∷ []) ∙ or_swap (is_among word ks) (bytes_eq k word)

abbrev as_type : Name → Typed
as_type kind = record { name = kind; kind = named_at kind.at (codes "object") }

implied_if : (known : Bool) (t : Typed) (ks now : List (List ℕ)) (ts : List Typed) → not known ≡ true → bytes_eq t.kind.text (codes "object") ≡ false
    → now ≡ (if known then ks else ks ++ t.kind.text ∷ [])
    → as_type t.kind ∷ implied_types now ts
    ≡ (if known || bytes_eq t.kind.text (codes "object") then implied_types ks ts else as_type t.kind ∷ implied_types (t.kind.text ∷ ks) ts)
implied_if true t ks now ts unknown other is = cc
implied_if false t ks now ts unknown other is =
    rw other
    (ap (λ (words : List (List ℕ)). as_type t.kind ∷ implied_types words ts) is
    ∙ ap (λ (more : List Typed). as_type t.kind ∷ more) (same_implied ts (ks ++ t.kind.text ∷ []) (t.kind.text ∷ ks) (same_at_end t.kind.text ks)))

-- one more type is implied where it isn't known and isn't `object`
pub implied_more : (t : Typed) (ks now : List (List ℕ)) (done more ts : List Typed) (name object : Name) → not (is_among t.kind.text ks) ≡ true → bytes_eq t.kind.text (codes "object") ≡ false
    → now ≡ (if is_among t.kind.text ks then ks else ks ++ t.kind.text ∷ []) → name ≡ t.kind → object ≡ named_at t.kind.at (codes "object")
    → more ≡ done ++ record { name = name; kind = object } ∷ [] → more ++ implied_types now ts ≡ done ++ implied_types ks (t ∷ ts)
implied_more t ks now done more ts name object unknown other is name-is object-is more-is =
    let item : more ≡ done ++ as_type t.kind ∷ [] = cc in
    ap (λ (xs : List Typed). xs ++ implied_types now ts) item
    ∙ append_assoc done (as_type t.kind ∷ []) (implied_types now ts)
    ∙ ap (λ (xs : List Typed). done ++ xs) (implied_if (is_among t.kind.text ks) t ks now ts unknown other is)

or_same : (a c r : Bool) → (c ≡ true → a ≡ true) → (a || r) ≡ (a || (c || r))
or_same true c r h = refl
or_same false true r h = let e : false ≡ true = h refl in cc
or_same false false r h = refl

known_if : (known : Bool) (k : List ℕ) (words rest : List (List ℕ)) → is_among k words ≡ known → AreSameWords ((if known then words else words ++ k ∷ []) ++ rest) (words ++ k ∷ rest)
known_if false k words rest is = λ word. ap (is_among word) (append_assoc words (k ∷ []) rest)
known_if true k words rest is = λ word.
    list_any-append (λ (w : List ℕ). bytes_eq w word) words rest
    ∙ or_same (is_among word words) (bytes_eq k word) (is_among word rest) (λ e. ap (λ (w : List ℕ). is_among w words) (sym ((bytes_eq-Decides k word).0 e)) ∙ is)
    ∙ sym (list_any-append (λ (w : List ℕ). bytes_eq w word) words (k ∷ rest))

-- a word in front of the rest, once it is put among those that are known
pub known_more : (k : List ℕ) (words now rest : List (List ℕ)) → now ≡ (if is_among k words then words else words ++ k ∷ []) → AreSameWords (now ++ rest) (words ++ k ∷ rest)
known_more k words now rest is = λ word.
    ap (λ (ws : List (List ℕ)). is_among word (ws ++ rest)) is ∙ known_if (is_among k words) k words rest refl word
