-- Arguments under a prefix of the parameters: when they are bound, and what they name then.
use Rattle.std.proofs.Common.{◌≡◌, ◌+◌, ◌&&◌, ℕ, zero, suc, Bool, true, false, List, [], ◌∷◌, length, take, Option, Some, None, map, refl, sym, ap, ◌∙◌, arith, add-one, is_some, if◌then◌else◌, slice_get}
use Rattle.std.specs.Prelude.{bytes_eq, max, nat_le, option_map, unwrap_or}
use Rattle.std.specs.List.{list_all}
use Rattle.std.proofs.lemmas.Bool.{and_parts, false_from_ne_true, le-leb, leb-true, lt-leb}
use Rattle.pddl_terms.specs.declared.names.Arg.{Arg}
use Rattle.pddl_terms.specs.declared.names.Arg.TheVariants.{Var, Obj}
use Rattle.pddl_terms.specs.declared.names.Typed.{Typed}
use Rattle.pddl_terms.specs.Texts.{argument_text, variable_text}
use Rattle.name_table.specs.Tables.{place_in}
use Rattle.name_table.specs.TypedLists.{first_typed, names_of}
use Rattle.pddl_types.specs.declared.pairs.Pair.{Pair}
use Rattle.pddl_types.specs.Pairs.{objects_of}
use Rattle.static_facts.specs.Atoms.{names, object_text}
use Rattle.static_facts.specs.Literals.{is_bound}
use Rattle.static_facts.proofs.Named.{named_there}
use Rattle.binder.specs.internal.Checks.{slot_level, slot_of, slot_value, slots_level}
use Rattle.binder.proofs.Resolved.{bound_place}

-- ---- levels

less_level : (i k : ℕ) → nat_le (i + 1 + 1) (suc k) ≡ nat_le (i + 1) k
less_level i k = cases (nat_le (i + 1) k) refl
  where
    cases : (test : Bool) → nat_le (i + 1) k ≡ test → nat_le (i + 1 + 1) (suc k) ≡ test
    cases true t = let below = leb-true (i + 1) k t in le-leb (i + 1 + 1) (suc k) (omega (arith, below))
    cases false t = false_from_ne_true (nat_le (i + 1 + 1) (suc k)) (λ h. let more = leb-true (i + 1 + 1) (suc k) h in let back = le-leb (i + 1) k (omega (arith, more)) in cc)

-- the place of a variable among the parameters, and whether the parameter is one of the first
bound_variable : (text : List ℕ) (params : List Typed) (k : ℕ)
    → is_some (first_typed text (take k params)) ≡ (is_some (first_typed text params) && nat_le (unwrap_or (place_in text (names_of params)) 0 + 1) k)
bound_variable text [] zero = refl
bound_variable text [] (suc k) = refl
bound_variable text (t ∷ params) zero =
    let above = lt-leb (unwrap_or (place_in text (names_of (t ∷ params))) 0 + 1) 0 (omega arith) in
    none (is_some (first_typed text (t ∷ params))) (nat_le (unwrap_or (place_in text (names_of (t ∷ params))) 0 + 1) 0) above
  where
    none : (x y : Bool) → y ≡ false → false ≡ (x && y)
    none true y h = sym h
    none false y h = refl
bound_variable text (t ∷ params) (suc k) = cases (bytes_eq text t.name.text) (place_in text (names_of params)) (bound_place text params) (bound_variable text params k)
  where
    cases : (test : Bool) (place : Option ℕ) → is_some place ≡ is_some (first_typed text params)
        → is_some (first_typed text (take k params)) ≡ (is_some (first_typed text params) && nat_le (unwrap_or place 0 + 1) k)
        → is_some (if test then Some t else first_typed text (take k params))
        ≡ (is_some (if test then Some t else first_typed text params) && nat_le (unwrap_or (if test then Some 0 else option_map (λ j. j + 1) place) 0 + 1) (suc k))
    cases true place e h = sym (le-leb (0 + 1) (suc k) (omega arith))
    cases false (Some i) e h = h ∙ ap (λ (b : Bool). is_some (first_typed text params) && b) (sym (less_level i k))
    cases false None e h = h ∙ both (is_some (first_typed text params)) (sym e)
      where
        both : (x : Bool) → x ≡ false → (x && nat_le (0 + 1) k) ≡ (x && nat_le (0 + 1) (suc k))
        both true n = cc
        both false n = refl

-- an argument is bound by the first parameters where it is bound by all and waits for at most so many
pub bound_cut : (p : Pair) (params : List Typed) (k : ℕ) (a : Arg) → is_bound (take k params) a ≡ (is_bound params a && nat_le (slot_level (slot_of p params a)) k)
bound_cut p params k (Var n) = bound_variable n.text params k
bound_cut p params k (Obj n) = sym (le-leb 0 k (omega arith))

le_max : (a b k : ℕ) → nat_le (max a b) k ≡ (nat_le a k && nat_le b k)
le_max a b k = cases (nat_le a k) refl (nat_le b k) refl
  where
    cases : (x : Bool) → nat_le a k ≡ x → (y : Bool) → nat_le b k ≡ y → nat_le (max a b) k ≡ (x && y)
    cases true s true t =
        let left = leb-true a k s in
        let right = leb-true b k t in
        le-leb (max a b) k (omega (arith, left, right))
    cases false s y t = false_from_ne_true (nat_le (max a b) k) (λ h. let most = leb-true (max a b) k h in let back = le-leb a k (omega (arith, most)) in cc)
    cases true s false t = false_from_ne_true (nat_le (max a b) k) (λ h. let most = leb-true (max a b) k h in let back = le-leb b k (omega (arith, most)) in cc)

crossed : (a b c d : Bool) → ((a && b) && (c && d)) ≡ ((a && c) && (b && d))
crossed true true c d = ends c d
  where
    ends : (c d : Bool) → (c && d) ≡ ((true && c) && (true && d))
    ends true d = refl
    ends false d = refl
crossed true false true d = refl
crossed true false false d = refl
crossed false b c d = refl

pub both_cut : (p : Pair) (params : List Typed) (k : ℕ) (a b : Arg)
    → (is_bound (take k params) a && is_bound (take k params) b) ≡ ((is_bound params a && is_bound params b) && nat_le (max (slot_level (slot_of p params a)) (slot_level (slot_of p params b))) k)
both_cut p params k a b =
    ap (λ (x : Bool). x && is_bound (take k params) b) (bound_cut p params k a)
    ∙ ap (λ (y : Bool). (is_bound params a && nat_le (slot_level (slot_of p params a)) k) && y) (bound_cut p params k b)
    ∙ crossed (is_bound params a) (nat_le (slot_level (slot_of p params a)) k) (is_bound params b) (nat_le (slot_level (slot_of p params b)) k)
    ∙ ap (λ (z : Bool). (is_bound params a && is_bound params b) && z) (sym (le_max (slot_level (slot_of p params a)) (slot_level (slot_of p params b)) k))

pub all_cut : (p : Pair) (params : List Typed) (k : ℕ) (args : List Arg)
    → list_all (is_bound (take k params)) args ≡ (list_all (is_bound params) args && nat_le (slots_level (map (slot_of p params) args)) k)
all_cut p params k [] = sym (le-leb 0 k (omega arith))
all_cut p params k (a ∷ args) =
    ap (λ (x : Bool). x && list_all (is_bound (take k params)) args) (bound_cut p params k a)
    ∙ ap (λ (y : Bool). (is_bound params a && nat_le (slot_level (slot_of p params a)) k) && y) (all_cut p params k args)
    ∙ crossed (is_bound params a) (nat_le (slot_level (slot_of p params a)) k) (list_all (is_bound params) args) (nat_le (slots_level (map (slot_of p params) args)) k)
    ∙ ap (λ (z : Bool). (is_bound params a && list_all (is_bound params) args) && z) (sym (le_max (slot_level (slot_of p params a)) (slots_level (map (slot_of p params) args)) k))

-- ---- what a bound argument names

-- an object that is named is there
abbrev pub is_known : Pair → Arg → Bool
is_known p (Var n) = true
is_known p (Obj n) = is_some (place_in n.text (names_of (objects_of p)))

named_variable : (p : Pair) (text : List ℕ) (params : List Typed) (os : List ℕ) → is_some (first_typed text (take (length os) params)) ≡ true
    → variable_text (take (length os) params) (names p os) text ≡ object_text p (unwrap_or (slice_get os (unwrap_or (place_in text (names_of params)) 0)) 0)
named_variable p text [] [] h = cc
named_variable p text [] (o ∷ os) h = cc
named_variable p text (t ∷ params) [] h = cc
named_variable p text (t ∷ params) (o ∷ os) h =
    cases (bytes_eq text t.name.text) (place_in text (names_of params)) (bound_place text params) (bound_variable text params (length os)) h (λ e. named_variable p text params os e)
  where
    cases : (test : Bool) (place : Option ℕ) → is_some place ≡ is_some (first_typed text params)
        → is_some (first_typed text (take (length os) params)) ≡ (is_some (first_typed text params) && nat_le (unwrap_or place 0 + 1) (length os))
        → is_some (if test then Some t else first_typed text (take (length os) params)) ≡ true
        → (is_some (first_typed text (take (length os) params)) ≡ true → variable_text (take (length os) params) (names p os) text ≡ object_text p (unwrap_or (slice_get os (unwrap_or place 0)) 0))
        → (if test then object_text p o else variable_text (take (length os) params) (names p os) text)
        ≡ object_text p (unwrap_or (slice_get (o ∷ os) (unwrap_or (if test then Some 0 else option_map (λ j. j + 1) place) 0)) 0)
    cases true place e cut b rec = refl
    cases false (Some i) e cut b rec = rec b ∙ ap (λ (n : ℕ). object_text p (unwrap_or (slice_get (o ∷ os) n) 0)) (sym (add-one i))
    cases false None e cut b rec =
        let parts = and_parts (is_some (first_typed text params)) (nat_le (0 + 1) (length os)) (sym cut ∙ b) in
        let bad : false ≡ true = e ∙ parts.0 in
        cc

pub named_argument : (p : Pair) (params : List Typed) (os : List ℕ) (a : Arg) → is_bound (take (length os) params) a ≡ true → is_known p a ≡ true
    → argument_text (take (length os) params) (names p os) a ≡ object_text p (slot_value os (slot_of p params a))
named_argument p params os (Var n) h k = named_variable p n.text params os h
named_argument p params os (Obj n) h k = cases (place_in n.text (names_of (objects_of p))) refl k
  where
    cases : (place : Option ℕ) → place_in n.text (names_of (objects_of p)) ≡ place → is_some place ≡ true → n.text ≡ object_text p (unwrap_or place 0)
    cases None e k = cc
    cases (Some i) e k = sym (named_there n.text (names_of (objects_of p)) i e)

pub named_arguments : (p : Pair) (params : List Typed) (os : List ℕ) (args : List Arg) → list_all (is_bound (take (length os) params)) args ≡ true → list_all (is_known p) args ≡ true
    → map (argument_text (take (length os) params) (names p os)) args ≡ names p (map (slot_value os) (map (slot_of p params) args))
named_arguments p params os [] h k = refl
named_arguments p params os (a ∷ args) h k =
    let bound = and_parts (is_bound (take (length os) params) a) (list_all (is_bound (take (length os) params)) args) h in
    let known = and_parts (is_known p a) (list_all (is_known p) args) k in
    ap (λ (t : List ℕ). t ∷ map (argument_text (take (length os) params) (names p os)) args) (named_argument p params os a bound.0 known.0)
    ∙ ap (λ (ts : List (List ℕ)). object_text p (slot_value os (slot_of p params a)) ∷ ts) (named_arguments p params os args bound.1 known.1)
