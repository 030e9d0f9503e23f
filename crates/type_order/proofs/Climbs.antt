-- Which types are reached from which: walks up are cut short where they go round.
use Rattle.std.proofs.Common.{◌≡◌, ◌<◌, ◌≤◌, ◌⊎◌, ◌||◌, ◌+◌, inl, inr, ℕ, zero, suc, Bool, true, false, List, [], ◌∷◌, ◌++◌, Option, Some, None, length, map, arith, refl, sym, ap, subst, ◌∙◌, length-append, if◌then◌else◌}
use Rattle.std.specs.Prelude.{bytes_eq, option_map}
use Rattle.std.specs.Option.{option_map_or}
use Rattle.std.proofs.lemmas.Bool.{cases_lt}
use Rattle.std.proofs.lemmas.Slice.Eq.{bytes_eq-Decides}
use Rattle.pddl_terms.specs.declared.names.Typed.{Typed}
use Rattle.name_table.specs.TypedLists.{first_typed}
use Rattle.type_order.specs.Types.{Descends, child, above, descends, parent_of, climbs_to, top_type}
use Rattle.type_order.proofs.Pigeons.{AllIn, In, repeated_in}

-- a walk up from one type to another, with the types that it leaves
abbrev pub Walk : List Typed → List (List ℕ) → List ℕ → List ℕ → Type 0
Walk types [] k q = k ≡ q
Walk types (s ∷ ss) k q = (k ≡ s) × ((p : List ℕ) × (parent_of types k ≡ Some p) × Walk types ss p q)

pub split_walk : (types : List Typed) (ss rest : List (List ℕ)) (k q : List ℕ) → Walk types (ss ++ rest) k q → (m : List ℕ) × Walk types ss k m × Walk types rest m q
split_walk types [] rest k q w = (k, refl, w)
split_walk types (s ∷ ss) rest k q w =
    let further = split_walk types ss rest w.1.0 q w.1.2 in
    (further.0, (w.0, (w.1.0, w.1.1, further.1)), further.2)

pub join_walks : (types : List Typed) (ss rest : List (List ℕ)) (k m q : List ℕ) → Walk types ss k m → Walk types rest m q → Walk types (ss ++ rest) k q
join_walks types [] rest k m q same w = subst (λ x. Walk types rest x q) (sym same) w
join_walks types (s ∷ ss) rest k m q v w = (v.0, (v.1.0, v.1.1, join_walks types ss rest v.1.0 m q v.1.2 w))

-- a walk that leaves a type twice has a shorter one between the same ends
cut_walk : (types : List Typed) (front between rest : List (List ℕ)) (twice k q : List ℕ) → Walk types (front ++ twice ∷ (between ++ twice ∷ rest)) k q
    → Walk types (front ++ twice ∷ rest) k q
cut_walk types front between rest twice k q w =
    let first = split_walk types front (twice ∷ (between ++ twice ∷ rest)) k q w in
    let second = split_walk types (twice ∷ between) (twice ∷ rest) first.0 q first.2 in
    join_walks types front (twice ∷ rest) k first.0 q first.1 (subst (λ x. Walk types (twice ∷ rest) x q) (second.2.0 ∙ sym first.2.0) second.2)

first_among : (types : List Typed) (k p : List ℕ) → option_map (λ t. t.kind.text) (first_typed k types) ≡ Some p → In k (map (λ t. t.name.text) types)
first_among [] k p e = cc
first_among (t ∷ types) k p e = cases (bytes_eq k t.name.text) refl (first_among types k p)
  where
    cases : (test : Bool) → bytes_eq k t.name.text ≡ test → (option_map (λ t. t.kind.text) (first_typed k types) ≡ Some p → In k (map (λ t. t.name.text) types))
        → In k (map (λ t. t.name.text) (t ∷ types))
    cases true same rest = inl ((bytes_eq-Decides k t.name.text).0 same)
    cases false other rest =
        inr (rest (sym (ap (λ (b : Bool). option_map (λ t. t.kind.text) (if b then Some t else first_typed k types)) other) ∙ e))

-- a type with a type above it is declared
pub parent_among : (types : List Typed) (k p : List ℕ) → parent_of types k ≡ Some p → In k (map (λ t. t.name.text) types)
parent_among types k p e = cases (bytes_eq k top_type) refl
  where
    cases : (test : Bool) → bytes_eq k top_type ≡ test → In k (map (λ t. t.name.text) types)
    cases true top =
        let none : parent_of types k ≡ None = ap (λ (b : Bool). if b then None else option_map (λ t. t.kind.text) (first_typed k types)) top in
        cc
    cases false other =
        first_among types k p (sym (ap (λ (b : Bool). if b then None else option_map (λ t. t.kind.text) (first_typed k types)) other) ∙ e)

pub left_among : (types : List Typed) (ss : List (List ℕ)) (k q : List ℕ) → Walk types ss k q → AllIn ss (map (λ t. t.name.text) types)
left_among types [] k q w = tt
left_among types (s ∷ ss) k q w =
    (subst (λ x. In x (map (λ t. t.name.text) types)) w.0 (parent_among types k w.1.0 w.1.1), left_among types ss w.1.0 q w.1.2)

pub length_names : (types : List Typed) → length (map (λ t. t.name.text) types) ≡ length types
length_names [] = refl
length_names (t ∷ types) = ap suc (length_names types)

-- a walk of some steps
pub record Short (types : List Typed) (k q : List ℕ) : Type 0 where
  pub left : List (List ℕ)
  pub walk : Walk types left k q
  pub some : 0 < length left
  pub short : length left ≤ length types

shortened : (types : List Typed) (fuel : ℕ) (ss : List (List ℕ)) (k q : List ℕ) → length ss ≤ fuel → 0 < length ss → Walk types ss k q → Short types k q
shortened types zero ss k q least some w = absurd (omega arith)
shortened types (suc fuel) ss k q least some w = cases (cases_lt (length types) (length ss)) (shortened types fuel)
  where
    cases : (length types < length ss) ⊎ (length ss ≤ length types)
        → ((ts : List (List ℕ)) (x y : List ℕ) → length ts ≤ fuel → 0 < length ts → Walk types ts x y → Short types x y) → Short types k q
    cases (inr short) rec = record { left = ss; walk = w; some = some; short = short }
    cases (inl long) rec =
        let r = repeated_in ss (map (λ t. t.name.text) types) (left_among types ss k q w) (omega (arith, length_names types)) in
        let before : length ss ≡ length r.front + suc (length r.between + suc (length r.rest)) =
        ap length r.split ∙ length-append r.front (r.twice ∷ (r.between ++ r.twice ∷ r.rest)) ∙ ap (λ (n : ℕ). length r.front + suc n) (length-append r.between (r.twice ∷ r.rest)) in
        let after : length (r.front ++ r.twice ∷ r.rest) ≡ length r.front + suc (length r.rest) = length-append r.front (r.twice ∷ r.rest) in
        rec (r.front ++ r.twice ∷ r.rest) k q (omega arith) (omega arith)
        (cut_walk types r.front r.between r.rest r.twice k q (subst (λ ts. Walk types ts k q) r.split w))

walked_up : (types : List Typed) (k q : List ℕ) → Descends types k q → (ss : List (List ℕ)) × (0 < length ss) × Walk types ss k q
walked_up types k q (child _ _ e) = (k ∷ [], omega arith, (refl, (q, e, refl)))
walked_up types k q (above _ p _ e d) =
    let further = walked_up types p q d in
    (k ∷ further.0, omega arith, (refl, (p, e, further.2)))

-- a type that is descended from is reached by a short walk
pub short_walk : (types : List Typed) (k q : List ℕ) → Descends types k q → Short types k q
short_walk types k q d =
    let w = walked_up types k q d in
    shortened types (length w.0) w.0 k q (omega arith) w.1 w.2

reached : (types steps : List Typed) (ss : List (List ℕ)) (k q : List ℕ) → Walk types ss k q → 0 < length ss → length ss ≤ length steps → climbs_to types steps k q ≡ true
reached types steps [] k q w some short = absurd (omega arith)
reached types [] (s ∷ ss) k q w some short = absurd (omega arith)
reached types (t ∷ steps) (s ∷ []) k q w some short =
    let same : bytes_eq w.1.0 q ≡ true = (bytes_eq-Decides w.1.0 q).1 w.1.2 in
    ap (λ (x : Option (List ℕ)). option_map_or (λ p. bytes_eq p q || climbs_to types steps p q) x false) w.1.1
    ∙ ap (λ (b : Bool). b || climbs_to types steps w.1.0 q) same
reached types (t ∷ steps) (s ∷ u ∷ ss) k q w some short =
    ap (λ (x : Option (List ℕ)). option_map_or (λ p. bytes_eq p q || climbs_to types steps p q) x false) w.1.1
    ∙ ap (λ (b : Bool). bytes_eq w.1.0 q || b) (reached types steps (u ∷ ss) w.1.0 q w.1.2 (omega arith) (omega arith))
    ∙ either (bytes_eq w.1.0 q)
  where
    either : (b : Bool) → (b || true) ≡ true
    either true = refl
    either false = refl

-- a type that is reached is descended from
climbed : (types steps : List Typed) (k q : List ℕ) → climbs_to types steps k q ≡ true → Descends types k q
climbed types [] k q h = cc
climbed types (t ∷ steps) k q h = cases (parent_of types k) refl (climbed types steps)
  where
    further : (p : List ℕ) → parent_of types k ≡ Some p → (test : Bool) → bytes_eq p q ≡ test → (bytes_eq p q || climbs_to types steps p q) ≡ true
        → ((x y : List ℕ) → climbs_to types steps x y ≡ true → Descends types x y) → Descends types k q
    further p e true same h rec = subst (λ x. Descends types k x) ((bytes_eq-Decides p q).0 same) (child k p e)
    further p e false other h rec = above k p q e (rec p q (sym (ap (λ (b : Bool). b || climbs_to types steps p q) other) ∙ h))

    cases : (x : Option (List ℕ)) → parent_of types k ≡ x → ((x y : List ℕ) → climbs_to types steps x y ≡ true → Descends types x y) → Descends types k q
    cases None e rec =
        let none : climbs_to types (t ∷ steps) k q ≡ false = ap (λ (x : Option (List ℕ)). option_map_or (λ p. bytes_eq p q || climbs_to types steps p q) x false) e in
        cc
    cases (Some p) e rec =
        further p e (bytes_eq p q) refl (sym (ap (λ (x : Option (List ℕ)). option_map_or (λ p. bytes_eq p q || climbs_to types steps p q) x false) e) ∙ h) rec

pub descends_from : (types : List Typed) (k q : List ℕ) → descends types k q ≡ true → Descends types k q
unfolding descends
descends_from types k q h = climbed types types k q h

pub descends_to : (types : List Typed) (k q : List ℕ) → Descends types k q → descends types k q ≡ true
unfolding descends
descends_to types k q d = let s = short_walk types k q d in reached types types s.left k q s.walk s.some s.short
