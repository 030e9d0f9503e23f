-- Long jumps end exactly on cycles.
use Rattle.std.proofs.Common.{◌≡◌, ◌<◌, ◌≤◌, ◌⊎◌, ◌||◌, ◌+◌, ◌-◌, ◌^◌, inl, inr, ℕ, zero, suc, Bool, true, false, List, [], ◌∷◌, ◌++◌, Option, Some, None, length, map, take, drop, arith, refl, sym, ap, subst, ◌∙◌, length-append, length-drop, slice_get, if◌then◌else◌, add-one}
use Rattle.std.specs.Prelude.{bytes_eq, option_map}
use Rattle.std.specs.Option.{option_and_then}
use Rattle.std.proofs.Math.Nat.{one-le-pow, pow-suc}
use Rattle.std.proofs.lemmas.Option.{same_Some}
use Rattle.std.proofs.lemmas.List.{length-take-le, take-append-drop}
use Rattle.std.proofs.lemmas.List.Folds.{list_any-append}
use Rattle.std.proofs.lemmas.Slice.Eq.{bytes_eq-Decides}
use Rattle.pddl_terms.specs.declared.names.Typed.{Typed}
use Rattle.type_order.specs.Types.{Descends, child, above, descends, parent_of, top_type}
use Rattle.name_table.specs.TypedLists.{first_typed, names_of}
use Rattle.name_table.specs.Tables.{is_text_among, place_in, with_text}
use Rattle.type_order.specs.internal.Jumps.{far_above, jumped_again, jumps_of, there, with_ends}
use Rattle.type_order.proofs.Pigeons.{In, repeated_in}
use Rattle.type_order.proofs.Climbs.{Walk, descends_from, descends_to, join_walks, left_among, length_names, parent_among, short_walk, split_walk}

-- ---- a jump is looked up by the place of a type

-- a type that isn't declared has no jump
parent_undeclared : (types : List Typed) (k : List ℕ) → place_in k (names_of types) ≡ None → first_typed k types ≡ None
parent_undeclared [] k h = refl
parent_undeclared (t ∷ types) k h = cases (bytes_eq k t.name.text) (place_in k (names_of types)) refl refl h (parent_undeclared types k)
  where
    cases : (test : Bool) (place : Option ℕ) → bytes_eq k t.name.text ≡ test → place_in k (names_of types) ≡ place → (if test then Some 0 else option_map (λ i. i + 1) place) ≡ None
        → (place_in k (names_of types) ≡ None → first_typed k types ≡ None) → first_typed k (t ∷ types) ≡ None
    cases true place e f g rest = cc
    cases false (Some i) e f g rest = cc
    cases false None e f g rest = ap (λ (b : Bool). if b then Some t else first_typed k types) e ∙ rest f

far_undeclared : (types : List Typed) (r : ℕ) (k : List ℕ) → place_in k (names_of types) ≡ None → far_above types r k ≡ None
unfolding far_above
far_undeclared types zero k h = cases (bytes_eq k top_type) refl
  where
    cases : (test : Bool) → bytes_eq k top_type ≡ test → parent_of types k ≡ None
    cases true e = ap (λ (b : Bool). if b then None else option_map (λ t. t.kind.text) (first_typed k types)) e
    cases false e =
        ap (λ (b : Bool). if b then None else option_map (λ t. t.kind.text) (first_typed k types)) e
        ∙ ap (option_map (λ t. t.kind.text)) (parent_undeclared types k h)
far_undeclared types (suc r) k h = ap (option_and_then (far_above types r)) (far_undeclared types r k h)

at_place_of : {X : Type 0} (f : List ℕ → X) (types : List Typed) (k : List ℕ) (i : ℕ) → place_in k (names_of types) ≡ Some i → slice_get (map (λ t. f t.name.text) types) i ≡ Some (f k)
at_place_of f [] k i h = cc
at_place_of {X} f (t ∷ types) k i h = cases (bytes_eq k t.name.text) (place_in k (names_of types)) refl refl h (at_place_of f types k)
  where
    cases : (test : Bool) (place : Option ℕ) → bytes_eq k t.name.text ≡ test → place_in k (names_of types) ≡ place → (if test then Some 0 else option_map (λ j. j + 1) place) ≡ Some i
        → ((j : ℕ) → place_in k (names_of types) ≡ Some j → slice_get (map (λ s. f s.name.text) types) j ≡ Some (f k)) → slice_get (map (λ s. f s.name.text) (t ∷ types)) i ≡ Some (f k)
    cases true place e p g rest =
        let first : 0 ≡ i = cc in
        let same : k ≡ t.name.text = (bytes_eq-Decides k t.name.text).0 e in
        ap (slice_get (map (λ s. f s.name.text) (t ∷ types))) (sym first) ∙ ap (λ (x : List ℕ). Some (f x)) (sym same)
    cases false None e p g rest = cc
    cases false (Some j) e p g rest =
        let behind : j + 1 ≡ i = cc in
        ap (slice_get (map (λ s. f s.name.text) (t ∷ types))) (sym behind ∙ add-one j) ∙ rest j p

-- the jump behind a jump is one of twice as many steps
jump_twice : (types : List Typed) (r : ℕ) (end : Option (List ℕ)) → jumped_again types (jumps_of types r) end ≡ option_and_then (far_above types r) end
unfolding jumps_of
jump_twice types r None = refl
jump_twice types r (Some k) = cases (place_in k (names_of types)) refl
  where
    cases : (place : Option ℕ) → place_in k (names_of types) ≡ place
        → option_and_then (λ i. there (slice_get (map (λ t. far_above types r t.name.text) types) i)) (place_in k (names_of types)) ≡ far_above types r k
    cases None e =
        ap (option_and_then (λ i. there (slice_get (map (λ t. far_above types r t.name.text) types) i))) e ∙ sym (far_undeclared types r k e)
    cases (Some i) e =
        ap (option_and_then (λ j. there (slice_get (map (λ t. far_above types r t.name.text) types) j))) e ∙ ap there (at_place_of (far_above types r) types k i e)

pub doubled_jumps : (types : List Typed) (r : ℕ) (jumps : List (Option (List ℕ))) → jumps ≡ jumps_of types r → map (jumped_again types jumps) jumps ≡ jumps_of types (r + 1)
unfolding far_above jumps_of
doubled_jumps types r jumps e =
    ap (λ (js : List (Option (List ℕ))). map (jumped_again types js) js) e ∙ each types ∙ ap (jumps_of types) (sym (add-one r))
  where
    each : (ts : List Typed) → map (jumped_again types (jumps_of types r)) (map (λ t. far_above types r t.name.text) ts) ≡ map (λ t. far_above types (suc r) t.name.text) ts
    each [] = refl
    each (t ∷ ts) =
        ap (λ (x : Option (List ℕ)). x ∷ map (jumped_again types (jumps_of types r)) (map (λ s. far_above types r s.name.text) ts)) (jump_twice types r (far_above types r t.name.text))
        ∙ ap (λ (xs : List (Option (List ℕ))). far_above types (suc r) t.name.text ∷ xs) (each ts)

-- ---- jumps and walks

module _ (types : List Typed) where
  -- a jump is a walk of so many steps
  far_walk : (r : ℕ) (k q : List ℕ) → far_above types r k ≡ Some q → (ss : List (List ℕ)) × (length ss ≡ 2 ^ r) × Walk types ss k q
  unfolding far_above
  far_walk zero k q h = (k ∷ [], refl, (refl, (q, h, refl)))
  far_walk (suc r) k q h = cases (far_above types r k) refl h (far_walk r)
    where
      cases : (x : Option (List ℕ)) → far_above types r k ≡ x → option_and_then (far_above types r) x ≡ Some q
          → ((a b : List ℕ) → far_above types r a ≡ Some b → (ss : List (List ℕ)) × (length ss ≡ 2 ^ r) × Walk types ss a b)
          → (ss : List (List ℕ)) × (length ss ≡ 2 ^ suc r) × Walk types ss k q
      cases None e g rec = cc
      cases (Some m) e g rec =
          let first = rec k m e in
          let second = rec m q g in
          let total = length-append first.0 second.0 in
          let one = first.1 in
          let other = second.1 in
          (first.0 ++ second.0, rw pow-suc (omega arith), join_walks types first.0 second.0 k m q first.2 second.2)

  -- and a walk of so many steps is a jump
  walk_far : (r : ℕ) (ss : List (List ℕ)) (k q : List ℕ) → length ss ≡ 2 ^ r → Walk types ss k q → far_above types r k ≡ Some q
  unfolding far_above
  walk_far zero [] k q e w = absurd (omega arith)
  walk_far zero (s ∷ []) k q e w = w.1.1 ∙ ap Some w.1.2
  walk_far zero (s ∷ u ∷ ss) k q e w = absurd (omega arith)
  walk_far (suc r) ss k q e w =
      let twice : 2 ^ suc r ≡ 2 ^ r + 2 ^ r = rw pow-suc (omega arith) in
      let parts = split_walk types (take (2 ^ r) ss) (drop (2 ^ r) ss) k q (subst (λ ts. Walk types ts k q) (sym (take-append-drop (2 ^ r) ss)) w) in
      let first : length (take (2 ^ r) ss) ≡ 2 ^ r = length-take-le (2 ^ r) ss (omega arith) in
      let second : length (drop (2 ^ r) ss) ≡ 2 ^ r = omega (arith, length-drop (2 ^ r) ss) in
      ap (option_and_then (far_above types r)) (walk_far r (take (2 ^ r) ss) k parts.0 first parts.1)
      ∙ walk_far r (drop (2 ^ r) ss) parts.0 q second parts.2

  -- of two walks from one type the longer goes on where the shorter ends
  goes_on : (ss ts : List (List ℕ)) (k q m : List ℕ) → Walk types ss k q → Walk types ts k m → length ss ≤ length ts → (rest : List (List ℕ)) × Walk types rest q m
  goes_on [] ts k q m same w short = (ts, subst (λ x. Walk types ts x m) same w)
  goes_on (s ∷ ss) [] k q m v w short = absurd (omega arith)
  goes_on (s ∷ ss) (t ∷ ts) k q m v w short =
      let up : v.1.0 ≡ w.1.0 = same_Some v.1.0 w.1.0 (sym v.1.1 ∙ w.1.1) in
      goes_on ss ts v.1.0 q m v.1.2 (subst (λ x. Walk types ts x m) (sym up) w.1.2) (omega arith)

  -- a walk round a cycle may be as long as one likes
  around : (n : ℕ) (ss : List (List ℕ)) (v : List ℕ) → Walk types ss v v → 0 < length ss → (ts : List (List ℕ)) × Walk types ts v v × (n ≤ length ts)
  around zero ss v w some = (ss, w, omega arith)
  around (suc n) ss v w some =
      let further = around n ss v w some in
      let long = further.2 in
      (ss ++ further.0, join_walks types ss further.0 v v v w further.1, omega (arith, length-append ss further.0))

  descended : (ss : List (List ℕ)) (k q : List ℕ) → Walk types ss k q → 0 < length ss → Descends types k q
  descended [] k q w some = absurd (omega arith)
  descended (s ∷ []) k q w some = subst (λ x. Descends types k x) w.1.2 (child k w.1.0 w.1.1)
  descended (s ∷ u ∷ ss) k q w some = above k w.1.0 q w.1.1 (descended (u ∷ ss) w.1.0 q w.1.2 (omega arith))

  -- a jump of more steps than there are types ends on a cycle
  end_on_cycle : (r : ℕ) (s k : List ℕ) → length types < 2 ^ r → far_above types r s ≡ Some k → Descends types k k
  end_on_cycle r s k long h =
      let jump = far_walk r s k h in
      let count = jump.1 in
      let again = repeated_in jump.0 (map (λ t. t.name.text) types) (left_among types jump.0 s k jump.2) (omega (arith, length_names types)) in
      let first = split_walk types again.front (again.twice ∷ (again.between ++ again.twice ∷ again.rest)) s k (subst (λ ts. Walk types ts s k) again.split jump.2) in
      let second = split_walk types (again.twice ∷ again.between) (again.twice ∷ again.rest) first.0 k first.2 in
      let start : first.0 ≡ again.twice = first.2.0 in
      let back : second.0 ≡ again.twice = second.2.0 in
      let cycle : Walk types (again.twice ∷ again.between) again.twice again.twice =
      subst (λ x. Walk types (again.twice ∷ again.between) x again.twice) {x = first.0} start (subst (λ x. Walk types (again.twice ∷ again.between) first.0 x) {x = second.0} back second.1) in
      let down : Walk types (again.twice ∷ again.rest) again.twice k = subst (λ x. Walk types (again.twice ∷ again.rest) x k) {x = second.0} back second.2 in
      let round = around (length (again.twice ∷ again.rest)) (again.twice ∷ again.between) again.twice cycle (omega arith) in
      let return = goes_on (again.twice ∷ again.rest) round.0 again.twice k again.twice down round.1 round.2 in
      descended (return.0 ++ again.twice ∷ again.rest) k k (join_walks types return.0 (again.twice ∷ again.rest) k again.twice k return.1 down)
      (omega (arith, length-append return.0 (again.twice ∷ again.rest)))

  -- each type on a cycle is where the jump of a declared type ends
  cycle_is_end : (r : ℕ) (k : List ℕ) → Descends types k k → (s : List ℕ) × In s (map (λ t. t.name.text) types) × (far_above types r s ≡ Some k)
  cycle_is_end r k d =
      let short = short_walk types k k d in
      let some = short.some in
      let round = around (2 ^ r) short.left k short.walk some in
      let long = round.2 in
      let n = length round.0 - 2 ^ r in
      let parts = split_walk types (take n round.0) (drop n round.0) k k (subst (λ ts. Walk types ts k k) (sym (take-append-drop n round.0)) round.1) in
      let count : length (drop n round.0) ≡ 2 ^ r = omega (arith, length-drop n round.0) in
      (parts.0, left (drop n round.0) parts.0 parts.2 (omega (arith, one-le-pow r 2 (omega arith))), walk_far r (drop n round.0) parts.0 k count parts.2)
    where
      left : (ss : List (List ℕ)) (s : List ℕ) → Walk types ss s k → 0 < length ss → In s (map (λ t. t.name.text) types)
      left [] s w some = absurd (omega arith)
      left (u ∷ ss) s w some = parent_among types s w.1.0 w.1.1

-- ---- ends of jumps

abbrev Ends : List ℕ → List (Option (List ℕ)) → Type 0
Ends k [] = ⊥
Ends k (j ∷ js) = (j ≡ Some k) ⊎ Ends k js

true_or_false : (b : Bool) → (b ≡ true) ⊎ (b ≡ false)
true_or_false true = inl refl
true_or_false false = inr refl

among_last : (k u : List ℕ) (seen : List (List ℕ)) → is_text_among k (seen ++ u ∷ []) ≡ (is_text_among k seen || (bytes_eq k u || false))
among_last k u seen = list_any-append (λ t. bytes_eq k t) seen (u ∷ [])

among_before : (k u : List ℕ) (seen : List (List ℕ)) → is_text_among k (with_text seen u) ≡ true → (is_text_among k seen ≡ true) ⊎ (u ≡ k)
among_before k u seen h = elim (true_or_false (is_text_among u seen)) [
  | inl there ↦ inl (sym (ap (λ (b : Bool). is_text_among k (if b then seen else seen ++ u ∷ [])) there) ∙ h)
  | inr new ↦ last (is_text_among k seen) (bytes_eq k u) refl refl (sym (among_last k u seen) ∙ sym (ap (λ (b : Bool). is_text_among k (if b then seen else seen ++ u ∷ [])) new) ∙ h)
]
  where
    last : (a b : Bool) → is_text_among k seen ≡ a → bytes_eq k u ≡ b → (a || (b || false)) ≡ true → (is_text_among k seen ≡ true) ⊎ (u ≡ k)
    last true b e f g = inl e
    last false true e f g = inr (sym ((bytes_eq-Decides k u).0 f))
    last false false e f g = cc

among_kept : (k u : List ℕ) (seen : List (List ℕ)) → is_text_among k seen ≡ true → is_text_among k (with_text seen u) ≡ true
among_kept k u seen h = elim (true_or_false (is_text_among u seen)) [
  | inl there ↦ ap (λ (b : Bool). is_text_among k (if b then seen else seen ++ u ∷ [])) there ∙ h
  | inr new ↦ ap (λ (b : Bool). is_text_among k (if b then seen else seen ++ u ∷ [])) new ∙ among_last k u seen ∙ ap (λ (b : Bool). b || (bytes_eq k u || false)) h
]

among_added : (u : List ℕ) (seen : List (List ℕ)) → is_text_among u (with_text seen u) ≡ true
among_added u seen = elim (true_or_false (is_text_among u seen)) [
  | inl there ↦ ap (λ (b : Bool). is_text_among u (if b then seen else seen ++ u ∷ [])) there ∙ there
  | inr new ↦
      let same : bytes_eq u u ≡ true = (bytes_eq-Decides u u).1 refl in
      ap (λ (b : Bool). is_text_among u (if b then seen else seen ++ u ∷ [])) new ∙ among_last u u seen ∙ ap (λ (b : Bool). b || (bytes_eq u u || false)) new ∙ ap (λ (b : Bool). b || false) same
]

ends_from : (k : List ℕ) (seen : List (List ℕ)) (js : List (Option (List ℕ))) → is_text_among k (with_ends seen js) ≡ true → (is_text_among k seen ≡ true) ⊎ Ends k js
ends_from k seen [] h = inl h
ends_from k seen (None ∷ js) h = elim (ends_from k seen js h) [ inl e ↦ inl e | inr e ↦ inr (inr e) ]
ends_from k seen (Some u ∷ js) h = elim (ends_from k (with_text seen u) js h) [
  | inl e ↦ before (among_before k u seen e)
  | inr e ↦ inr (inr e)
]
  where
    before : (is_text_among k seen ≡ true) ⊎ (u ≡ k) → (is_text_among k seen ≡ true) ⊎ Ends k (Some u ∷ js)
    before (inl e) = inl e
    before (inr e) = inr (inl (ap Some e))

ends_kept : (k : List ℕ) (seen : List (List ℕ)) (js : List (Option (List ℕ))) → is_text_among k seen ≡ true → is_text_among k (with_ends seen js) ≡ true
ends_kept k seen [] h = h
ends_kept k seen (None ∷ js) h = ends_kept k seen js h
ends_kept k seen (Some u ∷ js) h = ends_kept k (with_text seen u) js (among_kept k u seen h)

ends_to : (k : List ℕ) (seen : List (List ℕ)) (js : List (Option (List ℕ))) → Ends k js → is_text_among k (with_ends seen js) ≡ true
ends_to k seen [] h = absurd h
ends_to k seen (None ∷ js) (inl e) = cc
ends_to k seen (None ∷ js) (inr h) = ends_to k seen js h
ends_to k seen (Some u ∷ js) (inl e) =
    ends_kept k (with_text seen u) js (subst (λ x. is_text_among x (with_text seen u) ≡ true) (same_Some u k e) (among_added u seen))
ends_to k seen (Some u ∷ js) (inr h) = ends_to k (with_text seen u) js h

jump_end : (types ts : List Typed) (r : ℕ) (s k : List ℕ) → In s (map (λ t. t.name.text) ts) → far_above types r s ≡ Some k → Ends k (map (λ t. far_above types r t.name.text) ts)
jump_end types [] r s k i h = absurd i
jump_end types (t ∷ ts) r s k (inl e) h = inl (sym (ap (far_above types r) e) ∙ h)
jump_end types (t ∷ ts) r s k (inr i) h = inr (jump_end types ts r s k i h)

jump_start : (types ts : List Typed) (r : ℕ) (k : List ℕ) → Ends k (map (λ t. far_above types r t.name.text) ts) → (s : List ℕ) × (far_above types r s ≡ Some k)
jump_start types [] r k h = absurd h
jump_start types (t ∷ ts) r k (inl e) = (t.name.text, e)
jump_start types (t ∷ ts) r k (inr h) = jump_start types ts r k h

-- the types where jumps end are those that are their own ancestors
pub ends_are_cycles : (types : List Typed) (r : ℕ) (k : List ℕ) → length types < 2 ^ r → is_text_among k (with_ends [] (jumps_of types r)) ≡ descends types k k
unfolding jumps_of
ends_are_cycles types r k long = cases (descends types k k) refl (true_or_false (is_text_among k (with_ends [] (jumps_of types r))))
  where
    cases : (b : Bool) → descends types k k ≡ b
        → (is_text_among k (with_ends [] (map (λ t. far_above types r t.name.text) types)) ≡ true) ⊎ (is_text_among k (with_ends [] (map (λ t. far_above types r t.name.text) types)) ≡ false)
        → is_text_among k (with_ends [] (map (λ t. far_above types r t.name.text) types)) ≡ b
    cases true e x =
        let end = cycle_is_end types r k (descends_from types k k e) in
        ends_to k [] (map (λ t. far_above types r t.name.text) types) (jump_end types types r end.0 k end.1 end.2)
    cases false e (inr f) = f
    cases false e (inl t) = elim (ends_from k [] (map (λ t. far_above types r t.name.text) types) t) [
      | inl none ↦ cc
      | inr h ↦
          let start = jump_start types types r k h in
          let yes = descends_to types k k (end_on_cycle types r start.0 k long start.1) in
          cc
    ]
