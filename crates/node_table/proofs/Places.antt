-- What a map's entries say of the nodes.
use Rattle.std.proofs.Common.{◌≡◌, ◌≢◌, ℕ, ◌<◌, zero, suc, Bool, true, false, cond, List, [], ◌∷◌, map, length, slice_get, position, Option, None, Some, refl, sym, ap, subst, ◌∙◌, arith, All}
use Rattle.std.specs.List.{AllPairs, IsDistinct}
use Rattle.std.specs.Map.{keys_of, values_of, lookup, lookup_key}
use Rattle.std.proofs.lemmas.Map.Made.{AllPairs-from_IsDistinct}
use Rattle.indexmap.proofs.MapLemmas.{Found-position, Missing-position}
use Rattle.ground_task.proofs.SameStates.{same_state, state_itself}
use Rattle.ground_task.specs.Orders.{is_same_state}
use Rattle.ground_task.specs.States.{StateValue}
use Rattle.node_table.specs.Tables.{AreApart}

is_reflexive : (x y : StateValue) → x ≡ y → is_same_state x y ≡ true
is_reflexive x y e = subst (λ z. is_same_state x z ≡ true) e (state_itself x)

module _ {P : Type 0} where
  states_of : (es : List (StateValue × P)) → map (λ node. node.0) es ≡ keys_of es
  states_of [] = refl
  states_of (e ∷ es) = ap (λ ks. e.0 ∷ ks) (states_of es)

  pub are_apart : (es : List (StateValue × P)) → IsDistinct is_same_state (keys_of es) → AreApart es
  are_apart es distinct =
      subst (AllPairs (λ x y. x ≢ y)) (sym (states_of es))
      (AllPairs-from_IsDistinct (λ a b. (same_state a b, is_reflexive a b)) (keys_of es) distinct)

  -- the pair of the key at a place
  pair_at : (es : List (StateValue × P)) (i : ℕ) (k : StateValue) → slice_get (keys_of es) i ≡ Some k → (x : P) × (slice_get es i ≡ Some (k, x))
  pair_at [] i k e = cc
  pair_at (e ∷ es) zero k at = let same : e.0 ≡ k = cc in (e.1, ap (λ s. Some (s, e.1)) same)
  pair_at (e ∷ es) (suc i) k at = pair_at es i k at

  -- and of the value at a place
  pub pair_of : (es : List (StateValue × P)) (i : ℕ) (x : P) → slice_get (values_of es) i ≡ Some x → (s : StateValue) × (slice_get es i ≡ Some (s, x))
  pair_of [] i x e = cc
  pair_of (e ∷ es) zero x at = let same : e.1 ≡ x = cc in (e.0, ap (λ y. Some (e.0, y)) same)
  pair_of (e ∷ es) (suc i) x at = pair_of es i x at

  -- the key at a place of the list is there
  none_beyond : (es : List (StateValue × P)) (i : ℕ) → i < length es → slice_get (keys_of es) i ≡ None → ⊥
  none_beyond [] i within none = omega arith
  none_beyond (e ∷ es) zero within none = cc
  none_beyond (e ∷ es) (suc i) within none = none_beyond es i (omega arith) none

  passes : (s : StateValue) (es : List (StateValue × P)) (k : StateValue) → lookup_key (is_same_state s) es ≡ Some k → k ≡ s
  passes s [] k e = cc
  passes s (x ∷ es) k e = by (is_same_state s x.0) refl e (passes s es k)
    where
      by : (b : Bool) → is_same_state s x.0 ≡ b → cond b (Some x.0) (lookup_key (is_same_state s) es) ≡ Some k → (lookup_key (is_same_state s) es ≡ Some k → k ≡ s) → k ≡ s
      by true test is rest = let same : s ≡ x.0 = same_state s x.0 test in cc
      by false test is rest = rest is

  key_found : (s : StateValue) (es : List (StateValue × P)) (i : ℕ) → position (is_same_state s) (keys_of es) ≡ Some i → slice_get (keys_of es) i ≡ Some s
  key_found s es i p =
      let found = Found-position (is_same_state s) es i p in
      by (lookup_key (is_same_state s) es) refl found.key (none_beyond es i found.within)
    where
      by : (o : Option StateValue) → lookup_key (is_same_state s) es ≡ o → lookup_key (is_same_state s) es ≡ slice_get (keys_of es) i → (slice_get (keys_of es) i ≡ None → ⊥) → slice_get (keys_of es) i ≡ Some s
      by None is key there = absurd (there (sym key ∙ is))
      by (Some k) is key there = sym key ∙ is ∙ ap Some (passes s es k is)

  pub place_found : (s : StateValue) (es : List (StateValue × P)) (i : ℕ) → position (is_same_state s) (keys_of es) ≡ Some i → (x : P) × (slice_get es i ≡ Some (s, x))
  place_found s es i p = pair_at es i s (key_found s es i p)

  none_apart : (s : StateValue) (es : List (StateValue × P)) → lookup (is_same_state s) es ≡ None → All (λ node. node.0 ≢ s) es
  none_apart s [] none k d within same = omega arith
  none_apart s (x ∷ es) none zero d within same =
      let test : is_same_state s x.0 ≡ true = is_reflexive s x.0 (sym same) in
      let is : Some x.1 ≡ None = sym (ap (λ b. cond b (Some x.1) (lookup (is_same_state s) es)) test) ∙ none in
      cc
  none_apart s (x ∷ es) none (suc k) d within same = none_apart s es (by (is_same_state s x.0) none) k d (omega arith) same
    where
      by : (b : Bool) → cond b (Some x.1) (lookup (is_same_state s) es) ≡ None → lookup (is_same_state s) es ≡ None
      by true is = cc
      by false is = is

  pub place_missing : (s : StateValue) (es : List (StateValue × P)) → position (is_same_state s) (keys_of es) ≡ None → All (λ node. node.0 ≢ s) es
  place_missing s es p = none_apart s es (Missing-position (is_same_state s) es p).value

  -- a state that is no node's is no key
  pub no_key : (s : StateValue) (es : List (StateValue × P)) → All (λ node. node.0 ≢ s) es → lookup (is_same_state s) es ≡ None
  no_key s [] apart = refl
  no_key s (x ∷ es) apart = by (is_same_state s x.0) refl (no_key s es (λ k d within. apart (suc k) d (omega arith)))
    where
      by : (b : Bool) → is_same_state s x.0 ≡ b → lookup (is_same_state s) es ≡ None → cond b (Some x.1) (lookup (is_same_state s) es) ≡ None
      by true test rest = absurd (apart zero x (omega arith) (sym (same_state s x.0 test)))
      by false test rest = rest
