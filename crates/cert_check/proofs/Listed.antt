-- A set has the states of a list.
use Rattle.std.proofs.Common.{◌≡◌, ◌<◌, ◌+◌, ◌||◌, ℕ, zero, suc, Bool, true, false, List, [], ◌∷◌, ◌++◌, Some, map, length, drop, take, get_or, slice_get, inl, inr, refl, sym, ap, subst, ◌∙◌, if◌then◌else◌}
use Rattle.std.specs.List.{list_any}
use Rattle.std.proofs.lemmas.Bool.{both_ways}
use Rattle.std.proofs.lemmas.List.{drop_more, take_more}
use Rattle.indexmap.specs.IndexSet.{insert_key}
use Rattle.ground_task.proofs.SameStates.{same_state, state_itself}
use Rattle.ground_task.specs.Orders.{is_same_state}
use Rattle.ground_task.specs.States.{StateValue}
use Rattle.ground_task.specs.Tasks.{TaskValue}
use Rattle.box_model.specs.Boxes.{Contains}
use Rattle.box_model.specs.declared.state_box.StateBox.{StateBox}
use Rattle.dead_ends.specs.Certificates.{IsCovered}
use Rattle.search_runs.specs.KeptBoxes.{IsInNone}
use Rattle.search_runs.specs.Spaces.{IsListed}
use Rattle.cert_check.specs.Sets.{with_state}

or_none : (b : Bool) → (b || false) ≡ b
or_none true = refl
or_none false = refl

or_grouped : (a b c : Bool) → ((a || b) || c) ≡ (a || (b || c))
or_grouped true b c = refl
or_grouped false b c = refl

-- ---- keys that stand for states

module _ {K : Type 0} (state : K → StateValue) where
  pub any_key : (key : K) (ks : List K) → list_any (λ k. is_same_state (state key) (state k)) ks ≡ list_any (is_same_state (state key)) (map state ks)
  any_key key [] = refl
  any_key key (k ∷ ks) = ap (λ (b : Bool). is_same_state (state key) (state k) || b) (any_key key ks)

  last_key : (key : K) (ks : List K) → map state (ks ++ key ∷ []) ≡ map state ks ++ state key ∷ []
  last_key key [] = refl
  last_key key (k ∷ ks) = ap (λ (r : List StateValue). state k ∷ r) (last_key key ks)

  pub added_key : (key : K) (ks : List K) → map state (insert_key (λ x y. is_same_state (state x) (state y)) ks key) ≡ with_state (map state ks) (state key)
  added_key key ks = cases (list_any (λ k. is_same_state (state key) (state k)) ks) (any_key key ks)
    where
      cases : (test : Bool) → test ≡ list_any (is_same_state (state key)) (map state ks)
          → map state (if test then ks else ks ++ key ∷ []) ≡ with_state (map state ks) (state key)
      cases true e = ap (λ (b : Bool). if b then map state ks else map state ks ++ state key ∷ []) e
      cases false e = last_key key ks ∙ ap (λ (b : Bool). if b then map state ks else map state ks ++ state key ∷ []) e

-- ---- a state that is listed is found, and no other

pub listed : (s : StateValue) (xs : List StateValue) → list_any (is_same_state s) xs ≡ true → IsListed xs s
listed s [] h = cc
listed s (x ∷ xs) h = by (is_same_state s x) refl h (listed s xs)
  where
    by : (b : Bool) → is_same_state s x ≡ b → (b || list_any (is_same_state s) xs) ≡ true → (list_any (is_same_state s) xs ≡ true → IsListed xs s) → IsListed (x ∷ xs) s
    by true e k rest = (zero, ap Some (sym (same_state s x e)))
    by false e k rest = let later = rest k in (suc later.0, later.1)

pub found : (s : StateValue) (xs : List StateValue) (n : ℕ) → slice_get xs n ≡ Some s → list_any (is_same_state s) xs ≡ true
found s [] n at = cc
found s (x ∷ xs) zero at =
    let same : x ≡ s = cc in
    ap (λ (b : Bool). b || list_any (is_same_state s) xs) (subst (λ (y : StateValue). is_same_state s y ≡ true) (sym same) (state_itself s))
found s (x ∷ xs) (suc n) at = by (is_same_state s x) (found s xs n at)
  where
    by : (b : Bool) → list_any (is_same_state s) xs ≡ true → (b || list_any (is_same_state s) xs) ≡ true
    by true k = refl
    by false k = k

-- ---- a state is added

any_last : (p : StateValue → Bool) (xs : List StateValue) (x : StateValue) → list_any p (xs ++ x ∷ []) ≡ (list_any p xs || p x)
any_last p [] x = or_none (p x)
any_last p (y ∷ ys) x = ap (λ (b : Bool). p y || b) (any_last p ys x) ∙ sym (or_grouped (p y) (list_any p ys) (p x))

added : (s x : StateValue) (xs : List StateValue) → list_any (is_same_state s) (with_state xs x) ≡ (list_any (is_same_state s) xs || is_same_state s x)
added s x xs = cases (list_any (is_same_state x) xs) refl
  where
    here : (b : Bool) → is_same_state s x ≡ b → list_any (is_same_state x) xs ≡ true → list_any (is_same_state s) xs ≡ (list_any (is_same_state s) xs || b)
    here false e k = sym (or_none (list_any (is_same_state s) xs))
    here true e k =
        let there : list_any (is_same_state s) xs ≡ true = subst (λ (y : StateValue). list_any (is_same_state y) xs ≡ true) (sym (same_state s x e)) k in
        there ∙ sym (ap (λ (b : Bool). b || true) there)

    cases : (test : Bool) → list_any (is_same_state x) xs ≡ test → list_any (is_same_state s) (if test then xs else xs ++ x ∷ []) ≡ (list_any (is_same_state s) xs || is_same_state s x)
    cases true e = here (is_same_state s x) refl e
    cases false e = any_last (is_same_state s) xs x

-- the next state of a list is added, and the rest is left
pub next_added : (set new states : List StateValue) (i : ℕ) (x : StateValue) → i < length states → x ≡ get_or states i x → new ≡ with_state set x
    → ((s : StateValue) → (list_any (is_same_state s) set || list_any (is_same_state s) (drop i states)) ≡ list_any (is_same_state s) states)
    → (s : StateValue) → (list_any (is_same_state s) new || list_any (is_same_state s) (drop (i + 1) states)) ≡ list_any (is_same_state s) states
next_added set new states i x within is put before s =
    let rest : Bool = list_any (is_same_state s) (drop (i + 1) states) in
    let front : drop i states ≡ x ∷ drop (i + 1) states = drop_more states i x within ∙ ap (λ (y : StateValue). y ∷ drop (i + 1) states) (sym is) in
    ap (λ (xs : List StateValue). list_any (is_same_state s) xs || rest) put
    ∙ ap (λ (b : Bool). b || rest) (added s x set)
    ∙ or_grouped (list_any (is_same_state s) set) (is_same_state s x) rest
    ∙ ap (λ (xs : List StateValue). list_any (is_same_state s) set || list_any (is_same_state s) xs) (sym front)
    ∙ before s

-- with nothing left
pub all_added : (set states : List StateValue) (s : StateValue) → (list_any (is_same_state s) set || list_any (is_same_state s) []) ≡ list_any (is_same_state s) states
    → list_any (is_same_state s) set ≡ list_any (is_same_state s) states
all_added set states s h = sym (or_none (list_any (is_same_state s) set)) ∙ h

-- ---- covered states

module _ (t : TaskValue) (boxes : List StateBox) (states : List StateValue) (s : StateValue) where
  pub covered_by_line : list_any (is_same_state s) states ≡ true → IsCovered t boxes states s
  covered_by_line there = inl (listed s states there)

  pub not_covered : list_any (is_same_state s) states ≡ false → IsInNone (Contains t.places) boxes s → IsCovered t boxes states s → ⊥
  not_covered missing none (inl at) = both_ways (list_any (is_same_state s) states) missing (found s states at.0 at.1)
  not_covered missing none (inr (b, own, at, contains)) = none b own at contains

-- ---- copied lists

pub one_kept : {X : Type 0} (kept new xs : List X) (i : ℕ) (x : X) → i < length xs → x ≡ get_or xs i x → kept ≡ take i xs → new ≡ kept ++ x ∷ [] → new ≡ take (i + 1) xs
one_kept {X} kept new xs i x within at before is =
    is ∙ ap (λ (ks : List X). ks ++ x ∷ []) before ∙ ap (λ (y : X). take i xs ++ y ∷ []) at ∙ sym (take_more xs i x within)
