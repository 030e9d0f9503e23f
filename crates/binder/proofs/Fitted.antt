-- The objects that fit a parameter, one after another.
use Rattle.std.proofs.Common.{◌≡◌, ◌<◌, ◌+◌, ◌-◌, ◌++◌, ℕ, zero, suc, Bool, true, false, cond, List, [], ◌∷◌, length, Option, Some, refl, sym, ap, ◌∙◌, arith, slice_get, append_assoc}
use Rattle.std.specs.Prelude.{filter}
use Rattle.std.specs.Option.{option_map_or}
use Rattle.std.specs.List.{range_with_len}
use Rattle.pddl_terms.specs.declared.names.Typed.{Typed}
use Rattle.type_order.specs.Types.{is_within}
use Rattle.pddl_types.specs.declared.pairs.Pair.{Pair}
use Rattle.pddl_types.specs.Pairs.{objects_of}
use Rattle.static_facts.specs.Bindings.{kind_of}

abbrev pub does_fit : Pair → Typed → ℕ → Bool
does_fit p param o = is_within p.domain.types (kind_of p o) param.kind.text

abbrev pub fitting_from : Pair → Typed → ℕ → ℕ → List ℕ
fitting_from p param first count = filter (does_fit p param) (range_with_len first count)

-- the next object, which fits or doesn't
one_more : (p : Pair) (param : Typed) (objects : List ℕ) (first count : ℕ) → first < count
    → fitting_from p param first (count - first) ≡ cond (does_fit p param first) (first ∷ fitting_from p param (first + 1) (count - (first + 1))) (fitting_from p param (first + 1) (count - (first + 1)))
one_more p param objects first count l =
    let left : count - first ≡ suc (count - (first + 1)) = omega (arith, l) in
    ap (λ (n : ℕ). fitting_from p param first n) left

pub taken : (p : Pair) (param : Typed) (objects : List ℕ) (first count : ℕ) → first < count → does_fit p param first ≡ true
    → (objects ++ first ∷ []) ++ fitting_from p param (first + 1) (count - (first + 1)) ≡ objects ++ fitting_from p param first (count - first)
taken p param objects first count l h =
    append_assoc objects (first ∷ []) (fitting_from p param (first + 1) (count - (first + 1)))
    ∙ ap (λ (r : List ℕ). objects ++ r)
    (sym (one_more p param objects first count l
    ∙ ap (λ (b : Bool). cond b (first ∷ fitting_from p param (first + 1) (count - (first + 1))) (fitting_from p param (first + 1) (count - (first + 1)))) h))

pub left_out : (p : Pair) (param : Typed) (objects : List ℕ) (first count : ℕ) → first < count → does_fit p param first ≡ false
    → objects ++ fitting_from p param (first + 1) (count - (first + 1)) ≡ objects ++ fitting_from p param first (count - first)
left_out p param objects first count l h =
    ap (λ (r : List ℕ). objects ++ r)
    (sym (one_more p param objects first count l
    ∙ ap (λ (b : Bool). cond b (first ∷ fitting_from p param (first + 1) (count - (first + 1))) (fitting_from p param (first + 1) (count - (first + 1)))) h))

-- what a test of the object says
pub tested : (p : Pair) (param : Typed) (o : ℕ) (answer : Bool) → o < length (objects_of p) → ((own : Typed) → slice_get (objects_of p) o ≡ Some own → answer ≡ is_within p.domain.types own.kind.text param.kind.text)
    → answer ≡ does_fit p param o
tested p param o answer l h = cases (slice_get (objects_of p) o) refl (there (objects_of p) o l)
  where
    there : (xs : List Typed) (o : ℕ) → o < length xs → (t : Typed) × (slice_get xs o ≡ Some t)
    there [] o l = absurd (omega (arith, l))
    there (x ∷ xs) zero l = (x, refl)
    there (x ∷ xs) (suc o) l = there xs o (omega (arith, l))

    cases : (found : Option Typed) → slice_get (objects_of p) o ≡ found → (t : Typed) × (slice_get (objects_of p) o ≡ Some t) → answer ≡ does_fit p param o
    cases found e t = h t.0 t.1 ∙ sym (ap (λ (x : Option Typed). is_within p.domain.types (option_map_or (λ u. u.kind.text) x []) param.kind.text) t.1)
