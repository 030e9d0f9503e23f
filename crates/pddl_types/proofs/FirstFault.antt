-- The first of the faults is one of them, and none of them comes before it.
use Rattle.std.proofs.Common.{◌≡◌, ◌↔◌, ℕ, Bool, true, false, ◌&&◌, ◌||◌, inl, inr, List, [], ◌∷◌, All, Contains, Some, None, refl, sym, ap, subst, ◌∙◌, arith}
use Rattle.std.specs.Prelude.{nat_lt, ◌==◌, fold, if◌then◌else◌}
use Rattle.std.proofs.lemmas.Bool.{cases_Bool, false_from_ne_true, true≢false}
use Rattle.std.proofs.lemmas.Bool.Decides.{nat_tests}
use Rattle.std.proofs.lemmas.Option.{same_Some}
use Rattle.std.proofs.lemmas.List.Elements.{All-nil, All-cons, Contains-push, Contains-append_left, Contains-append_right, Contains-append_cases}
use Rattle.pddl_types.specs.declared.faults.Fault.{Fault}
use Rattle.pddl_types.specs.Faults.{is_earlier, with_fault, kind_rank, side_rank, earliest_fault}

-- ---- the order of faults, by files, positions and ranks

abbrev comes_there : ℕ → ℕ → ℕ → ℕ → Bool
comes_there a r b s = nat_lt a b || (a == b && nat_lt r s)

abbrev comes_before : ℕ → ℕ → ℕ → ℕ → ℕ → ℕ → Bool
comes_before x a r y b s = nat_lt x y || (x == y && comes_there a r b s)

never_itself : (x a r : ℕ) → comes_before x a r x a r ≡ false
never_itself x a r = grind (arith, nat_tests)

passes_on : (x a r y b s z c t : ℕ) → comes_before x a r y b s ≡ true → comes_before y b s z c t ≡ true → comes_before x a r z c t ≡ true
passes_on x a r y b s z c t h k = grind (arith, nat_tests)

fails_on : (x a r y b s z c t : ℕ) → comes_before x a r y b s ≡ false → comes_before y b s z c t ≡ false → comes_before x a r z c t ≡ false
fails_on x a r y b s z c t h k = grind (arith, nat_tests)

before_trans : (f g h : Fault) → is_earlier f g ≡ true → is_earlier g h ≡ true → is_earlier f h ≡ true
before_trans f g h =
    passes_on (side_rank f.side) f.name.at (kind_rank f.kind) (side_rank g.side) g.name.at (kind_rank g.kind) (side_rank h.side) h.name.at (kind_rank h.kind)

not_before_trans : (f g h : Fault) → is_earlier f g ≡ false → is_earlier g h ≡ false → is_earlier f h ≡ false
not_before_trans f g h =
    fails_on (side_rank f.side) f.name.at (kind_rank f.kind) (side_rank g.side) g.name.at (kind_rank g.kind) (side_rank h.side) h.name.at (kind_rank h.kind)

not_before_itself : (f : Fault) → is_earlier f f ≡ false
not_before_itself f = never_itself (side_rank f.side) f.name.at (kind_rank f.kind)

-- ---- the first so far

abbrev IsFirstOf : Fault → List Fault → Type 0
IsFirstOf f fs = Contains fs f × All (λ g. is_earlier g f ≡ false) fs

first_behind : (start : Fault) (fs : List Fault) (f : Fault) → fold with_fault (Some start) fs ≡ Some f → Contains (start ∷ fs) f × (is_earlier start f ≡ false) × All (λ g. is_earlier g f ≡ false) fs
first_behind start [] f e =
    let same = same_Some start f e in
    (subst (Contains (start ∷ [])) same (Contains-push [] start), subst (λ (g : Fault). is_earlier start g ≡ false) same (not_before_itself start), All-nil (λ g. is_earlier g f ≡ false))
first_behind start (g ∷ gs) f e =
    elim (cases_Bool (is_earlier g start)) [
      | inl t ↦
          let rest = first_behind g gs f (sym (ap (λ (b : Bool). fold with_fault (if b then Some g else Some start) gs) t) ∙ e) in
          (Contains-append_right (start ∷ []) (g ∷ gs) f rest.0, false_from_ne_true (is_earlier start f) (λ b. true≢false (sym (before_trans g start f t b) ∙ rest.1)), All-cons (λ h. is_earlier h f ≡ false) g gs rest.1 rest.2)
      | inr n ↦
          let rest = first_behind start gs f (sym (ap (λ (b : Bool). fold with_fault (if b then Some g else Some start) gs) n) ∙ e) in
          let within : Contains (start ∷ g ∷ gs) f = elim (Contains-append_cases (start ∷ []) gs f rest.0) [
            | inl here ↦ Contains-append_left (start ∷ []) (g ∷ gs) f here
            | inr later ↦ Contains-append_right (start ∷ g ∷ []) gs f later
          ] in
          (within, rest.1, All-cons (λ h. is_earlier h f ≡ false) g gs (not_before_trans g start f n rest.1) rest.2)
    ]

pub first_is_first : (fs : List Fault) (f : Fault) → earliest_fault fs ≡ Some f → Contains fs f × All (λ g. is_earlier g f ≡ false) fs
first_is_first [] f e = cc
first_is_first (g ∷ gs) f e =
    let found = first_behind g gs f e in
    (found.0, All-cons (λ h. is_earlier h f ≡ false) g gs found.1 found.2)

some_behind : (start : Fault) (fs : List Fault) → fold with_fault (Some start) fs ≡ None → ⊥
some_behind start [] e = cc
some_behind start (g ∷ gs) e =
    elim (cases_Bool (is_earlier g start)) [
      | inl t ↦ some_behind g gs (sym (ap (λ (b : Bool). fold with_fault (if b then Some g else Some start) gs) t) ∙ e)
      | inr n ↦ some_behind start gs (sym (ap (λ (b : Bool). fold with_fault (if b then Some g else Some start) gs) n) ∙ e)
    ]

pub none_first : (fs : List Fault) → (earliest_fault fs ≡ None) ↔ (fs ≡ [])
none_first [] = (λ e. refl, λ e. refl)
none_first (g ∷ gs) = (λ e. absurd (some_behind g gs e), λ e. cc)
