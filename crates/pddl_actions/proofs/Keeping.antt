-- The effects that are kept one after another are those that fit, and the place past the limit is that of the 257th.
use Rattle.std.proofs.Common.{◌≡◌, ℕ, ◌+◌, ◌<◌, ◌≤◌, Bool, true, false, min, List, [], ◌∷◌, ◌++◌, Option, Some, None, drop, length, refl, sym, ap, ap₂, ◌∙◌, arith, append_assoc, length-append}
use Rattle.std.specs.Prelude.{fold, nat_lt, if◌then◌else◌}
use Rattle.std.proofs.lemmas.Bool.Decides.{nat_tests}
use Rattle.std.proofs.lemmas.List.{append-nil, drop_all, drop-append-le}
use Rattle.pddl_terms.specs.declared.actions.Effect.{Effect}
use Rattle.pddl_actions.specs.declared.effects.Gathered.{Gathered}
use Rattle.pddl_actions.specs.Kept.{fitting, first_place, kept_of}
use Rattle.pddl_actions.specs.internal.EffectSteps.{gathered_of, no_effects, with_effect, with_kept, with_past}

abbrev Single : Type 0
Single = ℕ × Option Effect

kept_more : (fs : List Single) (f : Single) → with_kept (kept_of fs) (fitting f.1) ≡ kept_of (fs ++ f ∷ [])
kept_more [] f = by_value (fitting f.1) refl
  where
    by_value : (v : Option Effect) → fitting f.1 ≡ v → with_kept [] (fitting f.1) ≡ kept_of (f ∷ [])
    by_value None e = rw e refl
    by_value (Some x) e = rw e refl
kept_more (g ∷ gs) f = by_value (kept_more gs f) (fitting g.1) refl
  where
    shifted : (x : Effect) (xs : List Effect) (v : Option Effect) → with_kept (x ∷ xs) v ≡ x ∷ with_kept xs v
    shifted x xs None = refl
    shifted x xs (Some y) = refl

    by_value : with_kept (kept_of gs) (fitting f.1) ≡ kept_of (gs ++ f ∷ []) → (v : Option Effect) → fitting g.1 ≡ v → with_kept (kept_of (g ∷ gs)) (fitting f.1) ≡ kept_of (g ∷ (gs ++ f ∷ []))
    by_value rest None e = rw e rest
    by_value rest (Some x) e = rw e (shifted x (kept_of gs) (fitting f.1) ∙ ap (λ (xs : List Effect). x ∷ xs) rest)

-- the first place past so many, with one more
past_more : (n : ℕ) (fs : List Single) (f : Single) → (if nat_lt (min (length fs) n) n then first_place (drop n fs) else with_past f.0 (first_place (drop n fs))) ≡ first_place (drop n (fs ++ f ∷ []))
past_more n fs f = by_test (nat_lt (min (length fs) n) n) refl
  where
    one_more : (xs : List Single) → with_past f.0 (first_place xs) ≡ first_place (xs ++ f ∷ [])
    one_more [] = refl
    one_more (x ∷ xs) = refl

    by_test : (b : Bool) → nat_lt (min (length fs) n) n ≡ b → (if nat_lt (min (length fs) n) n then first_place (drop n fs) else with_past f.0 (first_place (drop n fs))) ≡ first_place (drop n (fs ++ f ∷ []))
    by_test true e =
        let few : length fs < n = grind (arith, nat_tests) in
        let longer : length (fs ++ f ∷ []) ≤ n = omega (arith, length-append fs (f ∷ [])) in
        ap (λ (b : Bool). if b then first_place (drop n fs) else with_past f.0 (first_place (drop n fs))) e
        ∙ ap first_place (drop_all n fs (omega arith))
        ∙ ap first_place (sym (drop_all n (fs ++ f ∷ []) longer))
    by_test false e =
        let many : n ≤ length fs = grind (arith, nat_tests) in
        ap (λ (b : Bool). if b then first_place (drop n fs) else with_past f.0 (first_place (drop n fs))) e
        ∙ one_more (drop n fs)
        ∙ ap first_place (sym (drop-append-le n fs (f ∷ []) many))

count_more : (n m : ℕ) → (if nat_lt (min m n) n then min m n + 1 else min m n) ≡ min (m + 1) n
count_more n m = by_test (nat_lt (min m n) n) refl
  where
    by_test : (b : Bool) → nat_lt (min m n) n ≡ b → (if nat_lt (min m n) n then min m n + 1 else min m n) ≡ min (m + 1) n
    by_test true e =
        let few : m < n = grind (arith, nat_tests) in
        ap (λ (b : Bool). if b then min m n + 1 else min m n) e ∙ omega arith
    by_test false e =
        let many : n ≤ m = grind (arith, nat_tests) in
        ap (λ (b : Bool). if b then min m n + 1 else min m n) e ∙ omega arith

one_more : (fs : List Single) (f : Single) → with_effect (gathered_of fs) f ≡ gathered_of (fs ++ f ∷ [])
one_more fs f =
    let long : length fs + 1 ≡ length (fs ++ f ∷ []) = omega (arith, length-append fs (f ∷ [])) in
    let count = count_more 256 (length fs) ∙ ap (λ (m : ℕ). min m 256) long in
    ap₂ (λ (kept : List Effect) (rest : ℕ × Option ℕ). record { kept = kept; count = rest.0; past = rest.1 })
    (kept_more fs f)
    (ap₂ (λ (n : ℕ) (p : Option ℕ). (n, p)) count (past_more 256 fs f))

gathered_after : (fs gs : List Single) → fold with_effect (gathered_of fs) gs ≡ gathered_of (fs ++ gs)
gathered_after fs [] = ap gathered_of (sym (append-nil fs))
gathered_after fs (g ∷ gs) =
    ap (λ (s : Gathered). fold with_effect s gs) (one_more fs g)
    ∙ gathered_after (fs ++ g ∷ []) gs
    ∙ ap gathered_of (append_assoc fs (g ∷ []) gs)

-- what is gathered one after another from nothing
pub gathered_all : (fs : List Single) → fold with_effect no_effects fs ≡ gathered_of fs
gathered_all fs = gathered_after [] fs
