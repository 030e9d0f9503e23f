-- What stands at a number stands in the list.
use Rattle.std.proofs.Common.{◌≡◌, ◌<◌, ℕ, zero, suc, List, [], ◌∷◌, length, get_or, sym, subst, inl, inr, arith}
use Rattle.pddl_terms.specs.declared.actions.Schema.{Schema}
use Rattle.pddl_types.specs.WellFormed.{Stands}

standing : (slice : List Schema) (n : ℕ) (s : Schema) → n < length slice → s ≡ get_or slice n s → Stands s slice
standing [] n s within h = absurd (omega (arith, within))
standing (t ∷ slice) zero s within h = inl h
standing (t ∷ slice) (suc n) s within h = inr (standing slice n s (omega (arith, within)) h)

-- what a list has at a number
pub stands_in : (schemas slice : List Schema) (n : ℕ) (s : Schema) → slice ≡ schemas → n < length schemas → s ≡ get_or slice n s → Stands s schemas
stands_in schemas slice n s same within h =
    subst (λ (xs : List Schema). Stands s xs) same (standing slice n s (subst (λ (xs : List Schema). n < length xs) (sym same) within) h)
