-- What patterns answer, as contracts see them.
use Rattle.std.proofs.Common.{◌≡◌, ◌<◌, ℕ, Bool, List, Option, length, ap, subst, ◌∙◌}
use Rattle.num_ends.specs.Decimal.{Decimal}
use Rattle.pddl_terms.specs.declared.names.Atom.{Atom}
use Rattle.pddl_terms.specs.declared.names.Typed.{Typed}
use Rattle.pddl_types.specs.declared.pairs.Pair.{Pair}
use Rattle.pddl_types.specs.Pairs.{objects_of}
use Rattle.pddl_types.specs.WellFormed.{Each}
use Rattle.static_facts.specs.Atoms.{atom_of, is_true_at_first, names, value_at_first}
use Rattle.static_facts.specs.Codes.{fact_code, fluent_code}
use Rattle.bound_atoms.specs.declared.atoms.AtomSlots.{AtomSlots}
use Rattle.bound_atoms.specs.Atoms.{slots_code, slots_truth, slots_value}
use Rattle.bound_atoms.specs.Patterns.{IsFactPattern, IsFluentPattern}
use Rattle.bound_atoms.proofs.Laws.{fact_code_of, fact_truth, fluent_code_of, fluent_value}

-- a pattern as contracts see it
abbrev pub Seen : Type 0
Seen = Pair × List Typed × Atom

-- a binding of its parameters to objects
abbrev pub Binds : Seen → List ℕ → Type 0
Binds v os = (length os ≡ length v.1) × Each (λ o. o < length (objects_of v.0)) os

module _ (p statics : Pair) (params : List Typed) (a : Atom) (q : AtomSlots) (os : List ℕ) (v : Seen) (is : (p, params, a) ≡ v) (same : length os ≡ length v.1)
    (known : Each (λ o. o < length (objects_of v.0)) os) where
  bound : (P : Seen → Type 0) → (length os ≡ length params → Each (λ o. o < length (objects_of p)) os → P (p, params, a)) → P v
  bound P h = subst (λ (w : Seen). Binds w os → P w) is (λ b. h b.0 b.1) (same, known)

  pub fact_code_seen : (n : ℕ) → IsFactPattern p statics params a q → n ≡ slots_code os q.symbol.number q.slots → n ≡ fact_code v.0 (atom_of v.1 (names v.0 os) v.2)
  fact_code_seen n h e =
      bound (λ (w : Seen). n ≡ fact_code w.0 (atom_of w.1 (names w.0 os) w.2))
      (λ s k. e ∙ ap (λ (x : AtomSlots). slots_code os x.symbol.number x.slots) h.is ∙ fact_code_of p h.of_pair.readable h.of_pair.well_formed params os s k a)

  pub fluent_code_seen : (n : ℕ) → IsFluentPattern p statics params a q → n ≡ slots_code os q.symbol.number q.slots → n ≡ fluent_code v.0 (atom_of v.1 (names v.0 os) v.2)
  fluent_code_seen n h e =
      bound (λ (w : Seen). n ≡ fluent_code w.0 (atom_of w.1 (names w.0 os) w.2))
      (λ s k. e ∙ ap (λ (x : AtomSlots). slots_code os x.symbol.number x.slots) h.is ∙ fluent_code_of p h.of_pair.readable h.of_pair.well_formed params os s k a)

  pub fact_truth_seen : (t : Bool) → IsFactPattern p statics params a q → t ≡ slots_truth statics os q → t ≡ is_true_at_first v.0 (atom_of v.1 (names v.0 os) v.2)
  fact_truth_seen t h e =
      bound (λ (w : Seen). t ≡ is_true_at_first w.0 (atom_of w.1 (names w.0 os) w.2))
      (λ s k. e ∙ ap (λ (x : Pair). slots_truth x os q) h.of_pair.one_pair ∙ ap (slots_truth p os) h.is ∙ fact_truth p h.of_pair.readable h.of_pair.well_formed params os s k a)

  pub fluent_value_seen : (t : Option Decimal) → IsFluentPattern p statics params a q → t ≡ slots_value statics os q → t ≡ value_at_first v.0 (atom_of v.1 (names v.0 os) v.2)
  fluent_value_seen t h e =
      bound (λ (w : Seen). t ≡ value_at_first w.0 (atom_of w.1 (names w.0 os) w.2))
      (λ s k. e ∙ ap (λ (x : Pair). slots_value x os q) h.of_pair.one_pair ∙ ap (slots_value p os) h.is ∙ fluent_value p h.of_pair.readable h.of_pair.well_formed params os s k a)
