-- Effects that are sound by themselves, and of which none is joined to another, fold without a fault.
use Rattle.std.proofs.Common.{◌≡◌, ◌+◌, ◌&&◌, ◌==◌, ◌++◌, ℕ, Bool, true, false, not, List, [], ◌∷◌, Option, Some, None, refl, sym, ap, ◌∙◌}
use Rattle.std.specs.Prelude.{Result, Ok, Err, is_some, option_map, if◌then◌else◌}
use Rattle.std.specs.List.{list_all}
use Rattle.std.proofs.lemmas.Bool.{and_parts}
use Rattle.num_ends.specs.Decimal.{Decimal, origin}
use Rattle.pddl_terms.specs.declared.actions.Assign.{Assign}
use Rattle.pddl_terms.specs.declared.actions.Assign.TheVariants as how
use Rattle.pddl_terms.specs.declared.expressions.Op.TheVariants as op
use Rattle.pddl_types.specs.WellFormed.{Each}
use Rattle.pddl_meaning.specs.Effects.{is_joined}
use Rattle.pddl_meaning.specs.Values.{in_bounds}
use Rattle.ground_task.specs.declared.raw.GExpr.TheVariants as e
use Rattle.ground_meaning.specs.Results.{after, mapped}
use Rattle.ground_meaning.specs.Expressions.{FoldFault, Operand, as_expression, constant_or, difference, sum}
use Rattle.ground_meaning.specs.Expressions.FoldFault.{OutOfRange}
use Rattle.ground_meaning.specs.Expressions.Operand.{constant, computed}
use Rattle.ground_meaning.specs.Actions.{FoldedChange, growth, is_growth_of, replacement, with_change}
use Rattle.bound_actions.specs.Patterns.{fluent_code_by}
use Rattle.term_verdicts.specs.Verdicts.{constant_of, fault_alone}
use Rattle.folding.specs.declared.changes.ChangePattern.{ChangePattern}
use Rattle.folding.specs.internal.Changes.{folded_by, growth_place, with_patterns}
use Rattle.folding.specs.internal.Sound.{alone, are_distinct, are_sound, has_negation, is_answered, is_sound}
use Rattle.folding.proofs.Grown.{first_one}

-- ---- one effect

negated : (found : Option Decimal) → is_answered (constant_or OutOfRange found) ≡ is_some found
negated None = refl
negated (Some c) = refl

decrease_of : (v : Operand) → is_answered (difference (constant origin) v) ≡ has_negation (constant_of v)
decrease_of (constant c) = negated (in_bounds op.Sub origin c)
decrease_of (computed g) = refl

decrease_answer : (r : Result Operand FoldFault) (v : Option Decimal) → mapped constant_of r ≡ Ok v → has_negation v ≡ is_answered (after (λ u. difference (constant origin) u) r)
decrease_answer (Ok u) v h = let same : constant_of u ≡ v = cc in ap has_negation (sym same) ∙ sym (decrease_of u)
decrease_answer (Err f) v h = cc

decrease_refused : (r : Result Operand FoldFault) (f : FoldFault) → mapped constant_of r ≡ Err f → false ≡ is_answered (after (λ u. difference (constant origin) u) r)
decrease_refused (Ok u) f h = cc
decrease_refused (Err g) f h = refl

value_answer : (r : Result Operand FoldFault) (u : Unit {0}) → fault_alone r ≡ Ok u → true ≡ is_answered r
value_answer (Ok a) u h = refl
value_answer (Err f) u h = cc

value_refused : (r : Result Operand FoldFault) (f : FoldFault) → r ≡ Err f → false ≡ is_answered r
value_refused r f h = sym (ap is_answered h)

answered_twice : (r : Result Operand FoldFault) → is_answered r ≡ is_answered (after (λ v. Ok v) r)
answered_twice (Ok v) = refl
answered_twice (Err f) = refl

module _ (os : List ℕ) (q : ChangePattern) where
  pub decrease_sound : (v : Option Decimal) → mapped constant_of (folded_by os q.value) ≡ Ok v → q.how ≡ how.Down → has_negation v ≡ is_sound os q
  decrease_sound v h is = decrease_answer (folded_by os q.value) v h ∙ ap (λ (d : Assign). is_answered (after (alone d) (folded_by os q.value))) (sym is)

  pub decrease_unsound : (f : FoldFault) → mapped constant_of (folded_by os q.value) ≡ Err f → q.how ≡ how.Down → false ≡ is_sound os q
  decrease_unsound f h is = decrease_refused (folded_by os q.value) f h ∙ ap (λ (d : Assign). is_answered (after (alone d) (folded_by os q.value))) (sym is)

  pub value_sound : (u : Unit {0}) → fault_alone (folded_by os q.value) ≡ Ok u → true ≡ is_answered (folded_by os q.value)
  value_sound u h = value_answer (folded_by os q.value) u h

  pub value_unsound : (f : FoldFault) → folded_by os q.value ≡ Err f → false ≡ is_answered (folded_by os q.value)
  value_unsound f h = value_refused (folded_by os q.value) f h

  pub set_sound : q.how ≡ how.Set → is_answered (folded_by os q.value) ≡ is_sound os q
  set_sound is = answered_twice (folded_by os q.value) ∙ ap (λ (d : Assign). is_answered (after (alone d) (folded_by os q.value))) (sym is)

  pub up_sound : q.how ≡ how.Up → is_answered (folded_by os q.value) ≡ is_sound os q
  up_sound is = answered_twice (folded_by os q.value) ∙ ap (λ (d : Assign). is_answered (after (alone d) (folded_by os q.value))) (sym is)

  pub scale_sound : q.how ≡ how.Scale → is_answered (folded_by os q.value) ≡ is_sound os q
  scale_sound is = answered_twice (folded_by os q.value) ∙ ap (λ (d : Assign). is_answered (after (alone d) (folded_by os q.value))) (sym is)

-- ---- one effect after others

and_false : (b : Bool) → (b && false) ≡ false
and_false true = refl
and_false false = refl

and_true : (b : Bool) → (b && true) ≡ b
and_true true = refl
and_true false = refl

turned : (b : Bool) → not b ≡ true → b ≡ false
turned true h = cc
turned false h = refl

pub growth_behind : (y : ℕ) (d : FoldedChange) → is_growth_of y d ≡ false → (changes : List FoldedChange) → growth_place y changes ≡ None → growth_place y (changes ++ d ∷ []) ≡ None
growth_behind y d other [] h = ap (λ (test : Bool). if test then Some 0 else option_map (λ i. i + 1) None) other
growth_behind y d other (c ∷ changes) h = by_test (is_growth_of y c) h (growth_behind y d other changes)
  where
    by_test : (test : Bool) → (if test then Some 0 else option_map (λ i. i + 1) (growth_place y changes)) ≡ None → (growth_place y changes ≡ None → growth_place y (changes ++ d ∷ []) ≡ None)
        → (if test then Some 0 else option_map (λ i. i + 1) (growth_place y (changes ++ d ∷ []))) ≡ None
    by_test true k more = cc
    by_test false k more = ap (option_map (λ i. i + 1)) (more (none_later (growth_place y changes) k))
      where
        none_later : (found : Option ℕ) → option_map (λ i. i + 1) found ≡ None → found ≡ None
        none_later None k = refl
        none_later (Some i) k = cc

-- the effect stands behind the changes so far, and a later one that is distinct from it isn't joined to it
record IsAppended (h : Assign) (x : ℕ) (v : Operand) (changes : List FoldedChange) : Type 0 where
  change : FoldedChange
  gives : with_change h x v changes ≡ Ok (changes ++ change ∷ [])
  apart : (y : ℕ) → not (is_joined h && (x == y)) ≡ true → is_growth_of y change ≡ false

decreased : (x : ℕ) (v : Operand) (changes : List FoldedChange) → growth_place x changes ≡ None → (r : Result Operand FoldFault) → difference (constant origin) v ≡ r → is_answered r ≡ true
    → IsAppended how.Down x v changes
decreased x v changes none (Ok w) is h = record {
  change = growth x w;
  gives = first_one (λ old. difference old v) (difference (constant origin) v) x changes none ∙ ap (mapped (λ u. changes ++ growth x u ∷ [])) is;
  apart = λ y k. and_true (x == y) ∙ turned (x == y) k;
}
decreased x v changes none (Err f) is h = cc

scaled : (x : ℕ) (v : Operand) (changes : List FoldedChange) → IsAppended how.Scale x v changes
scaled x v changes = record {
  change = replacement x (computed (e.Mul (e.Read x) (as_expression v)));
  gives = refl;
  apart = λ y k. and_false (x == y);
}

appended : (h : Assign) (x : ℕ) (v : Operand) (changes : List FoldedChange) → (is_joined h ≡ true → growth_place x changes ≡ None) → is_answered (alone h v) ≡ true → IsAppended h x v changes
appended how.Set x v changes none sound = record { change = replacement x v; gives = refl; apart = λ y k. and_false (x == y) }
appended how.Up x v changes none sound = record {
  change = growth x v;
  gives = first_one (λ old. sum old v) (Ok v) x changes (none refl);
  apart = λ y k. and_true (x == y) ∙ turned (x == y) k;
}
appended how.Down x v changes none sound = decreased x v changes (none refl) (difference (constant origin) v) refl sound
appended how.Scale x v changes none sound = scaled x v changes

-- ---- one effect after another

module _ (os : List ℕ) where
  -- none so far is joined to it
  abbrev IsFresh : List FoldedChange → ChangePattern → Type 0
  IsFresh changes q = is_joined q.how ≡ true → growth_place (fluent_code_by os q.fluent) changes ≡ None

  distinct_by : (a b c : Bool) → not (a && (b && c)) ≡ true → b ≡ true → not (a && c) ≡ true
  distinct_by true true c h k = h
  distinct_by true false c h k = cc
  distinct_by false b c h k = refl

  still_fresh : (q : ChangePattern) (v : Operand) (changes : List FoldedChange) (a : IsAppended q.how (fluent_code_by os q.fluent) v changes) (rs : List ChangePattern) → Each (IsFresh changes) rs
      → list_all (are_distinct os q) rs ≡ true → Each (IsFresh (changes ++ a.change ∷ [])) rs
  still_fresh q v changes a [] fresh h = tt
  still_fresh q v changes a (r ∷ rs) fresh h =
      let parts = and_parts (are_distinct os q r) (list_all (are_distinct os q) rs) h in (
        λ joined. growth_behind (fluent_code_by os r.fluent) a.change
            (a.apart (fluent_code_by os r.fluent) (distinct_by (is_joined q.how) (is_joined r.how) (fluent_code_by os q.fluent == fluent_code_by os r.fluent) parts.0 joined)) changes (fresh.0 joined),
        still_fresh q v changes a rs fresh.1 parts.1,
      )

  -- what follows is answered
  module _ (q : ChangePattern) (qs : List ChangePattern) (changes : List FoldedChange) (fresh : IsFresh changes q) (later_fresh : Each (IsFresh changes) qs)
      (distinct : list_all (are_distinct os q) qs ≡ true) (more : (further : List FoldedChange) → Each (IsFresh further) qs → is_answered (with_patterns os further qs) ≡ true) where
    with_appended : (v : Operand) → IsAppended q.how (fluent_code_by os q.fluent) v changes
        → is_answered (after (λ further. with_patterns os further qs) (with_change q.how (fluent_code_by os q.fluent) v changes)) ≡ true
    with_appended v a =
        ap (λ (r : Result (List FoldedChange) FoldFault). is_answered (after (λ further. with_patterns os further qs) r)) a.gives
        ∙ more (changes ++ a.change ∷ []) (still_fresh q v changes a qs later_fresh distinct)

    with_answer : (r : Result Operand FoldFault) → is_answered (after (alone q.how) r) ≡ true
        → is_answered (after (λ further. with_patterns os further qs) (after (λ v. with_change q.how (fluent_code_by os q.fluent) v changes) r)) ≡ true
    with_answer (Ok v) h = with_appended v (appended q.how (fluent_code_by os q.fluent) v changes fresh h)
    with_answer (Err f) h = cc

  sound_fold : (qs : List ChangePattern) (changes : List FoldedChange) → Each (IsFresh changes) qs → are_sound os qs ≡ true → is_answered (with_patterns os changes qs) ≡ true
  sound_fold [] changes fresh h = refl
  sound_fold (q ∷ qs) changes fresh h =
      let parts = and_parts (is_sound os q) (list_all (are_distinct os q) qs && are_sound os qs) h in
      let rest = and_parts (list_all (are_distinct os q) qs) (are_sound os qs) parts.1 in
      with_answer q qs changes fresh.0 fresh.1 rest.0 (λ further k. sound_fold qs further k rest.1) (folded_by os q.value) parts.0

  none_so_far : (qs : List ChangePattern) → Each (IsFresh []) qs
  none_so_far [] = tt
  none_so_far (q ∷ qs) = (λ joined. refl, none_so_far qs)

  pub all_sound : (qs : List ChangePattern) → are_sound os qs ≡ true → is_answered (with_patterns os [] qs) ≡ true
  all_sound qs h = sound_fold qs [] (none_so_far qs) h
