-- What holds of a folder holds of its parts.
use Rattle.std.proofs.Common.{◌≡◌, ◌<◌, ℕ, true, List, length, sym, ap, subst, ◌∙◌}
use Rattle.pddl_terms.specs.declared.names.Typed.{Typed}
use Rattle.pddl_terms.specs.declared.conditions.Cond.{Cond}
use Rattle.pddl_terms.specs.declared.actions.Schema.{Schema}
use Rattle.pddl_types.specs.declared.pairs.Pair.{Pair}
use Rattle.pddl_types.specs.Pairs.{objects_of}
use Rattle.pddl_types.specs.WellFormed.{Each}
use Rattle.static_facts.specs.Atoms.{names}
use Rattle.pddl_meaning.specs.Worlds.{initial_world}
use Rattle.pddl_meaning.specs.Steps.{is_ready}
use Rattle.ground_meaning.specs.Conditions.{folded_condition}
use Rattle.ground_meaning.specs.Actions.{added_facts, deleted_facts, folded_changes}
use Rattle.ground_meaning.specs.Outcomes.{first_unset}

module _ (q w : Pair × Schema) (same : q ≡ w) (os : List ℕ) where
  pub known_for : Each (λ o. o < length (objects_of w.0)) os → Each (λ o. o < length (objects_of q.0)) os
  known_for h = subst (λ (z : Pair × Schema). Each (λ o. o < length (objects_of z.0)) os) (sym same) h

  pub many_for : length os ≡ length w.1.params → length os ≡ length q.1.params
  many_for h = h ∙ ap (λ (z : Pair × Schema). length z.1.params) (sym same)

  pub ready_for : is_ready q.1 (names q.0 os) (initial_world q.0) ≡ is_ready w.1 (names w.0 os) (initial_world w.0)
  ready_for = ap (λ (z : Pair × Schema). is_ready z.1 (names z.0 os) (initial_world z.0)) same

  pub changes_for : folded_changes q.0 q.1.params (names q.0 os) q.1.effects ≡ folded_changes w.0 w.1.params (names w.0 os) w.1.effects
  changes_for = ap (λ (z : Pair × Schema). folded_changes z.0 z.1.params (names z.0 os) z.1.effects) same

  pub added_for : added_facts q.0 q.1.params (names q.0 os) q.1.effects ≡ added_facts w.0 w.1.params (names w.0 os) w.1.effects
  added_for = ap (λ (z : Pair × Schema). added_facts z.0 z.1.params (names z.0 os) z.1.effects) same

  pub deleted_for : deleted_facts q.0 q.1.params (names q.0 os) q.1.effects ≡ deleted_facts w.0 w.1.params (names w.0 os) w.1.effects
  deleted_for = ap (λ (z : Pair × Schema). deleted_facts z.0 z.1.params (names z.0 os) z.1.effects) same

  pub unset_for : first_unset q.0 q.1.params (names q.0 os) q.1.effects ≡ first_unset w.0 w.1.params (names w.0 os) w.1.effects
  unset_for = ap (λ (z : Pair × Schema). first_unset z.0 z.1.params (names z.0 os) z.1.effects) same

module _ (c : Pair × List Typed × Cond) (w : Pair × Schema) (same : c ≡ (w.0, w.1.params, w.1.pre)) (os : List ℕ) where
  pub condition_known : Each (λ o. o < length (objects_of w.0)) os → Each (λ o. o < length (objects_of c.0)) os
  condition_known h = subst (λ (z : Pair × List Typed × Cond). Each (λ o. o < length (objects_of z.0)) os) (sym same) h

  pub condition_many : length os ≡ length w.1.params → length os ≡ length c.1
  condition_many h = h ∙ ap (λ (z : Pair × List Typed × Cond). length z.1) (sym same)

  pub condition_for : folded_condition c.0 c.1 (names c.0 os) c.2 true ≡ folded_condition w.0 w.1.params (names w.0 os) w.1.pre true
  condition_for = ap (λ (z : Pair × List Typed × Cond). folded_condition z.0 z.1 (names z.0 os) z.2 true) same
