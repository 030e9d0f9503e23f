use Rattle.std.proofs.Common.{◌≡◌, ◌≤◌, ℕ, true, List, ap, subst, ◌∙◌}
use Rattle.std.specs.Prelude.{MatchResult}
use Rattle.pddl_terms.specs.declared.names.Typed.{Typed}
use Rattle.pddl_terms.specs.declared.limits.TheConstants.{MAX_PREFIXES}
use Rattle.pddl_types.specs.declared.pairs.Pair.{Pair}
use Rattle.static_facts.specs.Bindings.{bindings, prefix_count}
use Rattle.static_facts.specs.Literals.{conjuncts}
use Rattle.binder.specs.declared.checks.Check.{Check}
use Rattle.binder.specs.declared.levels.LevelFault.{LevelFault}
use Rattle.binder.specs.internal.Checks.{checks_of}
use Rattle.binder.specs.internal.Levels.{counted, first_rows, grown, IsOver}
use Rattle.binder.proofs.Known.{has_objects, literals_known}
use Rattle.binder.proofs.Survived.{bindings_grown, prefixes_counted}
use Rattle.binder.proofs.bindings.bound_rows.Goals as goal

pub returns : goal.returns
returns c =
    let p = c.args.checked.now in
    let s = c.args.schema.now in
    let own = c.as_slice.result.now in
    let checks : List Check = checks_of p s.params (conjuncts s.pre true) in
    let has = has_objects p c.requires.well_formed c.requires.readable in
    let known = literals_known p c.requires.well_formed s c.requires.stands in
    let same : own ≡ checks = c.as_slice.ensures ∙ c.in_ok-checks.ensures in
    let first : c.in_ok-first.first.1 ≡ first_rows p checks =
    ap (λ (v : ℕ × List (List ℕ)). v.1) c.in_ok-first.ensures ∙ ap (λ (q : Pair). first_rows q own) c.requires.one_pair ∙ ap (first_rows p) same in
    let params : c.as_slice-2.result.now ≡ s.params = c.as_slice-2.ensures in
    let rows : grown p own c.as_slice-2.result.now c.in_ok-first.first.1 ≡ bindings p s =
    ap (λ (cs : List Check). grown p cs c.as_slice-2.result.now c.in_ok-first.first.1) same
    ∙ ap (λ (ts : List Typed). grown p checks ts c.in_ok-first.first.1) params
    ∙ ap (grown p checks s.params) first ∙ bindings_grown p s has known in
    let count : counted p own c.as_slice-2.result.now c.in_ok-first.first.1 ≡ prefix_count p s =
    ap (λ (cs : List Check). counted p cs c.as_slice-2.result.now c.in_ok-first.first.1) same
    ∙ ap (λ (ts : List Typed). counted p checks ts c.in_ok-first.first.1) params
    ∙ ap (counted p checks s.params) first ∙ prefixes_counted p s has known in
    subst (λ (b : List (List ℕ)). MatchResult c.grown.result (λ (r : ℕ × List (List ℕ)). (r.1 ≡ b) × (prefix_count p s ≤ MAX_PREFIXES)) (λ (f : LevelFault). IsOver f (prefix_count p s))) rows
    (subst (λ (n : ℕ). MatchResult c.grown.result (λ (r : ℕ × List (List ℕ)). (r.1 ≡ grown p own c.as_slice-2.result.now c.in_ok-first.first.1) × (n ≤ MAX_PREFIXES)) (λ (f : LevelFault). IsOver f n)) count
    c.grown.ensures)
