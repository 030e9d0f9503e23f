use Rattle.std.proofs.Common.{◌≡◌, ◌+◌, ℕ, List, length, drop, ap, sym, ◌∙◌, arith}
use Rattle.std.specs.Prelude.{flat_map}
use Rattle.pddl_types.specs.declared.pairs.Pair.{Pair}
use Rattle.binder.specs.internal.Checks.{extensions}
use Rattle.binder.specs.internal.Levels.{counted, grown, next_rows}
use Rattle.binder.proofs.Dropped.{counted_more, grown_more, over_more}
use Rattle.binder.proofs.levels.grown.Goals as goal

pub params-preserved : goal.params-preserved
params-preserved c =
    let p = c.args.checked.now in
    let checks = c.args.tester.now.checks.now in
    let params = c.args.params.now in
    let i = c.params.param-index in
    let param = c.param-item.result in
    let rows = c.params.rows.1 in
    let next : c.in-Ok.next.1 ≡ next_rows p checks param rows =
    ap (λ (v : ℕ × List (List ℕ)). v.1) c.in-Ok.ensures.0
    ∙ ap (λ (q : Pair). flat_map (extensions q checks c.as_slice.result.now) rows) c.requires.one_pair
    ∙ ap (λ (os : List ℕ). flat_map (extensions p checks os) rows) (c.as_slice.ensures.value ∙ c.in_ok-objects.ensures.fitting) in
    let more = counted_more p checks params i param c.params-test.true c.param-item.is rows in
    let size : length c.in-Ok.next.1 ≡ length (next_rows p checks param rows) = ap length next in
    let behind : counted p checks (drop (i + 1) params) c.in-Ok.next.1 ≡ counted p checks (drop (i + 1) params) (next_rows p checks param rows) = ap (counted p checks (drop (i + 1) params)) next in
    record {
      width = ap (λ (v : ℕ × List (List ℕ)). v.0) c.in-Ok.ensures.0 ∙ ap (λ (n : ℕ). n + 1) c.params.invariant.width;
      rest = ap (grown p checks (drop (i + 1) params)) next ∙ sym (grown_more p checks params i param c.params-test.true c.param-item.is rows) ∙ c.params.invariant.rest;
      count = omega (arith, more, size, behind, c.count-taken.ensures, c.params.invariant.count);
      few = omega (arith, c.in-Ok.ensures.1, c.count-taken.ensures);
    }

pub returns-in-Err : goal.returns-in-Err
returns-in-Err c =
    let p = c.args.checked.now in
    let checks = c.args.tester.now.checks.now in
    let params = c.args.params.now in
    let param = c.param-item.result in
    let rows = c.params.rows.1 in
    let size : length (flat_map (extensions c.args.tester.now.statics.now checks c.as_slice.result.now) rows) ≡ length (next_rows p checks param rows) =
    ap (λ (q : Pair). length (flat_map (extensions q checks c.as_slice.result.now) rows)) c.requires.one_pair
    ∙ ap (λ (os : List ℕ). length (flat_map (extensions p checks os) rows)) (c.as_slice.ensures.value ∙ c.in_ok-objects.ensures.fitting) in
    let more = counted_more p checks params c.params.param-index param c.params-test.true c.param-item.is rows in
    over_more c.in-Err.fault _ _ (omega (arith, size, more, c.params.invariant.count)) c.in-Err.ensures
