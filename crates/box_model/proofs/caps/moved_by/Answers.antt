use Rattle.std.proofs.Common.{◌≡◌, ◌<◌, ◌≤◌, MatchOption, ap, subst, sym, ◌∙◌, arith}
use Rattle.num_ends.specs.Arithmetic.{SumFits}
use Rattle.num_ends.specs.Decimal.{Decimal, InRange, sum_of}
use Rattle.box_model.proofs.Halves.{moved_here, moved_twice, no_half, no_halfway}
use Rattle.box_model.proofs.caps.moved_by.Goals as goal

pub returns-then-c-bound : goal.returns-then-c-bound
returns-then-c-bound c =
    let bound_in : InRange c.args.bound.n = subst (λ (d : Decimal). InRange d.n) c.bound.view_is c.bound.invariant.in_range in
    let c_in : InRange c.args.c.n = subst (λ (d : Decimal). InRange d.n) c.c.view_is c.c.invariant.in_range in
    moved_here c.args.bound c.args.c c.sum.result
    (sym (ap (λ (d : Decimal). d.p) c.c.view_is) ∙ c.if-c-bound.true ∙ ap (λ (d : Decimal). d.p) c.bound.view_is) bound_in c_in c.sum.ensures

pub returns-in_err-half : goal.returns-in_err-half
returns-in_err-half c =
    let bound_in : InRange c.args.bound.n = subst (λ (d : Decimal). InRange d.n) c.bound.view_is c.bound.invariant.in_range in
    let few : c.args.bound.p ≤ 18 = subst (λ (d : Decimal). d.p ≤ 18) c.bound.view_is c.bound.invariant.few_places in
    let less : c.args.c.p < c.args.bound.p = omega (arith, c.requires, c.if-c-bound.false, ap (λ (d : Decimal). d.p) c.c.view_is, ap (λ (d : Decimal). d.p) c.bound.view_is) in
    rw c.from_residual.ensures (no_half c.args.bound c.args.c less few bound_in c.in_err-half.ensures)

pub returns-in_err-halfway : goal.returns-in_err-halfway
returns-in_err-halfway c =
    let bound_in : InRange c.args.bound.n = subst (λ (d : Decimal). InRange d.n) c.bound.view_is c.bound.invariant.in_range in
    let few : c.args.bound.p ≤ 18 = subst (λ (d : Decimal). d.p ≤ 18) c.bound.view_is c.bound.invariant.few_places in
    let less : c.args.c.p < c.args.bound.p = omega (arith, c.requires, c.if-c-bound.false, ap (λ (d : Decimal). d.p) c.c.view_is, ap (λ (d : Decimal). d.p) c.bound.view_is) in
    rw c.from_residual-in_err-halfway.ensures (no_halfway c.args.bound c.args.c less few bound_in (subst (λ (d : Decimal). SumFits c.args.bound d → ⊥) c.in_ok-half.ensures c.in_err-halfway.ensures))

pub returns : goal.returns
returns c =
    let bound_in : InRange c.args.bound.n = subst (λ (d : Decimal). InRange d.n) c.bound.view_is c.bound.invariant.in_range in
    let few : c.args.bound.p ≤ 18 = subst (λ (d : Decimal). d.p ≤ 18) c.bound.view_is c.bound.invariant.few_places in
    let less : c.args.c.p < c.args.bound.p = omega (arith, c.requires, c.if-c-bound.false, ap (λ (d : Decimal). d.p) c.c.view_is, ap (λ (d : Decimal). d.p) c.bound.view_is) in
    let half_is = c.in_ok-half.ensures in
    moved_twice c.args.bound c.args.c less few bound_in c.in_ok-halfway.halfway c.sum-3.result
    (c.in_ok-halfway.ensures.0 ∙ ap (sum_of c.args.bound) half_is) (subst (SumFits c.args.bound) half_is c.in_ok-halfway.ensures.1)
    (subst (λ (d : Decimal). MatchOption c.sum-3.result (SumFits c.in_ok-halfway.halfway d → ⊥) (λ e. (e ≡ sum_of c.in_ok-halfway.halfway d) × SumFits c.in_ok-halfway.halfway d)) half_is c.sum-3.ensures)
