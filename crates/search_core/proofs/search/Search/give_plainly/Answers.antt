use Rattle.std.proofs.Common.{subst, sym, arith}
use Rattle.std.specs.Prelude.{OnOk}
use Rattle.search_core.proofs.Events.{can_any, can_few, can_fit, can_take, given_ok, given_search, plainly_given}
use Rattle.search_core.specs.Searches.{CanGive, IsEvent, IsPlainlyGiven}
use Rattle.search_records.specs.Spaces.{LeastDead}
use Rattle.search_runs.specs.declared.events.Event.TheVariants.{Give}
use Rattle.search_turns.specs.Turns.{Turns}
use Rattle.search_core.proofs.search.Search.give_plainly.Goals as goal

pub give-requires-clause-taken : goal.give-requires-clause-taken
give-requires-clause-taken c =
    let can = subst (λ (v : Turns). CanGive LeastDead c.args.worker c.args.node c.args.outcomes v) (sym c.self.view_is) c.requires.can in
    can_take c.args.worker c.args.node c.args.outcomes c.self.inside.turns c.self.invariant (can_any c.args.worker c.args.node c.args.outcomes c.self.inside.turns can)

pub give-requires-clause-fit : goal.give-requires-clause-fit
give-requires-clause-fit c =
    let can = subst (λ (v : Turns). CanGive LeastDead c.args.worker c.args.node c.args.outcomes v) (sym c.self.view_is) c.requires.can in
    can_fit c.args.worker c.args.node c.args.outcomes c.self.inside.turns c.self.invariant (can_any c.args.worker c.args.node c.args.outcomes c.self.inside.turns can)

pub give-requires-clause-few : goal.give-requires-clause-few
give-requires-clause-few c =
    let can = subst (λ (v : Turns). CanGive LeastDead c.args.worker c.args.node c.args.outcomes v) (sym c.self.view_is) c.requires.can in
    omega (arith, can_few c.args.worker c.args.node c.args.outcomes c.self.inside.turns c.self.invariant (can_any c.args.worker c.args.node c.args.outcomes c.self.inside.turns can))

pub invariant_of-self : goal.invariant_of-self
invariant_of-self c =
    let can = subst (λ (v : Turns). CanGive LeastDead c.args.worker c.args.node c.args.outcomes v) (sym c.self.view_is) c.requires.can in
    given_search c.args.worker c.args.node c.args.outcomes c.self.inside.turns c.self.invariant (can_any c.args.worker c.args.node c.args.outcomes c.self.inside.turns can) c.give.new.self c.give.result c.give.ensures.terms c.give.ensures.ok c.give.ensures.err

pub returns-clause-ok : goal.returns-clause-ok
returns-clause-ok c =
    let can = subst (λ (v : Turns). CanGive LeastDead c.args.worker c.args.node c.args.outcomes v) (sym c.self.view_is) c.requires.can in
    subst (λ (v : Turns). OnOk c.give.result (IsEvent (Give c.args.worker c.args.node) v c.give.new.self)) c.self.view_is
    (given_ok c.args.worker c.args.node c.args.outcomes c.self.inside.turns c.self.invariant (can_any c.args.worker c.args.node c.args.outcomes c.self.inside.turns can) c.give.new.self c.give.result c.give.ensures.terms c.give.ensures.ok)

pub returns-clause-plain : goal.returns-clause-plain
returns-clause-plain c =
    let can = subst (λ (v : Turns). CanGive LeastDead c.args.worker c.args.node c.args.outcomes v) (sym c.self.view_is) c.requires.can in
    subst (λ (v : Turns). OnOk c.give.result (IsPlainlyGiven c.args.worker c.args.node v c.give.new.self)) c.self.view_is
    (plainly_given c.args.worker c.args.node c.args.outcomes c.self.inside.turns can c.give.new.self c.give.result c.give.ensures.ok)
