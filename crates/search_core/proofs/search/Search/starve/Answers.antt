use Rattle.std.proofs.Common.{◌≡◌, ◌<◌, false, subst, sym}
use Rattle.search_core.proofs.Events.{next_search, starved_event}
use Rattle.search_core.specs.Searches.{IsEvent}
use Rattle.search_runs.specs.Runs.{has_starved}
use Rattle.search_runs.specs.declared.events.Event.TheVariants.{Starve}
use Rattle.search_turns.specs.Turns.{Turns}
use Rattle.search_core.proofs.search.Search.starve.Goals as goal

pub invariant_of-self : goal.invariant_of-self
invariant_of-self c =
    let old = c.self.inside.turns in
    let worker = subst (λ (v : Turns). c.args.worker < v.workers) (sym c.self.view_is) c.requires.worker in
    let once = subst (λ (v : Turns). has_starved c.args.worker v.journal ≡ false) (sym c.self.view_is) c.requires.once in
    next_search (Starve c.args.worker) old c.starve.new.self c.self.invariant (starved_event c.args.worker old c.starve.new.self worker once c.starve.ensures)

pub returns : goal.returns
returns c =
    let old = c.self.inside.turns in
    let worker = subst (λ (v : Turns). c.args.worker < v.workers) (sym c.self.view_is) c.requires.worker in
    let once = subst (λ (v : Turns). has_starved c.args.worker v.journal ≡ false) (sym c.self.view_is) c.requires.once in
    subst (λ (v : Turns). IsEvent (Starve c.args.worker) v c.starve.new.self) c.self.view_is (starved_event c.args.worker old c.starve.new.self worker once c.starve.ensures)
