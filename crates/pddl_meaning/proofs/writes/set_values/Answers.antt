use Rattle.std.proofs.Common.{ap, length, sym, ◌∙◌}
use Rattle.std.specs.Iterator.Adapters.{zip_first, zip_second}
use Rattle.std.specs.Vec.Iter.{into_iter_items, into_iter_len}
use Rattle.std.proofs.lemmas.Iterator.{YieldsList-from_zip}
use Rattle.std.proofs.lemmas.Iterator.Adapters.{YieldsList-from_vec}
use Rattle.std.proofs.lemmas.Iterator.Consumers.{YieldsList-end}
use Rattle.pddl_meaning.specs.internal.Computed.{with_values}
use Rattle.pddl_meaning.proofs.Written.{map_same}
use Rattle.pddl_meaning.proofs.writes.set_values.Goals as goal

pub returns : goal.returns
returns c =
    let both = c.zip-evaluation-items in
    let pairs = c.into_iter-evaluation-iterator in
    let evaluations = YieldsList-from_vec {s = zip_first pairs.result} c.args.evaluations
    (ap (λ z. into_iter_items (zip_first z)) pairs.ensures.into_iter_gives ∙ ap into_iter_items both.ensures.first ∙ c.into_iter.ensures.rest ∙ c.into_vec.ensures)
    (ap (λ z. into_iter_len (zip_first z)) pairs.ensures.into_iter_gives ∙ ap into_iter_len both.ensures.first ∙ c.into_iter.ensures.len ∙ c.into_vec.result.ok.0 ∙ ap length c.into_vec.ensures) in
    let news = YieldsList-from_vec {s = zip_second pairs.result} c.args.news
    (ap (λ z. into_iter_items (zip_second z)) pairs.ensures.into_iter_gives ∙ both.ensures.second.0 ∙ c.into_vec-2.ensures)
    (ap (λ z. into_iter_len (zip_second z)) pairs.ensures.into_iter_gives ∙ both.ensures.second.1 ∙ c.into_vec-2.result.ok.0 ∙ ap length c.into_vec-2.ensures) in
    let road = YieldsList-from_zip evaluations news in
    let done = YieldsList-end road c.each.yielded c.each.evaluation-iterator c.each.yielded_by c.next.result c.next.new.self c.in-None.is c.next.ensures.steps in
    λ i. record {
      facts = c.each.invariant.0 i;
      values = (c.each.invariant.1 ∙ ap (with_values c.args.world.now.values) (sym (map_same c.each.yielded) ∙ done.0)) i;
    }
