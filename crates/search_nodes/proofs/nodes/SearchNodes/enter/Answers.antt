use Rattle.std.proofs.Common.{◌++◌, [], ◌∷◌, length, map, Some, sym, subst, ap, ◌∙◌}
use Rattle.search_nodes.specs.Growth.{FitsView, IsEntered, status_in}
use Rattle.search_nodes.specs.Tables.{config_of, node_of}
use Rattle.search_nodes.proofs.Growing.{as_classed, entered_as, entered_none, table_classed, with_kept}
use Rattle.search_nodes.proofs.Kept.{length-nodes}
use Rattle.search_nodes.proofs.nodes.SearchNodes.enter.Goals as goal

pub invariant_of-self-in-Some : goal.invariant_of-self-in-Some
invariant_of-self-in-Some c =
    let classed = as_classed c.self.inside.task.places c.self.inside.most c.args.state c.args.view c.self.inside.explored c.class.new.self c.in_ok-class.ensures.ok
    (c.len-node.ensures.len ∙ sym (length-nodes c.self.inside.table)) c.seen_of-seen.ensures.seen c.in-Some.is in
    let fits = subst (λ k. FitsView k.task c.args.view) (sym c.self.view_is) c.requires.fits in
    table_classed c.self.inside.task c.self.inside.most c.self.inside.table c.self.inside.explored c.class.new.self c.self.inside.frontier c.self.inside.goal c.self.inside.taken
    (length (map node_of c.self.inside.table)) c.args.state c.args.view (Some c.in-Some.class) fits classed c.self.invariant

pub returns-in-None-clause-ok : goal.returns-in-None-clause-ok
returns-in-None-clause-ok c =
    let nodes = map node_of c.self.inside.table in
    let classed = as_classed c.self.inside.task.places c.self.inside.most c.args.state c.args.view c.self.inside.explored c.class.new.self c.in_ok-class.ensures.ok
    (c.len-node.ensures.len ∙ sym (length-nodes c.self.inside.table)) c.seen_of-seen.ensures.seen c.in-None.is in
    subst (λ k. IsEntered k.task.places k.most c.args.state c.args.parent c.args.via c.args.view (config_of k) (with_kept nodes c.class.new.self)) c.self.view_is
    (entered_none c.self.inside.task.places c.self.inside.most nodes c.args.state c.args.parent c.args.via c.self.inside.explored c.class.new.self c.args.view classed)

pub returns-in-Ok-clause-ok : goal.returns-in-Ok-clause-ok
returns-in-Ok-clause-ok c =
    let nodes = map node_of c.self.inside.table in
    let st = c.status_of-status.result in
    let classed = as_classed c.self.inside.task.places c.self.inside.most c.args.state c.args.view c.self.inside.explored c.class.new.self c.in_ok-class.ensures.ok
    (c.len-node.ensures.len ∙ sym (length-nodes c.self.inside.table)) c.seen_of-seen.ensures.seen c.in-Some.is in
    let entered = entered_as c.self.inside.task.places c.self.inside.most nodes c.args.state c.args.parent c.args.via c.self.inside.explored c.class.new.self c.in-Some.class c.args.view st
    (c.status_of-status.ensures ∙ ap (status_in c.in-Some.class) c.seen_of-seen.ensures.estimate) classed in
    let more = nodes ++ record { state = c.args.state; parent = c.args.parent; via = c.args.via; status = st } ∷ [] in
    subst (λ k. IsEntered c.args.self.now.task.places c.args.self.now.most c.args.state c.args.parent c.args.via c.args.view (config_of c.args.self.now) (config_of k)) (sym c.in-Ok.ensures.ok)
    (subst (λ k. IsEntered k.task.places k.most c.args.state c.args.parent c.args.via c.args.view (config_of k) (with_kept more c.class.new.self)) c.self.view_is entered)
