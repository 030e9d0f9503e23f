use Rattle.std.proofs.Common.{◌<◌, length, sym, subst, ap, ◌∙◌, arith}
use Rattle.search_nodes.specs.Growth.{Extends, SameTerms}
use Rattle.search_nodes.specs.Tables.{IsOther, WithNodes, config_of}
use Rattle.search_nodes.proofs.Growing.{back_is, back_within, closed_is_other, set_back}
use Rattle.search_nodes.proofs.Kept.{length-nodes}
use Rattle.search_runs.proofs.Places.{at_within, length-with_status}
use Rattle.search_runs.specs.Nodes.{with_status}
use Rattle.search_runs.specs.declared.nodes.Status.TheVariants.{Closed, Taken}
use Rattle.search_nodes.proofs.nodes.SearchNodes.give.Goals as goal

pub go_back-requires-clause-nodes : goal.go_back-requires-clause-nodes
go_back-requires-clause-nodes c =
    let old = c.args.self.now in
    let len = c.len-len.ensures.len ∙ sym (length-nodes c.self.inside.table) ∙ ap (λ v. length v.nodes) c.self.view_is in
    back_within old c.meet_all.new.self c.args.node c.len-len.result (subst (λ k. Extends (config_of k) (config_of c.meet_all.new.self)) c.change.ensures c.in-Err.ensures.front) len

pub change-requires-in-Err-clause-known : goal.change-requires-in-Err-clause-known
change-requires-in-Err-clause-known c =
    let old = c.args.self.now in
    let len = c.len-len.ensures.len ∙ sym (length-nodes c.self.inside.table) ∙ ap (λ v. length v.nodes) c.self.view_is in
    let gone = c.go_back.ensures ∙ back_is old c.meet_all.new.self c.args.node c.len-len.result c.point-point.result.boxes c.point-point.result.over c.point-point.result.full
    (subst (λ k. SameTerms k c.meet_all.new.self) c.change.ensures c.in-Err.ensures.terms)
    (subst (λ k. Extends (config_of k) (config_of c.meet_all.new.self)) c.change.ensures c.in-Err.ensures.front) len
    (c.point-point.ensures.boxes ∙ ap (λ v. length v.boxes) c.self.view_is) (c.point-point.ensures.over ∙ ap (λ v. v.over) c.self.view_is) (c.point-point.ensures.full ∙ ap (λ v. v.full) c.self.view_is) in
    let within = at_within old.nodes c.args.node c.requires.taken.0 c.requires.taken.1 in
    let inside : c.args.node < length (with_status old.nodes c.args.node Closed) = omega (arith, within, length-with_status old.nodes c.args.node Closed) in
    subst (λ k. c.args.node < length k.nodes) (sym gone) inside

pub change-requires-in-Err-clause-old : goal.change-requires-in-Err-clause-old
change-requires-in-Err-clause-old c =
    let old = c.args.self.now in
    let len = c.len-len.ensures.len ∙ sym (length-nodes c.self.inside.table) ∙ ap (λ v. length v.nodes) c.self.view_is in
    let gone = c.go_back.ensures ∙ back_is old c.meet_all.new.self c.args.node c.len-len.result c.point-point.result.boxes c.point-point.result.over c.point-point.result.full
    (subst (λ k. SameTerms k c.meet_all.new.self) c.change.ensures c.in-Err.ensures.terms)
    (subst (λ k. Extends (config_of k) (config_of c.meet_all.new.self)) c.change.ensures c.in-Err.ensures.front) len
    (c.point-point.ensures.boxes ∙ ap (λ v. length v.boxes) c.self.view_is) (c.point-point.ensures.over ∙ ap (λ v. v.over) c.self.view_is) (c.point-point.ensures.full ∙ ap (λ v. v.full) c.self.view_is) in
    subst (λ k. IsOther k.nodes c.args.node) (sym gone) (closed_is_other old.nodes c.args.node c.requires.taken.0 c.requires.taken.1)

pub returns-in-Err-clause-err : goal.returns-in-Err-clause-err
returns-in-Err-clause-err c =
    let old = c.args.self.now in
    let n = c.args.node in
    let len = c.len-len.ensures.len ∙ sym (length-nodes c.self.inside.table) ∙ ap (λ v. length v.nodes) c.self.view_is in
    let gone = c.go_back.ensures ∙ back_is old c.meet_all.new.self c.args.node c.len-len.result c.point-point.result.boxes c.point-point.result.over c.point-point.result.full
    (subst (λ k. SameTerms k c.meet_all.new.self) c.change.ensures c.in-Err.ensures.terms)
    (subst (λ k. Extends (config_of k) (config_of c.meet_all.new.self)) c.change.ensures c.in-Err.ensures.front) len
    (c.point-point.ensures.boxes ∙ ap (λ v. length v.boxes) c.self.view_is) (c.point-point.ensures.over ∙ ap (λ v. v.over) c.self.view_is) (c.point-point.ensures.full ∙ ap (λ v. v.full) c.self.view_is) in
    let back = ap (λ st. with_status (with_status old.nodes n Closed) n st) (sym c.requires.taken.2) ∙ set_back old.nodes n c.requires.taken.0 Closed c.requires.taken.1 in
    c.change-in-Err.ensures ∙ ap (λ k. WithNodes (with_status k.nodes n (Taken c.args.worker)) k) gone ∙ ap (λ nodes. WithNodes nodes old) back
