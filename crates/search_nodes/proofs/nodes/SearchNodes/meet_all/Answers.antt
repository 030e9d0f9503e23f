use Rattle.std.proofs.Common.{All, ◌∷◌, ◌++◌, [], length, refl, sym, subst, ap, ◌∙◌, arith, length-append}
use Rattle.std.proofs.lemmas.List.{append_assoc}
use Rattle.std.proofs.lemmas.List.Elements.{All-head, All-tail}
use Rattle.search_nodes.specs.Growth.{AreMet, FitsOutcome}
use Rattle.search_nodes.specs.Tables.{config_of}
use Rattle.search_nodes.proofs.Growing.{as_met, extends_on, extends_same, met_extends, met_more, nil_if}
use Rattle.search_nodes.proofs.nodes.SearchNodes.meet_all.Goals as goal

pub meet-requires : goal.meet-requires
meet-requires c =
    let fit = All-head (FitsOutcome c.args.self.now.task) c.in-Some.outcome _ (subst (λ k. All (FitsOutcome c.args.self.now.task) k) c.in-Some.ensures.steps.0 c.each.invariant.fit) in
    record { fits = subst (λ t. FitsOutcome t c.in-Some.outcome) (sym c.each.invariant.terms.task) fit }

pub each-init : goal.each-init
each-init c =
    record {
      terms = record { task = refl; most = refl };
      fit = subst (λ k. All (FitsOutcome c.args.self.now.task) k) (sym (c.into_iter-outcome-iterator.ensures.into_iter_gives.0 ∙ c.into_vec-outcome-items.ensures)) c.requires.fit;
      left = c.into_iter-outcome-iterator.ensures.into_iter_gives.0 ∙ c.into_vec-outcome-items.ensures;
      len = c.into_iter-outcome-iterator.ensures.into_iter_gives.1 ∙ c.into_vec-outcome-items.result.ok.0 ∙ ap length (sym c.into_iter-outcome-iterator.ensures.into_iter_gives.0);
      number = refl;
      front = extends_same (config_of c.args.self.now) (config_of c.args.self.now) refl refl;
      whole = λ rest end is. is;
    }

pub each-preserved : goal.each-preserved
each-preserved c =
    let inv = c.each.invariant in
    let start = c.args.self.now in
    let met = as_met c.args.node c.in-Some.outcome (config_of c.each.self) (config_of c.meet.new.self) c.in_ok-meet.ensures.ok inv.terms.task inv.terms.most inv.number in
    record {
      terms = record { task = c.meet.ensures.terms.task ∙ inv.terms.task; most = c.meet.ensures.terms.most ∙ inv.terms.most };
      fit = All-tail (FitsOutcome start.task) c.in-Some.outcome _ (subst (λ k. All (FitsOutcome start.task) k) c.in-Some.ensures.steps.0 inv.fit);
      left = append_assoc c.each.yielded (c.in-Some.outcome ∷ []) c.next.new.self.rest.items ∙ ap (λ k. c.each.yielded ++ k) (sym c.in-Some.ensures.steps.0) ∙ inv.left;
      len = omega (arith, inv.len, c.in-Some.ensures.steps.1, ap length c.in-Some.ensures.steps.0);
      number = omega (arith, inv.number, length-append c.each.yielded (c.in-Some.outcome ∷ []));
      front = extends_on (config_of start) (config_of c.each.self) (config_of c.meet.new.self) inv.front
          (met_extends start.task.places start.most c.args.node (length c.each.yielded) c.in-Some.outcome (config_of c.each.self) (config_of c.meet.new.self) met);
      whole = met_more start.task.places start.most c.args.node c.each.yielded c.in-Some.outcome (config_of start) (config_of c.each.self) (config_of c.meet.new.self) inv.whole met;
    }

pub returns-clause-ok : goal.returns-clause-ok
returns-clause-ok c =
    let inv = c.each.invariant in
    let start = c.args.self.now in
    let none = nil_if c.each.outcome-iterator.rest.items (sym inv.len ∙ c.in-None.ensures.steps.0) in
    let all = ap (λ k. c.each.yielded ++ k) (sym none) ∙ inv.left in
    subst (λ os. AreMet start.task.places start.most c.args.node 0 os (config_of start) (config_of c.each.self)) all (inv.whole [] (config_of c.each.self) refl)
