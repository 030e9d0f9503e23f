use Rattle.std.proofs.Common.{◌≡◌, ◌++◌, All, List, length}
use Rattle.search_nodes.specs.Growth.{AreMet, Configs, Extends, FitsOutcome, SameTerms}
use Rattle.search_nodes.specs.Tables.{config_of}
use Rattle.search_nodes.specs.declared.views.Outcome.{Outcome}
use Rattle.search_nodes.proofs.nodes.SearchNodes.meet_all.Given as goal

abbrev pub invariant-each : goal.invariant-each
invariant-each l =
    record {
      terms : SameTerms l.fn.self l.self;
      fit : All (FitsOutcome l.fn.self.task) l.outcome-iterator.rest.items;
      left : l.yielded ++ l.outcome-iterator.rest.items ≡ l.fn.outcomes;
      len : l.outcome-iterator.rest.len ≡ length l.outcome-iterator.rest.items;
      number : l.action ≡ length l.yielded;
      front : Extends (config_of l.fn.self) (config_of l.self);
      whole : (rest : List Outcome) (end : Configs) → AreMet l.fn.self.task.places l.fn.self.most l.node (length l.yielded) rest (config_of l.self) end
          → AreMet l.fn.self.task.places l.fn.self.most l.node 0 (l.yielded ++ rest) (config_of l.fn.self) end;
    }
