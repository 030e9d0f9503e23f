use Rattle.search_runs.specs.Answers.{closed_states}
use Rattle.answer_text.proofs.Order.{mapped_sorted}
use Rattle.answer_text.proofs.states.sorted_states.Goals as goal

pub returns-clause-sorted : goal.returns-clause-sorted
returns-clause-sorted c =
    mapped_sorted (λ s. s.now) (closed_states c.args.nodes.now) c.in_ok-states.states.items c.sort.new.self.items c.in_ok-states.ensures.found c.sort.ensures.permutation c.in_ok-sort.ensures.sorted
