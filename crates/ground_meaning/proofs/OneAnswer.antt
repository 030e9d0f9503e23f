-- A readable pair has at most one answer.
use Rattle.std.proofs.Common.{◌≡◌, Result, Ok, Err, ap}
use Rattle.pddl_terms.specs.Readable.{IsReadable}
use Rattle.pddl_types.specs.declared.pairs.Pair.{Pair}
use Rattle.ground_task.specs.Tasks.{TaskValue}
use Rattle.ground_meaning.specs.declared.faults.GroundFault.{GroundFault}
use Rattle.ground_meaning.specs.Answers.{IsAnswer}
use Rattle.ground_meaning.proofs.OneRefusal.{one_refusal, only_memory}
use Rattle.ground_meaning.proofs.OneTask.{one_task}

pub one_answer : (p : Pair) → IsReadable p.domain p.problem → (a b : Result TaskValue GroundFault) → IsAnswer p a → IsAnswer p b → a ≡ b
one_answer p readable (Ok t) (Ok u) a b = ap (λ (v : TaskValue). Ok v) (one_task p readable t u a.grounded b.grounded)
one_answer p readable (Ok t) (Err f) a b = absurd (b.1 (only_memory p readable t a.grounded a.placed a.in_range f b.0))
one_answer p readable (Err f) (Ok t) a b = absurd (a.1 (only_memory p readable t b.grounded b.placed b.in_range f a.0))
one_answer p readable (Err f) (Err g) a b = ap (λ (h : GroundFault). Err h) (one_refusal p readable f g a.0 b.0 a.1 b.1)
