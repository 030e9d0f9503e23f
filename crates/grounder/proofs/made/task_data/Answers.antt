use Rattle.std.proofs.Common.{ℕ, List, sym, subst}
use Rattle.grounder.specs.internal.Made.{AreFactCodes, AreFluentCodes}
use Rattle.grounder.proofs.made.task_data.Goals as goal

pub fact_texts-requires : goal.fact_texts-requires
fact_texts-requires c = record { of_facts = subst (λ (l : List ℕ). AreFactCodes c.args.checked.now l) (sym c.deref.ensures.value) c.requires.of_facts }

pub fluent_texts-requires : goal.fluent_texts-requires
fluent_texts-requires c = record { of_fluents = subst (λ (l : List ℕ). AreFluentCodes c.args.checked.now l) (sym c.deref-2.ensures.value) c.requires.of_fluents }
