-- The answers of the readers and of the check as answers to two texts.
use Rattle.std.proofs.Common.{◌≡◌, ◌≢◌, ℕ, List, Option, Some, None, Ok, refl, sym, ap, ◌∙◌}
use Rattle.std.specs.Option.{option_map_or}
use Rattle.pddl_terms.specs.declared.names.Name.{Name}
use Rattle.pddl_terms.specs.declared.files.Domain.{Domain}
use Rattle.pddl_terms.specs.declared.files.Problem.{Problem}
use Rattle.pddl_reader.specs.declared.faults.ReadFault.{ReadFault}
use Rattle.pddl_reader.specs.declared.faults.ReadFault.TheVariants as fault
use Rattle.pddl_trees.specs.Domains.{domain_in}
use Rattle.pddl_trees.specs.Problems.{problem_in}
use Rattle.pddl_grammar.specs.Domains.{SpellsDomain}
use Rattle.pddl_grammar.specs.Problems.{SpellsProblem}
use Rattle.pddl_grammar.proofs.SpelledDomains.{domain_fits}
use Rattle.pddl_grammar.proofs.SpelledProblems.{problem_fits}
use Rattle.pddl_reader.specs.Answers.{IsReadAnswer, IsReadFault}
use Rattle.pddl_types.specs.declared.faults.CheckFault.TheVariants as check
use Rattle.pddl_types.specs.declared.faults.CheckKind.{CheckKind}
use Rattle.pddl_types.specs.declared.faults.Side.{Side}
use Rattle.pddl_types.specs.declared.pairs.Pair.{Pair}
use Rattle.pddl_types.specs.Answers.{IsFirstFault}
use Rattle.pair_text.specs.declared.refusals.PairFault.{PairFault}
use Rattle.pair_text.specs.declared.refusals.PairFault.TheVariants as answer
use Rattle.pair_text.specs.declared.refusals.Reason.{Reason}
use Rattle.pair_text.specs.declared.refusals.Reason.TheVariants as reason
use Rattle.pair_text.specs.declared.refusals.Refusal.TheVariants.{At}
use Rattle.pair_text.specs.declared.refusals.Source.{Source}
use Rattle.pair_text.specs.declared.refusals.Source.TheVariants as source
use Rattle.pair_text.specs.Places.{place_of}
use Rattle.pair_text.specs.Reasons.{IsFirstReason, IsPairFault, reading_reason, source_of, side_text}

pub domain_spelled : (text : List ℕ) (d : Domain) → IsReadAnswer Domain domain_in text (Ok d) → SpellsDomain text d
domain_spelled text d x = domain_fits text x.0 d x.1

pub problem_spelled : (text : List ℕ) (p : Problem) → IsReadAnswer Problem problem_in text (Ok p) → SpellsProblem text p
problem_spelled text p x = problem_fits text x.0 p x.1

-- how a reason at a position is answered
abbrev pub answered : Source → List ℕ → Option (ℕ × Reason) → PairFault
answered file text o = option_map_or (λ r. answer.Refused (At file (place_of text r.0) r.1)) o answer.NoMemory

-- what has a reason is no want of memory
no_memory : (f : ReadFault) (x : ℕ × Reason) → reading_reason f ≡ Some x → f ≢ fault.NoMemory
no_memory f x h e = cc (sym (ap reading_reason e) ∙ h)

pub domain_refused : (text problem : List ℕ) (f : ReadFault) → (f ≢ fault.NoMemory → IsReadFault Domain domain_in text f)
    → IsPairFault text problem (answered source.Domain text (reading_reason f))
domain_refused text problem f x = by_reason (reading_reason f) refl
  where
    by_reason : (o : Option (ℕ × Reason)) → reading_reason f ≡ o → IsPairFault text problem (answered source.Domain text o)
    by_reason None e = tt
    by_reason (Some (at, r)) e = IsFirstReason.in_domain f at r (x (no_memory f (at, r) e)) e

pub problem_refused : (domain text : List ℕ) (d : Domain) (f : ReadFault) → SpellsDomain domain d → (f ≢ fault.NoMemory → IsReadFault Problem problem_in text f)
    → IsPairFault domain text (answered source.Problem text (reading_reason f))
problem_refused domain text d f spelled x = by_reason (reading_reason f) refl
  where
    by_reason : (o : Option (ℕ × Reason)) → reading_reason f ≡ o → IsPairFault domain text (answered source.Problem text o)
    by_reason None e = tt
    by_reason (Some (at, r)) e = IsFirstReason.in_problem d f at r spelled (x (no_memory f (at, r) e)) e

pub pair_refused : (domain problem : List ℕ) (pair : Pair) (s : Side) (kind : CheckKind) (name : Name) → SpellsDomain domain pair.domain → SpellsProblem problem pair.problem
    → (check.At s kind name ≢ check.NoMemory → IsFirstFault pair (check.At s kind name))
    → IsPairFault domain problem (answer.Refused (At (source_of s) (place_of (side_text s domain problem) name.at) (reason.Ill kind name.text)))
pair_refused domain problem pair s kind name d p first = IsFirstReason.in_pair pair s kind name d p (first (λ e. cc))
