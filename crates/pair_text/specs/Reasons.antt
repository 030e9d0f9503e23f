-- Two texts as a pair, and the first reason against them.
use Rattle.std.specs.Prelude.{ℕ, ◌≡◌, List, Option, Some, None}
use Rattle.sexp_text.specs.declared.trees.SexpFault.{SexpFault}
use Rattle.sexp_text.specs.declared.trees.SexpFault.TheVariants as syntax
use Rattle.pddl_terms.specs.declared.names.Name.{Name}
use Rattle.pddl_terms.specs.declared.files.Domain.{Domain}
use Rattle.pddl_terms.specs.declared.files.Problem.{Problem}
use Rattle.pddl_reader.specs.declared.faults.ReadFault.{ReadFault}
use Rattle.pddl_reader.specs.declared.faults.ReadFault.TheVariants as fault
use Rattle.pddl_trees.specs.Domains.{domain_in}
use Rattle.pddl_trees.specs.Problems.{problem_in}
use Rattle.pddl_grammar.specs.Domains.{SpellsDomain}
use Rattle.pddl_grammar.specs.Problems.{SpellsProblem}
use Rattle.pddl_reader.specs.Answers.{IsReadFault}
use Rattle.pddl_types.specs.declared.faults.CheckFault.TheVariants as check
use Rattle.pddl_types.specs.declared.faults.CheckKind.{CheckKind}
use Rattle.pddl_types.specs.declared.faults.Side.{Side}
use Rattle.pddl_types.specs.declared.faults.Side.TheVariants as side
use Rattle.pddl_types.specs.declared.pairs.Pair.{Pair}
use Rattle.pddl_types.specs.Answers.{IsFirstFault}
use Rattle.pddl_types.specs.WellFormed.{WellFormed}
use Rattle.pair_text.specs.declared.refusals.Source.{Source}
use Rattle.pair_text.specs.declared.refusals.Source.TheVariants as source
use Rattle.pair_text.specs.declared.refusals.Reason.{Reason}
use Rattle.pair_text.specs.declared.refusals.Reason.TheVariants as reason
use Rattle.pair_text.specs.declared.refusals.Refusal.{Refusal}
use Rattle.pair_text.specs.declared.refusals.Refusal.TheVariants.{At}
use Rattle.pair_text.specs.declared.refusals.PairFault.{PairFault}
use Rattle.pair_text.specs.declared.refusals.PairFault.TheVariants as answer
use Rattle.pair_text.specs.Places.{place_of}

-- ---- reasons

-- the reason that a fault of brackets and bytes is, with its position; want of memory is none
abbrev pub text_reason : SexpFault → Option (ℕ × Reason)
text_reason (syntax.Unclosed at) = Some (at, reason.Unclosed)
text_reason (syntax.Stray at) = Some (at, reason.Stray)
text_reason (syntax.BadByte at) = Some (at, reason.BadByte)
text_reason (syntax.TooDeep at) = Some (at, reason.TooDeep)
text_reason syntax.NoMemory = None

-- the reason that a fault of reading is, with its position
abbrev pub reading_reason : ReadFault → Option (ℕ × Reason)
reading_reason (fault.Syntax f) = text_reason f
reading_reason (fault.Unsupported name) = Some (name.at, reason.Unsupported name.text)
reading_reason (fault.Shape at) = Some (at, reason.Shape)
reading_reason (fault.Number at) = Some (at, reason.Number)
reading_reason (fault.TooDeep at) = Some (at, reason.TooDeep)
reading_reason (fault.TooMany what at) = Some (at, reason.TooMany what)
reading_reason fault.NoMemory = None

-- ---- answers

abbrev pub source_of : Side → Source
source_of side.Domain = source.Domain
source_of side.Problem = source.Problem

-- the text of a side, of a domain's text and a problem's
abbrev pub side_text : Side → List ℕ → List ℕ → List ℕ
side_text side.Domain domain problem = domain
side_text side.Problem domain problem = problem

-- the two texts spell this domain and this problem, which go together
pub record IsAcceptedPair (domain problem : List ℕ) (pair : Pair) : Type 0 where
  pub domain_spelled : SpellsDomain domain pair.domain
  pub problem_spelled : SpellsProblem problem pair.problem
  pub well_formed : WellFormed pair

-- the first reason against the two texts: the domain's text has a fault; or it spells a domain, and the problem's text
-- has a fault; or both spell what they are to, and the pair has a fault
pub data IsFirstReason (domain problem : List ℕ) : Refusal → Type 0 where
  in_domain : (f : ReadFault) (at : ℕ) (r : Reason)
      → IsReadFault Domain domain_in domain f → reading_reason f ≡ Some (at, r)
      → IsFirstReason domain problem (At source.Domain (place_of domain at) r)
  in_problem : (d : Domain) (f : ReadFault) (at : ℕ) (r : Reason)
      → SpellsDomain domain d → IsReadFault Problem problem_in problem f → reading_reason f ≡ Some (at, r)
      → IsFirstReason domain problem (At source.Problem (place_of problem at) r)
  in_pair : (pair : Pair) (s : Side) (kind : CheckKind) (name : Name)
      → SpellsDomain domain pair.domain → SpellsProblem problem pair.problem → IsFirstFault pair (check.At s kind name)
      → IsFirstReason domain problem (At (source_of s) (place_of (side_text s domain problem) name.at) (reason.Ill kind name.text))

-- why a pair isn't given: the first reason against it, or want of memory
abbrev pub IsPairFault : List ℕ → List ℕ → PairFault → Type 0
IsPairFault domain problem (answer.Refused r) = IsFirstReason domain problem r
IsPairFault domain problem answer.NoMemory = Unit {0}
