-- Two texts have one answer.
use Rattle.std.proofs.Common.{◌≡◌, ◌⊎◌, inl, inr, ℕ, List, Option, Some, None, refl, sym, ap, ap₂, ◌∙◌, subst}
use Rattle.std.proofs.lemmas.Option.{same_Some}
use Rattle.sexp_text.specs.Trees.{IsTextFault}
use Rattle.sexp_text.specs.declared.trees.Tree.{Tree}
use Rattle.sexp_text.specs.declared.trees.SexpFault.{SexpFault}
use Rattle.sexp_text.specs.declared.trees.SexpFault.TheVariants as syntax
use Rattle.pddl_terms.specs.declared.files.Domain.{Domain}
use Rattle.pddl_terms.specs.declared.files.Problem.{Problem}
use Rattle.pddl_trees.specs.Forms.{Parsed}
use Rattle.pddl_trees.specs.Domains.{domain_in}
use Rattle.pddl_trees.specs.Problems.{problem_in}
use Rattle.pddl_grammar.specs.Domains.{SpellsDomain}
use Rattle.pddl_grammar.specs.Problems.{SpellsProblem}
use Rattle.pddl_grammar.proofs.SpelledDomains.{domain_said, faultless_domain, one_domain}
use Rattle.pddl_grammar.proofs.SpelledProblems.{faultless_problem, one_problem, problem_said}
use Rattle.pddl_reader.specs.declared.faults.ReadFault.{ReadFault}
use Rattle.pddl_reader.specs.declared.faults.ReadFault.TheVariants as fault
use Rattle.pddl_reader.specs.Answers.{IsReadFault}
use Rattle.pddl_reader.proofs.Causes.{answered, one_answer, refused_unsaid}
use Rattle.pddl_types.specs.declared.faults.CheckFault.TheVariants as check
use Rattle.pddl_types.specs.declared.pairs.Pair.{Pair}
use Rattle.pddl_types.specs.Answers.{IsFirstFault}
use Rattle.pddl_types.specs.Checks.{faults_of}
use Rattle.pddl_types.specs.Faults as pair_faults
use Rattle.pddl_types.proofs.FaultlessAnswers.{refused_answer, well_formed_answer}
use Rattle.pair_text.specs.declared.refusals.Reason.{Reason}
use Rattle.pair_text.specs.declared.refusals.Reason.TheVariants as reason
use Rattle.pair_text.specs.declared.refusals.Refusal.{Refusal}
use Rattle.pair_text.specs.declared.refusals.Refusal.TheVariants.{At}
use Rattle.pair_text.specs.declared.refusals.Source.TheVariants as source
use Rattle.pair_text.specs.Places.{place_of}
use Rattle.pair_text.specs.Reasons.{IsAcceptedPair, IsFirstReason, reading_reason, side_text, source_of, text_reason}

-- ---- reading

told : (f g : ReadFault) (x y : ℕ × Reason) → reading_reason f ≡ Some x → reading_reason g ≡ Some y → f ≡ g → x ≡ y
told f g x y h k e = same_Some x y (sym h ∙ ap reading_reason e ∙ k)

-- a text has one first fault, so one reason
one_reading : (A : Type 0) (read : List ℕ → List Tree → Parsed A) (text : List ℕ) (f g : ReadFault) (x y : ℕ × Reason) → IsReadFault A read text f → IsReadFault A read text g
    → reading_reason f ≡ Some x → reading_reason g ≡ Some y → x ≡ y
one_reading A read text f g x y here there h k = told f g x y h k (one_answer A read text f g here there)

-- what is refused isn't spelled
no_domain : (text : List ℕ) (f : ReadFault) (d : Domain) → IsReadFault Domain domain_in text f → SpellsDomain text d → ⊥
no_domain text f d here spelled =
    let said = domain_said text d spelled in
    refused_unsaid Domain domain_in text f said.0 d here said.1

no_problem : (text : List ℕ) (f : ReadFault) (p : Problem) → IsReadFault Problem problem_in text f → SpellsProblem text p → ⊥
no_problem text f p here spelled =
    let said = problem_said text p spelled in
    refused_unsaid Problem problem_in text f said.0 p here said.1

-- each fault of a text is a reason
some_text_reason : (text : List ℕ) (s : SexpFault) → IsTextFault text s → (x : ℕ × Reason) × (text_reason s ≡ Some x)
some_text_reason text (syntax.Unclosed at) h = ((at, reason.Unclosed), refl)
some_text_reason text (syntax.Stray at) h = ((at, reason.Stray), refl)
some_text_reason text (syntax.BadByte at) h = ((at, reason.BadByte), refl)
some_text_reason text (syntax.TooDeep at) h = ((at, reason.TooDeep), refl)
some_text_reason text syntax.NoMemory h = absurd h

some_reason : (A : Type 0) (read : List ℕ → List Tree → Parsed A) (text : List ℕ) (f : ReadFault) → IsReadFault A read text f → (x : ℕ × Reason) × (reading_reason f ≡ Some x)
some_reason A read text (fault.Syntax s) h = some_text_reason text s h
some_reason A read text (fault.Unsupported name) h = ((name.at, reason.Unsupported name.text), refl)
some_reason A read text (fault.Shape at) h = ((at, reason.Shape), refl)
some_reason A read text (fault.Number at) h = ((at, reason.Number), refl)
some_reason A read text (fault.TooDeep at) h = ((at, reason.TooDeep), refl)
some_reason A read text (fault.TooMany what at) h = ((at, reason.TooMany what), refl)
some_reason A read text fault.NoMemory h = absurd h

-- ---- pairs

abbrev pair_with : Domain → Problem → Pair
pair_with d p = record { domain = d; problem = p }

same_pair : (domain problem : List ℕ) (a b : Pair) → SpellsDomain domain a.domain → SpellsDomain domain b.domain → SpellsProblem problem a.problem
    → SpellsProblem problem b.problem → a ≡ b
same_pair domain problem a b d e p q = ap₂ pair_with (one_domain domain a.domain b.domain d e) (one_problem problem a.problem b.problem p q)

pub one_pair : (domain problem : List ℕ) (a b : Pair) → IsAcceptedPair domain problem a → IsAcceptedPair domain problem b → a ≡ b
one_pair domain problem a b x y = same_pair domain problem a b x.domain_spelled y.domain_spelled x.problem_spelled y.problem_spelled

pub pair_or_reason : (domain problem : List ℕ) (pair : Pair) (r : Refusal) → IsAcceptedPair domain problem pair → IsFirstReason domain problem r → ⊥
pair_or_reason domain problem pair r x (IsFirstReason.in_domain f at why here h) = no_domain domain f pair.domain here x.domain_spelled
pair_or_reason domain problem pair r x (IsFirstReason.in_problem d f at why spelled here h) = no_problem problem f pair.problem here x.problem_spelled
pair_or_reason domain problem pair r x (IsFirstReason.in_pair other s kind name d p first) =
    let same = same_pair domain problem other pair d x.domain_spelled p x.problem_spelled in
    refused_answer pair (pair_faults.check_fault s kind name) (subst (λ (q : Pair). IsFirstFault q (check.At s kind name)) same first) x.well_formed

-- ---- one first reason

pub one_reason : (domain problem : List ℕ) (a b : Refusal) → IsFirstReason domain problem a → IsFirstReason domain problem b → a ≡ b
one_reason domain problem a b (IsFirstReason.in_domain f at r here h) (IsFirstReason.in_domain g place why there k) =
    ap (λ (x : ℕ × Reason). At source.Domain (place_of domain x.0) x.1) (one_reading Domain domain_in domain f g (at, r) (place, why) here there h k)
one_reason domain problem a b (IsFirstReason.in_domain f at r here h) (IsFirstReason.in_problem d g place why spelled there k) =
    absurd (no_domain domain f d here spelled)
one_reason domain problem a b (IsFirstReason.in_domain f at r here h) (IsFirstReason.in_pair pair s kind name d p first) =
    absurd (no_domain domain f pair.domain here d)
one_reason domain problem a b (IsFirstReason.in_problem d f at r spelled here h) (IsFirstReason.in_domain g place why there k) =
    absurd (no_domain domain g d there spelled)
one_reason domain problem a b (IsFirstReason.in_problem d f at r spelled here h) (IsFirstReason.in_problem e g place why read there k) =
    ap (λ (x : ℕ × Reason). At source.Problem (place_of problem x.0) x.1) (one_reading Problem problem_in problem f g (at, r) (place, why) here there h k)
one_reason domain problem a b (IsFirstReason.in_problem d f at r spelled here h) (IsFirstReason.in_pair pair s kind name e p first) =
    absurd (no_problem problem f pair.problem here p)
one_reason domain problem a b (IsFirstReason.in_pair pair s kind name d p first) (IsFirstReason.in_domain g place why there k) =
    absurd (no_domain domain g pair.domain there d)
one_reason domain problem a b (IsFirstReason.in_pair pair s kind name d p first) (IsFirstReason.in_problem e g place why spelled there k) =
    absurd (no_problem problem g pair.problem there p)
one_reason domain problem a b (IsFirstReason.in_pair pair s kind name d p first) (IsFirstReason.in_pair other side other_kind other_name e q found) =
    let same = same_pair domain problem pair other d e p q in
    let faults : pair_faults.check_fault s kind name ≡ pair_faults.check_fault side other_kind other_name =
    same_Some (pair_faults.check_fault s kind name) (pair_faults.check_fault side other_kind other_name) (sym first ∙ ap (λ (x : Pair). pair_faults.earliest_fault (faults_of x)) same ∙ found) in
    ap (λ f. At (source_of f.side) (place_of (side_text f.side domain problem) f.name.at) (reason.Ill f.kind f.name.text)) faults

-- ---- some answer

abbrev IsAnswered : List ℕ → List ℕ → Type 0
IsAnswered domain problem = ((pair : Pair) × IsAcceptedPair domain problem pair) ⊎ ((r : Refusal) × IsFirstReason domain problem r)

-- there is something, or nothing
found : {A : Type 0} (o : Option A) → (o ≡ None) ⊎ ((x : A) × (o ≡ Some x))
found None = inl refl
found (Some x) = inr (x, refl)

checked_answer : (domain problem : List ℕ) (pair : Pair) → SpellsDomain domain pair.domain → SpellsProblem problem pair.problem → IsAnswered domain problem
checked_answer domain problem pair d p =
    elim (found (pair_faults.earliest_fault (faults_of pair))) [
      | inl none ↦ inl (pair, record { domain_spelled = d; problem_spelled = p; well_formed = well_formed_answer pair none })
      | inr first ↦
          inr (
            At (source_of first.0.side) (place_of (side_text first.0.side domain problem) first.0.name.at) (reason.Ill first.0.kind first.0.name.text),
            IsFirstReason.in_pair pair first.0.side first.0.kind first.0.name d p first.1,
          )
    ]

problem_answer : (domain problem : List ℕ) (d : Domain) → SpellsDomain domain d → IsAnswered domain problem
problem_answer domain problem d spelled =
    elim (answered Problem problem_in SpellsProblem faultless_problem problem) [
      | inl found ↦ checked_answer domain problem (pair_with d found.0) spelled found.1
      | inr refused ↦
          let why = some_reason Problem problem_in problem refused.0 refused.1 in
          inr (At source.Problem (place_of problem why.0.0) why.0.1, IsFirstReason.in_problem d refused.0 why.0.0 why.0.1 spelled refused.1 why.1)
    ]

pub some_answer : (domain problem : List ℕ) → IsAnswered domain problem
some_answer domain problem =
    elim (answered Domain domain_in SpellsDomain faultless_domain domain) [
      | inl found ↦ problem_answer domain problem found.0 found.1
      | inr refused ↦
          let why = some_reason Domain domain_in domain refused.0 refused.1 in
          inr (At source.Domain (place_of domain why.0.0) why.0.1, IsFirstReason.in_domain refused.0 why.0.0 why.0.1 refused.1 why.1)
    ]
