-- What is answered to a text: what it says, or its first fault, and one alone.
use Rattle.std.proofs.Common.{◌≡◌, ◌≢◌, ◌⊎◌, inl, inr, ℕ, List, [], Option, Some, None, Ok, refl, sym, ap, subst, ◌∙◌}
use Rattle.std.proofs.lemmas.Option.{same_Some}
use Rattle.sexp_text.specs.declared.trees.Tree.{Tree}
use Rattle.sexp_text.specs.declared.trees.SexpFault.{SexpFault}
use Rattle.sexp_text.specs.Trees.{AreTrees, IsTextFault}
use Rattle.sexp_text.proofs.OneAnswer.{no_fault, one_fault, one_list}
use Rattle.sexp_text.proofs.SomeAnswer.{some_answer}
use Rattle.pddl_trees.specs.declared.faults.Fault.{Fault}
use Rattle.pddl_trees.specs.declared.faults.Reason.{Reason}
use Rattle.pddl_trees.specs.declared.faults.Reason.TheVariants as reason
use Rattle.pddl_trees.specs.Faults.{first_fault}
use Rattle.pddl_trees.specs.Forms.{Parsed}
use Rattle.pddl_trees.specs.Texts.{SaysWithoutFault}
use Rattle.pddl_trees.proofs.FirstFault.{none_first}
use Rattle.pddl_reader.specs.declared.faults.ReadFault.{ReadFault}
use Rattle.pddl_reader.specs.declared.faults.ReadFault.TheVariants as answer
use Rattle.pddl_reader.specs.Answers.{IsFirstFaultOf, IsReadAnswer, IsReadFault, fault_answer}

-- ---- what is answered

by_reason : (A : Type 0) (read : List ℕ → List Tree → Parsed A) (text : List ℕ) (trees : List Tree) (at : ℕ) (r : Reason)
    → IsFirstFaultOf text trees (read text trees).faults (fault_answer text at r) → IsReadFault A read text (fault_answer text at r)
by_reason A read text trees at reason.Number x = (trees, x)
by_reason A read text trees at (reason.TooMany w) x = (trees, x)
by_reason A read text trees at reason.Unsupported x = (trees, x)
by_reason A read text trees at reason.Shape x = (trees, x)
by_reason A read text trees at reason.TooDeep x = (trees, x)

-- the first fault of a text is its answer
pub fault_found : (A : Type 0) (read : List ℕ → List Tree → Parsed A) (text : List ℕ) (trees : List Tree) → AreTrees text trees → (fault : Fault)
    → first_fault (read text trees).faults ≡ Some fault → IsReadFault A read text (fault_answer text fault.at fault.reason)
fault_found A read text trees are fault first =
    by_reason A read text trees fault.at fault.reason (record { trees_of_text = are; first = fault; is_first = first; answered = refl })

-- and where there is none, what its trees say
pub value_found : (A : Type 0) (read : List ℕ → List Tree → Parsed A) (text : List ℕ) (trees : List Tree) → AreTrees text trees → (x : A)
    → first_fault (read text trees).faults ≡ None → (read text trees).value ≡ Some x → SaysWithoutFault A text trees (read text trees) x
value_found A read text trees are x none is =
    record { trees_of_text = are; no_fault = (none_first (read text trees).faults).0 none; value_is = is }

-- a text without trees is refused by its fault
pub no_trees : (A : Type 0) (read : List ℕ → List Tree → Parsed A) (text : List ℕ) (fault : ReadFault) (syntax : SexpFault) → fault ≡ answer.Syntax syntax → IsTextFault text syntax
    → IsReadFault A read text fault
no_trees A read text fault syntax is x = subst (IsReadFault A read text) (sym is) x

-- ---- one answer

-- why a text is refused: it has no trees, or these trees, which have a first fault
pub data Cause (A : Type 0) (read : List ℕ → List Tree → Parsed A) (text : List ℕ) : ReadFault → Type 0 where
  syntactic : (syntax : SexpFault) → IsTextFault text syntax → Cause A read text (answer.Syntax syntax)
  faulty : (fault : ReadFault) (trees : List Tree) → IsFirstFaultOf text trees (read text trees).faults fault → Cause A read text fault

pub cause_of : (A : Type 0) (read : List ℕ → List Tree → Parsed A) (text : List ℕ) (fault : ReadFault) → IsReadFault A read text fault → Cause A read text fault
cause_of A read text (answer.Syntax syntax) x = Cause.syntactic syntax x
cause_of A read text (answer.Unsupported name) x = Cause.faulty (answer.Unsupported name) x.0 x.1
cause_of A read text (answer.Shape at) x = Cause.faulty (answer.Shape at) x.0 x.1
cause_of A read text (answer.Number at) x = Cause.faulty (answer.Number at) x.0 x.1
cause_of A read text (answer.TooDeep at) x = Cause.faulty (answer.TooDeep at) x.0 x.1
cause_of A read text (answer.TooMany what at) x = Cause.faulty (answer.TooMany what at) x.0 x.1
cause_of A read text answer.NoMemory x = absurd x

same_first : (A : Type 0) (read : List ℕ → List Tree → Parsed A) (text : List ℕ) (ts us : List Tree) (f g : ReadFault) → IsFirstFaultOf text ts (read text ts).faults f
    → IsFirstFaultOf text us (read text us).faults g → f ≡ g
same_first A read text ts us f g x y =
    let same = one_list text ts us x.trees_of_text y.trees_of_text in
    let first = sym x.is_first ∙ ap (λ (vs : List Tree). first_fault (read text vs).faults) same ∙ y.is_first in
    x.answered ∙ ap (λ (fault : Fault). fault_answer text fault.at fault.reason) (same_Some x.first y.first first) ∙ sym y.answered

one_cause : (A : Type 0) (read : List ℕ → List Tree → Parsed A) (text : List ℕ) (f g : ReadFault) → Cause A read text f → Cause A read text g → f ≡ g
one_cause A read text _ _ (Cause.syntactic s x) (Cause.syntactic t y) = ap answer.Syntax (one_fault text s t x y)
one_cause A read text _ g (Cause.syntactic s x) (Cause.faulty h ts y) = absurd (no_fault text ts s y.trees_of_text x)
one_cause A read text f _ (Cause.faulty h ts x) (Cause.syntactic s y) = absurd (no_fault text ts s x.trees_of_text y)
one_cause A read text f g (Cause.faulty h ts x) (Cause.faulty i us y) = same_first A read text ts us f g x y

pub one_answer : (A : Type 0) (read : List ℕ → List Tree → Parsed A) (text : List ℕ) (f g : ReadFault) → IsReadFault A read text f → IsReadFault A read text g → f ≡ g
one_answer A read text f g x y = one_cause A read text f g (cause_of A read text f x) (cause_of A read text g y)

no_cause : (A : Type 0) (read : List ℕ → List Tree → Parsed A) (text : List ℕ) (fault : ReadFault) (trees : List Tree) (value : A) → Cause A read text fault
    → SaysWithoutFault A text trees (read text trees) value → ⊥
no_cause A read text _ trees value (Cause.syntactic s x) y = no_fault text trees s y.trees_of_text x
no_cause A read text f trees value (Cause.faulty h ts x) y =
    let same = one_list text ts trees x.trees_of_text y.trees_of_text in
    let none = (none_first (read text ts).faults).1 (ap (λ (vs : List Tree). (read text vs).faults) same ∙ y.no_fault) in
    cc (sym none ∙ x.is_first)

-- what is refused isn't said without a fault
pub refused_unsaid : (A : Type 0) (read : List ℕ → List Tree → Parsed A) (text : List ℕ) (fault : ReadFault) (trees : List Tree) (value : A) → IsReadFault A read text fault
    → SaysWithoutFault A text trees (read text trees) value → ⊥
refused_unsaid A read text fault trees value x y = no_cause A read text fault trees value (cause_of A read text fault x) y

-- ---- some answer

abbrev pub IsAnswered : (A : Type 0) (read : List ℕ → List Tree → Parsed A) (S : List ℕ → A → Type 0) → List ℕ → Type 0
IsAnswered A read S text = ((value : A) × S text value) ⊎ ((fault : ReadFault) × IsReadFault A read text fault)

-- where trees without a fault spell something, each text spells something or has a first fault
pub answered : (A : Type 0) (read : List ℕ → List Tree → Parsed A) (S : List ℕ → A → Type 0)
    → ((text : List ℕ) (trees : List Tree) → AreTrees text trees → (read text trees).faults ≡ [] → (value : A) × S text value) → (text : List ℕ) → IsAnswered A read S text
answered A read S faultless text =
    elim (some_answer text) [
      | inl found ↦ by_first found.0 found.1 (first_fault (read text found.0).faults) refl
      | inr refused ↦ inr (answer.Syntax refused.0, refused.1)
    ]
  where
    by_first : (trees : List Tree) → AreTrees text trees → (o : Option Fault) → first_fault (read text trees).faults ≡ o → IsAnswered A read S text
    by_first trees are None none = inl (faultless text trees are ((none_first (read text trees).faults).0 none))
    by_first trees are (Some fault) first = inr (fault_answer text fault.at fault.reason, fault_found A read text trees are fault first)
