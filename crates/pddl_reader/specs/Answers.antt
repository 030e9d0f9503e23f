-- What is answered to a text: what it says, or its first fault.
use Rattle.std.specs.Prelude.{ℕ, ◌≡◌, ◌≢◌, List, Some, Result, Ok, Err, map, take, drop}
use Rattle.num_ends.specs.Names.{folded}
use Rattle.sexp_text.specs.Reading.{word_len}
use Rattle.sexp_text.specs.Trees.{AreTrees, IsTextFault}
use Rattle.sexp_text.specs.declared.trees.Tree.{Tree}
use Rattle.pddl_reader.specs.declared.faults.ReadFault.{ReadFault}
use Rattle.pddl_reader.specs.declared.faults.ReadFault.TheVariants as answer
use Rattle.pddl_trees.specs.declared.faults.Reason.{Reason}
use Rattle.pddl_trees.specs.declared.faults.Reason.TheVariants as reason
use Rattle.pddl_trees.specs.declared.faults.Fault.{Fault}
use Rattle.pddl_trees.specs.Faults.{first_fault}
use Rattle.pddl_trees.specs.Forms.{Parsed}
use Rattle.pddl_trees.specs.Texts.{SaysWithoutFault}

-- the word that begins at a position
abbrev pub word_from : List ℕ → ℕ → List ℕ
word_from text at = map folded (take (word_len (drop at text)) (drop at text))

-- how a fault is answered
abbrev pub fault_answer : List ℕ → ℕ → Reason → ReadFault
fault_answer text at reason.Number = answer.Number at
fault_answer text at (reason.TooMany w) = answer.TooMany w at
fault_answer text at reason.Unsupported = answer.Unsupported (record { text = word_from text at; at = at })
fault_answer text at reason.Shape = answer.Shape at
fault_answer text at reason.TooDeep = answer.TooDeep at

-- these are the trees of the text, and this is how the first of these faults is answered
pub record IsFirstFaultOf (text : List ℕ) (trees : List Tree) (faults : List Fault) (fault : ReadFault) : Type 0 where
  pub trees_of_text : AreTrees text trees
  pub first : Fault
  pub is_first : first_fault faults ≡ Some first
  pub answered : fault ≡ fault_answer text first.at first.reason

-- the first fault of a text of which this is read; want of memory is no fault of a text
abbrev pub IsReadFault : (A : Type 0) → (List ℕ → List Tree → Parsed A) → List ℕ → ReadFault → Type 0
IsReadFault A read text (answer.Syntax fault) = IsTextFault text fault
IsReadFault A read text (answer.Unsupported name) = (trees : List Tree) × IsFirstFaultOf text trees (read text trees).faults (answer.Unsupported name)
IsReadFault A read text (answer.Shape at) = (trees : List Tree) × IsFirstFaultOf text trees (read text trees).faults (answer.Shape at)
IsReadFault A read text (answer.Number at) = (trees : List Tree) × IsFirstFaultOf text trees (read text trees).faults (answer.Number at)
IsReadFault A read text (answer.TooDeep at) = (trees : List Tree) × IsFirstFaultOf text trees (read text trees).faults (answer.TooDeep at)
IsReadFault A read text (answer.TooMany what at) = (trees : List Tree) × IsFirstFaultOf text trees (read text trees).faults (answer.TooMany what at)
IsReadFault A read text answer.NoMemory = ⊥

-- what reading a text answers, but for want of memory
abbrev pub IsReadAnswer : (A : Type 0) → (List ℕ → List Tree → Parsed A) → List ℕ → Result A ReadFault → Type 0
IsReadAnswer A read text (Ok value) = (trees : List Tree) × SaysWithoutFault A text trees (read text trees) value
IsReadAnswer A read text (Err fault) = fault ≢ answer.NoMemory → IsReadFault A read text fault
