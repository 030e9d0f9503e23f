-- Which certificate a text reads as, and its first fault.
use Rattle.std.specs.Prelude.{ℕ, ◌≡◌, ◌+◌, ◌≤◌, ◌++◌, ◌⊎◌, List, [], ◌∷◌, Result, Ok, Err, codes, flat_map, length}
use Rattle.ground_task.specs.States.{StateValue}
use Rattle.ground_task.specs.Tasks.{TaskValue}
use Rattle.box_model.specs.declared.state_box.StateBox.{StateBox}
use Rattle.cert_text.specs.declared.cert.Cert.{Cert}
use Rattle.cert_text.specs.declared.cert.Version.{Version}
use Rattle.cert_text.specs.declared.cert.Version.TheVariants.{Full, Short}
use Rattle.cert_reader.specs.declared.faults.CertFault.{CertFault}
use Rattle.cert_reader.specs.declared.faults.CertFault.TheVariants as faults
use Rattle.cert_reader.specs.Parts.{IsWithout}
use Rattle.cert_reader.specs.Spelling.{SpellsBox, SpellsState}

-- ---- certificates

abbrev pub first_line : Version → List ℕ
first_line Full = codes "UNSOLVABLE 1"
first_line Short = codes "UNSOLVABLE 2"

-- each line spells its item, and there are as many of both
abbrev pub SpellEach : {X : Type 0} → (List ℕ → X → Type 0) → List (List ℕ) → List X → Type 0
SpellEach Spells [] [] = Unit {0}
SpellEach Spells [] (x ∷ xs) = ⊥
SpellEach Spells (line ∷ lines) [] = ⊥
SpellEach Spells (line ∷ lines) (x ∷ xs) = Spells line x × SpellEach Spells lines xs

-- the lines of a certificate before its end: the version, the boxes, and then the states
pub record SpellsFront (t : TaskValue) (version : Version) (lines : List (List ℕ)) (boxes : List StateBox) (states : List StateValue) : Type 0 where
  pub box_lines : List (List ℕ)
  pub state_lines : List (List ℕ)
  pub lines_are : lines ≡ first_line version ∷ box_lines ++ state_lines
  pub spell_boxes : SpellEach (SpellsBox t version) box_lines boxes
  pub spell_states : SpellEach (SpellsState t) state_lines states
  pub few_boxes : length boxes ≤ 40000
  pub few_states : length states ≤ 500000

-- each line with its line feed
abbrev pub with_line_feeds : List (List ℕ) → List ℕ
with_line_feeds lines = flat_map (λ line. line ++ codes "\n") lines

-- the text is a certificate of these boxes and states
pub record ReadsAs (t : TaskValue) (text : List ℕ) (boxes : List StateBox) (states : List StateValue) : Type 0 where
  pub version : Version
  pub lines : List (List ℕ)
  pub front : SpellsFront t version lines boxes states
  pub text_is : text ≡ with_line_feeds lines ++ codes "end\n"

-- ---- faults

-- a further box, behind a version and boxes alone
abbrev pub FollowsAsBox : TaskValue → Version → List StateValue → List ℕ → StateBox → Type 0
FollowsAsBox t version states line b = (states ≡ []) × SpellsBox t version line b

-- the line may stand behind such a version, boxes and these states, but for the number of boxes and states
abbrev pub MayFollow : TaskValue → Version → List StateValue → List ℕ → Type 0
MayFollow t version states line =
    ((b : StateBox) × FollowsAsBox t version states line b)
    ⊎ ((s : StateValue) × SpellsState t line s)
    ⊎ (line ≡ codes "end")

-- one more box or state of a list that is full
abbrev pub IsFull : TaskValue → Version → List StateBox → List StateValue → List ℕ → Type 0
IsFull t version boxes states line =
    ((length boxes ≡ 40000) × ((b : StateBox) × FollowsAsBox t version states line b))
    ⊎ ((length states ≡ 500000) × ((s : StateValue) × SpellsState t line s))

-- the line may not stand behind these lines
abbrev pub MayNotFollow : TaskValue → List (List ℕ) → List ℕ → Type 0
MayNotFollow t before line =
    ((before ≡ []) × ((version : Version) → line ≡ first_line version → ⊥))
    ⊎ ((version : Version) × (boxes : List StateBox) × (states : List StateValue)
    × SpellsFront t version before boxes states × (MayFollow t version states line → ⊥))

-- a line that may not stand where it stands
pub record IsBadLine (t : TaskValue) (text : List ℕ) (number : ℕ) : Type 0 where
  pub before : List (List ℕ)
  pub line : List ℕ
  pub behind : List ℕ
  pub text_is : text ≡ with_line_feeds before ++ (line ++ codes "\n" ++ behind)
  pub one_line : IsWithout 10 line
  pub place : number ≡ length before + 1
  pub bad : MayNotFollow t before line

-- a byte behind the end
pub record IsBehindEnd (t : TaskValue) (text : List ℕ) (number : ℕ) : Type 0 where
  pub version : Version
  pub lines : List (List ℕ)
  pub boxes : List StateBox
  pub states : List StateValue
  pub front : SpellsFront t version lines boxes states
  pub byte : ℕ
  pub behind : List ℕ
  pub text_is : text ≡ with_line_feeds lines ++ (codes "end\n" ++ byte ∷ behind)
  pub place : number ≡ length lines + 2

-- one box or state too many
pub record IsOneTooMany (t : TaskValue) (text : List ℕ) (number : ℕ) : Type 0 where
  pub version : Version
  pub before : List (List ℕ)
  pub boxes : List StateBox
  pub states : List StateValue
  pub front : SpellsFront t version before boxes states
  pub line : List ℕ
  pub behind : List ℕ
  pub text_is : text ≡ with_line_feeds before ++ (line ++ codes "\n" ++ behind)
  pub one_line : IsWithout 10 line
  pub place : number ≡ length before + 1
  pub full : IsFull t version boxes states line

-- The text ends before the line feed of its end, and no line of it is at fault. What stands behind its last line feed
-- isn't looked at.
pub record IsEndedEarly (t : TaskValue) (text : List ℕ) (number : ℕ) : Type 0 where
  pub before : List (List ℕ)
  pub unended : List ℕ
  pub text_is : text ≡ with_line_feeds before ++ unended
  pub no_line : IsWithout 10 unended
  pub place : number ≡ length before + 1
  pub faultless : (before ≡ []) ⊎ ((version : Version) × (boxes : List StateBox) × (states : List StateValue)
      × SpellsFront t version before boxes states)

-- the first fault of a text, with the number of its line, from 1
abbrev pub IsFirstFault : TaskValue → List ℕ → CertFault → Type 0
IsFirstFault t text (faults.BadLine number) = IsBadLine t text number ⊎ IsBehindEnd t text number
IsFirstFault t text (faults.EndsEarly number) = IsEndedEarly t text number
IsFirstFault t text (faults.TooMany number) = IsOneTooMany t text number
IsFirstFault t text faults.NoMemory = Unit {0}

-- what reading a text as a certificate answers
abbrev pub IsAnswer : TaskValue → List ℕ → Result Cert CertFault → Type 0
IsAnswer t text (Ok cert) = ReadsAs t text cert.boxes cert.states
IsAnswer t text (Err fault) = IsFirstFault t text fault
