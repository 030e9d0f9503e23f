-- Texts of which the last bytes are held back.
use Rattle.std.specs.Prelude.{ℕ, ◌≡◌, ◌<◌, Bool, true, false, List, [], ◌++◌, Option, length}
use Rattle.std.specs.Io.KnownBytes.{Appends, Keeps}
use Rattle.answer_text.specs.Sending.{IsCut}
use Rattle.answer_text.specs.declared.faults.Unsent.{Unsent}
use Rattle.answer_text.specs.declared.faults.Unsent.TheVariants as unsent

-- whether a byte was written before some bytes, and whether one was behind them
abbrev pub Begins : Bool → Bool → List ℕ → Type 0
Begins true after bytes = after ≡ true
Begins false true bytes = 0 < length bytes
Begins false false bytes = bytes ≡ []

-- a front of the text was written behind what was there before, and the rest is held back
abbrev pub AreSent : Bool → Bool → Option (List ℕ) → Option (List ℕ) → List ℕ → List ℕ → Type 0
AreSent before after old new held text =
    (front : List ℕ) × Appends old new front × (text ≡ front ++ held) × Begins before after front

-- not all of the text was written where the sink failed; and none where there was no memory, which is told by whether a byte
-- was written before it
abbrev pub IsHeldBack : Bool → Option (List ℕ) → Option (List ℕ) → List ℕ → Unsent → Type 0
IsHeldBack before old new text unsent.Sink = IsCut old new text
IsHeldBack before old new text unsent.NoMemory = Keeps old new × (before ≡ false)
IsHeldBack before old new text unsent.CutShort = Keeps old new × (before ≡ true)
