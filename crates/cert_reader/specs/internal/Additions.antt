-- What one line adds to a certificate that is read. No public contract cites it.
use Rattle.std.specs.Prelude.{ℕ, ◌≡◌, ◌<◌, ◌++◌, ◌⊎◌, List, [], ◌∷◌, length}
use Rattle.ground_task.specs.States.{StateValue}
use Rattle.ground_task.specs.Tasks.{TaskValue}
use Rattle.box_model.specs.declared.state_box.StateBox.{StateBox}
use Rattle.cert_text.specs.declared.cert.Cert.{Cert}
use Rattle.cert_text.specs.declared.cert.Version.{Version}
use Rattle.cert_reader.specs.declared.faults.CertFault.{CertFault}
use Rattle.cert_reader.specs.declared.faults.CertFault.TheVariants.{BadLine, EndsEarly, TooMany, NoMemory}
use Rattle.cert_reader.specs.Spelling.{SpellsState}
use Rattle.cert_reader.specs.Certificates.{FollowsAsBox, IsFull, MayFollow}

-- the line adds a box or a state, for which there is room
abbrev pub Adds : TaskValue → Version → List ℕ → Cert → Cert → Type 0
Adds t version line old new =
    ((b : StateBox) × FollowsAsBox t version old.states line b × (length old.boxes < 40000)
    × (new.boxes ≡ old.boxes ++ b ∷ []) × (new.states ≡ old.states))
    ⊎ ((s : StateValue) × SpellsState t line s × (length old.states < 500000)
    × (new.boxes ≡ old.boxes) × (new.states ≡ old.states ++ s ∷ []))

-- why the line of this number adds nothing
abbrev pub IsAgainst : TaskValue → Version → List ℕ → ℕ → Cert → CertFault → Type 0
IsAgainst t version line number cert (BadLine k) = (k ≡ number) × (MayFollow t version cert.states line → ⊥)
IsAgainst t version line number cert (EndsEarly k) = ⊥
IsAgainst t version line number cert (TooMany k) = (k ≡ number) × IsFull t version cert.boxes cert.states line
IsAgainst t version line number cert NoMemory = Unit {0}
