-- The commands, with the options that each needs and those that it may have besides.
use Rattle.std.specs.Prelude.{List, [], ◌∷◌, Bool, true, not, Option, is_some, codes, find, if◌then◌else◌}
use Rattle.std.specs.List.{list_any}
use Rattle.std.specs.Str.{bytes_eq}
use Rattle.clap.specs.Walk.{Text}
use Rattle.enhsp_words.specs.declared.job.Command.{Command}
use Rattle.enhsp_words.specs.declared.job.Command.TheVariants.{Plan, Relax, Validate, Certify, Generate, Upgrade, Adl, Expand, Optimal, CertifyCost, Steps, Look}
use Rattle.enhsp_words.specs.declared.options.Presence.{Presence}
use Rattle.enhsp_words.specs.declared.options.Presence.TheVariants.{Needed, Allowed, Refused}

abbrev pub word_of : Command → Text
word_of Plan = codes "plan"
word_of Relax = codes "relax"
word_of Validate = codes "validate"
word_of Certify = codes "certify"
word_of Generate = codes "generate"
word_of Upgrade = codes "upgrade"
word_of Adl = codes "adl"
word_of Expand = codes "expand"
word_of Optimal = codes "optimal"
word_of CertifyCost = codes "certify-cost"
word_of Steps = codes "steps"
word_of Look = codes "look"

abbrev pub commands : List Command
commands = Plan ∷ Relax ∷ Validate ∷ Certify ∷ Generate ∷ Upgrade ∷ Adl ∷ Expand ∷ Optimal ∷ CertifyCost ∷ Steps ∷ Look ∷ []

abbrev pub command_of : Text → Option Command
command_of word = find (λ c. bytes_eq word (word_of c)) commands

-- the domain and the problem
abbrev pub pair_and : List Text → List Text
pair_and more = codes "domain" ∷ codes "problem" ∷ more

-- what a command needs, and what it may have
abbrev pub options_of : Command → List Text × List Text
options_of Plan = (pair_and [], codes "limit" ∷ codes "workers" ∷ codes "relaxers" ∷ [])
options_of Relax = (pair_and [], codes "relaxers" ∷ [])
options_of Validate = (pair_and (codes "plan" ∷ []), [])
options_of Certify = (pair_and (codes "certificate" ∷ []), [])
options_of Generate = (codes "size" ∷ [], codes "limit" ∷ [])
options_of Upgrade = (pair_and (codes "certificate" ∷ []), [])
options_of Adl = (pair_and [], codes "limit" ∷ codes "workers" ∷ codes "relaxers" ∷ [])
options_of Expand = (pair_and [], [])
options_of Optimal = (pair_and [], codes "limit" ∷ codes "workers" ∷ [])
options_of CertifyCost = (pair_and (codes "certificate" ∷ []), [])
options_of Steps = (pair_and (codes "plan" ∷ []), [])
options_of Look = (pair_and [], codes "relaxers" ∷ [])

abbrev pub presence_of : Command → Text → Presence
presence_of command id = if list_any (bytes_eq id) (options_of command).0 then Needed
    else (if list_any (bytes_eq id) (options_of command).1 then Allowed else Refused)

-- an option may be given, or left out
abbrev pub fits : Presence → Option Text → Bool
fits Needed value = is_some value
fits Allowed value = true
fits Refused value = not (is_some value)
