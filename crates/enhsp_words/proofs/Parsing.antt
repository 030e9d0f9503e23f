-- What clap says of the one command line.
use Rattle.std.proofs.Common.{arith, ◌≡◌, ◌≢◌, ◌∙◌, true, false, List, [], ◌∷◌, refl, ap, ap₂, inl, inr, subst, ne_eqb}
use Rattle.std.proofs.Math.Path.{fun_ext}
use Rattle.std.specs.Prelude.{Result, Err}
use Rattle.clap.specs.Built.{AddsArg}
use Rattle.clap.specs.Faults.{fault_of, is_simple_and_free}
use Rattle.clap.specs.Kinds.{HasKind, Kinds}
use Rattle.clap.specs.Matches.{first_value, found_of}
use Rattle.clap.specs.Simple.{App, HasMatchesOf, app_of, is_simple, matches_of, with_rule}
use Rattle.clap.specs.Values.{kind_of}
use Rattle.clap.specs.Walk.{Rule, Text, first_of, is_empty, rule_of, rows_of}
use Rattle.clap.specs.declared.builder.arg.Arg.{Arg}
use Rattle.clap.specs.declared.builder.command.Command.{Command}
use Rattle.clap.specs.declared.error.Error.{Error}
use Rattle.clap.specs.declared.error.kind.ErrorKind.TheVariants.{OutOfMemory}
use Rattle.clap.specs.declared.parser.matches.ArgMatches.{ArgMatches}
use Rattle.clap.proofs.OnLiterals.{clap_on_literals}
use Rattle.clap.proofs.WalkLemmas.{first_value-rows}
use Rattle.enhsp_words.specs.Jobs.{Gives, Values, job_of, job_of_values}
use Rattle.enhsp_words.specs.CommandLine.{is_command_line, command_line, value_in}
use Rattle.enhsp_words.specs.declared.job.Job.{Job}
use Rattle.enhsp_words.specs.declared.job.WordsFault.{WordsFault}
use Rattle.enhsp_words.specs.declared.job.WordsFault.TheVariants.{Usage, NoMemory}

-- an argument is added to a command that is known
pub with_known : (old new : Command) (a : Arg) (app : App) (r : Rule) → AddsArg old a new → app_of old ≡ app → rule_of a ≡ r → a.global ≡ false
    → app_of new ≡ with_rule app r
with_known old new a app r added is_app is_rule own = added.shape own ∙ ap₂ with_rule is_app is_rule

simple : is_simple command_line ≡ true
unfolding clap_on_literals
simple = refl

simple_and_free : is_simple_and_free command_line ≡ true
unfolding clap_on_literals
simple_and_free = refl

is_command_line-at : (words : List Text) (kinds : Kinds) → fault_of command_line words ≡ kinds → is_command_line words ≡ is_empty kinds
unfolding is_command_line
is_command_line-at words kinds e = ap is_empty e

value_in-at : (words : List Text) (id : Text) → first_of id (matches_of command_line words) ≡ value_in words id
unfolding value_in
value_in-at words id = refl

-- a parse that succeeds gives the values of a command line
pub taken : (app : App) (words : List Text) (m : ArgMatches) → app ≡ command_line → HasMatchesOf app words m → (is_simple_and_free app ≡ true → fault_of app words ≡ [])
    → (is_command_line words ≡ true) × (first_value (found_of m) ≡ value_in words)
taken app words m is_app matches faults =
    let none : fault_of command_line words ≡ [] = subst (λ (a : App). fault_of a words ≡ []) is_app (faults (ap is_simple_and_free is_app ∙ simple_and_free)) in
    let rows : rows_of (found_of m) ≡ matches_of command_line words = (matches (ap is_simple is_app ∙ simple)).0 ∙ ap (λ (a : App). matches_of a words) is_app in
    (is_command_line-at words [] none, fun_ext (λ id. first_value-rows (found_of m) id ∙ (ap (first_of id) rows ∙ value_in-at words id)))

some_kind : (e : Error) (kinds : Kinds) → HasKind kinds e → kind_of e ≢ OutOfMemory → is_empty kinds ≡ false
some_kind e [] has not_memory = elim has [ inl h ↦ absurd (not_memory h) | inr h ↦ absurd h ]
some_kind e (k ∷ ks) has not_memory = ne_eqb _ _ (λ e. omega (arith, e))

-- one that is refused for another cause than memory has none
pub refused : (app : App) (words : List Text) (e : Error) → app ≡ command_line → (is_simple_and_free app ≡ true → HasKind (fault_of app words) e) → kind_of e ≢ OutOfMemory
    → is_command_line words ≡ false
refused app words e is_app faults not_memory =
    let has : HasKind (fault_of command_line words) e = subst (λ (a : App). HasKind (fault_of a words) e) is_app (faults (ap is_simple_and_free is_app ∙ simple_and_free)) in
    is_command_line-at words (fault_of command_line words) refl ∙ some_kind e (fault_of command_line words) has not_memory

-- words that are no command line are no job
pub no_line : (words : List Text) (fault : WordsFault) → (fault ≡ Usage → is_command_line words ≡ false) → Gives {A = Job} (Err fault) (job_of words)
unfolding job_of
no_line words Usage refused = rw (refused refl) refl
no_line words NoMemory refused = tt

-- a command line has the job of its values
pub of_line : (words : List Text) (value : Values) (result : Result Job WordsFault) → (is_command_line words ≡ true) × (value ≡ value_in words)
    → Gives result (job_of_values value) → Gives result (job_of words)
unfolding job_of
of_line words value result read gives = rw read.0 (subst (λ (v : Values). Gives result (job_of_values v)) read.1 gives)
