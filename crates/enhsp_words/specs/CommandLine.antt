-- The command line as clap reads it: one positional word, and eight options with one value each.
use Rattle.std.specs.Prelude.{ℕ, List, [], ◌∷◌, Bool, true, Option, Some, codes}
use Rattle.std.specs.Str.{byte}
use Rattle.clap.specs.Faults.{fault_of}
use Rattle.clap.specs.Simple.{App, matches_of, new_rule, new_shape}
use Rattle.clap.specs.Walk.{Rule, Text, first_of, is_empty}

-- the one positional word, or the option, that is kept under this id
abbrev pub positional : Text → Rule
positional id = new_rule id

abbrev pub short_option : Text → ℕ → Rule
short_option id letter = record (new_rule id) { short = Some letter }

abbrev pub long_option : Text → Rule
long_option name = record (new_rule name) { long = Some name }

-- the command, four options with a letter, and four with a name
abbrev pub rules : List Rule
rules = positional (codes "command")
    ∷ short_option (codes "domain") (byte "o")
    ∷ short_option (codes "problem") (byte "f")
    ∷ short_option (codes "plan") (byte "p")
    ∷ short_option (codes "certificate") (byte "c")
    ∷ long_option (codes "limit")
    ∷ long_option (codes "workers")
    ∷ long_option (codes "relaxers")
    ∷ long_option (codes "size")
    ∷ []

-- the words begin after the program's name, and no flag asks for help or the version
abbrev pub bare : App
bare = record {
  top = record (new_shape (codes "enhsp")) {
    no_binary_name = true;
    disable_help_flag = true;
    disable_version_flag = true;
  };
  subs = [];
}

abbrev pub command_line : App
command_line = record bare { top = record bare.top { rules = rules } }

-- the words are such a command line
unfoldable pub is_command_line : List Text → Bool
is_command_line words = is_empty (fault_of command_line words)

-- the value that a command line has under an id
unfoldable pub value_in : List Text → Text → Option Text
value_in words id = first_of id (matches_of command_line words)
