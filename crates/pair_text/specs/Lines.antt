-- The lines of refusals.
use Rattle.std.specs.Prelude.{ℕ, ◌++◌, List, [], ◌∷◌, codes, decimal, flat_map}
use Rattle.pddl_terms.specs.declared.limits.What.{What}
use Rattle.pddl_terms.specs.declared.limits.What.TheVariants as what
use Rattle.pddl_terms.specs.Limits.{limit_of}
use Rattle.pddl_types.specs.declared.faults.CheckKind.{CheckKind}
use Rattle.pddl_types.specs.declared.faults.CheckKind.TheVariants as kind
use Rattle.pair_text.specs.declared.refusals.Source.{Source}
use Rattle.pair_text.specs.declared.refusals.Source.TheVariants as source
use Rattle.pair_text.specs.declared.refusals.Place.{Place}
use Rattle.pair_text.specs.declared.refusals.Reason.{Reason}
use Rattle.pair_text.specs.declared.refusals.Reason.TheVariants as reason
use Rattle.pair_text.specs.declared.refusals.LineReason.{LineReason}
use Rattle.pair_text.specs.declared.refusals.LineReason.TheVariants as line_reason
use Rattle.pair_text.specs.declared.refusals.Refusal.{Refusal}
use Rattle.pair_text.specs.declared.refusals.Refusal.TheVariants as refusal

abbrev pub source_word : Source → List ℕ
source_word source.Domain = codes "domain"
source_word source.Problem = codes "problem"
source_word source.Plan = codes "plan"
source_word source.Certificate = codes "certificate"

abbrev pub line_reason_word : LineReason → List ℕ
line_reason_word line_reason.BadLine = codes "BADLINE"
line_reason_word line_reason.EndsEarly = codes "ENDSEARLY"
line_reason_word line_reason.TooMany = codes "TOOMANY"

abbrev pub what_word : What → List ℕ
what_word what.Objects = codes "objects"
what_word what.Parameters = codes "parameters"
what_word what.Effects = codes "effects"
what_word what.Letters = codes "letters"
what_word what.Facts = codes "facts"
what_word what.Fluents = codes "fluents"
what_word what.Actions = codes "actions"
what_word what.Prefixes = codes "prefixes"
what_word what.Supporters = codes "supporters"

abbrev pub kind_word : CheckKind → List ℕ
kind_word kind.Duplicate = codes "DUPLICATE"
kind_word kind.UnknownType = codes "UNKNOWNTYPE"
kind_word kind.CyclicType = codes "CYCLICTYPE"
kind_word kind.UnknownName = codes "UNKNOWNNAME"
kind_word kind.Arity = codes "ARITY"
kind_word kind.WrongType = codes "WRONGTYPE"
kind_word kind.Divide = codes "DIVIDE"

-- the name at fault is told, but for a divisor
abbrev pub told_name : CheckKind → List ℕ → List (List ℕ)
told_name kind.Duplicate name = name ∷ []
told_name kind.UnknownType name = name ∷ []
told_name kind.CyclicType name = name ∷ []
told_name kind.UnknownName name = name ∷ []
told_name kind.Arity name = name ∷ []
told_name kind.WrongType name = name ∷ []
told_name kind.Divide name = []

-- such as `TOOMANY parameters 8`
abbrev pub limit_words : What → List (List ℕ)
limit_words w = codes "TOOMANY" ∷ what_word w ∷ decimal (limit_of w) ∷ []

abbrev pub reason_words : Reason → List (List ℕ)
reason_words reason.Unclosed = codes "UNCLOSED" ∷ []
reason_words reason.Stray = codes "STRAY" ∷ []
reason_words reason.BadByte = codes "BADBYTE" ∷ []
reason_words reason.TooDeep = codes "TOODEEP" ∷ []
reason_words (reason.Unsupported name) = codes "UNSUPPORTED" ∷ name ∷ []
reason_words reason.Shape = codes "SHAPE" ∷ []
reason_words reason.Number = codes "NUMBER" ∷ []
reason_words (reason.TooMany w) = limit_words w
reason_words (reason.Ill kind name) = kind_word kind ∷ told_name kind name

-- such as `2:49`
abbrev pub place_word : Place → List ℕ
place_word place = decimal place.line ++ codes ":" ++ decimal place.column

abbrev pub refusal_words : Refusal → List (List ℕ)
refusal_words (refusal.TooLarge file) = source_word file ∷ codes "TOOLARGE" ∷ []
refusal_words (refusal.At file place r) = source_word file ∷ place_word place ∷ reason_words r
refusal_words (refusal.BadLine line) = codes "plan" ∷ decimal line ∷ codes "BADLINE" ∷ []
refusal_words (refusal.InCertificate line r) = codes "certificate" ∷ decimal line ∷ line_reason_word r ∷ []
refusal_words (refusal.Unset text) = codes "UNSET" ∷ text ∷ []
refusal_words (refusal.Places text) = codes "PLACES" ∷ text ∷ []
refusal_words (refusal.Range text) = codes "RANGE" ∷ text ∷ []
refusal_words (refusal.Limit w) = limit_words w
refusal_words refusal.Unbuilt = codes "UNBUILT" ∷ []

-- words with a space before each
abbrev pub spaced : List (List ℕ) → List ℕ
spaced words = flat_map (λ w. 32 ∷ w) words

abbrev pub refusal_line : Refusal → List ℕ
refusal_line r = codes "REFUSED" ++ spaced (refusal_words r) ++ codes "\n"
