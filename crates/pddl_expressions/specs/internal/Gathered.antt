-- Values that are gathered one after another, where each is there.
use Rattle.std.specs.Prelude.{◌++◌, List, [], ◌∷◌, Option, Some, None}

-- a list with one value more, where both are there
abbrev pub appended : {A : Type 0} → Option (List A) → Option A → Option (List A)
appended None x = None
appended (Some xs) None = None
appended (Some xs) (Some x) = Some (xs ++ x ∷ [])
