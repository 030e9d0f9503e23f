-- What reading the parts of a line one by one answers. No public contract cites it.
use Rattle.std.specs.Prelude.{ℕ, ◌≡◌, ◌≢◌, ◌++◌, ◌⊎◌, Option, Some, None, List, [], ◌∷◌, take, drop}
use Rattle.cert_text.specs.Lines.{part_text}
use Rattle.cert_reader.specs.Parts.{IsWithout, Kind, HasParts}

-- a part ends where the line does, or before a blank
abbrev pub EndsPart : List ℕ → Type 0
EndsPart [] = Unit {0}
EndsPart (b ∷ bs) = b ≡ 32

-- the line doesn't go on with this name
abbrev pub IsUntold : List ℕ → List ℕ → Type 0
IsUntold name text = (behind : List ℕ) → text ≡ part_text name behind → ⊥

-- none of the names is this one
abbrev pub IsOther : {N : Type 0} → (N → List ℕ) → List ℕ → List N → Type 0
IsOther name one [] = Unit {0}
IsOther name one (n ∷ ns) = (name n ≢ one) × IsOther name one ns

-- no two names are one, none has a `=`, and the rest of the line doesn't go on with one of them
abbrev pub AreReadable : {N : Type 0} → (N → List ℕ) → List N → List ℕ → Type 0
AreReadable name [] rest = Unit {0}
AreReadable name (n ∷ ns) rest = IsWithout 61 (name n) × IsOther name (name n) ns × IsUntold (name n) rest × AreReadable name ns rest

module _ {N X : Type 0} (k : Kind N X) where
  -- the line tells this of the thing first; or it doesn't go on with its name, and this need not be said
  abbrev pub IsFront : N → List ℕ → X → List ℕ → Type 0
  IsFront n text x behind =
      ((said : List ℕ) × (text ≡ part_text (k.name n) said ++ behind) × k.Said n said x × EndsPart behind)
      ⊎ (k.MayLack x × (text ≡ behind) × IsUntold (k.name n) text)

  abbrev pub IsFirst : N → List ℕ → Option (X × List ℕ) → Type 0
  IsFirst n text None = (x : X) (behind : List ℕ) → IsFront n text x behind → ⊥
  IsFirst n text (Some found) = IsFront n text found.0 found.1

  -- what the line tells of all things, and its rest; or there is no such reading
  abbrev pub IsParsed : List N → List ℕ → Option (List X × List ℕ) → Type 0
  IsParsed ns text None = (xs : List X) (rest : List ℕ) → HasParts k ns xs text rest → AreReadable k.name ns rest → EndsPart rest → ⊥
  IsParsed ns text (Some found) =
      HasParts k ns found.0 text found.1
      × ((xs : List X) (rest : List ℕ) → HasParts k ns xs text rest → AreReadable k.name ns rest → EndsPart rest → (xs ≡ found.0) × (rest ≡ found.1))

  -- the first i things are read, and each reading of all goes on from there
  pub record AreRead (ns : List N) (i : ℕ) (text : List ℕ) (xs : List X) (rest : List ℕ) : Type 0 where
    pub sound : HasParts k (take i ns) xs text rest
    pub complete : (all : List X) (end : List ℕ) → HasParts k ns all text end → AreReadable k.name ns end → EndsPart end
        → (more : List X) × (all ≡ xs ++ more) × HasParts k (drop i ns) more rest end
