-- Lines as parts: a blank, a name, `=`, and what is said of it.
use Rattle.std.specs.Prelude.{ℕ, ◌≡◌, ◌≢◌, ◌++◌, ◌⊎◌, List, [], ◌∷◌}
use Rattle.cert_text.specs.Lines.{part_text}

-- no byte of the text is this one
abbrev pub IsWithout : ℕ → List ℕ → Type 0
IsWithout b [] = Unit {0}
IsWithout b (x ∷ xs) = (x ≢ b) × IsWithout b xs

-- What a line may say of the things of one kind: `Said` is how it is written, and `MayLack` tells what need not be said.
pub record Kind (N X : Type 0) : Type 1 where
  pub name : N → List ℕ
  pub Said : N → List ℕ → X → Type 0
  pub MayLack : X → Type 0

module _ {N X : Type 0} (k : Kind N X) where
  -- what a line says of one thing, or nothing
  abbrev pub IsPart : N → X → List ℕ → Type 0
  IsPart n x part =
      ((said : List ℕ) × (part ≡ part_text (k.name n) said) × k.Said n said x) ⊎ (k.MayLack x × (part ≡ []))

  -- the text says this of the things, in order, and goes on with the rest
  abbrev pub HasParts : List N → List X → List ℕ → List ℕ → Type 0
  HasParts [] [] text rest = text ≡ rest
  HasParts [] (x ∷ xs) text rest = ⊥
  HasParts (n ∷ ns) [] text rest = ⊥
  HasParts (n ∷ ns) (x ∷ xs) text rest =
      (part : List ℕ) × (behind : List ℕ) × (text ≡ part ++ behind) × IsPart n x part × HasParts ns xs behind rest
