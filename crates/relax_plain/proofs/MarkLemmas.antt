-- Steps on marks.
use Rattle.std.proofs.Common.{◌≡◌, ℕ, zero, suc, ◌+◌, ◌<◌, ◌≤◌, ◌⊎◌, Bool, true, false, List, [], ◌∷◌, length, get_or, set, take, replicate, sym, refl, ap, ◌∙◌, subst, inl, inr, arith, add-one, length-set}
use Rattle.std.specs.List.{IsAmong}
use Rattle.std.proofs.lemmas.Bool.{cases_eq, cases_lt}
use Rattle.std.proofs.lemmas.List.{get_or-set_same, get_or-set_other, get_or_past}
use Rattle.relax_plain.specs.Marks.{is_marked, IsQuietBelow, MarksMore}

-- one mark more
pub more_set : (numbers : List ℕ) (first old new : List Bool) (i n : ℕ) → i < length numbers → n ≡ get_or numbers i 0 → n < length old → new ≡ set old n true → MarksMore (take i numbers) first old → MarksMore (take (i + 1) numbers) first new
more_set numbers first old new i n h is known new_is more =
    subst (λ (ms : List Bool). MarksMore (take (i + 1) numbers) first ms) (sym new_is)
    (record {
      as_many = length-set old n true ∙ more.as_many;
      marked = λ number there. elim (among_take numbers i number (subst (λ (k : ℕ). IsAmong (take k numbers) number) (add-one i) there) h) [
        | inl before ↦ still number (more.marked number before)
        | inr now ↦ subst (λ (k : ℕ). is_marked (set old n true) k ≡ true) (is ∙ sym now) (get_or-set_same old n true false known)
      ];
      kept = λ number m. still number (more.kept number m);
    })
  where
    still : (number : ℕ) → is_marked old number ≡ true → is_marked (set old n true) number ≡ true
    still number m =
        elim (cases_eq number n) [
          | inl e ↦ subst (λ (k : ℕ). is_marked (set old n true) k ≡ true) (sym e) (get_or-set_same old n true false known)
          | inr e ↦ get_or-set_other old n number true false e ∙ m
        ]

    among_take : (xs : List ℕ) (i v : ℕ) → IsAmong (take (suc i) xs) v → i < length xs → IsAmong (take i xs) v ⊎ (v ≡ get_or xs i 0)
    among_take [] i v h k = absurd (omega arith)
    among_take (x ∷ xs) zero v (zero, (h, e)) k = inr e
    among_take (x ∷ xs) zero v (suc j, (h, e)) k = absurd (omega arith)
    among_take (x ∷ xs) (suc i) v (zero, (h, e)) k = inl (0, (omega arith, e))
    among_take (x ∷ xs) (suc i) v (suc j, (h, e)) k =
        elim (among_take xs i v (j, (omega arith, e)) (omega arith)) [
          | inl before ↦ inl (suc before.0, (omega (arith, before.1.0), before.1.1))
          | inr now ↦ inr now
        ]

pub more_start : (numbers : List ℕ) (marks : List Bool) → MarksMore (take 0 numbers) marks marks
more_start numbers marks = record { as_many = refl; marked = λ number there. absurd (none number there); kept = λ number m. m }
  where
    none : (v : ℕ) → IsAmong (take 0 numbers) v → ⊥
    none v (i, (h, e)) = omega arith

-- none is marked from here on
pub quiet_all : (marks : List Bool) (from : ℕ) → length marks ≤ from → IsQuietBelow marks from → (number : ℕ) → is_marked marks number ≡ false
quiet_all marks from h quiet number =
    elim (cases_lt number from) [ inl l ↦ quiet number l | inr l ↦ get_or_past marks number false (omega arith) ]

pub quiet_more : (marks : List Bool) (from : ℕ) → is_marked marks from ≡ false → IsQuietBelow marks from → IsQuietBelow marks (from + 1)
quiet_more marks from h quiet number l =
    elim (cases_eq number from) [ inl e ↦ subst (λ (k : ℕ). is_marked marks k ≡ false) (sym e) h | inr n ↦ quiet number (omega arith) ]

pub quiet_cleared : (marks : List Bool) (n : ℕ) → n < length marks → IsQuietBelow marks n → IsQuietBelow (set marks n false) (n + 1)
quiet_cleared marks n h quiet number l =
    elim (cases_eq number n) [
      | inl e ↦ subst (λ (k : ℕ). is_marked (set marks n false) k ≡ false) (sym e) (get_or-set_same marks n false false h)
      | inr e ↦ get_or-set_other marks n number false false e ∙ quiet number (omega arith)
    ]

pub quiet_set : (marks : List Bool) (n from to : ℕ) → IsQuietBelow marks from → to ≤ from → to ≤ n → IsQuietBelow (set marks n true) to
quiet_set marks n from to quiet h k number l =
    get_or-set_other marks n number true false (λ e. absurd (omega arith)) ∙ quiet number (omega arith)

pub all_marked : (count number : ℕ) → number < count → is_marked (replicate count true) number ≡ true
all_marked zero number h = absurd (omega arith)
all_marked (suc count) zero h = refl
all_marked (suc count) (suc number) h = all_marked count number (omega arith)

pub length_all : (count : ℕ) → length (replicate count true) ≡ count
length_all zero = refl
length_all (suc count) = ap suc (length_all count)
