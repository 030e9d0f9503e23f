-- Journals that continue one another.
use Rattle.std.proofs.Common.{◌≡◌, ◌⊎◌, ◌+◌, ◌-◌, ◌≤◌, ℕ, [], ◌∷◌, ◌++◌, length, take, drop, refl, sym, ap, ◌∙◌, inl, inr, ⊎_elim, arith, length-append}
use Rattle.std.proofs.lemmas.List.{append-nil, append_assoc, take-append-drop, length-take-le}
use Rattle.std.proofs.lemmas.List.Elements.{All-nil, All-append}
use mathlib.Core.Option.{some}
use lib.ListN.{get_elem?}
use Rattle.atomic_table.proofs.Lists.{at_longer}
use Rattle.turn_lock.specs.History.{Journal, Begins, Continues}
use Rattle.turn_lock.specs.declared.view.Entry.{Entry}
use Rattle.turn_lock.proofs.Seats.{all_goes}

pub stays : (P : Entry → Type 0) (whole : Journal) → Continues P whole whole
stays P whole = ([], sym (append-nil whole), All-nil P)

pub goes_on : (P : Entry → Type 0) (a b c : Journal) → Continues P a b → Continues P b c → Continues P a c
goes_on P a b c s t = (s.0 ++ t.0, t.1 ∙ (ap (λ (x : Journal). x ++ t.0) s.1 ∙ append_assoc a s.0 t.0), All-append P s.0 t.0 s.2 t.2)

pub read_as : (P Q : Entry → Type 0) → ((entry : Entry) → P entry → Q entry) → (a b : Journal) → Continues P a b → Continues Q a b
read_as P Q f a b s = (s.0, s.1, all_goes P Q f s.0 s.2)

pub no_shorter : (P : Entry → Type 0) (a b : Journal) → Continues P a b → length a ≤ length b
no_shorter P a b s = let e = ap length s.1 ∙ length-append a s.0 in omega arith

pub place_stays : (P : Entry → Type 0) (place : ℕ) (entry : Entry) (part whole : Journal) → Continues P part whole → get_elem? part place ≡ some entry → get_elem? whole place ≡ some entry
place_stays P place entry part whole c at = ap (λ (w : Journal). get_elem? w place) c.1 ∙ at_longer part c.0 place entry at

abbrev head_or : Entry → Journal → Entry
head_or d [] = d
head_or d (x ∷ xs) = x

abbrev rest_of : Journal → Journal
rest_of [] = []
rest_of (x ∷ xs) = xs

-- of two beginnings of one list, one begins with the other
meet : (a b c d : Journal) → a ++ c ≡ b ++ d → Begins a b ⊎ Begins b a
meet [] b c d e = inl (b, refl)
meet (x ∷ xs) [] c d e = inr (x ∷ xs, refl)
meet (x ∷ xs) (y ∷ ys) c d e = let first : x ≡ y = ap (head_or x) e in ⊎_elim (λ t. inl (t.0, λ i. sym first i ∷ t.1 i)) (λ t. inr (t.0, λ i. first i ∷ t.1 i)) (meet xs ys c d (ap rest_of e))

pub one_begins : (a b whole : Journal) → Begins a whole → Begins b whole → Begins a b ⊎ Begins b a
one_begins a b whole s t = meet a b s.0 t.0 (sym s.1 ∙ t.1)

-- a front of the whole that is no shorter than what it begins with
pub front : (seen whole : Journal) (count : ℕ) → Begins seen whole → length seen ≤ count → count ≤ length whole → (part : Journal) × Begins seen part × Begins part whole × (length part ≡ count)
front seen whole count h low high = (
  seen ++ take (count - length seen) h.0,
  (take (count - length seen) h.0, refl),
  (drop (count - length seen) h.0, h.1 ∙ (ap (λ (x : Journal). seen ++ x) (sym (take-append-drop (count - length seen) h.0)) ∙ sym (append_assoc seen (take (count - length seen) h.0) (drop (count - length seen) h.0)))),
  let whole_is = ap length h.1 ∙ length-append seen h.0 in let some : count - length seen ≤ length h.0 = omega arith in
      length-append seen (take (count - length seen) h.0) ∙ (ap (λ (n : ℕ). length seen + n) (length-take-le (count - length seen) h.0 some) ∙ omega arith),
)
