-- Where a text is cut.
use Rattle.std.proofs.Common.{◌≡◌, ◌≢◌, ℕ, zero, suc, ◌+◌, ◌<◌, Bool, false, IsTrue, Option, Some, None, List, [], ◌∷◌, ◌++◌, codes, length, get_or, take, drop, MatchOption, refl, sym, ap, ap₂, subst, ◌∙◌, arith, append_assoc, eq-eqb}
use Rattle.std.proofs.lemmas.Bool.{both_ways, eqb-true}
use Rattle.std.proofs.lemmas.List.{append_cancel_left, drop_all, drop_more, take_all}
use Rattle.memchr.specs.Find.{IsFirstByte, is_byte}
use Rattle.cert_text.specs.Lines.{part_text}
use Rattle.cert_reader.specs.Parts.{IsWithout}
use Rattle.cert_reader.specs.internal.Fronts.{EndsPart, IsUntold}
use Rattle.cert_reader.proofs.InParts.{spread}

without_first : (b : ℕ) (xs : List ℕ) (n : ℕ) → ((k : ℕ) → k < n → k < length xs → get_or xs k 0 ≢ b) → IsWithout b (take n xs)
without_first b xs zero h = tt
without_first b [] (suc n) h = tt
without_first b (x ∷ xs) (suc n) h = (h 0 (omega arith) (omega arith), without_first b xs n (λ k l m. h (suc k) (omega arith) (omega arith)))

without_all : (b : ℕ) (xs : List ℕ) → ((k : ℕ) → k < length xs → get_or xs k 0 ≢ b) → IsWithout b xs
without_all b [] h = tt
without_all b (x ∷ xs) h = (h 0 (omega arith), without_all b xs (λ k l. h (suc k) (omega arith)))

pub found_at : (b : ℕ) (text : List ℕ) (r : Option ℕ) → IsFirstByte (is_byte b) text r
    → MatchOption r (IsWithout b text) (λ at. (at < length text) × (get_or text at 0 ≡ b) × IsWithout b (take at text))
found_at b text None h = without_all b text (λ k l e. h k (omega arith) l (eq-eqb (get_or text k 0) b e))
found_at b text (Some at) h = (
  h.0.high,
  eqb-true (get_or text at 0) b h.1,
  without_first b text at (λ k l m e. h.0.before k (omega arith) l (eq-eqb (get_or text k 0) b e)),
)

front_and_rest : (n : ℕ) (xs : List ℕ) → xs ≡ take n xs ++ drop n xs
front_and_rest zero xs = refl
front_and_rest (suc n) [] = refl
front_and_rest (suc n) (x ∷ xs) = ap (λ (r : List ℕ). x ∷ r) (front_and_rest n xs)

-- cut round the byte at this place
pub cut_at : (b : ℕ) (text : List ℕ) (at : ℕ) → at < length text → get_or text at 0 ≡ b → text ≡ take at text ++ b ∷ drop (at + 1) text
cut_at b text at within is =
    front_and_rest at text ∙ ap (λ (r : List ℕ). take at text ++ r) (drop_more text at 0 within ∙ ap (λ (x : ℕ). x ∷ drop (at + 1) text) is)

pub ends_at : (text : List ℕ) (at : ℕ) → at < length text → get_or text at 0 ≡ 32 → EndsPart (drop at text)
ends_at text at within is = subst EndsPart (sym (drop_more text at 0 within)) is

-- ---- a name, and what is said of it

pub told : (name line behind said rest : List ℕ) → line ≡ part_text name behind → behind ≡ said ++ rest → line ≡ part_text name said ++ rest
told name line behind said rest is cut = is ∙ ap (part_text name) cut ∙ sym (append_assoc (codes " " ++ name ++ codes "=") said rest)

-- ---- cuts by code

pub cut_round : (b : ℕ) (text front rest behind : List ℕ) (at : ℕ) → front ≡ take at text → rest ≡ drop at text → behind ≡ drop 1 rest
    → (at < length text) × (get_or text at 0 ≡ b) × IsWithout b (take at text) → (text ≡ front ++ b ∷ behind) × IsWithout b front
cut_round b text front rest behind at left right tail found =
    let there : drop at text ≡ b ∷ drop (at + 1) text = drop_more text at 0 found.0 ∙ ap (λ (x : ℕ). x ∷ drop (at + 1) text) found.1 in
    let end : behind ≡ drop (at + 1) text = tail ∙ ap (drop 1) (right ∙ there) in
    (cut_at b text at found.0 found.1 ∙ ap₂ (λ (l r : List ℕ). l ++ b ∷ r) (sym left) (sym end), subst (IsWithout b) (sym left) found.2)

pub word_cut : (text front rest : List ℕ) (at : ℕ) → front ≡ take at text → rest ≡ drop at text
    → (at < length text) × (get_or text at 0 ≡ 32) × IsWithout 32 (take at text) → (text ≡ front ++ rest) × IsWithout 32 front × EndsPart rest
word_cut text front rest at left right found = (
  front_and_rest at text ∙ ap₂ (λ (l r : List ℕ). l ++ r) (sym left) (sym right),
  subst (IsWithout 32) (sym left) found.2,
  subst EndsPart (sym right) (ends_at text at found.0 found.1),
)

pub word_whole : (text front rest : List ℕ) (at : ℕ) → at ≡ length text → front ≡ take at text → rest ≡ drop at text → IsWithout 32 text
    → (text ≡ front ++ rest) × IsWithout 32 front × EndsPart rest
word_whole text front rest at all left right solid = (
  front_and_rest at text ∙ ap₂ (λ (l r : List ℕ). l ++ r) (sym left) (sym right),
  subst (IsWithout 32) (sym (left ∙ take_all at text (omega arith))) solid,
  subst EndsPart (sym (right ∙ drop_all at text (omega arith))) tt,
)

-- what an answer becomes where each case of it does
pub on_option : {T : Type 0} (P Q : Type 0) (A B : T → Type 0) (r : Option T) → MatchOption r P A → (P → Q) → ((x : T) → A x → B x) → MatchOption r Q B
on_option P Q A B None h p a = p h
on_option P Q A B (Some x) h p a = a x h

pub equals_behind : (name text rest : List ℕ) → text ≡ name ++ rest → (behind : List ℕ) → rest ≡ codes "=" ++ behind → text ≡ name ++ 61 ∷ behind
equals_behind name text rest is behind more = is ∙ ap (λ (r : List ℕ). name ++ r) more

pub no_equals : (name text rest : List ℕ) → text ≡ name ++ rest → ((behind : List ℕ) → rest ≡ codes "=" ++ behind → ⊥) → (behind : List ℕ) → text ≡ name ++ 61 ∷ behind → ⊥
no_equals name text rest is none behind same = none behind (append_cancel_left name rest (61 ∷ behind) (sym is ∙ same))

pub name_behind : (name line text rest : List ℕ) → line ≡ codes " " ++ text → text ≡ name ++ 61 ∷ rest → line ≡ part_text name rest
name_behind name line text rest is more = is ∙ ap (λ (r : List ℕ). 32 ∷ r) more ∙ sym (spread name rest)

pub no_name : (name line text : List ℕ) → line ≡ codes " " ++ text → ((rest : List ℕ) → text ≡ name ++ 61 ∷ rest → ⊥) → IsUntold name line
no_name name line text is none rest same = none rest (append_cancel_left (codes " ") text (name ++ 61 ∷ rest) (sym is ∙ same ∙ spread name rest))

pub no_blank : (name line : List ℕ) → ((text : List ℕ) → line ≡ codes " " ++ text → ⊥) → IsUntold name line
no_blank name line none rest same = none (name ++ 61 ∷ rest) (same ∙ spread name rest)

pub not_word : (r : Bool) (P : Type 0) → r ≡ false → (P → IsTrue r) → P → ⊥
not_word r P wrong is p = both_ways r wrong (is p)
