-- Texts of which the last bytes are held back.
use Rattle.std.proofs.Common.{◌≡◌, ℕ, ◌+◌, ◌≤◌, ◌<◌, zero, suc, Bool, true, false, if◌then◌else◌, List, [], ◌∷◌, ◌++◌, Option, None, Some, length, take, get_or, add-one, refl, sym, ap, subst, ◌∙◌, append_assoc, append-nil, arith, length-append}
use Rattle.std.proofs.KnownBytes.{Appends-kept, Appends-nil, Appends-trans, Keeps-refl}
use Rattle.std.proofs.Math.Seq.{take-append-add, take-append_seam, take-suc}
use Rattle.std.proofs.lemmas.List.{take_all, take-append-le}
use Rattle.std.proofs.lemmas.List.Folds.{concat-append}
use Rattle.std.specs.Io.KnownBytes.{Appends, Keeps}
use Rattle.std.specs.List.{concat}
use Rattle.answer_text.specs.Sending.{IsCut, IsCutWithin, IsUnsent}
use Rattle.answer_text.specs.internal.Held.{AreSent, Begins, IsHeldBack}
use Rattle.answer_text.specs.declared.faults.Unsent.{Unsent}
use Rattle.answer_text.specs.declared.faults.Unsent.TheVariants as unsent

-- ---- whether a byte was written

begins_not : (x : Bool) → Begins x x []
begins_not true = refl
begins_not false = refl

begins_now : (x : Bool) (bytes : List ℕ) → 0 < length bytes → Begins x true bytes
begins_now true bytes some = refl
begins_now false bytes some = some

begins_on : (x y z : Bool) (front next : List ℕ) → Begins x y front → Begins y z next → Begins x z (front ++ next)
begins_on true true z front next is also = also
begins_on true false z front next is also = cc
begins_on false true true front next is also = omega (arith, length-append front next, is)
begins_on false true false front next is also = cc
begins_on false false true front next is also = omega (arith, length-append front next, also)
begins_on false false false front next is also = ap (λ (l : List ℕ). l ++ next) is ∙ also

-- nothing was written, and all is held back
pub none_sent : (x : Bool) (a : Option (List ℕ)) (text : List ℕ) → AreSent x x a a text text
none_sent x a text = ([], Appends-nil a, refl, begins_not x)

-- all was written
pub all_sent : (x : Bool) (a b : Option (List ℕ)) (text : List ℕ) → 0 < length text → Appends a b text → AreSent x true a b [] text
all_sent x a b text some is = (text, is, sym (append-nil text), begins_now x text some)

-- what was held back and a further text were sent on
pub sent_on : (x y z : Bool) (a b c : Option (List ℕ)) (held left text more : List ℕ) → AreSent x y a b held text → AreSent y z b c left (held ++ more) → AreSent x z a c left (text ++ more)
sent_on x y z a b c held left text more (front, went, is, begins) (next, further, joined, also) = (
  front ++ next,
  Appends-trans a b c front next went further,
  ap (λ l. l ++ more) is ∙ append_assoc front held more ∙ ap (λ l. front ++ l) joined ∙ sym (append_assoc front next left),
  begins_on x y z front next begins also,
)

-- ---- texts that are cut off

-- what was held back and a further text were cut off
pub cut_on : (x y : Bool) (a b c : Option (List ℕ)) (held text more : List ℕ) → AreSent x y a b held text → IsCut b c (held ++ more) → IsCut a c (text ++ more)
cut_on x y a b c held text more (front, went, is, begins) (n, less, further) =
    let whole : text ++ more ≡ front ++ (held ++ more) = ap (λ l. l ++ more) is ∙ append_assoc front held more in
    let same : front ++ take n (held ++ more) ≡ take (length front + n) (text ++ more) =
    sym (take-append-add front (held ++ more) n) ∙ ap (take (length front + n)) (sym whole) in
    let within : length front + n < length (text ++ more) = rw whole (omega (arith, length-append front (held ++ more), less)) in
    (length front + n, within, subst (λ (l : List ℕ). Appends a c l) same (Appends-trans a b c front (take n (held ++ more)) went further))

-- so is each longer text
pub cut_longer : (a c : Option (List ℕ)) (text more : List ℕ) → IsCut a c text → IsCut a c (text ++ more)
cut_longer a c text more (n, less, is) =
    (n, omega (arith, length-append text more, less), subst (λ (l : List ℕ). Appends a c l) (sym (take-append-le n text more (omega (arith, less)))) is)

-- what was sent is a front of a longer text
pub cut_within : (a b c : Option (List ℕ)) (held text more : List ℕ) → AreSent false true a b held text → 0 < length more → Keeps b c → IsCutWithin a c (text ++ more)
cut_within a b c held text more (front, went, is, begins) some kept =
    let whole : text ++ more ≡ front ++ (held ++ more) = ap (λ l. l ++ more) is ∙ append_assoc front held more in
    let same : take (length front) (text ++ more) ≡ front = ap (take (length front)) whole ∙ take-append_seam front (held ++ more) in
    let within : length front < length (text ++ more) = rw whole (omega (arith, length-append front (held ++ more), length-append held more, some)) in
    (length front, begins, within, subst (λ (l : List ℕ). Appends a c l) (sym same) (Appends-kept a b c front went kept))

-- nothing was sent
kept_on : (a b c : Option (List ℕ)) (held text : List ℕ) → AreSent false false a b held text → Keeps b c → Keeps a c
kept_on a b c held text (front, went, is, begins) kept =
    none a b c (subst (λ (l : List ℕ). Appends a b l) begins went) kept
  where
    none : (x y z : Option (List ℕ)) → Appends x y [] → Keeps y z → Keeps x z
    none None y z p q = tt
    none (Some v) None z p q = absurd p
    none (Some v) (Some w) None p q = absurd q
    none (Some v) (Some w) (Some u) p q = q ∙ p ∙ append-nil v

-- ---- want of memory

-- it is told by whether a byte was written
pub lacks : (x : Bool) (a : Option (List ℕ)) (text : List ℕ) → IsHeldBack x a a text (if x then unsent.CutShort else unsent.NoMemory)
lacks true a text = (Keeps-refl a, refl)
lacks false a text = (Keeps-refl a, refl)

-- ---- lines

-- one line, and then the rest
pub one_more : (lines : List (List ℕ)) (i : ℕ) → i < length lines → concat (take (i + 1) lines) ≡ concat (take i lines) ++ get_or lines i []
one_more lines i within =
    rw (add-one) (ap concat (take-suc lines i [] within) ∙ concat-append (take i lines) (get_or lines i [] ∷ []) ∙ ap (λ l. concat (take i lines) ++ l) (append-nil (get_or lines i [])))

-- the lines up to one are a front of all
pub front_of : (lines : List (List ℕ)) (i : ℕ) → (rest : List ℕ) × (concat lines ≡ concat (take i lines) ++ rest)
front_of [] i = ([], by i)
  where
    by : (k : ℕ) → concat [] ≡ concat (take k []) ++ []
    by zero = refl
    by (suc k) = refl
front_of (line ∷ lines) zero = (concat (line ∷ lines), refl)
front_of (line ∷ lines) (suc i) =
    let rest = front_of lines i in
    (rest.0, ap (λ l. line ++ l) rest.1 ∙ sym (append_assoc line (concat (take i lines)) rest.0))

-- the lines up to one, that line, and the rest
line_and_rest : (lines : List (List ℕ)) (i : ℕ) → i < length lines → (rest : List ℕ) × (concat lines ≡ concat (take i lines) ++ (get_or lines i [] ++ rest))
line_and_rest lines i within =
    let front = front_of lines (i + 1) in
    (front.0, front.1 ∙ ap (λ (l : List ℕ). l ++ front.0) (one_more lines i within) ∙ append_assoc (concat (take i lines)) (get_or lines i []) front.0)

-- a line that was cut off cuts the whole
pub cut_line : (x : Bool) (a b c : Option (List ℕ)) (held : List ℕ) (lines : List (List ℕ)) (i : ℕ) (e : Unsent) → i < length lines → 0 < length (get_or lines i []) → AreSent false x a b held (concat (take i lines)) → IsHeldBack x b c (held ++ get_or lines i []) e
    → IsUnsent a c (concat lines) e
cut_line x a b c held lines i unsent.Sink within some sent cut =
    let rest = line_and_rest lines i within in
    let line = get_or lines i [] in
    let longer : IsCut b c (held ++ (line ++ rest.0)) = subst (λ (l : List ℕ). IsCut b c l) (append_assoc held line rest.0) (cut_longer b c (held ++ line) rest.0 cut) in
    subst (λ (l : List ℕ). IsCut a c l) (sym rest.1) (cut_on false x a b c held (concat (take i lines)) (line ++ rest.0) sent longer)
cut_line x a b c held lines i unsent.NoMemory within some sent cut =
    kept_on a b c held (concat (take i lines)) (subst (λ (y : Bool). AreSent false y a b held (concat (take i lines))) cut.1 sent) cut.0
cut_line x a b c held lines i unsent.CutShort within some sent cut =
    let rest = line_and_rest lines i within in
    let line = get_or lines i [] in
    subst (λ (l : List ℕ). IsCutWithin a c l) (sym rest.1)
    (cut_within a b c held (concat (take i lines)) (line ++ rest.0) (subst (λ (y : Bool). AreSent false y a b held (concat (take i lines))) cut.1 sent) (omega (arith, length-append line rest.0, some)) cut.0)

-- a line that was added
pub line_sent : (x y : Bool) (a b c : Option (List ℕ)) (held left : List ℕ) (lines : List (List ℕ)) (i : ℕ) → i < length lines → AreSent false x a b held (concat (take i lines)) → AreSent x y b c left (held ++ get_or lines i []) → AreSent false y a c left (concat (take (i + 1) lines))
line_sent x y a b c held left lines i within sent next =
    subst (λ (l : List ℕ). AreSent false y a c left l) (sym (one_more lines i within)) (sent_on false x y a b c held left (concat (take i lines)) (get_or lines i []) sent next)

-- at the end what is held back is written
pub last_sent : (x : Bool) (a b c : Option (List ℕ)) (held : List ℕ) (lines : List (List ℕ)) (i : ℕ) → length lines ≤ i → AreSent false x a b held (concat (take i lines)) → Appends b c held → Appends a c (concat lines)
last_sent x a b c held lines i all (front, went, is, begins) last =
    let whole : concat lines ≡ front ++ held = ap concat (sym (take_all i lines all)) ∙ is in
    subst (λ (l : List ℕ). Appends a c l) (sym whole) (Appends-trans a b c front held went last)

pub last_cut : (x : Bool) (a b c : Option (List ℕ)) (held : List ℕ) (lines : List (List ℕ)) (i : ℕ) → length lines ≤ i → AreSent false x a b held (concat (take i lines)) → IsCut b c held → IsCut a c (concat lines)
last_cut x a b c held lines i all sent cut =
    let joined : concat (take i lines) ++ [] ≡ concat lines = append-nil (concat (take i lines)) ∙ ap concat (take_all i lines all) in
    subst (λ (l : List ℕ). IsCut a c l) joined (cut_on false x a b c held (concat (take i lines)) [] sent (subst (λ (l : List ℕ). IsCut b c l) (sym (append-nil held)) cut))
