-- Parts are read from the front, and in one way.
use Rattle.std.proofs.Common.{◌≡◌, ℕ, zero, suc, ◌+◌, ◌<◌, ◌≤◌, Option, Some, None, List, [], ◌∷◌, ◌++◌, inl, inr, length, get_or, take, drop, codes, refl, sym, ap, subst, ◌∙◌, append_assoc}
use Rattle.std.specs.Prelude.{option_map}
use Rattle.std.proofs.lemmas.List.{append-nil, append_cancel_left, drop_more, take_more, drop_all, take_all}
use Rattle.cert_text.specs.Lines.{part_text}
use Rattle.cert_reader.specs.Parts.{IsWithout, Kind, IsPart, HasParts}
use Rattle.cert_reader.specs.internal.Fronts.{EndsPart, IsUntold, IsOther, AreReadable, IsFront, IsFirst, IsParsed, AreRead}

-- ---- cuts

-- texts without a blank, up to a blank or the end, are one
pub cut_left : (said other rest left : List ℕ) → IsWithout 32 said → IsWithout 32 other → EndsPart rest → EndsPart left
    → said ++ rest ≡ other ++ left → said ≡ other
cut_left [] [] rest left h k e f same = refl
cut_left [] (x ∷ other) [] left h k e f same = cc
cut_left [] (x ∷ other) (b ∷ rest) left h k e f same = let is : b ≡ x = cc in absurd (k.0 (sym is ∙ e))
cut_left (x ∷ said) [] rest [] h k e f same = cc
cut_left (x ∷ said) [] rest (b ∷ left) h k e f same = let is : x ≡ b = cc in absurd (h.0 (is ∙ f))
cut_left (x ∷ said) (y ∷ other) rest left h k e f same =
    let one : x ≡ y = cc in
    let others : said ++ rest ≡ other ++ left = cc in
    let tail : said ≡ other = cut_left said other rest left h.1 k.1 e f others in
    cc

-- so are texts without a byte, up to that byte
pub cut_same : (b : ℕ) (name other rest left : List ℕ) → IsWithout b name → IsWithout b other → name ++ b ∷ rest ≡ other ++ b ∷ left → name ≡ other
cut_same b [] [] rest left h k same = refl
cut_same b [] (x ∷ other) rest left h k same = let is : b ≡ x = cc in absurd (k.0 (sym is))
cut_same b (x ∷ name) [] rest left h k same = let is : x ≡ b = cc in absurd (h.0 is)
cut_same b (x ∷ name) (y ∷ other) rest left h k same =
    let one : x ≡ y = cc in
    let others : name ++ b ∷ rest ≡ other ++ b ∷ left = cc in
    let tail : name ≡ other = cut_same b name other rest left h.1 k.1 others in
    cc

pub spread : (name said : List ℕ) → part_text name said ≡ 32 ∷ (name ++ 61 ∷ said)
spread name said = ap (λ (r : List ℕ). 32 ∷ r) (append_assoc name (61 ∷ []) said)

-- a part that goes on
pub longer : (name said rest : List ℕ) → part_text name said ++ rest ≡ part_text name (said ++ rest)
longer name said rest = append_assoc (codes " " ++ name ++ codes "=") said rest

-- two names with which one line goes on are one
same_name : (name other said words : List ℕ) → IsWithout 61 name → IsWithout 61 other → part_text name said ≡ part_text other words → name ≡ other
same_name name other said words h k same =
    let both : 32 ∷ (name ++ 61 ∷ said) ≡ 32 ∷ (other ++ 61 ∷ words) = sym (spread name said) ∙ same ∙ spread other words in
    let rest : name ++ 61 ∷ said ≡ other ++ 61 ∷ words = cc in
    cut_same 61 name other said words h k rest

pub same_said : (name said words : List ℕ) → part_text name said ≡ part_text name words → said ≡ words
same_said name said words same = append_cancel_left (codes " " ++ name ++ codes "=") said words same

begins : (name said rest text : List ℕ) → text ≡ part_text name said ++ rest → EndsPart text
begins name said rest text is = subst EndsPart (sym is) refl

module _ {N X : Type 0} (k : Kind N X) where
  -- what is said has no blank, and says one thing
  pub record IsPlainKind : Type 0 where
    pub solid : (n : N) (said : List ℕ) (x : X) → k.Said n said x → IsWithout 32 said
    pub unique : (n : N) (said : List ℕ) (x y : X) → k.Said n said x → k.Said n said y → x ≡ y
    pub lacks_one : (x y : X) → k.MayLack x → k.MayLack y → x ≡ y

  -- where parts stand, a part ends
  pub parts_begin : (ns : List N) (xs : List X) (text rest : List ℕ) → HasParts k ns xs text rest → EndsPart rest → EndsPart text
  parts_begin [] [] text rest h e = subst EndsPart (sym h) e
  parts_begin [] (x ∷ xs) text rest h e = absurd h
  parts_begin (n ∷ ns) [] text rest h e = absurd h
  parts_begin (n ∷ ns) (x ∷ xs) text rest (part, behind, is, inl (said, spelled, says), more) e =
      begins (k.name n) said behind text (is ∙ ap (λ (p : List ℕ). p ++ behind) spelled)
  parts_begin (n ∷ ns) (x ∷ xs) text rest (part, behind, is, inr (lacks, none), more) e =
      subst EndsPart (sym (is ∙ ap (λ (p : List ℕ). p ++ behind) none)) (parts_begin ns xs behind rest more e)

  -- parts of other names don't tell this one
  pub parts_leave_untold : (one : List ℕ) (ns : List N) (xs : List X) (text rest : List ℕ) → IsWithout 61 one → AreReadable k.name ns rest → IsOther k.name one ns
      → HasParts k ns xs text rest → IsUntold one rest → IsUntold one text
  parts_leave_untold one [] [] text rest plain names others h untold = subst (IsUntold one) (sym h) untold
  parts_leave_untold one [] (x ∷ xs) text rest plain names others h untold = absurd h
  parts_leave_untold one (n ∷ ns) [] text rest plain names others h untold = absurd h
  parts_leave_untold one (n ∷ ns) (x ∷ xs) text rest plain names others (part, behind, is, inl (said, spelled, says), more) untold =
      λ words e. others.0 (same_name (k.name n) one (said ++ behind) words names.0 plain
      (sym (longer (k.name n) said behind) ∙ sym (ap (λ (p : List ℕ). p ++ behind) spelled) ∙ sym is ∙ e))
  parts_leave_untold one (n ∷ ns) (x ∷ xs) text rest plain names others (part, behind, is, inr (lacks, none), more) untold =
      subst (IsUntold one) (sym (is ∙ ap (λ (p : List ℕ). p ++ behind) none))
      (parts_leave_untold one ns xs behind rest plain names.3 others.1 more untold)

  -- ---- one part

  told_is_told : (n : N) (text said behind : List ℕ) → text ≡ part_text (k.name n) said ++ behind → IsUntold (k.name n) text → ⊥
  told_is_told n text said behind is untold = untold (said ++ behind) (is ∙ longer (k.name n) said behind)

  -- a line has one front
  one_front : IsPlainKind → (n : N) (text : List ℕ) (x y : X) (behind left : List ℕ) → IsFront k n text x behind → IsFront k n text y left → (x ≡ y) × (behind ≡ left)
  one_front plain n text x y behind left (inl (said, spelled, says, ends)) (inl (words, written, tells, stops)) =
      let whole : part_text (k.name n) (said ++ behind) ≡ part_text (k.name n) (words ++ left) =
      sym (longer (k.name n) said behind) ∙ sym spelled ∙ written ∙ longer (k.name n) words left in
      let rests : said ++ behind ≡ words ++ left = same_said (k.name n) (said ++ behind) (words ++ left) whole in
      let one : said ≡ words = cut_left said words behind left (plain.solid n said x says) (plain.solid n words y tells) ends stops rests in (
        plain.unique n said x y says (subst (λ (w : List ℕ). k.Said n w y) (sym one) tells),
        append_cancel_left said behind left (rests ∙ ap (λ (w : List ℕ). w ++ left) (sym one)),
      )
  one_front plain n text x y behind left (inl (said, spelled, says, ends)) (inr (lacks, is, untold)) = absurd (told_is_told n text said behind spelled untold)
  one_front plain n text x y behind left (inr (lacks, is, untold)) (inl (words, written, tells, stops)) = absurd (told_is_told n text words left written untold)
  one_front plain n text x y behind left (inr (lacks, is, untold)) (inr (lack, same, hidden)) = (plain.lacks_one x y lacks lack, sym is ∙ same)

  -- the first of the parts is a front
  first_front : (n : N) (ns : List N) (x : X) (xs : List X) (text rest : List ℕ) → AreReadable k.name (n ∷ ns) rest → EndsPart rest
      → HasParts k (n ∷ ns) (x ∷ xs) text rest → (behind : List ℕ) × IsFront k n text x behind × HasParts k ns xs behind rest
  first_front n ns x xs text rest names e (part, behind, is, inl (said, spelled, says), more) =
      (behind, inl (said, is ∙ ap (λ (p : List ℕ). p ++ behind) spelled, says, parts_begin ns xs behind rest more e), more)
  first_front n ns x xs text rest names e (part, behind, is, inr (lacks, none), more) =
      let same : text ≡ behind = is ∙ ap (λ (p : List ℕ). p ++ behind) none in
      (behind, inr (lacks, same, subst (IsUntold (k.name n)) (sym same) (parts_leave_untold (k.name n) ns xs behind rest names.0 names.3 names.1 more names.2)), more)

  -- a front is a part
  part_of : (n : N) (text : List ℕ) (x : X) (behind : List ℕ) → IsFront k n text x behind → (part : List ℕ) × (text ≡ part ++ behind) × IsPart k n x part
  part_of n text x behind (inl (said, spelled, says, ends)) = (part_text (k.name n) said, spelled, inl (said, refl, says))
  part_of n text x behind (inr (lacks, same, untold)) = ([], same, inr (lacks, refl))

  -- ---- all parts

  parts_and_one : (ns : List N) (n : N) (xs : List X) (x : X) (text rest behind : List ℕ) → HasParts k ns xs text rest → IsFront k n rest x behind
      → HasParts k (ns ++ n ∷ []) (xs ++ x ∷ []) text behind
  parts_and_one [] n [] x text rest behind h front =
      let is = part_of n rest x behind front in
      (is.0, behind, h ∙ is.1, is.2, refl)
  parts_and_one [] n (y ∷ xs) x text rest behind h front = absurd h
  parts_and_one (m ∷ ns) n [] x text rest behind h front = absurd h
  parts_and_one (m ∷ ns) n (y ∷ xs) x text rest behind (part, left, is, is_part, more) front =
      (part, left, is, is_part, parts_and_one ns n xs x left rest behind more front)

  readable_left : (i : ℕ) (ns : List N) (rest : List ℕ) → AreReadable k.name ns rest → AreReadable k.name (drop i ns) rest
  readable_left zero ns rest h = h
  readable_left (suc i) [] rest h = h
  readable_left (suc i) (n ∷ ns) rest h = readable_left i ns rest h.3

  pub none_read : (ns : List N) (text : List ℕ) (xs : List X) → xs ≡ [] → AreRead k ns 0 text xs text
  none_read ns text xs none = subst (λ (ys : List X). AreRead k ns 0 text ys text) (sym none) (record { sound = refl; complete = λ all end h names e. (all, refl, h) })

  -- each reading of what is left begins with the front
  goes_on : IsPlainKind → (n : N) (ns : List N) (x : X) (xs more : List X) (rest behind end : List ℕ) → IsFront k n rest x behind → AreReadable k.name (n ∷ ns) end → EndsPart end
      → HasParts k (n ∷ ns) more rest end → (others : List X) × (xs ++ more ≡ (xs ++ x ∷ []) ++ others) × HasParts k ns others behind end
  goes_on plain n ns x xs [] rest behind end front names e h = absurd h
  goes_on plain n ns x xs (y ∷ more) rest behind end front names e h =
      let first = first_front n ns y more rest end names e h in
      let one = one_front plain n rest x y behind first.0 front first.1 in (
        more,
        ap (λ (z : X). xs ++ z ∷ more) (sym one.0) ∙ sym (append_assoc xs (x ∷ []) more),
        subst (λ (b : List ℕ). HasParts k ns more b end) (sym one.1) first.2,
      )

  one_read : IsPlainKind → (ns : List N) (i : ℕ) (n : N) (text : List ℕ) (xs : List X) (x : X) (rest behind : List ℕ) → i < length ns → n ≡ get_or ns i n
      → AreRead k ns i text xs rest → IsFront k n rest x behind → AreRead k ns (i + 1) text (xs ++ x ∷ []) behind
  one_read plain ns i n text xs x rest behind within at read front =
      let taken : take (i + 1) ns ≡ take i ns ++ n ∷ [] = take_more ns i n within ∙ ap (λ (m : N). take i ns ++ m ∷ []) (sym at) in
      let left : drop i ns ≡ n ∷ drop (i + 1) ns = drop_more ns i n within ∙ ap (λ (m : N). m ∷ drop (i + 1) ns) (sym at) in
      record {
        sound = subst (λ (ms : List N). HasParts k ms (xs ++ x ∷ []) text behind) (sym taken) (parts_and_one (take i ns) n xs x text rest behind read.sound front);
        complete = λ all end h names e.
            let before = read.complete all end h names e in
            let after = goes_on plain n (drop (i + 1) ns) x xs before.0 rest behind end front
            (subst (λ (ms : List N). AreReadable k.name ms end) left (readable_left i ns end names)) e
            (subst (λ (ms : List N). HasParts k ms before.0 rest end) left before.2) in
            (after.0, before.1 ∙ after.1, after.2);
      }

  pub one_more_read : IsPlainKind → (ns : List N) (i : ℕ) (n m : N) (text : List ℕ) (xs new : List X) (x : X) (rest behind : List ℕ) → i < length ns → n ≡ get_or ns i n → m ≡ n
      → AreRead k ns i text xs rest → IsFront k m rest x behind → new ≡ xs ++ x ∷ [] → AreRead k ns (i + 1) text new behind
  one_more_read plain ns i n m text xs new x rest behind within at same read front is =
      subst (λ (ys : List X). AreRead k ns (i + 1) text ys behind) (sym is)
      (one_read plain ns i n text xs x rest behind within at read (subst (λ (l : N). IsFront k l rest x behind) same front))

  no_more : (n : N) (ns : List N) (more : List X) (rest end : List ℕ) → IsFirst k n rest None → AreReadable k.name (n ∷ ns) end → EndsPart end
      → HasParts k (n ∷ ns) more rest end → ⊥
  no_more n ns [] rest end none names e h = h
  no_more n ns (y ∷ more) rest end none names e h =
      let first = first_front n ns y more rest end names e h in none y first.0 first.1

  pub not_read : (ns : List N) (i : ℕ) (n m : N) (text : List ℕ) (xs : List X) (rest : List ℕ) → i < length ns → n ≡ get_or ns i n → m ≡ n
      → AreRead k ns i text xs rest → IsFirst k m rest None → IsParsed k ns text None
  not_read ns i n m text xs rest within at same read none = λ all end h names e.
      let left : drop i ns ≡ n ∷ drop (i + 1) ns = drop_more ns i n within ∙ ap (λ (m : N). m ∷ drop (i + 1) ns) (sym at) in
      let before = read.complete all end h names e in
      no_more n (drop (i + 1) ns) before.0 rest end (subst (λ (l : N). IsFirst k l rest None) same none)
      (subst (λ (ms : List N). AreReadable k.name ms end) left (readable_left i ns end names)) e
      (subst (λ (ms : List N). HasParts k ms before.0 rest end) left before.2)

  nothing_left : (xs all more : List X) (rest end : List ℕ) → all ≡ xs ++ more → HasParts k [] more rest end → (all ≡ xs) × (end ≡ rest)
  nothing_left xs all [] rest end is h = (is ∙ append-nil xs, sym h)
  nothing_left xs all (x ∷ more) rest end is h = absurd h

  pub all_read : (ns : List N) (i : ℕ) (text : List ℕ) (xs : List X) (rest : List ℕ) → length ns ≤ i → AreRead k ns i text xs rest → IsParsed k ns text (Some (xs, rest))
  all_read ns i text xs rest all read = (
    subst (λ (ms : List N). HasParts k ms xs text rest) (take_all i ns all) read.sound,
    λ ys end h names e.
        let before = read.complete ys end h names e in
        nothing_left xs ys before.0 rest end before.1
        (subst (λ (ms : List N). HasParts k ms before.0 rest end) (drop_all i ns all) before.2),
  )

  -- two readings of one line are one
  pub one_reading : IsPlainKind → (ns : List N) (xs ys : List X) (text rest end : List ℕ) → HasParts k ns xs text rest → HasParts k ns ys text end
      → AreReadable k.name ns rest → AreReadable k.name ns end → EndsPart rest → EndsPart end → (xs ≡ ys) × (rest ≡ end)
  one_reading plain [] [] [] text rest end h g names others e f = (refl, sym h ∙ g)
  one_reading plain [] [] (y ∷ ys) text rest end h g names others e f = absurd g
  one_reading plain [] (x ∷ xs) ys text rest end h g names others e f = absurd h
  one_reading plain (n ∷ ns) [] ys text rest end h g names others e f = absurd h
  one_reading plain (n ∷ ns) (x ∷ xs) [] text rest end h g names others e f = absurd g
  one_reading plain (n ∷ ns) (x ∷ xs) (y ∷ ys) text rest end h g names others e f =
      let first = first_front n ns x xs text rest names e h in
      let second = first_front n ns y ys text end others f g in
      let one = one_front plain n text x y first.0 second.0 first.1 second.1 in
      let left = one_reading plain ns xs ys first.0 rest end first.2 (subst (λ (b : List ℕ). HasParts k ns ys b end) (sym one.1) second.2) names.3 others.3 e f in
      (ap (λ (z : X). z ∷ xs) one.0 ∙ ap (λ (zs : List X). y ∷ zs) left.0, left.1)

-- what is read of names that are known by another word, where the answer is known
pub from_parsed : {N X T : Type 0} (k : Kind N X) (f : T → List X × List ℕ) (ns ms : List N) (text : List ℕ) (found r : Option T) → ns ≡ ms → found ≡ r
    → IsParsed k ns text (option_map f found) → IsParsed k ms text (option_map f r)
from_parsed {N} {X} {T} k f ns ms text found r same is parsed =
    subst (λ (q : Option T). IsParsed k ms text (option_map f q)) is (subst (λ (ls : List N). IsParsed k ls text (option_map f found)) same parsed)
