-- The names of a task's facts and fluents, and the boxes and states that lines spell.
use Rattle.std.proofs.Common.{◌≡◌, ◌≢◌, ℕ, zero, suc, ◌<◌, ◌≤◌, ℤ, true, List, [], ◌∷◌, ◌++◌, inl, inr, codes, length, get_or, zip, All, AllPairs, IsTrue, refl, sym, ap, ap₂, subst, ◌∙◌, arith}
use Rattle.std.proofs.lemmas.Bool.{and_parts}
use Rattle.std.specs.List.{list_all, join_with_byte}
use Rattle.num_ends.specs.Decimal.{InRange}
use Rattle.num_ends.specs.Ends.{Interval, is_inhabited, whole_line}
use Rattle.num_ends.specs.Names.{begins_name, continues_name, is_name, IsGroundText}
use Rattle.num_ends.specs.declared.ends.End.{End}
use Rattle.num_ends.specs.declared.ends.End.TheVariants.{NegInf, Excl, Incl, PosInf}
use Rattle.num_ends.proofs.Trimmed.{trimmed_places, trimmed_range}
use Rattle.ground_task.specs.declared.raw.RawTask.{RawTask}
use Rattle.ground_task.specs.States.{StateValue}
use Rattle.ground_task.specs.Tasks.{TaskValue, IsStateOf}
use Rattle.ground_task.specs.Valid.{IsValid}
use Rattle.box_model.specs.Boxes.{IsBoxOf, IsEndFor}
use Rattle.box_model.specs.declared.state_box.StateBox.{StateBox}
use Rattle.cert_text.specs.declared.cert.Version.{Version}
use Rattle.cert_text.specs.Lines.{part_text}
use Rattle.cert_reader.specs.Parts.{IsWithout, Kind, IsPart, HasParts}
use Rattle.cert_reader.specs.Spelling.{SpellsLower, SpellsUpper, SpellsBox, SpellsState, fluents_of, facts_of_box, fluents_of_box, facts_of_state, fluents_of_state}
use Rattle.cert_reader.specs.internal.Fronts.{IsUntold, IsOther, AreReadable}
use Rattle.cert_reader.proofs.InParts.{parts_leave_untold, spread}
use Rattle.cert_reader.proofs.Numbers.{decided, without_append}

-- ---- names without `=`

byte_of_name : (b : ℕ) → continues_name b ≡ true → b ≢ 61
byte_of_name b h e = let none : continues_name 61 ≡ true = subst (λ (x : ℕ). continues_name x ≡ true) e h in cc

begins_not : (b : ℕ) → begins_name b ≡ true → b ≢ 61
begins_not b h e = let none : begins_name 61 ≡ true = subst (λ (x : ℕ). begins_name x ≡ true) e h in cc

bytes_of_name : (bs : List ℕ) → list_all continues_name bs ≡ true → IsWithout 61 bs
bytes_of_name [] h = tt
bytes_of_name (b ∷ bs) h =
    let both = and_parts (continues_name b) (list_all continues_name bs) h in (byte_of_name b both.0, bytes_of_name bs both.1)

name_plain : (name : List ℕ) → is_name name ≡ true → IsWithout 61 name
name_plain [] h = tt
name_plain (b ∷ bs) h =
    let both = and_parts (begins_name b) (list_all continues_name bs) h in (begins_not b both.0, bytes_of_name bs both.1)

names_plain : (name : List ℕ) (names : List (List ℕ)) → is_name name ≡ true → list_all is_name names ≡ true → IsWithout 61 (join_with_byte 32 (name ∷ names))
names_plain name [] h k = name_plain name h
names_plain name (other ∷ names) h k =
    let both = and_parts (is_name other) (list_all is_name names) k in
    without_append 61 name (32 ∷ join_with_byte 32 (other ∷ names)) (name_plain name h) ((λ e. absurd (omega arith)), names_plain other names both.0 both.1)

text_plain : (text : List ℕ) → IsGroundText text → IsWithout 61 text
text_plain text is =
    subst (IsWithout 61) (sym is.spelled)
    (without_append 61 (codes "(" ++ join_with_byte 32 (is.name ∷ is.objects)) (codes ")")
    ((λ e. absurd (omega arith)), names_plain is.name is.objects is.a_name is.object_names) (decided 61 (codes ")") refl))

-- ---- names, one after another

-- each has no `=` and is none of the later ones
abbrev pub ArePlain : List (List ℕ) → Type 0
ArePlain [] = Unit {0}
ArePlain (n ∷ ns) = IsWithout 61 n × IsOther (λ name. name) n ns × ArePlain ns

others_of : (n : List ℕ) (ns : List (List ℕ)) → All (λ m. n ≢ m) ns → IsOther (λ name. name) n ns
others_of n [] h = tt
others_of n (m ∷ ns) h = ((λ e. h 0 m (omega arith) (sym e)), others_of n ns (λ k d l. h (suc k) d (omega arith)))

plain_list : (ns : List (List ℕ)) → All IsGroundText ns → AllPairs (λ n m. n ≢ m) ns → ArePlain ns
plain_list [] texts apart = tt
plain_list (n ∷ ns) texts apart = (
  text_plain n (texts 0 n (omega arith)),
  others_of n ns (λ k d l. apart 0 (suc k) d (omega arith) (omega arith)),
  plain_list ns (λ k d l. texts (suc k) d (omega arith)) (λ i j d l m. apart (suc i) (suc j) d (omega arith) (omega arith)),
)

all_append : (xs ys : List (List ℕ)) → All IsGroundText xs → All IsGroundText ys → All IsGroundText (xs ++ ys)
all_append [] ys h k = k
all_append (x ∷ xs) ys h k = cons x (xs ++ ys) (h 0 x (omega arith)) (all_append xs ys (λ i d l. h (suc i) d (omega arith)) k)
  where
    cons : (y : List ℕ) (zs : List (List ℕ)) → IsGroundText y → All IsGroundText zs → All IsGroundText (y ∷ zs)
    cons y zs one more zero d l = one
    cons y zs one more (suc i) d l = more i d (omega arith)

-- the facts and then the fluents of a task
pub task_plain : (raw : RawTask) → IsValid raw → ArePlain (raw.facts ++ raw.fluents)
task_plain raw valid = plain_list (raw.facts ++ raw.fluents) (all_append raw.facts raw.fluents valid.fact_texts valid.fluent_texts) valid.apart

-- ---- the facts of a line, with its fluents behind them

pub plain_back : (xs ys : List (List ℕ)) → ArePlain (xs ++ ys) → ArePlain ys
plain_back [] ys h = h
plain_back (x ∷ xs) ys h = plain_back xs ys h.2

other_front : (n : List ℕ) (xs ys : List (List ℕ)) → IsOther (λ name. name) n (xs ++ ys) → IsOther (λ name. name) n xs
other_front n [] ys h = tt
other_front n (x ∷ xs) ys h = (h.0, other_front n xs ys h.1)

other_back : (n : List ℕ) (xs ys : List (List ℕ)) → IsOther (λ name. name) n (xs ++ ys) → IsOther (λ name. name) n ys
other_back n [] ys h = h
other_back n (x ∷ xs) ys h = other_back n xs ys h.1

-- beside their places
other_zip : (n : List ℕ) (ns : List (List ℕ)) (ps : List ℕ) → IsOther (λ name. name) n ns → IsOther {N = List ℕ × ℕ} (λ fluent. fluent.0) n (zip ns ps)
other_zip n [] ps h = tt
other_zip n (m ∷ ns) [] h = tt
other_zip n (m ∷ ns) (p ∷ ps) h = (h.0, other_zip n ns ps h.1)

untold_nothing : (n : List ℕ) → IsUntold n []
untold_nothing n = λ words e. no_part n words e
  where
    no_part : (name words : List ℕ) → [] ≡ part_text name words → ⊥
    no_part name words e = let other : [] ≡ 32 ∷ (name ++ 61 ∷ words) = e ∙ spread name words in cc

-- the names of fluents, where nothing follows
pub fluents_readable : (ns : List (List ℕ)) (ps : List ℕ) → ArePlain ns → AreReadable {N = List ℕ × ℕ} (λ fluent. fluent.0) (zip ns ps) []
fluents_readable [] ps h = tt
fluents_readable (n ∷ ns) [] h = tt
fluents_readable (n ∷ ns) (p ∷ ps) h = (h.0, other_zip n ns ps h.1, untold_nothing n, fluents_readable ns ps h.2)

-- the names of facts, where the parts of fluents follow
module _ {X : Type 0} (k : Kind (List ℕ × ℕ) X) (named : k.name ≡ (λ fluent. fluent.0)) (fluents : List (List ℕ)) (ps : List ℕ) (xs : List X) (text : List ℕ) (parts : HasParts k (zip fluents ps) xs text []) where
  readable_here : AreReadable k.name (zip fluents ps) [] → (facts : List (List ℕ)) → ArePlain (facts ++ fluents) → AreReadable (λ name. name) facts text
  readable_here behind [] h = tt
  readable_here behind (n ∷ facts) h = (
    h.0,
    other_front n facts fluents h.1,
    parts_leave_untold k n (zip fluents ps) xs text [] h.0 behind
        (subst (λ (name : List ℕ × ℕ → List ℕ). IsOther name n (zip fluents ps)) (sym named) (other_zip n fluents ps (other_back n facts fluents h.1))) parts (untold_nothing n),
    readable_here behind facts h.2,
  )

  pub facts_readable : (facts : List (List ℕ)) → ArePlain (facts ++ fluents) → AreReadable (λ name. name) facts text
  facts_readable facts h =
      readable_here (subst (λ (name : List ℕ × ℕ → List ℕ). AreReadable name (zip fluents ps) []) (sym named) (fluents_readable fluents ps (plain_back facts fluents h))) facts h

-- ---- as many

pub as_many : {N X : Type 0} (k : Kind N X) (ns : List N) (xs : List X) (text rest : List ℕ) → HasParts k ns xs text rest → length xs ≡ length ns
as_many k [] [] text rest h = refl
as_many k [] (x ∷ xs) text rest h = absurd h
as_many k (n ∷ ns) [] text rest h = absurd h
as_many k (n ∷ ns) (x ∷ xs) text rest (part, behind, is, is_part, more) = ap suc (as_many k ns xs behind rest more)

pub as_many_pairs : (ns : List (List ℕ)) (ps : List ℕ) → length ps ≡ length ns → length (zip ns ps) ≡ length ns
as_many_pairs [] [] h = refl
as_many_pairs [] (p ∷ ps) h = absurd (omega arith)
as_many_pairs (n ∷ ns) [] h = absurd (omega arith)
as_many_pairs (n ∷ ns) (p ∷ ps) h = ap suc (as_many_pairs ns ps (omega arith))

-- the fluent of a number, beside its places
pub pair_at : (ns : List (List ℕ)) (ps : List ℕ) (i : ℕ) (d : List ℕ × ℕ) → i < length ns → i < length ps → get_or (zip ns ps) i d ≡ (get_or ns i [], get_or ps i 0)
pair_at [] ps i d h k = absurd (omega arith)
pair_at (n ∷ ns) [] i d h k = absurd (omega arith)
pair_at (n ∷ ns) (p ∷ ps) zero d h k = refl
pair_at (n ∷ ns) (p ∷ ps) (suc i) d h k = pair_at ns ps i d (omega arith) (omega arith)

-- ---- boxes of the task

lower_fits : (places : ℕ) (text : List ℕ) (e : End) → SpellsLower places text e → IsEndFor places e
lower_fits places text NegInf h = tt
lower_fits places text (Excl d) h = (omega (arith, trimmed_places d, h.2.3), trimmed_range d h.2.4)
lower_fits places text (Incl d) h = (omega (arith, trimmed_places d, h.2.3), trimmed_range d h.2.4)
lower_fits places text PosInf h = absurd h

upper_fits : (places : ℕ) (text : List ℕ) (e : End) → SpellsUpper places text e → IsEndFor places e
upper_fits places text NegInf h = absurd h
upper_fits places text (Excl d) h = (omega (arith, trimmed_places d, h.2.3), trimmed_range d h.2.4)
upper_fits places text (Incl d) h = (omega (arith, trimmed_places d, h.2.3), trimmed_range d h.2.4)
upper_fits places text PosInf h = tt

pub record FitsAt (places : ℕ) (i : Interval) : Type 0 where
  pub inhabited : IsTrue (is_inhabited i.0 i.1)
  pub lower : IsEndFor places i.0
  pub upper : IsEndFor places i.1

part_fits : (version : Version) (name : List ℕ) (places : ℕ) (i : Interval) (part : List ℕ) → IsPart (fluents_of_box version) (name, places) i part → FitsAt places i
part_fits version name places i part (inl (said, spelled, says)) = record {
  inhabited = says.inhabited;
  lower = lower_fits places says.lower i.0 says.spells_lower;
  upper = upper_fits places says.upper i.1 says.spells_upper;
}
part_fits version name places i part (inr (lacks, none)) = subst (FitsAt places) (sym lacks.1) (record { inhabited = refl; lower = tt; upper = tt })

parts_fit : (version : Version) (ns : List (List ℕ)) (ps : List ℕ) (is : List Interval) (text rest : List ℕ) → length ps ≡ length ns → HasParts (fluents_of_box version) (zip ns ps) is text rest
    → (x : ℕ) → x < length is → FitsAt (get_or ps x 0) (get_or is x whole_line)
parts_fit version [] [] [] text rest each h x l = absurd (omega arith)
parts_fit version [] [] (i ∷ is) text rest each h x l = absurd h
parts_fit version [] (p ∷ ps) is text rest each h x l = absurd (omega arith)
parts_fit version (n ∷ ns) [] is text rest each h x l = absurd (omega arith)
parts_fit version (n ∷ ns) (p ∷ ps) [] text rest each h x l = absurd h
parts_fit version (n ∷ ns) (p ∷ ps) (i ∷ is) text rest each (part, behind, cut, is_part, more) zero l = part_fits version n p i part is_part
parts_fit version (n ∷ ns) (p ∷ ps) (i ∷ is) text rest each (part, behind, cut, is_part, more) (suc x) l = parts_fit version ns ps is behind rest (omega arith) more x (omega arith)

pub box_of_task : (t : TaskValue) (version : Version) (line : List ℕ) (b : StateBox) → length t.places ≡ length t.raw.fluents → SpellsBox t version line b → IsBoxOf t b
box_of_task t version line b count is =
    let fits = parts_fit version t.raw.fluents t.places b.fluents is.fluent_parts [] count is.fluents in
    record {
      as_many_facts = as_many (facts_of_box version) t.raw.facts b.facts is.parts is.fluent_parts is.facts;
      as_many_fluents = as_many (fluents_of_box version) (fluents_of t) b.fluents is.fluent_parts [] is.fluents ∙ as_many_pairs t.raw.fluents t.places count;
      inhabited = λ x l. (fits x l).inhabited;
      lower_fits = λ x l. (fits x l).lower;
      upper_fits = λ x l. (fits x l).upper;
    }

-- ---- states of the task

pub state_of_task : (t : TaskValue) (line : List ℕ) (s : StateValue) → length t.places ≡ length t.raw.fluents → SpellsState t line s → IsStateOf t s
state_of_task t line s count is = record {
  a_truth_each = as_many facts_of_state t.raw.facts s.facts is.parts is.fluent_parts is.facts;
  a_number_each = as_many fluents_of_state (fluents_of t) s.values is.fluent_parts [] is.fluents ∙ as_many_pairs t.raw.fluents t.places count;
}

pub numbers_in_range : (ns : List (List ℕ × ℕ)) (xs : List ℤ) (text rest : List ℕ) → HasParts fluents_of_state ns xs text rest → All InRange xs
numbers_in_range [] [] text rest h = λ k d l. absurd (omega arith)
numbers_in_range [] (x ∷ xs) text rest h = absurd h
numbers_in_range (n ∷ ns) [] text rest h = absurd h
numbers_in_range (n ∷ ns) (x ∷ xs) text rest (part, behind, is, is_part, more) = each is_part (numbers_in_range ns xs behind rest more)
  where
    each : IsPart fluents_of_state n x part → All InRange xs → (k : ℕ) (d : ℤ) → k < length (x ∷ xs) → InRange (get_or (x ∷ xs) k d)
    each (inl (said, spelled, says)) rest zero d l = says.3
    each (inr (lacks, none)) rest zero d l = absurd lacks
    each one rest (suc k) d l = rest k d (omega arith)

-- a name, beside its places
any_default : {X : Type 0} (xs : List X) (i : ℕ) (d e : X) → i < length xs → get_or xs i d ≡ get_or xs i e
any_default [] i d e l = absurd (omega arith)
any_default (x ∷ xs) zero d e l = refl
any_default (x ∷ xs) (suc i) d e l = any_default xs i d e (omega arith)

pub pair_here : (names ns : List (List ℕ)) (ps : List ℕ) (i : ℕ) (name : List ℕ) (p : ℕ) → names ≡ ns → length ps ≡ length ns → i < length names
    → name ≡ get_or names i name → p ≡ get_or ps i 0 → (name, p) ≡ get_or (zip ns ps) i (name, p)
pair_here names ns ps i name p same count within is at =
    let there : i < length ns = omega (arith, ap (λ (xs : List (List ℕ)). length xs) same) in
    ap₂ (λ (n : List ℕ) (q : ℕ). (n, q)) (is ∙ ap (λ (xs : List (List ℕ)). get_or xs i name) same ∙ any_default ns i name [] there) at
    ∙ sym (pair_at ns ps i (name, p) there (omega arith))

pub pairs_within : (names ns : List (List ℕ)) (ps : List ℕ) (i : ℕ) → names ≡ ns → length ps ≡ length ns → i < length names → i < length (zip ns ps)
pairs_within names ns ps i same count within = omega (arith, ap (λ (xs : List (List ℕ)). length xs) same, as_many_pairs ns ps count)

pub pairs_over : (names ns : List (List ℕ)) (ps : List ℕ) (i : ℕ) → names ≡ ns → length ps ≡ length ns → length names ≤ i → length (zip ns ps) ≤ i
pairs_over names ns ps i same count over = omega (arith, ap (λ (xs : List (List ℕ)). length xs) same, as_many_pairs ns ps count)
