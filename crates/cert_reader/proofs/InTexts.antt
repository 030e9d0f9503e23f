-- The lines of a text, one after another.
use Rattle.std.proofs.Common.{◌≡◌, ◌≢◌, ℕ, zero, suc, ◌+◌, ◌<◌, ◌≤◌, List, [], ◌∷◌, ◌++◌, inl, inr, codes, length, get_or, All, Result, Ok, Err, IfOk, refl, sym, ap, ap₂, subst, ◌∙◌, arith, append_assoc, length-append}
use Rattle.std.proofs.lemmas.List.{append-nil}
use Rattle.ground_task.specs.States.{StateValue}
use Rattle.ground_task.specs.Tasks.{TaskValue, IsStateOf}
use Rattle.box_model.specs.Boxes.{IsBoxOf}
use Rattle.box_model.specs.declared.state_box.StateBox.{StateBox}
use Rattle.cert_text.specs.declared.cert.Cert.{Cert}
use Rattle.cert_text.specs.declared.cert.Version.{Version}
use Rattle.cert_reader.specs.declared.faults.CertFault.{CertFault}
use Rattle.cert_reader.specs.declared.faults.CertFault.TheVariants.{BadLine, EndsEarly, TooMany, NoMemory}
use Rattle.cert_reader.specs.Parts.{IsWithout}
use Rattle.cert_reader.specs.Spelling.{SpellsBox, SpellsState}
use Rattle.cert_reader.specs.Certificates.{first_line, with_line_feeds, SpellEach, SpellsFront, ReadsAs, IsFirstFault, IsAnswer}
use Rattle.cert_reader.specs.internal.Additions.{Adds, IsAgainst}
use Rattle.cert_reader.proofs.InTasks.{box_of_task, state_of_task}

module _ {X : Type 0} (Spells : List ℕ → X → Type 0) where
  each_and_one : (lines : List (List ℕ)) (xs : List X) (line : List ℕ) (x : X) → SpellEach Spells lines xs → Spells line x → SpellEach Spells (lines ++ line ∷ []) (xs ++ x ∷ [])
  each_and_one [] [] line x h is = (is, tt)
  each_and_one [] (y ∷ xs) line x h is = absurd h
  each_and_one (other ∷ lines) [] line x h is = absurd h
  each_and_one (other ∷ lines) (y ∷ xs) line x h is = (h.0, each_and_one lines xs line x h.1 is)

  no_lines : (lines : List (List ℕ)) (xs : List X) → SpellEach Spells lines xs → xs ≡ [] → lines ≡ []
  no_lines [] xs h none = refl
  no_lines (line ∷ lines) [] h none = absurd h
  no_lines (line ∷ lines) (x ∷ xs) h none = cc

  each_is : (P : X → Type 0) → ((line : List ℕ) (x : X) → Spells line x → P x) → (lines : List (List ℕ)) (xs : List X) → SpellEach Spells lines xs → All P xs
  each_is P one [] [] h = λ k d l. absurd (omega arith)
  each_is P one [] (x ∷ xs) h = absurd h
  each_is P one (line ∷ lines) [] h = absurd h
  each_is P one (line ∷ lines) (x ∷ xs) h = all (one line x h.0) (each_is P one lines xs h.1)
    where
      all : P x → All P xs → (k : ℕ) (d : X) → k < length (x ∷ xs) → P (get_or (x ∷ xs) k d)
      all first rest zero d l = first
      all first rest (suc k) d l = rest k d (omega arith)

pub feeds_and_one : (lines : List (List ℕ)) (line : List ℕ) → with_line_feeds (lines ++ line ∷ []) ≡ with_line_feeds lines ++ (line ++ codes "\n")
feeds_and_one [] line = append-nil (line ++ codes "\n")
feeds_and_one (other ∷ lines) line =
    ap (λ (r : List ℕ). (other ++ codes "\n") ++ r) (feeds_and_one lines line) ∙ sym (append_assoc (other ++ codes "\n") (with_line_feeds lines) (line ++ codes "\n"))

-- the first lines of the text spell the certificate, and the rest is still to be read, from the line of this number on
pub record IsReadTo (t : TaskValue) (version : Version) (text : List ℕ) (cert : Cert) (number : ℕ) (rest : List ℕ) : Type 0 where
  pub lines : List (List ℕ)
  pub front : SpellsFront t version lines cert.boxes cert.states
  pub text_is : text ≡ with_line_feeds lines ++ rest
  pub place : number ≡ length lines + 1

module _ (t : TaskValue) (version : Version) where
  pub first_read : (rest : List ℕ) (cert : Cert) → cert.boxes ≡ [] → cert.states ≡ [] → IsReadTo t version (first_line version ++ 10 ∷ rest) cert 2 rest
  first_read rest cert boxes states = record {
    lines = first_line version ∷ [];
    front = record {
      box_lines = [];
      state_lines = [];
      lines_are = refl;
      spell_boxes = subst (SpellEach (SpellsBox t version) []) (sym boxes) tt;
      spell_states = subst (SpellEach (SpellsState t) []) (sym states) tt;
      few_boxes = omega (arith, ap length boxes);
      few_states = omega (arith, ap length states);
    };
    text_is = sym (append_assoc (first_line version) (codes "\n") rest) ∙ ap (λ (r : List ℕ). r ++ rest) (sym (append-nil (first_line version ++ codes "\n")));
    place = refl;
  }

  box_front : (lines : List (List ℕ)) (line : List ℕ) (old new : Cert) (b : StateBox) → SpellsFront t version lines old.boxes old.states → old.states ≡ [] → SpellsBox t version line b → length old.boxes < 40000
      → new.boxes ≡ old.boxes ++ b ∷ [] → new.states ≡ old.states → SpellsFront t version (lines ++ line ∷ []) new.boxes new.states
  box_front lines line old new b front none is room boxes states =
      let empty : front.state_lines ≡ [] = no_lines (SpellsState t) front.state_lines old.states front.spell_states none in
      let all : lines ≡ first_line version ∷ front.box_lines =
      front.lines_are ∙ ap (λ (ls : List (List ℕ)). (first_line version ∷ front.box_lines) ++ ls) empty ∙ append-nil (first_line version ∷ front.box_lines) in
      record {
        box_lines = front.box_lines ++ line ∷ [];
        state_lines = [];
        lines_are = ap (λ (ls : List (List ℕ)). ls ++ line ∷ []) all ∙ sym (append-nil ((first_line version ∷ front.box_lines) ++ line ∷ []));
        spell_boxes = subst (SpellEach (SpellsBox t version) (front.box_lines ++ line ∷ [])) (sym boxes)
            (each_and_one (SpellsBox t version) front.box_lines old.boxes line b front.spell_boxes is);
        spell_states = subst (SpellEach (SpellsState t) []) (sym (states ∙ none)) tt;
        few_boxes = omega (arith, ap length boxes, length-append old.boxes (b ∷ []));
        few_states = omega (arith, ap length (states ∙ none));
      }

  state_front : (lines : List (List ℕ)) (line : List ℕ) (old new : Cert) (s : StateValue) → SpellsFront t version lines old.boxes old.states → SpellsState t line s → length old.states < 500000
      → new.boxes ≡ old.boxes → new.states ≡ old.states ++ s ∷ [] → SpellsFront t version (lines ++ line ∷ []) new.boxes new.states
  state_front lines line old new s front is room boxes states = record {
    box_lines = front.box_lines;
    state_lines = front.state_lines ++ line ∷ [];
    lines_are = ap (λ (ls : List (List ℕ)). ls ++ line ∷ []) front.lines_are ∙ append_assoc (first_line version ∷ front.box_lines) front.state_lines (line ∷ []);
    spell_boxes = subst (SpellEach (SpellsBox t version) front.box_lines) (sym boxes) front.spell_boxes;
    spell_states = subst (SpellEach (SpellsState t) (front.state_lines ++ line ∷ [])) (sym states)
        (each_and_one (SpellsState t) front.state_lines old.states line s front.spell_states is);
    few_boxes = omega (arith, ap length boxes, front.few_boxes);
    few_states = omega (arith, ap length states, length-append old.states (s ∷ []));
  }

  pub one_front_more : (lines : List (List ℕ)) (line : List ℕ) (old new : Cert) → SpellsFront t version lines old.boxes old.states → Adds t version line old new → SpellsFront t version (lines ++ line ∷ []) new.boxes new.states
  one_front_more lines line old new front (inl (b, (none, is), room, boxes, states)) = box_front lines line old new b front none is room boxes states
  one_front_more lines line old new front (inr (s, is, room, boxes, states)) = state_front lines line old new s front is room boxes states

  module _ (text : List ℕ) (cert : Cert) (number : ℕ) (rest line behind : List ℕ) (read : IsReadTo t version text cert number rest) where
    -- the text, cut behind this line
    cut_here : rest ≡ line ++ 10 ∷ behind → text ≡ with_line_feeds read.lines ++ (line ++ codes "\n" ++ behind)
    cut_here cut = read.text_is ∙ ap (λ (r : List ℕ). with_line_feeds read.lines ++ r) (cut ∙ sym (append_assoc line (codes "\n") behind))

    pub line_read : rest ≡ line ++ 10 ∷ behind → (new : Cert) → Adds t version line cert new → IsReadTo t version text new (number + 1) behind
    line_read cut new adds = record {
      lines = read.lines ++ line ∷ [];
      front = one_front_more read.lines line cert new read.front adds;
      text_is = cut_here cut ∙ sym (append_assoc (with_line_feeds read.lines) (line ++ codes "\n") behind) ∙ ap (λ (r : List ℕ). r ++ behind) (sym (feeds_and_one read.lines line));
      place = omega (arith, read.place, length-append read.lines (line ∷ []));
    }

    pub against_line : rest ≡ line ++ 10 ∷ behind → IsWithout 10 line → (fault : CertFault) → IsAgainst t version line number cert fault → IsFirstFault t text fault
    against_line cut one_line (BadLine k) h = inl (record {
      before = read.lines;
      line = line;
      behind = behind;
      text_is = cut_here cut;
      one_line = one_line;
      place = h.0 ∙ read.place;
      bad = inr (version, cert.boxes, cert.states, read.front, h.1);
    })
    against_line cut one_line (EndsEarly k) h = absurd h
    against_line cut one_line (TooMany k) h = record {
      version = version;
      before = read.lines;
      boxes = cert.boxes;
      states = cert.states;
      front = read.front;
      line = line;
      behind = behind;
      text_is = cut_here cut;
      one_line = one_line;
      place = h.0 ∙ read.place;
      full = h.1;
    }
    against_line cut one_line NoMemory h = tt

    pub ended : rest ≡ line ++ 10 ∷ behind → line ≡ codes "end" → behind ≡ [] → ReadsAs t text cert.boxes cert.states
    ended cut is none = record {
      version = version;
      lines = read.lines;
      front = read.front;
      text_is = read.text_is ∙ ap (λ (r : List ℕ). with_line_feeds read.lines ++ r) (cut ∙ ap₂ (λ (l b : List ℕ). l ++ 10 ∷ b) is none);
    }

    more_behind : (others : List ℕ) → rest ≡ line ++ 10 ∷ others → line ≡ codes "end" → others ≢ [] → IsFirstFault t text (BadLine (number + 1))
    more_behind [] cut is some = absurd (some refl)
    more_behind (byte ∷ others) cut is some = inr (record {
      version = version;
      lines = read.lines;
      boxes = cert.boxes;
      states = cert.states;
      front = read.front;
      byte = byte;
      behind = others;
      text_is = read.text_is ∙ ap (λ (r : List ℕ). with_line_feeds read.lines ++ r) (cut ∙ ap (λ (l : List ℕ). l ++ 10 ∷ byte ∷ others) is);
      place = omega (arith, read.place);
    })

    pub behind_end : rest ≡ line ++ 10 ∷ behind → line ≡ codes "end" → behind ≢ [] → IsFirstFault t text (BadLine (number + 1))
    behind_end cut is some = more_behind behind cut is some

  pub ends_early : (text : List ℕ) (cert : Cert) (number : ℕ) (rest : List ℕ) → IsReadTo t version text cert number rest → IsWithout 10 rest → IsFirstFault t text (EndsEarly number)
  ends_early text cert number rest read none = record {
    before = read.lines;
    unended = rest;
    text_is = read.text_is;
    no_line = none;
    place = read.place;
    faultless = inr (version, cert.boxes, cert.states, read.front);
  }

-- ---- so many lines can be numbered

as_many_lines : {X : Type 0} (Spells : List ℕ → X → Type 0) (lines : List (List ℕ)) (xs : List X) → SpellEach Spells lines xs → length lines ≡ length xs
as_many_lines Spells [] [] h = refl
as_many_lines Spells [] (x ∷ xs) h = absurd h
as_many_lines Spells (line ∷ lines) [] h = absurd h
as_many_lines Spells (line ∷ lines) (x ∷ xs) h = ap suc (as_many_lines Spells lines xs h.1)

pub few_lines : (t : TaskValue) (version : Version) (text : List ℕ) (cert : Cert) (number : ℕ) (rest : List ℕ) → IsReadTo t version text cert number rest → number ≤ 540002
few_lines t version text cert number rest read =
    omega (
      arith,
      read.place,
      ap length read.front.lines_are,
      length-append read.front.box_lines read.front.state_lines,
      as_many_lines (SpellsBox t version) read.front.box_lines cert.boxes read.front.spell_boxes,
      as_many_lines (SpellsState t) read.front.state_lines cert.states read.front.spell_states,
      read.front.few_boxes,
      read.front.few_states,
    )

-- ---- the first line

pub no_line : (t : TaskValue) (text : List ℕ) → IsWithout 10 text → IsFirstFault t text (EndsEarly 1)
no_line t text none = record { before = []; unended = text; text_is = refl; no_line = none; place = refl; faultless = inl refl }

pub no_version : (t : TaskValue) (text line behind : List ℕ) → text ≡ line ++ 10 ∷ behind → IsWithout 10 line → ((version : Version) → line ≡ first_line version → ⊥) → IsFirstFault t text (BadLine 1)
no_version t text line behind cut one_line none = inl (record {
  before = [];
  line = line;
  behind = behind;
  text_is = cut ∙ sym (append_assoc line (codes "\n") behind);
  one_line = one_line;
  place = refl;
  bad = inl (refl, none);
})

-- what is read

module _ (t : TaskValue) (count : length t.places ≡ length t.raw.fluents) (text : List ℕ) (boxes : List StateBox) (states : List StateValue) (reads : ReadsAs t text boxes states) where
  pub boxes_of_task : All (IsBoxOf t) boxes
  boxes_of_task =
      each_is (SpellsBox t reads.version) (IsBoxOf t) (λ line b is. box_of_task t reads.version line b count is) reads.front.box_lines boxes reads.front.spell_boxes

  pub states_of_task : All (IsStateOf t) states
  states_of_task = each_is (SpellsState t) (IsStateOf t) (λ line s is. state_of_task t line s count is) reads.front.state_lines states reads.front.spell_states

-- what an answer has is of the task

pub boxes_in_answer : (t : TaskValue) (count : length t.places ≡ length t.raw.fluents) (text : List ℕ) (result : Result Cert CertFault) → IsAnswer t text result
    → IfOk result (λ cert. All (IsBoxOf t) cert.boxes)
boxes_in_answer t count text (Ok cert) is = boxes_of_task t count text cert.boxes cert.states is
boxes_in_answer t count text (Err fault) is = tt

pub states_in_answer : (t : TaskValue) (count : length t.places ≡ length t.raw.fluents) (text : List ℕ) (result : Result Cert CertFault) → IsAnswer t text result
    → IfOk result (λ cert. All (IsStateOf t) cert.states)
states_in_answer t count text (Ok cert) is = states_of_task t count text cert.boxes cert.states is
states_in_answer t count text (Err fault) is = tt
