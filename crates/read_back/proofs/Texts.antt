-- The text of a certificate reads as it was written.
use Rattle.std.proofs.Common.{◌≡◌, ℕ, suc, List, [], ◌∷◌, ◌++◌, All, codes, flat_map, length, map, refl, sym, ap, ◌∙◌, arith, append_assoc}
use Rattle.std.proofs.lemmas.List.{append-nil}
use Rattle.std.proofs.lemmas.List.Concat.{concat_is}
use Rattle.std.proofs.lemmas.List.Elements.{All-head, All-tail}
use Rattle.num_ends.specs.Decimal.{InRange}
use Rattle.ground_task.specs.Placed.{IsPlaced}
use Rattle.ground_task.specs.States.{StateValue}
use Rattle.ground_task.specs.Tasks.{IsStateOf, TaskValue}
use Rattle.ground_task.specs.Valid.{IsValid}
use Rattle.box_model.specs.Boxes.{IsBoxOf}
use Rattle.box_model.specs.declared.state_box.StateBox.{StateBox}
use Rattle.cert_text.specs.Lines.{short_box_line, state_line}
use Rattle.cert_text.specs.declared.cert.Cert.{Cert}
use Rattle.cert_text.specs.declared.cert.Version.TheVariants.{Short}
use Rattle.cert_reader.specs.Certificates.{ReadsAs, SpellEach, first_line, with_line_feeds}
use Rattle.cert_reader.specs.Spelling.{SpellsBox, SpellsState}
use Rattle.answer_text.specs.Texts.{certificate_lines, certificate_text, claim_lines}
use Rattle.read_back.specs.Certificates.{IsWritable, trimmed_box}
use Rattle.read_back.proofs.Lines.{box_spelled, box_text, state_spelled, state_text}

-- ---- line feeds

abbrev fed : List ℕ → List ℕ
fed line = line ++ codes "\n"

-- lines with their line feeds, and a last one, behind one another
joined : (lines : List (List ℕ)) (last : List ℕ) → flat_map (λ x. x) (map fed lines ++ last ∷ []) ≡ with_line_feeds lines ++ last
joined [] last = append-nil last
joined (line ∷ lines) last =
    ap (λ (r : List ℕ). fed line ++ r) (joined lines last) ∙ sym (append_assoc (fed line) (with_line_feeds lines) last)

states_fed : (t : TaskValue) (states : List StateValue) → map (state_line t) states ++ codes "end\n" ∷ [] ≡ map fed (map (state_text t) states) ++ codes "end\n" ∷ []
states_fed t [] = refl
states_fed t (s ∷ states) = ap (λ (r : List (List ℕ)). state_line t s ∷ r) (states_fed t states)

claims_fed : (t : TaskValue) (boxes : List StateBox) (states : List StateValue)
    → claim_lines t boxes states ≡ map fed (map (box_text t) boxes ++ map (state_text t) states) ++ codes "end\n" ∷ []
claims_fed t [] states = states_fed t states
claims_fed t (b ∷ boxes) states = ap (λ (r : List (List ℕ)). short_box_line t.raw b ∷ r) (claims_fed t boxes states)

-- ---- lines

boxes_spelled : (t : TaskValue) → IsValid t.raw → IsPlaced t.raw t.places → (boxes : List StateBox) → All (IsBoxOf t) boxes
    → SpellEach (SpellsBox t Short) (map (box_text t) boxes) (map trimmed_box boxes)
boxes_spelled t valid placed [] is = tt
boxes_spelled t valid placed (b ∷ boxes) is = (
  box_spelled t valid placed b (All-head (IsBoxOf t) b boxes is),
  boxes_spelled t valid placed boxes (All-tail (IsBoxOf t) b boxes is),
)

abbrev AreRanged : StateValue → Type 0
AreRanged s = All InRange s.values

states_spelled : (t : TaskValue) → IsValid t.raw → IsPlaced t.raw t.places → (states : List StateValue) → All (IsStateOf t) states → All AreRanged states
    → SpellEach (SpellsState t) (map (state_text t) states) states
states_spelled t valid placed [] is fits = tt
states_spelled t valid placed (s ∷ states) is fits = (
  state_spelled t valid placed s (All-head (IsStateOf t) s states is) (All-head AreRanged s states fits),
  states_spelled t valid placed states (All-tail (IsStateOf t) s states is) (All-tail AreRanged s states fits),
)

as_many_trimmed : (boxes : List StateBox) → length (map trimmed_box boxes) ≡ length boxes
as_many_trimmed [] = refl
as_many_trimmed (b ∷ boxes) = ap (λ (n : ℕ). suc n) (as_many_trimmed boxes)

-- ---- texts

pub certificate_reads : (t : TaskValue) (cert : Cert) → IsValid t.raw → IsPlaced t.raw t.places → IsWritable t cert
    → ReadsAs t (certificate_text t cert) (map trimmed_box cert.boxes) cert.states
certificate_reads t cert valid placed is =
    let box_lines = map (box_text t) cert.boxes in
    let state_lines = map (state_text t) cert.states in
    let lines = first_line Short ∷ (box_lines ++ state_lines) in
    let text : certificate_text t cert ≡ with_line_feeds lines ++ codes "end\n" =
    concat_is (certificate_lines t cert.boxes cert.states)
    ∙ ap (λ (r : List (List ℕ)). flat_map (λ x. x) (codes "UNSOLVABLE 2\n" ∷ r)) (claims_fed t cert.boxes cert.states)
    ∙ joined lines (codes "end\n") in
    record {
      version = Short;
      lines = lines;
      front = record {
        box_lines = box_lines;
        state_lines = state_lines;
        lines_are = refl;
        spell_boxes = boxes_spelled t valid placed cert.boxes is.boxes;
        spell_states = states_spelled t valid placed cert.states is.states is.in_range;
        few_boxes = omega (arith, as_many_trimmed cert.boxes, is.few_boxes);
        few_states = is.few_states;
      };
      text_is = text;
    }
