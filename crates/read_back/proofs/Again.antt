-- What was read may be written, and reads as it did.
use Rattle.std.proofs.Common.{◌≡◌, ℕ, List, [], ◌∷◌, All, inl, inr, length, map, refl, sym, ap, ap₂, ◌∙◌, subst}
use Rattle.std.proofs.lemmas.List.Elements.{All-cons, All-nil}
use Rattle.num_ends.specs.Decimal.{InRange}
use Rattle.num_ends.specs.Ends.{Interval}
use Rattle.num_ends.specs.declared.ends.End.{End}
use Rattle.ground_task.specs.Placed.{IsPlaced}
use Rattle.ground_task.specs.Tasks.{IsStateOf, TaskValue}
use Rattle.ground_task.specs.Valid.{IsValid}
use Rattle.box_model.specs.Boxes.{IsBoxOf}
use Rattle.box_model.specs.declared.state_box.StateBox.{StateBox}
use Rattle.cert_text.specs.declared.cert.Cert.{Cert}
use Rattle.cert_text.specs.declared.cert.Version.{Version}
use Rattle.cert_reader.specs.Certificates.{ReadsAs, SpellEach}
use Rattle.cert_reader.specs.Parts.{HasParts, IsPart}
use Rattle.cert_reader.specs.Spelling.{SpellsBox, SpellsState, fluents_of, fluents_of_box}
use Rattle.cert_reader.proofs.InTasks.{box_of_task, numbers_in_range, state_of_task}
use Rattle.answer_text.specs.Texts.{certificate_text}
use Rattle.read_back.specs.Certificates.{IsWritable, trimmed_box, trimmed_interval}
use Rattle.read_back.proofs.Ends.{spelled_lower_trimmed, spelled_upper_trimmed}
use Rattle.read_back.proofs.Texts.{certificate_reads}

-- ---- ends that were read have the fewest places

part_trimmed : (version : Version) (fluent : List ℕ × ℕ) (i : Interval) (part : List ℕ) → IsPart (fluents_of_box version) fluent i part → trimmed_interval i ≡ i
part_trimmed version fluent i part (inl (said, spelled, says)) =
    ap₂ (λ (l u : End). (l, u)) (spelled_lower_trimmed fluent.1 says.lower i.0 says.spells_lower) (spelled_upper_trimmed fluent.1 says.upper i.1 says.spells_upper)
part_trimmed version fluent i part (inr (lacks, none)) = ap trimmed_interval lacks.1 ∙ sym lacks.1

parts_trimmed : (version : Version) (fluents : List (List ℕ × ℕ)) (is : List Interval) (text rest : List ℕ) → HasParts (fluents_of_box version) fluents is text rest
    → map trimmed_interval is ≡ is
parts_trimmed version [] [] text rest h = refl
parts_trimmed version [] (i ∷ is) text rest h = absurd h
parts_trimmed version (fluent ∷ fluents) [] text rest h = refl
parts_trimmed version (fluent ∷ fluents) (i ∷ is) text rest (part, behind, cut, is_part, more) =
    ap₂ (λ (j : Interval) (js : List Interval). j ∷ js) (part_trimmed version fluent i part is_part) (parts_trimmed version fluents is behind rest more)

box_trimmed : (t : TaskValue) (version : Version) (line : List ℕ) (b : StateBox) → SpellsBox t version line b → trimmed_box b ≡ b
box_trimmed t version line b is =
    ap (λ (fluents : List Interval). record { facts = b.facts; fluents = fluents }) (parts_trimmed version (fluents_of t) b.fluents is.fluent_parts [] is.fluents)

pub boxes_trimmed : (t : TaskValue) (version : Version) (lines : List (List ℕ)) (boxes : List StateBox) → SpellEach (SpellsBox t version) lines boxes
    → map trimmed_box boxes ≡ boxes
boxes_trimmed t version [] [] h = refl
boxes_trimmed t version [] (b ∷ boxes) h = absurd h
boxes_trimmed t version (line ∷ lines) [] h = refl
boxes_trimmed t version (line ∷ lines) (b ∷ boxes) h =
    ap₂ (λ (c : StateBox) (cs : List StateBox). c ∷ cs) (box_trimmed t version line b h.0) (boxes_trimmed t version lines boxes h.1)

-- ---- boxes and states of the task

each_spelled : {X : Type 0} (Spells : List ℕ → X → Type 0) (P : X → Type 0) → ((line : List ℕ) (x : X) → Spells line x → P x)
    → (lines : List (List ℕ)) (xs : List X) → SpellEach Spells lines xs → All P xs
each_spelled Spells P one [] [] h = All-nil P
each_spelled Spells P one [] (x ∷ xs) h = absurd h
each_spelled Spells P one (line ∷ lines) [] h = All-nil P
each_spelled Spells P one (line ∷ lines) (x ∷ xs) h = All-cons P x xs (one line x h.0) (each_spelled Spells P one lines xs h.1)

module _ (t : TaskValue) (count : length t.places ≡ length t.raw.fluents) (text : List ℕ) (cert : Cert) (reads : ReadsAs t text cert.boxes cert.states) where
  pub read_writable : IsWritable t cert
  read_writable =
      let front = reads.front in
      record {
        boxes = each_spelled (SpellsBox t reads.version) (IsBoxOf t) (λ line b is. box_of_task t reads.version line b count is) front.box_lines cert.boxes front.spell_boxes;
        states = each_spelled (SpellsState t) (IsStateOf t) (λ line s is. state_of_task t line s count is) front.state_lines cert.states front.spell_states;
        in_range = each_spelled (SpellsState t) (λ s. All InRange s.values)
            (λ line s is. numbers_in_range (fluents_of t) s.values is.fluent_parts [] is.fluents) front.state_lines cert.states front.spell_states;
        few_boxes = front.few_boxes;
        few_states = front.few_states;
      }

  pub reads_again : IsValid t.raw → IsPlaced t.raw t.places → ReadsAs t (certificate_text t cert) cert.boxes cert.states
  reads_again valid placed =
      subst (λ (boxes : List StateBox). ReadsAs t (certificate_text t cert) boxes cert.states)
      (boxes_trimmed t reads.version reads.front.box_lines cert.boxes reads.front.spell_boxes)
      (certificate_reads t cert valid placed read_writable)
