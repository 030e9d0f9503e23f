-- The lines of a text by their numbers.
use Rattle.std.proofs.Common.{◌≡◌, ℕ, ◌+◌, ◌-◌, ◌≤◌, ◌<◌, zero, suc, List, [], ◌∷◌, ◌++◌, length, get_or, map, refl, ap, ◌∙◌, arith, codes, length-append}
use Rattle.std.proofs.lemmas.List.{get_or_append_left, get_or-append_right, get_or-map}
use Rattle.std.proofs.lemmas.List.{length-map}
use Rattle.ground_task.specs.States.{StateValue}
use Rattle.ground_task.specs.Tasks.{TaskValue}
use Rattle.box_model.specs.declared.state_box.StateBox.{StateBox}
use Rattle.cert_text.specs.Lines.{short_box_line, state_line}
use Rattle.answer_text.specs.Texts.{certificate_lines, claim_lines, step_line}

-- a line behind the first
pub behind : (line : List ℕ) (lines : List (List ℕ)) (i : ℕ) → 0 < i → get_or (line ∷ lines) i [] ≡ get_or lines (i - 1) []
behind line lines zero some = absurd (omega (arith, some))
behind line lines (suc i) some = let less : suc i - 1 ≡ i = omega arith in rw less refl

pub first_line : (line : List ℕ) (lines : List (List ℕ)) (i : ℕ) → i ≡ 0 → get_or (line ∷ lines) i [] ≡ line
first_line line lines i is = rw is refl

pub count_steps : (t : TaskValue) (line path : List ℕ) → length (line ∷ map (step_line t) path) ≡ length path + 1
count_steps t line path = omega (arith, length-map path (step_line t))

pub count_refs : {X : Type 0} (t : TaskValue) (boxes : List StateBox) (f : X → StateValue) (xs : List X) → length (certificate_lines t boxes (map f xs)) ≡ length boxes + length xs + 2
count_refs t boxes f xs =
    omega (arith, length-append (map (short_box_line t.raw) boxes) (map (state_line t) (map f xs) ++ codes "end\n" ∷ []), length-append (map (state_line t) (map f xs)) (codes "end\n" ∷ []), length-map boxes (short_box_line t.raw), length-map (map f xs) (state_line t), length-map xs f)

pub step_at : (t : TaskValue) (line : List ℕ) (path : List ℕ) (i : ℕ) → 0 < i → i < length path + 1 → (d : ℕ) → get_or (line ∷ map (step_line t) path) i [] ≡ step_line t (get_or path (i - 1) d)
step_at t line path i some within d =
    behind line (map (step_line t) path) i some ∙ get_or-map (step_line t) path (i - 1) d [] (omega (arith, some, within))

module _ {X : Type 0} (t : TaskValue) (boxes : List StateBox) (f : X → StateValue) (xs : List X) (i : ℕ) where
  abbrev states : List StateValue
  states = map f xs

  pub box_at : (d : StateBox) → i < length boxes → get_or (claim_lines t boxes states) i [] ≡ short_box_line t.raw (get_or boxes i d)
  box_at d within =
      get_or_append_left (map (short_box_line t.raw) boxes) (map (state_line t) states ++ codes "end\n" ∷ []) [] i (rw (length-map boxes (short_box_line t.raw)) within)
      ∙ get_or-map (short_box_line t.raw) boxes i d [] within

  past_boxes : length boxes ≤ i → get_or (claim_lines t boxes states) i [] ≡ get_or (map (state_line t) states ++ codes "end\n" ∷ []) (i - length boxes) []
  past_boxes past = get_or-append_right (map (short_box_line t.raw) boxes) (map (state_line t) states ++ codes "end\n" ∷ []) (length boxes) i [] (length-map boxes (short_box_line t.raw)) past

  many : length (map (state_line t) states) ≡ length xs
  many = length-map states (state_line t) ∙ length-map xs f

  pub state_at : (d : X) → length boxes ≤ i → i - length boxes < length xs → get_or (claim_lines t boxes states) i [] ≡ state_line t (f (get_or xs (i - length boxes) d))
  state_at d past within =
      past_boxes past
      ∙ get_or_append_left (map (state_line t) states) (codes "end\n" ∷ []) [] (i - length boxes) (rw many within)
      ∙ get_or-map (state_line t) states (i - length boxes) (f d) [] (rw (length-map xs f) within)
      ∙ ap (state_line t) (get_or-map f xs (i - length boxes) d (f d) within)

  pub end_at : length boxes ≤ i → i - length boxes ≡ length xs → get_or (claim_lines t boxes states) i [] ≡ codes "end\n"
  end_at past last =
      past_boxes past
      ∙ rw last (get_or-append_right (map (state_line t) states) (codes "end\n" ∷ []) (length xs) (length xs) [] many (omega arith) ∙ rw (self (length xs)) refl)
    where
      self : (n : ℕ) → n - n ≡ 0
      self n = omega arith
