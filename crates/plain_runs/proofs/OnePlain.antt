-- Two plain runs with an answer, in which no worker starved, are alike.
use Rattle.std.proofs.Common.{◌≡◌, ℕ, ◌<◌, Bool, true, false, List, [], ◌∷◌, ◌++◌, length, None, Some, refl, sym, subst, ◌∙◌, inl, inr, arith, length-append}
use Rattle.std.proofs.lemmas.Bool.{cases_order}
use Rattle.plain_runs.specs.Alike.{AreAlike}
use Rattle.plain_runs.proofs.Entering.{AreLike, OneOfEach, entered_like}
use Rattle.plain_runs.proofs.Steps.{event_same, leads_like, one_taken}
use Rattle.search_runs.specs.Answers.{answer_of}
use Rattle.search_runs.specs.Nodes.{Config, nothing}
use Rattle.search_runs.specs.PlainRuns as plain
use Rattle.search_runs.specs.PlainRuns.{IsPlainRun, PlainRun}
use Rattle.search_runs.specs.Runs.{has_starve, Leads}
use Rattle.search_runs.specs.Spaces.{Space}
use Rattle.search_runs.specs.declared.answers.Answer.{Answer}
use Rattle.search_runs.specs.declared.events.Event.{Event}
use Rattle.search_runs.proofs.Stays.{starved-more}

unstarved_front : (j : List Event) (e : Event) → has_starve (j ++ e ∷ []) ≡ false → has_starve j ≡ false
unstarved_front j e fed = by (has_starve j) refl
  where
    by : (b : Bool) → has_starve j ≡ b → has_starve j ≡ false
    by true is = absurd (let bad : true ≡ false = sym (starved-more j e is) ∙ fed in cc)
    by false is = is

module _ {S B : Type 0} (g : Space S B) where
  some_events : (j : List Event) (c : Config S B) → PlainRun g j c → 0 < length j
  some_events _ _ (plain.starts c enters) = omega arith
  some_events _ _ (plain.goes_on j c e d run none alone leads) = omega (arith, length-append j (e ∷ []))

  -- the run as it was after so many events, where there was no answer yet
  pub record Front (j : List Event) (n : ℕ) : Type 0 where
    pub events : List Event
    pub config : Config S B
    pub run : PlainRun g events config
    pub is_length : length events ≡ n
    pub none : answer_of g.limit events config ≡ None
    pub unstarved : has_starve j ≡ false → has_starve events ≡ false

  pub front : (j : List Event) (c : Config S B) → PlainRun g j c → (n : ℕ) → 0 < n → n < length j → Front j n
  front _ _ (plain.starts c enters) n some less = absurd (omega (arith, some, less))
  front _ _ (plain.goes_on j c e d run none alone leads) n some less =
      elim (cases_order n (length j)) [
        | inl same ↦ record { events = j; config = c; run = run; is_length = sym same; none = none; unstarved = unstarved_front j e }
        | inr (inl before) ↦ (let r = front j c run n some before in record {
          events = r.events;
          config = r.config;
          run = r.run;
          is_length = r.is_length;
          none = r.none;
          unstarved = λ fed. r.unstarved (unstarved_front j e fed);
        })
        | inr (inr after) ↦ absurd (omega (arith, less, after, length-append j (e ∷ [])))
      ]

module _ {S B : Type 0} (g : Space S B) (Alike : B → B → Type 0) (one : OneOfEach g Alike) (single : g.workers ≡ 1) where
  nothing_like : AreLike g Alike nothing nothing
  nothing_like = record { nodes = refl; over = refl; full = refl; boxes = tt; dead = λ b box at. cc; dead_too = λ b box at. cc }

  -- as many events lead to the same
  pub runs_same : (i : List Event) (c : Config S B) → PlainRun g i c → (j : List Event) (d : Config S B) → PlainRun g j d → length i ≡ length j → has_starve i ≡ false → has_starve j ≡ false → (i ≡ j) × AreLike g Alike c d
  runs_same _ _ (plain.starts c enters) _ _ (plain.starts d enters') len fed fed' =
      (refl, entered_like g Alike one g.initial 0 0 nothing nothing c d nothing_like enters enters')
  runs_same _ _ (plain.starts c enters) _ _ (plain.goes_on j d f d' run' none' alone' leads') len fed fed' =
      absurd (omega (arith, len, length-append j (f ∷ []), some_events g j d run'))
  runs_same _ _ (plain.goes_on i c e c' run none alone leads) _ _ (plain.starts d enters') len fed fed' =
      absurd (omega (arith, len, length-append i (e ∷ []), some_events g i c run))
  runs_same _ _ (plain.goes_on i c e c' run none alone leads) _ _ (plain.goes_on j d f d' run' none' alone' leads') len fed fed' =
      let shorter : length i ≡ length j = omega (arith, len, length-append i (e ∷ []), length-append j (f ∷ [])) in
      let r = runs_same i c run j d run' shorter (unstarved_front i e fed) (unstarved_front j f fed') in
      let event : e ≡ f = event_same g i j c d c' d' e f single r.1.nodes (one_taken g i c run) alone alone' leads leads' fed fed' in
      ((λ k. r.0 k ++ event k ∷ []), leads_like g Alike one i j e c d c' d' r.1 leads (subst (λ h. Leads g j d h d') (sym event) leads'))

  answer_same : (i j : List Event) (c d : Config S B) → i ≡ j → AreLike g Alike c d → answer_of g.limit i c ≡ answer_of g.limit j d
  answer_same i j c d same like = (λ k. answer_of {S = S} {B = B} g.limit (same k) (record { nodes = like.nodes k; boxes = []; over = like.over k; full = like.full k }))

  -- the one run is no front of the other
  not_before : (i : List Event) (c : Config S B) → PlainRun g i c → (a : Answer) → answer_of g.limit i c ≡ Some a → (j : List Event) (d : Config S B) → PlainRun g j d → has_starve i ≡ false → has_starve j ≡ false → length i < length j → ⊥
  not_before i c run a ends j d other fed fed' less =
      let f = front g j d other (length i) (some_events g i c run) less in
      let r = runs_same i c run f.events f.config f.run (sym f.is_length) fed (f.unstarved fed') in
      let bad : Some a ≡ None = sym ends ∙ answer_same i f.events c f.config r.0 r.1 ∙ f.none in
      cc

  pub one_plain : (i : List Event) (c : Config S B) (j : List Event) (d : Config S B) → IsPlainRun g i c → IsPlainRun g j d → has_starve i ≡ false → has_starve j ≡ false → AreAlike Alike i c j d
  one_plain i c j d run other fed fed' =
      elim (cases_order (length i) (length j)) [
        | inl same ↦ (let r = runs_same i c run.0 j d other.0 same fed fed' in record { journals = r.0; nodes = r.1.nodes; over = r.1.over; full = r.1.full; boxes = r.1.boxes })
        | inr (inl less) ↦ absurd (not_before i c run.0 run.1.0 run.1.1 j d other.0 fed fed' less)
        | inr (inr more) ↦ absurd (not_before j d other.0 other.1.0 other.1.1 i c run.0 fed' fed more)
      ]
