-- What a seat knows after a look at a row, and after several.
use Rattle.std.proofs.Common.{◌≡◌, ◌≢◌, ℕ, suc, ◌+◌, Bool, List, [], ◌∷◌, cond, Contains, eqb, eq-eqb, ne_eqb, Some, sym, refl, ap, ◌∙◌, subst, inl, inr, ⊎_elim, arith}
use Rattle.std.proofs.lemmas.List.Elements.{Contains-append_right}
use mathlib.Core.Logic.{dite}
use native.Mathlib.Decide.{ℕ_discrete}
use Rattle.ground_task.specs.States.{StateValue}
use Rattle.ground_task.specs.Tasks.{TaskValue}
use Rattle.word_rows.specs.declared.view.Line.{Line}
use Rattle.word_rows.specs.declared.view.View.{View}
use Rattle.word_rows.specs.Views.{line, missed, learnt, Knows, times, first_found, first_words, words_known}
use Rattle.dead_rows.specs.Knowledge.{IsLater}
use Rattle.dead_rows.specs.Looks.{WasNotReady, WasReady, IsPassed, ArePassed, HasLooked}

pub known_later : (known : List Line) (x y : Line) → Contains known x → Contains (y ∷ known) x
known_later known x y c = Contains-append_right (y ∷ []) known x c

pub later_refl : (v : View) → IsLater v v
later_refl v = record { claims = refl; knows = λ row words c. c; loads = λ row. omega arith }

pub later_trans : (u v w : View) → IsLater u v → IsLater v w → IsLater u w
later_trans u v w a b = record { claims = b.claims ∙ a.claims; knows = λ row words c. b.knows row words (a.knows row words c); loads = λ row. let x = a.loads row in let y = b.loads row in omega arith }

other : (row q n : ℕ) → q ≢ row → cond (eqb row q) 1 0 + n ≡ n
other row q n ne = let e : ◌≡◌ {A = ℕ} (cond (eqb row q) 1 0) 0 = ap (λ (b : Bool). cond b 1 0) (ne_eqb row q (λ e. ne (sym e))) in omega arith

here : (row n : ℕ) → cond (eqb row row) 1 0 + n ≡ suc n
here row n = let e : ◌≡◌ {A = ℕ} (cond (eqb row row) 1 0) 1 = ap (λ (b : Bool). cond b 1 0) (eq-eqb row row refl) in omega arith

pub looked_missed : (v : View) (row : ℕ) → HasLooked v (missed v row) row
looked_missed v row = record {
  later = record { claims = refl; knows = λ r words c. c; loads = λ r. omega arith };
  other_loads = λ q ne. ap (λ (n : ℕ). n + times q v.others) (other row q (times q v.loads) ne);
  other_last = λ q ne. ap (λ (b : Bool). cond b (Some 0) (first_found q v.loads)) (ne_eqb row q (λ e. ne (sym e)));
}

pub looked_learnt : (v : View) (row : ℕ) (words : List ℕ) → HasLooked v (learnt v row words) row
looked_learnt v row words = record {
  later = record { claims = refl; knows = λ r words' c. known_later v.known (line r words') (line row words) c; loads = λ r. omega arith };
  other_loads = λ q ne. ap (λ (n : ℕ). n + times q v.others) (other row q (times q v.loads) ne);
  other_last = λ q ne. ap (λ (b : Bool). cond b (Some 1) (first_found q v.loads)) (ne_eqb row q (λ e. ne (sym e)));
}

pub missed_is : (v : View) (row : ℕ) → ((words : List ℕ) → Knows v row words → ⊥) → WasNotReady v (missed v row) row
missed_is v row unknown = record {
  loaded = let e = here row (times row v.loads) in omega arith;
  last = ap (λ (b : Bool). cond b (Some 0) (first_found row v.loads)) (eq-eqb row row refl);
  unknown = unknown;
}

pub learnt_is : (v : View) (row : ℕ) (words : List ℕ) → WasReady v (learnt v row words) row
learnt_is v row words = record {
  loaded = let e = here row (times row v.loads) in omega arith;
  last = ap (λ (b : Bool). cond b (Some 1) (first_found row v.loads)) (eq-eqb row row refl);
}

pub ready_since : (v0 v w : View) (row : ℕ) → IsLater v0 v → WasReady v w row → WasReady v0 w row
ready_since v0 v w row before ready = record { loaded = let a = before.loads row in let b = ready.loaded in omega arith; last = ready.last }

-- the words of a row that was just learnt
pub learnt_words : (v : View) (row : ℕ) (words : List ℕ) → words_known (learnt v row words) row ≡ words
learnt_words v row words = ap (λ (b : Bool). cond b words (first_words row v.known)) (eq-eqb row row refl)

pub learnt_known : (v : View) (row : ℕ) (words : List ℕ) → Knows (learnt v row words) row (words_known (learnt v row words) row)
learnt_known v row words = subst (λ (ws : List ℕ). Knows (learnt v row words) row ws) (sym (learnt_words v row words)) (0, (omega arith), refl)

module _ (t : TaskValue) (s : StateValue) where
  -- what was passed stays so after a look at another row
  stays : (v0 v w : View) (row q : ℕ) → HasLooked v w row → q ≢ row → IsPassed t s v0 v q → IsPassed t s v0 w q
  stays v0 v w row q h ne passed = ⊎_elim (λ t. inl (t.0, h.later.knows q _ t.1, t.2))
      (λ p. inr record {
        loaded = let a = p.loaded in let b = h.other_loads q ne in omega arith;
        last = h.other_last q ne ∙ p.last;
        unknown = p.unknown;
      }) passed

  pub passed_before : (v0 v w : View) (row : ℕ) → HasLooked v w row → ArePassed t s v0 v row → ArePassed t s v0 w row
  passed_before v0 v w row h passed q lt = stays v0 v w row q h (λ e. omega arith) (passed q lt)

  -- seen from an earlier view
  pub passed_since : (v0 v w : View) (row : ℕ) → IsLater v0 v → IsPassed t s v w row → IsPassed t s v0 w row
  passed_since v0 v w row before passed = ⊎_elim inl (λ p. inr record {
    loaded = let a = before.loads row in let b = p.loaded in omega arith;
    last = p.last;
    unknown = λ words c. p.unknown words (before.knows row words c);
  }) passed

  pub passed_next : (v0 v w : View) (row : ℕ) → IsLater v0 v → HasLooked v w row → ArePassed t s v0 v row → IsPassed t s v w row → ArePassed t s v0 w (row + 1)
  passed_next v0 v w row before h passed one q lt = dite (ℕ_discrete q row)
      (λ e. subst (IsPassed t s v0 w) (sym e) (passed_since v0 v w row before one))
      (λ ne. passed_before v0 v w row h passed q (omega arith))

  pub none_passed : (v0 v : View) → ArePassed t s v0 v 0
  none_passed v0 v q lt = absurd (omega arith)
