-- What a whole sweep says of the row that the seat had seen before.
use Rattle.std.proofs.Common.{◌≡◌, ◌≢◌, ℕ, ◌<◌, List, length, get_or, sym, ap, ◌∙◌, subst, ⊎_elim, arith, take_all}
use Rattle.bound_words.specs.declared.view.View.{View}
use Rattle.bound_words.specs.Rows.{Terms, IsPast, IsRow, IsRowPast, IsMonotone}
use Rattle.bound_words.specs.Sweeps.{asking, AreSeen, IsMoved}
use Rattle.bound_words.specs.Turns.{IsLoadedTo, IsRaisedFor}
use Rattle.bound_words.proofs.Directions.{past_trans, past_same}

module _ (t : Terms) (v₀ v₁ v₂ v₃ : View) (row : List ℕ) (wide : length row ≡ t.words) (before : v₁.seen ≡ v₀.seen) (loaded : IsLoadedTo t v₁ row t.words v₂) (raised : IsRaisedFor t row v₂ t.rules v₃) where
  row_is_row : IsRow t row
  row_is_row = record { length_is = wide; fits = λ w h. subst (λ (z : ℕ). z < 18446744073709551616) (loaded.here w h) (loaded.seen_row.fits w h) }

  seen_to_row : IsRowPast t v₀.seen row
  seen_to_row w h = subst (λ (l : List ℕ). IsPast (t.direction w) (get_or l w 0) (get_or row w 0)) before (loaded.past w h)

  loaded_is : v₃.loaded ≡ row
  loaded_is = ap (λ (u : View). u.loaded) raised.same ∙ (ap (λ (u : View). u.loaded) loaded.same ∙ take_all t.words row (omega arith))

  pub sweep_asked : IsMonotone t → IsRow t v₀.seen → AreSeen t v₃.loaded v₃.seen t.rules × AreSeen t v₀.seen v₃.seen t.rules
  sweep_asked mono is_row = (
    subst (λ (l : List ℕ). AreSeen t l v₃.seen t.rules) (sym loaded_is) raised.asked,
    λ rule w x h asks. let more = mono.grows rule v₀.seen row w x h is_row row_is_row seen_to_row asks in
        past_trans (t.direction w) x more.0 (get_or v₃.seen w 0) more.2 (raised.asked rule w more.0 h more.1),
  )

  moved_before : IsMoved t row v₃.seen → IsMoved t v₀.seen v₃.seen
  moved_before m = let w = m.0 in let h = m.1 in let d = t.direction w in let a : ℕ = get_or v₀.seen w 0 in let b : ℕ = get_or row w 0 in let c : ℕ = get_or v₃.seen w 0 in
      (w, h, past_trans d a b c (seen_to_row w h) m.2, λ e. m.3 (past_same d b c m.2 (subst (λ (z : ℕ). IsPast d z b) e (seen_to_row w h))))

  pub sweep_moves : (done begun : ℕ) → v₁.begun ≡ v₀.begun → done ≡ v₀.begun → begun ≡ v₃.begun → begun ≢ done → IsMoved t v₀.seen v₃.seen
  sweep_moves done begun same at_start at_end apart = let c = raised.counted in let e = ap (λ (u : View). u.begun) loaded.same in
      ⊎_elim (λ (p : (asking t row t.rules ≡ 0) × (v₃.seen ≡ row)). absurd (apart (let none = p.0 in omega arith))) (λ (p : (v₃.mark < v₃.latest) × IsMoved t row v₃.seen). moved_before p.1) raised.found
