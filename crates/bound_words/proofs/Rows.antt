-- Raising one word of a row by what a rule asks for keeps the row between the start and every closed row, and leaves a closed row as it is.
use Rattle.std.proofs.Common.{◌≡◌, ℕ, ◌^◌, ◌<◌, List, length, get_or, set, Some, sym, ap, ◌∙◌, subst, length-set}
use Rattle.std.proofs.lemmas.List.{set-get_or}
use Rattle.bound_words.specs.Rows.{Terms, IsPast, further, IsRow, IsRowPast, IsMonotone, AreMet, IsBetween}
use Rattle.bound_words.specs.Protocol.{Reaches}
use Rattle.bound_words.proofs.Directions.{past_refl, past_trans, past_left, past_least, further_here}
use Rattle.bound_words.proofs.Lists.{set_cases}

-- at each place, also outside the row
abbrev pub Advances : Terms → List ℕ → List ℕ → Type 0
Advances t a b = (w : ℕ) → IsPast (t.direction w) (get_or a w 0) (get_or b w 0)

module _ (t : Terms) where
  pub row_past_trans : (a b c : List ℕ) → IsRowPast t a b → IsRowPast t b c → IsRowPast t a c
  row_past_trans a b c p q w h = past_trans (t.direction w) (get_or a w 0) (get_or b w 0) (get_or c w 0) (p w h) (q w h)

  pub row_past_refl : (a : List ℕ) → IsRowPast t a a
  row_past_refl a w h = past_refl (t.direction w) (get_or a w 0)

  pub reaches_more : (known a b : List ℕ) → Reaches t known a → Advances t a b → Reaches t known b
  reaches_more known a b p q w h = past_trans (t.direction w) (get_or known w 0) (get_or a w 0) (get_or b w 0) (p w h) (q w)

  pub advances-set : (row : List ℕ) (i y : ℕ) → i < length row → IsPast (t.direction i) (get_or row i 0) y → Advances t row (set row i y)
  advances-set row i y h p = set_cases (λ w x. IsPast (t.direction w) (get_or row w 0) x) row i y h p (λ w ne. past_refl (t.direction w) (get_or row w 0))

  pub row-set : (row : List ℕ) (i y : ℕ) → IsRow t row → i < t.words → y < 2 ^ 64 → IsRow t (set row i y)
  row-set row i y r h fits = record {
    length_is = length-set row i y ∙ r.length_is;
    fits = set_cases (λ w x. w < t.words → x < 2 ^ 64) row i y (subst (λ (n : ℕ). i < n) (sym r.length_is) h) (λ _. fits) (λ w ne lt. r.fits w lt);
  }

  module _ (mono : IsMonotone t) (rule i x : ℕ) (loaded : List ℕ) (in_range : rule < t.rules) (is_loaded : IsRow t loaded) (asked : t.asks rule loaded ≡ Some (i, x)) where
    -- the value asked for is within each row past the loaded one on which the rule is met
    pub asked_within : (row : List ℕ) → IsRow t row → IsRowPast t loaded row → AreMet t row t.rules → IsPast (t.direction i) x (get_or row i 0)
    asked_within row is_row past met = let more = mono.grows rule loaded row i x in_range is_loaded is_row past asked in
        past_trans (t.direction i) x more.0 (get_or row i 0) more.2 (met rule i more.0 in_range more.1)

    pub between-raise : (start row : List ℕ) → IsRow t row → IsRowPast t loaded row → i < t.words → IsBetween t start row → IsBetween t start (set row i (further (t.direction i) (get_or row i 0) x))
    between-raise start row is_row past h b = let y : ℕ = further (t.direction i) (get_or row i 0) x in let inside : i < length row = subst (λ (n : ℕ). i < n) (sym is_row.length_is) h in
        let more = advances-set row i y inside (past_left (t.direction i) (get_or row i 0) x) in record {
          after_start = λ w lt. past_trans (t.direction w) (get_or start w 0) (get_or row w 0) (get_or (set row i y) w 0) (b.after_start w lt) (more w);
          before_closed = λ c closed from_start. let up = b.before_closed c closed from_start in
              let within = asked_within c closed.is_row (row_past_trans loaded row c past up) closed.met in
              set_cases (λ w z. w < t.words → IsPast (t.direction w) z (get_or c w 0)) row i y inside
              (λ lt. past_least (t.direction i) (get_or row i 0) x (get_or c i 0) (up i lt) within) (λ w ne lt. up w lt);
        }

    pub raise_stays : (row : List ℕ) → IsRow t row → IsRowPast t loaded row → AreMet t row t.rules → set row i (further (t.direction i) (get_or row i 0) x) ≡ row
    raise_stays row is_row past met = ap (set row i) (further_here (t.direction i) (get_or row i 0) x (asked_within row is_row past met)) ∙ set-get_or row i 0
