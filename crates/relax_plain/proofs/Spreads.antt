-- Steps of widening: none, one after another, of one fact, of one fluent.
use Rattle.std.proofs.Common.{◌≡◌, ℕ, ◌+◌, ◌<◌, ◌==◌, ◌||◌, Bool, true, false, cond, List, [], ◌∷◌, zero, suc, Some, length, get_or, set, take, slice_get, sym, refl, ap, ◌∙◌, subst, inl, inr, arith}
use Rattle.std.specs.List.{list_any, IsAmong}
use Rattle.std.proofs.lemmas.Bool.{and_from, cases_Bool, cases_eq, both_ways}
use Rattle.std.proofs.lemmas.List.{get_or-set_other}
use Rattle.num_ends.specs.Ends.{Interval, is_within, hull_of, lower_covers, upper_covers, whole_line}
use Rattle.num_ends.proofs.Members.{hull_inhabited, hull_least, within_hull_first, within_hull_second}
use Rattle.ground_task.specs.Tasks.{TaskValue}
use Rattle.ground_task.specs.declared.raw.Ground.{Ground}
use Rattle.box_model.specs.Boxes.{fact_in, fluent_in, may_be, AreEndsFor, IsBoxOf, IsEndFor, LiesWithin}
use Rattle.box_model.specs.Demands.{is_closed}
use Rattle.box_model.specs.declared.state_box.May.{May}
use Rattle.box_model.specs.declared.state_box.May.TheVariants.{Any}
use Rattle.box_model.specs.declared.state_box.StateBox.{StateBox}
use Rattle.relax_plain.specs.Marks.{is_marked, MarksMore}
use Rattle.relax_plain.specs.Potential.{potential}
use Rattle.relax_plain.specs.Reads.{asks, depends_on_fluent, AreReaders}
use Rattle.relax_plain.specs.Spread.{IsGrown, IsSpread}
use Rattle.std.proofs.lemmas.List.Folds.{list_all_more}
use Rattle.relax_plain.proofs.BoxLemmas.{box_refl, box_trans, fact_step, fluent_step, kept_may_lose_all, may_lose_all}
use Rattle.relax_plain.proofs.Widening.{IsLeastBox, IsLeastInterval}

pub grown_start : (t : TaskValue) (b : StateBox) → IsBoxOf t b → IsGrown t b b
grown_start t b a = record { a_box = a; wider = box_refl b; least = λ c i w k. w }

pub grown_trans : (t : TaskValue) (b c d : StateBox) → IsGrown t b c → IsGrown t c d → IsGrown t b d
grown_trans t b c d h k =
    record { a_box = k.a_box; wider = box_trans b c d h.wider k.wider; least = λ e i w s. k.least e i (h.least e i w s) s }

pub spread_same : (t : TaskValue) (b : StateBox) (m : List Bool) → IsBoxOf t b → IsSpread t b m b m
spread_same t b m a =
    record {
      grown = grown_start t b a;
      as_many = refl;
      unread = λ number g at clean. (clean, record { facts = λ f h. refl; fluents = λ x h. refl });
      progress = inl (refl, refl);
    }

pub spread_trans : (t : TaskValue) (b c d : StateBox) (m n o : List Bool) → IsSpread t b m c n → IsSpread t c n d o → IsSpread t b m d o
spread_trans t b c d m n o h k =
    record {
      grown = grown_trans t b c d h.grown k.grown;
      as_many = k.as_many ∙ h.as_many;
      unread = λ number a at clean.
          let second = k.unread number a at clean in
          let first = h.unread number a at second.0 in
          (first.0, record { facts = λ f r. second.1.facts f r ∙ first.1.facts f r; fluents = λ x r. second.1.fluents x r ∙ first.1.fluents x r });
      progress = elim h.progress [
        | inl same ↦ elim k.progress [
          | inl same' ↦ inl (same'.0 ∙ same.0, same'.1 ∙ same.1)
          | inr less ↦ inr (subst (λ (e : StateBox). potential t d < potential t e) same.0 less)
        ]
        | inr less ↦ elim k.progress [
          | inl same' ↦ inr (subst (λ (e : StateBox). potential t e < potential t b) (sym same'.0) less)
          | inr less' ↦ inr (omega arith)
        ]
      ];
    }

not_both : (v : Bool) → v ≡ true → v ≡ false → ⊥
not_both v h k = both_ways v k h

abbrev pub box_of : List May → List Interval → StateBox
box_of facts fluents = record { facts = facts; fluents = fluents }

-- ---- one fact

module _ (t : TaskValue) (b : StateBox) (m n : List Bool) (facts fluents : List (List ℕ)) (readers : AreReaders t facts fluents) (a_box : IsBoxOf t b) (as_many : length m ≡ length t.raw.actions) where
  in_list : (number : ℕ) (a : Ground) → slice_get t.raw.actions number ≡ Some a → number < length t.raw.actions
  in_list number a at = below t.raw.actions number a at
    where
      below : (xs : List Ground) (i : ℕ) (v : Ground) → slice_get xs i ≡ Some v → i < length xs
      below [] i v e = cc
      below (x ∷ xs) zero v e = omega arith
      below (x ∷ xs) (suc i) v e = omega (arith, below xs i v e)

  module _ (f : ℕ) (v : Bool) (known : f < length t.raw.facts) (more : MarksMore (get_or facts f []) m n) where
    known' : f < length b.facts
    known' = subst (λ (k : ℕ). f < k) (sym a_box.as_many_facts) known

    abbrev after : StateBox
    after = record { facts = set b.facts f Any; fluents = b.fluents }

    module _ (no : may_be (fact_in b f) v ≡ false)
        (asked : (c : StateBox) → IsBoxOf t c → LiesWithin b c → is_closed t c ≡ true → may_be (fact_in c f) v ≡ true)
        (progress : (c : StateBox) → LiesWithin b c → may_be (fact_in b f) v ≡ false → may_be (fact_in c f) v ≡ true → potential t c < potential t b) where
      pub fact_least : IsLeastBox t (λ c. may_be (fact_in c f) v) b after
      fact_least =
          subst (λ (w : May). IsLeastBox t (λ c. may_be (fact_in c f) v) b (record { facts = set b.facts f w; fluents = b.fluents }))
          (ap (λ (u : Bool). cond u (fact_in b f) Any) no) (fact_step t b f v known' a_box)

      pub fact_spread : IsSpread t b m after n
      fact_spread =
          record {
            grown = record { a_box = fact_least.a_box; wider = fact_least.wider; least = λ c i w k. fact_least.least c i w (asked c i w k) };
            as_many = more.as_many;
            unread = λ number a at clean. (
              elim (cases_Bool (is_marked m number)) [
                | inl marked ↦ absurd (not_both (is_marked n number) (more.kept number marked) clean)
                | inr unmarked ↦ unmarked
              ],
              record {
                facts = λ g r. elim (cases_eq g f) [
                  | inl e ↦ absurd (not_both (is_marked n number)
                      (more.marked number (readers.of_facts f number a known (in_list number a at) at (subst (λ (k : ℕ). asks k a.pre ≡ true) e r))) clean)
                  | inr e ↦ get_or-set_other b.facts f g Any Any e
                ];
                fluents = λ x r. refl;
              },
            );
            progress = inr (progress after fact_least.wider no fact_least.passes);
          }

  -- ---- one fluent

  module _ (x : ℕ) (ends : Interval) (known : x < length t.raw.fluents) (more : MarksMore (get_or fluents x []) m n) (fits : AreEndsFor (get_or t.places x 0) ends) where
    known'' : x < length b.fluents
    known'' = subst (λ (k : ℕ). x < k) (sym a_box.as_many_fluents) known

    abbrev i : Interval
    i = fluent_in b x

    abbrev wide : Interval
    wide = hull_of i ends

    abbrev pub extended : StateBox
    extended = record { facts = b.facts; fluents = set b.fluents x wide }

    wide_least : IsLeastInterval (get_or t.places x 0) (λ j. is_within ends j) i wide
    wide_least =
        let q = get_or t.places x 0 in
        record {
          an_interval = record {
            inhabited = hull_inhabited i ends (a_box.inhabited x known'');
            lower_fits = elim (lower_covers i.0 ends.0) as (λ v. IsEndFor q (cond v i.0 ends.0)) [ true ↦ a_box.lower_fits x known'' | false ↦ fits.0 ];
            upper_fits = elim (upper_covers i.1 ends.1) as (λ v. IsEndFor q (cond v i.1 ends.1)) [ true ↦ a_box.upper_fits x known'' | false ↦ fits.1 ];
          };
          wider = within_hull_first i ends;
          passes = within_hull_second i ends;
          least = λ j h w p. hull_least i ends j w p;
        }

    module _ (no : is_within ends i ≡ false)
        (asked : (c : StateBox) → IsBoxOf t c → LiesWithin b c → is_closed t c ≡ true → is_within ends (fluent_in c x) ≡ true)
        (progress : (c : StateBox) → LiesWithin b c → is_within ends (fluent_in b x) ≡ false → is_within ends (fluent_in c x) ≡ true → potential t c < potential t b) where
      pub fluent_least : IsLeastBox t (λ c. is_within ends (fluent_in c x)) b extended
      fluent_least = fluent_step t b x (λ j. is_within ends j) wide known'' a_box wide_least

      pub fluent_spread : IsSpread t b m extended n
      fluent_spread =
          record {
            grown = record { a_box = fluent_least.a_box; wider = fluent_least.wider; least = λ c k w s. fluent_least.least c k w (asked c k w s) };
            as_many = more.as_many;
            unread = λ number a at clean. (
              elim (cases_Bool (is_marked m number)) [
                | inl marked ↦ absurd (not_both (is_marked n number) (more.kept number marked) clean)
                | inr unmarked ↦ unmarked
              ],
              record {
                facts = λ g r. refl;
                fluents = λ y r. elim (cases_eq y x) [
                  | inl e ↦ absurd (not_both (is_marked n number)
                      (more.marked number (readers.of_fluents x number a known (in_list number a at) at (subst (λ (k : ℕ). depends_on_fluent k a ≡ true) e r))) clean)
                  | inr e ↦ get_or-set_other b.fluents x y wide whole_line e
                ];
              },
            );
            progress = inr (progress extended fluent_least.wider no fluent_least.passes);
          }

-- ---- as the code has them

pub get_again : {X : Type 0} (xs : List X) (k : ℕ) (d e : X) → k < length xs → get_or xs k d ≡ get_or xs k e
get_again [] k d e h = absurd (omega arith)
get_again (x ∷ xs) zero d e h = refl
get_again (x ∷ xs) (suc k) d e h = get_again xs k d e (omega arith)

pub known_numbers : (lists : List (List ℕ)) (at : ℕ) (slice : List ℕ) (bound : ℕ) → slice ≡ get_or lists at [] → ((n : ℕ) → IsAmong (get_or lists at []) n → n < bound) →
    (k d : ℕ) → k < length slice → get_or slice k d < bound
known_numbers lists at slice bound is known k d h =
    known (get_or slice k d) (subst (λ (xs : List ℕ). IsAmong xs (get_or slice k d)) is (k, (h, get_again slice k d (get_or slice k d) h)))

-- one deletion more, where the box and the marks are n and o now
pub deleted_step : (t : TaskValue) (adds dels : List ℕ) (b c d : StateBox) (m n o : List Bool) (i : ℕ) → i < length dels → IsSpread t b m c n → may_lose_all adds (take i dels) c ≡ true → IsSpread t c n d o →
    (list_any (λ g. g == get_or dels i 0) adds || may_be (fact_in d (get_or dels i 0)) false) ≡ true → IsSpread t b m d o × (may_lose_all adds (take (i + 1) dels) d ≡ true)
deleted_step t adds dels b c d m n o i h old met new this = (
  spread_trans t b c d m n o old new,
  list_all_more (λ f. list_any (λ g. g == f) adds || may_be (fact_in d f) false) dels i 0 h
      ∙ and_from _ _ ((kept_may_lose_all t adds (take i dels)).kept c d old.grown.a_box new.grown.wider met) this,
)
