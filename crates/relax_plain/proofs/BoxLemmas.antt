-- Steps to the least box.
use Rattle.std.proofs.Common.{◌≡◌, ℕ, ◌+◌, ◌<◌, Bool, true, false, cond, ◌&&◌, ◌||◌, ◌==◌, List, [], ◌∷◌, length, get_or, set, take, sym, refl, ◌∙◌, subst, inl, inr, arith, length-set, suc}
use Rattle.std.specs.List.{list_all, list_any}
use Rattle.std.proofs.lemmas.Bool.{and_parts, and_from, or_cases, or_left, or_right, cases_Bool, cases_eq}
use Rattle.std.proofs.lemmas.List.{get_or-set_same, get_or-set_other}
use Rattle.std.proofs.lemmas.List.Folds.{list_all_more}
use Rattle.num_ends.specs.Ends.{Interval, is_inhabited, is_within, whole_line}
use Rattle.num_ends.proofs.Members.{within_refl, within_trans}
use Rattle.ground_task.specs.Tasks.{TaskValue}
use Rattle.box_model.specs.Boxes.{fact_in, fluent_in, may_be, is_may_within, IsBoxOf, IsEndFor, LiesWithin}
use Rattle.box_model.specs.declared.state_box.May.{May}
use Rattle.box_model.specs.declared.state_box.May.TheVariants.{True, False, Any}
use Rattle.box_model.specs.declared.state_box.StateBox.{StateBox}
use Rattle.box_model.proofs.Monotony.{may_be_wider, fact_wider}
use Rattle.relax_plain.proofs.Widening.{IsLeastBox, IsLeastInterval}

-- ---- boxes in boxes

pub may_refl : (m : May) → is_may_within m m ≡ true
may_refl True = refl
may_refl False = refl
may_refl Any = refl

may_trans : (l m n : May) → is_may_within l m ≡ true → is_may_within m n ≡ true → is_may_within l n ≡ true
may_trans True True n h k = k
may_trans True False n h k = cc
may_trans True Any True h k = cc
may_trans True Any False h k = cc
may_trans True Any Any h k = refl
may_trans False True n h k = cc
may_trans False False n h k = k
may_trans False Any True h k = cc
may_trans False Any False h k = cc
may_trans False Any Any h k = refl
may_trans Any True n h k = cc
may_trans Any False n h k = cc
may_trans Any Any n h k = k

pub box_refl : (b : StateBox) → LiesWithin b b
box_refl b =
    record { as_many_facts = refl; as_many_fluents = refl; facts = λ f h. may_refl (fact_in b f); fluents = λ x h. within_refl (fluent_in b x) }

pub box_trans : (b c d : StateBox) → LiesWithin b c → LiesWithin c d → LiesWithin b d
box_trans b c d h k =
    record {
      as_many_facts = h.as_many_facts ∙ k.as_many_facts;
      as_many_fluents = h.as_many_fluents ∙ k.as_many_fluents;
      facts = λ f l. may_trans (fact_in b f) (fact_in c f) (fact_in d f) (h.facts f l) (k.facts f (subst (λ (n : ℕ). f < n) h.as_many_facts l));
      fluents = λ x l. within_trans (fluent_in b x) (fluent_in c x) (fluent_in d x) (h.fluents x l) (k.fluents x (subst (λ (n : ℕ). x < n) h.as_many_fluents l));
    }

-- ---- tests of boxes

-- what passes goes on passing in wider boxes
pub record IsKept (t : TaskValue) (test : StateBox → Bool) : Type 0 where
  pub kept : (b c : StateBox) → IsBoxOf t b → LiesWithin b c → test b ≡ true → test c ≡ true

pub kept_and : (t : TaskValue) (p q : StateBox → Bool) → IsKept t p → IsKept t q → IsKept t (λ b. p b && q b)
kept_and t p q h k =
    record { kept = λ b c a w e. let parts = and_parts (p b) (q b) e in and_from (p c) (q c) (h.kept b c a w parts.0) (k.kept b c a w parts.1) }

pub kept_all : {X : Type 0} (t : TaskValue) (test : StateBox → X → Bool) (xs : List X) → ((n : ℕ) (d : X) → n < length xs → IsKept t (λ b. test b (get_or xs n d))) → IsKept t (λ b. list_all (test b) xs)
kept_all t test [] each = record { kept = λ b c a w e. refl }
kept_all t test (x ∷ xs) each =
    record {
      kept = λ b c a w e.
          let parts = and_parts (test b x) (list_all (test b) xs) e in
          and_from (test c x) _ ((each 0 x (omega arith)).kept b c a w parts.0)
          ((kept_all t test xs (λ n d h. each (suc n) d (omega arith))).kept b c a w parts.1);
    }

pub kept_fact : (t : TaskValue) (f : ℕ) (truth : Bool) → IsKept t (λ b. may_be (fact_in b f) truth)
kept_fact t f truth = record { kept = λ b c a w e. may_be_wider (fact_in b f) (fact_in c f) truth (fact_wider b c w f) e }

pub kept_or : (t : TaskValue) (v : Bool) (p : StateBox → Bool) → IsKept t p → IsKept t (λ b. v || p b)
kept_or t v p h =
    record { kept = λ b c a w e. elim (or_cases v (p b) e) [ inl here ↦ or_left v (p c) here | inr there ↦ or_right v (p c) (h.kept b c a w there) ] }

-- ---- least boxes

pub least_start : (t : TaskValue) (test : StateBox → Bool) (b : StateBox) → IsBoxOf t b → test b ≡ true → IsLeastBox t test b b
least_start t test b a e = record { a_box = a; wider = box_refl b; passes = e; least = λ c i w p. w }

pub least_same : (t : TaskValue) (p q : StateBox → Bool) (b c : StateBox) → ((d : StateBox) → IsBoxOf t d → p d ≡ q d) → IsLeastBox t p b c → IsLeastBox t q b c
least_same t p q b c same h =
    record { a_box = h.a_box; wider = h.wider; passes = sym (same c h.a_box) ∙ h.passes; least = λ d a w e. h.least d a w (same d a ∙ e) }

pub least_both : (t : TaskValue) (p q : StateBox → Bool) (b c d : StateBox) → IsKept t p → IsLeastBox t p b c → IsLeastBox t q c d → IsLeastBox t (λ e. p e && q e) b d
least_both t p q b c d k h i =
    record {
      a_box = i.a_box;
      wider = box_trans b c d h.wider i.wider;
      passes = and_from (p d) (q d) (k.kept c d h.a_box i.wider h.passes) i.passes;
      least = λ e a w r. let parts = and_parts (p e) (q e) r in i.least e a (h.least e a w parts.0) parts.1;
    }

-- one more of a list of tests
pub least_more : {X : Type 0} (t : TaskValue) (test : StateBox → X → Bool) (xs : List X) (i : ℕ) (x : X) (b c d : StateBox) → IsKept t (λ e. list_all (test e) (take i xs)) → i < length xs →
    IsLeastBox t (λ e. list_all (test e) (take i xs)) b c → IsLeastBox t (λ e. test e (get_or xs i x)) c d → IsLeastBox t (λ e. list_all (test e) (take (i + 1) xs)) b d
least_more t test xs i x b c d kept h old new =
    least_same t (λ e. list_all (test e) (take i xs) && test e (get_or xs i x)) (λ e. list_all (test e) (take (i + 1) xs)) b d
    (λ e a. sym (list_all_more (test e) xs i x h))
    (least_both t (λ e. list_all (test e) (take i xs)) (λ e. test e (get_or xs i x)) b c d kept old new)

-- ---- one fact

module _ (t : TaskValue) (b : StateBox) (f : ℕ) (truth : Bool) (known : f < length b.facts) (a_box : IsBoxOf t b) where
  abbrev pub joined : May
  joined = cond (may_be (fact_in b f) truth) (fact_in b f) Any

  abbrev pub with_fact : StateBox
  with_fact = record { facts = set b.facts f joined; fluents = b.fluents }

  joined_wider : is_may_within (fact_in b f) joined ≡ true
  joined_wider =
      elim (may_be (fact_in b f) truth) as (λ v. is_may_within (fact_in b f) (cond v (fact_in b f) Any) ≡ true) [ true ↦ may_refl (fact_in b f) | false ↦ any_within (fact_in b f) ]
    where
      any_within : (m : May) → is_may_within m Any ≡ true
      any_within True = refl
      any_within False = refl
      any_within Any = refl

  joined_may : may_be joined truth ≡ true
  joined_may =
      elim (cases_Bool (may_be (fact_in b f) truth)) [
        | inl h ↦ rw h h
        | inr h ↦ rw h refl
      ]

  joined_least : (m : May) → is_may_within (fact_in b f) m ≡ true → may_be m truth ≡ true → is_may_within joined m ≡ true
  joined_least m w h = least (fact_in b f) m truth w h
    where
      least : (l m : May) (truth : Bool) → is_may_within l m ≡ true → may_be m truth ≡ true → is_may_within (cond (may_be l truth) l Any) m ≡ true
      least True m true w h = w
      least True True false w h = cc
      least True False false w h = cc
      least True Any false w h = refl
      least False True true w h = cc
      least False False true w h = cc
      least False Any true w h = refl
      least False m false w h = w
      least Any m truth w h = w

  here : fact_in with_fact f ≡ joined
  here = get_or-set_same b.facts f joined Any known

  there : (g : ℕ) → (g ≡ f → ⊥) → fact_in with_fact g ≡ fact_in b g
  there g other = get_or-set_other b.facts f g joined Any other

  pub fact_step : IsLeastBox t (λ c. may_be (fact_in c f) truth) b with_fact
  fact_step =
      record {
        a_box = record {
          as_many_facts = length-set b.facts f joined ∙ a_box.as_many_facts;
          as_many_fluents = a_box.as_many_fluents;
          inhabited = a_box.inhabited;
          lower_fits = a_box.lower_fits;
          upper_fits = a_box.upper_fits;
        };
        wider = record {
          as_many_facts = sym (length-set b.facts f joined);
          as_many_fluents = refl;
          facts = λ g h. elim (cases_eq g f) [
            | inl e ↦ subst (λ (n : ℕ). is_may_within (fact_in b n) (fact_in with_fact n) ≡ true) (sym e) (rw here joined_wider)
            | inr n ↦ rw (there g n) (may_refl (fact_in b g))
          ];
          fluents = λ x h. within_refl (fluent_in b x);
        };
        passes = rw here joined_may;
        least = λ c a w e. record {
          as_many_facts = length-set b.facts f joined ∙ w.as_many_facts;
          as_many_fluents = w.as_many_fluents;
          facts = λ g h. elim (cases_eq g f) [
            | inl s ↦ subst (λ (n : ℕ). is_may_within (fact_in with_fact n) (fact_in c n) ≡ true) (sym s) (rw here (joined_least (fact_in c f) (w.facts f known) e))
            | inr n ↦ rw (there g n) (w.facts g (subst (λ (k : ℕ). g < k) (length-set b.facts f joined) h))
          ];
          fluents = w.fluents;
        };
      }

-- ---- one fluent

module _ (t : TaskValue) (b : StateBox) (x : ℕ) (test : Interval → Bool) (w : Interval) (known : x < length b.fluents) (a_box : IsBoxOf t b)
    (step : IsLeastInterval (get_or t.places x 0) test (fluent_in b x) w) where
  abbrev pub with_fluent : StateBox
  with_fluent = record { facts = b.facts; fluents = set b.fluents x w }

  at : fluent_in with_fluent x ≡ w
  at = get_or-set_same b.fluents x w whole_line known

  off : (y : ℕ) → (y ≡ x → ⊥) → fluent_in with_fluent y ≡ fluent_in b y
  off y other = get_or-set_other b.fluents x y w whole_line other

  old : (y : ℕ) → y < length (set b.fluents x w) → y < length b.fluents
  old y h = subst (λ (k : ℕ). y < k) (length-set b.fluents x w) h

  pub fluent_step : IsLeastBox t (λ c. test (fluent_in c x)) b with_fluent
  fluent_step =
      record {
        a_box = record {
          as_many_facts = a_box.as_many_facts;
          as_many_fluents = length-set b.fluents x w ∙ a_box.as_many_fluents;
          inhabited = λ y h. elim (cases_eq y x) [
            | inl e ↦ subst (λ (n : ℕ). is_inhabited (fluent_in with_fluent n).0 (fluent_in with_fluent n).1 ≡ true) (sym e) (rw at step.an_interval.inhabited)
            | inr n ↦ rw (off y n) (a_box.inhabited y (old y h))
          ];
          lower_fits = λ y h. elim (cases_eq y x) [
            | inl e ↦ subst (λ (n : ℕ). IsEndFor (get_or t.places n 0) (fluent_in with_fluent n).0) (sym e) (rw at step.an_interval.lower_fits)
            | inr n ↦ rw (off y n) (a_box.lower_fits y (old y h))
          ];
          upper_fits = λ y h. elim (cases_eq y x) [
            | inl e ↦ subst (λ (n : ℕ). IsEndFor (get_or t.places n 0) (fluent_in with_fluent n).1) (sym e) (rw at step.an_interval.upper_fits)
            | inr n ↦ rw (off y n) (a_box.upper_fits y (old y h))
          ];
        };
        wider = record {
          as_many_facts = refl;
          as_many_fluents = sym (length-set b.fluents x w);
          facts = λ g h. may_refl (fact_in b g);
          fluents = λ y h. elim (cases_eq y x) [
            | inl e ↦ subst (λ (n : ℕ). is_within (fluent_in b n) (fluent_in with_fluent n) ≡ true) (sym e) (rw at step.wider)
            | inr n ↦ rw (off y n) (within_refl (fluent_in b y))
          ];
        };
        passes = rw at step.passes;
        least = λ c a v e. record {
          as_many_facts = v.as_many_facts;
          as_many_fluents = length-set b.fluents x w ∙ v.as_many_fluents;
          facts = v.facts;
          fluents = λ y h. elim (cases_eq y x) [
            | inl s ↦ subst (λ (n : ℕ). is_within (fluent_in with_fluent n) (fluent_in c n) ≡ true) (sym s)
                (rw at (step.least (fluent_in c x) (a.inhabited x (subst (λ (k : ℕ). x < k) v.as_many_fluents known)) (v.fluents x known) e))
            | inr n ↦ rw (off y n) (v.fluents y (old y h))
          ];
        };
      }

-- ---- facts of an action

abbrev pub may_be_all : List ℕ → StateBox → Bool
may_be_all adds b = list_all (λ f. may_be (fact_in b f) true) adds

pub kept_may_be_all : (t : TaskValue) (adds : List ℕ) → IsKept t (may_be_all adds)
kept_may_be_all t adds = kept_all t (λ b f. may_be (fact_in b f) true) adds (λ n d h. kept_fact t (get_or adds n d) true)

-- each of these facts is listed, or may be false
abbrev pub may_lose_all : List ℕ → List ℕ → StateBox → Bool
may_lose_all adds dels b = list_all (λ f. list_any (λ g. g == f) adds || may_be (fact_in b f) false) dels

pub kept_may_lose_all : (t : TaskValue) (adds dels : List ℕ) → IsKept t (may_lose_all adds dels)
kept_may_lose_all t adds dels =
    kept_all t (λ b f. list_any (λ g. g == f) adds || may_be (fact_in b f) false) dels
    (λ n d h. kept_or t (list_any (λ g. g == get_or dels n d) adds) (λ b. may_be (fact_in b (get_or dels n d)) false) (kept_fact t (get_or dels n d) false))
