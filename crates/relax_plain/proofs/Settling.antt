-- What an applied action demands, and what stays met while the box grows.
use Rattle.std.proofs.Common.{◌≡◌, ℕ, zero, suc, ◌+◌, ◌*◌, ◌<◌, ◌≤◌, ◌⊎◌, ◌==◌, ◌&&◌, ◌||◌, Bool, true, false, not, cond, List, [], ◌∷◌, Some, length, get_or, set, take, count_by, slice_get, sym, refl, ap, ap₂, ◌∙◌, subst, inl, inr, arith}
use Rattle.std.specs.List.{list_all, list_any}
use Rattle.std.proofs.lemmas.Bool.{and_parts, and_from, cases_eq, or_right}
use Rattle.std.specs.List.{sum_by}
use Rattle.std.proofs.lemmas.List.Sums.{count_by-le-length, sum_by-set}
use Rattle.std.proofs.Math.Nat.{mul-le-mul_right, suc-mul}
use Rattle.std.proofs.lemmas.List.{get_or-set_other}
use Rattle.std.proofs.lemmas.List.Folds.{list_all_more}
use Rattle.num_ends.proofs.Members.{has_within}
use Rattle.ground_task.specs.Meaning.{fluent_value}
use Rattle.ground_task.specs.States.{StateValue}
use Rattle.ground_task.specs.Tasks.{TaskValue}
use Rattle.ground_task.specs.declared.raw.Change.{Change}
use Rattle.ground_task.specs.declared.raw.Ground.{Ground}
use Rattle.box_model.specs.Boxes.{fact_in, fluent_in, may_be, Contains, IsBoxOf, LiesWithin}
use Rattle.box_model.specs.Demands.{is_closed, is_unmet, meets, meets_change, meets_demand}
use Rattle.box_model.specs.Hold.{may_hold}
use Rattle.box_model.specs.Least.{IsLeastClosed}
use Rattle.box_model.specs.declared.state_box.StateBox.{StateBox}
use Rattle.box_model.proofs.Closed.{closed_at, met_where_it_may}
use Rattle.box_model.proofs.ReadLemmas.{all_fit}
use Rattle.box_model.proofs.Monotony.{hold_wider, fluent_wider, may_be_wider}
use Rattle.relax_plain.specs.Marks.{is_marked, IsSettled}
use Rattle.relax_plain.specs.Potential.{potential}
use Rattle.relax_plain.specs.Reads.{is_used}
use Rattle.relax_plain.specs.Spread.{IsApplied, IsGrown, IsSpread, ReadsTheSame}
use Rattle.relax_plain.proofs.BoxLemmas.{box_trans, kept_may_be_all, kept_may_lose_all, may_be_all, may_lose_all}
use Rattle.relax_plain.proofs.DemandLemmas.{demand_kept, demand_less}
use Rattle.relax_plain.proofs.Potentials.{Among, among_at}
use Rattle.relax_plain.proofs.SameReads.{same_demand, same_precondition}
use Rattle.std.proofs.lemmas.Bool.{or_left}

all_get : {X : Type 0} (test : X → Bool) (xs : List X) (i : ℕ) (d : X) → list_all test xs ≡ true → i < length xs → test (get_or xs i d) ≡ true
all_get test [] i d h k = absurd (omega arith)
all_get test (x ∷ xs) zero d h k = (and_parts (test x) _ h).0
all_get test (x ∷ xs) (suc i) d h k = all_get test xs i d (and_parts (test x) _ h).1 (omega arith)

pub any_get : {X : Type 0} (test : X → Bool) (xs : List X) (x : X) → Among x xs → test x ≡ true → list_any test xs ≡ true
any_get test [] x h k = absurd h
any_get test (y ∷ ys) x h k = elim h [ inl here ↦ or_left (test y) _ (subst (λ z. test z ≡ true) here k) | inr later ↦ or_right (test y) _ (any_get test ys x later k) ]

-- ---- an action that may be applied in b, and a closed box c around a box d around b

module _ (t : TaskValue) (number : ℕ) (a : Ground) (b : StateBox) (a_box : IsBoxOf t b) (applied : IsApplied t number a b) where
  met_in_closed : (c : StateBox) → IsBoxOf t c → LiesWithin b c → is_closed t c ≡ true → meets t.places c a ≡ true
  met_in_closed c i w closed =
      met_where_it_may t c a (closed_at t c t.raw.actions number a closed applied.is_action)
      (hold_wider t.places b c w (all_fit t b a_box) (all_fit t c i) a_box.inhabited a.pre applied.may_hold)

  module _ (c : StateBox) (c_box : IsBoxOf t c) (w : LiesWithin b c) (closed : is_closed t c ≡ true) where
    met_all : meets t.places c a ≡ true
    met_all = met_in_closed c c_box w closed

    pub added_in_closed : (i : ℕ) → i < length a.adds → may_be (fact_in c (get_or a.adds i 0)) true ≡ true
    added_in_closed i h =
        let first = and_parts (may_be_all a.adds c && may_lose_all a.adds a.dels c) _ met_all in
        all_get (λ f. may_be (fact_in c f) true) a.adds i 0 (and_parts (may_be_all a.adds c) _ first.0).0 h

    pub deleted_in_closed : (i : ℕ) → i < length a.dels → list_any (λ g. g == get_or a.dels i 0) a.adds ≡ false → may_be (fact_in c (get_or a.dels i 0)) false ≡ true
    deleted_in_closed i h unlisted =
        let first = and_parts (may_be_all a.adds c && may_lose_all a.adds a.dels c) _ met_all in
        let at = all_get (λ f. list_any (λ g. g == f) a.adds || may_be (fact_in c f) false) a.dels i 0 (and_parts (may_be_all a.adds c) _ first.0).1 h in
        subst (λ (v : Bool). (v || may_be (fact_in c (get_or a.dels i 0)) false) ≡ true) unlisted at

    pub changed_in_closed : (d : StateBox) → IsBoxOf t d → LiesWithin d c → (i : ℕ) (e : ℕ × Change) → i < length a.nums → e ≡ get_or a.nums i e →
        meets_demand t.places d a.pre e.0 e.1 (fluent_in c e.0) ≡ true
    changed_in_closed d d_box v i e h is =
        let first = and_parts (may_be_all a.adds c && may_lose_all a.adds a.dels c) _ met_all in
        demand_less t d c a.pre e.0 e.1 (fluent_in c e.0) d_box c_box v
        (subst (λ (p : ℕ × Change). meets_change t.places c a.pre p.0 p.1 ≡ true) (sym is) (all_get (λ effect. meets_change t.places c a.pre effect.0 effect.1) a.nums i e first.1 h))

-- it may be applied in a wider box too
pub applied_wider : (t : TaskValue) (number : ℕ) (a : Ground) (b c : StateBox) → IsBoxOf t b → IsBoxOf t c → LiesWithin b c → IsApplied t number a b → IsApplied t number a c
applied_wider t number a b c i j w h =
    record { is_action = h.is_action; may_hold = hold_wider t.places b c w (all_fit t b i) (all_fit t c j) i.inhabited a.pre h.may_hold }

-- ---- what stays met

change_stays : (t : TaskValue) (a : Ground) (b c : StateBox) → LiesWithin b c → ReadsTheSame a b c → (e : ℕ × Change) → Among e a.nums →
    meets_change t.places b a.pre e.0 e.1 ≡ true → meets_change t.places c a.pre e.0 e.1 ≡ true
change_stays t a b c w same e of h =
    same_demand t.places b c a.pre e.0 e.1 (fluent_in c e.0) (λ y used. same.fluents y (or_right _ _ (any_get (is_used y) a.nums e of used)))
    ∙ demand_kept t.places b a.pre e.0 e.1 (fluent_in b e.0) (fluent_in c e.0) (fluent_wider b c w e.0) h

pub changes_stay : (t : TaskValue) (a : Ground) (b c : StateBox) → LiesWithin b c → ReadsTheSame a b c → (es : List (ℕ × Change)) → ((e : ℕ × Change) → Among e es → Among e a.nums) →
    list_all (λ effect. meets_change t.places b a.pre effect.0 effect.1) es ≡ true → list_all (λ effect. meets_change t.places c a.pre effect.0 effect.1) es ≡ true
changes_stay t a b c w same [] of h = refl
changes_stay t a b c w same (e ∷ es) of h =
    let parts = and_parts (meets_change t.places b a.pre e.0 e.1) _ h in
    and_from _ _ (change_stays t a b c w same e (of e (inl refl)) parts.0) (changes_stay t a b c w same es (λ f k. of f (inr k)) parts.1)

pub meets_stays : (t : TaskValue) (a : Ground) (b c : StateBox) → IsBoxOf t b → LiesWithin b c → ReadsTheSame a b c → meets t.places b a ≡ true → meets t.places c a ≡ true
meets_stays t a b c a_box w same h =
    let first = and_parts (may_be_all a.adds b && may_lose_all a.adds a.dels b) _ h in
    let second = and_parts (may_be_all a.adds b) _ first.0 in
    and_from _ _
    (and_from _ _ ((kept_may_be_all t a.adds).kept b c a_box w second.0) ((kept_may_lose_all t a.adds a.dels).kept b c a_box w second.1))
    (changes_stay t a b c w same a.nums (λ e k. k) first.1)

unmet_parts : (may met : Bool) → (may && not met) ≡ false → may ≡ true → met ≡ true
unmet_parts true true h k = refl
unmet_parts true false h k = cc
unmet_parts false met h k = cc

unmet_from : (may met : Bool) → (may ≡ true → met ≡ true) → (may && not met) ≡ false
unmet_from true met h = ap not (h refl)
unmet_from false met h = refl

pub unmet_stays : (t : TaskValue) (a : Ground) (b c : StateBox) → IsBoxOf t b → LiesWithin b c → ReadsTheSame a b c → is_unmet t.places b a ≡ false → is_unmet t.places c a ≡ false
unmet_stays t a b c a_box w same h =
    unmet_from (may_hold t.places c a.pre) (meets t.places c a) (λ k.
    meets_stays t a b c a_box w same (unmet_parts (may_hold t.places b a.pre) (meets t.places b a) h (sym (same_precondition t.places b c a same) ∙ k)))

-- ---- the loop over effects

among_take : {X : Type 0} (i : ℕ) (xs : List X) (x : X) → Among x (take i xs) → Among x xs
among_take zero xs x h = absurd h
among_take (suc i) [] x h = absurd h
among_take (suc i) (y ∷ ys) x h = elim h [ inl here ↦ inl here | inr later ↦ inr (among_take i ys x later) ]

-- one more effect is met after a step
pub one_more : (t : TaskValue) (number : ℕ) (a : Ground) (b c : StateBox) (m n : List Bool) (i : ℕ) (e : ℕ × Change) → slice_get t.raw.actions number ≡ Some a → IsSpread t b m c n →
    i < length a.nums → e ≡ get_or a.nums i e → meets_demand t.places b a.pre e.0 e.1 (fluent_in c e.0) ≡ true →
    (is_marked m number ≡ false → list_all (λ effect. meets_change t.places b a.pre effect.0 effect.1) (take i a.nums) ≡ true) →
    is_marked n number ≡ false → list_all (λ effect. meets_change t.places c a.pre effect.0 effect.1) (take (i + 1) a.nums) ≡ true
one_more t number a b c m n i e at spread h is now before clean =
    let same = spread.unread number a at clean in
    let of : Among e a.nums = subst (λ p. Among p a.nums) (sym is) (among_at a.nums i e h) in
    let this : meets_change t.places c a.pre e.0 e.1 ≡ true =
    same_demand t.places b c a.pre e.0 e.1 (fluent_in c e.0) (λ y used. same.1.fluents y (or_right _ _ (any_get (is_used y) a.nums e of used))) ∙ now in
    list_all_more (λ effect. meets_change t.places c a.pre effect.0 effect.1) a.nums i e h
    ∙ and_from _ _ (changes_stay t a b c spread.grown.wider same.1 (take i a.nums) (among_take i a.nums) (before same.0))
    (subst (λ (p : ℕ × Change). meets_change t.places c a.pre p.0 p.1 ≡ true) is this)

-- all demands of the action are met
pub all_met : (t : TaskValue) (a : Ground) (b c d : StateBox) → IsBoxOf t b → IsBoxOf t c → LiesWithin b c → LiesWithin c d → may_be_all a.adds b ≡ true → may_lose_all a.adds a.dels c ≡ true →
    list_all (λ effect. meets_change t.places d a.pre effect.0 effect.1) a.nums ≡ true → is_unmet t.places d a ≡ false
all_met t a b c d b_box c_box v w added lost changed =
    unmet_from (may_hold t.places d a.pre) (meets t.places d a) (λ k.
    and_from _ _ (and_from _ _ ((kept_may_be_all t a.adds).kept b d b_box (box_trans b c d v w) added) ((kept_may_lose_all t a.adds a.dels).kept c d c_box w lost)) changed)

-- ---- the loop over marked actions

abbrev pub marked : List Bool → ℕ
marked marks = count_by (λ v. v) marks

-- what the loop has left to do
abbrev pub work_left : TaskValue → StateBox → List Bool → ℕ
work_left t b marks = potential t b * (length t.raw.actions + 1) + marked marks

marked_most : (marks : List Bool) → marked marks ≤ length marks
marked_most marks = count_by-le-length (λ v. v) marks

marked_set : (marks : List Bool) (n : ℕ) → n < length marks → is_marked marks n ≡ true → marked (set marks n false) + 1 ≡ marked marks
marked_set marks n h k =
    let weight : Bool → ℕ = λ v. cond v 1 0 in
    let change : sum_by weight (set marks n false) + weight (get_or marks n false) ≡ sum_by weight marks + weight false =
    sum_by-set weight marks n false false h in
    let one : weight (get_or marks n false) ≡ 1 = ap weight k in
    omega arith

products : (p q k : ℕ) → p < q → p * k + k ≤ q * k
products p q k h =
    let more : suc p * k ≤ q * k = mul-le-mul_right k h in
    omega (arith, more, suc-mul p k)

pub less_work : (t : TaskValue) (b c : StateBox) (m n o : List Bool) (number : ℕ) → length m ≡ length t.raw.actions → number < length m → is_marked m number ≡ true → n ≡ set m number false →
    length o ≡ length n → length n ≡ length m → ((c ≡ b) × (o ≡ n)) ⊎ (potential t c < potential t b) → work_left t c o < work_left t b m
less_work t b c m n o number many known mark is many' many'' progress =
    let one : marked n + 1 ≡ marked m = subst (λ ms. marked ms + 1 ≡ marked m) (sym is) (marked_set m number known mark) in
    elim progress [
      | inl same ↦
          let e : potential t c ≡ potential t b = ap (potential t) same.0 in
          let f : marked o ≡ marked n = ap marked same.1 in
          let g : work_left t c o ≡ potential t b * (length t.raw.actions + 1) + marked n = ap₂ (λ (p k : ℕ). p * (length t.raw.actions + 1) + k) e f in
          omega (arith, one, g)
      | inr less ↦ omega (arith, products (potential t c) (potential t b) (length t.raw.actions + 1) less, marked_most o)
    ]

pub settled_step : (t : TaskValue) (b c : StateBox) (m n o : List Bool) (number : ℕ) → IsBoxOf t b → IsSettled t b m → n ≡ set m number false → IsSpread t b n c o →
    ((a : Ground) → slice_get t.raw.actions number ≡ Some a → is_marked o number ≡ false → is_unmet t.places c a ≡ false) → IsSettled t c o
settled_step t b c m n o number a_box settled is spread met other a at clean =
    elim (cases_eq other number) [
      | inl e ↦ met a (subst (λ (k : ℕ). slice_get t.raw.actions k ≡ Some a) e at) (subst (λ (k : ℕ). is_marked o k ≡ false) e clean)
      | inr e ↦
          let same = spread.unread other a at clean in
          let was : is_marked m other ≡ false = sym (get_or-set_other m number other false false e) ∙ ap (λ ms. is_marked ms other) (sym is) ∙ same.0 in
          unmet_stays t a b c a_box spread.grown.wider same.1 (settled other a at was)
    ]

-- ---- the end

pub in_list : (xs : List Ground) (i : ℕ) (v : Ground) → slice_get xs i ≡ Some v → i < length xs
in_list [] i v e = cc
in_list (x ∷ xs) zero v e = omega arith
in_list (x ∷ xs) (suc i) v e = omega (arith, in_list xs i v e)

all_at : {X : Type 0} (test : X → Bool) (xs : List X) → ((n : ℕ) (x : X) → slice_get xs n ≡ Some x → test x ≡ true) → list_all test xs ≡ true
all_at test [] each = refl
all_at test (x ∷ xs) each = and_from (test x) _ (each 0 x refl) (all_at test xs (λ n y e. each (suc n) y e))

pub all_closed : (t : TaskValue) (b : StateBox) (marks : List Bool) → IsSettled t b marks → ((number : ℕ) → is_marked marks number ≡ false) → is_closed t b ≡ true
all_closed t b marks settled none = all_at (λ a. not (is_unmet t.places b a)) t.raw.actions (λ n a at. ap not (settled n a at (none n)))

contains_wider : (places : List ℕ) (b c : StateBox) (s : StateValue) → LiesWithin b c → Contains places b s → Contains places c s
contains_wider places b c s w inside =
    record {
      as_many_facts = inside.as_many_facts ∙ w.as_many_facts;
      as_many_values = inside.as_many_values ∙ w.as_many_fluents;
      facts = λ f h.
          let known : f < length b.facts = subst (λ (n : ℕ). f < n) (sym w.as_many_facts) h in
          may_be_wider (fact_in b f) (fact_in c f) (get_or s.facts f false) (w.facts f known) (inside.facts f known);
      fluents = λ x h.
          let known : x < length b.fluents = subst (λ (n : ℕ). x < n) (sym w.as_many_fluents) h in
          has_within (fluent_in b x) (fluent_in c x) (fluent_value places s x) (w.fluents x known) (inside.fluents x known);
    }

-- a grown box around the box of a state that is closed
pub least_closed : (t : TaskValue) (s : StateValue) (first b : StateBox) → Contains t.places first s → ((c : StateBox) → Contains t.places c s → LiesWithin first c) → IsGrown t first b → is_closed t b ≡ true → IsLeastClosed t s b
least_closed t s first b inside least grown closed =
    record {
      a_box = grown.a_box;
      contains = contains_wider t.places first b s grown.wider inside;
      closed = closed;
      least = λ c a h k. grown.least c a (least c h) k;
    }
