-- What is said of each supporter of a task, and of each demand of each action.
use Rattle.std.proofs.Common.{◌≡◌, ℕ, zero, suc, ◌+◌, ◌<◌, ◌≤◌, ◌==◌, Bool, true, cond, List, [], ◌∷◌, ◌++◌, Some, All, map, slice_get, eqb-true, eq-eqb, refl, sym, subst, inl, inr, arith}
use Rattle.std.specs.List.{flat_map, list_all, range_with_len}
use Rattle.std.specs.Set.{is_member, unique_keys}
use Rattle.std.proofs.lemmas.Bool.{and_from, and_parts, cases_Bool, cases_lt, or_cases, or_left, or_right}
use Rattle.std.proofs.lemmas.List.Elements.{All-append, All-cons, All-head, All-map, All-nil, All-tail}
use Rattle.ground_task.specs.declared.raw.Ground.{Ground}
use Rattle.ground_task.specs.Tasks.{is_listed}
use Rattle.box_model.specs.declared.caps.Side.TheVariants.{Upper, Lower}
use Rattle.box_model.proofs.CapLemmas.{some_same}
use Rattle.box_rows.specs.Rules.{demands_of, supporters_from}
use Rattle.box_rows.specs.declared.rule.Demand.{Demand}
use Rattle.box_rows.specs.declared.rule.Demand.TheVariants.{Reaches}
use Rattle.box_rows.specs.declared.rule.Supporter.{Supporter}

-- ---- lists

pub all_first : {X : Type 0} (P : X → Type 0) (xs ys : List X) → All P (xs ++ ys) → All P xs
all_first P [] ys h = All-nil P
all_first P (x ∷ xs) ys h = All-cons P x xs (All-head P x (xs ++ ys) h) (all_first P xs ys (All-tail P x (xs ++ ys) h))

pub all_second : {X : Type 0} (P : X → Type 0) (xs ys : List X) → All P (xs ++ ys) → All P ys
all_second P [] ys h = h
all_second P (x ∷ xs) ys h = all_second P xs ys (All-tail P x (xs ++ ys) h)

pub all_unmapped : {X Y : Type 0} (P : X → Type 0) (f : Y → X) (ys : List Y) → All P (map f ys) → All (λ y. P (f y)) ys
all_unmapped P f [] h = All-nil _
all_unmapped P f (y ∷ ys) h = All-cons (λ y. P (f y)) y ys (All-head P (f y) (map f ys) h) (all_unmapped P f ys (All-tail P (f y) (map f ys) h))

pub all_given : {X : Type 0} (P Q : X → Type 0) (xs : List X) → ((x : X) → P x → Q x) → All P xs → All Q xs
all_given P Q [] f h = All-nil Q
all_given P Q (x ∷ xs) f h = All-cons Q x xs (f x (All-head P x xs h)) (all_given P Q xs f (All-tail P x xs h))

pub list_all_from : {X : Type 0} (test : X → Bool) (xs : List X) → All (λ x. test x ≡ true) xs → list_all test xs ≡ true
list_all_from test [] h = refl
list_all_from test (x ∷ xs) h = and_from (test x) (list_all test xs) (All-head (λ x. test x ≡ true) x xs h) (list_all_from test xs (All-tail (λ x. test x ≡ true) x xs h))

pub from_list_all : {X : Type 0} (test : X → Bool) (xs : List X) → list_all test xs ≡ true → All (λ x. test x ≡ true) xs
from_list_all test [] h = All-nil _
from_list_all test (x ∷ xs) h = let parts = and_parts (test x) (list_all test xs) h in All-cons (λ x. test x ≡ true) x xs parts.0 (from_list_all test xs parts.1)

-- ---- facts that are changed

abbrev same : ℕ → ℕ → Bool
same f g = f == g

all_member : (P : ℕ → Type 0) (xs : List ℕ) (f : ℕ) → is_member same xs f ≡ true → All P xs → P f
all_member P [] f h all = absurd cc
all_member P (x ∷ xs) f h all =
    elim (or_cases (f == x) (is_member same xs f) h) [
      | inl here ↦ subst P (sym (eqb-true f x here)) (All-head P x xs all)
      | inr later ↦ all_member P xs f later (All-tail P x xs all)
    ]

pub all_unique : (P : ℕ → Type 0) (xs : List ℕ) → All P xs → All P (unique_keys same xs)
all_unique P [] h = All-nil P
all_unique P (x ∷ xs) h =
    let rest = all_unique P xs (All-tail P x xs h) in
    elim (cases_Bool (is_member same xs x)) [
      | inl m ↦ subst (λ (v : Bool). All P (cond v (unique_keys same xs) (x ∷ unique_keys same xs))) (sym m) rest
      | inr m ↦ subst (λ (v : Bool). All P (cond v (unique_keys same xs) (x ∷ unique_keys same xs))) (sym m) (All-cons P x (unique_keys same xs) (All-head P x xs h) rest)
    ]

pub unique_all : (P : ℕ → Type 0) (xs : List ℕ) → All P (unique_keys same xs) → All P xs
unique_all P [] h = All-nil P
unique_all P (x ∷ xs) h =
    elim (cases_Bool (is_member same xs x)) [
      | inl m ↦
          let rest = unique_all P xs (subst (λ (v : Bool). All P (cond v (unique_keys same xs) (x ∷ unique_keys same xs))) m h) in
          All-cons P x xs (all_member P xs x m rest) rest
      | inr m ↦
          let all = subst (λ (v : Bool). All P (cond v (unique_keys same xs) (x ∷ unique_keys same xs))) m h in
          All-cons P x xs (All-head P x (unique_keys same xs) all) (unique_all P xs (All-tail P x (unique_keys same xs) all))
    ]

-- each fact of a list is listed
eqb_itself : (f : ℕ) → (f == f) ≡ true
eqb_itself f = eq-eqb f f refl

listed_more : (xs : List ℕ) (x f : ℕ) → is_listed xs f ≡ true → is_listed (x ∷ xs) f ≡ true
listed_more xs x f h = or_right (x == f) (is_listed xs f) h

pub all_listed : (xs : List ℕ) → All (λ f. is_listed xs f ≡ true) xs
all_listed [] = All-nil _
all_listed (x ∷ xs) =
    All-cons (λ f. is_listed (x ∷ xs) f ≡ true) x xs (or_left (x == x) (is_listed xs x) (eqb_itself x))
    (all_given (λ f. is_listed xs f ≡ true) (λ f. is_listed (x ∷ xs) f ≡ true) xs (listed_more xs x) (all_listed xs))

-- ---- effects by their places

abbrev pub both : ℕ → List Demand
both k = Reaches Upper k ∷ Reaches Lower k ∷ []

pub all_effects : (Q : Demand → Type 0) (from n : ℕ) → ((k : ℕ) → from ≤ k → k < from + n → Q (Reaches Upper k) × Q (Reaches Lower k)) → All Q (flat_map both (range_with_len from n))
all_effects Q from zero h = All-nil Q
all_effects Q from (suc n) h =
    let here = h from (omega arith) (omega arith) in
    All-append Q (both from) (flat_map both (range_with_len (from + 1) n))
    (All-cons Q (Reaches Upper from) (Reaches Lower from ∷ []) here.0 (All-cons Q (Reaches Lower from) [] here.1 (All-nil Q)))
    (all_effects Q (from + 1) n (λ k low high. h k (omega (arith, low)) (omega (arith, high))))

pub effects_all : (Q : Demand → Type 0) (from n : ℕ) → All Q (flat_map both (range_with_len from n)) → (k : ℕ) → from ≤ k → k < from + n → Q (Reaches Upper k) × Q (Reaches Lower k)
effects_all Q from zero all k low high = absurd (omega (arith, low, high))
effects_all Q from (suc n) all k low high =
    let first = all_first Q (both from) (flat_map both (range_with_len (from + 1) n)) all in
    let second = all_second Q (both from) (flat_map both (range_with_len (from + 1) n)) all in
    elim (cases_lt from k) [
      | inl later ↦ effects_all Q (from + 1) n second k (omega (arith, later)) (omega (arith, high))
      | inr here ↦
          let e : from ≡ k = omega (arith, low, here) in
          subst (λ (k : ℕ). Q (Reaches Upper k) × Q (Reaches Lower k)) e
          (All-head Q (Reaches Upper from) (Reaches Lower from ∷ []) first, All-head Q (Reaches Lower from) [] (All-tail Q (Reaches Upper from) (Reaches Lower from ∷ []) first))
    ]

-- ---- supporters

module _ (P : ℕ → Ground → Demand → Type 0) where
  -- said of the action of the supporter's number, in a list of actions from this number on
  abbrev pub OfAction : ℕ → List Ground → Supporter → Type 0
  OfAction n others s = (k : ℕ) (a : Ground) → n + k ≡ s.action → slice_get others k ≡ Some a → P s.action a s.demand

  abbrev tagged : ℕ → Demand → Supporter
  tagged number demand = record { action = number; demand = demand }

  -- a supporter of an earlier number is one of a longer list
  later : (n : ℕ) (a : Ground) (others : List Ground) (s : Supporter) → suc n ≤ s.action → OfAction (suc n) others s → OfAction n (a ∷ others) s
  later n a others s h of zero b is at = absurd (omega (arith, h, is))
  later n a others s h of (suc k) b is at = of k b (omega (arith, is)) at

  here : (n : ℕ) (a : Ground) (others : List Ground) (d : Demand) → P n a d → OfAction n (a ∷ others) (tagged n d)
  here n a others d p zero b is at = subst (λ (b : Ground). P n b d) (some_same a b at) p
  here n a others d p (suc k) b is at = absurd (omega (arith, is))

  pub all_supporters : (n : ℕ) (others : List Ground) → ((k : ℕ) (a : Ground) → slice_get others k ≡ Some a → All (P (n + k) a) (demands_of a))
      → All (λ s. (n ≤ s.action) × OfAction n others s) (supporters_from n others)
  all_supporters n [] h = All-nil _
  all_supporters n (a ∷ others) h =
      let Q : Supporter → Type 0 = λ s. (n ≤ s.action) × OfAction n (a ∷ others) s in
      let first : All (P n a) (demands_of a) = subst (λ (m : ℕ). All (P m a) (demands_of a)) (omega arith) (h 0 a refl) in
      All-append Q (map (tagged n) (demands_of a)) (supporters_from (suc n) others)
      (All-map Q (tagged n) (demands_of a) (all_given (P n a) (λ d. Q (tagged n d)) (demands_of a) (λ d p. (omega arith, here n a others d p)) first))
      (all_given (λ s. (suc n ≤ s.action) × OfAction (suc n) others s) Q (supporters_from (suc n) others) (λ s q. (omega (arith, q.0), later n a others s q.0 q.1))
      (all_supporters (suc n) others (λ k b at. subst (λ (m : ℕ). All (P m b) (demands_of b)) (omega arith) (h (suc k) b at))))

  pub supporters_all : (n : ℕ) (others : List Ground) → All (λ s. (a : Ground) → P s.action a s.demand) (supporters_from n others) → (k : ℕ) (a : Ground) → slice_get others k ≡ Some a → All (P (n + k) a) (demands_of a)
  supporters_all n [] all k a at = absurd cc
  supporters_all n (b ∷ bs) all zero a at =
      let Q : Supporter → Type 0 = λ s. (a : Ground) → P s.action a s.demand in
      let first = all_unmapped Q (tagged n) (demands_of b) (all_first Q (map (tagged n) (demands_of b)) (supporters_from (suc n) bs) all) in
      subst (λ (m : ℕ). All (P m a) (demands_of a)) (omega arith)
      (subst (λ (c : Ground). All (P n a) (demands_of c)) (some_same b a at) (all_given (λ d. Q (tagged n d)) (P n a) (demands_of b) (λ d q. q a) first))
  supporters_all n (b ∷ bs) all (suc k) a at =
      let Q : Supporter → Type 0 = λ s. (a : Ground) → P s.action a s.demand in
      subst (λ (m : ℕ). All (P m a) (demands_of a)) (omega arith)
      (supporters_all (suc n) bs (all_second Q (map (tagged n) (demands_of b)) (supporters_from (suc n) bs) all) k a at)
