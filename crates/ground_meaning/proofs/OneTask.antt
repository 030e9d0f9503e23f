-- A pair has one ground task: lists of atoms by rising codes are told by their members, and least places by being least.
use Rattle.std.proofs.Common.{◌≡◌, ◌<◌, ◌≤◌, ◌+◌, ◌↔◌, ℕ, zero, suc, List, [], ◌∷◌, map, length, refl, sym, ap, subst, ◌∙◌, inl, inr, arith}
use Rattle.std.specs.Prelude.{All, Ok}
use Rattle.std.specs.List.{AllPairs, slice_index}
use Rattle.std.specs.List.Sorted.{IsStrictlyIncreasing}
use Rattle.std.specs.Result.{result_unwrap_or}
use Rattle.std.proofs.lemmas.List.{ext_get_or}
use Rattle.std.proofs.lemmas.List.Elements.{All-head, All-tail}
use Rattle.std.proofs.lemmas.List.Kept.{AllPairs-from_increasing}
use Rattle.pddl_terms.specs.declared.names.Sig.{Sig}
use Rattle.pddl_terms.specs.Readable.{IsReadable}
use Rattle.pddl_types.specs.declared.pairs.Pair.{Pair}
use Rattle.pddl_types.specs.Pairs.{heads_of}
use Rattle.pddl_types.specs.WellFormed.{Each, Stands}
use Rattle.static_facts.specs.Atoms.{head_text, names, text_of_atom}
use Rattle.static_facts.specs.Codes.{code_among, fact_code, fluent_code}
use Rattle.ground_task.specs.declared.raw.RawTask.{RawTask}
use Rattle.ground_task.specs.Tasks.{TaskValue}
use Rattle.places.specs.Least.{IsLeastPlaces}
use Rattle.ground_meaning.specs.Conditions.{Settled, as_condition}
use Rattle.ground_meaning.specs.Goals.{folded_goal}
use Rattle.ground_meaning.specs.Outcomes.{kept}
use Rattle.ground_meaning.specs.Refusals.{IsGrounded}
use Rattle.ground_meaning.specs.Tasks.{AreAllOf, IsAtomOf, IsFact, IsFluent, IsGroundTask, IsRelevant, IsTaskFact, first_true, first_value, numbered_action, numbered_condition}
use Rattle.ground_meaning.proofs.CodedAtoms.{same_code}
use Rattle.ground_meaning.proofs.Lists.{each_stands, each_where, stands_number}

-- ---- rising numbers

-- each number is below all later ones
abbrev pub Rises : List ℕ → Type 0
Rises [] = Unit {0}
Rises (x ∷ xs) = Each (λ y. x < y) xs × Rises xs

rises : (xs : List ℕ) → AllPairs (λ x y. x < y) xs → Rises xs
rises [] all = tt
rises (x ∷ xs) all = (each_where (λ y. x < y) xs above, rises xs (λ i j d before within. all (suc i) (suc j) d (omega (arith, before)) (omega (arith, within))))
  where
    above : (y : ℕ) → Stands y xs → x < y
    above y there =
        let at = stands_number xs y 0 there in
        let less = all 0 (suc at.0) 0 (omega arith) (omega (arith, at.1)) in
        omega (arith, less, at.2)

at_most : (x y : ℕ) (ys : List ℕ) → Each (λ z. y < z) ys → Stands x (y ∷ ys) → y ≤ x
at_most x y ys above (inl e) = omega (arith, e)
at_most x y ys above (inr s) = let less = each_stands (λ z. y < z) ys x above s in omega (arith, less)

-- what stands behind the first of rising numbers stands behind the same first number of the other list
behind : (x y n : ℕ) (xs ys : List ℕ) → Each (λ z. x < z) xs → x ≡ y → Stands n xs → Stands n (y ∷ ys) → Stands n ys
behind x y n xs ys above same there (inl e) = let less = each_stands (λ z. x < z) xs n above there in absurd (omega (arith, less, same, e))
behind x y n xs ys above same there (inr s) = s

rising_alike : (xs ys : List ℕ) → Rises xs → Rises ys → ((n : ℕ) → Stands n xs → Stands n ys) → ((n : ℕ) → Stands n ys → Stands n xs) → xs ≡ ys
rising_alike [] [] r q into back = refl
rising_alike [] (y ∷ ys) r q into back = elim (back y (inl refl)) [ ]
rising_alike (x ∷ xs) [] r q into back = elim (into x (inl refl)) [ ]
rising_alike (x ∷ xs) (y ∷ ys) r q into back =
    let low = at_most x y ys q.0 (into x (inl refl)) in
    let high = at_most y x xs r.0 (back y (inl refl)) in
    let same : x ≡ y = omega (arith, low, high) in
    let rest = rising_alike xs ys r.1 q.1 (λ n s. behind x y n xs ys r.0 same s (into n (inr s))) (λ n s. behind y x n ys xs q.0 (sym same) s (back n (inr s))) in
    λ i. same i ∷ rest i

pub increasing : (xs : List ℕ) → Rises xs → IsStrictlyIncreasing xs
increasing [] r k h = absurd (omega (arith, h))
increasing (x ∷ []) r k h = absurd (omega (arith, h))
increasing (x ∷ y ∷ ys) r zero h = r.0.0
increasing (x ∷ y ∷ ys) r (suc k) h =
    let next : suc k + 1 ≡ suc (k + 1) = omega arith in
    subst (λ (n : ℕ). slice_index (y ∷ ys) k < slice_index (x ∷ y ∷ ys) n) (sym next) (increasing (y ∷ ys) r.1 k (omega (arith, h)))

-- rising numbers are told by which they are
pub same_rising : (xs ys : List ℕ) → IsStrictlyIncreasing xs → IsStrictlyIncreasing ys → ((n : ℕ) → Stands n xs ↔ Stands n ys) → xs ≡ ys
same_rising xs ys r q alike = rising_alike xs ys (rises xs (AllPairs-from_increasing xs r)) (rises ys (AllPairs-from_increasing ys q)) (λ n. (alike n).0) (λ n. (alike n).1)

-- ---- atoms

cons_parts : {A : Type 0} (x y : A) (xs ys : List A) → x ∷ xs ≡ y ∷ ys → (x ≡ y) × (xs ≡ ys)
cons_parts x y xs ys h = (cc, cc)

module _ (p : Pair) (readable : IsReadable p.domain p.problem) (sigs : List Sig) where
  abbrev IsOne : List (List ℕ) → Type 0
  IsOne = IsAtomOf p sigs (λ n os. head_text sigs n ∷ names p os)

  abbrev Are : List (List (List ℕ)) → Type 0
  Are = All IsOne

  same_atoms : (xs ys : List (List (List ℕ))) → Are xs → Are ys → map (code_among (heads_of sigs) p) xs ≡ map (code_among (heads_of sigs) p) ys → xs ≡ ys
  same_atoms [] [] a b e = refl
  same_atoms [] (y ∷ ys) a b e = cc
  same_atoms (x ∷ xs) [] a b e = cc
  same_atoms (x ∷ xs) (y ∷ ys) a b e =
      let parts = cons_parts (code_among (heads_of sigs) p x) (code_among (heads_of sigs) p y) _ _ e in
      let first = same_code p readable sigs x y (All-head IsOne x xs a) (All-head IsOne y ys b) parts.0 in
      let rest = same_atoms xs ys (All-tail IsOne x xs a) (All-tail IsOne y ys b) parts.1 in
      λ i. first i ∷ rest i

  -- there is one list of all the atoms of which something holds
  pub one_list : (P : ℕ → Type 0) (xs ys : List (List (List ℕ))) → AreAllOf (IsAtomOf p sigs (λ n os. head_text sigs n ∷ names p os)) (code_among (heads_of sigs) p) P xs
      → AreAllOf (IsAtomOf p sigs (λ n os. head_text sigs n ∷ names p os)) (code_among (heads_of sigs) p) P ys → xs ≡ ys
  one_list P xs ys a b =
      same_atoms xs ys a.are_atoms b.are_atoms
      (same_rising _ _ a.rising b.rising (λ n. (λ s. (b.exactly n).1 ((a.exactly n).0 s), λ s. (a.exactly n).1 ((b.exactly n).0 s))))

-- ---- the task

pub one_goal : (p : Pair) (goal other : Settled) → folded_goal p ≡ Ok goal → folded_goal p ≡ Ok other → goal ≡ other
one_goal p goal other a b = ap (λ r. result_unwrap_or r goal) (sym a ∙ b)

module _ (p : Pair) (readable : IsReadable p.domain p.problem) where
  pub one_fact_list : (goal : Settled) (xs ys : List (List (List ℕ))) → AreAllOf (IsFact p) (fact_code p) (IsTaskFact p goal) xs → AreAllOf (IsFact p) (fact_code p) (IsTaskFact p goal) ys → xs ≡ ys
  one_fact_list goal xs ys a b = one_list p readable p.domain.predicates (IsTaskFact p goal) xs ys a b

  pub one_fluent_list : (goal : Settled) (xs ys : List (List (List ℕ))) → AreAllOf (IsFluent p) (fluent_code p) (IsRelevant p goal) xs → AreAllOf (IsFluent p) (fluent_code p) (IsRelevant p goal) ys → xs ≡ ys
  one_fluent_list goal xs ys a b = one_list p readable p.domain.functions (IsRelevant p goal) xs ys a b

  -- the data of a goal, facts and fluents
  abbrev pub made : Settled → List (List (List ℕ)) → List (List (List ℕ)) → RawTask
  made goal facts fluents = record {
    facts = map text_of_atom facts;
    fluents = map text_of_atom fluents;
    true_facts = first_true p facts;
    values = map (first_value p) fluents;
    actions = map (numbered_action (map (fact_code p) facts) (map (fluent_code p) fluents)) (kept p);
    goal = numbered_condition (map (fact_code p) facts) (map (fluent_code p) fluents) (as_condition goal);
  }

  is_made : (raw : RawTask) (task : IsGroundTask p raw) → raw ≡ made task.goal task.facts task.fluents
  is_made raw task = λ i. record {
    facts = task.fact_texts i;
    fluents = task.fluent_texts i;
    true_facts = task.true_facts i;
    values = task.values i;
    actions = task.actions i;
    goal = task.is_goal i;
  }

  pub one_raw : (raw other : RawTask) → IsGroundTask p raw → IsGroundTask p other → raw ≡ other
  one_raw raw other a b =
      let goals = one_goal p b.goal a.goal b.folds.folds a.folds.folds in
      let facts = one_fact_list a.goal a.facts b.facts a.all_facts (subst (λ (g : Settled). AreAllOf (IsFact p) (fact_code p) (IsTaskFact p g) b.facts) goals b.all_facts) in
      let fluents = one_fluent_list a.goal a.fluents b.fluents a.all_fluents (subst (λ (g : Settled). AreAllOf (IsFluent p) (fluent_code p) (IsRelevant p g) b.fluents) goals b.all_fluents) in
      is_made raw a ∙ (λ i. made (sym goals i) (facts i) (fluents i)) ∙ sym (is_made other b)

-- ---- places

-- least places are one list
pub one_places : (raw : RawTask) (xs ys : List ℕ) → IsLeastPlaces raw xs → IsLeastPlaces raw ys → xs ≡ ys
one_places raw xs ys a b =
    ext_get_or 0 xs ys (a.enough.a_count_each ∙ sym b.enough.a_count_each) (λ x within.
    let known : x < length raw.fluents = omega (arith, within, a.enough.a_count_each) in
    let low = a.least ys b.enough x known in
    let high = b.least xs a.enough x known in
    omega (arith, low, high))

pub one_task : (p : Pair) → IsReadable p.domain p.problem → (t u : TaskValue) → IsGrounded p t → IsGrounded p u → t ≡ u
one_task p readable t u a b =
    let raws = one_raw p readable t.raw u.raw a.task b.task in
    let places = one_places u.raw t.places u.places (subst (λ (raw : RawTask). IsLeastPlaces raw t.places) raws a.places) b.places in
    λ i. record { raw = raws i; places = places i }
