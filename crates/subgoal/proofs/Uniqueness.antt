-- The equations have one solution.
use Rattle.std.proofs.Common.{◌≡◌, ℕ, zero, suc, ◌+◌, ◌<◌, ◌≤◌, Bool, List, [], ◌∷◌, Option, Some, None, length, map, min, sum, refl, sym, ap, ap₂, ◌∙◌, arith, subst, All}
use Rattle.std.proofs.lemmas.List.Elements.{All-nil, All-cons, All-head, All-tail}
use Rattle.std.proofs.lemmas.List.Sums.{sum_by-cons}
use Rattle.std.proofs.lemmas.List.{length-map}
use Rattle.ground_task.proofs.Trees.{fold-True, fold-False, fold-Fact, fold-Cmp, fold-And, fold-Or, induct_condition}
use Rattle.ground_task.specs.declared.raw.Rel.{Rel}
use Rattle.ground_task.specs.declared.raw.GExpr.{GExpr}
use Rattle.ground_task.specs.declared.raw.GCond.{GCond}
use Rattle.ground_task.specs.declared.raw.GCond.TheVariants as c
use Rattle.ground_task.specs.declared.raw.Ground.{Ground}
use Rattle.simple_atoms.specs.declared.linear.TheConstants.{FAR}
use Rattle.subgoal.specs.Equations.{Atoms, Help, atom_value, condition_value, least_of, least_reached, reached_by, value_layer, values_by, Solves}
use Rattle.subgoal.specs.Repeats.{AllRepeat, Repeats}

-- ---- values item by item

-- where the first is below k, the second is no more
abbrev pub AreBounded : ℕ → List ℕ → List ℕ → Type 0
AreBounded k [] [] = Unit {0}
AreBounded k [] (m ∷ ms) = ⊥
AreBounded k (n ∷ ns) [] = ⊥
AreBounded k (n ∷ ns) (m ∷ ms) = (n < k → m ≤ n) × AreBounded k ns ms

abbrev pub AreNear : List ℕ → Type 0
AreNear ns = All (λ n. n ≤ FAR) ns

smaller : (x y x' y' k : ℕ) → (x ≤ k → x' ≤ x) → (y ≤ k → y' ≤ y) → min x y ≤ k → min x' y' ≤ min x y
smaller x y x' y' k f g h = grind arith

both_fall : (t x s t' x' s' k : ℕ) → t ≡ x + s → t' ≡ x' + s' → (x ≤ k → x' ≤ x) → (s ≤ k → s' ≤ s) → t ≤ k → t' ≤ t
both_fall t x s t' x' s' k e f g l h = omega arith

one_value : (n m : ℕ) → n ≤ FAR → m ≤ FAR → (n < FAR → m ≤ n) → (m < FAR → n ≤ m) → n ≡ m
one_value n m a b f g = grind arith

reached_bounded : (k : ℕ) → k < FAR → (m : Option ℕ) (n n' : ℕ) → ((i : ℕ) → m ≡ Some i → 1 ≤ i) → (n < k → n' ≤ n)
    → reached_by m n ≤ k → reached_by m n' ≤ reached_by m n
reached_bounded k near None n n' one less h = omega arith
reached_bounded k near (Some i) n n' one less h = let some : 1 ≤ i = one i refl in omega arith

least_reached_bounded : (k : ℕ) → k < FAR → (help : Help) → ((a : Ground) (m : ℕ) → help a ≡ Some m → 1 ≤ m)
    → (actions : List Ground) (v w : List ℕ) → AreBounded k v w
    → least_reached help actions v ≤ k → least_reached help actions w ≤ least_reached help actions v
unfolding least_reached
least_reached_bounded k near help one [] v w bounded h = omega arith
least_reached_bounded k near help one (a ∷ actions) [] [] bounded h = omega arith
least_reached_bounded k near help one (a ∷ actions) [] (m ∷ ms) bounded h = absurd bounded
least_reached_bounded k near help one (a ∷ actions) (n ∷ ns) [] bounded h = absurd bounded
least_reached_bounded k near help one (a ∷ actions) (n ∷ ns) (m ∷ ms) bounded h =
    let first : reached_by (help a) n ≤ k → reached_by (help a) m ≤ reached_by (help a) n = reached_bounded k near (help a) n m (one a) bounded.0 in
    let rest : least_reached help actions ns ≤ k → least_reached help actions ms ≤ least_reached help actions ns = least_reached_bounded k near help one actions ns ms bounded.1 in
    smaller (reached_by (help a) n) (least_reached help actions ns) (reached_by (help a) m) (least_reached help actions ms) k first rest h

atom_bounded : (k : ℕ) → k < FAR → (help : Option Help) → Repeats help → (actions : List Ground) (v w : List ℕ) → AreBounded k v w
    → atom_value actions v help ≤ k → atom_value actions w help ≤ atom_value actions v help
atom_bounded k near None one actions v w bounded h = omega arith
atom_bounded k near (Some help) one actions v w bounded h = least_reached_bounded k near help one actions v w bounded h

pub least_reached_near : (help : Help) (those : List Ground) (ns : List ℕ) → least_reached help those ns ≤ FAR
unfolding least_reached
least_reached_near help [] ns = omega arith
least_reached_near help (a ∷ those) [] = omega arith
least_reached_near help (a ∷ those) (n ∷ ns) = omega (arith, least_reached_near help those ns)

-- ---- conditions

module _ (atoms : Atoms) (actions : List Ground) (v : List ℕ) where
  pub value-True : condition_value atoms actions v c.True ≡ 0
  unfolding condition_value
  value-True = fold-True (value_layer atoms actions v)

  pub value-False : condition_value atoms actions v c.False ≡ FAR
  unfolding condition_value
  value-False = fold-False (value_layer atoms actions v)

  pub value-Fact : (f : ℕ) (truth : Bool) → condition_value atoms actions v (c.Fact f truth) ≡ atom_value actions v (atoms.literals f truth)
  unfolding condition_value
  value-Fact f truth = fold-Fact (value_layer atoms actions v) f truth

  pub value-Cmp : (r : Rel) (a b : GExpr) → condition_value atoms actions v (c.Cmp r a b) ≡ atom_value actions v (atoms.comparisons r a b)
  unfolding condition_value
  value-Cmp r a b = fold-Cmp (value_layer atoms actions v) r a b

  pub value-And : (cs : List GCond) → condition_value atoms actions v (c.And cs) ≡ min FAR (sum (map (condition_value atoms actions v) cs))
  unfolding condition_value
  value-And cs = fold-And (value_layer atoms actions v) cs

  pub value-Or : (cs : List GCond) → condition_value atoms actions v (c.Or cs) ≡ least_of (map (condition_value atoms actions v) cs)
  unfolding condition_value
  value-Or cs = fold-Or (value_layer atoms actions v) cs

  atom_near : (help : Option Help) → atom_value actions v help ≤ FAR
  atom_near None = omega arith
  atom_near (Some help) = least_reached_near help actions v

  least_of_near : (ns : List ℕ) → least_of ns ≤ FAR
  unfolding least_of
  least_of_near [] = omega arith
  least_of_near (n ∷ ns) = omega (arith, least_of_near ns)

  -- each value is at most FAR
  pub value_near : (x : GCond) → condition_value atoms actions v x ≤ FAR
  value_near = induct_condition (λ x. condition_value atoms actions v x ≤ FAR)
      (omega (arith, value-True)) (omega (arith, value-False))
      (λ f truth. omega (arith, value-Fact f truth, atom_near (atoms.literals f truth)))
      (λ r a b. omega (arith, value-Cmp r a b, atom_near (atoms.comparisons r a b)))
      (λ cs _. omega (arith, value-And cs))
      (λ cs _. omega (arith, value-Or cs, least_of_near (map (condition_value atoms actions v) cs)))

  pub values_near : (those : List Ground) → AreNear (values_by atoms actions v those)
  values_near [] = All-nil (λ n. n ≤ FAR)
  values_near (a ∷ those) =
      All-cons (λ n. n ≤ FAR) (condition_value atoms actions v a.pre) (values_by atoms actions v those) (value_near a.pre) (values_near those)

-- ---- a value that is at most k is no more, where those below k are no more

module _ (atoms : Atoms) (repeat : AllRepeat atoms) (actions : List Ground) (k : ℕ) (near : k < FAR) (v w : List ℕ) (bounded : AreBounded k v w) where
  sum_falls : (cs : List GCond) → All (λ x. condition_value atoms actions v x ≤ k → condition_value atoms actions w x ≤ condition_value atoms actions v x) cs
      → sum (map (condition_value atoms actions v) cs) ≤ k → sum (map (condition_value atoms actions w) cs) ≤ sum (map (condition_value atoms actions v) cs)
  sum_falls [] each h = omega arith
  sum_falls (x ∷ cs) each h =
      let P : GCond → Type 0 = λ y. condition_value atoms actions v y ≤ k → condition_value atoms actions w y ≤ condition_value atoms actions v y in
      let first : condition_value atoms actions v x ≤ k → condition_value atoms actions w x ≤ condition_value atoms actions v x = All-head P x cs each in
      let rest : sum (map (condition_value atoms actions v) cs) ≤ k → sum (map (condition_value atoms actions w) cs) ≤ sum (map (condition_value atoms actions v) cs) = sum_falls cs (All-tail P x cs each) in
      both_fall _ (condition_value atoms actions v x) (sum (map (condition_value atoms actions v) cs)) _ (condition_value atoms actions w x) (sum (map (condition_value atoms actions w) cs)) k (sum_by-cons (λ n. n) (condition_value atoms actions v x) (map (condition_value atoms actions v) cs)) (sum_by-cons (λ n. n) (condition_value atoms actions w x) (map (condition_value atoms actions w) cs)) first rest h

  least_falls : (cs : List GCond) → All (λ x. condition_value atoms actions v x ≤ k → condition_value atoms actions w x ≤ condition_value atoms actions v x) cs
      → least_of (map (condition_value atoms actions v) cs) ≤ k → least_of (map (condition_value atoms actions w) cs) ≤ least_of (map (condition_value atoms actions v) cs)
  unfolding least_of
  least_falls [] each h = omega arith
  least_falls (x ∷ cs) each h =
      let P : GCond → Type 0 = λ y. condition_value atoms actions v y ≤ k → condition_value atoms actions w y ≤ condition_value atoms actions v y in
      smaller (condition_value atoms actions v x) (least_of (map (condition_value atoms actions v) cs)) (condition_value atoms actions w x) (least_of (map (condition_value atoms actions w) cs)) k
      (All-head P x cs each) (least_falls cs (All-tail P x cs each)) h

  pub condition_falls : (x : GCond) → condition_value atoms actions v x ≤ k → condition_value atoms actions w x ≤ condition_value atoms actions v x
  condition_falls = induct_condition (λ x. condition_value atoms actions v x ≤ k → condition_value atoms actions w x ≤ condition_value atoms actions v x)
      (λ h. omega (arith, value-True atoms actions v, value-True atoms actions w))
      (λ h. omega (arith, value-False atoms actions v, value-False atoms actions w))
      (λ f truth h.
      let one : atom_value actions v (atoms.literals f truth) ≤ k → atom_value actions w (atoms.literals f truth) ≤ atom_value actions v (atoms.literals f truth) = atom_bounded k near (atoms.literals f truth) (repeat.literals f truth) actions v w bounded in
      omega (arith, value-Fact atoms actions v f truth, value-Fact atoms actions w f truth, one))
      (λ r a b h.
      let one : atom_value actions v (atoms.comparisons r a b) ≤ k → atom_value actions w (atoms.comparisons r a b) ≤ atom_value actions v (atoms.comparisons r a b) = atom_bounded k near (atoms.comparisons r a b) (repeat.comparisons r a b) actions v w bounded in
      omega (arith, value-Cmp atoms actions v r a b, value-Cmp atoms actions w r a b, one))
      (λ cs each h.
      let all : sum (map (condition_value atoms actions v) cs) ≤ k → sum (map (condition_value atoms actions w) cs) ≤ sum (map (condition_value atoms actions v) cs) = sum_falls cs each in
      omega (arith, value-And atoms actions v cs, value-And atoms actions w cs, all))
      (λ cs each h.
      let least : least_of (map (condition_value atoms actions v) cs) ≤ k → least_of (map (condition_value atoms actions w) cs) ≤ least_of (map (condition_value atoms actions v) cs) = least_falls cs each in
      omega (arith, value-Or atoms actions v cs, value-Or atoms actions w cs, least))

  pub values_fall : (those : List Ground) → AreBounded (suc k) (values_by atoms actions v those) (values_by atoms actions w those)
  values_fall [] = tt
  values_fall (a ∷ those) =
      let one : condition_value atoms actions v a.pre ≤ k → condition_value atoms actions w a.pre ≤ condition_value atoms actions v a.pre = condition_falls a.pre in
      ((λ h. one (omega arith)), values_fall those)

-- ---- one solution

none_below : (v w : List ℕ) → AreNear v → (actions : List Ground) → length v ≡ length actions → length w ≡ length actions → AreBounded 0 v w
none_below [] [] near actions e f = tt
none_below [] (m ∷ ms) near actions e f = absurd (omega (arith, e, f))
none_below (n ∷ ns) [] near actions e f = absurd (omega (arith, e, f))
none_below (n ∷ ns) (m ∷ ms) near [] e f = absurd (omega (arith, e))
none_below (n ∷ ns) (m ∷ ms) near (a ∷ actions) e f =
    ((λ h. absurd (omega arith)), none_below ns ms (All-tail (λ i. i ≤ FAR) n ns near) actions (omega (arith, e)) (omega (arith, f)))

module _ (atoms : Atoms) (repeat : AllRepeat atoms) (actions : List Ground) (v w : List ℕ) (solves : Solves atoms actions v) (also : Solves atoms actions w) where
  as_many : (u : List ℕ) → u ≡ values_by atoms actions u actions → length u ≡ length actions
  as_many u e = ap length e ∙ length-map actions (λ (a : Ground). condition_value atoms actions u a.pre)

  v_near : AreNear v
  v_near = subst AreNear (sym solves) (values_near atoms actions v actions)

  pub bounded_to : (k : ℕ) → k ≤ FAR → AreBounded k v w
  bounded_to zero h = none_below v w v_near actions (as_many v solves) (as_many w also)
  bounded_to (suc k) h =
      let near : k < FAR = omega arith in
      let within : k ≤ FAR = omega arith in
      subst (λ (x : List ℕ). AreBounded (suc k) x w) (sym solves)
      (subst (λ (y : List ℕ). AreBounded (suc k) (values_by atoms actions v actions) y) (sym also)
      (values_fall atoms repeat actions k near v w (bounded_to k within) actions))

both_bounded : (v w : List ℕ) → AreNear v → AreNear w → AreBounded FAR v w → AreBounded FAR w v → v ≡ w
both_bounded [] [] near close h g = refl
both_bounded [] (m ∷ ms) near close h g = absurd h
both_bounded (n ∷ ns) [] near close h g = absurd h
both_bounded (n ∷ ns) (m ∷ ms) near close h g =
    ap₂ (λ (x : ℕ) (xs : List ℕ). x ∷ xs)
    (one_value n m (All-head (λ i. i ≤ FAR) n ns near) (All-head (λ i. i ≤ FAR) m ms close) h.0 g.0)
    (both_bounded ns ms (All-tail (λ i. i ≤ FAR) n ns near) (All-tail (λ i. i ≤ FAR) m ms close) h.1 g.1)

pub one_solution : (atoms : Atoms) → AllRepeat atoms → (actions : List Ground) (v w : List ℕ) → Solves atoms actions v → Solves atoms actions w → v ≡ w
one_solution atoms repeat actions v w solves also =
    both_bounded v w
    (subst AreNear (sym solves) (values_near atoms actions v actions)) (subst AreNear (sym also) (values_near atoms actions w actions))
    (bounded_to atoms repeat actions v w solves also FAR (omega arith)) (bounded_to atoms repeat actions w v also solves FAR (omega arith))
