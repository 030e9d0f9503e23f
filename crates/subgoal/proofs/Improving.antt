-- Rounds lower the values of a task's actions.
use Rattle.std.proofs.Common.{◌≡◌, ℕ, zero, suc, ◌+◌, ◌*◌, ◌<◌, ◌≤◌, ◌++◌, Bool, true, false, List, [], ◌∷◌, All, length, drop, sum, get_or, get_or-set_other, map, set, refl, sym, ap, ap₂, ◌∙◌, subst, arith, inl, inr, cond}
use Rattle.std.specs.List.{flat_map}
use Rattle.std.proofs.Math.Seq.{drop-append_seam}
use Rattle.std.proofs.lemmas.Bool.{cases_order}
use Rattle.std.proofs.lemmas.List.{append-nil, get_or-map, length-map, map-append}
use Rattle.std.proofs.lemmas.Grind.{get_or_default_zero}
use Rattle.std.proofs.lemmas.List.Elements.{All-get_or}
use Rattle.std.proofs.lemmas.List.Sums.{sum_by-cons}
use Rattle.ground_task.specs.declared.raw.GCond.{GCond}
use Rattle.ground_task.specs.declared.raw.Ground.{Ground}
use Rattle.ground_task.specs.States.{StateValue}
use Rattle.ground_task.specs.Tasks.{TaskValue}
use Rattle.simple_atoms.specs.declared.linear.TheConstants.{FAR}
use Rattle.subgoal.specs.declared.network.Atom.{Atom}
use Rattle.subgoal.specs.declared.network.Rules.{Rules}
use Rattle.subgoal.specs.Equations.{Atoms, condition_value, values_by}
use Rattle.subgoal.specs.Estimates.{AreValues, IsEstimate}
use Rattle.subgoal.specs.Help.{atoms_in}
use Rattle.subgoal.specs.Network.{atoms_of, picked, preconditions_of, weights_by, weights_of, AreRules, AreZeros, Evaluates, IsAtom, Revalues}
use Rattle.subgoal.specs.Unmet.{at, by_equation, AreLowered, IsAbove}
use Rattle.subgoal.proofs.AtomLists.{map_flat}
use Rattle.subgoal.proofs.Filling.{AreFilled, filled_end, filled_first, filled_next}
use Rattle.subgoal.proofs.LowerValues.{above_far, lower, lower_by_equation}
use Rattle.subgoal.proofs.Networks.{network_picked}
use Rattle.subgoal.proofs.Reading.{split_left}
use Rattle.subgoal.proofs.Repeating.{atoms_repeat}

-- ---- the atoms

pub atom_known : (t : TaskValue) (those : List Atom) (i : ℕ) (a other : Atom) → All (IsAtom t) those → i < length those → a ≡ get_or those i other → IsAtom t a
atom_known t those i a other all within is = subst (IsAtom t) (sym is) (All-get_or (IsAtom t) those i other within all)

-- the first i are those of the target, and the others the old ones
pub record AreWeighed (target old : List ℕ) (i : ℕ) (ns : List ℕ) : Type 0 where
  pub filled : AreFilled target i ns
  pub left : (k : ℕ) → i ≤ k → at ns k ≡ at old k

module _ (atoms : Atoms) (actions : List Ground) (v : List ℕ) (those : List Atom) where
  weight_is : (i : ℕ) (a other : Atom) → i < length those → a ≡ get_or those i other → condition_value atoms actions v a.cond.now ≡ at (weights_by atoms actions v those) i
  weight_is i a other within is =
      let f : Atom → ℕ = λ b. condition_value atoms actions v b.cond.now in
      ap f is ∙ sym (get_or-map f those i other 0 within)

  pub weighed_first : (weights : List ℕ) → length weights ≡ length those → AreWeighed (weights_by atoms actions v those) weights 0 weights
  weighed_first weights long = record {
    filled = filled_first (weights_by atoms actions v those) weights (long ∙ sym (length-map those (λ (a : Atom). condition_value atoms actions v a.cond.now)));
    left = λ k h. refl;
  }

  pub weighed_zero : (old weights : List ℕ) (i n another : ℕ) (a other : Atom) → AreZeros atoms actions v those old → AreWeighed (weights_by atoms actions v those) old i weights
      → i < length those → a ≡ get_or those i other → n ≡ get_or weights i another → i < length weights → n ≡ 0 → condition_value atoms actions v a.cond.now ≡ 0
  weighed_zero old weights i n another a other zeros h within is its within_too none =
      weight_is i a other within is ∙ zeros i within (omega (arith, h.left i (omega arith), its, none, get_or_default_zero weights i another within_too))

  pub weighed_next : (old weights : List ℕ) (i n : ℕ) (a other : Atom) → i < length those → a ≡ get_or those i other → n ≡ condition_value atoms actions v a.cond.now
      → AreWeighed (weights_by atoms actions v those) old i weights → AreWeighed (weights_by atoms actions v those) old (i + 1) (set weights i n)
  weighed_next old weights i n a other within is its h = record {
    filled = filled_next (weights_by atoms actions v those) weights i n
        (omega (arith, within, length-map those (λ (b : Atom). condition_value atoms actions v b.cond.now))) (its ∙ weight_is i a other within is) h.filled;
    left = λ k past. get_or-set_other weights i k n 0 (λ same. omega (arith, past)) ∙ h.left k (omega (arith, past));
  }

  pub weighed_end : (old weights : List ℕ) (i : ℕ) → length those ≤ i → AreWeighed (weights_by atoms actions v those) old i weights → weights ≡ weights_by atoms actions v those
  weighed_end old weights i past h =
      filled_end (weights_by atoms actions v those) weights i (omega (arith, past, length-map those (λ (a : Atom). condition_value atoms actions v a.cond.now))) h.filled

-- ---- the actions

-- the values of the first i, and what is left of those of the atoms
abbrev pub AreRead : List ℕ → ℕ → List Ground → ℕ → ℕ → List ℕ → Type 0
AreRead weights first those i now values =
    (atoms : Atoms) (actions : List Ground) (v rest : List ℕ) → drop first weights ≡ flat_map (λ a. weights_of atoms actions v a.pre) those ++ rest
    → (drop now weights ≡ flat_map (λ a. weights_of atoms actions v a.pre) (drop i those) ++ rest) × AreFilled (values_by atoms actions v those) i values

module _ (weights : List ℕ) (first : ℕ) (those : List Ground) where
  pub read_first : (values : List ℕ) → length values ≡ length those → AreRead weights first those 0 first values
  read_first values long = λ atoms actions v rest e. (
    e,
    filled_first (values_by atoms actions v those) values (long ∙ sym (length-map those (λ (a : Ground). condition_value atoms actions v a.pre))),
  )

  pub read_next : (i now : ℕ) (a other : Ground) (found : ℕ × ℕ) (values : List ℕ) → i < length those → a ≡ get_or those i other → Evaluates weights now a.pre found
      → AreRead weights first those i now values → AreRead weights first those (i + 1) found.1 (set values i found.0)
  read_next i now a other found values within is reads h = λ atoms actions v rest e.
      let f : Ground → ℕ = λ b. condition_value atoms actions v b.pre in
      let g : Ground → List ℕ = λ b. weights_of atoms actions v b.pre in
      let before = h atoms actions v rest e in
      let got = reads atoms actions v (flat_map g (drop (i + 1) those) ++ rest) (split_left g those i a other rest (drop now weights) within is before.0) in (
        got.1,
        filled_next (values_by atoms actions v those) values i found.0 (omega (arith, within, length-map those f))
            (got.0 ∙ ap f is ∙ sym (get_or-map f those i other 0 within)) before.1,
      )

  pub read_end : (i now : ℕ) (values : List ℕ) → length those ≤ i → AreRead weights first those i now values → Revalues weights first those values
  read_end i now values past h = λ atoms actions v rest e.
      filled_end (values_by atoms actions v those) values i (omega (arith, past, length-map those (λ (a : Ground). condition_value atoms actions v a.pre))) (h atoms actions v rest e).1

module _ (rules : Rules) (is : AreRules rules) (atoms : Atoms) (actions : List Ground) (v weights : List ℕ)
    (weighed : weights ≡ weights_by atoms actions v rules.network.now.atoms.items) where
  whole : picked weights rules.network.now.numbers.items
      ≡ weights_of atoms actions v rules.task.now.raw.goal ++ map (condition_value atoms actions v) (preconditions_of rules.task.now)
  whole =
      network_picked rules.task.now rules.network.now (atoms_of rules.task.now.raw.goal ++ preconditions_of rules.task.now) (condition_value atoms actions v) weights is.are_network weighed
      ∙ map-append (condition_value atoms actions v) (atoms_of rules.task.now.raw.goal) (preconditions_of rules.task.now)

  -- the goal's values come first
  pub goal_read : (found : ℕ × ℕ) → Evaluates (picked weights rules.network.now.numbers.items) 0 rules.task.now.raw.goal found
      → found.0 ≡ condition_value atoms actions v rules.task.now.raw.goal
  goal_read found reads = (reads atoms actions v (map (condition_value atoms actions v) (preconditions_of rules.task.now)) whole).0

  -- then those of the actions
  pub actions_read : (values : List ℕ) → Revalues (picked weights rules.network.now.numbers.items) rules.behind rules.task.now.raw.actions values
      → values ≡ values_by atoms actions v rules.task.now.raw.actions
  actions_read values reads =
      let goal = weights_of atoms actions v rules.task.now.raw.goal in
      let others = map (condition_value atoms actions v) (preconditions_of rules.task.now) in
      let long : rules.behind ≡ length goal = is.goal ∙ sym (length-map (atoms_of rules.task.now.raw.goal) (condition_value atoms actions v)) in
      reads atoms actions v []
      (ap₂ drop long whole ∙ drop-append_seam goal others ∙ map_flat (condition_value atoms actions v) (λ (a : Ground). atoms_of a.pre) rules.task.now.raw.actions
      ∙ sym (append-nil (flat_map (λ a. weights_of atoms actions v a.pre) rules.task.now.raw.actions)))

-- the goal's value by values that solve the equations
pub estimate_found : (rules : Rules) (s : StateValue) (v weights numbers : List ℕ) (goal : GCond) (found : ℕ × ℕ) → AreRules rules → AreValues rules.task.now s v
    → weights ≡ weights_by (atoms_in rules.task.now s) rules.task.now.raw.actions v rules.network.now.atoms.items → numbers ≡ rules.network.now.numbers.items
    → goal ≡ rules.task.now.raw.goal → Evaluates (picked weights numbers) 0 goal found → IsEstimate rules.task.now s found.0
estimate_found rules s v weights numbers goal found are solve weighed is also reads = record {
  values = v;
  solve = solve;
  goal = goal_read rules are (atoms_in rules.task.now s) rules.task.now.raw.actions v weights weighed found
      (subst (λ (x : GCond). Evaluates (picked weights rules.network.now.numbers.items) 0 x found) also
      (subst (λ (ns : List ℕ). Evaluates (picked weights ns) 0 goal found) is reads));
}

-- the next values of the actions
pub next_found : (rules : Rules) (s : StateValue) (v weights numbers next : List ℕ) (those : List Ground) → AreRules rules
    → weights ≡ weights_by (atoms_in rules.task.now s) rules.task.now.raw.actions v rules.network.now.atoms.items → numbers ≡ rules.network.now.numbers.items
    → those ≡ rules.task.now.raw.actions → Revalues (picked weights numbers) rules.behind those next
    → next ≡ values_by (atoms_in rules.task.now s) rules.task.now.raw.actions v rules.task.now.raw.actions
next_found rules s v weights numbers next those are weighed is also reads =
    actions_read rules are (atoms_in rules.task.now s) rules.task.now.raw.actions v weights weighed next
    (subst (λ (xs : List Ground). Revalues (picked weights rules.network.now.numbers.items) rules.behind xs next) also
    (subst (λ (ns : List ℕ). Revalues (picked weights ns) rules.behind those next) is reads))

-- ---- rounds

sum_lower : (ns ms : List ℕ) → length ns ≡ length ms → ((i : ℕ) → i < length ns → at ms i ≤ at ns i) → (ms ≡ ns → ⊥) → sum ms < sum ns
sum_lower [] [] e less differ = absurd (differ refl)
sum_lower [] (m ∷ ms) e less differ = absurd (omega (arith, e))
sum_lower (n ∷ ns) [] e less differ = absurd (omega (arith, e))
sum_lower (n ∷ ns) (m ∷ ms) e less differ =
    let first : m ≤ n = less 0 (omega arith) in
    let rest : (i : ℕ) → i < length ns → at ms i ≤ at ns i = λ i h. less (suc i) (omega (arith, h)) in
    let long : length ns ≡ length ms = omega (arith, e) in
    let one = sum_by-cons (λ k. k) n ns in
    let other = sum_by-cons (λ k. k) m ms in
    elim (cases_order m n) [
      | inl same ↦ omega (arith, one, other, same, sum_lower ns ms long rest (λ equal. differ (ap₂ (λ (x : ℕ) (xs : List ℕ). x ∷ xs) same equal)))
      | inr (inl below) ↦ omega (arith, one, other, below, sum_no_more ns ms long rest)
      | inr (inr past) ↦ absurd (omega (arith, past, first))
    ]
  where
    sum_no_more : (xs ys : List ℕ) → length xs ≡ length ys → ((i : ℕ) → i < length xs → at ys i ≤ at xs i) → sum ys ≤ sum xs
    sum_no_more [] [] f h = omega arith
    sum_no_more [] (y ∷ ys) f h = absurd (omega (arith, f))
    sum_no_more (x ∷ xs) [] f h = absurd (omega (arith, f))
    sum_no_more (x ∷ xs) (y ∷ ys) f h =
        omega (arith, sum_by-cons (λ k. k) x xs, sum_by-cons (λ k. k) y ys, h 0 (omega arith), sum_no_more xs ys (omega (arith, f)) (λ i g. h (suc i) (omega (arith, g))))

module _ (t : TaskValue) (s : StateValue) (old new : List ℕ) (above : IsAbove (atoms_in t s) t.raw.actions old)
    (is : new ≡ values_by (atoms_in t s) t.raw.actions old t.raw.actions) where
  long : length new ≡ length t.raw.actions
  long = ap length is ∙ length-map t.raw.actions (λ (a : Ground). condition_value (atoms_in t s) t.raw.actions old a.pre)

  less : (i : ℕ) → i < length old → at new i ≤ at old i
  less i h = let here : at new i ≡ by_equation (atoms_in t s) t.raw.actions old i = ap (λ (v : List ℕ). at v i) is in
      omega (arith, here, above.above i (omega (arith, h, above.as_many)))

  pub round_above : IsAbove (atoms_in t s) t.raw.actions new
  round_above = record {
    as_many = long;
    above = λ i h.
        let here : at new i ≡ by_equation (atoms_in t s) t.raw.actions old i = ap (λ (v : List ℕ). at v i) is in
        omega (arith, here, lower_by_equation (atoms_in t s) (atoms_repeat t s) t.raw.actions old new (omega (arith, long, above.as_many)) less t.raw.actions i h);
  }

  pub round_equal : new ≡ old → AreLowered (atoms_in t s) t.raw.actions old old false
  round_equal same = (refl, sym same ∙ is)

  pub round_lower : (new ≡ old → ⊥) → AreLowered (atoms_in t s) t.raw.actions old new true
  round_lower differ = sum_lower old new (omega (arith, long, above.as_many)) less differ

  weights_lower : (those : List Atom) (k : ℕ) → k < length those
      → at (weights_by (atoms_in t s) t.raw.actions new those) k ≤ at (weights_by (atoms_in t s) t.raw.actions old those) k
  weights_lower [] k h = absurd (omega arith)
  weights_lower (a ∷ those) zero h = lower (atoms_in t s) (atoms_repeat t s) t.raw.actions old new (omega (arith, long, above.as_many)) less a.cond.now
  weights_lower (a ∷ those) (suc k) h = weights_lower those k (omega (arith, h))

  pub zeros_lower : (those : List Atom) (weights : List ℕ) → weights ≡ weights_by (atoms_in t s) t.raw.actions old those → AreZeros (atoms_in t s) t.raw.actions new those weights
  zeros_lower those weights weighed = λ k within none.
      let was : at weights k ≡ at (weights_by (atoms_in t s) t.raw.actions old those) k = ap (λ (ws : List ℕ). at ws k) weighed in
      omega (arith, weights_lower those k within, was, none)

pub zeros_kept : (t : TaskValue) (s : StateValue) (v : List ℕ) (those : List Atom) (weights : List ℕ) → weights ≡ weights_by (atoms_in t s) t.raw.actions v those
    → AreZeros (atoms_in t s) t.raw.actions v those weights
zeros_kept t s v those weights weighed = λ k within none. sym (ap (λ (ws : List ℕ). at ws k) weighed) ∙ none

pub far_zeros : (t : TaskValue) (s : StateValue) (v : List ℕ) (those : List Atom) (weights : List ℕ) → length weights ≡ length those
    → ((k : ℕ) → k < length weights → get_or weights k 0 ≡ FAR) → AreZeros (atoms_in t s) t.raw.actions v those weights
far_zeros t s v those weights long far = λ k within none. absurd (omega (arith, far k (omega (arith, within, long)), none))

-- rounds end, and end in a solution
module _ (t : TaskValue) (s : StateValue) (old new : List ℕ) (b : Bool) (h : AreLowered (atoms_in t s) t.raw.actions old new b) where
  pub round_solves : b ≡ false → AreValues t s new
  round_solves e = (subst (AreLowered (atoms_in t s) t.raw.actions old new) e h).1

  pub round_keeps : b ≡ false → new ≡ old
  round_keeps e = (subst (AreLowered (atoms_in t s) t.raw.actions old new) e h).0

  pub round_weighs : (those : List Atom) (weights : List ℕ) → weights ≡ weights_by (atoms_in t s) t.raw.actions old those → b ≡ false
      → weights ≡ weights_by (atoms_in t s) t.raw.actions new those
  round_weighs those weights is e = is ∙ ap (λ (v : List ℕ). weights_by (atoms_in t s) t.raw.actions v those) (sym (round_keeps e))

pub round_falls : (t : TaskValue) (s : StateValue) (old new : List ℕ) (b : Bool) → AreLowered (atoms_in t s) t.raw.actions old new b
    → 2 * sum new + cond b 1 0 < 2 * sum old + 1
round_falls t s old new true less = omega arith
round_falls t s old new false h = subst (λ (v : List ℕ). 2 * sum v + 0 < 2 * sum old + 1) (sym h.0) (omega arith)

pub far_above : (t : TaskValue) (s : StateValue) (v : List ℕ) → length v ≡ length t.raw.actions → ((i : ℕ) → i < length v → get_or v i 0 ≡ FAR)
    → IsAbove (atoms_in t s) t.raw.actions v
far_above t s v long far = above_far (atoms_in t s) (atoms_repeat t s) t.raw.actions v long (λ i within. far i (omega (arith, long)))
