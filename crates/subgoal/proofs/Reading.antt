-- Conditions are read by the values of their atoms, in the order in which these stand.
use Rattle.std.proofs.Common.{◌≡◌, ℕ, ◌+◌, ◌<◌, ◌≤◌, ◌++◌, Bool, List, [], ◌∷◌, length, drop, get_or, map, min, sum, sym, ap, ◌∙◌, arith, append_assoc, slice_index_or}
use Rattle.std.specs.List.{flat_map}
use Rattle.std.proofs.lemmas.List.{drop_all, drop-map, length-map}
use Rattle.std.proofs.lemmas.List.Concat.{flat_map-cons}
use Rattle.std.proofs.lemmas.List.Sums.{sum_by-cons}
use Rattle.ground_task.specs.declared.raw.Rel.{Rel}
use Rattle.ground_task.specs.declared.raw.GExpr.{GExpr}
use Rattle.ground_task.specs.declared.raw.GCond.{GCond}
use Rattle.ground_task.specs.declared.raw.GCond.TheVariants as c
use Rattle.ground_task.specs.declared.raw.Ground.{Ground}
use Rattle.simple_atoms.specs.declared.linear.TheConstants.{FAR}
use Rattle.subgoal.specs.Equations.{Atoms, condition_value, least_of}
use Rattle.subgoal.specs.Network.{atoms_of, picked, weights_of, Evaluates, EvaluatesEach, EvaluatesOne}
use Rattle.subgoal.proofs.AtomLists.{atoms_True, atoms_False, atoms_Fact, atoms_Cmp, weights_And, weights_Or}
use Rattle.subgoal.proofs.Steps.{min_order, next}
use Rattle.subgoal.proofs.Uniqueness.{value-True, value-False, value-And, value-Or}

-- ---- single values

nothing_left : (xs : List ℕ) (at value : ℕ) (rest : List ℕ) → length xs ≤ at → drop at xs ≡ value ∷ rest → ⊥
nothing_left xs at value rest past e = clash (sym (drop_all at xs past) ∙ e)
  where
    clash : [] ≡ value ∷ rest → ⊥
    clash f = cc

module _ (weights numbers : List ℕ) (at : ℕ) where
  pub one_missing : (found : ℕ × ℕ) → length numbers ≤ at → EvaluatesOne (picked weights numbers) at found
  one_missing found past = λ value rest e.
      absurd (nothing_left (picked weights numbers) at value rest (omega (arith, past, length-map numbers (λ (k : ℕ). slice_index_or weights k 0))) e)

  pub one_read : (n other value : ℕ) → at < length numbers → n ≡ get_or numbers at other → value ≡ slice_index_or weights n 0
      → EvaluatesOne (picked weights numbers) at (value, at + 1)
  one_read n other value within is its = λ other_value rest e.
      let f : ℕ → ℕ = λ k. slice_index_or weights k 0 in
      let whole : f n ∷ map f (drop (at + 1) numbers) ≡ other_value ∷ rest =
      sym (ap (map f) (next numbers at n other within is)) ∙ sym (drop-map f at numbers) ∙ e in
      let head : f n ≡ other_value = cc in
      let tail : map f (drop (at + 1) numbers) ≡ rest = cc in
      (its ∙ head, drop-map f (at + 1) numbers ∙ tail)

-- ---- conditions

module _ (weights : List ℕ) (at : ℕ) (x : GCond) where
  pub read_True : x ≡ c.True → Evaluates weights at x (0, at)
  read_True is = λ atoms actions v rest e. (
    sym (ap (condition_value atoms actions v) is ∙ value-True atoms actions v),
    e ∙ ap (λ (cs : List GCond). map (condition_value atoms actions v) cs ++ rest) (ap atoms_of is ∙ atoms_True),
  )

  pub read_False : x ≡ c.False → Evaluates weights at x (FAR, at)
  read_False is = λ atoms actions v rest e. (
    sym (ap (condition_value atoms actions v) is ∙ value-False atoms actions v),
    e ∙ ap (λ (cs : List GCond). map (condition_value atoms actions v) cs ++ rest) (ap atoms_of is ∙ atoms_False),
  )

  pub read_Fact : (f : ℕ) (truth : Bool) (found : ℕ × ℕ) → x ≡ c.Fact f truth → EvaluatesOne weights at found → Evaluates weights at x found
  read_Fact f truth found is h = λ atoms actions v rest e.
      let got = h (condition_value atoms actions v (c.Fact f truth)) rest
      (e ∙ ap (λ (cs : List GCond). map (condition_value atoms actions v) cs ++ rest) (ap atoms_of is ∙ atoms_Fact f truth)) in
      (got.0 ∙ sym (ap (condition_value atoms actions v) is), got.1)

  pub read_Cmp : (r : Rel) (a b : GExpr) (found : ℕ × ℕ) → x ≡ c.Cmp r a b → EvaluatesOne weights at found → Evaluates weights at x found
  read_Cmp r a b found is h = λ atoms actions v rest e.
      let got = h (condition_value atoms actions v (c.Cmp r a b)) rest
      (e ∙ ap (λ (cs : List GCond). map (condition_value atoms actions v) cs ++ rest) (ap atoms_of is ∙ atoms_Cmp r a b)) in
      (got.0 ∙ sym (ap (condition_value atoms actions v) is), got.1)

  pub read_And : (cs : List GCond) (found : ℕ × ℕ) → x ≡ c.And cs → EvaluatesEach weights at cs (λ ns. min FAR (sum ns)) found → Evaluates weights at x found
  read_And cs found is h = λ atoms actions v rest e.
      let got = h atoms actions v rest (e ∙ ap (λ (ns : List ℕ). ns ++ rest) (ap (weights_of atoms actions v) is ∙ weights_And atoms actions v cs)) in
      (got.0 ∙ sym (ap (condition_value atoms actions v) is ∙ value-And atoms actions v cs), got.1)

  pub read_Or : (cs : List GCond) (found : ℕ × ℕ) → x ≡ c.Or cs → EvaluatesEach weights at cs least_of found → Evaluates weights at x found
  read_Or cs found is h = λ atoms actions v rest e.
      let got = h atoms actions v rest (e ∙ ap (λ (ns : List ℕ). ns ++ rest) (ap (weights_of atoms actions v) is ∙ weights_Or atoms actions v cs)) in
      (got.0 ∙ sym (ap (condition_value atoms actions v) is ∙ value-Or atoms actions v cs), got.1)

-- ---- members, one after another

-- behind the first i members what is left of the values is that of the others, and a part of the value makes the whole
abbrev pub AreLeft : List ℕ → ℕ → List GCond → ℕ → ℕ → (List ℕ → ℕ) → (List ℕ → ℕ) → Type 0
AreLeft weights at cs i now part whole =
    (atoms : Atoms) (actions : List Ground) (v rest : List ℕ) → drop at weights ≡ flat_map (weights_of atoms actions v) cs ++ rest
    → (drop now weights ≡ flat_map (weights_of atoms actions v) (drop i cs) ++ rest)
    × (part (map (condition_value atoms actions v) (drop i cs)) ≡ whole (map (condition_value atoms actions v) cs))

-- the values of the first of the things that are left, and of those behind it
pub split_left : {X : Type 0} (f : X → List ℕ) (xs : List X) (i : ℕ) (x other : X) (rest left : List ℕ) → i < length xs → x ≡ get_or xs i other
    → left ≡ flat_map f (drop i xs) ++ rest → left ≡ f x ++ (flat_map f (drop (i + 1) xs) ++ rest)
split_left f xs i x other rest left within is e =
    e ∙ ap (λ (ns : List ℕ). ns ++ rest) (ap (flat_map f) (next xs i x other within is) ∙ flat_map-cons f x (drop (i + 1) xs))
    ∙ append_assoc (f x) (flat_map f (drop (i + 1) xs)) rest

module _ (weights : List ℕ) (at : ℕ) (cs : List GCond) where
  pub left_first : (part whole : List ℕ → ℕ) → ((ns : List ℕ) → part ns ≡ whole ns) → AreLeft weights at cs 0 at part whole
  left_first part whole same = λ atoms actions v rest e. (e, same (map (condition_value atoms actions v) cs))

  pub left_next : (i now : ℕ) (x other : GCond) (found : ℕ × ℕ) (part more whole : List ℕ → ℕ) → i < length cs → x ≡ get_or cs i other → Evaluates weights now x found
      → ((ns : List ℕ) → more ns ≡ part (found.0 ∷ ns)) → AreLeft weights at cs i now part whole → AreLeft weights at cs (i + 1) found.1 more whole
  left_next i now x other found part more whole within is reads same h = λ atoms actions v rest e.
      let f = condition_value atoms actions v in
      let before = h atoms actions v rest e in
      let got = reads atoms actions v (flat_map (weights_of atoms actions v) (drop (i + 1) cs) ++ rest)
      (split_left (weights_of atoms actions v) cs i x other rest (drop now weights) within is before.0) in (
        got.1,
        same (map f (drop (i + 1) cs)) ∙ ap (λ (n : ℕ). part (n ∷ map f (drop (i + 1) cs))) got.0
            ∙ sym (ap (λ (ys : List GCond). part (map f ys)) (next cs i x other within is)) ∙ before.1,
      )

  pub left_end : (i now value : ℕ) (part whole : List ℕ → ℕ) → length cs ≤ i → value ≡ part [] → AreLeft weights at cs i now part whole
      → EvaluatesEach weights at cs whole (value, now)
  left_end i now value part whole past is h = λ atoms actions v rest e.
      let before = h atoms actions v rest e in (
        is ∙ sym (ap (λ (ys : List GCond). part (map (condition_value atoms actions v) ys)) (drop_all i cs past)) ∙ before.1,
        before.0 ∙ ap (λ (ys : List GCond). flat_map (weights_of atoms actions v) ys ++ rest) (drop_all i cs past),
      )

-- ---- sums and least values

sum_cut : (total n rest whole : ℕ) → whole ≡ n + rest → min FAR (min FAR (total + n) + rest) ≡ min FAR (total + whole)
sum_cut total n rest whole e = omega arith

pub sum_more : (total n together : ℕ) → together ≡ min FAR (total + n) → (ns : List ℕ) → min FAR (together + sum ns) ≡ min FAR (total + sum (n ∷ ns))
sum_more total n together is ns =
    ap (λ (m : ℕ). min FAR (m + sum ns)) is ∙ sum_cut total n (sum ns) (sum (n ∷ ns)) (sum_by-cons (λ m. m) n ns)

pub least_more : (least n less : ℕ) → less ≡ min least n → (ns : List ℕ) → min less (least_of ns) ≡ min least (least_of (n ∷ ns))
unfolding least_of
least_more least n less is ns = ap (λ (m : ℕ). min m (least_of ns)) is ∙ min_order least n (least_of ns)

pub least_end : (least : ℕ) → least ≤ FAR → least ≡ min least (least_of [])
unfolding least_of
least_end least near = omega (arith, near)
