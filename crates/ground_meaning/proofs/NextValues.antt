-- The changes of a fluent that folded effects make are those of the effects.
use Rattle.std.proofs.Common.{◌≡◌, ◌≤◌, ◌&&◌, ◌==◌, ◌++◌, ◌⊎◌, ℕ, Bool, true, false, not, List, [], ◌∷◌, length, Option, Some, None, Result, Ok, Err, refl, sym, ap, subst, ◌∙◌, inl, inr, arith, cond, eqb-true, eq-eqb, IfOk}
use Rattle.std.specs.Prelude.{bytes_eq, find, flat_map, fold, if◌then◌else◌}
use Rattle.std.specs.List.{list_all}
use Rattle.std.specs.FinMap as finite
use Rattle.std.proofs.lemmas.Option.{same_Some}
use Rattle.std.proofs.lemmas.Slice.Eq.{bytes_eq-Decides}
use Rattle.num_ends.specs.Decimal.{Decimal, difference_of, origin, product_of, sum_of, trimmed}
use Rattle.pddl_terms.specs.declared.names.Atom.{Atom}
use Rattle.pddl_terms.specs.declared.names.Typed.{Typed}
use Rattle.pddl_terms.specs.declared.actions.Assign.{Assign}
use Rattle.pddl_terms.specs.declared.actions.Assign.TheVariants as how
use Rattle.pddl_terms.specs.declared.actions.Effect.{Effect}
use Rattle.pddl_terms.specs.declared.actions.Effect.TheVariants as effect
use Rattle.pddl_terms.specs.declared.expressions.Op.TheVariants as op
use Rattle.pddl_terms.specs.declared.expressions.Expr.{Expr}
use Rattle.pddl_terms.specs.Texts.{ground_text}
use Rattle.pddl_types.specs.declared.pairs.Pair.{Pair}
use Rattle.pddl_types.specs.Contents.{expression_reads}
use Rattle.pddl_types.specs.WellFormed.{Each}
use Rattle.static_facts.specs.Atoms.{atom_of, value_at_first}
use Rattle.static_facts.specs.Fixed.{is_fixed_function}
use Rattle.static_facts.specs.Codes.{fluent_code}
use Rattle.pddl_meaning.specs.Worlds.{WorldValue}
use Rattle.pddl_meaning.specs.Values.{combined, exactly, reads_defined, value_of}
use Rattle.pddl_meaning.specs.Effects.{NumericEffect, effects_on, numeric_effect_by, is_joined, joined_sum, reads_old, value_after}
use Rattle.pddl_meaning.proofs.Bounds.{both_true, true_both}
use Rattle.ground_task.specs.declared.raw.GExpr.{GExpr}
use Rattle.ground_task.specs.declared.raw.GExpr.TheVariants as e
use Rattle.ground_meaning.specs.Results.{after, mapped}
use Rattle.ground_meaning.specs.Expressions.{FoldFault, Operand, difference, folded, product, sum}
use Rattle.ground_meaning.specs.Expressions.Operand.{constant, computed}
use Rattle.ground_meaning.specs.Actions.{FoldedChange, changes_from, growth, is_growth_of, replacement, with_change, with_effect, with_growth}
use Rattle.ground_meaning.proofs.ConditionFolds.{if_after, if_mapped}
use Rattle.ground_meaning.proofs.Simplified.{all_joined}
use Rattle.ground_meaning.proofs.ExpressionFolds as expressions
use Rattle.ground_meaning.proofs.ExpressionFolds.{is_difference, is_product, is_sum}

-- ---- the first change of a fluent in a list

abbrev pub change_at : ℕ → List FoldedChange → Option FoldedChange
change_at n changes = find (λ change. change.fluent == n) changes

own : (n : ℕ) → (n == n) ≡ true
own n = eq-eqb n n refl

at_end : (n : ℕ) (changes : List FoldedChange) (last : FoldedChange) → (last.fluent == n) ≡ true → change_at n changes ≡ None → change_at n (changes ++ last ∷ []) ≡ Some last
at_end n [] last is none = ap (λ (t : Bool). cond t (Some last) None) is
at_end n (c ∷ changes) last is none = by_test (c.fluent == n) none (at_end n changes last is)
  where
    by_test : (test : Bool) → cond test (Some c) (change_at n changes) ≡ None → (change_at n changes ≡ None → change_at n (changes ++ last ∷ []) ≡ Some last)
        → cond test (Some c) (change_at n (changes ++ last ∷ [])) ≡ Some last
    by_test true h more = cc
    by_test false h more = more h

not_at_end : (n : ℕ) (changes : List FoldedChange) (last : FoldedChange) → (last.fluent == n) ≡ false → change_at n (changes ++ last ∷ []) ≡ change_at n changes
not_at_end n [] last is = ap (λ (t : Bool). cond t (Some last) None) is
not_at_end n (c ∷ changes) last is = ap (cond (c.fluent == n) (Some c)) (not_at_end n changes last is)

-- ---- growths

module _ (join : Operand → Result Operand FoldFault) (first : Result Operand FoldFault) (x : ℕ) where
  -- of another fluent
  other_growth : (n : ℕ) → (x == n) ≡ false → (changes : List FoldedChange) → IfOk (with_growth join first x changes) (λ ds. change_at n ds ≡ change_at n changes)
  other_growth n other [] = by_first first
    where
      by_first : (r : Result Operand FoldFault) → IfOk (mapped (λ v. growth x v ∷ []) r) (λ ds. change_at n ds ≡ None)
      by_first (Ok v) = ap (λ (t : Bool). cond t (Some (growth x v)) None) other
      by_first (Err f) = tt
  other_growth n other (c ∷ changes) = by_test (is_growth_of x c) refl (other_growth n other changes)
    where
      parted : is_growth_of x c ≡ true → (c.fluent == n) ≡ false
      parted is = ap (λ (k : ℕ). k == n) (eqb-true c.fluent x (both_true (c.fluent == x) (not c.replaces) is).0) ∙ other

      of_join : (r : Result Operand FoldFault) → is_growth_of x c ≡ true → IfOk (mapped (λ v. growth x v ∷ changes) r) (λ ds. change_at n ds ≡ change_at n (c ∷ changes))
      of_join (Ok v) is = ap (λ (t : Bool). cond t (Some (growth x v)) (change_at n changes)) other ∙ sym (ap (λ (t : Bool). cond t (Some c) (change_at n changes)) (parted is))
      of_join (Err f) is = tt

      by_test : (test : Bool) → is_growth_of x c ≡ test → IfOk (with_growth join first x changes) (λ ds. change_at n ds ≡ change_at n changes)
          → IfOk (if test then mapped (λ v. growth x v ∷ changes) (join c.value) else mapped (λ others. c ∷ others) (with_growth join first x changes))
          (λ ds. change_at n ds ≡ change_at n (c ∷ changes))
      by_test true is more = of_join (join c.value) is
      by_test false is more =
          if_mapped (λ ds. change_at n ds ≡ change_at n changes) (λ ds. change_at n ds ≡ change_at n (c ∷ changes)) (λ others. c ∷ others) (with_growth join first x changes) more
          (λ ds h. ap (cond (c.fluent == n) (Some c)) h)

  module _ (P : Operand → Type 0) where
    -- a growth of the fluent with such a value is its first change
    abbrev pub GrowsBy : List FoldedChange → Type 0
    GrowsBy ds = (v : Operand) × (change_at x ds ≡ Some (growth x v)) × P v

    -- the first change of a fluent
    first_growth : IfOk first P → (changes : List FoldedChange) → change_at x changes ≡ None → IfOk (with_growth join first x changes) GrowsBy
    first_growth h [] none = if_mapped P GrowsBy (λ v. growth x v ∷ []) first h (λ v k. (v, ap (λ (t : Bool). cond t (Some (growth x v)) None) (own x), k))
    first_growth h (c ∷ changes) none = by_test (c.fluent == x) refl none (first_growth h changes)
      where
        by_test : (test : Bool) → (c.fluent == x) ≡ test → cond test (Some c) (change_at x changes) ≡ None
            → (change_at x changes ≡ None → IfOk (with_growth join first x changes) GrowsBy)
            → IfOk (if test && not c.replaces then mapped (λ v. growth x v ∷ changes) (join c.value) else mapped (λ others. c ∷ others) (with_growth join first x changes)) GrowsBy
        by_test true same is more = cc
        by_test false same is more =
            if_mapped GrowsBy GrowsBy (λ others. c ∷ others) (with_growth join first x changes) (more is)
            (λ ds k. (k.0, ap (λ (t : Bool). cond t (Some c) (change_at x ds)) same ∙ k.1, k.2))

    -- a further change of a fluent
    further_growth : (old : FoldedChange) → old.replaces ≡ false → IfOk (join old.value) P → (changes : List FoldedChange) → change_at x changes ≡ Some old
        → IfOk (with_growth join first x changes) GrowsBy
    further_growth old grows h [] there = cc
    further_growth old grows h (c ∷ changes) there = by_test (c.fluent == x) refl there (further_growth old grows h changes)
      where
        found : c ≡ old → (c.fluent == x) ≡ true
            → IfOk (if true && not c.replaces then mapped (λ v. growth x v ∷ changes) (join c.value) else mapped (λ others. c ∷ others) (with_growth join first x changes)) GrowsBy
        found is same =
            subst (λ (t : Bool). IfOk (if true && not t then mapped (λ v. growth x v ∷ changes) (join c.value) else mapped (λ others. c ∷ others) (with_growth join first x changes)) GrowsBy)
            (sym (ap (λ (d : FoldedChange). d.replaces) is ∙ grows))
            (if_mapped P GrowsBy (λ v. growth x v ∷ changes) (join c.value) (subst (λ (d : FoldedChange). IfOk (join d.value) P) (sym is) h)
            (λ v k. (v, ap (λ (t : Bool). cond t (Some (growth x v)) (change_at x changes)) (own x), k)))

        by_test : (test : Bool) → (c.fluent == x) ≡ test → cond test (Some c) (change_at x changes) ≡ Some old
            → (change_at x changes ≡ Some old → IfOk (with_growth join first x changes) GrowsBy)
            → IfOk (if test && not c.replaces then mapped (λ v. growth x v ∷ changes) (join c.value) else mapped (λ others. c ∷ others) (with_growth join first x changes)) GrowsBy
        by_test true same is more = found (same_Some c old is) same
        by_test false same is more =
            if_mapped GrowsBy GrowsBy (λ others. c ∷ others) (with_growth join first x changes) (more is)
            (λ ds k. (k.0, ap (λ (t : Bool). cond t (Some c) (change_at x ds)) same ∙ k.1, k.2))

-- an effect on another fluent leaves the first change of this one
other_change : (h : Assign) (x : ℕ) (v : Operand) (changes : List FoldedChange) (n : ℕ) → (x == n) ≡ false → IfOk (with_change h x v changes) (λ ds. change_at n ds ≡ change_at n changes)
other_change how.Set x v changes n other = not_at_end n changes (replacement x v) other
other_change how.Up x v changes n other = other_growth (λ old. sum old v) (Ok v) x n other changes
other_change how.Down x v changes n other = other_growth (λ old. difference old v) (difference (constant origin) v) x n other changes
other_change how.Scale x v changes n other = of_product (product (computed (e.Read x)) v)
  where
    of_product : (r : Result Operand FoldFault) → IfOk (mapped (λ scaled. changes ++ replacement x scaled ∷ []) r) (λ ds. change_at n ds ≡ change_at n changes)
    of_product (Ok scaled) = not_at_end n changes (replacement x scaled) other
    of_product (Err f) = tt

-- ---- lists

fold_end : {A B : Type 0} (f : B → A → B) (b : B) (xs : List A) (y : A) → fold f b (xs ++ y ∷ []) ≡ f (fold f b xs) y
fold_end f b [] y = refl
fold_end f b (x ∷ xs) y = fold_end f (f b x) xs y

longer : {A : Type 0} (xs : List A) (y : A) (ys : List A) → 1 ≤ length (xs ++ y ∷ ys)
longer [] y ys = omega arith
longer (x ∷ xs) y ys = omega arith

append_assoc : {A : Type 0} (xs ys zs : List A) → (xs ++ ys) ++ zs ≡ xs ++ (ys ++ zs)
append_assoc [] ys zs = refl
append_assoc (x ∷ xs) ys zs = ap (λ (us : List _). x ∷ us) (append_assoc xs ys zs)

append_nil : {A : Type 0} (xs : List A) → xs ++ [] ≡ xs
append_nil [] = refl
append_nil (x ∷ xs) = ap (λ (us : List _). x ∷ us) (append_nil xs)

weaken : {A E : Type 0} (r : Result A E) (P Q : A → Type 0) → ((a : A) → P a → Q a) → IfOk r P → IfOk r Q
weaken (Ok a) P Q more h = more a h
weaken (Err f) P Q more h = tt

-- ---- changes of one fluent

-- all are increases and decreases, or there is at most one
abbrev are_joined : List NumericEffect → Bool
are_joined changes = list_all (λ (d : NumericEffect). is_joined d.how) changes

abbrev pub IsPlain : List NumericEffect → Type 0
IsPlain changes = (are_joined changes ≡ true) ⊎ (length changes ≤ 1)

origin_trimmed : trimmed origin ≡ origin
unfolding trimmed
origin_trimmed = refl

module _ (p : Pair) (params : List Typed) (args : List (List ℕ)) (w : WorldValue) (IsGood : Atom → Type 0)
    (fixed_value : (a : Atom) → IsGood a → is_fixed_function p a.head.text ≡ true → finite.get w.values (ground_text params args a) ≡ value_at_first p (atom_of params args a)) where
  abbrev Matches : Operand → Option Decimal → Type 0
  Matches = expressions.Matches p params args w IsGood fixed_value

  abbrev Gives : GExpr → Option Decimal → Type 0
  Gives = expressions.Gives p params args w IsGood fixed_value

  abbrev value : Expr → Option Decimal
  value = value_of params args w

  -- a growth of the joined sum of increases and decreases
  abbrev pub Grows : NumericEffect → List NumericEffect → FoldedChange → Type 0
  Grows c rest change = (change.replaces ≡ false) × (are_joined (c ∷ rest) ≡ true) × Matches change.value (joined_sum exactly params args w c rest)

  -- the new value of a single assignment or scaling
  abbrev pub Replaces : List ℕ → NumericEffect → List NumericEffect → FoldedChange → Type 0
  Replaces text c rest change =
      (change.replaces ≡ true) × (rest ≡ []) × (is_joined c.how ≡ false) × Matches change.value (value_after exactly c.how (finite.get w.values text) (value c.by) None)

  -- a folded change does what the effects on a fluent do
  abbrev pub Made : List ℕ → List NumericEffect → Option FoldedChange → Type 0
  Made text [] None = Unit {0}
  Made text [] (Some change) = ⊥
  Made text (c ∷ rest) None = ⊥
  Made text (c ∷ rest) (Some change) = Grows c rest change ⊎ Replaces text c rest change

  module _ (n : ℕ) (text : List ℕ) (x : Expr) (v : Operand) (folds : Matches v (value x)) where
    abbrev by : Assign → NumericEffect
    by h = record { how = h; fluent = text; by = x }

    grown : (h : Assign) (c : NumericEffect) (rest : List NumericEffect) → are_joined (c ∷ rest) ≡ true → (ds : List FoldedChange)
        → ((u : Operand) × (change_at n ds ≡ Some (growth n u)) × Matches u (joined_sum exactly params args w c rest)) → Made text (c ∷ rest) (change_at n ds)
    grown h c rest joined ds g = subst (Made text (c ∷ rest)) (sym g.1) (inl (refl, joined, g.2))

    -- the first effect on the fluent
    first_change : (h : Assign) → (reads_old h ≡ true → Gives (e.Read n) (finite.get w.values text)) → (changes : List FoldedChange) → change_at n changes ≡ None
        → IfOk (with_change h n v changes) (λ ds. Made text (by h ∷ []) (change_at n ds))
    first_change how.Set old changes none = subst (Made text (by how.Set ∷ [])) (sym (at_end n changes (replacement n v) (own n) none)) (inr (refl, refl, refl, folds))
    first_change how.Up old changes none =
        weaken (with_growth (λ w. sum w v) (Ok v) n changes) _ _ (λ ds g. grown how.Up (by how.Up) [] refl ds g)
        (first_growth (λ w. sum w v) (Ok v) n (λ u. Matches u (joined_sum exactly params args w (by how.Up) [])) folds changes none)
    first_change how.Down old changes none =
        weaken (with_growth (λ w. difference w v) (difference (constant origin) v) n changes) _ _ (λ ds g. grown how.Down (by how.Down) [] refl ds g)
        (first_growth (λ w. difference w v) (difference (constant origin) v) n (λ u. Matches u (joined_sum exactly params args w (by how.Down) []))
        (expressions.operation_matches p params args w IsGood fixed_value op.Sub e.Sub difference_of is_difference (constant origin) v (Some origin) (value x) (refl, origin_trimmed) folds)
        changes none)
    first_change how.Scale old changes none =
        if_mapped (λ u. Matches u (combined exactly op.Mul (finite.get w.values text) (value x))) (λ ds. Made text (by how.Scale ∷ []) (change_at n ds))
        (λ scaled. changes ++ replacement n scaled ∷ []) (product (computed (e.Read n)) v)
        (expressions.operation_matches p params args w IsGood fixed_value op.Mul e.Mul product_of is_product (computed (e.Read n)) v (finite.get w.values text) (value x) (old refl) folds)
        (λ u k. subst (Made text (by how.Scale ∷ [])) (sym (at_end n changes (replacement n u) (own n) none)) (inr (refl, refl, refl, k)))

    -- a further increase or decrease
    further_change : (h : Assign) → is_joined h ≡ true → (c : NumericEffect) (rest : List NumericEffect) → are_joined (c ∷ (rest ++ by h ∷ [])) ≡ true
        → (before : FoldedChange) → Grows c rest before → (changes : List FoldedChange) → change_at n changes ≡ Some before
        → IfOk (with_change h n v changes) (λ ds. Made text (c ∷ (rest ++ by h ∷ [])) (change_at n ds))
    further_change how.Set is c rest joined before g changes there = cc
    further_change how.Scale is c rest joined before g changes there = cc
    further_change how.Up is c rest joined before g changes there =
        weaken (with_growth (λ w. sum w v) (Ok v) n changes) _ _ (λ ds k. grown how.Up c (rest ++ by how.Up ∷ []) joined ds k)
        (further_growth (λ w. sum w v) (Ok v) n (λ u. Matches u (joined_sum exactly params args w c (rest ++ by how.Up ∷ []))) before g.0
        (subst (λ (z : Option Decimal). IfOk (sum before.value v) (λ u. Matches u z)) (sym (fold_end _ _ rest (by how.Up)))
        (expressions.operation_matches p params args w IsGood fixed_value op.Add e.Add sum_of is_sum before.value v (joined_sum exactly params args w c rest) (value x) g.2 folds))
        changes there)
    further_change how.Down is c rest joined before g changes there =
        weaken (with_growth (λ w. difference w v) (difference (constant origin) v) n changes) _ _ (λ ds k. grown how.Down c (rest ++ by how.Down ∷ []) joined ds k)
        (further_growth (λ w. difference w v) (difference (constant origin) v) n (λ u. Matches u (joined_sum exactly params args w c (rest ++ by how.Down ∷ []))) before g.0
        (subst (λ (z : Option Decimal). IfOk (difference before.value v) (λ u. Matches u z)) (sym (fold_end _ _ rest (by how.Down)))
        (expressions.operation_matches p params args w IsGood fixed_value op.Sub e.Sub difference_of is_difference before.value v (joined_sum exactly params args w c rest) (value x) g.2 folds))
        changes there)

    joined_whole : (h : Assign) (c : NumericEffect) (between rest : List NumericEffect) → IsPlain (c ∷ (between ++ by h ∷ rest)) → are_joined (c ∷ (between ++ by h ∷ rest)) ≡ true
    joined_whole h c between rest (inl j) = j
    joined_whole h c between rest (inr few) = absurd (omega (arith, few, longer between (by h) rest))

    -- an effect on the fluent, where all on it can be joined
    own_change : (h : Assign) → (reads_old h ≡ true → Gives (e.Read n) (finite.get w.values text)) → (before rest : List NumericEffect) → IsPlain (before ++ by h ∷ rest)
        → (changes : List FoldedChange) (found : Option FoldedChange) → change_at n changes ≡ found → Made text before found
        → IfOk (with_change h n v changes) (λ ds. Made text (before ++ by h ∷ []) (change_at n ds))
    own_change h old [] rest plain changes None is made = first_change h old changes is
    own_change h old [] rest plain changes (Some change) is made = elim made [ ]
    own_change h old (c ∷ between) rest plain changes None is made = elim made [ ]
    own_change h old (c ∷ between) rest plain changes (Some change) is (inl g) =
        let all = both_true (is_joined c.how) (are_joined (between ++ by h ∷ rest)) (joined_whole h c between rest plain) in
        let parts = both_true (are_joined between) (are_joined (by h ∷ rest)) (sym (all_joined (λ (d : NumericEffect). is_joined d.how) between (by h ∷ rest)) ∙ all.1) in
        let this = (both_true (is_joined h) (are_joined rest) parts.1).0 in
        further_change h this c between
        (true_both _ _ all.0 (all_joined (λ (d : NumericEffect). is_joined d.how) between (by h ∷ []) ∙ true_both _ _ parts.0 (true_both _ _ this refl)))
        change g changes is
    own_change h old (c ∷ between) rest plain changes (Some change) is (inr r) =
        let all = both_true (is_joined c.how) (are_joined (between ++ by h ∷ rest)) (joined_whole h c between rest plain) in
        let bad = sym all.0 ∙ r.2 in cc

  -- an effect's code and text tell a fluent in the same way, and all that it reads is defined
  abbrev pub IsReadyEffect : ℕ → List ℕ → Effect → Type 0
  IsReadyEffect n text (effect.Add a) = Unit {0}
  IsReadyEffect n text (effect.Del a) = Unit {0}
  IsReadyEffect n text (effect.Num h a x) =
      ((fluent_code p (atom_of params args a) == n) ≡ bytes_eq text (ground_text params args a))
      × IsGood a × (is_fixed_function p a.head.text ≡ false) × Each IsGood (expression_reads x).all × (reads_defined params args w x ≡ true)
      × (reads_old h ≡ true → finite.contains_key w.values (ground_text params args a) ≡ true)

  module _ (n : ℕ) (text : List ℕ) where
    abbrev on : List Effect → List NumericEffect
    on effects = effects_on text (flat_map (numeric_effect_by params args) effects)

    abbrev Done : List NumericEffect → List FoldedChange → Type 0
    Done before ds = Made text before (change_at n ds)

    module _ (next : List FoldedChange → Result (List FoldedChange) FoldFault) (later : List NumericEffect)
        (goes_on : (so_far : List NumericEffect) (ds : List FoldedChange) → Done so_far ds → IsPlain (so_far ++ later) → IfOk (next ds) (Done (so_far ++ later))) where
      numeric_step : (h : Assign) (a : Atom) (x : Expr) → IsReadyEffect n text (effect.Num h a x) → (before : List NumericEffect) (changes : List FoldedChange) → Done before changes
          → (test : Bool) → bytes_eq text (ground_text params args a) ≡ test
          → IsPlain (before ++ cond test (record { how = h; fluent = ground_text params args a; by = x } ∷ later) later)
          → IfOk (after next (with_effect p params args changes (effect.Num h a x))) (Done (before ++ cond test (record { how = h; fluent = ground_text params args a; by = x } ∷ later) later))
      numeric_step h a x ready before changes done true is plain =
          let fluent = (bytes_eq-Decides text (ground_text params args a)).0 is in
          let code = eqb-true (fluent_code p (atom_of params args a)) n (ready.0 ∙ is) in
          let this : NumericEffect = record { how = h; fluent = ground_text params args a; by = x } in
          let old = λ (reads : reads_old h ≡ true). expressions.read_gives p params args w IsGood fixed_value a ready.1 ready.2 (ready.5 reads) in
          subst (λ (us : List NumericEffect). IfOk (after next (with_effect p params args changes (effect.Num h a x))) (Done us)) (append_assoc before (this ∷ []) later)
          (if_after (Done (before ++ this ∷ [])) (Done ((before ++ this ∷ []) ++ later)) next (with_effect p params args changes (effect.Num h a x))
          (if_after (λ v. Matches v (value x)) (Done (before ++ this ∷ [])) (λ v. with_change h (fluent_code p (atom_of params args a)) v changes) (folded p params args x)
          (expressions.fold_is_sound p params args w IsGood fixed_value x ready.3 ready.4)
          (λ v folds.
          subst (λ (k : ℕ). IfOk (with_change h k v changes) (Done (before ++ this ∷ []))) (sym code)
          (subst (λ (t : List ℕ). IfOk (with_change h n v changes) (λ ds. Made text (before ++ record { how = h; fluent = t; by = x } ∷ []) (change_at n ds))) fluent
          (own_change n text x v folds h
          (λ reads. subst (λ (k : ℕ). Gives (e.Read k) (finite.get w.values text)) code (subst (λ (t : List ℕ). Gives (e.Read (fluent_code p (atom_of params args a))) (finite.get w.values t)) (sym fluent) (old reads)))
          before later (subst (λ (t : List ℕ). IsPlain (before ++ record { how = h; fluent = t; by = x } ∷ later)) (sym fluent) plain) changes (change_at n changes) refl done))))
          (λ ds k. goes_on (before ++ this ∷ []) ds k (subst IsPlain (sym (append_assoc before (this ∷ []) later)) plain)))
      numeric_step h a x ready before changes done false is plain =
          let other = ready.0 ∙ is in
          if_after (Done before) (Done (before ++ later)) next (with_effect p params args changes (effect.Num h a x))
          (if_after (λ v. Matches v (value x)) (Done before) (λ v. with_change h (fluent_code p (atom_of params args a)) v changes) (folded p params args x)
          (expressions.fold_is_sound p params args w IsGood fixed_value x ready.3 ready.4)
          (λ v folds.
          weaken (with_change h (fluent_code p (atom_of params args a)) v changes) _ _ (λ ds same. subst (Made text before) (sym same) done)
          (other_change h (fluent_code p (atom_of params args a)) v changes n other)))
          (λ ds k. goes_on before ds k plain)

    -- the folded changes of further effects do what the effects do, where all on the fluent can be joined
    pub changes_made : (effects : List Effect) → Each (IsReadyEffect n text) effects → (before : List NumericEffect) (changes : List FoldedChange) → Done before changes
        → IsPlain (before ++ on effects) → IfOk (changes_from p params args changes effects) (Done (before ++ on effects))
    changes_made [] ready before changes done plain = subst (λ (us : List NumericEffect). Done us changes) (sym (append_nil before)) done
    changes_made (effect.Add a ∷ effects) ready before changes done plain = changes_made effects ready.1 before changes done plain
    changes_made (effect.Del a ∷ effects) ready before changes done plain = changes_made effects ready.1 before changes done plain
    changes_made (effect.Num h a x ∷ effects) ready before changes done plain =
        numeric_step (λ ds. changes_from p params args ds effects) (on effects) (λ so_far ds k few. changes_made effects ready.1 so_far ds k few)
        h a x ready.0 before changes done (bytes_eq text (ground_text params args a)) refl plain
