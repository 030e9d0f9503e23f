-- Of the folded changes of compatible effects no two are on one fluent.
use Rattle.std.proofs.Common.{◌≡◌, ◌≢◌, ◌<◌, ◌≤◌, ◌==◌, ◌||◌, ◌++◌, ℕ, suc, Bool, true, false, not, List, [], ◌∷◌, length, Result, Ok, Err, refl, sym, ap, subst, ◌∙◌, inl, inr, arith, cond, eq-eqb, eqb-true, leb-true, IfOk}
use Rattle.std.specs.Prelude.{bytes_eq, flat_map, nat_le, if◌then◌else◌}
use Rattle.std.specs.List.{list_all}
use Rattle.std.proofs.lemmas.Slice.Eq.{bytes_eq-Decides}
use Rattle.num_ends.specs.Decimal.{origin}
use Rattle.pddl_terms.specs.declared.names.Atom.{Atom}
use Rattle.pddl_terms.specs.declared.names.Typed.{Typed}
use Rattle.pddl_terms.specs.declared.actions.Assign.{Assign}
use Rattle.pddl_terms.specs.declared.actions.Assign.TheVariants as how
use Rattle.pddl_terms.specs.declared.actions.Effect.{Effect}
use Rattle.pddl_terms.specs.declared.actions.Effect.TheVariants as effect
use Rattle.pddl_terms.specs.declared.actions.Schema.{Schema}
use Rattle.pddl_terms.specs.declared.expressions.Expr.{Expr}
use Rattle.pddl_terms.specs.Readable.{IsReadable}
use Rattle.pddl_terms.specs.Texts.{ground_text}
use Rattle.pddl_types.specs.declared.pairs.Pair.{Pair}
use Rattle.pddl_types.specs.Contents.{fluent_changed}
use Rattle.pddl_types.specs.Pairs.{objects_of}
use Rattle.pddl_types.specs.WellFormed.{Each, Stands, WellFormed}
use Rattle.static_facts.specs.Atoms.{atom_of, names, text_of_atom}
use Rattle.static_facts.specs.Codes.{fluent_code}
use Rattle.pddl_meaning.specs.Effects.{NumericEffect, are_compatible, effects_on, is_joined, numeric_effect_by, numeric_effects}
use Rattle.pddl_meaning.proofs.Bounds.{both_true, true_both}
use Rattle.ground_task.specs.declared.raw.GExpr.TheVariants as e
use Rattle.ground_meaning.specs.Results.{mapped}
use Rattle.ground_meaning.specs.Expressions.{FoldFault, Operand, difference, folded, product, sum}
use Rattle.ground_meaning.specs.Expressions.Operand.{constant, computed}
use Rattle.ground_meaning.specs.Actions.{FoldedChange, changes_from, growth, is_growth_of, replacement, with_change, with_effect, with_growth}
use Rattle.ground_meaning.proofs.BoundAtoms.{member_passes}
use Rattle.ground_meaning.proofs.CodedAtoms.{same_code}
use Rattle.ground_meaning.proofs.ConditionFolds.{if_after, if_mapped}
use Rattle.ground_meaning.proofs.KeptActions.{stands_flat}
use Rattle.ground_meaning.proofs.Lists.{each_joined, each_more, each_stands, each_where}
use Rattle.ground_meaning.proofs.Pairs.{Apart, apart_joined}
use Rattle.ground_meaning.proofs.ReadyEffects.{GoodFluent, fluent_there}

abbrev pub FluentsApart : FoldedChange → FoldedChange → Type 0
FluentsApart change other = change.fluent ≢ other.fluent

both_ok : {A E : Type 0} (P Q : A → Type 0) (r : Result A E) → IfOk r P → IfOk r Q → IfOk r (λ a. P a × Q a)
both_ok P Q (Ok a) h k = (h, k)
both_ok P Q (Err f) h k = tt

any_ok : {A E : Type 0} (r : Result A E) → IfOk r (λ _. Unit {0})
any_ok (Ok a) = tt
any_ok (Err f) = tt

-- ---- growths

module _ (join : Operand → Result Operand FoldFault) (first : Result Operand FoldFault) (x : ℕ) where
  growth_keeps : (Q : FoldedChange → Type 0) → ((v : Operand) → Q (growth x v)) → (changes : List FoldedChange) → Each Q changes → IfOk (with_growth join first x changes) (Each Q)
  growth_keeps Q new [] h = if_mapped _ (Each Q) (λ v. growth x v ∷ []) first (any_ok first) (λ v k. (new v, tt))
  growth_keeps Q new (change ∷ changes) h = by_test (is_growth_of x change) (growth_keeps Q new changes h.1)
    where
      by_test : (test : Bool) → IfOk (with_growth join first x changes) (Each Q)
          → IfOk (if test then mapped (λ v. growth x v ∷ changes) (join change.value) else mapped (λ others. change ∷ others) (with_growth join first x changes)) (Each Q)
      by_test true rest = if_mapped _ (Each Q) (λ v. growth x v ∷ changes) (join change.value) (any_ok (join change.value)) (λ v k. (new v, h.1))
      by_test false rest = if_mapped (Each Q) (Each Q) (λ others. change ∷ others) (with_growth join first x changes) rest (λ ds k. (h.0, k))

  -- where each change of the fluent is a growth, it is joined to that
  growth_apart : (changes : List FoldedChange) → Apart FluentsApart changes → Each (λ change. change.fluent ≡ x → change.replaces ≡ false) changes
      → IfOk (with_growth join first x changes) (Apart FluentsApart)
  growth_apart [] h grows = if_mapped _ (Apart FluentsApart) (λ v. growth x v ∷ []) first (any_ok first) (λ v k. (tt, tt))
  growth_apart (change ∷ changes) h grows = by_test (is_growth_of x change) refl (growth_apart changes h.1 grows.1)
    where
      other : is_growth_of x change ≡ false → change.fluent ≢ x
      other is same =
          let bad = sym is ∙ true_both (change.fluent == x) (not change.replaces) (eq-eqb change.fluent x same) (ap not (grows.0 same)) in cc

      by_test : (test : Bool) → is_growth_of x change ≡ test → IfOk (with_growth join first x changes) (Apart FluentsApart)
          → IfOk (if test then mapped (λ v. growth x v ∷ changes) (join change.value) else mapped (λ others. change ∷ others) (with_growth join first x changes)) (Apart FluentsApart)
      by_test true is rest =
          let same = eqb-true change.fluent x (both_true (change.fluent == x) (not change.replaces) is).0 in
          if_mapped _ (Apart FluentsApart) (λ v. growth x v ∷ changes) (join change.value) (any_ok (join change.value))
          (λ v k. (each_more (FluentsApart change) (FluentsApart (growth x v)) changes (λ d differs e. differs (same ∙ e)) h.0, h.1))
      by_test false is rest =
          if_mapped (λ ds. Each (FluentsApart change) ds × Apart FluentsApart ds) (Apart FluentsApart) (λ others. change ∷ others) (with_growth join first x changes)
          (both_ok (Each (FluentsApart change)) (Apart FluentsApart) (with_growth join first x changes) (growth_keeps (FluentsApart change) (λ v. other is) changes h.0) rest)
          (λ ds k. k)

module _ (p : Pair) (params : List Typed) (args : List (List ℕ)) where
  -- a change of this fluent can be joined with what an effect does
  abbrev Joins : Bool → ℕ → Effect → Type 0
  Joins grows n (effect.Add a) = Unit {0}
  Joins grows n (effect.Del a) = Unit {0}
  Joins grows n (effect.Num h a x) = n ≡ fluent_code p (atom_of params args a) → (grows ≡ true) × (is_joined h ≡ true)

  -- each two effects on one fluent can be joined
  abbrev AreJoined : List Effect → Type 0
  AreJoined [] = Unit {0}
  AreJoined (effect.Add a ∷ effects) = AreJoined effects
  AreJoined (effect.Del a ∷ effects) = AreJoined effects
  AreJoined (effect.Num h a x ∷ effects) = Each (Joins (is_joined h) (fluent_code p (atom_of params args a))) effects × AreJoined effects

  abbrev JoinsAll : List Effect → FoldedChange → Type 0
  JoinsAll effects change = Each (Joins (not change.replaces) change.fluent) effects

  -- the changes are apart, and can be joined with further effects
  abbrev AreFit : List Effect → List FoldedChange → Type 0
  AreFit effects changes = Apart FluentsApart changes × Each (JoinsAll effects) changes

  module _ (effects : List Effect) (x : ℕ) where
    abbrev Growing : FoldedChange → Type 0
    Growing change = change.fluent ≡ x → change.replaces ≡ false

    replaced : (v : Operand) → Each (Joins false x) effects → (changes : List FoldedChange) → Each (λ change. change.fluent ≢ x) changes → AreFit effects changes
        → AreFit effects (changes ++ replacement x v ∷ [])
    replaced v joins changes others fit = (
      apart_joined FluentsApart changes (replacement x v ∷ []) fit.0 (tt, tt) (each_more _ _ changes (λ change h. (h, tt)) others),
      each_joined (JoinsAll effects) changes (replacement x v ∷ []) fit.1 (joins, tt),
    )

    grown : (join : Operand → Result Operand FoldFault) (first : Result Operand FoldFault) → Each (Joins true x) effects → (changes : List FoldedChange) → Each Growing changes → AreFit effects changes
        → IfOk (with_growth join first x changes) (AreFit effects)
    grown join first joins changes growing fit =
        both_ok (Apart FluentsApart) (Each (JoinsAll effects)) (with_growth join first x changes) (growth_apart join first x changes fit.0 growing)
        (growth_keeps join first x (JoinsAll effects) (λ v. joins) changes fit.1)

    change_fits : (h : Assign) (v : Operand) → Each (Joins (is_joined h) x) effects → (changes : List FoldedChange)
        → Each (λ change. change.fluent ≡ x → (not change.replaces ≡ true) × (is_joined h ≡ true)) changes → AreFit effects changes → IfOk (with_change h x v changes) (AreFit effects)
    change_fits how.Set v joins changes own fit = replaced v joins changes (each_more _ _ changes (λ change k same. let bad = (k same).1 in cc) own) fit
    change_fits how.Up v joins changes own fit = grown (λ w. sum w v) (Ok v) joins changes (each_more _ Growing changes (λ change k same. not_replacing change.replaces (k same).0) own) fit
      where
        not_replacing : (b : Bool) → not b ≡ true → b ≡ false
        not_replacing true h = cc
        not_replacing false h = refl
    change_fits how.Down v joins changes own fit =
        grown (λ w. difference w v) (difference (constant origin) v) joins changes (each_more _ Growing changes (λ change k same. not_replacing change.replaces (k same).0) own) fit
      where
        not_replacing : (b : Bool) → not b ≡ true → b ≡ false
        not_replacing true h = cc
        not_replacing false h = refl
    change_fits how.Scale v joins changes own fit =
        if_mapped (λ (u : Operand). Unit {0}) (AreFit effects) (λ scaled. changes ++ replacement x scaled ∷ []) (product (computed (e.Read x)) v) (any_ok (product (computed (e.Read x)) v))
        (λ scaled k. replaced scaled joins changes (each_more _ _ changes (λ change k same. let bad = (k same).1 in cc) own) fit)

  changes_fit : (effects : List Effect) → AreJoined effects → (changes : List FoldedChange) → AreFit effects changes → IfOk (changes_from p params args changes effects) (Apart FluentsApart)
  changes_fit [] joined changes fit = fit.0
  changes_fit (effect.Add a ∷ effects) joined changes fit = changes_fit effects joined changes (fit.0, each_more _ (JoinsAll effects) changes (λ change h. h.1) fit.1)
  changes_fit (effect.Del a ∷ effects) joined changes fit = changes_fit effects joined changes (fit.0, each_more _ (JoinsAll effects) changes (λ change h. h.1) fit.1)
  changes_fit (effect.Num h a x ∷ effects) joined changes fit =
      if_after (AreFit effects) (Apart FluentsApart) (λ further. changes_from p params args further effects) (with_effect p params args changes (effect.Num h a x))
      (if_after (λ _. Unit {0}) (AreFit effects) (λ v. with_change h (fluent_code p (atom_of params args a)) v changes) (folded p params args x) (any_ok (folded p params args x))
      (λ v _. change_fits effects (fluent_code p (atom_of params args a)) h v joined.0 changes (each_more _ _ changes (λ change k. k.0) fit.1)
      (fit.0, each_more _ (JoinsAll effects) changes (λ change k. k.1) fit.1)))
      (λ ds k. changes_fit effects joined.1 ds k)

-- ---- compatible effects can be joined

module _ (text : List ℕ) where
  on_own : (d : NumericEffect) (changes : List NumericEffect) → text ≡ d.fluent → length (effects_on text (d ∷ changes)) ≡ suc (length (effects_on text changes))
  on_own d changes same =
      ap (λ (t : Bool). length (cond t (d ∷ effects_on text changes) (effects_on text changes))) ((bytes_eq-Decides text d.fluent).1 same)

  on_more : (d : NumericEffect) (changes : List NumericEffect) → length (effects_on text changes) ≤ length (effects_on text (d ∷ changes))
  on_more d changes = by_test (bytes_eq text d.fluent)
    where
      by_test : (test : Bool) → length (effects_on text changes) ≤ length (cond test (d ∷ effects_on text changes) (effects_on text changes))
      by_test true = omega arith
      by_test false = omega arith

  on_some : (d : NumericEffect) (changes : List NumericEffect) → text ≡ d.fluent → Stands d changes → 1 ≤ length (effects_on text changes)
  on_some d [] same s = elim s [ ]
  on_some d (c ∷ changes) same (inl e) = let own = on_own c changes (same ∙ ap (λ (u : NumericEffect). u.fluent) e) in omega (arith, own)
  on_some d (c ∷ changes) same (inr s) = let rest = on_some d changes same s in let more = on_more c changes in omega (arith, rest, more)

-- among two effects on one fluent this one is joined
joined_of_two : (whole : List NumericEffect) (d : NumericEffect) → (is_joined d.how || nat_le (length (effects_on d.fluent whole)) 1) ≡ true → 2 ≤ length (effects_on d.fluent whole) → is_joined d.how ≡ true
joined_of_two whole d h two = by_test (is_joined d.how) h
  where
    by_test : (test : Bool) → (test || nat_le (length (effects_on d.fluent whole)) 1) ≡ true → test ≡ true
    by_test true k = refl
    by_test false k = absurd (omega (arith, two, leb-true (length (effects_on d.fluent whole)) 1 k))

module _ (p : Pair) (readable : IsReadable p.domain p.problem) (formed : WellFormed p) (s : Schema) (os : List ℕ)
    (known : Each (λ o. o < length (objects_of p)) os) (as_many : length os ≡ length s.params) where
  abbrev Good : Atom → Type 0
  Good = GoodFluent p readable formed s os known as_many

  abbrev effects_by : List Effect → List NumericEffect
  effects_by effects = flat_map (numeric_effect_by s.params (names p os)) effects

  abbrev passes_in : List NumericEffect → NumericEffect → Bool
  passes_in whole d = is_joined d.how || nat_le (length (effects_on d.fluent whole)) 1

  same_fluent : (a b : Atom) → Good a → Good b → fluent_code p (atom_of s.params (names p os) a) ≡ fluent_code p (atom_of s.params (names p os) b)
      → ground_text s.params (names p os) a ≡ ground_text s.params (names p os) b
  unfolding ground_text
  same_fluent a b good more same =
      ap text_of_atom (same_code p readable p.domain.functions (atom_of s.params (names p os) a) (atom_of s.params (names p os) b)
      (fluent_there p readable formed s os known as_many a good) (fluent_there p readable formed s os known as_many b more) same)

  -- no more effects are on a fluent than in the whole list
  abbrev IsPart : List NumericEffect → List NumericEffect → Type 0
  IsPart whole part = (text : List ℕ) → length (effects_on text part) ≤ length (effects_on text whole)

  module _ (whole : List NumericEffect) where
    can_join : (h : Assign) (a : Atom) (x : Expr) (effects : List Effect) → IsPart whole (effects_by (effect.Num h a x ∷ effects))
        → list_all (passes_in whole) (effects_by (effect.Num h a x ∷ effects)) ≡ true → Good a → Each Good (flat_map fluent_changed effects)
        → (u : Effect) → Stands u effects → Joins p s.params (names p os) (is_joined h) (fluent_code p (atom_of s.params (names p os) a)) u
    can_join h a x effects part all good goods (effect.Add b) there = tt
    can_join h a x effects part all good goods (effect.Del b) there = tt
    can_join h a x effects part all good goods (effect.Num k b y) there = λ same.
        let this : NumericEffect = record { how = h; fluent = ground_text s.params (names p os) a; by = x } in
        let that : NumericEffect = record { how = k; fluent = ground_text s.params (names p os) b; by = y } in
        let listed = stands_flat (numeric_effect_by s.params (names p os)) effects (effect.Num k b y) that there (inl refl) in
        let in_goods = each_stands Good (flat_map fluent_changed effects) b goods (stands_flat fluent_changed effects (effect.Num k b y) b there (inl refl)) in
        let fluents = same_fluent a b good in_goods same in
        let two = two_on this that (effects_by effects) fluents listed (part (ground_text s.params (names p os) a)) in
        let parts = both_true (passes_in whole this) (list_all (passes_in whole) (effects_by effects)) all in (
          joined_of_two whole this parts.0 two,
          joined_of_two whole that (member_passes (passes_in whole) (effects_by effects) that parts.1 listed) (subst (λ (text : List ℕ). 2 ≤ length (effects_on text whole)) fluents two),
        )
      where
        two_on : (this that : NumericEffect) (rest : List NumericEffect) → this.fluent ≡ that.fluent → Stands that rest
            → length (effects_on this.fluent (this ∷ rest)) ≤ length (effects_on this.fluent whole) → 2 ≤ length (effects_on this.fluent whole)
        two_on this that rest same s less =
            let one = on_some this.fluent that rest same s in
            let own = on_own this.fluent this rest refl in
            omega (arith, one, own, less)

    part_of : (d : NumericEffect) (rest : List NumericEffect) → IsPart whole (d ∷ rest) → IsPart whole rest
    part_of d rest part text = let more = on_more text d rest in let less = part text in omega (arith, more, less)

    effects_joined : (effects : List Effect) → IsPart whole (effects_by effects) → list_all (passes_in whole) (effects_by effects) ≡ true → Each Good (flat_map fluent_changed effects)
        → AreJoined p s.params (names p os) effects
    effects_joined [] part all goods = tt
    effects_joined (effect.Add a ∷ effects) part all goods = effects_joined effects part all goods
    effects_joined (effect.Del a ∷ effects) part all goods = effects_joined effects part all goods
    effects_joined (effect.Num h a x ∷ effects) part all goods =
        let this : NumericEffect = record { how = h; fluent = ground_text s.params (names p os) a; by = x } in (
          each_where _ effects (can_join h a x effects part all goods.0 goods.1),
          effects_joined effects (part_of this (effects_by effects) part) (both_true (passes_in whole this) (list_all (passes_in whole) (effects_by effects)) all).1 goods.1,
        )

  -- of the folded changes of compatible effects no two are on one fluent
  pub changes_apart : (effects : List Effect) → Each (GoodFluent p readable formed s os known as_many) (flat_map fluent_changed effects)
      → are_compatible (numeric_effects s.params (names p os) effects) ≡ true → IfOk (changes_from p s.params (names p os) [] effects) (Apart FluentsApart)
  unfolding are_compatible numeric_effects
  changes_apart effects goods compatible =
      changes_fit p s.params (names p os) effects (effects_joined (effects_by effects) effects (λ text. omega arith) compatible goods) [] (tt, tt)
