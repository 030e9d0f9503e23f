-- The least over the actions that may help is the least over all.
use Rattle.std.proofs.Common.{if◌then◌else◌, ◌≡◌, ℕ, suc, ◌+◌, ◌<◌, ◌≤◌, ◌&&◌, ◌||◌, Bool, true, false, List, [], ◌∷◌, Option, Some, None, length, drop, get_or, map, min, refl, sym, ap, ap₂, ◌∙◌, arith, inl, inr, drop-cons, slice_get, option_map, ◌==◌, pos, int_lt, ◌⊎◌}
use Rattle.std.specs.List.{list_any}
use Rattle.std.specs.Option.{option_and_then}
use Rattle.std.proofs.lemmas.Bool.{cases_Bool}
use Rattle.std.proofs.lemmas.List.{length-drop}
use Rattle.std.proofs.lemmas.Option.{get_or_from_slice_get, slice_get-get_or, slice_get_past}
use Rattle.num_ends.specs.Decimal.{Decimal, origin, trimmed, product_of}
use Rattle.num_ends.specs.Range.{where_fits}
use Rattle.ground_task.specs.declared.raw.Change.{Change}
use Rattle.ground_task.specs.declared.raw.GExpr.{GExpr}
use Rattle.ground_task.specs.declared.raw.Ground.{Ground}
use Rattle.ground_task.specs.declared.raw.Rel.{Rel}
use Rattle.ground_task.specs.Meaning.{fact_value, has_truth}
use Rattle.ground_task.specs.States.{StateValue}
use Rattle.simple_atoms.specs.Forms.{linear_form}
use Rattle.subgoal.specs.declared.leaves.Leaf.{Leaf}
use Rattle.subgoal.specs.declared.unmet.Unmet.{Unmet}
use Rattle.subgoal.specs.declared.unmet.Unmet.TheVariants.{Literal}
use Rattle.subgoal.specs.Unmet.{help_by_value, help_of}
use Rattle.ground_task.specs.Steps.{change_of}
use Rattle.simple_atoms.specs.declared.linear.Linear.{Linear}
use Rattle.simple_atoms.specs.declared.linear.TheConstants.{FAR}
use Rattle.simple_atoms.specs.Forms.{Term}
use Rattle.simple_atoms.specs.Ranged.{trimmed_product, trimmed_sum}
use Rattle.simple_atoms.specs.Repetitions.{repetitions, sizes_of, steps_of}
use Rattle.simple_atoms.specs.Values.{form_value, gain_of, growth, growth_by, weighted}
use Rattle.subgoal.specs.Equations.{Help, atom_value, least_of, least_reached, reached_by}
use Rattle.subgoal.specs.Help.{changes, help_by_form, help_by_gain, help_by_reads, literal_help, makes, once_where, reads_of, valued_form}
use Rattle.subgoal.specs.Leaves.{changes_form, comparison_leaf, gain_at, gains_by, literal_leaf, may_help, numbers_of, reached_at, reached_in}
use Rattle.simple_atoms.proofs.Ring.{zero_same}
use Rattle.std.proofs.Math.IntN.{*ℤ-zero}
use Rattle.subgoal.proofs.LeafLists.{mapped_long}
use Rattle.subgoal.proofs.Uniqueness.{least_reached_near}

-- ---- what one action reaches

reached_known : (help : Help) (actions : List Ground) (values : List ℕ) (i : ℕ) (a other : Ground) (n another : ℕ) → i < length actions → i < length values
    → a ≡ get_or actions i other → n ≡ get_or values i another → reached_by (help a) n ≡ reached_at help actions values i
reached_known help actions values i a other n another within within_too is also =
    ap₂ (λ (b : Ground) (m : ℕ). reached_in help (Some b) (Some m)) is also
    ∙ sym (ap₂ (reached_in help) (slice_get-get_or actions i other within) (slice_get-get_or values i another within_too))

reached_unknown : (help : Help) (actions : List Ground) (values : List ℕ) (i : ℕ) → length actions ≤ i → FAR ≡ reached_at help actions values i
reached_unknown help actions values i past = sym (ap (λ (a : Option Ground). reached_in help a (slice_get values i)) (slice_get_past actions i past))

far_by : (m : Option ℕ) (least n : ℕ) → least ≤ FAR → least ≤ n → least ≡ min least (reached_by m n)
far_by None least n near far = omega (arith, near)
far_by (Some m) least n near far = omega (arith, near, far)

far_in : (help : Help) (a : Option Ground) (m : Option ℕ) (least : ℕ) → least ≤ FAR → ((n : ℕ) → m ≡ Some n → least ≤ n) → least ≡ min least (reached_in help a m)
far_in help None m least near far = omega (arith, near)
far_in help (Some a) None least near far = omega (arith, near)
far_in help (Some a) (Some n) least near far = far_by (help a) least n near (far n refl)

pub lowered_known : (help : Help) (actions : List Ground) (values : List ℕ) (i : ℕ) (a other : Ground) (n another least m : ℕ) → i < length actions → i < length values
    → a ≡ get_or actions i other → n ≡ get_or values i another → m ≡ reached_by (help a) n → min least m ≡ min least (reached_at help actions values i)
lowered_known help actions values i a other n another least m within within_too is also its =
    ap (λ (k : ℕ). min least k) (its ∙ reached_known help actions values i a other n another within within_too is also)

pub lowered_by_gain : (f : Linear) (value : Decimal) (gain : Option Decimal) (actions : List Ground) (values : List ℕ) (i : ℕ) (a other : Ground) (n another least m : ℕ)
    → i < length actions → i < length values → a ≡ get_or actions i other → n ≡ get_or values i another → gain ≡ gain_at actions f i
    → m ≡ reached_by (help_by_gain f value a gain) n → min least m ≡ min least (reached_at (help_by_value f value) actions values i)
lowered_by_gain f value gain actions values i a other n another least m within within_too is also has its =
    let there : slice_get actions i ≡ Some a = slice_get-get_or actions i other within ∙ ap Some (sym is) in
    let same : gain ≡ gain_of f a = has ∙ ap (option_and_then (gain_of f)) there in
    lowered_known (help_by_value f value) actions values i a other n another least m within within_too is also
    (its ∙ ap (λ (g : Option Decimal). reached_by (help_by_gain f value a g) n) same)

pub lowered_unknown : (help : Help) (actions : List Ground) (values : List ℕ) (i least : ℕ) → length actions ≤ i → least ≤ FAR → least ≡ min least (reached_at help actions values i)
lowered_unknown help actions values i least past near =
    let same : least ≡ min least FAR = omega (arith, near) in
    same ∙ ap (λ (k : ℕ). min least k) (reached_unknown help actions values i past)

-- behind a value that isn't less nothing is nearer
pub lowered_passed : (help : Help) (actions : List Ground) (values : List ℕ) (i n another least : ℕ) → n ≡ get_or values i another → least ≤ n → least ≤ FAR
    → least ≡ min least (reached_at help actions values i)
lowered_passed help actions values i n another least is far near =
    far_in help (slice_get actions i) (slice_get values i) least near (λ m e. omega (arith, far, is, get_or_from_slice_get values i m another e))

-- ---- the numbers of those that may help

far_first : (n : ℕ) → n ≤ FAR → n ≡ min FAR n
far_first n h = omega arith

pub front : {X : Type 0} (xs : List X) (k : ℕ) (x : X) (rest : List X) → drop k xs ≡ x ∷ rest → (slice_get xs k ≡ Some x) × (drop (k + 1) xs ≡ rest)
front xs k x rest e =
    let within : k < length xs = omega (arith, length-drop k xs, ap length e) in
    let step : k + 1 ≡ suc k = omega arith in
    let whole : get_or xs k x ∷ drop (suc k) xs ≡ x ∷ rest = sym (drop-cons xs k x within) ∙ e in
    let head : get_or xs k x ≡ x = cc in
    let tail : drop (suc k) xs ≡ rest = cc in
    (slice_get-get_or xs k x within ∙ ap Some head, ap (λ (j : ℕ). drop j xs) step ∙ tail)

module _ (help : Help) (test : Ground → Bool) (covers : (a : Ground) (m : ℕ) → help a ≡ Some m → test a ≡ true) (actions : List Ground) (values : List ℕ) where
  not_helped : (a : Ground) → test a ≡ false → (m : Option ℕ) → help a ≡ m → m ≡ None
  not_helped a e None h = refl
  not_helped a e (Some m) h = absurd (clash (sym (covers a m h) ∙ e))
    where
      clash : true ≡ false → ⊥
      clash f = cc

  pub least_from : (k : ℕ) (those : List Ground) (ns : List ℕ) → drop k actions ≡ those → drop k values ≡ ns → length ns ≡ length those
      → least_of (map (reached_at help actions values) (numbers_of test k those)) ≡ least_reached help those ns
  unfolding least_of least_reached numbers_of
  least_from k [] ns e f long = refl
  least_from k (a ∷ those) [] e f long = absurd (omega (arith, long))
  least_from k (a ∷ those) (n ∷ ns) e f long =
      let first = front actions k a those e in
      let second = front values k n ns f in
      let here : reached_at help actions values k ≡ reached_by (help a) n = ap₂ (reached_in help) first.0 second.0 in
      let rest : least_of (map (reached_at help actions values) (numbers_of test (k + 1) those)) ≡ least_reached help those ns = least_from (k + 1) those ns first.1 second.1 (omega (arith, long)) in
      elim (cases_Bool (test a)) [
        | inl passed ↦ rw passed (ap₂ min here rest)
        | inr failed ↦ rw failed (rest ∙ far_first (least_reached help those ns) (least_reached_near help those ns) ∙ ap (λ (m : Option ℕ). min (reached_by m n) (least_reached help those ns)) (sym (not_helped a failed (help a) refl)))
      ]

pub least_over_helpers : (help : Help) (test : Ground → Bool) → ((a : Ground) (m : ℕ) → help a ≡ Some m → test a ≡ true) → (actions : List Ground) (values : List ℕ)
    → length values ≡ length actions → least_of (map (reached_at help actions values) (numbers_of test 0 actions)) ≡ least_reached help actions values
least_over_helpers help test covers actions values long = least_from help test covers actions values 0 actions values refl refl long

-- ---- who may help

pub once_helps : (b : Bool) (m : ℕ) → once_where b ≡ Some m → b ≡ true
once_helps true m h = refl
once_helps false m h = cc

or_first : (a b c : Bool) → a || b ≡ true → (a || b) || c ≡ true
or_first true b c h = refl
or_first false true c h = refl
or_first false false c h = cc

or_second : (a b : Bool) → b ≡ true → a || b ≡ true
or_second true b h = refl
or_second false b h = h

-- what has the number 0 is the origin, trimmed
zero_trimmed : (d : Decimal) → d.n ≡ pos 0 → trimmed d ≡ origin
unfolding trimmed
zero_trimmed d e = zero_same d e

some_or_none : (fits : Bool) (d : Decimal) → (where_fits fits d ≡ None) ⊎ (where_fits fits d ≡ Some d)
some_or_none true d = inr refl
some_or_none false d = inl refl

times_zero : (c : Decimal) → (trimmed_product c origin ≡ None) ⊎ (trimmed_product c origin ≡ Some origin)
unfolding trimmed_product
times_zero c =
    elim (some_or_none _ (trimmed (product_of c origin))) [
      | inl e ↦ inl e
      | inr e ↦ inr (e ∙ ap Some (zero_trimmed (product_of c origin) (*ℤ-zero c.n)))
    ]

nothing_more : trimmed_sum origin origin ≡ Some origin
unfolding trimmed_sum trimmed
nothing_more = refl

not_changed : (x : ℕ) (effects : List (ℕ × Change)) → list_any (λ effect. effect.0 == x) effects ≡ false → change_of x effects ≡ None
not_changed x [] h = refl
not_changed x (effect ∷ effects) h =
    elim (cases_Bool (effect.0 == x)) [
      | inl e ↦ absurd (clash (rw e at h))
      | inr e ↦ rw e (not_changed x effects (rw e at h))
    ]
  where
    clash : true ≡ false → ⊥
    clash f = cc

-- an action that changes no fluent of the terms has no gain, or none of them
no_gain : (a : Ground) (ts : List Term) → list_any (λ t. changes a t.0) ts ≡ false → (weighted (growth a) origin ts ≡ None) ⊎ (weighted (growth a) origin ts ≡ Some origin)
unfolding weighted
no_gain a [] h = inr refl
no_gain a (t ∷ ts) h =
    let parts = neither (changes a t.0) (list_any (λ u. changes a u.0) ts) h in
    let grows : growth a t.0 ≡ Some origin = ap growth_by (not_changed t.0 a.nums parts.0) in
    elim (times_zero t.1) [
      | inl e ↦ inl (rw (grows, e) refl)
      | inr e ↦ rw (grows, e, nothing_more) (no_gain a ts parts.1)
    ]
  where
    neither : (x y : Bool) → x || y ≡ false → (x ≡ false) × (y ≡ false)
    neither true y e = cc
    neither false y e = (refl, e)

no_help : (f : Linear) (value : Decimal) (m : ℕ) → repetitions f value origin ≡ Some m → ⊥
no_help f value m h = by_flag f.equal (int_lt value.n (pos 0)) (int_lt (pos 0) value.n) h
  where
    by_flag : (equal x y : Bool) → (if (if equal then x && int_lt (pos 0) (pos 0) || y && int_lt (pos 0) (pos 0) else int_lt (pos 0) (pos 0)) then Some (steps_of f (sizes_of value origin)) else None) ≡ Some m → ⊥
    by_flag true true true e = cc
    by_flag true true false e = cc
    by_flag true false true e = cc
    by_flag true false false e = cc
    by_flag false x y e = cc

form_covers : (f : Linear) (value : Decimal) (a : Ground) (m : ℕ) → help_by_gain f value a (gain_of f a) ≡ Some m → list_any (λ t. changes a t.0) f.terms ≡ true
form_covers f value a m h =
    elim (cases_Bool (list_any (λ t. changes a t.0) f.terms)) [
      | inl e ↦ e
      | inr e ↦ elim (no_gain a f.terms e) [
        | inl none ↦ once_helps (list_any (λ t. changes a t.0) f.terms) m (sym (ap (help_by_gain f value a) none) ∙ h)
        | inr zero ↦ absurd (no_help f value m (sym (ap (help_by_gain f value a) zero) ∙ h))
      ]
    ]

pub reads_cover : (left right : GExpr) (form : Option Linear) (a : Ground) (m : ℕ) → help_by_reads left right a ≡ Some m → may_help left right form a ≡ true
reads_cover left right form a m h =
    or_first (list_any (changes a) (reads_of left)) (list_any (changes a) (reads_of right)) (changes_form form a)
    (once_helps (list_any (changes a) (reads_of left) || list_any (changes a) (reads_of right)) m h)

valued_cover : (left right : GExpr) (f : Linear) (value : Option Decimal) (a : Ground) (m : ℕ)
    → help_by_form left right (option_map (λ v. (f, v)) value) a ≡ Some m → may_help left right (Some f) a ≡ true
valued_cover left right f None a m h = reads_cover left right (Some f) a m h
valued_cover left right f (Some v) a m h =
    or_second (list_any (changes a) (reads_of left) || list_any (changes a) (reads_of right)) (list_any (λ t. changes a t.0) f.terms) (form_covers f v a m h)

pub comparison_covers : (places : List ℕ) (s : StateValue) (left right : GExpr) (form : Option Linear) (a : Ground) (m : ℕ)
    → help_by_form left right (option_and_then (λ f. option_map (λ v. (f, v)) (form_value places s f)) form) a ≡ Some m → may_help left right form a ≡ true
comparison_covers places s left right None a m h = reads_cover left right None a m h
comparison_covers places s left right (Some f) a m h = valued_cover left right f (form_value places s f) a m h

-- ---- the least over the helpers of a leaf

module _ (actions : List Ground) (values : List ℕ) (long : length values ≡ length actions) (leaf : Leaf) where
  pub literal_least : (s : StateValue) (f : ℕ) (truth : Bool) (n : ℕ) (unmet : Unmet) → leaf ≡ literal_leaf actions f truth → has_truth truth (fact_value s f) ≡ false
      → unmet ≡ Literal f truth → n ≡ least_of (map (reached_at (help_of unmet) actions values) leaf.helpers)
      → n ≡ atom_value actions values (literal_help s f truth)
  literal_least s f truth n unmet is untrue its h =
      h ∙ ap₂ (λ (l : Leaf) (u : Unmet). least_of (map (reached_at (help_of u) actions values) l.helpers)) is its
      ∙ least_over_helpers (λ a. once_where (makes f truth a)) (makes f truth) (λ a m e. once_helps (makes f truth a) m e) actions values long
      ∙ ap (λ (b : Bool). atom_value actions values (if b then None else Some (λ a. once_where (makes f truth a)))) (sym untrue)

  pub reads_least : (r : Rel) (left right : GExpr) (n : ℕ) → leaf ≡ comparison_leaf actions r left right
      → n ≡ least_of (map (reached_at (help_by_reads left right) actions values) leaf.helpers) → n ≡ least_reached (help_by_reads left right) actions values
  reads_least r left right n is h =
      h ∙ ap (λ (l : Leaf). least_of (map (reached_at (help_by_reads left right) actions values) l.helpers)) is
      ∙ least_over_helpers (help_by_reads left right) (may_help left right (linear_form r left right)) (reads_cover left right (linear_form r left right)) actions values long

  pub form_least : (places : List ℕ) (s : StateValue) (r : Rel) (left right : GExpr) (help : Help) (n : ℕ) → leaf ≡ comparison_leaf actions r left right
      → help ≡ help_by_form left right (valued_form places s r left right)
      → n ≡ least_of (map (reached_at help actions values) leaf.helpers) → n ≡ least_reached (help_by_form left right (valued_form places s r left right)) actions values
  form_least places s r left right help n is its h =
      h ∙ ap₂ (λ (l : Leaf) (g : Help). least_of (map (reached_at g actions values) l.helpers)) is its
      ∙ least_over_helpers (help_by_form left right (valued_form places s r left right)) (may_help left right (linear_form r left right))
      (comparison_covers places s left right (linear_form r left right)) actions values long

  form_is : (r : Rel) (left right : GExpr) (form : Option Linear) → leaf ≡ comparison_leaf actions r left right → leaf.form ≡ form → linear_form r left right ≡ form
  form_is r left right form is e = sym (ap (λ (l : Leaf). l.form) is) ∙ e

  valued_is : (places : List ℕ) (s : StateValue) (r : Rel) (left right : GExpr) (f : Linear) (value : Option Decimal) → leaf ≡ comparison_leaf actions r left right
      → leaf.form ≡ Some f → form_value places s f ≡ value → help_by_form left right (option_map (λ v. (f, v)) value) ≡ help_by_form left right (valued_form places s r left right)
  valued_is places s r left right f value is e its =
      ap (λ (v : Option Decimal). help_by_form left right (option_map (λ w. (f, w)) v)) (sym its)
      ∙ ap (λ (form : Option Linear). help_by_form left right (option_and_then (λ g. option_map (λ w. (g, w)) (form_value places s g)) form)) (sym (form_is r left right (Some f) is e))

  pub valued_least : (places : List ℕ) (s : StateValue) (r : Rel) (left right : GExpr) (f : Linear) (v : Decimal) (n : ℕ) → leaf ≡ comparison_leaf actions r left right
      → leaf.form ≡ Some f → form_value places s f ≡ Some v
      → n ≡ least_of (map (reached_at (help_by_value f v) actions values) leaf.helpers) → n ≡ least_reached (help_by_form left right (valued_form places s r left right)) actions values
  valued_least places s r left right f v n is e its h =
      form_least places s r left right (help_by_value f v) n is (valued_is places s r left right f (Some v) is e its) h

  pub unvalued_least : (places : List ℕ) (s : StateValue) (r : Rel) (left right : GExpr) (f : Linear) (n : ℕ) → leaf ≡ comparison_leaf actions r left right
      → leaf.form ≡ Some f → form_value places s f ≡ None
      → n ≡ least_of (map (reached_at (help_by_reads left right) actions values) leaf.helpers) → n ≡ least_reached (help_by_form left right (valued_form places s r left right)) actions values
  unvalued_least places s r left right f n is e its h =
      form_least places s r left right (help_by_reads left right) n is (valued_is places s r left right f None is e its) h

  pub formless_least : (places : List ℕ) (s : StateValue) (r : Rel) (left right : GExpr) (n : ℕ) → leaf ≡ comparison_leaf actions r left right
      → leaf.form ≡ None
      → n ≡ least_of (map (reached_at (help_by_reads left right) actions values) leaf.helpers) → n ≡ least_reached (help_by_form left right (valued_form places s r left right)) actions values
  formless_least places s r left right n is e h =
      form_least places s r left right (help_by_reads left right) n is
      (ap (λ (form : Option Linear). help_by_form left right (option_and_then (λ g. option_map (λ w. (g, w)) (form_value places s g)) form)) (sym (form_is r left right None is e))) h

  pub gains_known : (r : Rel) (left right : GExpr) (f : Linear) → leaf ≡ comparison_leaf actions r left right → leaf.form ≡ Some f → leaf.gains ≡ map (gain_at actions f) leaf.helpers
  gains_known r left right f is e =
      ap (λ (l : Leaf). l.gains) is ∙ ap (λ (form : Option Linear). gains_by actions form (numbers_of (may_help left right (linear_form r left right)) 0 actions)) (form_is r left right (Some f) is e)
      ∙ ap (λ (l : Leaf). map (gain_at actions f) l.helpers) (sym is)

  pub gains_long : (r : Rel) (left right : GExpr) (f : Linear) → leaf ≡ comparison_leaf actions r left right → leaf.form ≡ Some f → length leaf.gains ≡ length leaf.helpers
  gains_long r left right f is e = mapped_long (gain_at actions f) leaf.helpers leaf.gains (gains_known r left right f is e)
