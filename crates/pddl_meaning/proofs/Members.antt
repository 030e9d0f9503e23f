-- Worlds by their members: which facts are true after effects, and which values fluents have.
use Rattle.std.proofs.Common.{◌≡◌, ◌&&◌, ◌||◌, ℕ, Bool, true, false, not, List, [], ◌∷◌, Option, Some, None, refl, sym, ap, ◌∙◌, cond, is_some}
use Rattle.std.specs.Prelude.{bytes_eq, flat_map, fold}
use Rattle.std.specs.List.{list_all, list_any}
use Rattle.std.specs.Ordering.{eq_by_cmp}
use Rattle.std.specs.Cmp.{IsTotalOrder}
use Rattle.std.specs.Cmp.Lexicographic.{nat_list_cmp_total, texts_ties}
use Rattle.std.specs.FinSet as set
use Rattle.std.specs.FinMap as finite
use Rattle.std.specs.FinMap.{IsAntisymmetric, nat_cmp-IsAntisymmetric, slice_cmp-IsAntisymmetric}
use Rattle.std.proofs.lemmas.Slice.Eq.{bytes_eq-Decides}
use Rattle.num_ends.specs.Decimal.{Decimal}
use Rattle.pddl_terms.specs.declared.names.Typed.{Typed}
use Rattle.pddl_terms.specs.declared.actions.Effect.{Effect}
use Rattle.name_table.specs.Tables.{is_text_among as is_among}
use Rattle.pddl_meaning.specs.Worlds.{Facts, Values, WorldValue, text_cmp}
use Rattle.pddl_meaning.specs.Values.{exactly}
use Rattle.pddl_meaning.specs.Effects.{NumericEffect, added_by, are_effects_valued, changed_value, effects_on, deleted_by, next_facts, next_value, next_values, with_value}

pub texts_total : IsTotalOrder text_cmp
texts_total = nat_list_cmp_total

-- only equal texts tie
pub texts_tied : IsAntisymmetric text_cmp
texts_tied = slice_cmp-IsAntisymmetric nat_cmp-IsAntisymmetric

pub same_facts : (f g : Facts) → ((t : List ℕ) → set.contains f t ≡ set.contains g t) → f ≡ g
same_facts f g = set.same_set texts_total texts_tied f g

pub same_values : (m n : Values) → ((t : List ℕ) → finite.get m t ≡ finite.get n t) → m ≡ n
same_values m n = finite.same_map texts_total texts_tied m n

-- ---- facts

pub listed : (texts : List (List ℕ)) (t : List ℕ) → list_any (eq_by_cmp text_cmp t) texts ≡ is_among t texts
listed [] t = refl
listed (x ∷ xs) t = (λ i. sym (texts_ties t x) i || listed xs t i)

pub in_listed : (texts : List (List ℕ)) (t : List ℕ) → set.contains (set.from_list {R = text_cmp} texts) t ≡ is_among t texts
in_listed texts t = set.contains-from_list texts_total texts t ∙ listed texts t

or_turned : (a b : Bool) → (a || b) ≡ (b || a)
or_turned true true = refl
or_turned true false = refl
or_turned false true = refl
or_turned false false = refl

-- a fact is true after effects where they add it, or where it was true and they don't delete it
pub fact_after : (facts : Facts) (deleted added : List (List ℕ)) (t : List ℕ)
    → set.contains (set.union (set.difference facts (set.from_list deleted)) (set.from_list added)) t ≡ (is_among t added || (set.contains facts t && not (is_among t deleted)))
fact_after facts deleted added t =
    set.contains-union texts_total (set.difference facts (set.from_list deleted)) (set.from_list added) t
    ∙ or_turned (set.contains (set.difference facts (set.from_list deleted)) t) (set.contains (set.from_list added) t)
    ∙ (λ i. in_listed added t i || (set.contains-difference texts_total facts (set.from_list deleted) t ∙ ap (λ (b : Bool). set.contains facts t && not b) (in_listed deleted t)) i)

pub next_fact_after : (params : List Typed) (args : List (List ℕ)) (facts : Facts) (effects : List Effect) (t : List ℕ)
    → set.contains (next_facts params args facts effects) t ≡ (is_among t (flat_map (added_by params args) effects) || (set.contains facts t && not (is_among t (flat_map (deleted_by params args) effects))))
unfolding next_facts
next_fact_after params args facts effects t = fact_after facts (flat_map (deleted_by params args) effects) (flat_map (added_by params args) effects) t

-- ---- values

pub inserted : (values : Values) (x : List ℕ) (d : Decimal) (t : List ℕ) → finite.get (finite.insert values x d) t ≡ cond (bytes_eq t x) (Some d) (finite.get values t)
inserted values x d t = finite.get-insert texts_total values x d t ∙ ap (λ (b : Bool). cond b (Some d) (finite.get values t)) (sym (texts_ties t x))

-- whether one of the changes is on a fluent
abbrev pub is_changed : List ℕ → List NumericEffect → Bool
is_changed t changes = list_any (λ c. bytes_eq t c.fluent) changes

one_of : (f : List ℕ → Option Decimal) (t x : List ℕ) (d : Decimal) (old : Option Decimal) (test : Bool) → bytes_eq t x ≡ test → f x ≡ Some d → (rest : Bool)
    → cond rest (f t) (cond test (Some d) old) ≡ cond (test || rest) (f t) old
one_of f t x d old true same new true = refl
one_of f t x d old true same new false = sym (ap f ((bytes_eq-Decides t x).0 same) ∙ new)
one_of f t x d old false same new rest = refl

module _ (f : List ℕ → Option Decimal) where
  -- each changed fluent has its new value, and each other one its old
  pub value_after_all : (changes : List NumericEffect) → list_all (λ c. is_some (f c.fluent)) changes ≡ true → (values : Values) (t : List ℕ)
      → finite.get (fold (λ vs c. with_value vs c.fluent (f c.fluent)) values changes) t ≡ cond (is_changed t changes) (f t) (finite.get values t)
  value_after_all [] all values t = refl
  value_after_all (c ∷ cs) all values t = cases (f c.fluent) refl all (value_after_all cs)
    where
      cases : (x : Option Decimal) → f c.fluent ≡ x → (is_some x && list_all (λ e. is_some (f e.fluent)) cs) ≡ true
          → (list_all (λ e. is_some (f e.fluent)) cs ≡ true → (vs : Values) (u : List ℕ)
          → finite.get (fold (λ vs e. with_value vs e.fluent (f e.fluent)) vs cs) u ≡ cond (is_changed u cs) (f u) (finite.get vs u))
          → finite.get (fold (λ vs e. with_value vs e.fluent (f e.fluent)) (with_value values c.fluent x) cs) t ≡ cond (bytes_eq t c.fluent || is_changed t cs) (f t) (finite.get values t)
      cases None new rest more = cc
      cases (Some d) new rest more =
          more rest (finite.insert values c.fluent d) t
          ∙ ap (λ (x : Option Decimal). cond (is_changed t cs) (f t) x) (inserted values c.fluent d t)
          ∙ one_of f t c.fluent d (finite.get values t) (bytes_eq t c.fluent) refl new (is_changed t cs)

none_on : (t : List ℕ) (changes : List NumericEffect) → is_changed t changes ≡ false → effects_on t changes ≡ []
none_on t [] none = refl
none_on t (c ∷ cs) none = cases (bytes_eq t c.fluent) none (none_on t cs)
  where
    cases : (test : Bool) → (test || is_changed t cs) ≡ false → (is_changed t cs ≡ false → effects_on t cs ≡ []) → cond test (c ∷ effects_on t cs) (effects_on t cs) ≡ []
    cases true h more = cc
    cases false h more = more h

unchanged : (params : List Typed) (args : List (List ℕ)) (w : WorldValue) (changes : List NumericEffect) (t : List ℕ) (test : Bool) → is_changed t changes ≡ test
    → cond test (next_value exactly params args w changes t) (finite.get w.values t) ≡ next_value exactly params args w changes t
unchanged params args w changes t true is = refl
unchanged params args w changes t false is = sym (ap (λ (cs : List NumericEffect). changed_value exactly params args w t cs) (none_on t changes is))

-- where each changed fluent has a value afterwards, the next values are the values after all changes
pub next_value_after : (params : List Typed) (args : List (List ℕ)) (w : WorldValue) (changes : List NumericEffect) → are_effects_valued exactly params args w changes ≡ true → (t : List ℕ)
    → finite.get (next_values params args w changes) t ≡ next_value exactly params args w changes t
unfolding next_values are_effects_valued
next_value_after params args w changes valued t =
    value_after_all (next_value exactly params args w changes) changes valued w.values t ∙ unchanged params args w changes t (is_changed t changes) refl
