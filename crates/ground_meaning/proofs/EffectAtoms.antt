-- The atoms that an action's effects change: none is fixed, and each is told apart by its code and its text alike.
use Rattle.std.proofs.Common.{◌≡◌, ◌≤◌, ◌||◌, ◌==◌, ◌⊎◌, ℕ, Bool, true, false, not, List, [], ◌∷◌, length, refl, sym, ap, subst, ◌∙◌, inl, inr, arith, cond, eqb-true, eq-eqb}
use Rattle.std.specs.Prelude.{bytes_eq, flat_map, nat_le}
use Rattle.std.specs.Bool.{one_answer}
use Rattle.std.specs.List.{list_all}
use Rattle.std.proofs.lemmas.Bool.Decides.{nat_tests}
use Rattle.std.proofs.lemmas.Slice.Eq.{bytes_eq-Decides}
use Rattle.pddl_terms.specs.declared.names.Name.{Name}
use Rattle.pddl_terms.specs.declared.names.Sig.{Sig}
use Rattle.pddl_terms.specs.declared.actions.Effect.{Effect}
use Rattle.pddl_terms.specs.declared.actions.Effect.TheVariants as effect
use Rattle.pddl_terms.specs.declared.actions.Schema.{Schema}
use Rattle.pddl_terms.specs.Readable.{IsReadable}
use Rattle.name_table.specs.Tables.{is_text_among}
use Rattle.pddl_types.specs.declared.pairs.Pair.{Pair}
use Rattle.pddl_types.specs.Pairs.{changed_function, changed_functions, changed_heads, heads_of}
use Rattle.pddl_types.specs.Contents.{fact_changed, fluent_changed}
use Rattle.pddl_types.specs.WellFormed.{Each, Stands}
use Rattle.static_facts.specs.Atoms.{head_text, names, text_of_atom}
use Rattle.static_facts.specs.Codes.{code_among}
use Rattle.static_facts.specs.Fixed.{changed_predicate, changed_predicate_heads, changed_predicates, is_fixed_function, is_fixed_predicate}
use Rattle.pddl_meaning.specs.Effects.{NumericEffect, are_compatible, effects_on, is_joined}
use Rattle.pddl_meaning.proofs.Bounds.{both_true, true_both}
use Rattle.ground_meaning.specs.Tasks.{IsAtomOf}
use Rattle.ground_meaning.proofs.CodedAtoms.{same_code}
use Rattle.ground_meaning.proofs.KeptActions.{stands_flat, stands_map}
use Rattle.ground_meaning.proofs.Names.{AreWords, same_words}
use Rattle.ground_meaning.proofs.NextValues.{IsPlain}

-- ---- by codes and by texts

pub told_apart : (p : Pair) (readable : IsReadable p.domain p.problem) (sigs : List Sig) (head : List ℕ) (objects : List (List ℕ)) (other : List ℕ) (others : List (List ℕ))
    → IsAtomOf p sigs (λ n os. head_text sigs n ∷ names p os) (head ∷ objects) → IsAtomOf p sigs (λ n os. head_text sigs n ∷ names p os) (other ∷ others)
    → AreWords (head ∷ objects) → AreWords (other ∷ others)
    → (code_among (heads_of sigs) p (head ∷ objects) == code_among (heads_of sigs) p (other ∷ others)) ≡ bytes_eq (text_of_atom (other ∷ others)) (text_of_atom (head ∷ objects))
told_apart p readable sigs head objects other others x y words more =
    let texts = bytes_eq-Decides (text_of_atom (other ∷ others)) (text_of_atom (head ∷ objects)) in
    one_answer {P = head ∷ objects ≡ other ∷ others} _ _ (
      λ e. same_code p readable sigs (head ∷ objects) (other ∷ others) x y (eqb-true _ _ e),
      λ e. eq-eqb _ _ (ap (code_among (heads_of sigs) p) e),
    )
    (λ e. sym (same_words other others head objects more words (texts.0 e)), λ e. texts.1 (sym (ap text_of_atom e)))

-- ---- what is changed isn't fixed

among : (text : List ℕ) (texts : List (List ℕ)) → Stands text texts → is_text_among text texts ≡ true
among text [] s = elim s [ ]
among text (t ∷ ts) (inl e) = ap (λ (b : Bool). b || is_text_among text ts) ((bytes_eq-Decides text t).1 e)
among text (t ∷ ts) (inr s) = ap (λ (b : Bool). bytes_eq text t || b) (among text ts s) ∙ or_true (bytes_eq text t)
  where
    or_true : (b : Bool) → (b || true) ≡ true
    or_true true = refl
    or_true false = refl

module _ (p : Pair) (s : Schema) (stands : Stands s p.domain.schemas) where
  changed_predicate_there : (effects : List Effect) → ((n : Name) → Stands n (flat_map changed_predicate effects) → Stands n (changed_predicate_heads p.domain.schemas))
      → Each (λ a. is_fixed_predicate p a.head.text ≡ false) (flat_map fact_changed effects)
  unfolding is_fixed_predicate
  changed_predicate_there [] there = tt
  changed_predicate_there (effect.Add a ∷ effects) there = (
    ap not (among a.head.text (changed_predicates p.domain) (stands_map (λ (n : Name). n.text) (changed_predicate_heads p.domain.schemas) a.head (there a.head (inl refl)))),
    changed_predicate_there effects (λ n k. there n (inr k)),
  )
  changed_predicate_there (effect.Del a ∷ effects) there = (
    ap not (among a.head.text (changed_predicates p.domain) (stands_map (λ (n : Name). n.text) (changed_predicate_heads p.domain.schemas) a.head (there a.head (inl refl)))),
    changed_predicate_there effects (λ n k. there n (inr k)),
  )
  changed_predicate_there (effect.Num h a x ∷ effects) there = changed_predicate_there effects there

  pub predicates_change : Each (λ a. is_fixed_predicate p a.head.text ≡ false) (flat_map fact_changed s.effects)
  predicates_change = changed_predicate_there s.effects (λ n k. stands_flat (λ (z : Schema). flat_map changed_predicate z.effects) p.domain.schemas s n stands k)

  changed_function_there : (effects : List Effect) → ((n : Name) → Stands n (flat_map changed_function effects) → Stands n (changed_heads p.domain.schemas))
      → Each (λ a. is_fixed_function p a.head.text ≡ false) (flat_map fluent_changed effects)
  unfolding is_fixed_function
  changed_function_there [] there = tt
  changed_function_there (effect.Add a ∷ effects) there = changed_function_there effects there
  changed_function_there (effect.Del a ∷ effects) there = changed_function_there effects there
  changed_function_there (effect.Num h a x ∷ effects) there = (
    ap not (among a.head.text (changed_functions p.domain) (stands_map (λ (n : Name). n.text) (changed_heads p.domain.schemas) a.head (there a.head (inl refl)))),
    changed_function_there effects (λ n k. there n (inr k)),
  )

  pub functions_change : Each (λ a. is_fixed_function p a.head.text ≡ false) (flat_map fluent_changed s.effects)
  functions_change = changed_function_there s.effects (λ n k. stands_flat (λ (z : Schema). flat_map changed_function z.effects) p.domain.schemas s n stands k)

-- ---- compatible effects

at_most_one : (n : ℕ) → nat_le n 1 ≡ true → n ≤ 1
at_most_one n h = grind (arith, nat_tests)

-- the effects on one fluent are all joined, or at most one
plain_on : (text : List ℕ) (whole changes : List NumericEffect) → list_all (λ c. is_joined c.how || nat_le (length (effects_on c.fluent whole)) 1) changes ≡ true
    → (list_all (λ (d : NumericEffect). is_joined d.how) (effects_on text changes) ≡ true) ⊎ (length (effects_on text whole) ≤ 1)
plain_on text whole [] h = inl refl
plain_on text whole (c ∷ cs) h = of_test (bytes_eq text c.fluent) refl parts.0 (plain_on text whole cs parts.1)
  where
    parts : ((is_joined c.how || nat_le (length (effects_on c.fluent whole)) 1) ≡ true) × (list_all (λ d. is_joined d.how || nat_le (length (effects_on d.fluent whole)) 1) cs ≡ true)
    parts = both_true _ _ h

    of_joined : (joined : Bool) → is_joined c.how ≡ joined → bytes_eq text c.fluent ≡ true → (joined || nat_le (length (effects_on c.fluent whole)) 1) ≡ true
        → (list_all (λ (d : NumericEffect). is_joined d.how) (effects_on text cs) ≡ true) ⊎ (length (effects_on text whole) ≤ 1)
        → (list_all (λ (d : NumericEffect). is_joined d.how) (c ∷ effects_on text cs) ≡ true) ⊎ (length (effects_on text whole) ≤ 1)
    of_joined true j same k (inl all) = inl (true_both _ _ j all)
    of_joined true j same k (inr few) = inr few
    of_joined false j same k rest =
        inr (subst (λ (t : List ℕ). length (effects_on t whole) ≤ 1) (sym ((bytes_eq-Decides text c.fluent).0 same)) (at_most_one (length (effects_on c.fluent whole)) k))

    of_test : (t : Bool) → bytes_eq text c.fluent ≡ t → (is_joined c.how || nat_le (length (effects_on c.fluent whole)) 1) ≡ true
        → (list_all (λ (d : NumericEffect). is_joined d.how) (effects_on text cs) ≡ true) ⊎ (length (effects_on text whole) ≤ 1)
        → (list_all (λ (d : NumericEffect). is_joined d.how) (cond t (c ∷ effects_on text cs) (effects_on text cs)) ≡ true) ⊎ (length (effects_on text whole) ≤ 1)
    of_test true same k rest = of_joined (is_joined c.how) refl same k rest
    of_test false same k rest = rest

pub compatible_plain : (text : List ℕ) (changes : List NumericEffect) → are_compatible changes ≡ true → IsPlain (effects_on text changes)
unfolding are_compatible
compatible_plain text changes h = plain_on text changes changes h
