-- A binding under which a precondition is true in a world like the initial one survives.
use Rattle.std.proofs.Common.{◌≡◌, ◌||◌, ℕ, suc, Bool, true, false, not, List, [], ◌∷◌, map, length, take, All, refl, sym, ap, subst, ◌∙◌}
use Rattle.std.specs.Prelude.{bytes_eq, flat_map}
use Rattle.std.specs.Bool.{beq}
use Rattle.std.specs.List.{list_all}
use Rattle.std.specs.FinSet as set
use Rattle.std.proofs.lemmas.List.Elements.{All-head, All-tail}
use Rattle.num_ends.specs.Names.{is_name}
use Rattle.pddl_terms.specs.declared.names.Arg.{Arg}
use Rattle.pddl_terms.specs.declared.names.Atom.{Atom}
use Rattle.pddl_terms.specs.declared.names.Typed.{Typed}
use Rattle.pddl_terms.specs.declared.conditions.Cond.{Cond}
use Rattle.pddl_terms.specs.declared.conditions.Cond.TheVariants as condition
use Rattle.pddl_terms.specs.declared.actions.Schema.{Schema}
use Rattle.pddl_terms.specs.Readable.{IsReadable}
use Rattle.pddl_terms.specs.Texts.{argument_text, ground_text}
use Rattle.pddl_terms.proofs.Induction.{induct_condition}
use Rattle.pddl_types.specs.declared.faults.Side.TheVariants as side
use Rattle.pddl_types.specs.declared.pairs.Pair.{Pair}
use Rattle.pddl_types.specs.Contents.{Parts, condition_parts, condition_parts_layer}
use Rattle.pddl_types.specs.WellFormed.{Each, Stands, WellFormed}
use Rattle.static_facts.specs.Atoms.{atom_of, is_true_at_first, names}
use Rattle.static_facts.specs.Bindings.{spares, survives}
use Rattle.static_facts.specs.Fixed.{is_fixed_predicate}
use Rattle.static_facts.specs.Literals.{Literal, conjuncts, conjuncts_layer, is_bound, is_judged, is_true_literal}
use Rattle.static_facts.specs.Literals.Literal.{fact, same}
use Rattle.pddl_meaning.specs.Worlds.{WorldValue}
use Rattle.pddl_meaning.specs.Truth.{at_polarity, is_true, literals_true}
use Rattle.pddl_meaning.proofs.Bounds.{both_true, true_both}
use Rattle.pddl_meaning.proofs.Comparisons.{literals_of_truth}
use Rattle.pddl_meaning.proofs.Conjuncts.{literals_And, literals_Fact, literals_Imply, literals_Not, literals_Or, literals_Same}
use Rattle.pddl_meaning.proofs.Folds.{fold-And, fold-Or, fold-Not, fold-Imply, fold-Fact, fold-Same, fold-Cmp}
use Rattle.ground_meaning.specs.Worlds.{IsLike}
use Rattle.ground_meaning.proofs.BoundAtoms.{IsBound, fixed_fact, pre_facts}
use Rattle.ground_meaning.proofs.Lists.{each_left, each_right}
use Rattle.ground_meaning.proofs.Simplified.{all_joined}

take_length : {A : Type 0} (xs : List A) → take (length xs) xs ≡ xs
take_length [] = refl
take_length (x ∷ xs) = ap (λ (ys : List _). x ∷ ys) (take_length xs)

length_map : {A B : Type 0} (f : A → B) (xs : List A) → length (map f xs) ≡ length xs
length_map f [] = refl
length_map f (x ∷ xs) = ap suc (length_map f xs)

module _ (params : List Typed) (args : List (List ℕ)) (w : WorldValue) (IsGoodFact : Atom → Type 0) (spare : Literal → Bool)
    (spare_fact : (polarity : Bool) (a : Atom) → IsGoodFact a → at_polarity polarity (set.contains w.facts (ground_text params args a)) ≡ true → spare (fact polarity a) ≡ true)
    (spare_same : (polarity : Bool) (a b : Arg) → at_polarity polarity (bytes_eq (argument_text params args a) (argument_text params args b)) ≡ true → spare (same polarity a b) ≡ true) where
  -- where its literals are true, each of them is spared
  abbrev IsSpared : Cond → Type 0
  IsSpared c = (polarity : Bool) → Each IsGoodFact (condition_parts c).facts → literals_true params args w c polarity ≡ true → list_all spare (conjuncts c polarity) ≡ true

  members : (polarity : Bool) (cs : List Cond) → All IsSpared cs → Each IsGoodFact (flat_map (λ q. q.facts) (map condition_parts cs))
      → list_all (λ c. literals_true params args w c polarity) cs ≡ true → list_all spare (flat_map (λ (f : Bool → List Literal). f polarity) (map conjuncts cs)) ≡ true
  members polarity [] all good h = refl
  members polarity (c ∷ cs) all good h =
      let parts = both_true (literals_true params args w c polarity) (list_all (λ c. literals_true params args w c polarity) cs) h in
      all_joined spare (conjuncts c polarity) (flat_map (λ (f : Bool → List Literal). f polarity) (map conjuncts cs))
      ∙ true_both _ _ (All-head IsSpared c cs all polarity (each_left IsGoodFact (condition_parts c).facts _ good) parts.0)
      (members polarity cs (All-tail IsSpared c cs all) (each_right IsGoodFact (condition_parts c).facts _ good) parts.1)

  spared_all : (cs : List Cond) → All IsSpared cs → IsSpared (condition.And cs)
  unfolding conjuncts
  spared_all cs all true good h =
      ap (λ (f : Bool → List Literal). list_all spare (f true)) (fold-And conjuncts_layer cs)
      ∙ members true cs all (subst (λ (q : Parts). Each IsGoodFact q.facts) (fold-And condition_parts_layer cs) good) (sym (literals_And params args w cs true) ∙ h)
  spared_all cs all false good h = ap (λ (f : Bool → List Literal). list_all spare (f false)) (fold-And conjuncts_layer cs)

  spared_any : (cs : List Cond) → All IsSpared cs → IsSpared (condition.Or cs)
  unfolding conjuncts
  spared_any cs all false good h =
      ap (λ (f : Bool → List Literal). list_all spare (f false)) (fold-Or conjuncts_layer cs)
      ∙ members false cs all (subst (λ (q : Parts). Each IsGoodFact q.facts) (fold-Or condition_parts_layer cs) good) (sym (literals_Or params args w cs false) ∙ h)
  spared_any cs all true good h = ap (λ (f : Bool → List Literal). list_all spare (f true)) (fold-Or conjuncts_layer cs)

  spared_imply : (b c : Cond) → IsSpared b → IsSpared c → IsSpared (condition.Imply b c)
  unfolding conjuncts
  spared_imply b c f g true good h = ap (λ (k : Bool → List Literal). list_all spare (k true)) (fold-Imply conjuncts_layer b c)
  spared_imply b c f g false good h =
      let parts = both_true (literals_true params args w b true) (literals_true params args w c false) (sym (literals_Imply params args w b c false) ∙ h) in
      let inside = subst (λ (q : Parts). Each IsGoodFact q.facts) (fold-Imply condition_parts_layer b c) good in
      ap (λ (k : Bool → List Literal). list_all spare (k false)) (fold-Imply conjuncts_layer b c)
      ∙ all_joined spare (conjuncts b true) (conjuncts c false)
      ∙ true_both _ _ (f true (each_left IsGoodFact (condition_parts b).facts _ inside) parts.0)
      (g false (each_left IsGoodFact (condition_parts c).facts [] (each_right IsGoodFact (condition_parts b).facts _ inside)) parts.1)

  pub spared : (c : Cond) → IsSpared c
  unfolding conjuncts
  spared = induct_condition IsSpared (record {
    conjunction = spared_all;
    disjunction = spared_any;
    negation = λ c f polarity good h.
        ap (λ (k : Bool → List Literal). list_all spare (k polarity)) (fold-Not conjuncts_layer c)
        ∙ f (not polarity) (subst (λ (q : Parts). Each IsGoodFact q.facts) (fold-Not condition_parts_layer c) good) (sym (literals_Not params args w c polarity) ∙ h);
    implication = spared_imply;
    fact = λ a polarity good h.
        ap (λ (k : Bool → List Literal). list_all spare (k polarity)) (fold-Fact conjuncts_layer a)
        ∙ true_both (spare (fact polarity a)) true
        (spare_fact polarity a (subst (λ (q : Parts). Each IsGoodFact q.facts) (fold-Fact condition_parts_layer a) good).0 (sym (literals_Fact params args w a polarity) ∙ h)) refl;
    equal = λ a b polarity good h.
        ap (λ (k : Bool → List Literal). list_all spare (k polarity)) (fold-Same conjuncts_layer a b)
        ∙ true_both (spare (same polarity a b)) true (spare_same polarity a b (sym (literals_Same params args w a b polarity) ∙ h)) refl;
    compare = λ r x y polarity good h. ap (λ (k : Bool → List Literal). list_all spare (k polarity)) (fold-Cmp conjuncts_layer r x y);
  })

-- ---- bindings

asked : (polarity truth : Bool) → at_polarity polarity truth ≡ true → beq polarity truth ≡ true
asked true true h = refl
asked true false h = cc
asked false true h = cc
asked false false h = refl

-- a literal that isn't judged or is true is spared
either_spared : (judged holds : Bool) → (judged ≡ true → holds ≡ true) → (not judged || holds) ≡ true
either_spared true holds h = h refl
either_spared false holds h = refl

module _ (p : Pair) (readable : IsReadable p.domain p.problem) (formed : WellFormed p) (s : Schema) (stands : Stands s p.domain.schemas) (w : WorldValue) (like : IsLike p w) (os : List ℕ)
    (same_length : length os ≡ length s.params) (named : list_all is_name (names p os) ≡ true) where
  whole : take (length os) s.params ≡ s.params
  whole = ap (λ (n : ℕ). take n s.params) same_length ∙ take_length s.params

  as_many : length (names p os) ≡ length s.params
  as_many = length_map _ os ∙ same_length

  fact_spared : (polarity : Bool) (a : Atom) → IsBound p readable formed side.Domain s.params p.domain.predicates a → at_polarity polarity (set.contains w.facts (ground_text s.params (names p os) a)) ≡ true
      → spares p s os (fact polarity a) ≡ true
  fact_spared polarity a good h =
      either_spared (is_judged p (take (length os) s.params) (fact polarity a)) (is_true_literal p (take (length os) s.params) (names p os) (fact polarity a))
      (λ judged.
      let fixed = (both_true (is_fixed_predicate p a.head.text) (list_all (is_bound (take (length os) s.params)) a.args) judged).0 in
      ap (λ (params : List Typed). beq polarity (is_true_at_first p (atom_of params (names p os) a))) whole
      ∙ asked polarity (is_true_at_first p (atom_of s.params (names p os) a))
      (ap (at_polarity polarity) (sym (fixed_fact p readable formed (names p os) named w like side.Domain s.params as_many a good fixed)) ∙ h))

  same_spared : (polarity : Bool) (a b : Arg) → at_polarity polarity (bytes_eq (argument_text s.params (names p os) a) (argument_text s.params (names p os) b)) ≡ true
      → spares p s os (same polarity a b) ≡ true
  same_spared polarity a b h =
      either_spared (is_judged p (take (length os) s.params) (same polarity a b)) (is_true_literal p (take (length os) s.params) (names p os) (same polarity a b))
      (λ judged.
      ap (λ (params : List Typed). beq polarity (bytes_eq (argument_text params (names p os) a) (argument_text params (names p os) b))) whole
      ∙ asked polarity (bytes_eq (argument_text s.params (names p os) a) (argument_text s.params (names p os) b)) h)

  -- a binding that doesn't survive has a false precondition in each such world
  pub true_survives : is_true s.params (names p os) w s.pre ≡ true → survives p s os ≡ true
  unfolding survives
  true_survives h =
      spared s.params (names p os) w (IsBound p readable formed side.Domain s.params p.domain.predicates) (spares p s os) fact_spared same_spared s.pre true (pre_facts p readable formed s stands)
      ((literals_of_truth s.params (names p os) w s.pre).0 h)
