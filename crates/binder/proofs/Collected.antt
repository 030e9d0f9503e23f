-- The checks of the literals among the top conjuncts, by what a condition is.
use Rattle.std.proofs.Common.{◌≡◌, ◌++◌, Bool, true, false, not, List, [], ◌∷◌, refl, sym, ap, ◌∙◌, if◌then◌else◌}
use Rattle.std.specs.Prelude.{flat_map}
use Rattle.std.proofs.lemmas.Grind.{flat_map-append}
use Rattle.std.proofs.lemmas.List.{append-nil}
use Rattle.pddl_terms.specs.declared.names.Arg.{Arg}
use Rattle.pddl_terms.specs.declared.names.Atom.{Atom}
use Rattle.pddl_terms.specs.declared.names.Typed.{Typed}
use Rattle.pddl_terms.specs.declared.expressions.Expr.{Expr}
use Rattle.pddl_terms.specs.declared.conditions.Rel.{Rel}
use Rattle.pddl_terms.specs.declared.conditions.Cond.{Cond}
use Rattle.pddl_terms.specs.declared.conditions.Cond.TheVariants as condition
use Rattle.pddl_types.specs.declared.pairs.Pair.{Pair}
use Rattle.static_facts.specs.Literals.{conjuncts, Literal}
use Rattle.static_facts.specs.Literals as literal
use Rattle.static_facts.proofs.Conjuncts.{conjuncts_And, conjuncts_Cmp, conjuncts_Fact, conjuncts_Imply, conjuncts_Not, conjuncts_Or, conjuncts_Same}
use Rattle.binder.specs.declared.checks.Check.{Check}
use Rattle.binder.specs.internal.Checks.{check_of, checks_of}

flat_twice : {A B C : Type 0} (f : B → List C) (g : A → List B) (xs : List A) → flat_map f (flat_map g xs) ≡ flat_map (λ x. flat_map f (g x)) xs
flat_twice f g [] = refl
flat_twice f g (x ∷ xs) = flat_map-append f (g x) (flat_map g xs) ∙ ap (λ (r : List _). flat_map f (g x) ++ r) (flat_twice f g xs)

module _ (p : Pair) (params : List Typed) where
  of_cases : (polarity : Bool) (ls : List Literal) → checks_of p params (if polarity then ls else []) ≡ (if polarity then checks_of p params ls else [])
  of_cases true ls = refl
  of_cases false ls = refl

  of_others : (polarity : Bool) (ls : List Literal) → checks_of p params (if polarity then [] else ls) ≡ (if polarity then [] else checks_of p params ls)
  of_others true ls = refl
  of_others false ls = refl

  pub checks_And : (cs : List Cond) (polarity : Bool) → checks_of p params (conjuncts (condition.And cs) polarity) ≡ (if polarity then flat_map (λ c. checks_of p params (conjuncts c true)) cs else [])
  checks_And cs polarity =
      ap (checks_of p params) (conjuncts_And cs polarity) ∙ of_cases polarity (flat_map (λ c. conjuncts c true) cs)
      ∙ ap (λ (ks : List Check). if polarity then ks else []) (flat_twice (check_of p params) (λ c. conjuncts c true) cs)

  pub checks_Or : (cs : List Cond) (polarity : Bool) → checks_of p params (conjuncts (condition.Or cs) polarity) ≡ (if polarity then [] else flat_map (λ c. checks_of p params (conjuncts c false)) cs)
  checks_Or cs polarity =
      ap (checks_of p params) (conjuncts_Or cs polarity) ∙ of_others polarity (flat_map (λ c. conjuncts c false) cs)
      ∙ ap (λ (ks : List Check). if polarity then [] else ks) (flat_twice (check_of p params) (λ c. conjuncts c false) cs)

  pub checks_Not : (c : Cond) (polarity : Bool) → checks_of p params (conjuncts (condition.Not c) polarity) ≡ checks_of p params (conjuncts c (not polarity))
  checks_Not c polarity = ap (checks_of p params) (conjuncts_Not c polarity)

  pub checks_Imply : (b c : Cond) (polarity : Bool)
      → checks_of p params (conjuncts (condition.Imply b c) polarity) ≡ (if polarity then [] else checks_of p params (conjuncts b true) ++ checks_of p params (conjuncts c false))
  checks_Imply b c polarity =
      ap (checks_of p params) (conjuncts_Imply b c polarity) ∙ of_others polarity (conjuncts b true ++ conjuncts c false)
      ∙ ap (λ (ks : List Check). if polarity then [] else ks) (flat_map-append (check_of p params) (conjuncts b true) (conjuncts c false))

  pub checks_Fact : (a : Atom) (polarity : Bool) → checks_of p params (conjuncts (condition.Fact a) polarity) ≡ check_of p params (literal.fact polarity a)
  checks_Fact a polarity = ap (checks_of p params) (conjuncts_Fact a polarity) ∙ append-nil (check_of p params (literal.fact polarity a))

  pub checks_Same : (a b : Arg) (polarity : Bool) → checks_of p params (conjuncts (condition.Same a b) polarity) ≡ check_of p params (literal.same polarity a b)
  checks_Same a b polarity = ap (checks_of p params) (conjuncts_Same a b polarity) ∙ append-nil (check_of p params (literal.same polarity a b))

  pub checks_Cmp : (r : Rel) (e f : Expr) (polarity : Bool) → checks_of p params (conjuncts (condition.Cmp r e f) polarity) ≡ []
  checks_Cmp r e f polarity = ap (checks_of p params) (conjuncts_Cmp r e f polarity)

  -- ---- what a walk adds

  nothing_added : (old ks : List Check) → ks ≡ [] → old ≡ old ++ ks
  nothing_added old ks h = sym (ap (λ (r : List Check). old ++ r) h ∙ append-nil old)

  abbrev found : Cond → Bool → List Check
  found cond polarity = checks_of p params (conjuncts cond polarity)

  pub none_of_And : (old : List Check) (cond : Cond) (cs : List Cond) (polarity : Bool) → cond ≡ condition.And cs → polarity ≡ false → old ≡ old ++ found cond polarity
  none_of_And old cond cs polarity e f =
      nothing_added old (found cond polarity)
      (ap (λ (c : Cond). found c polarity) e ∙ checks_And cs polarity ∙ ap (λ (b : Bool). if b then flat_map (λ c. found c true) cs else []) f)

  pub none_of_Or : (old : List Check) (cond : Cond) (cs : List Cond) (polarity : Bool) → cond ≡ condition.Or cs → polarity ≡ true → old ≡ old ++ found cond polarity
  none_of_Or old cond cs polarity e f =
      nothing_added old (found cond polarity)
      (ap (λ (c : Cond). found c polarity) e ∙ checks_Or cs polarity ∙ ap (λ (b : Bool). if b then [] else flat_map (λ c. found c false) cs) f)

  pub none_of_Imply : (old : List Check) (cond b c : Cond) (polarity : Bool) → cond ≡ condition.Imply b c → polarity ≡ true → old ≡ old ++ found cond polarity
  none_of_Imply old cond b c polarity e f =
      nothing_added old (found cond polarity)
      (ap (λ (d : Cond). found d polarity) e ∙ checks_Imply b c polarity ∙ ap (λ (t : Bool). if t then [] else found b true ++ found c false) f)

  pub none_of_Cmp : (old : List Check) (cond : Cond) (r : Rel) (x y : Expr) (polarity : Bool) → cond ≡ condition.Cmp r x y → old ≡ old ++ found cond polarity
  none_of_Cmp old cond r x y polarity e = nothing_added old (found cond polarity) (ap (λ (c : Cond). found c polarity) e ∙ checks_Cmp r x y polarity)

  pub all_of_And : (cond : Cond) (cs : List Cond) (polarity : Bool) → cond ≡ condition.And cs → polarity ≡ true → flat_map (λ c. found c true) cs ≡ found cond polarity
  all_of_And cond cs polarity e f =
      sym (ap (λ (c : Cond). found c polarity) e ∙ checks_And cs polarity ∙ ap (λ (b : Bool). if b then flat_map (λ c. found c true) cs else []) f)

  pub all_of_Or : (cond : Cond) (cs : List Cond) (polarity : Bool) → cond ≡ condition.Or cs → polarity ≡ false → flat_map (λ c. found c false) cs ≡ found cond polarity
  all_of_Or cond cs polarity e f =
      sym (ap (λ (c : Cond). found c polarity) e ∙ checks_Or cs polarity ∙ ap (λ (b : Bool). if b then [] else flat_map (λ c. found c false) cs) f)

  pub turned_Not : (cond c : Cond) (polarity : Bool) → cond ≡ condition.Not c → found c (not polarity) ≡ found cond polarity
  turned_Not cond c polarity e = sym (ap (λ (d : Cond). found d polarity) e ∙ checks_Not c polarity)

  pub both_of_Imply : (cond b c : Cond) (polarity : Bool) → cond ≡ condition.Imply b c → polarity ≡ false → found b true ++ found c false ≡ found cond polarity
  both_of_Imply cond b c polarity e f =
      sym (ap (λ (d : Cond). found d polarity) e ∙ checks_Imply b c polarity ∙ ap (λ (t : Bool). if t then [] else found b true ++ found c false) f)
