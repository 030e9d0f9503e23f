-- What a folded expression gives: where each fluent that is read is defined, the value of the expression.
use Rattle.std.proofs.Common.{◌≡◌, ◌++◌, ℕ, Bool, true, false, List, [], ◌∷◌, Option, Some, None, Result, Ok, Err, refl, sym, ap, ap₂, subst, ◌∙◌, is_some, inl, IfOk}
use Rattle.std.specs.Prelude.{find, option_map, unwrap_or, if◌then◌else◌}
use Rattle.std.specs.Option.{option_map_or}
use Rattle.std.specs.FinMap as finite
use Rattle.std.proofs.lemmas.Option.{same_Some}
use Rattle.num_ends.specs.Decimal.{Decimal, difference_of, origin, product_of, sum_of, trimmed}
use Rattle.num_ends.proofs.Trimmed.{difference_of_trimmed, product_of_trimmed, sum_of_trimmed, trimmed_twice}
use Rattle.pddl_terms.specs.declared.names.Atom.{Atom}
use Rattle.pddl_terms.specs.declared.names.Typed.{Typed}
use Rattle.pddl_terms.specs.declared.expressions.Op.{Op}
use Rattle.pddl_terms.specs.declared.expressions.Op.TheVariants as op
use Rattle.pddl_terms.specs.declared.expressions.Expr.{Expr}
use Rattle.pddl_terms.specs.declared.expressions.Expr.TheVariants as expression
use Rattle.pddl_terms.specs.Texts.{ground_text}
use Rattle.pddl_terms.proofs.Induction.{induct_expression}
use Rattle.pddl_types.specs.declared.pairs.Pair.{Pair}
use Rattle.pddl_types.specs.Contents.{expression_reads, expression_reads_layer}
use Rattle.pddl_types.specs.WellFormed.{Each, Stands}
use Rattle.static_facts.specs.Atoms.{atom_of, same_atom, value_at_first}
use Rattle.static_facts.specs.Fixed.{is_fixed_function}
use Rattle.static_facts.specs.Codes.{fluent_code}
use Rattle.pddl_meaning.specs.Worlds.{WorldValue}
use Rattle.pddl_meaning.specs.Values.{combined, exactly, in_bounds, inverse_of, reads_defined, value_of}
use Rattle.pddl_meaning.proofs.Bounds.{both_true, operation_bounded}
use Rattle.pddl_meaning.proofs.Folds.{fold-Lit, fold-Read, fold-Op}
use Rattle.pddl_meaning.proofs.Inverses.{inverse_sound}
use Rattle.pddl_meaning.proofs.Layers.{reads_of_Op, reads_of_Read, value_of_Lit, value_of_Op, value_of_Read}
use Rattle.ground_task.specs.declared.raw.GExpr.{GExpr}
use Rattle.ground_task.specs.declared.raw.GExpr.TheVariants as e
use Rattle.ground_task.specs.Meaning.{value_in, value_layer}
use Rattle.ground_task.proofs.Trees.{fold-Add, fold-Const, fold-Mul, fold-Sub}
use Rattle.ground_task.proofs.Trees.{fold-Read as fold-GRead}
use Rattle.ground_meaning.specs.Results.{after}
use Rattle.ground_meaning.specs.Expressions.{FoldFault, Folded, Operand, as_expression, constant_or, folded, folded_layer, folded_parts, folded_read, operated, operation, product, quotient}
use Rattle.ground_meaning.specs.Expressions.FoldFault.{Divide, OutOfRange}
use Rattle.ground_meaning.specs.Expressions.Operand.{constant, computed}
use Rattle.ground_meaning.specs.Tasks.{fluents_in, fluents_layer}
use Rattle.ground_meaning.proofs.Lists.{each_left, each_right, stands_left, stands_right}

-- ---- the fold, by what an expression is

module _ (p : Pair) (params : List Typed) (args : List (List ℕ)) where
  pub folded_Lit : (d : Decimal) (at : ℕ) → folded p params args (expression.Lit d at) ≡ Ok (constant (trimmed d))
  unfolding folded_parts
  folded_Lit d at = ap (λ (f : Folded). f.value) (fold-Lit (folded_layer p params args) d at)

  pub folded_Read : (a : Atom) → folded p params args (expression.Read a) ≡ Ok (folded_read p params args a)
  unfolding folded_parts
  folded_Read a = ap (λ (f : Folded). f.value) (fold-Read (folded_layer p params args) a)

  pub folded_Op : (at : ℕ) (o : Op) (x y : Expr) → folded p params args (expression.Op at o x y)
      ≡ after (λ a. after (λ b. operated o (folded_parts p params args y).place a b) (folded p params args y)) (folded p params args x)
  unfolding folded_parts
  folded_Op at o x y = ap (λ (f : Folded). f.value) (fold-Op (folded_layer p params args) at o x y)

-- the reads of an operation are those of its operands
pub reads_of_operation : (at : ℕ) (o : Op) (x y : Expr) → (expression_reads (expression.Op at o x y)).all ≡ (expression_reads x).all ++ (expression_reads y).all
reads_of_operation at op.Add x y = ap (λ r. r.all) (fold-Op expression_reads_layer at op.Add x y)
reads_of_operation at op.Sub x y = ap (λ r. r.all) (fold-Op expression_reads_layer at op.Sub x y)
reads_of_operation at op.Mul x y = ap (λ r. r.all) (fold-Op expression_reads_layer at op.Mul x y)
reads_of_operation at op.Div x y = ap (λ r. r.all) (fold-Op expression_reads_layer at op.Div x y)

pub reads_of_read : (a : Atom) → (expression_reads (expression.Read a)).all ≡ a ∷ []
reads_of_read a = ap (λ r. r.all) (fold-Read expression_reads_layer a)

-- ---- operations

-- an operation of the pair and the one of the task that does the same
pub record IsOperation (o : Op) (make : GExpr → GExpr → GExpr) (plain : Decimal → Decimal → Decimal) : Type 0 where
  pub exact : (a b : Decimal) → exactly o a b ≡ Some (trimmed (plain a b))
  pub of_trimmed : (a b : Decimal) → trimmed (plain (trimmed a) (trimmed b)) ≡ trimmed (plain a b)
  pub made : (v : ℕ → Decimal) (g h : GExpr) → value_in v (make g h) ≡ plain (value_in v g) (value_in v h)
  pub reads : (g h : GExpr) → fluents_in (make g h) ≡ fluents_in g ++ fluents_in h

pub is_sum : IsOperation op.Add e.Add sum_of
unfolding exactly
is_sum = record { exact = λ a b. refl; of_trimmed = sum_of_trimmed; made = λ v g h. fold-Add (value_layer v) g h; reads = λ g h. fold-Add fluents_layer g h }

pub is_difference : IsOperation op.Sub e.Sub difference_of
unfolding exactly
is_difference = record { exact = λ a b. refl; of_trimmed = difference_of_trimmed; made = λ v g h. fold-Sub (value_layer v) g h; reads = λ g h. fold-Sub fluents_layer g h }

pub is_product : IsOperation op.Mul e.Mul product_of
unfolding exactly
is_product = record { exact = λ a b. refl; of_trimmed = product_of_trimmed; made = λ v g h. fold-Mul (value_layer v) g h; reads = λ g h. fold-Mul fluents_layer g h }

-- a division is the product with the inverse
quotient_exact : (a d inverse : Decimal) → inverse_of d ≡ Some inverse → exactly op.Div a d ≡ exactly op.Mul a inverse
unfolding exactly
quotient_exact a d inverse h = ap (option_map (λ (i : Decimal). trimmed (product_of a i))) h

module _ (p : Pair) (params : List Typed) (args : List (List ℕ)) (w : WorldValue) (IsGood : Atom → Type 0)
    (fixed_value : (a : Atom) → IsGood a → is_fixed_function p a.head.text ≡ true → finite.get w.values (ground_text params args a) ≡ value_at_first p (atom_of params args a)) where
  -- of these fluents, those that good atoms name have these values, trimmed
  abbrev pub HasValues : (ℕ → Decimal) → List ℕ → Type 0
  HasValues v xs =
      (a : Atom) → IsGood a → is_fixed_function p a.head.text ≡ false → Stands (fluent_code p (atom_of params args a)) xs
      → finite.get w.values (ground_text params args a) ≡ Some (trimmed (v (fluent_code p (atom_of params args a))))

  -- there is a value, and it is that of the ground expression wherever the fluents that this reads have their values
  abbrev pub Gives : GExpr → Option Decimal → Type 0
  Gives g x = (is_some x ≡ true) × ((v : ℕ → Decimal) → HasValues v (fluents_in g) → x ≡ Some (trimmed (value_in v g)))

  -- a constant is the value itself
  abbrev pub Matches : Operand → Option Decimal → Type 0
  Matches (constant c) x = (x ≡ Some c) × (trimmed c ≡ c)
  Matches (computed g) x = Gives g x

  pub matches_gives : (a : Operand) (x : Option Decimal) → Matches a x → Gives (as_expression a) x
  matches_gives (constant c) x h = (
    ap is_some h.0,
    λ v r. h.0 ∙ ap Some (sym (ap trimmed (fold-Const (value_layer v) c) ∙ trimmed_twice c ∙ h.1)),
  )
  matches_gives (computed g) x h = h

  there : (o : Op) (make : GExpr → GExpr → GExpr) (plain : Decimal → Decimal → Decimal) → IsOperation o make plain
      → (x y : Option Decimal) → is_some x ≡ true → is_some y ≡ true → is_some (combined exactly o x y) ≡ true
  there o make plain is None y h k = cc
  there o make plain is (Some a) None h k = cc
  there o make plain is (Some a) (Some b) h k = ap is_some (is.exact a b)

  pub gives_made : (o : Op) (make : GExpr → GExpr → GExpr) (plain : Decimal → Decimal → Decimal) → IsOperation o make plain
      → (g h : GExpr) (x y : Option Decimal) → Gives g x → Gives h y → Gives (make g h) (combined exactly o x y)
  gives_made o make plain is g h x y first second = (
    there o make plain is x y first.0 second.0,
    λ v r.
        let left = first.1 v (λ a good changed s. r a good changed (subst (Stands (fluent_code p (atom_of params args a))) (sym (is.reads g h)) (stands_left _ (fluents_in g) (fluents_in h) s))) in
        let right = second.1 v (λ a good changed s. r a good changed (subst (Stands (fluent_code p (atom_of params args a))) (sym (is.reads g h)) (stands_right _ (fluents_in g) (fluents_in h) s))) in
        ap₂ (combined exactly o) left right ∙ is.exact (trimmed (value_in v g)) (trimmed (value_in v h))
        ∙ ap Some (is.of_trimmed (value_in v g) (value_in v h) ∙ ap trimmed (sym (is.made v g h))),
  )

  of_constants : (o : Op) (make : GExpr → GExpr → GExpr) (plain : Decimal → Decimal → Decimal) → IsOperation o make plain → (c d : Decimal)
      → (found : Option Decimal) → in_bounds o c d ≡ found → IfOk (constant_or OutOfRange found) (λ a. Matches a (exactly o c d))
  of_constants o make plain is c d None h = tt
  of_constants o make plain is c d (Some r) h =
      let value = operation_bounded o c d r h in
      let same = same_Some (trimmed (plain c d)) r (sym (is.exact c d) ∙ value) in
      (value, ap trimmed (sym same) ∙ trimmed_twice (plain c d) ∙ same)

  pub operation_matches : (o : Op) (make : GExpr → GExpr → GExpr) (plain : Decimal → Decimal → Decimal) → IsOperation o make plain
      → (a b : Operand) (x y : Option Decimal) → Matches a x → Matches b y → IfOk (operation o make a b) (λ r. Matches r (combined exactly o x y))
  operation_matches o make plain is (constant c) (constant d) x y h k =
      subst (λ (z : Option Decimal). IfOk (operation o make (constant c) (constant d)) (λ r. Matches r z)) (sym (ap₂ (combined exactly o) h.0 k.0))
      (of_constants o make plain is c d (in_bounds o c d) refl)
  operation_matches o make plain is (constant c) (computed g) x y h k = gives_made o make plain is (e.Const c) g x y (matches_gives (constant c) x h) k
  operation_matches o make plain is (computed g) b x y h k = gives_made o make plain is g (as_expression b) x y h (matches_gives b y k)

  of_quotient : (place : ℕ) (a : Operand) (d : Decimal) (x : Option Decimal) → Matches a x → (found : Option Decimal) → inverse_of d ≡ found
      → IfOk (option_map_or (λ i. product a (constant i)) found (Err (Divide place))) (λ r. Matches r (combined exactly op.Div x (Some d)))
  of_quotient place a d x h None is = tt
  of_quotient place a d x h (Some i) is =
      subst (λ (z : Option Decimal). IfOk (product a (constant i)) (λ r. Matches r z)) (by_inverse x)
      (operation_matches op.Mul e.Mul product_of is_product a (constant i) x (Some i) h (refl, (inverse_sound d i is).1))
    where
      by_inverse : (z : Option Decimal) → combined exactly op.Mul z (Some i) ≡ combined exactly op.Div z (Some d)
      by_inverse None = refl
      by_inverse (Some c) = sym (quotient_exact c d i is)

  pub operated_matches : (o : Op) (place : ℕ) (a b : Operand) (x y : Option Decimal) → Matches a x → Matches b y → IfOk (operated o place a b) (λ r. Matches r (combined exactly o x y))
  operated_matches op.Add place a b x y h k = operation_matches op.Add e.Add sum_of is_sum a b x y h k
  operated_matches op.Sub place a b x y h k = operation_matches op.Sub e.Sub difference_of is_difference a b x y h k
  operated_matches op.Mul place a b x y h k = operation_matches op.Mul e.Mul product_of is_product a b x y h k
  operated_matches op.Div place a (constant d) x y h k =
      subst (λ (z : Option Decimal). IfOk (quotient place a (constant d)) (λ r. Matches r (combined exactly op.Div x z))) (sym k.0)
      (of_quotient place a d x h (inverse_of d) refl)
  operated_matches op.Div place a (computed g) x y h k = tt

  -- ---- the law

  of_fixed : (found : Option (Atom × Decimal)) (x : Option Decimal) → x ≡ option_map (λ v. trimmed v.1) found → is_some x ≡ true
      → Matches (constant (unwrap_or (option_map (λ v. trimmed v.1) found) origin)) x
  of_fixed None x h there = let bad = sym there ∙ ap is_some h in cc
  of_fixed (Some v) x h there = (h, trimmed_twice v.1)

  -- a read of a fluent that isn't fixed
  pub read_gives : (a : Atom) → IsGood a → is_fixed_function p a.head.text ≡ false → finite.contains_key w.values (ground_text params args a) ≡ true
      → Gives (e.Read (fluent_code p (atom_of params args a))) (finite.get w.values (ground_text params args a))
  read_gives a good is defined = (
    defined,
    λ v r.
        r a good is (subst (Stands (fluent_code p (atom_of params args a))) (sym (fold-GRead fluents_layer (fluent_code p (atom_of params args a)))) (inl refl))
        ∙ ap Some (ap trimmed (sym (fold-GRead (value_layer v) (fluent_code p (atom_of params args a))))),
  )

  read_matches : (a : Atom) → IsGood a → finite.contains_key w.values (ground_text params args a) ≡ true → Matches (folded_read p params args a) (finite.get w.values (ground_text params args a))
  unfolding value_at_first
  read_matches a good defined = by_test (is_fixed_function p a.head.text) refl
    where
      by_test : (test : Bool) → is_fixed_function p a.head.text ≡ test
          → Matches (if test then constant (unwrap_or (value_at_first p (atom_of params args a)) origin) else computed (e.Read (fluent_code p (atom_of params args a))))
          (finite.get w.values (ground_text params args a))
      by_test true is = of_fixed (find (λ v. same_atom (atom_of params args a) (atom_of [] [] v.0)) p.problem.values) (finite.get w.values (ground_text params args a)) (fixed_value a good is) defined
      by_test false is = read_gives a good is defined

  both_match : (o : Op) (place : ℕ) (a b : Result Operand FoldFault) (x y : Option Decimal) → IfOk a (λ r. Matches r x) → IfOk b (λ r. Matches r y)
      → IfOk (after (λ c. after (λ d. operated o place c d) b) a) (λ r. Matches r (combined exactly o x y))
  both_match o place (Err f) b x y h k = tt
  both_match o place (Ok a) (Err f) x y h k = tt
  both_match o place (Ok a) (Ok b) x y h k = operated_matches o place a b x y h k

  -- where each fluent that is read is defined, an expression that folds has a value, and what it folds to gives this value
  abbrev IsSound : Expr → Type 0
  IsSound x = Each IsGood (expression_reads x).all → reads_defined params args w x ≡ true → IfOk (folded p params args x) (λ r. Matches r (value_of params args w x))

  pub fold_is_sound : (x : Expr) → IsSound x
  fold_is_sound = induct_expression IsSound
      (λ d at good defined.
      subst (λ (f : Result Operand FoldFault). IfOk f (λ r. Matches r (value_of params args w (expression.Lit d at)))) (sym (folded_Lit p params args d at))
      (value_of_Lit exactly params args w d at, trimmed_twice d))
      (λ a good defined.
      subst (λ (f : Result Operand FoldFault). IfOk f (λ r. Matches r (value_of params args w (expression.Read a)))) (sym (folded_Read p params args a))
      (subst (Matches (folded_read p params args a)) (sym (value_of_Read exactly params args w a))
      (read_matches a (subst (Each IsGood) (reads_of_read a) good).0 (sym (reads_of_Read params args w a) ∙ defined))))
      (λ at o x y f g good defined.
      let parts = both_true (reads_defined params args w x) (reads_defined params args w y) (sym (reads_of_Op params args w at o x y) ∙ defined) in
      let all = subst (Each IsGood) (reads_of_operation at o x y) good in
      subst (λ (z : Result Operand FoldFault). IfOk z (λ r. Matches r (value_of params args w (expression.Op at o x y)))) (sym (folded_Op p params args at o x y))
      (subst (λ (z : Option Decimal). IfOk (after (λ a. after (λ b. operated o (folded_parts p params args y).place a b) (folded p params args y)) (folded p params args x)) (λ r. Matches r z))
      (sym (value_of_Op exactly params args w at o x y))
      (both_match o (folded_parts p params args y).place (folded p params args x) (folded p params args y) (value_of params args w x) (value_of params args w y)
      (f (each_left IsGood (expression_reads x).all (expression_reads y).all all) parts.0) (g (each_right IsGood (expression_reads x).all (expression_reads y).all all) parts.1))))
