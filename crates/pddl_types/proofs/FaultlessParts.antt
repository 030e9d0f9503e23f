-- An expression or a condition has no fault exactly where its parts have none.
use Rattle.std.proofs.Common.{◌≡◌, ◌||◌, ◌&&◌, ℕ, Bool, true, false, List, [], ◌∷◌, ◌++◌, None, map, All, refl, sym, ap, subst, ◌∙◌, if◌then◌else◌}
use Rattle.std.specs.Prelude.{◌↔◌, flat_map, not}
use Rattle.std.proofs.lemmas.List.Elements.{All-head, All-tail}
use Rattle.num_ends.specs.Decimal.{Decimal}
use Rattle.pddl_terms.specs.declared.names.Arg.{Arg}
use Rattle.pddl_terms.specs.declared.names.Atom.{Atom}
use Rattle.pddl_terms.specs.declared.names.Typed.{Typed}
use Rattle.pddl_terms.specs.declared.expressions.Op.{Op}
use Rattle.pddl_terms.specs.declared.expressions.Op.TheVariants as op
use Rattle.pddl_terms.specs.declared.expressions.Expr.{Expr, Expr-F, fold-Expr, fold-roll-Expr}
use Rattle.pddl_terms.specs.declared.expressions.Expr.TheVariants as expr
use Rattle.pddl_terms.specs.declared.conditions.Rel.{Rel}
use Rattle.pddl_terms.specs.declared.conditions.Cond.{Cond, Cond-F, fold-Cond, fold-roll-Cond}
use Rattle.pddl_terms.specs.declared.conditions.Cond.TheVariants as condition
use Rattle.pddl_terms.proofs.Induction.{induct_condition, induct_expression}
use Rattle.pddl_types.specs.declared.faults.Side.{Side}
use Rattle.pddl_types.specs.declared.faults.CheckKind.TheVariants.{Divide}
use Rattle.pddl_types.specs.declared.faults.Fault.{Fault}
use Rattle.pddl_types.specs.declared.pairs.Pair.{Pair}
use Rattle.pddl_types.specs.declared.pairs.Sort.TheVariants.{Predicate, Function}
use Rattle.name_table.specs.Tables.{is_text_among}
use Rattle.pddl_types.specs.Faults.{check_fault}
use Rattle.pddl_types.specs.Pairs.{changed_functions}
use Rattle.pddl_types.specs.UseFaults.{argument_faults, atom_faults, condition_faults, expression_faults, is_division, read_faults}
use Rattle.pddl_types.specs.Contents.{Parts, Reads, joined_parts, condition_parts_layer, condition_parts, expression_reads, expression_reads_layer}
use Rattle.pddl_types.specs.WellFormed.{Each}
use Rattle.pddl_types.proofs.Empties.{same, chain, back, both, empty_append, empty_unless, each_append}
use Rattle.pddl_types.proofs.Layers.{number_layer, read_layer, operation_layer, and_layer, or_layer, not_layer, imply_layer, fact_layer, same_layer, compare_layer}

-- ---- expressions

reads-Lit : (d : Decimal) (at : ℕ) → expression_reads (expr.Lit d at) ≡ record { all = []; in_divisors = [] }
reads-Lit d at = ap (fold-Expr Reads expression_reads_layer) (sym (expr.rolls-Lit d at)) ∙ fold-roll-Expr Reads expression_reads_layer (Expr-F.Lit d at)

reads-Read : (a : Atom) → expression_reads (expr.Read a) ≡ record { all = a ∷ []; in_divisors = [] }
reads-Read a = ap (fold-Expr Reads expression_reads_layer) (sym (expr.rolls-Read a)) ∙ fold-roll-Expr Reads expression_reads_layer (Expr-F.Read a)

reads-Op : (at : ℕ) (o : Op) (x y : Expr) → expression_reads (expr.Op at o x y) ≡ expression_reads_layer (Expr-F.Op at o (expression_reads x) (expression_reads y))
reads-Op at o x y = ap (fold-Expr Reads expression_reads_layer) (sym (expr.rolls-Op at o x y)) ∙ fold-roll-Expr Reads expression_reads_layer (Expr-F.Op at o x y)

module _ (p : Pair) (side : Side) (params : List Typed) where
  abbrev pub ReadsWell : Atom → Type 0
  ReadsWell a = atom_faults p side params Function a ≡ []

  abbrev pub IsUnchanged : Atom → Type 0
  IsUnchanged a = is_text_among a.head.text (changed_functions p.domain) ≡ false

  -- what must not be changed where the expression stands in a divisor or not
  abbrev Dividing : Bool → Reads → Type 0
  Dividing divisor r = Each IsUnchanged (if divisor then r.all else r.in_divisors)

  all_of_operation : (at : ℕ) (o : Op) (x y : Reads) → Each ReadsWell (expression_reads_layer (Expr-F.Op at o x y)).all ↔ (Each ReadsWell x.all × Each ReadsWell y.all)
  all_of_operation at op.Add x y = each_append ReadsWell x.all y.all
  all_of_operation at op.Sub x y = each_append ReadsWell x.all y.all
  all_of_operation at op.Mul x y = each_append ReadsWell x.all y.all
  all_of_operation at op.Div x y = each_append ReadsWell x.all y.all

  divisors_of_operation : (divisor : Bool) (at : ℕ) (o : Op) (x y : Reads) → Dividing divisor (expression_reads_layer (Expr-F.Op at o x y)) ↔ (Dividing divisor x × Dividing (divisor || is_division o) y)
  divisors_of_operation true at op.Add x y = each_append IsUnchanged x.all y.all
  divisors_of_operation true at op.Sub x y = each_append IsUnchanged x.all y.all
  divisors_of_operation true at op.Mul x y = each_append IsUnchanged x.all y.all
  divisors_of_operation true at op.Div x y = each_append IsUnchanged x.all y.all
  divisors_of_operation false at op.Add x y = each_append IsUnchanged x.in_divisors y.in_divisors
  divisors_of_operation false at op.Sub x y = each_append IsUnchanged x.in_divisors y.in_divisors
  divisors_of_operation false at op.Mul x y = each_append IsUnchanged x.in_divisors y.in_divisors
  divisors_of_operation false at op.Div x y = each_append IsUnchanged x.in_divisors y.all

  not_true : (b : Bool) → (not b ≡ true) ↔ (b ≡ false)
  not_true true = (λ e. cc, λ e. cc)
  not_true false = (λ e. refl, λ e. refl)

  read_means : (a : Atom) (divisor : Bool) → (read_faults p side params a divisor ≡ []) ↔ (Each ReadsWell (a ∷ []) × Each IsUnchanged (if divisor then a ∷ [] else []))
  read_means a true =
      chain (empty_append _ _) (chain (both same (chain (empty_unless (not (true && is_text_among a.head.text (changed_functions p.domain))) (check_fault side Divide a.head)) (not_true _)))
      (λ h. ((h.0, tt), (h.1, tt)), λ h. (h.0.0, h.1.0)))
  read_means a false =
      chain (empty_append _ _) (chain (both same (empty_unless true (check_fault side Divide a.head))) (λ h. ((h.0, tt), tt), λ h. (h.0.0, refl)))

  abbrev ExpressionMeans : Expr → Type 0
  ExpressionMeans e = (divisor : Bool) → (expression_faults p side params e divisor ≡ []) ↔ (Each ReadsWell (expression_reads e).all × Dividing divisor (expression_reads e))

  expression_any : (e : Expr) → ExpressionMeans e
  expression_any = induct_expression ExpressionMeans number read operation
    where
      number : (d : Decimal) (at : ℕ) → ExpressionMeans (expr.Lit d at)
      number d at divisor =
          subst (λ r. (expression_faults p side params (expr.Lit d at) divisor ≡ []) ↔ (Each ReadsWell r.all × Dividing divisor r)) (sym (reads-Lit d at))
          (subst (λ fs. (fs ≡ []) ↔ (Unit {0} × Dividing divisor (record { all = []; in_divisors = [] }))) (sym (number_layer p side params d at divisor))
          ((λ h. (tt, none divisor), λ h. refl)))
        where
          none : (b : Bool) → Each IsUnchanged (if b then [] else [])
          none true = tt
          none false = tt

      read : (a : Atom) → ExpressionMeans (expr.Read a)
      read a divisor =
          subst (λ r. (expression_faults p side params (expr.Read a) divisor ≡ []) ↔ (Each ReadsWell r.all × Dividing divisor r)) (sym (reads-Read a))
          (subst (λ fs. (fs ≡ []) ↔ (Each ReadsWell (a ∷ []) × Each IsUnchanged (if divisor then a ∷ [] else []))) (sym (read_layer p side params a divisor)) (read_means a divisor))

      operation : (at : ℕ) (o : Op) (x y : Expr) → ExpressionMeans x → ExpressionMeans y → ExpressionMeans (expr.Op at o x y)
      operation at o x y h k divisor =
          let all = all_of_operation at o (expression_reads x) (expression_reads y) in
          let divisors = divisors_of_operation divisor at o (expression_reads x) (expression_reads y) in
          subst (λ r. (expression_faults p side params (expr.Op at o x y) divisor ≡ []) ↔ (Each ReadsWell r.all × Dividing divisor r)) (sym (reads-Op at o x y))
          (subst (λ fs. (fs ≡ []) ↔ (Each ReadsWell (expression_reads_layer (Expr-F.Op at o (expression_reads x) (expression_reads y))).all × Dividing divisor (expression_reads_layer (Expr-F.Op at o (expression_reads x) (expression_reads y)))))
          (sym (operation_layer p side params at o x y divisor))
          (chain (empty_append _ _) (chain (both (h divisor) (k (divisor || is_division o)))
          (λ m. (all.1 (m.0.0, m.1.0), divisors.1 (m.0.1, m.1.1)), λ m. (((all.0 m.0).0, (divisors.0 m.1).0), ((all.0 m.0).1, (divisors.0 m.1).1))))))

  pub expression_means : (e : Expr) → (expression_faults p side params e false ≡ []) ↔ (Each ReadsWell (expression_reads e).all × Each IsUnchanged (expression_reads e).in_divisors)
  expression_means e = expression_any e false

-- ---- conditions

parts-And : (cs : List Cond) → condition_parts (condition.And cs) ≡ joined_parts (map condition_parts cs)
parts-And cs = ap (fold-Cond Parts condition_parts_layer) (sym (condition.rolls-And cs)) ∙ fold-roll-Cond Parts condition_parts_layer (Cond-F.And cs)

parts-Or : (cs : List Cond) → condition_parts (condition.Or cs) ≡ joined_parts (map condition_parts cs)
parts-Or cs = ap (fold-Cond Parts condition_parts_layer) (sym (condition.rolls-Or cs)) ∙ fold-roll-Cond Parts condition_parts_layer (Cond-F.Or cs)

parts-Not : (c : Cond) → condition_parts (condition.Not c) ≡ condition_parts c
parts-Not c = ap (fold-Cond Parts condition_parts_layer) (sym (condition.rolls-Not c)) ∙ fold-roll-Cond Parts condition_parts_layer (Cond-F.Not c)

parts-Imply : (b c : Cond) → condition_parts (condition.Imply b c) ≡ joined_parts (condition_parts b ∷ condition_parts c ∷ [])
parts-Imply b c = ap (fold-Cond Parts condition_parts_layer) (sym (condition.rolls-Imply b c)) ∙ fold-roll-Cond Parts condition_parts_layer (Cond-F.Imply b c)

parts-Fact : (a : Atom) → condition_parts (condition.Fact a) ≡ record { facts = a ∷ []; numbers = []; objects = [] }
parts-Fact a = ap (fold-Cond Parts condition_parts_layer) (sym (condition.rolls-Fact a)) ∙ fold-roll-Cond Parts condition_parts_layer (Cond-F.Fact a)

parts-Same : (a b : Arg) → condition_parts (condition.Same a b) ≡ record { facts = []; numbers = []; objects = a ∷ b ∷ [] }
parts-Same a b = ap (fold-Cond Parts condition_parts_layer) (sym (condition.rolls-Same a b)) ∙ fold-roll-Cond Parts condition_parts_layer (Cond-F.Same a b)

parts-Cmp : (r : Rel) (e f : Expr) → condition_parts (condition.Cmp r e f) ≡ record { facts = []; numbers = e ∷ f ∷ []; objects = [] }
parts-Cmp r e f = ap (fold-Cond Parts condition_parts_layer) (sym (condition.rolls-Cmp r e f)) ∙ fold-roll-Cond Parts condition_parts_layer (Cond-F.Cmp r e f)

module _ (p : Pair) (side : Side) (params : List Typed) where
  abbrev pub IsFact : Atom → Type 0
  IsFact a = atom_faults p side params Predicate a ≡ []

  abbrev pub IsNumber : Expr → Type 0
  IsNumber e = expression_faults p side params e false ≡ []

  abbrev pub IsMentioned : Arg → Type 0
  IsMentioned a = argument_faults p side params None a ≡ []

  abbrev pub HasParts : Parts → Type 0
  HasParts x = Each IsFact x.facts × Each IsNumber x.numbers × Each IsMentioned x.objects

  abbrev ConditionMeans : Cond → Type 0
  ConditionMeans c = (condition_faults p side params c ≡ []) ↔ HasParts (condition_parts c)

  joined_pair : (x y : Parts) (rest : List Parts) → HasParts (joined_parts (x ∷ rest)) ↔ (HasParts x × HasParts (joined_parts rest))
  joined_pair x y rest =
      let facts = each_append IsFact x.facts (joined_parts rest).facts in
      let numbers = each_append IsNumber x.numbers (joined_parts rest).numbers in
      let objects = each_append IsMentioned x.objects (joined_parts rest).objects in (
        λ h. (((facts.0 h.0).0, (numbers.0 h.1).0, (objects.0 h.2).0), ((facts.0 h.0).1, (numbers.0 h.1).1, (objects.0 h.2).1)),
        λ h. (facts.1 (h.0.0, h.1.0), numbers.1 (h.0.1, h.1.1), objects.1 (h.0.2, h.1.2)),
      )

  all_conditions : (cs : List Cond) → All ConditionMeans cs → (flat_map (condition_faults p side params) cs ≡ []) ↔ HasParts (joined_parts (map condition_parts cs))
  all_conditions [] h = (λ e. (tt, tt, tt), λ e. refl)
  all_conditions (c ∷ cs) h =
      chain (empty_append _ _) (chain (both (All-head ConditionMeans c cs h) (all_conditions cs (All-tail ConditionMeans c cs h))) (back (joined_pair (condition_parts c) (condition_parts c) (map condition_parts cs))))

  moved : (c : Cond) (fs : List Fault) (x : Parts) → condition_faults p side params c ≡ fs → condition_parts c ≡ x → (fs ≡ []) ↔ HasParts x → ConditionMeans c
  moved c fs x e f h =
      subst (λ y. (condition_faults p side params c ≡ []) ↔ HasParts y) (sym f) (subst (λ gs. (gs ≡ []) ↔ HasParts x) (sym e) h)

  pub condition_means : (c : Cond) → ConditionMeans c
  condition_means =
      induct_condition ConditionMeans (record {
        conjunction = conjunction;
        disjunction = disjunction;
        negation = negation;
        implication = implication;
        fact = fact;
        equal = equal;
        compare = compare;
      })
    where
      conjunction : (cs : List Cond) → All ConditionMeans cs → ConditionMeans (condition.And cs)
      conjunction cs h = moved (condition.And cs) (flat_map (condition_faults p side params) cs) (joined_parts (map condition_parts cs)) (and_layer p side params cs) (parts-And cs) (all_conditions cs h)

      disjunction : (cs : List Cond) → All ConditionMeans cs → ConditionMeans (condition.Or cs)
      disjunction cs h = moved (condition.Or cs) (flat_map (condition_faults p side params) cs) (joined_parts (map condition_parts cs)) (or_layer p side params cs) (parts-Or cs) (all_conditions cs h)

      negation : (c : Cond) → ConditionMeans c → ConditionMeans (condition.Not c)
      negation c h = moved (condition.Not c) (condition_faults p side params c) (condition_parts c) (not_layer p side params c) (parts-Not c) h

      implication : (b c : Cond) → ConditionMeans b → ConditionMeans c → ConditionMeans (condition.Imply b c)
      implication b c h k =
          moved (condition.Imply b c) (condition_faults p side params b ++ condition_faults p side params c) (joined_parts (condition_parts b ∷ condition_parts c ∷ [])) (imply_layer p side params b c) (parts-Imply b c)
          (chain (empty_append _ _) (chain (both h k)
          (chain (both same (λ m. (m, (tt, tt, tt)), λ m. m.0))
          (chain (both same (back (joined_pair (condition_parts c) (condition_parts c) []))) (back (joined_pair (condition_parts b) (condition_parts b) (condition_parts c ∷ [])))))))

      fact : (a : Atom) → ConditionMeans (condition.Fact a)
      fact a = moved (condition.Fact a) (atom_faults p side params Predicate a) (record { facts = a ∷ []; numbers = []; objects = [] }) (fact_layer p side params a) (parts-Fact a) (λ h. ((h, tt), tt, tt), λ h. h.0.0)

      equal : (a b : Arg) → ConditionMeans (condition.Same a b)
      equal a b =
          moved (condition.Same a b) (argument_faults p side params None a ++ argument_faults p side params None b) (record { facts = []; numbers = []; objects = a ∷ b ∷ [] }) (same_layer p side params a b) (parts-Same a b)
          (chain (empty_append _ _) (λ h. (tt, tt, (h.0, (h.1, tt))), λ h. (h.2.0, h.2.1.0)))

      compare : (r : Rel) (e f : Expr) → ConditionMeans (condition.Cmp r e f)
      compare r e f =
          moved (condition.Cmp r e f) (expression_faults p side params e false ++ expression_faults p side params f false) (record { facts = []; numbers = e ∷ f ∷ []; objects = [] }) (compare_layer p side params r e f) (parts-Cmp r e f)
          (chain (empty_append _ _) (λ h. (tt, (h.0, (h.1, tt)), tt), λ h. (h.1.0, h.1.1.0)))
