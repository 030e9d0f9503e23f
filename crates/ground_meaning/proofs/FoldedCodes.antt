-- What folded expressions, conditions and effects name: codes of the atoms that the text names.
use Rattle.std.proofs.Common.{◌≡◌, ◌++◌, ℕ, Bool, true, false, not, List, [], ◌∷◌, map, All, Option, Some, None, Result, Ok, Err, refl, sym, subst, IfOk}
use Rattle.std.specs.Prelude.{flat_map, unwrap_or, if◌then◌else◌}
use Rattle.std.specs.Option.{option_map_or}
use Rattle.std.specs.List.{list_any}
use Rattle.std.proofs.lemmas.List.Elements.{All-head, All-tail}
use Rattle.num_ends.specs.Decimal.{Decimal, difference_of, origin, product_of, sum_of, trimmed}
use Rattle.pddl_terms.specs.declared.names.Arg.{Arg}
use Rattle.pddl_terms.specs.declared.names.Atom.{Atom}
use Rattle.pddl_terms.specs.declared.names.Typed.{Typed}
use Rattle.pddl_terms.specs.declared.actions.Assign.{Assign}
use Rattle.pddl_terms.specs.declared.actions.Assign.TheVariants as how
use Rattle.pddl_terms.specs.declared.actions.Effect.{Effect}
use Rattle.pddl_terms.specs.declared.actions.Effect.TheVariants as effect
use Rattle.pddl_terms.specs.declared.expressions.Op.{Op}
use Rattle.pddl_terms.specs.declared.expressions.Op.TheVariants as op
use Rattle.pddl_terms.specs.declared.expressions.Expr.{Expr}
use Rattle.pddl_terms.specs.declared.conditions.Rel.{Rel}
use Rattle.pddl_terms.specs.declared.conditions.Rel.TheVariants as rel
use Rattle.pddl_terms.specs.declared.conditions.Cond.{Cond}
use Rattle.pddl_terms.specs.declared.conditions.Cond.TheVariants as condition
use Rattle.pddl_terms.proofs.Induction.{induct_condition, induct_expression}
use Rattle.pddl_types.specs.declared.pairs.Pair.{Pair}
use Rattle.pddl_types.specs.Contents.{Parts, condition_parts, condition_parts_layer, expression_reads, fact_changed}
use Rattle.pddl_types.specs.WellFormed.{Each}
use Rattle.static_facts.specs.Atoms.{atom_of, is_true_at_first, value_at_first}
use Rattle.static_facts.specs.Fixed.{is_fixed_function, is_fixed_predicate}
use Rattle.static_facts.specs.Codes.{fact_code, fluent_code}
use Rattle.pddl_meaning.specs.Effects.{reads_old}
use Rattle.pddl_meaning.specs.Truth.{at_polarity}
use Rattle.pddl_meaning.specs.Values.{in_bounds, inverse_of}
use Rattle.pddl_meaning.proofs.Folds.{fold-And, fold-Or, fold-Not, fold-Imply, fold-Fact, fold-Same, fold-Cmp}
use Rattle.ground_task.specs.declared.raw.Rel.{Rel as Relation}
use Rattle.ground_task.specs.declared.raw.Rel.TheVariants as relation
use Rattle.ground_task.specs.declared.raw.GExpr.{GExpr}
use Rattle.ground_task.specs.declared.raw.GExpr.TheVariants as e
use Rattle.ground_task.specs.declared.raw.GCond.{GCond}
use Rattle.ground_task.specs.declared.raw.GCond.TheVariants as c
use Rattle.ground_task.specs.Ranged.{top_conjuncts}
use Rattle.ground_task.proofs.Trees.{fold-Const, fold-False, fold-True}
use Rattle.ground_task.proofs.Trees.{fold-And as fold-GAnd, fold-Cmp as fold-GCmp, fold-Fact as fold-GFact, fold-Or as fold-GOr, fold-Read as fold-GRead}
use Rattle.ground_meaning.specs.Results.{all_answers, mapped}
use Rattle.ground_meaning.specs.Expressions.{FoldFault, Operand, as_expression, constant_or, difference, folded, folded_parts, folded_read, operated, operation, product, sum}
use Rattle.ground_meaning.specs.Expressions.FoldFault.{Divide, OutOfRange}
use Rattle.ground_meaning.specs.Expressions.Operand.{constant, computed}
use Rattle.ground_meaning.specs.Conditions.{Settled, all_of, any_of, as_condition, compared, comparison, condition_layer, folded_condition, folded_fact, is_decided, joined, remaining_members, top_disjuncts}
use Rattle.ground_meaning.specs.Conditions.Settled.{decided, remaining}
use Rattle.ground_meaning.specs.Actions.{FoldedChange, added_fact, added_facts, changes_from, deleted_fact, deleted_facts, each_once, growth, is_growth_of, is_listed, replacement, with_change, with_effect, with_growth, with_new}
use Rattle.ground_meaning.specs.Tasks.{condition_facts, condition_facts_layer, condition_fluents, condition_fluents_layer, fluents_in, fluents_layer}
use Rattle.ground_meaning.proofs.ConditionFolds.{if_after, if_mapped}
use Rattle.ground_meaning.proofs.ExpressionFolds.{IsOperation, folded_Lit, folded_Op, folded_Read, is_difference, is_product, is_sum, reads_of_operation, reads_of_read}
use Rattle.ground_meaning.proofs.Lists.{each_filtered, each_joined, each_left, each_right}
use Rattle.ground_meaning.proofs.Simplified.{by_conjuncts, by_disjuncts}

module _ (p : Pair) (params : List Typed) (args : List (List ℕ)) (IsFactCode IsFluentCode : ℕ → Type 0) where
  -- an atom has such a code
  abbrev pub IsFactThere : Atom → Type 0
  IsFactThere a = IsFactCode (fact_code p (atom_of params args a))

  abbrev pub IsFluentThere : Atom → Type 0
  IsFluentThere a = IsFluentCode (fluent_code p (atom_of params args a))

  -- ---- expressions

  abbrev Reads : Operand → Type 0
  Reads o = Each IsFluentCode (fluents_in (as_expression o))

  constant_reads : (d : Decimal) → Each IsFluentCode (fluents_in (e.Const d))
  constant_reads d = subst (Each IsFluentCode) (sym (fold-Const fluents_layer d)) tt

  read_reads : (n : ℕ) → IsFluentCode n → Each IsFluentCode (fluents_in (e.Read n))
  read_reads n is = subst (Each IsFluentCode) (sym (fold-GRead fluents_layer n)) (is, tt)

  made_reads : (o : Op) (make : GExpr → GExpr → GExpr) (plain : Decimal → Decimal → Decimal) → IsOperation o make plain
      → (g h : GExpr) → Each IsFluentCode (fluents_in g) → Each IsFluentCode (fluents_in h) → Each IsFluentCode (fluents_in (make g h))
  made_reads o make plain is g h first second = subst (Each IsFluentCode) (sym (is.reads g h)) (each_joined IsFluentCode (fluents_in g) (fluents_in h) first second)

  of_constants : (found : Option Decimal) → IfOk (constant_or OutOfRange found) Reads
  of_constants None = tt
  of_constants (Some d) = constant_reads d

  operation_reads : (o : Op) (make : GExpr → GExpr → GExpr) (plain : Decimal → Decimal → Decimal) → IsOperation o make plain
      → (a b : Operand) → Reads a → Reads b → IfOk (operation o make a b) Reads
  operation_reads o make plain is (constant k) (constant d) first second = of_constants (in_bounds o k d)
  operation_reads o make plain is (constant k) (computed h) first second = made_reads o make plain is (e.Const k) h first second
  operation_reads o make plain is (computed g) b first second = made_reads o make plain is g (as_expression b) first second

  of_quotient : (place : ℕ) (a : Operand) → Reads a → (found : Option Decimal) → IfOk (option_map_or (λ i. product a (constant i)) found (Err (Divide place))) Reads
  of_quotient place a first None = tt
  of_quotient place a first (Some i) = operation_reads op.Mul e.Mul product_of is_product a (constant i) first (constant_reads i)

  operated_reads : (o : Op) (place : ℕ) (a b : Operand) → Reads a → Reads b → IfOk (operated o place a b) Reads
  operated_reads op.Add place a b first second = operation_reads op.Add e.Add sum_of is_sum a b first second
  operated_reads op.Sub place a b first second = operation_reads op.Sub e.Sub difference_of is_difference a b first second
  operated_reads op.Mul place a b first second = operation_reads op.Mul e.Mul product_of is_product a b first second
  operated_reads op.Div place a (constant d) first second = of_quotient place a first (inverse_of d)
  operated_reads op.Div place a (computed g) first second = tt

  folded_read_reads : (a : Atom) → IsFluentThere a → Reads (folded_read p params args a)
  folded_read_reads a is = by_test (is_fixed_function p a.head.text)
    where
      by_test : (test : Bool) → Reads (if test then constant (unwrap_or (value_at_first p (atom_of params args a)) origin) else computed (e.Read (fluent_code p (atom_of params args a))))
      by_test true = constant_reads (unwrap_or (value_at_first p (atom_of params args a)) origin)
      by_test false = read_reads (fluent_code p (atom_of params args a)) is

  abbrev pub IsExpressionThere : Expr → Type 0
  IsExpressionThere x = Each IsFluentThere (expression_reads x).all

  abbrev ReadsThere : Expr → Type 0
  ReadsThere x = IsExpressionThere x → IfOk (folded p params args x) Reads

  pub expression_reads_there : (x : Expr) → ReadsThere x
  expression_reads_there =
      induct_expression ReadsThere
      (λ d at h. subst (λ (f : Result Operand FoldFault). IfOk f Reads) (sym (folded_Lit p params args d at)) (constant_reads (trimmed d)))
      (λ a h. subst (λ (f : Result Operand FoldFault). IfOk f Reads) (sym (folded_Read p params args a)) (folded_read_reads a (subst (Each IsFluentThere) (reads_of_read a) h).0))
      (λ at o x y f g h.
      let all = subst (Each IsFluentThere) (reads_of_operation at o x y) h in
      subst (λ (z : Result Operand FoldFault). IfOk z Reads) (sym (folded_Op p params args at o x y))
      (if_after Reads Reads _ (folded p params args x) (f (each_left IsFluentThere (expression_reads x).all (expression_reads y).all all))
      (λ a first. if_after Reads Reads _ (folded p params args y) (g (each_right IsFluentThere (expression_reads x).all (expression_reads y).all all))
      (λ b second. operated_reads o (folded_parts p params args y).place a b first second))))

  -- ---- ground conditions

  -- all facts and fluents that a condition names have such codes
  abbrev pub IsNaming : GCond → Type 0
  IsNaming g = Each IsFactCode (condition_facts g) × Each IsFluentCode (condition_fluents g)

  always : IsNaming c.True
  always = (subst (Each IsFactCode) (sym (fold-True condition_facts_layer)) tt, subst (Each IsFluentCode) (sym (fold-True condition_fluents_layer)) tt)

  never : IsNaming c.False
  never = (subst (Each IsFactCode) (sym (fold-False condition_facts_layer)) tt, subst (Each IsFluentCode) (sym (fold-False condition_fluents_layer)) tt)

  members_of : (cs : List GCond) → Each IsFactCode (flat_map (λ ns. ns) (map condition_facts cs)) → Each IsFluentCode (flat_map (λ ns. ns) (map condition_fluents cs)) → Each IsNaming cs
  members_of [] f x = tt
  members_of (g ∷ cs) f x = (
    (each_left IsFactCode (condition_facts g) _ f, each_left IsFluentCode (condition_fluents g) _ x),
    members_of cs (each_right IsFactCode (condition_facts g) _ f) (each_right IsFluentCode (condition_fluents g) _ x),
  )

  facts_of : (cs : List GCond) → Each IsNaming cs → Each IsFactCode (flat_map (λ ns. ns) (map condition_facts cs))
  facts_of [] h = tt
  facts_of (g ∷ cs) h = each_joined IsFactCode (condition_facts g) _ h.0.0 (facts_of cs h.1)

  fluents_of : (cs : List GCond) → Each IsNaming cs → Each IsFluentCode (flat_map (λ ns. ns) (map condition_fluents cs))
  fluents_of [] h = tt
  fluents_of (g ∷ cs) h = each_joined IsFluentCode (condition_fluents g) _ h.0.1 (fluents_of cs h.1)

  of_conjunction : (cs : List GCond) → IsNaming (c.And cs) → Each IsNaming cs
  of_conjunction cs h = members_of cs (subst (Each IsFactCode) (fold-GAnd condition_facts_layer cs) h.0) (subst (Each IsFluentCode) (fold-GAnd condition_fluents_layer cs) h.1)

  for_conjunction : (cs : List GCond) → Each IsNaming cs → IsNaming (c.And cs)
  for_conjunction cs h = (subst (Each IsFactCode) (sym (fold-GAnd condition_facts_layer cs)) (facts_of cs h), subst (Each IsFluentCode) (sym (fold-GAnd condition_fluents_layer cs)) (fluents_of cs h))

  of_disjunction : (cs : List GCond) → IsNaming (c.Or cs) → Each IsNaming cs
  of_disjunction cs h = members_of cs (subst (Each IsFactCode) (fold-GOr condition_facts_layer cs) h.0) (subst (Each IsFluentCode) (fold-GOr condition_fluents_layer cs) h.1)

  for_disjunction : (cs : List GCond) → Each IsNaming cs → IsNaming (c.Or cs)
  for_disjunction cs h = (subst (Each IsFactCode) (sym (fold-GOr condition_facts_layer cs)) (facts_of cs h), subst (Each IsFluentCode) (sym (fold-GOr condition_fluents_layer cs)) (fluents_of cs h))

  conjuncts_naming : (g : GCond) → IsNaming g → Each IsNaming (top_conjuncts g)
  conjuncts_naming = by_conjuncts (λ g gs. IsNaming g → Each IsNaming gs) (λ cs h. of_conjunction cs h) (λ g h. (h, tt))

  disjuncts_naming : (g : GCond) → IsNaming g → Each IsNaming (top_disjuncts g)
  disjuncts_naming = by_disjuncts (λ g gs. IsNaming g → Each IsNaming gs) (λ cs h. of_disjunction cs h) (λ g h. (h, tt))

  -- ---- settled conditions

  abbrev pub IsSettledNaming : Settled → Type 0
  IsSettledNaming s = IsNaming (as_condition s)

  decided_naming : (truth : Bool) → IsSettledNaming (decided truth)
  decided_naming true = always
  decided_naming false = never

  members_naming : (members : GCond → List GCond) → ((g : GCond) → IsNaming g → Each IsNaming (members g)) → (ss : List Settled) → Each IsSettledNaming ss
      → Each IsNaming (flat_map (remaining_members members) ss)
  members_naming members each [] h = tt
  members_naming members each (decided truth ∷ ss) h = members_naming members each ss h.1
  members_naming members each (remaining g ∷ ss) h = each_joined IsNaming (members g) _ (each g h.0) (members_naming members each ss h.1)

  joined_naming : (empty : Bool) (make : List GCond → GCond) → ((gs : List GCond) → Each IsNaming gs → IsNaming (make gs)) → (gs : List GCond) → Each IsNaming gs
      → IsSettledNaming (joined empty make gs)
  joined_naming empty make whole [] h = decided_naming empty
  joined_naming empty make whole (g ∷ []) h = h.0
  joined_naming empty make whole (g ∷ k ∷ gs) h = whole (g ∷ k ∷ gs) h

  all_of_naming : (ss : List Settled) → Each IsSettledNaming ss → IsSettledNaming (all_of ss)
  all_of_naming ss h = by_test (list_any (is_decided false) ss)
    where
      by_test : (test : Bool) → IsSettledNaming (if test then decided false else joined true c.And (flat_map (remaining_members top_conjuncts) ss))
      by_test true = never
      by_test false = joined_naming true c.And for_conjunction (flat_map (remaining_members top_conjuncts) ss) (members_naming top_conjuncts conjuncts_naming ss h)

  any_of_naming : (ss : List Settled) → Each IsSettledNaming ss → IsSettledNaming (any_of ss)
  any_of_naming ss h = by_test (list_any (is_decided true) ss)
    where
      by_test : (test : Bool) → IsSettledNaming (if test then decided true else joined false c.Or (flat_map (remaining_members top_disjuncts) ss))
      by_test true = always
      by_test false = joined_naming false c.Or for_disjunction (flat_map (remaining_members top_disjuncts) ss) (members_naming top_disjuncts disjuncts_naming ss h)

  -- ---- comparisons and facts

  cmp_naming : (r : Relation) (g h : GExpr) → Each IsFluentCode (fluents_in g) → Each IsFluentCode (fluents_in h) → IsNaming (c.Cmp r g h)
  cmp_naming r g h first second = (
    subst (Each IsFactCode) (sym (fold-GCmp condition_facts_layer r g h)) tt,
    subst (Each IsFluentCode) (sym (fold-GCmp condition_fluents_layer r g h)) (each_joined IsFluentCode (fluents_in g) (fluents_in h) first second),
  )

  comparison_naming : (polarity : Bool) (r : Rel) (g h : GExpr) → Each IsFluentCode (fluents_in g) → Each IsFluentCode (fluents_in h) → IsNaming (comparison polarity r g h)
  comparison_naming true rel.Less g h first second = cmp_naming relation.Less g h first second
  comparison_naming true rel.LessEqual g h first second = cmp_naming relation.LessEqual g h first second
  comparison_naming true rel.Equal g h first second = cmp_naming relation.Equal g h first second
  comparison_naming true rel.GreaterEqual g h first second = cmp_naming relation.GreaterEqual g h first second
  comparison_naming true rel.Greater g h first second = cmp_naming relation.Greater g h first second
  comparison_naming false rel.Less g h first second = cmp_naming relation.GreaterEqual g h first second
  comparison_naming false rel.LessEqual g h first second = cmp_naming relation.Greater g h first second
  comparison_naming false rel.Equal g h first second =
      for_disjunction (c.Cmp relation.Less g h ∷ c.Cmp relation.Greater g h ∷ []) (cmp_naming relation.Less g h first second, (cmp_naming relation.Greater g h first second, tt))
  comparison_naming false rel.GreaterEqual g h first second = cmp_naming relation.Less g h first second
  comparison_naming false rel.Greater g h first second = cmp_naming relation.LessEqual g h first second

  compared_naming : (polarity : Bool) (r : Rel) (a b : Operand) → Reads a → Reads b → IsSettledNaming (compared polarity r a b)
  compared_naming polarity r (constant k) (constant d) first second = decided_naming _
  compared_naming polarity r (constant k) (computed h) first second = comparison_naming polarity r (e.Const k) h first second
  compared_naming polarity r (computed g) b first second = comparison_naming polarity r g (as_expression b) first second

  fact_naming : (a : Atom) (polarity : Bool) → IsFactThere a → IsSettledNaming (folded_fact p params args a polarity)
  fact_naming a polarity is = by_test (is_fixed_predicate p a.head.text)
    where
      by_test : (test : Bool) → IsSettledNaming (if test then decided (at_polarity polarity (is_true_at_first p (atom_of params args a))) else remaining (c.Fact (fact_code p (atom_of params args a)) polarity))
      by_test true = decided_naming (at_polarity polarity (is_true_at_first p (atom_of params args a)))
      by_test false = (
        subst (Each IsFactCode) (sym (fold-GFact condition_facts_layer (fact_code p (atom_of params args a)) polarity)) (is, tt),
        subst (Each IsFluentCode) (sym (fold-GFact condition_fluents_layer (fact_code p (atom_of params args a)) polarity)) tt,
      )

  -- ---- conditions

  -- all facts and reads of a condition have such codes
  abbrev pub IsConditionThere : Cond → Type 0
  IsConditionThere b = Each IsFactThere (condition_parts b).facts × Each IsExpressionThere (condition_parts b).numbers

  abbrev IsFoldNaming : Cond → Type 0
  IsFoldNaming b = (polarity : Bool) → IsConditionThere b → IfOk (folded_condition p params args b polarity) IsSettledNaming

  parts_there : (cs : List Cond) → Each IsFactThere (flat_map (λ q. q.facts) (map condition_parts cs)) → Each IsExpressionThere (flat_map (λ q. q.numbers) (map condition_parts cs)) → Each IsConditionThere cs
  parts_there [] f x = tt
  parts_there (b ∷ cs) f x = (
    (each_left IsFactThere (condition_parts b).facts _ f, each_left IsExpressionThere (condition_parts b).numbers _ x),
    parts_there cs (each_right IsFactThere (condition_parts b).facts _ f) (each_right IsExpressionThere (condition_parts b).numbers _ x),
  )

  members_fold : (polarity : Bool) (cs : List Cond) → All IsFoldNaming cs → Each IsConditionThere cs
      → IfOk (all_answers (map (λ (f : Bool → Result Settled FoldFault). f polarity) (map (folded_condition p params args) cs))) (Each IsSettledNaming)
  members_fold polarity [] all there = tt
  members_fold polarity (b ∷ cs) all there =
      if_after IsSettledNaming (Each IsSettledNaming) _ (folded_condition p params args b polarity) (All-head IsFoldNaming b cs all polarity there.0)
      (λ s h. if_mapped (Each IsSettledNaming) (Each IsSettledNaming) (λ found. s ∷ found) _ (members_fold polarity cs (All-tail IsFoldNaming b cs all) there.1) (λ ss k. (h, k)))

  pair_fold : (f g : Result Settled FoldFault) → IfOk f IsSettledNaming → IfOk g IsSettledNaming → IfOk (all_answers (f ∷ g ∷ [])) (Each IsSettledNaming)
  pair_fold (Err f) g h k = tt
  pair_fold (Ok s) (Err g) h k = tt
  pair_fold (Ok s) (Ok t) h k = (h, (k, tt))

  conjunction_naming : (cs : List Cond) → All IsFoldNaming cs → IsFoldNaming (condition.And cs)
  unfolding folded_condition
  conjunction_naming cs all true there =
      let is = fold-And condition_parts_layer cs in
      let inside = parts_there cs (subst (λ (q : Parts). Each IsFactThere q.facts) is there.0) (subst (λ (q : Parts). Each IsExpressionThere q.numbers) is there.1) in
      subst (λ (f : Bool → Result Settled FoldFault). IfOk (f true) IsSettledNaming) (sym (fold-And (condition_layer p params args) cs))
      (if_mapped (Each IsSettledNaming) IsSettledNaming all_of _ (members_fold true cs all inside) (λ ss h. all_of_naming ss h))
  conjunction_naming cs all false there =
      let is = fold-And condition_parts_layer cs in
      let inside = parts_there cs (subst (λ (q : Parts). Each IsFactThere q.facts) is there.0) (subst (λ (q : Parts). Each IsExpressionThere q.numbers) is there.1) in
      subst (λ (f : Bool → Result Settled FoldFault). IfOk (f false) IsSettledNaming) (sym (fold-And (condition_layer p params args) cs))
      (if_mapped (Each IsSettledNaming) IsSettledNaming any_of _ (members_fold false cs all inside) (λ ss h. any_of_naming ss h))

  disjunction_naming : (cs : List Cond) → All IsFoldNaming cs → IsFoldNaming (condition.Or cs)
  unfolding folded_condition
  disjunction_naming cs all true there =
      let is = fold-Or condition_parts_layer cs in
      let inside = parts_there cs (subst (λ (q : Parts). Each IsFactThere q.facts) is there.0) (subst (λ (q : Parts). Each IsExpressionThere q.numbers) is there.1) in
      subst (λ (f : Bool → Result Settled FoldFault). IfOk (f true) IsSettledNaming) (sym (fold-Or (condition_layer p params args) cs))
      (if_mapped (Each IsSettledNaming) IsSettledNaming any_of _ (members_fold true cs all inside) (λ ss h. any_of_naming ss h))
  disjunction_naming cs all false there =
      let is = fold-Or condition_parts_layer cs in
      let inside = parts_there cs (subst (λ (q : Parts). Each IsFactThere q.facts) is there.0) (subst (λ (q : Parts). Each IsExpressionThere q.numbers) is there.1) in
      subst (λ (f : Bool → Result Settled FoldFault). IfOk (f false) IsSettledNaming) (sym (fold-Or (condition_layer p params args) cs))
      (if_mapped (Each IsSettledNaming) IsSettledNaming all_of _ (members_fold false cs all inside) (λ ss h. all_of_naming ss h))

  negation_naming : (b : Cond) → IsFoldNaming b → IsFoldNaming (condition.Not b)
  unfolding folded_condition
  negation_naming b h polarity there =
      subst (λ (f : Bool → Result Settled FoldFault). IfOk (f polarity) IsSettledNaming) (sym (fold-Not (condition_layer p params args) b))
      (h (not polarity) (subst (λ (q : Parts). Each IsFactThere q.facts × Each IsExpressionThere q.numbers) (fold-Not condition_parts_layer b) there))

  implication_naming : (a b : Cond) → IsFoldNaming a → IsFoldNaming b → IsFoldNaming (condition.Imply a b)
  unfolding folded_condition
  implication_naming a b h k true there =
      let is = fold-Imply condition_parts_layer a b in
      let inside = parts_there (a ∷ b ∷ []) (subst (λ (q : Parts). Each IsFactThere q.facts) is there.0) (subst (λ (q : Parts). Each IsExpressionThere q.numbers) is there.1) in
      subst (λ (f : Bool → Result Settled FoldFault). IfOk (f true) IsSettledNaming) (sym (fold-Imply (condition_layer p params args) a b))
      (if_mapped (Each IsSettledNaming) IsSettledNaming any_of _ (pair_fold _ _ (h false inside.0) (k true inside.1.0)) (λ ss m. any_of_naming ss m))
  implication_naming a b h k false there =
      let is = fold-Imply condition_parts_layer a b in
      let inside = parts_there (a ∷ b ∷ []) (subst (λ (q : Parts). Each IsFactThere q.facts) is there.0) (subst (λ (q : Parts). Each IsExpressionThere q.numbers) is there.1) in
      subst (λ (f : Bool → Result Settled FoldFault). IfOk (f false) IsSettledNaming) (sym (fold-Imply (condition_layer p params args) a b))
      (if_mapped (Each IsSettledNaming) IsSettledNaming all_of _ (pair_fold _ _ (h true inside.0) (k false inside.1.0)) (λ ss m. all_of_naming ss m))

  atom_naming : (a : Atom) → IsFoldNaming (condition.Fact a)
  unfolding folded_condition
  atom_naming a polarity there =
      subst (λ (f : Bool → Result Settled FoldFault). IfOk (f polarity) IsSettledNaming) (sym (fold-Fact (condition_layer p params args) a))
      (fact_naming a polarity (subst (λ (q : Parts). Each IsFactThere q.facts) (fold-Fact condition_parts_layer a) there.0).0)

  same_naming : (a b : Arg) → IsFoldNaming (condition.Same a b)
  unfolding folded_condition
  same_naming a b polarity there =
      subst (λ (f : Bool → Result Settled FoldFault). IfOk (f polarity) IsSettledNaming) (sym (fold-Same (condition_layer p params args) a b)) (decided_naming _)

  compare_naming : (r : Rel) (x y : Expr) → IsFoldNaming (condition.Cmp r x y)
  unfolding folded_condition
  compare_naming r x y polarity there =
      let inside = subst (λ (q : Parts). Each IsExpressionThere q.numbers) (fold-Cmp condition_parts_layer r x y) there.1 in
      subst (λ (f : Bool → Result Settled FoldFault). IfOk (f polarity) IsSettledNaming) (sym (fold-Cmp (condition_layer p params args) r x y))
      (if_after Reads IsSettledNaming _ (folded p params args x) (expression_reads_there x inside.0)
      (λ a first. if_mapped Reads IsSettledNaming (λ b. compared polarity r a b) (folded p params args y) (expression_reads_there y inside.1.0)
      (λ b second. compared_naming polarity r a b first second)))

  pub condition_naming : (b : Cond) → IsFoldNaming b
  condition_naming = induct_condition IsFoldNaming (record {
    conjunction = conjunction_naming;
    disjunction = disjunction_naming;
    negation = negation_naming;
    implication = implication_naming;
    fact = atom_naming;
    equal = same_naming;
    compare = compare_naming;
  })

  -- ---- facts that effects change

  new_codes : (seen : List ℕ) (n : ℕ) → Each IsFactCode seen → IsFactCode n → Each IsFactCode (with_new seen n)
  new_codes seen n h is = by_test (is_listed n seen)
    where
      by_test : (test : Bool) → Each IsFactCode (if test then seen else seen ++ n ∷ [])
      by_test true = h
      by_test false = each_joined IsFactCode seen (n ∷ []) h (is, tt)

  once_codes : (seen ns : List ℕ) → Each IsFactCode seen → Each IsFactCode ns → Each IsFactCode (each_once seen ns)
  once_codes seen [] h k = h
  once_codes seen (n ∷ ns) h k = once_codes (with_new seen n) ns (new_codes seen n h k.0) k.1

  added_there : (effects : List Effect) → Each IsFactThere (flat_map fact_changed effects) → Each IsFactCode (flat_map (added_fact p params args) effects)
  added_there [] h = tt
  added_there (effect.Add a ∷ effects) h = (h.0, added_there effects h.1)
  added_there (effect.Del a ∷ effects) h = added_there effects h.1
  added_there (effect.Num how a x ∷ effects) h = added_there effects h

  deleted_there : (effects : List Effect) → Each IsFactThere (flat_map fact_changed effects) → Each IsFactCode (flat_map (deleted_fact p params args) effects)
  deleted_there [] h = tt
  deleted_there (effect.Add a ∷ effects) h = deleted_there effects h.1
  deleted_there (effect.Del a ∷ effects) h = (h.0, deleted_there effects h.1)
  deleted_there (effect.Num how a x ∷ effects) h = deleted_there effects h

  pub added_naming : (effects : List Effect) → Each IsFactThere (flat_map fact_changed effects) → Each IsFactCode (added_facts p params args effects)
  unfolding added_facts
  added_naming effects h = once_codes [] (flat_map (added_fact p params args) effects) tt (added_there effects h)

  pub deleted_naming : (effects : List Effect) → Each IsFactThere (flat_map fact_changed effects) → Each IsFactCode (deleted_facts p params args effects)
  unfolding deleted_facts
  deleted_naming effects h =
      each_filtered IsFactCode (λ f. not (is_listed f (added_facts p params args effects))) (each_once [] (flat_map (deleted_fact p params args) effects))
      (once_codes [] (flat_map (deleted_fact p params args) effects) tt (deleted_there effects h))

  -- ---- numeric effects

  module _ (IsChangedCode : ℕ → Type 0) where
    -- a change is on such a fluent, and reads such fluents
    abbrev pub IsChangeNaming : FoldedChange → Type 0
    IsChangeNaming change = IsChangedCode change.fluent × Each IsFluentCode (fluents_in (as_expression change.value))

    growth_naming : (join : Operand → Result Operand FoldFault) (first : Result Operand FoldFault) (x : ℕ) → IsChangedCode x → IfOk first Reads
        → ((old : Operand) → Reads old → IfOk (join old) Reads) → (changes : List FoldedChange) → Each IsChangeNaming changes → IfOk (with_growth join first x changes) (Each IsChangeNaming)
    growth_naming join first x is one more [] h = if_mapped Reads (Each IsChangeNaming) (λ v. growth x v ∷ []) first one (λ v k. ((is, k), tt))
    growth_naming join first x is one more (change ∷ changes) h = by_test (is_growth_of x change) (growth_naming join first x is one more changes h.1)
      where
        by_test : (test : Bool) → IfOk (with_growth join first x changes) (Each IsChangeNaming)
            → IfOk (if test then mapped (λ v. growth x v ∷ changes) (join change.value) else mapped (λ others. change ∷ others) (with_growth join first x changes)) (Each IsChangeNaming)
        by_test true rest = if_mapped Reads (Each IsChangeNaming) (λ v. growth x v ∷ changes) (join change.value) (more change.value h.0.1) (λ v k. ((is, k), h.1))
        by_test false rest = if_mapped (Each IsChangeNaming) (Each IsChangeNaming) (λ others. change ∷ others) (with_growth join first x changes) rest (λ ds k. (h.0, k))

    change_naming : (h : Assign) (x : ℕ) (v : Operand) → IsChangedCode x → (reads_old h ≡ true → IsFluentCode x) → Reads v
        → (changes : List FoldedChange) → Each IsChangeNaming changes → IfOk (with_change h x v changes) (Each IsChangeNaming)
    change_naming how.Set x v is old reads changes so_far = each_joined IsChangeNaming changes (replacement x v ∷ []) so_far ((is, reads), tt)
    change_naming how.Up x v is old reads changes so_far =
        growth_naming (λ w. sum w v) (Ok v) x is reads (λ w k. operation_reads op.Add e.Add sum_of is_sum w v k reads) changes so_far
    change_naming how.Down x v is old reads changes so_far =
        growth_naming (λ w. difference w v) (difference (constant origin) v) x is
        (operation_reads op.Sub e.Sub difference_of is_difference (constant origin) v (constant_reads origin) reads)
        (λ w k. operation_reads op.Sub e.Sub difference_of is_difference w v k reads) changes so_far
    change_naming how.Scale x v is old reads changes so_far =
        if_mapped Reads (Each IsChangeNaming) (λ scaled. changes ++ replacement x scaled ∷ []) (product (computed (e.Read x)) v)
        (operation_reads op.Mul e.Mul product_of is_product (computed (e.Read x)) v (read_reads x (old refl)) reads)
        (λ scaled k. each_joined IsChangeNaming changes (replacement x scaled ∷ []) so_far ((is, k), tt))

    -- an effect changes such a fluent, and reads such fluents
    abbrev pub IsEffectThere : Effect → Type 0
    IsEffectThere (effect.Add a) = Unit {0}
    IsEffectThere (effect.Del a) = Unit {0}
    IsEffectThere (effect.Num h a x) = IsChangedCode (fluent_code p (atom_of params args a)) × (reads_old h ≡ true → IsFluentThere a) × IsExpressionThere x

    pub changes_naming : (effects : List Effect) → Each IsEffectThere effects → (changes : List FoldedChange) → Each IsChangeNaming changes
        → IfOk (changes_from p params args changes effects) (Each IsChangeNaming)
    changes_naming [] there changes h = h
    changes_naming (effect.Add a ∷ effects) there changes h = changes_naming effects there.1 changes h
    changes_naming (effect.Del a ∷ effects) there changes h = changes_naming effects there.1 changes h
    changes_naming (effect.Num how a x ∷ effects) there changes h =
        if_after (Each IsChangeNaming) (Each IsChangeNaming) (λ further. changes_from p params args further effects) (with_effect p params args changes (effect.Num how a x))
        (if_after Reads (Each IsChangeNaming) (λ v. with_change how (fluent_code p (atom_of params args a)) v changes) (folded p params args x)
        (expression_reads_there x there.0.2)
        (λ v reads. change_naming how (fluent_code p (atom_of params args a)) v there.0.0 there.0.1 reads changes h))
        (λ ds k. changes_naming effects there.1 ds k)
