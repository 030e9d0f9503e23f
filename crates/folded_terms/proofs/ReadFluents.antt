-- The first fluent without first value that a condition reads, by what the condition is.
use Rattle.std.proofs.Common.{◌≡◌, ◌++◌, ℕ, List, [], ◌∷◌, Some, None, map, refl, sym, ap, ◌∙◌, append_assoc, if◌then◌else◌}
use Rattle.std.specs.Prelude.{flat_map}
use Rattle.std.specs.Option.{option_or}
use Rattle.std.proofs.lemmas.List.{append-nil}
use Rattle.std.proofs.lemmas.List.Folds.{find-append}
use Rattle.num_ends.specs.Decimal.{Decimal}
use Rattle.pddl_terms.specs.declared.names.Arg.{Arg}
use Rattle.pddl_terms.specs.declared.names.Atom.{Atom}
use Rattle.pddl_terms.specs.declared.expressions.Op.{Op}
use Rattle.pddl_terms.specs.declared.expressions.Op.TheVariants as op
use Rattle.pddl_terms.specs.declared.expressions.Expr.{Expr}
use Rattle.pddl_terms.specs.declared.expressions.Expr.TheVariants as expression
use Rattle.pddl_terms.specs.declared.conditions.Rel.{Rel}
use Rattle.pddl_terms.specs.declared.conditions.Cond.{Cond}
use Rattle.pddl_terms.specs.declared.conditions.Cond.TheVariants as condition
use Rattle.pddl_types.specs.declared.pairs.Pair.{Pair}
use Rattle.pddl_types.specs.Contents.{Parts, all_read, condition_parts, condition_parts_layer, expression_reads, expression_reads_layer}
use Rattle.pddl_meaning.proofs.Folds.{fold-Lit, fold-Read, fold-Op, fold-And, fold-Or, fold-Not, fold-Imply, fold-Fact, fold-Same, fold-Cmp}
use Rattle.folded_terms.specs.internal.Unset.{first_unset, is_unset, unset_among}

abbrev reads : Cond → List Atom
reads d = all_read (condition_parts d).numbers

read_append : (xs ys : List Expr) → all_read (xs ++ ys) ≡ all_read xs ++ all_read ys
read_append [] ys = refl
read_append (x ∷ xs) ys = ap (λ (rest : List Atom). (expression_reads x).all ++ rest) (read_append xs ys) ∙ sym (append_assoc (expression_reads x).all (all_read xs) (all_read ys))

read_parts : (cs : List Cond) → all_read (flat_map (λ (q : Parts). q.numbers) (map condition_parts cs)) ≡ flat_map (λ c. all_read (condition_parts c).numbers) cs
read_parts [] = refl
read_parts (c ∷ cs) =
    read_append (condition_parts c).numbers (flat_map (λ (q : Parts). q.numbers) (map condition_parts cs)) ∙ ap (λ (rest : List Atom). all_read (condition_parts c).numbers ++ rest) (read_parts cs)

operation_reads : (at : ℕ) (o : Op) (x y : Expr) → (expression_reads (expression.Op at o x y)).all ≡ (expression_reads x).all ++ (expression_reads y).all
operation_reads at op.Add x y = ap (λ r. r.all) (fold-Op expression_reads_layer at op.Add x y)
operation_reads at op.Sub x y = ap (λ r. r.all) (fold-Op expression_reads_layer at op.Sub x y)
operation_reads at op.Mul x y = ap (λ r. r.all) (fold-Op expression_reads_layer at op.Mul x y)
operation_reads at op.Div x y = ap (λ r. r.all) (fold-Op expression_reads_layer at op.Div x y)

module _ (p : Pair) where
  pub unset_both : (xs bs : List Atom) → first_unset p (xs ++ bs) ≡ option_or (first_unset p xs) (first_unset p bs)
  unset_both xs bs = find-append (is_unset p) xs bs

  unset_two : (xs bs : List Atom) → first_unset p (xs ++ (bs ++ [])) ≡ option_or (first_unset p xs) (first_unset p bs)
  unset_two xs bs = ap (λ (cs : List Atom). first_unset p (xs ++ cs)) (append-nil bs) ∙ unset_both xs bs

  among : (cs : List Cond) → first_unset p (flat_map (λ c. all_read (condition_parts c).numbers) cs) ≡ unset_among p cs
  among [] = refl
  among (c ∷ cs) = unset_both (reads c) (flat_map (λ c. all_read (condition_parts c).numbers) cs) ∙ ap (option_or (first_unset p (reads c))) (among cs)

  pub unset_Lit : (d : Decimal) (at : ℕ) → first_unset p (expression_reads (expression.Lit d at)).all ≡ None
  unset_Lit d at = ap (λ r. first_unset p r.all) (fold-Lit expression_reads_layer d at)

  pub unset_Read : (a : Atom) → first_unset p (expression_reads (expression.Read a)).all ≡ (if is_unset p a then Some a else None)
  unset_Read a = ap (λ r. first_unset p r.all) (fold-Read expression_reads_layer a)

  pub unset_Op : (at : ℕ) (o : Op) (x y : Expr)
      → first_unset p (expression_reads (expression.Op at o x y)).all ≡ option_or (first_unset p (expression_reads x).all) (first_unset p (expression_reads y).all)
  unset_Op at o x y = ap (first_unset p) (operation_reads at o x y) ∙ unset_both (expression_reads x).all (expression_reads y).all

  pub unset_And : (cs : List Cond) → first_unset p (reads (condition.And cs)) ≡ unset_among p cs
  unset_And cs = ap (λ (q : Parts). first_unset p (all_read q.numbers)) (fold-And condition_parts_layer cs) ∙ ap (first_unset p) (read_parts cs) ∙ among cs

  pub unset_Or : (cs : List Cond) → first_unset p (reads (condition.Or cs)) ≡ unset_among p cs
  unset_Or cs = ap (λ (q : Parts). first_unset p (all_read q.numbers)) (fold-Or condition_parts_layer cs) ∙ ap (first_unset p) (read_parts cs) ∙ among cs

  pub unset_Not : (b : Cond) → first_unset p (reads (condition.Not b)) ≡ first_unset p (reads b)
  unset_Not b = ap (λ (q : Parts). first_unset p (all_read q.numbers)) (fold-Not condition_parts_layer b)

  pub unset_Imply : (a b : Cond) → first_unset p (reads (condition.Imply a b)) ≡ option_or (first_unset p (reads a)) (first_unset p (reads b))
  unset_Imply a b =
      ap (λ (q : Parts). first_unset p (all_read q.numbers)) (fold-Imply condition_parts_layer a b)
      ∙ ap (first_unset p) (read_parts (a ∷ b ∷ [])) ∙ unset_two (reads a) (reads b)

  pub unset_Fact : (a : Atom) → first_unset p (reads (condition.Fact a)) ≡ None
  unset_Fact a = ap (λ (q : Parts). first_unset p (all_read q.numbers)) (fold-Fact condition_parts_layer a)

  pub unset_Same : (a b : Arg) → first_unset p (reads (condition.Same a b)) ≡ None
  unset_Same a b = ap (λ (q : Parts). first_unset p (all_read q.numbers)) (fold-Same condition_parts_layer a b)

  pub unset_Cmp : (r : Rel) (x y : Expr)
      → first_unset p (reads (condition.Cmp r x y)) ≡ option_or (first_unset p (expression_reads x).all) (first_unset p (expression_reads y).all)
  unset_Cmp r x y = ap (λ (q : Parts). first_unset p (all_read q.numbers)) (fold-Cmp condition_parts_layer r x y) ∙ unset_two (expression_reads x).all (expression_reads y).all
