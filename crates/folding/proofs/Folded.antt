-- Folds one after another, and their faults.
use Rattle.std.proofs.Common.{◌≡◌, ◌<◌, ◌++◌, ℕ, List, [], ◌∷◌, length, refl, sym, ap, subst, ◌∙◌}
use Rattle.std.specs.Prelude.{Result, Ok, flat_map}
use Rattle.pddl_terms.specs.declared.names.Typed.{Typed}
use Rattle.pddl_terms.specs.declared.actions.Effect.{Effect}
use Rattle.pddl_terms.specs.declared.actions.Effect.TheVariants as effect
use Rattle.pddl_types.specs.declared.pairs.Pair.{Pair}
use Rattle.pddl_types.specs.Pairs.{objects_of}
use Rattle.pddl_types.specs.WellFormed.{Each}
use Rattle.static_facts.specs.Atoms.{atom_of, names}
use Rattle.static_facts.specs.Codes.{fluent_code}
use Rattle.ground_task.specs.declared.raw.GExpr.{GExpr}
use Rattle.ground_task.specs.declared.raw.GExpr.TheVariants as expr
use Rattle.ground_meaning.specs.Results.{after, mapped}
use Rattle.ground_meaning.specs.Expressions.{FoldFault, Operand, folded}
use Rattle.ground_meaning.specs.Actions.{FoldedChange, changes_from, folded_changes, replacement, with_change}
use Rattle.pddl_terms.specs.declared.actions.Assign.TheVariants as how
use Rattle.coded_actions.specs.declared.coded.CodedExpr.TheVariants as coded
use Rattle.coded_actions.proofs.Equations.{expression_Read}
use Rattle.folded_terms.specs.declared.operands.CodedOperand.TheVariants.{Computed}
use Rattle.folded_terms.specs.Operands.{operand_of}
use Rattle.ground_meaning.specs.Expressions.Operand.{computed}
use Rattle.ground_meaning.specs.Expressions.{product}
use Rattle.folded_terms.specs.declared.faults.FoldError.{FoldError}
use Rattle.folded_terms.specs.declared.faults.FoldError.TheVariants as error
use Rattle.folded_terms.specs.Faults.{IsFoldFault}
use Rattle.folding.specs.declared.changes.ChangePattern.{ChangePattern}
use Rattle.folding.specs.internal.Changes.{IsChangeBoundBy, change_patterns, folded_by, with_pattern, with_patterns}
use Rattle.bound_actions.specs.Patterns.{fluent_code_by}

-- the fault of an answer is that of what follows it
pub fault_after : {A B : Type 0} (next : A → Result B FoldFault) (answer : Result A FoldFault) (e : FoldError) → IsFoldFault answer e → IsFoldFault (after next answer) e
fault_after next answer (error.Divide place) h = ap (after next) h
fault_after next answer error.OutOfRange h = ap (after next) h
fault_after next answer error.NoMemory h = tt

pub fault_mapped : {A B : Type 0} (make : A → B) (answer : Result A FoldFault) (e : FoldError) → IsFoldFault answer e → IsFoldFault (mapped make answer) e
fault_mapped make answer (error.Divide place) h = ap (mapped make) h
fault_mapped make answer error.OutOfRange h = ap (mapped make) h
fault_mapped make answer error.NoMemory h = tt

pub fault_same : {A : Type 0} (answer other : Result A FoldFault) (e : FoldError) → answer ≡ other → IsFoldFault answer e → IsFoldFault other e
fault_same answer other e same h = subst (λ (r : Result _ FoldFault). IsFoldFault r e) same h

-- where a right-hand side is folded, its effect is added
pub with_value : (os : List ℕ) (changes : List FoldedChange) (q : ChangePattern) (v : Operand) → folded_by os q.value ≡ Ok v
    → with_pattern os changes q ≡ with_change q.how (fluent_code_by os q.fluent) v changes
with_value os changes q v h = ap (after (λ (u : Operand). with_change q.how (fluent_code_by os q.fluent) u changes)) h

module _ (p : Pair) (params : List Typed) (os : List ℕ) where
  pub by_patterns : (changes : List FoldedChange) (effects : List Effect) → with_patterns os changes (flat_map (change_patterns p params) effects) ≡ changes_from p params (names p os) changes effects
  by_patterns changes [] = refl
  by_patterns changes (effect.Add a ∷ effects) = by_patterns changes effects
  by_patterns changes (effect.Del a ∷ effects) = by_patterns changes effects
  by_patterns changes (effect.Num how a x ∷ effects) = ap (λ (next : List FoldedChange → Result (List FoldedChange) FoldFault). after next (after (λ v. with_change how (fluent_code p (atom_of params (names p os) a)) v changes) (folded p params (names p os) x)))
      (λ i. λ further. by_patterns further effects i)

  pub all_by_patterns : (effects : List Effect) → with_patterns os [] (flat_map (change_patterns p params) effects) ≡ folded_changes p params (names p os) effects
  unfolding folded_changes
  all_by_patterns effects = by_patterns [] effects

  pub changes_bound : length os ≡ length params → Each (λ o. o < length (objects_of p)) os → (effects : List Effect) → Each (IsChangeBoundBy os) (flat_map (change_patterns p params) effects)
  changes_bound as_many known [] = tt
  changes_bound as_many known (effect.Add a ∷ effects) = changes_bound as_many known effects
  changes_bound as_many known (effect.Del a ∷ effects) = changes_bound as_many known effects
  changes_bound as_many known (effect.Num how a x ∷ effects) = (((as_many, known), (as_many, known)), changes_bound as_many known effects)

-- ---- scaling

module _ (x : ℕ) (v : Operand) (changes : List FoldedChange) where
  read_product : product (operand_of (Computed (coded.Read x))) v ≡ product (computed (expr.Read x)) v
  read_product = ap (λ (g : GExpr). product (computed g) v) (expression_Read x)

  pub scaled_one : (u : Operand) → product (operand_of (Computed (coded.Read x))) v ≡ Ok u → with_change how.Scale x v changes ≡ Ok (changes ++ replacement x u ∷ [])
  scaled_one u h = ap (mapped (λ (scaled : Operand). changes ++ replacement x scaled ∷ [])) (sym read_product ∙ h)

  pub scaled_fault : (f : FoldError) → IsFoldFault (product (operand_of (Computed (coded.Read x))) v) f → IsFoldFault (with_change how.Scale x v changes) f
  scaled_fault f h =
      fault_mapped (λ (scaled : Operand). changes ++ replacement x scaled ∷ []) (product (computed (expr.Read x)) v) f
      (fault_same (product (operand_of (Computed (coded.Read x))) v) (product (computed (expr.Read x)) v) f read_product h)
