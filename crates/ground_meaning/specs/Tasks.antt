-- The ground task of a pair: which facts and fluents it has, in which order, and how its actions name them.
use Rattle.std.specs.Prelude.{ℕ, ◌≡◌, ◌<◌, ◌≤◌, ◌==◌, ◌++◌, ◌⊎◌, ◌↔◌, List, [], ◌∷◌, map, filter, flat_map, length, unwrap_or, slice_index_or, All}
use Rattle.std.specs.List.{position_or_len, range_with_len}
use Rattle.std.specs.List.Sorted.{IsStrictlyIncreasing}
use Rattle.num_ends.specs.Decimal.{Decimal, origin}
use Rattle.pddl_terms.specs.declared.names.Sig.{Sig}
use Rattle.pddl_terms.specs.declared.limits.TheConstants.{MAX_FACTS, MAX_FLUENTS}
use Rattle.pddl_types.specs.declared.pairs.Pair.{Pair}
use Rattle.pddl_types.specs.Pairs.{objects_of}
use Rattle.pddl_types.specs.WellFormed.{Stands}
use Rattle.static_facts.specs.Atoms.{fact_atom, fluent_atom, is_true_at_first, text_of_atom, value_at_first}
use Rattle.static_facts.specs.Codes.{fact_code, fluent_code}
use Rattle.ground_task.specs.declared.raw.GExpr.{GExpr, GExpr-F, fold-GExpr}
use Rattle.ground_task.specs.declared.raw.GExpr.TheOpen as expr
use Rattle.ground_task.specs.declared.raw.GExpr.TheVariants as e
use Rattle.ground_task.specs.declared.raw.GCond.{GCond, GCond-F, fold-GCond}
use Rattle.ground_task.specs.declared.raw.GCond.TheOpen as cond
use Rattle.ground_task.specs.declared.raw.GCond.TheVariants as c
use Rattle.ground_task.specs.declared.raw.Change.{Change}
use Rattle.ground_task.specs.declared.raw.Change.TheVariants.{Add, Set}
use Rattle.ground_task.specs.declared.raw.Ground.{Ground}
use Rattle.ground_task.specs.declared.raw.RawTask.{RawTask}
use Rattle.ground_task.specs.Valid.{right_side}
use Rattle.ground_meaning.specs.Conditions.{Settled, as_condition}
use Rattle.ground_meaning.specs.Actions.{is_listed}
use Rattle.ground_meaning.specs.Outcomes.{kept}
use Rattle.ground_meaning.specs.Goals.{IsFolded}

-- ---- what expressions and conditions name

abbrev pub fluents_layer : GExpr-F (List ℕ) → List ℕ
fluents_layer (expr.Const d) = []
fluents_layer (expr.Read x) = x ∷ []
fluents_layer (expr.Add a b) = a ++ b
fluents_layer (expr.Sub a b) = a ++ b
fluents_layer (expr.Mul a b) = a ++ b

-- the fluents that an expression reads
abbrev pub fluents_in : GExpr → List ℕ
fluents_in = fold-GExpr (List ℕ) fluents_layer

abbrev pub condition_fluents_layer : GCond-F (List ℕ) → List ℕ
condition_fluents_layer cond.True = []
condition_fluents_layer cond.False = []
condition_fluents_layer (cond.Fact f truth) = []
condition_fluents_layer (cond.Cmp r a b) = fluents_in a ++ fluents_in b
condition_fluents_layer (cond.And cs) = flat_map (λ c. c) cs
condition_fluents_layer (cond.Or cs) = flat_map (λ c. c) cs

-- the fluents that a condition reads
abbrev pub condition_fluents : GCond → List ℕ
condition_fluents = fold-GCond (List ℕ) condition_fluents_layer

abbrev pub condition_facts_layer : GCond-F (List ℕ) → List ℕ
condition_facts_layer cond.True = []
condition_facts_layer cond.False = []
condition_facts_layer (cond.Fact f truth) = f ∷ []
condition_facts_layer (cond.Cmp r a b) = []
condition_facts_layer (cond.And cs) = flat_map (λ c. c) cs
condition_facts_layer (cond.Or cs) = flat_map (λ c. c) cs

-- the facts of a condition
abbrev pub condition_facts : GCond → List ℕ
condition_facts = fold-GCond (List ℕ) condition_facts_layer

-- ---- facts and fluents of the task, by their codes

-- a fluent is relevant where the goal or the precondition of a kept action reads it, or a right-hand side on a relevant fluent
pub data IsRelevant (p : Pair) (goal : Settled) : ℕ → Type 0 where
  in_goal : (x : ℕ) → Stands x (condition_fluents (as_condition goal)) → IsRelevant p goal x
  in_precondition : (a : Ground) (x : ℕ) → Stands a (kept p) → Stands x (condition_fluents a.pre) → IsRelevant p goal x
  in_change : (a : Ground) (y : ℕ) (change : Change) (x : ℕ) → Stands a (kept p) → Stands (y, change) a.nums → IsRelevant p goal y
      → Stands x (fluents_in (right_side change)) → IsRelevant p goal x

-- the facts of an action
abbrev pub action_facts : Ground → List ℕ
action_facts a = condition_facts a.pre ++ a.adds ++ a.dels

-- a fact stands in the goal or in a kept action
abbrev pub IsTaskFact : Pair → Settled → ℕ → Type 0
IsTaskFact p goal f = Stands f (condition_facts (as_condition goal)) ⊎ ((a : Ground) × Stands a (kept p) × Stands f (action_facts a))

-- ---- lists of atoms

-- the atom of one of these predicates or functions, and of objects of the pair
pub record IsAtomOf (p : Pair) (sigs : List Sig) (atom : ℕ → List ℕ → List (List ℕ)) (x : List (List ℕ)) : Type 0 where
  pub symbol : ℕ
  pub objects : List ℕ
  pub declared : symbol < length sigs
  pub known : All (λ o. o < length (objects_of p)) objects
  pub few : length objects ≤ 8
  pub is : x ≡ atom symbol objects

abbrev pub IsFact : Pair → List (List ℕ) → Type 0
IsFact p = IsAtomOf p p.domain.predicates (fact_atom p)

abbrev pub IsFluent : Pair → List (List ℕ) → Type 0
IsFluent p = IsAtomOf p p.domain.functions (fluent_atom p)

-- atoms by rising codes, that is by declaration and then by their objects: all those of which something holds, and no others
pub record AreAllOf (IsAtom : List (List ℕ) → Type 0) (code : List (List ℕ) → ℕ) (P : ℕ → Type 0) (atoms : List (List (List ℕ))) : Type 0 where
  pub are_atoms : All IsAtom atoms
  pub rising : IsStrictlyIncreasing (map code atoms)
  pub exactly : (n : ℕ) → Stands n (map code atoms) ↔ P n

-- ---- by numbers in place of codes

-- the number of a code among rising codes
abbrev pub number_in : List ℕ → ℕ → ℕ
number_in codes n = position_or_len (λ m. m == n) codes

abbrev pub numbered_layer : List ℕ → GExpr-F GExpr → GExpr
numbered_layer xs (expr.Const d) = e.Const d
numbered_layer xs (expr.Read x) = e.Read (number_in xs x)
numbered_layer xs (expr.Add a b) = e.Add a b
numbered_layer xs (expr.Sub a b) = e.Sub a b
numbered_layer xs (expr.Mul a b) = e.Mul a b

abbrev pub numbered_expression : List ℕ → GExpr → GExpr
numbered_expression xs = fold-GExpr GExpr (numbered_layer xs)

abbrev pub numbered_condition_layer : List ℕ → List ℕ → GCond-F GCond → GCond
numbered_condition_layer fs xs cond.True = c.True
numbered_condition_layer fs xs cond.False = c.False
numbered_condition_layer fs xs (cond.Fact f truth) = c.Fact (number_in fs f) truth
numbered_condition_layer fs xs (cond.Cmp r a b) = c.Cmp r (numbered_expression xs a) (numbered_expression xs b)
numbered_condition_layer fs xs (cond.And cs) = c.And cs
numbered_condition_layer fs xs (cond.Or cs) = c.Or cs

abbrev pub numbered_condition : List ℕ → List ℕ → GCond → GCond
numbered_condition fs xs = fold-GCond GCond (numbered_condition_layer fs xs)

abbrev pub numbered_change : List ℕ → Change → Change
numbered_change xs (Add v) = Add (numbered_expression xs v)
numbered_change xs (Set v) = Set (numbered_expression xs v)

-- effects on fluents that aren't listed are left out
abbrev pub numbered_effects : List ℕ → List (ℕ × Change) → List (ℕ × Change)
numbered_effects xs nums = map (λ n. (number_in xs n.0, numbered_change xs n.1)) (filter (λ n. is_listed n.0 xs) nums)

abbrev pub numbered_action : List ℕ → List ℕ → Ground → Ground
numbered_action fs xs a = record {
  name = a.name;
  pre = numbered_condition fs xs a.pre;
  adds = map (number_in fs) a.adds;
  dels = map (number_in fs) a.dels;
  nums = numbered_effects xs a.nums;
}

-- ---- the task

abbrev pub first_true : Pair → List (List (List ℕ)) → List ℕ
first_true p facts = filter (λ n. is_true_at_first p (slice_index_or facts n [])) (range_with_len 0 (length facts))

abbrev pub first_value : Pair → List (List ℕ) → Decimal
first_value p x = unwrap_or (value_at_first p x) origin

pub record IsGroundTask (p : Pair) (raw : RawTask) : Type 0 where
  pub goal : Settled
  pub facts : List (List (List ℕ))
  pub fluents : List (List (List ℕ))
  pub folds : IsFolded p goal
  pub all_facts : AreAllOf (IsFact p) (fact_code p) (IsTaskFact p goal) facts
  pub all_fluents : AreAllOf (IsFluent p) (fluent_code p) (IsRelevant p goal) fluents
  pub few_facts : length facts ≤ MAX_FACTS
  pub few_fluents : length fluents ≤ MAX_FLUENTS
  pub fact_texts : raw.facts ≡ map text_of_atom facts
  pub fluent_texts : raw.fluents ≡ map text_of_atom fluents
  pub true_facts : raw.true_facts ≡ first_true p facts
  pub values : raw.values ≡ map (first_value p) fluents
  pub actions : raw.actions ≡ map (numbered_action (map (fact_code p) facts) (map (fluent_code p) fluents)) (kept p)
  pub is_goal : raw.goal ≡ numbered_condition (map (fact_code p) facts) (map (fluent_code p) fluents) (as_condition goal)
