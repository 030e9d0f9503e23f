-- The value of an atom, and what can be evaluated.
use Rattle.std.proofs.Common.{◌≡◌, ℕ, ◌<◌, Bool, List, Some, length, ap, get_or, rules, sym, subst, ◌∙◌}
use Rattle.std.proofs.lemmas.List.Elements.{All-get_or}
use Rattle.ground_task.specs.declared.raw.Rel.{Rel}
use Rattle.ground_task.specs.declared.raw.GExpr.{GExpr}
use Rattle.ground_task.specs.declared.raw.GCond.{GCond}
use Rattle.ground_task.specs.declared.raw.GCond.TheVariants as c
use Rattle.ground_task.specs.declared.raw.GCond.TheViews.{the_lemmas}
use Rattle.ground_task.specs.declared.raw.Ground.{Ground}
use Rattle.ground_task.specs.Inside.{IsDecidable}
use Rattle.ground_task.specs.Placed.{IsPlaced, IsPlacedAction}
use Rattle.ground_task.specs.Ranged.{ranged_truth}
use Rattle.ground_task.specs.Tasks.{TaskValue}
use Rattle.ground_task.specs.Valid.{IsValid, IsValidAction}
use Rattle.ground_task.proofs.Evaluable.{known_Fact}
use Rattle.subgoal.specs.declared.atoms.View.{View}
use Rattle.subgoal.specs.Equations.{atom_value}
use Rattle.subgoal.specs.Help.{atoms_in, help_by_truth, literal_help}
use Rattle.subgoal.specs.declared.leaves.Leaf.{Leaf}
use Rattle.subgoal.specs.Leaves.{comparison_leaf, literal_leaf}
use Rattle.subgoal.specs.Network.{leaf_of}
use Rattle.subgoal.specs.Unmet.{value_seen}
use Rattle.subgoal.proofs.Uniqueness.{value-Fact, value-Cmp}

module _ (view : View) where
  pub seen_Fact : (f : ℕ) (truth : Bool) → value_seen view (c.Fact f truth) ≡ atom_value view.task.now.raw.actions view.values.now (literal_help view.state.now f truth)
  seen_Fact f truth = value-Fact (atoms_in view.task.now view.state.now) view.task.now.raw.actions view.values.now f truth

  pub seen_Cmp : (r : Rel) (a b : GExpr) → value_seen view (c.Cmp r a b)
      ≡ atom_value view.task.now.raw.actions view.values.now (help_by_truth view.task.now view.state.now r a b (ranged_truth view.task.now view.state.now (c.Cmp r a b)))
  seen_Cmp r a b = value-Cmp (atoms_in view.task.now view.state.now) view.task.now.raw.actions view.values.now r a b

pub known_fact : (t : TaskValue) (f : ℕ) (truth : Bool) → IsDecidable t (c.Fact f truth) → f < length t.raw.facts
known_fact = known_Fact

-- the precondition of an action, and the goal
pub precondition_decidable : (t : TaskValue) → IsValid t.raw → IsPlaced t.raw t.places → (i : ℕ) (a other : Ground) → i < length t.raw.actions
    → a ≡ get_or t.raw.actions i other → IsDecidable t a.pre
precondition_decidable t valid placed i a other within is =
    subst (λ (b : Ground). IsDecidable t b.pre) (sym is) (record {
      known = (All-get_or (IsValidAction (length t.raw.facts) (length t.raw.fluents)) t.raw.actions i other within valid.valid_actions).known_condition;
      few = (All-get_or (IsPlacedAction t.places) t.raw.actions i other within placed.placed_actions).few_in_condition;
    })

pub goal_decidable : (t : TaskValue) → IsValid t.raw → IsPlaced t.raw t.places → IsDecidable t t.raw.goal
goal_decidable t valid placed = record { known = valid.known_goal; few = placed.few_in_goal }

-- ---- what is known of an atom

some_same : (a b : Leaf) → Some a ≡ Some b → a ≡ b
some_same a b e = cc

pub literal_known : (actions : List Ground) (x : GCond) (leaf : Leaf) (f : ℕ) (truth : Bool) → leaf_of actions x ≡ Some leaf → x ≡ c.Fact f truth → leaf ≡ literal_leaf actions f truth
literal_known actions x leaf f truth known is =
    let there : leaf_of actions (c.Fact f truth) ≡ Some (literal_leaf actions f truth) = search (rules, the_lemmas) in
    some_same leaf (literal_leaf actions f truth) (sym known ∙ ap (leaf_of actions) is ∙ there)

pub comparison_known : (actions : List Ground) (x : GCond) (leaf : Leaf) (r : Rel) (a b : GExpr) → leaf_of actions x ≡ Some leaf → x ≡ c.Cmp r a b → leaf ≡ comparison_leaf actions r a b
comparison_known actions x leaf r a b known is =
    let there : leaf_of actions (c.Cmp r a b) ≡ Some (comparison_leaf actions r a b) = search (rules, the_lemmas) in
    some_same leaf (comparison_leaf actions r a b) (sym known ∙ ap (leaf_of actions) is ∙ there)
