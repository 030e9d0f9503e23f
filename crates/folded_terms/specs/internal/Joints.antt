-- The folded members of a conjunction or a disjunction, joined one after another.
use Rattle.std.specs.Prelude.{◌++◌, ◌||◌, Bool, true, false, not, List, [], ◌∷◌, map, if◌then◌else◌}
use Rattle.ground_task.specs.declared.raw.GCond.{GCond}
use Rattle.ground_task.specs.declared.raw.GCond.TheVariants as c
use Rattle.ground_task.specs.Ranged.{top_conjuncts}
use Rattle.ground_meaning.specs.Conditions.{Settled, is_decided, joined, remaining_members, top_disjuncts}
use Rattle.ground_meaning.specs.Conditions.Settled.{decided}
use Rattle.coded_actions.specs.Coded.{condition_of}
use Rattle.folded_terms.specs.declared.joints.CodedJoint.{CodedJoint}

-- of a conjunction where the truth value is `true`, and of a disjunction where it is `false`
abbrev pub top_members : Bool → GCond → List GCond
top_members true = top_conjuncts
top_members false = top_disjuncts

abbrev pub connected : Bool → List GCond → GCond
connected true = c.And
connected false = c.Or

-- what is known of members so far: one decides the whole, and what remains of them
pub record Joint : Type 0 where
  pub decides : Bool
  pub members : List GCond

abbrev pub with_settled : Bool → Joint → Settled → Joint
with_settled conjunction j s =
    record { decides = j.decides || is_decided (not conjunction) s; members = j.members ++ remaining_members (top_members conjunction) s }

abbrev pub joint_of : Bool → Joint → List Settled → Joint
joint_of conjunction j [] = j
joint_of conjunction j (s ∷ ss) = joint_of conjunction (with_settled conjunction j s) ss

abbrev pub finished : Bool → Joint → Settled
finished conjunction j = if j.decides then decided (not conjunction) else joined conjunction (connected conjunction) j.members

abbrev pub joint_meaning : CodedJoint → Joint
joint_meaning j = record { decides = j.decides; members = map condition_of j.members }
