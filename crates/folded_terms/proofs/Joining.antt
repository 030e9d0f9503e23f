-- Members that are joined one after another.
use Rattle.std.proofs.Common.{◌≡◌, ◌||◌, ◌++◌, Bool, true, false, not, List, [], ◌∷◌, refl, sym, ap, ap₂, ◌∙◌, append_assoc}
use Rattle.std.specs.Prelude.{flat_map}
use Rattle.std.specs.List.{list_any}
use Rattle.std.proofs.lemmas.List.{append-nil}
use Rattle.ground_task.specs.declared.raw.GCond.{GCond}
use Rattle.ground_meaning.specs.Conditions.{Settled, is_decided, remaining_members}
use Rattle.term_patterns.specs.Bound.{joins}
use Rattle.folded_terms.specs.internal.Joints.{Joint, finished, joint_of, top_members, with_settled}

or_false : (b : Bool) → (b || false) ≡ b
or_false true = refl
or_false false = refl

or_grouped : (a b c : Bool) → ((a || b) || c) ≡ (a || (b || c))
or_grouped true b c = refl
or_grouped false b c = refl

abbrev whole : Bool → Joint → List Settled → Joint
whole conjunction j ss =
    record { decides = j.decides || list_any (is_decided (not conjunction)) ss; members = j.members ++ flat_map (remaining_members (top_members conjunction)) ss }

abbrev joint : Bool → List GCond → Joint
joint decides members = record { decides = decides; members = members }

joint_is : (conjunction : Bool) (j : Joint) (ss : List Settled) → joint_of conjunction j ss ≡ whole conjunction j ss
joint_is conjunction j [] = sym (ap₂ joint (or_false j.decides) (append-nil j.members))
joint_is conjunction j (s ∷ ss) =
    joint_is conjunction (with_settled conjunction j s) ss
    ∙ ap₂ joint (or_grouped j.decides (is_decided (not conjunction) s) (list_any (is_decided (not conjunction)) ss))
    (append_assoc j.members (remaining_members (top_members conjunction) s) (flat_map (remaining_members (top_members conjunction)) ss))

pub joined_all : (conjunction : Bool) (ss : List Settled) → finished conjunction (joint_of conjunction (record { decides = false; members = [] }) ss) ≡ joins conjunction ss
joined_all true ss = ap (finished true) (joint_is true (record { decides = false; members = [] }) ss)
joined_all false ss = ap (finished false) (joint_is false (record { decides = false; members = [] }) ss)
