use Rattle.std.proofs.Common.{◌≡◌, ℕ, List, [], ◌∷◌, Option, None, sym, ap, ◌∙◌}
use Rattle.std.specs.Option.{option_map_or}
use Rattle.pddl_terms.specs.declared.limits.What.TheVariants.{Effects}
use Rattle.pddl_trees.specs.declared.faults.Fault.{Fault}
use Rattle.pddl_trees.specs.declared.faults.Reason.TheVariants.{TooMany}
use Rattle.pddl_trees.specs.Faults.{all_noted, fault_at}
use Rattle.pddl_trees.specs.Trees.{form_of}
use Rattle.pddl_trees.specs.Actions.{past_effects}
use Rattle.pddl_actions.proofs.KeptEffects.{whole_effects}
use Rattle.pddl_trees.proofs.Noted.{noted_append}
use Rattle.pddl_actions.proofs.PastEffects.{past_is}
use Rattle.pddl_trees.proofs.Quiet.{no_faults, quiet_behind}
use Rattle.pddl_actions.proofs.actions.effects_of.Goals as goal

pub returns-clause-faults : goal.returns-clause-faults
returns-clause-faults c =
    let e = (form_of c.args.text.now c.args.tree.now).effects in
    let read = c.in_ok-gathered.ensures in
    c.note_past.ensures
    ∙ ap (λ (at : Option ℕ). all_noted c.tree_effects.new.notes.first (option_map_or (λ (p : ℕ). fault_at p (TooMany Effects) ∷ []) at [])) read.past
    ∙ ap (all_noted c.tree_effects.new.notes.first) (past_is e.found)
    ∙ ap (λ (n : Option Fault). all_noted n (past_effects e.found)) read.faults
    ∙ sym (noted_append c.args.notes.now.first e.faults (past_effects e.found))

pub returns-clause-items : goal.returns-clause-items
returns-clause-items c = λ quiet.
    let text = c.args.text.now in
    let t = c.args.tree.now in
    let e = (form_of text t).effects in
    let read = c.in_ok-gathered.ensures in
    let past : List Fault = option_map_or (λ (p : ℕ). fault_at p (TooMany Effects) ∷ []) c.in_ok-gathered.gathered.past [] in
    let before : c.tree_effects.new.notes.first ≡ None = quiet_behind c.tree_effects.new.notes.first c.note_past.new.notes.first past c.note_past.ensures quiet in
    read.kept ∙ whole_effects text t (no_faults c.args.notes.now.first c.tree_effects.new.notes.first e.faults read.faults before)
