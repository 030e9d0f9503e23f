use Rattle.std.proofs.Common.{◌∙◌, length}
use Rattle.box_model.specs.Boxes.{IsAround}
use Rattle.box_model.proofs.OneState.{made_around, around_contains, around_least, around_of_task}
use Rattle.box_model.proofs.state_box.StateBox.around.Goals as goal

made : (c : goal.After-from_vec-2) → IsAround c.args.task.now.places c.args.state.now (record { facts = c.from_vec.result; fluents = c.from_vec-2.result })
made c =
    made_around c.args.task.now.places c.args.state.now (record { facts = c.from_vec.result; fluents = c.from_vec-2.result })
    (length c.args.task.now.raw.facts) (length c.args.task.now.raw.fluents) c.requires.facts c.requires.values
    (c.from_vec.ensures ∙ c.in_ok-facts.ensures) (c.from_vec-2.ensures ∙ c.in_ok-fluents.ensures.each)

pub returns-clause-alone : goal.returns-clause-alone
returns-clause-alone c = made c

pub returns-clause-of_task : goal.returns-clause-of_task
returns-clause-of_task c = around_of_task c.args.task.now c.args.state.now _ c.requires.facts c.requires.values c.in_ok-fluents.ensures.in_range (made c)

pub returns-clause-contains : goal.returns-clause-contains
returns-clause-contains c = around_contains c.args.task.now.places c.args.state.now _ (made c)

pub returns-clause-least : goal.returns-clause-least
returns-clause-least c = around_least c.args.task.now.places c.args.state.now _ (made c)
