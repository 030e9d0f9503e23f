use Rattle.std.proofs.Common.{◌∙◌}
use Rattle.grounder.proofs.Spelling.{spelled_from}
use Rattle.grounder.proofs.texts.atom_text.Goals as goal

pub returns : goal.returns
returns c =
    c.from_vec.ensures
    ∙ spelled_from c.args.checked.now c.args.head.now c.args.objects.now _ _ _ _ _ c.new-text.ensures.items c.in_ok-push.ensures.items
    c.in_ok-extend_from_slice.ensures.items c.in_ok-push_objects.ensures c.in_ok-push-2.ensures.items
