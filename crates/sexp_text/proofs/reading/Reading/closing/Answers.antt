use Rattle.std.proofs.Common.{◌+◌, ◌∷◌, [], ◌++◌, ap, ◌∙◌}
use Rattle.std.specs.Global.{Vec}
use Rattle.sexp_text.specs.declared.trees.Tree.{Tree}
use Rattle.sexp_text.specs.declared.trees.Tree.TheVariants as trees
use Rattle.sexp_text.proofs.TreeMarks.{closing_read}
use Rattle.sexp_text.proofs.reading.Reading.closing.Goals as goal

pub returns-clause-marks : goal.returns-clause-marks
returns-clause-marks c =
    closing_read c.args.self.now.outer.items c.pop.new.self.items c.in-Some.field-0 c.args.self.now.trees.items c.from_vec.result c.push.new.self.items c.args.at
    c.in-Some.ensures.items
    (c.from_vec.ensures ∙ ap (λ (v : Vec Tree). v.items) c.replace-inner.ensures.value)
    (c.in_ok-push.ensures.items ∙ ap (λ (v : Vec Tree). v.items ++ trees.List (record { from = c.in-Some.field-0.bracket; to = c.args.at + 1 }) c.from_vec.result ∷ []) c.replace-inner.ensures.after)
