use Rattle.std.proofs.Common.{◌≡◌, get_or, refl, sym, ◌∙◌}
use Rattle.std.proofs.lemmas.List.{get_or_default, length-set}
use Rattle.supporter_count.proofs.Marking.{known, fresh}
use Rattle.supporter_count.proofs.marks.Marks.mark.Goals as goal

pub returns-then-index-self-clause-marked : goal.returns-then-index-self-clause-marked
returns-then-index-self-clause-marked c = λ facts h. let m = c.args.self.now in let v = c.index.result.now in
    let at : v ≡ get_or m.stamps.items c.args.fact 0 = c.index.ensures ∙ get_or_default m.stamps.items c.args.fact v 0 c.requires.known in
    known m facts c.args.fact c.requires.known (sym at ∙ c.if-index-self.true) h

pub returns-clause-marked : goal.returns-clause-marked
returns-clause-marked c = λ facts h. let m = c.args.self.now in let v = c.index.result.now in
    let at : v ≡ get_or m.stamps.items c.args.fact 0 = c.index.ensures ∙ get_or_default m.stamps.items c.args.fact v 0 c.requires.known in
    fresh m _ facts c.args.fact c.requires.known (λ e. c.if-index-self.false (at ∙ e)) refl refl (length-set m.stamps.items c.args.fact m.current) h
