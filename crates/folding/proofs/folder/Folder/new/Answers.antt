use Rattle.std.proofs.Common.{ap, ◌∙◌}
use Rattle.pddl_terms.specs.declared.files.Domain.{Domain}
use Rattle.folding.proofs.Found.{stands_in}
use Rattle.folding.proofs.folder.Folder.new.Goals as goal

pub put_together-requires-clause-of_pair : goal.put_together-requires-clause-of_pair
put_together-requires-clause-of_pair c = record {
  readable = c.domain.ensures.readable;
  well_formed = c.domain.ensures.well_formed;
  stands = stands_in c.args.checked.now.domain.schemas c.as_slice-schemas.result.now c.args.schema c.index-schemas-schema.result
      (c.as_slice-schemas.ensures ∙ ap (λ (d : Domain). d.schemas) c.domain.ensures.domain) c.requires.within c.index-schemas-schema.is;
}
