use Rattle.std.proofs.Common.{arith, length-append, ◌∙◌, ap, length, Option, subst, ◌+◌}
use Rattle.edge_io.specs.Folder.{Folder}
use Rattle.whole_files.specs.Gathered.{IsText}
use Rattle.whole_files.specs.Seen.{saw}
use Rattle.whole_files.proofs.Steps.{more_texts}
use Rattle.whole_files.proofs.reading.read_all.Goals as goal

pub each-preserved : goal.each-preserved
unfolding saw
each-preserved g c =
    let read = rw c.in-Whole.is at c.in_ok-read_once.ensures.read in
    let before = c.each.invariant in record {
      as_many = simp length-append at (ap length c.in_ok-push-in-Whole.ensures.ok) ∙ ap (λ k. k + 1) before.as_many;
      are_texts = more_texts (g.F.Files.told c.args.files.now) c.args.wanted.now c.each.file-index c.file-item.result
          c.each.texts c.push.new.self c.in-Whole.text c.each-test.true c.file-item.is before.are_texts
          (subst (λ (told : Option Folder). IsText told c.file-item.result c.in-Whole.text) before.same_folder read.1) c.in_ok-push-in-Whole.ensures.ok;
      begun = λ below. omega (arith, before.begun, c.read_once.ensures.next_begun, below);
      no_fault = read.0 ∙ before.no_fault;
      same_folder = c.read_once.ensures.same_folder ∙ before.same_folder;
    }
