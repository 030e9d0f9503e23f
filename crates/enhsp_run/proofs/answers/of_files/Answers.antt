use Rattle.enhsp_run.specs.Commands.{entry_of}
use Rattle.whole_files.specs.Seen.{saw}
use Rattle.enhsp_run.proofs.Answered.{of_large, of_missing, of_texts, on_made, on_memory, same_faults}
use Rattle.enhsp_run.proofs.answers.of_files.Goals as goal

pub returns-in-Texts-clause-answer : goal.returns-in-Texts-clause-answer
returns-in-Texts-clause-answer g c =
    let read = rw (c.in-Texts.is, c.as_slice.ensures, c.in_ok-wanted.ensures) at c.in_ok-texts.ensures.gathered in
    of_texts (entry_of c.args.job.now.command) (saw g.F.Files c.args.files.now c.read_all.new.files) c.args.job.now c.args.sources.now
    c.in-Texts.texts c.of_texts.result c.requires.sources read (rw c.as_slice-in-Texts.ensures at c.of_texts.ensures)

pub returns-in-Texts-clause-made : goal.returns-in-Texts-clause-made
returns-in-Texts-clause-made g c =
    let read = rw c.in-Texts.is at c.in_ok-texts.ensures.gathered in
    on_made c.of_texts.result (same_faults g.F.Files c.args.files.now c.read_all.new.files read.well.no_fault)

pub returns-in-Texts-clause-memory : goal.returns-in-Texts-clause-memory
returns-in-Texts-clause-memory g c =
    let read = rw c.in-Texts.is at c.in_ok-texts.ensures.gathered in
    on_memory c.of_texts.result (same_faults g.F.Files c.args.files.now c.read_all.new.files read.well.no_fault)

pub returns-in-Missing-clause-answer : goal.returns-in-Missing-clause-answer
returns-in-Missing-clause-answer g c =
    let read = rw (c.in-Missing.is, c.as_slice.ensures, c.in_ok-wanted.ensures) at c.in_ok-texts.ensures.gathered in
    of_missing (entry_of c.args.job.now.command) (saw g.F.Files c.args.files.now c.read_all.new.files) c.args.job.now c.args.sources.now
    c.in-Missing.place c.taken.result c.requires.sources read (rw c.in_ok-faults.ensures at c.taken.ensures)

pub returns-clause-answer : goal.returns-clause-answer
returns-clause-answer g c =
    let read = rw (c.in-TooLarge.is, c.as_slice.ensures, c.in_ok-wanted.ensures) at c.in_ok-texts.ensures.gathered in
    of_large (entry_of c.args.job.now.command) (saw g.F.Files c.args.files.now c.read_all.new.files) c.args.job.now c.args.sources.now
    c.in-TooLarge.place _ c.too_large.result c.requires.sources read c.too_large.ensures

pub returns-clause-made : goal.returns-clause-made
returns-clause-made g c =
    let read = rw c.in-TooLarge.is at c.in_ok-texts.ensures.gathered in
    on_made c.too_large.result (same_faults g.F.Files c.args.files.now c.read_all.new.files read.well.no_fault)

pub returns-clause-memory : goal.returns-clause-memory
returns-clause-memory g c =
    let read = rw c.in-TooLarge.is at c.in_ok-texts.ensures.gathered in
    on_memory c.too_large.result (same_faults g.F.Files c.args.files.now c.read_all.new.files read.well.no_fault)
