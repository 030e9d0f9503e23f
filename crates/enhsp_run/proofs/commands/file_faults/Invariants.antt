use Rattle.std.proofs.Common.{◌≡◌, ◌++◌, drop, map}
use Rattle.enhsp_run.specs.Answers.{file_fault}
use Rattle.enhsp_run.specs.Commands.{name_in}
use Rattle.enhsp_run.proofs.commands.file_faults.Given as goal

abbrev pub invariant-each : goal.invariant-each
invariant-each l =
    l.faults ++ map (λ file. file_fault (name_in l.job file)) (drop l.file-index l.files) ≡ map (λ file. file_fault (name_in l.job file)) l.files
