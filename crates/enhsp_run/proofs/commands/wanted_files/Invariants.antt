use Rattle.std.proofs.Common.{◌≡◌, ◌++◌, drop, map}
use Rattle.enhsp_run.specs.Commands.{wanted_file}
use Rattle.enhsp_run.proofs.commands.wanted_files.Given as goal

abbrev pub invariant-each : goal.invariant-each
invariant-each l = l.wanted ++ map (wanted_file l.job) (drop l.file-index l.files) ≡ map (wanted_file l.job) l.files
