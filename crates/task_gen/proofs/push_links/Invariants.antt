use Rattle.std.proofs.Common.{◌≡◌, ◌++◌}
use Rattle.std.specs.String.{string_bytes}
use Rattle.task_gen.specs.Counters.{of_counters, link_text}
use Rattle.task_gen.proofs.push_links.Given as goal

abbrev pub invariant-counters : goal.invariant-counters
invariant-counters l = string_bytes l.text ≡ string_bytes l.fn.text ++ of_counters link_text l.i-counter
