use Rattle.name_tests.proofs.checks.checked_with.Goals as goal

pub check-requires : goal.check-requires
check-requires c = record { domain = c.requires.read; problem = c.in-Ok.ensures.readable }
