use Rattle.std.proofs.Common.{◌≡◌, ◌++◌, [], ◌∷◌, drop}
use Rattle.std.specs.Prelude.{filter}
use Rattle.binder.specs.internal.Checks.{holds}
use Rattle.binder.proofs.candidates.passing.Given as goal

abbrev pub invariant-each : goal.invariant-each
invariant-each l = l.found.items ++ filter (λ o. holds l.statics (l.prefix ++ o ∷ []) l.check) (drop l.object-index l.objects) ≡ filter (λ o. holds l.statics (l.prefix ++ o ∷ []) l.check) l.objects
