-- A world after a change of its facts or of its values.
use Rattle.std.proofs.Common.{◌≡◌, ap, ◌∙◌}
use Rattle.pddl_meaning.specs.Worlds.{Facts, Values, WorldValue}

pub changed_facts : (inside w : WorldValue) → inside ≡ w → (new : Facts) (change : Facts → Facts) → new ≡ change inside.facts
    → ◌≡◌ {A = WorldValue} (record { facts = new; values = inside.values }) (record { facts = change w.facts; values = w.values })
changed_facts inside w is new change e i = record { facts = (e ∙ ap (λ (v : WorldValue). change v.facts) is) i; values = (is i).values }

pub changed_values : (inside w : WorldValue) → inside ≡ w → (new : Values) (change : Values → Values) → new ≡ change inside.values
    → ◌≡◌ {A = WorldValue} (record { facts = inside.facts; values = new }) (record { facts = w.facts; values = change w.values })
changed_values inside w is new change e i = record { facts = (is i).facts; values = (e ∙ ap (λ (v : WorldValue). change v.values) is) i }
