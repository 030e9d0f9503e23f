use Rattle.std.proofs.Common.{◌≡◌, ◌++◌, true, length}
use Rattle.std.specs.List.{list_all}
use Rattle.num_ends.specs.Names.{is_name}
use Rattle.plan_text.specs.internal.Reading.{folded_words}
use Rattle.plan_text.proofs.names.names.Given as goal

abbrev pub invariant-words : goal.invariant-words
invariant-words l = record {
  whole : folded_words l.text ≡ l.names ++ folded_words l.rest;
  named : list_all is_name l.names ≡ true;
}

abbrev pub decreases-words : goal.decreases-words
decreases-words l = length l.rest
