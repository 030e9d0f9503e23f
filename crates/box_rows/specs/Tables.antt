-- The supporters of a task as contracts see them.
use Rattle.std.specs.Prelude.{List}
use Rattle.num_ends.specs.declared.ends.End.{End}
use Rattle.box_rows.specs.declared.rule.Rule.{Rule}

-- per fluent the ends at which its changes stop on either side, the innermost first, and a rule for each supporter
pub record SupportersValue : Type 0 where
  pub uppers : List (List End)
  pub lowers : List (List End)
  pub rules : List Rule
