-- Hulls of groups of boxes. They are met in no contract of a public call.
use Rattle.std.specs.Prelude.{ℕ, ◌≡◌, ◌<◌, ◌≤◌, ◌/◌, List, length}
use Rattle.box_model.specs.Boxes.{LiesWithin}
use Rattle.box_model.specs.declared.state_box.StateBox.{StateBox}
use Rattle.search_runs.specs.Spaces.{IsAt}

-- the first has as many parts as the second
abbrev pub HasShapeOf : StateBox → StateBox → Type 0
HasShapeOf b c = (length b.facts ≡ length c.facts) × (length b.fluents ≡ length c.fluents)

-- the second contains the first, where it has as many parts
abbrev pub IsInside : StateBox → StateBox → Type 0
IsInside b hull = HasShapeOf b hull → LiesWithin b hull

-- each group of so many boxes has a hull that each of its boxes is inside of
pub record AreHulls (size : ℕ) (boxes hulls : List StateBox) : Type 0 where
  pub there : (n : ℕ) → n < length boxes → n / size < length hulls
  pub around : (n : ℕ) (box hull : StateBox) → IsAt boxes n box → IsAt hulls (n / size) hull → IsInside box hull

-- one box came into this group: what was inside of a hull still is, and the box is inside of the group's
pub record IsWidened (group : ℕ) (own : StateBox) (old new : List StateBox) : Type 0 where
  pub longer : length old ≤ length new
  pub there : group < length new
  pub kept : (g : ℕ) (was hull box : StateBox) → IsAt old g was → IsAt new g hull → IsInside box was → IsInside box hull
  pub added : (hull : StateBox) → IsAt new group hull → IsInside own hull

-- the hulls of sixteen and of 256 boxes
pub record AreGrouped (boxes small large : List StateBox) : Type 0 where
  pub few : length boxes ≤ 1000000000
  pub by_sixteen : AreHulls 16 boxes small
  pub by_large : AreHulls 256 boxes large
