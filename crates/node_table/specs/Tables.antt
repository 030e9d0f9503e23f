-- Tables of nodes as contracts see them.
use Rattle.std.specs.Prelude.{◌≢◌, List, map, AllPairs}
use Rattle.ground_task.specs.States.{StateValue}

-- no two nodes have one state
abbrev pub AreApart : {P : Type 0} → List (StateValue × P) → Type 0
AreApart nodes = AllPairs (λ x y. x ≢ y) (map (λ node. node.0) nodes)
