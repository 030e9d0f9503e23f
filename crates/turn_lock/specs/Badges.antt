-- The view of a seat that has one.
use Rattle.std.specs.Prelude.{List, [], ◌∷◌}
use Rattle.turn_lock.specs.declared.view.View.{View}
use Rattle.turn_lock.specs.Words.{waiting}

abbrev pub view_of : List View → View
view_of [] = waiting []
view_of (v ∷ vs) = v
