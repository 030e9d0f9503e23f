-- Runs of one worker that end at the first answer.
use Rattle.std.specs.Prelude.{◌≡◌, List, [], ◌∷◌, ◌++◌, None, Some, ⊤}
use Rattle.search_runs.specs.declared.answers.Answer.{Answer}
use Rattle.search_runs.specs.declared.events.Event.{Event}
use Rattle.search_runs.specs.declared.events.Event.TheVariants.{Start, Take, Give, Starve}
use Rattle.search_runs.specs.declared.nodes.Node.{Node}
use Rattle.search_runs.specs.Spaces.{Space}
use Rattle.search_runs.specs.Nodes.{Config, nothing}
use Rattle.search_runs.specs.Runs.{Enters, Leads}
use Rattle.search_runs.specs.Answers.{answer_of, first_where, is_taken}

module _ {S B : Type 0} (g : Space S B) where
  -- a node is taken only where none is
  abbrev pub IsAlone : List (Node S) → Event → Type 0
  IsAlone nodes Start = ⊤
  IsAlone nodes (Take w n) = first_where is_taken nodes ≡ None
  IsAlone nodes (Give w n) = ⊤
  IsAlone nodes (Starve w) = ⊤

  -- each event stands where there is no answer yet
  pub data PlainRun : List Event → Config S B → Type 0 where
    starts : (c : Config S B) → Enters g g.initial 0 0 nothing c → PlainRun (Start ∷ []) c
    goes_on : (j : List Event) (c : Config S B) (e : Event) (c' : Config S B) → PlainRun j c
        → answer_of g.limit j c ≡ None → IsAlone c.nodes e → Leads g j c e c'
        → PlainRun (j ++ e ∷ []) c'

  -- it ends at an answer
  abbrev pub IsPlainRun : List Event → Config S B → Type 0
  IsPlainRun j c = PlainRun j c × ((a : Answer) × (answer_of g.limit j c ≡ Some a))
