-- There is a first node, and the path to a node leads to its state.
use Rattle.std.proofs.Common.{◌≡◌, ℕ, ◌<◌, ◌≤◌, zero, suc, List, [], ◌∷◌, ◌++◌, length, slice_get, Option, None, Some, refl, sym, subst, inl, inr, arith, length-append}
use Rattle.search_runs.specs.Answers.{path_within}
use Rattle.search_runs.specs.Nodes.{Config, nothing, changed}
use Rattle.search_runs.specs.Runs.{Enters, no_room, in_kept, no_box, in_own, reaches, waits, waits_over, Meets, Gives, Leads, Run, starts, goes_on}
use Rattle.search_runs.specs.Spaces.{Stepped, Blocked, Over, Next, Space, IsAt, Walk}
use Rattle.search_runs.specs.declared.events.Event.{Event}
use Rattle.search_runs.specs.declared.events.Event.TheVariants.{Start, Take, Give, Starve}
use Rattle.search_runs.specs.declared.nodes.Node.{Node}
use Rattle.search_runs.specs.declared.nodes.Status.TheVariants.{Taken, Closed}
use Rattle.search_runs.proofs.Places.{length-with_status}
use Rattle.search_runs.proofs.Holds.{Holds, Laws}

pub at_some : {X : Type 0} (xs : List X) → 0 < length xs → (x : X) × IsAt xs 0 x
at_some [] some = absurd (omega arith)
at_some (x ∷ xs) some = (x, refl)

module _ {S B : Type 0} (g : Space S B) (laws : Laws g) where
  longer_entered : (c d : Config S B) (s : S) (parent via : ℕ) → Enters g s parent via c d → length c.nodes ≤ length d.nodes
  longer_entered c d s parent via (no_room full is) = rw is (omega arith)
  longer_entered c d s parent via (in_kept b room first is) = rw is (omega (arith, length-append {A = Node S}))
  longer_entered c d s parent via (no_box room none dead full is) = rw is (omega arith)
  longer_entered c d s parent via (in_own b room none keeps box_room is) = rw is (omega (arith, length-append {A = Node S}))
  longer_entered c d s parent via (reaches room is_goal is) = rw is (omega (arith, length-append {A = Node S}))
  longer_entered c d s parent via (waits k room live estimate not_goal is) = rw is (omega (arith, length-append {A = Node S}))
  longer_entered c d s parent via (waits_over k room live estimate unsure is) = rw is (omega (arith, length-append {A = Node S}))

  longer_met : (n a : ℕ) (step : Stepped S) (c d : Config S B) → Meets g n a step c d → length c.nodes ≤ length d.nodes
  longer_met n a Blocked c d is = rw is (omega arith)
  longer_met n a Over c d is = rw is (omega arith)
  longer_met n a (Next s) c d (inl (there, is)) = rw is (omega arith)
  longer_met n a (Next s) c d (inr (none, enters)) = longer_entered c d s n a enters

  longer_given : (left n : ℕ) (s : S) (a : ℕ) (c d : Config S B) → Gives g n s a left c d → length c.nodes ≤ length d.nodes
  longer_given zero n s a c d is = rw is (omega arith)
  longer_given (suc left) n s a c d (mid, meet, rest) = omega (arith, longer_met n a (g.step a s) c mid meet, longer_given left n s (suc a) mid d rest)

  longer : (j : List Event) (c : Config S B) (e : Event) (d : Config S B) → Leads g j c e d → length c.nodes ≤ length d.nodes
  longer j c Start d is = absurd is
  longer j c (Take w n) d is = rw is.after (omega (arith, length-with_status c.nodes n (Taken w)))
  longer j c (Give w n) d is = omega (arith, length-with_status c.nodes n Closed, longer_given g.actions n is.node.state 0 (changed n Closed c) d is.after)
  longer j c (Starve w) d is = rw is.after (omega arith)

  -- there is a first node
  started : (c : Config S B) → Enters g g.initial 0 0 nothing c → 0 < length c.nodes
  started c (no_room full is) = absurd (omega (arith, full, laws.room))
  started c (in_kept b room first is) = rw is (omega arith)
  started c (no_box room none dead full is) = absurd (omega (arith, full, laws.box_room))
  started c (in_own b room none keeps box_room is) = rw is (omega arith)
  started c (reaches room is_goal is) = rw is (omega arith)
  started c (waits k room live estimate not_goal is) = rw is (omega arith)
  started c (waits_over k room live estimate unsure is) = rw is (omega arith)

  pub has_first : (j : List Event) (c : Config S B) → Run g j c → 0 < length c.nodes
  has_first _ _ (starts c enters) = started c enters
  has_first _ _ (goes_on j c e d run step) = omega (arith, has_first j c run, longer j c e d step)

  -- a plan

  walk_more : (actions : List ℕ) (s p x : S) (a : ℕ) → Walk g actions s p → g.Moves a p x → Walk g (actions ++ a ∷ []) s x
  walk_more [] s p x a walk moves = (x, subst (λ q. g.Moves a q x) (sym walk) moves, refl)
  walk_more (b ∷ rest) s p x a walk moves = (walk.0, walk.1, walk_more rest walk.0 p x a walk.2 moves)

  pub path_leads : (j : List Event) (c : Config S B) → Holds g j c None → (most n : ℕ) (x : Node S) → n ≤ most → IsAt c.nodes n x → Walk g (path_within most c.nodes n) g.initial x.state
  path_leads j c h most zero x enough at = let is = h.tree.first x at in sym is.0
  path_leads j c h zero (suc n) x enough at = absurd (omega arith)
  path_leads j c h (suc most) (suc n) x enough at =
      let up = h.tree.parents (suc n) x (omega arith) at in
      by (slice_get c.nodes (suc n)) at (walk_more (path_within most c.nodes x.parent) g.initial up.parent.state x.state x.via (path_leads j c h most x.parent up.parent (omega (arith, up.below)) up.there) up.leads)
    where
      by : (o : Option (Node S)) → o ≡ Some x → Walk g (path_within most c.nodes x.parent ++ x.via ∷ []) g.initial x.state → Walk g (elim o [ None ↦ [] | Some y ↦ path_within most c.nodes y.parent ++ y.via ∷ [] ]) g.initial x.state
      by o is walk = subst (λ o. Walk g (elim o [ None ↦ [] | Some y ↦ path_within most c.nodes y.parent ++ y.via ∷ [] ]) g.initial x.state) (sym is) walk
