-- Right outcomes lead where the relation of runs does.
use Rattle.std.proofs.Common.{◌≡◌, ℕ, ◌<◌, zero, suc, List, [], ◌∷◌, ◌++◌, length, refl, sym, subst, ◌∙◌, inl, inr}
use Rattle.ground_task.specs.States.{StateValue}
use Rattle.box_model.specs.Boxes.{Contains}
use Rattle.box_model.specs.declared.state_box.StateBox.{StateBox}
use Rattle.explored.specs.declared.classes.Most.{Most}
use Rattle.search_nodes.specs.Growth.{AreMet, Configs, IsDeadEntered, IsEntered, IsEnteredBy, IsKeptEntered, IsMet}
use Rattle.search_nodes.specs.declared.views.Outcome.{Outcome}
use Rattle.search_nodes.specs.declared.views.Outcome.TheVariants as outcome
use Rattle.search_nodes.specs.declared.views.View.{View}
use Rattle.search_nodes.specs.declared.views.View.TheVariants as view
use Rattle.search_nodes.proofs.Growing.{met_extends}
use Rattle.search_runs.specs.KeptBoxes as kept
use Rattle.search_runs.specs.Nodes.{IsNode}
use Rattle.search_runs.specs.Runs.{Enters, no_room, in_kept, no_box, in_own, reaches, waits, waits_over, Meets, Gives}
use Rattle.search_runs.specs.Spaces.{IsAt, Space}
use Rattle.search_runs.specs.declared.nodes.Node.{Node}
use Rattle.search_nodes.specs.Right.{IsInSome, IsRightView, IsRightOutcome, AreRightOutcomes}

at_still : {X : Type 0} (xs more : List X) (n : ℕ) (x : X) → IsAt xs n x → IsAt (xs ++ more) n x
at_still [] more n x at = cc
at_still (y ∷ xs) more zero x at = at
at_still (y ∷ xs) more (suc n) x at = at_still xs more n x at

node_still : (nodes more : List (Node StateValue)) (s : StateValue) → IsNode nodes s → IsNode (nodes ++ more) s
node_still nodes more s (n, x, at, is) = (n, x, at_still nodes more n x at, is)

box_still : (g : Space StateValue StateBox) (boxes more : List StateBox) (s : StateValue) → IsInSome g boxes s → IsInSome g (boxes ++ more) s
box_still g boxes more s (b, box, at, inside) = (b, box, at_still boxes more b box at, inside)

module _ (g : Space StateValue StateBox) (places : List ℕ) (most : Most) (contains : g.Contains ≡ Contains places) (states : g.most_states ≡ most.states) (boxes : g.most_boxes ≡ most.boxes)
    (keeps : (s : StateValue) (b : StateBox) → g.Keeps s b → g.IsDead b × g.Contains b s) where
  room_in : (c : Configs) → length c.nodes < most.states → length c.nodes < g.most_states
  room_in c room = subst (λ k. length c.nodes < k) (sym states) room

  enters_dead : (s : StateValue) (parent via : ℕ) (own : StateBox) (c c' : Configs) → length c.nodes < most.states → g.Keeps s own → IsDeadEntered places most s parent via own c c' → Enters g s parent via c c'
  enters_dead s parent via own c c' room keep (inl (b, first, is)) =
      in_kept b (room_in c room) (subst (λ C. kept.IsFirstIn C c.boxes s b) (sym contains) first) is
  enters_dead s parent via own c c' room keep (inr (none, inl (full, is))) =
      let dead = keeps s own keep in
      no_box (room_in c room) (subst (λ C. kept.IsInNone C c.boxes s) (sym contains) none) (own, dead.0, dead.1) (full ∙ sym boxes) is
  enters_dead s parent via own c c' room keep (inr (none, inr (less, is))) =
      in_own own (room_in c room) (subst (λ C. kept.IsInNone C c.boxes s) (sym contains) none) keep (subst (λ k. length c.boxes < k) (sym boxes) less) is

  enters_by : (s : StateValue) (parent via : ℕ) (v : View) (c c' : Configs) → length c.nodes < most.states → IsRightView g s v → IsEnteredBy places most s parent via v c c' → Enters g s parent via c c'
  enters_by s parent via view.Goal c c' room right is = reaches (room_in c room) right is
  enters_by s parent via (view.Dead own) c c' room right is = enters_dead s parent via own c c' room right is
  enters_by s parent via (view.Live h) c c' room right is = waits h (room_in c room) right.0 right.1 right.2 is
  enters_by s parent via (view.LiveOver h) c c' room right is = waits_over h (room_in c room) right.0 right.1 right.2 is

  -- a state enters
  pub enters : (s : StateValue) (parent via : ℕ) (v : View) (c c' : Configs) → IsRightView g s v → IsEntered places most s parent via v c c' → Enters g s parent via c c'
  enters s parent via v c c' right (inl (full, is)) = no_room (full ∙ sym states) is
  enters s parent via v c c' right (inr (room, is)) = enters_by s parent via v c c' room right is

  -- a state in a kept box enters
  enters_kept : (s : StateValue) (parent via : ℕ) (c c' : Configs) → IsInSome g c.boxes s → IsKeptEntered places most s parent via c c' → Enters g s parent via c c'
  enters_kept s parent via c c' there (inl (full, is)) = no_room (full ∙ sym states) is
  enters_kept s parent via c c' there (inr (room, inl (b, first, is))) =
      in_kept b (room_in c room) (subst (λ C. kept.IsFirstIn C c.boxes s b) (sym contains) first) is
  enters_kept s parent via c c' (b, box, at, inside) (inr (room, inr (none, is))) = absurd (none b box at (subst (λ C. C box s) contains inside))

  module _ (nodes : List (Node StateValue)) (held : List StateBox) (s : StateValue) (n : ℕ) where
    -- what was a node, or in a kept box, still is
    abbrev IsLater : Configs → Type 0
    IsLater c = ((t : StateValue) → IsNode nodes t → IsNode c.nodes t) × ((t : StateValue) → IsInSome g held t → IsInSome g c.boxes t)

    met : (a : ℕ) (o : Outcome) (c c' : Configs) → IsLater c → IsRightOutcome g nodes held s a o → IsMet places most n a o c c' → Meets g n a (g.step a s) c c'
    met a outcome.Blocked c c' later right is = subst (λ k. Meets g n a k c c') (sym right) is
    met a outcome.Over c c' later right is = subst (λ k. Meets g n a k c c') (sym right) is
    met a (outcome.Known m) c c' later (x, at, right) is =
        subst (λ k. Meets g n a k c c') (sym right) (inl (later.0 x.state (m, x, at, refl), is))
    met a (outcome.InKept t) c c' later right (inl old) = subst (λ k. Meets g n a k c c') (sym right.0) (inl old)
    met a (outcome.InKept t) c c' later right (inr (new, entered)) =
        subst (λ k. Meets g n a k c c') (sym right.0) (inr (new, enters_kept t n a c c' (later.1 t right.1) entered))
    met a (outcome.Next t v) c c' later right (inl old) = subst (λ k. Meets g n a k c c') (sym right.0) (inl old)
    met a (outcome.Next t v) c c' later right (inr (new, entered)) =
        subst (λ k. Meets g n a k c c') (sym right.0)
        (elim right.1 [
          | inl there ↦ absurd (new (later.0 t there))
          | inr is_right ↦ inr (new, enters t n a v c c' is_right entered)
        ])

    -- the actions give
    pub gives : (os : List Outcome) (a : ℕ) (c c' : Configs) → IsLater c → AreRightOutcomes g nodes held s a os → AreMet places most n a os c c' → Gives g n s a (length os) c c'
    gives [] a c c' later right is = is
    gives (o ∷ os) a c c' later right (mid, first, rest) =
        let more = met_extends places most n a o c mid first in (
          mid,
          met a o c mid later right.0 first,
          gives os (suc a) mid c' (
            (λ t there. subst (λ k. IsNode k t) (sym more.more_nodes) (node_still c.nodes more.nodes t (later.0 t there))),
            (λ t there. subst (λ k. IsInSome g k t) (sym more.more_boxes) (box_still g c.boxes more.boxes t (later.1 t there))),
          )
              right.1 rest,
        )
