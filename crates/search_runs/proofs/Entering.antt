-- Each event keeps what holds.
use Rattle.std.proofs.Common.{◌≡◌, ◌≢◌, ℕ, ◌<◌, ◌⊎◌, true, false, cond, List, [], ◌∷◌, ◌++◌, length, Option, refl, sym, ap, subst, ◌∙◌, inl, inr, arith, length-append}
use Rattle.std.specs.Prelude.{IsSome}
use Rattle.search_runs.specs.Meanings.{IsRightFor}
use Rattle.search_runs.specs.Nodes.{Config, IsNode, IsInNone, noted, marked, added, keeping}
use Rattle.search_runs.specs.Runs.{Enters, no_room, in_kept, no_box, in_own, reaches, waits, waits_over}
use Rattle.search_runs.specs.Spaces.{Yes, No, Overflow, Space, IsLive, IsLiveReachable, IsDeadNeighbour, IsDeadState}
use Rattle.search_runs.specs.declared.answers.Full.{Full}
use Rattle.search_runs.specs.declared.answers.Full.TheVariants.{States, Boxes}
use Rattle.search_runs.specs.declared.events.Event.{Event}
use Rattle.search_runs.specs.declared.nodes.Node.{Node}
use Rattle.search_runs.specs.declared.nodes.Status.{Status}
use Rattle.search_runs.specs.declared.nodes.Status.TheVariants.{Waiting, Closed, Dead, Goal}
use Rattle.search_runs.specs.declared.answers.Site.TheVariants as site
use Rattle.search_runs.proofs.Places.{at_last}
use Rattle.search_runs.proofs.Holds.{IsAlive, is_expanded, is_dead, HasParent, LeadsBeyond, IsMark, AreCounted, Holds, Laws}
use Rattle.search_runs.proofs.Moves.{some_or_else, node_last, tree_added, classed_added, classed_keeping, met_added, met_noted, met_marked, met_keeping}
use Rattle.search_runs.proofs.Marks.{beyond_kept, noted_added, noted_keeping, noted_noted, noted_marked, count-added, count-within}

module _ {S B : Type 0} (g : Space S B) (laws : Laws g) where
  -- a state that is to enter: the first, or one to which a step of a closed node leads
  pub record IsFresh (nodes : List (Node S)) (s : S) (parent via : ℕ) : Type 0 where
    pub is_state : g.IsState s
    pub none : IsNode nodes s → ⊥
    pub first : length nodes ≡ 0 → (s ≡ g.initial) × (parent ≡ 0) × (via ≡ 0)
    pub has_parent : (st : Status) → 0 < length nodes → HasParent g nodes (length nodes) (record { state = s; parent = parent; via = via; status = st })
    pub reached : IsLive g s → IsLiveReachable g s
    pub near : IsDeadState g s → IsDeadNeighbour g s
    pub beyond : 0 < length nodes → LeadsBeyond g nodes (λ t. t ≡ s)

  abbrev node : S → ℕ → ℕ → Status → Node S
  node s parent via st = record { state = s; parent = parent; via = via; status = st }

  -- counts after a node more that is not expanded
  counted_added : (j : List Event) (c : Config S B) (x : Node S) → AreCounted g j c → is_expanded x.status ≡ false → length c.nodes < g.most_states → AreCounted g j (record c { nodes = c.nodes ++ x ∷ [] })
  counted_added j c x h unexpanded room =
      let zero_more : ◌≡◌ {A = ℕ} (cond (is_expanded x.status) 1 0) 0 = ap (λ b. cond {A = ℕ} b 1 0) unexpanded in
      record {
        takes = omega (arith, h.takes, zero_more, count-added is_expanded c.nodes x);
        limit = h.limit;
        owned = omega (arith, h.owned, count-added is_dead c.nodes x);
        states = omega (arith, room, length-append c.nodes (x ∷ []));
        boxes = h.boxes;
      }

  -- a box more, and a node in it
  counted_owned : (j : List Event) (c : Config S B) (x : Node S) (box : B) → AreCounted g j c → is_expanded x.status ≡ false → is_dead x.status ≡ true → length c.nodes < g.most_states → length c.boxes < g.most_boxes
      → AreCounted g j (record c { nodes = c.nodes ++ x ∷ []; boxes = c.boxes ++ box ∷ [] })
  counted_owned j c x box h unexpanded dead room box_room =
      let zero_more : ◌≡◌ {A = ℕ} (cond (is_expanded x.status) 1 0) 0 = ap (λ b. cond {A = ℕ} b 1 0) unexpanded in
      let one_more : ◌≡◌ {A = ℕ} (cond (is_dead x.status) 1 0) 1 = ap (λ b. cond {A = ℕ} b 1 0) dead in
      record {
        takes = omega (arith, h.takes, zero_more, count-added is_expanded c.nodes x);
        limit = h.limit;
        owned = omega (arith, h.owned, one_more, count-added is_dead c.nodes x, length-append c.boxes (box ∷ []));
        states = omega (arith, room, length-append c.nodes (x ∷ []));
        boxes = omega (arith, box_room, length-append c.boxes (box ∷ []));
      }

  -- a node of a class more
  add : (j : List Event) (c : Config S B) (pend : Option (ℕ × ℕ)) (s : S) (parent via : ℕ) (st : Status) → Holds g j c pend → IsFresh c.nodes s parent via → length c.nodes < g.most_states → IsRightFor g c.boxes s st
      → is_expanded st ≡ false → st ≢ Closed → (IsAlive st → g.goal s ≡ Overflow → ⊥) → Holds g j (added s parent via st c) pend
  add j c pend s parent via st h fresh room is unexpanded not_closed sure =
      let x : Node S = node s parent via st in
      record {
        tree = tree_added g c.nodes x h.tree fresh.is_state fresh.none fresh.first (fresh.has_parent st);
        classed = classed_added g c.nodes c.boxes x h.classed is;
        met = met_added g c pend x h.met not_closed (λ alive unsure. absurd (sure alive unsure));
        noted = noted_added g c x room h.noted;
        counted = counted_added j c x h.counted unexpanded room;
      }

  abbrev IsEntered : List Event → Option (ℕ × ℕ) → S → Config S B → Type 0
  IsEntered j pend s d = Holds g j d pend × (IsNode d.nodes s ⊎ IsSome d.full)

  mark : (j : List Event) (c : Config S B) (pend : Option (ℕ × ℕ)) (s : S) (f : Full) → Holds g j c pend → IsMark g c f → IsEntered j pend s (marked f c)
  mark j c pend s f h is = (
    record {
      tree = h.tree;
      classed = h.classed;
      met = met_marked g c pend f h.met;
      noted = noted_marked g c f is h.noted;
      counted = record { takes = h.counted.takes; limit = h.counted.limit; owned = h.counted.owned; states = h.counted.states; boxes = h.counted.boxes };
    },
    inr (some_or_else c.full f),
  )

  goal_no : (s : S) → g.goal s ≡ No → g.goal s ≢ Yes
  goal_no s is_no is_yes = cc

  -- whichever way a state enters
  pub entered : (j : List Event) (c d : Config S B) (pend : Option (ℕ × ℕ)) (s : S) (parent via : ℕ) → Holds g j c pend → IsFresh c.nodes s parent via → Enters g s parent via c d → IsEntered j pend s d
  entered j c d pend s parent via h fresh (no_room full is) =
      let beyond = beyond_kept g c.nodes c.nodes (λ t. t ≡ s) (λ t. IsNode c.nodes t → ⊥) (λ n x at alive. (x, at, refl, alive, λ closed. closed)) (λ t same. subst (λ u. IsNode c.nodes u → ⊥) (sym same) fresh.none)
      (fresh.beyond (omega (arith, laws.room))) in
      subst (IsEntered j pend s) (sym is) (mark j c pend s States h (full, beyond))
  entered j c d pend s parent via h fresh (in_kept b room first is) =
      let dead : IsDeadState g s = (first.box, h.classed.dead b first.box first.there, first.contains) in
      subst (IsEntered j pend s) (sym is) (add j c pend s parent via (Dead b) h fresh room (fresh.near dead, (first.box, first.there, h.classed.dead b first.box first.there, first.contains)) refl (λ e. cc) (λ alive unsure. alive), inl (node_last c.nodes (node s parent via (Dead b))))
  entered j c d pend s parent via h fresh (no_box room none dead full is) =
      let beyond = beyond_kept g c.nodes c.nodes (λ t. t ≡ s) (λ t. IsDeadState g t × IsInNone g c.boxes t) (λ n x at alive. (x, at, refl, alive, λ closed. closed)) (λ t same. subst (λ u. IsDeadState g u × IsInNone g c.boxes u) (sym same) (dead, none))
      (fresh.beyond (omega (arith, laws.box_room, h.counted.owned, count-within is_dead c.nodes))) in
      subst (IsEntered j pend s) (sym is) (mark j c pend s Boxes h (full, beyond))
  entered j c d pend s parent via h fresh (in_own b room none keeps box_room is) =
      let k = laws.keeps s b keeps in
      let x : Node S = node s parent via (Dead (length c.boxes)) in
      subst (IsEntered j pend s) (sym is) (
        record {
          tree = tree_added g c.nodes x h.tree fresh.is_state fresh.none fresh.first (fresh.has_parent (Dead (length c.boxes)));
          classed = classed_added g c.nodes (c.boxes ++ b ∷ []) x (classed_keeping g c.nodes c.boxes b h.classed k.0) (fresh.near (b, k.0, k.1), (b, at_last c.boxes b, k.0, k.1));
          met = met_added g (keeping b c) pend x (met_keeping g c pend b h.met) (λ e. cc) (λ alive unsure. absurd alive);
          noted = noted_added g (keeping b c) x room (noted_keeping g c b box_room h.noted);
          counted = counted_owned j c x b h.counted refl refl room box_room;
        },
        inl (node_last c.nodes x),
      )
  entered j c d pend s parent via h fresh (reaches room is_yes is) =
      subst (IsEntered j pend s) (sym is) (add j c pend s parent via Goal h fresh room (fresh.reached (laws.goal_live s is_yes), is_yes) refl (λ e. cc) (λ alive unsure. let bad : Yes ≡ Overflow = sym is_yes ∙ unsure in cc), inl (node_last c.nodes (node s parent via Goal)))
  entered j c d pend s parent via h fresh (waits k room live estimate is_no is) =
      subst (IsEntered j pend s) (sym is) (add j c pend s parent via (Waiting k) h fresh room (fresh.reached live, estimate, goal_no s is_no) refl (λ e. cc) (λ alive unsure. let bad : No ≡ Overflow = sym is_no ∙ unsure in cc), inl (node_last c.nodes (node s parent via (Waiting k))))
  entered j c d pend s parent via h fresh (waits_over k room live estimate unsure is) =
      let x : Node S = node s parent via (Waiting k) in
      let more : Config S B = record c { nodes = c.nodes ++ x ∷ [] } in
      let before : Config S B = noted (length c.nodes) site.Goal c in
      subst (IsEntered j pend s) (sym is) (
        record {
          tree = tree_added g c.nodes x h.tree fresh.is_state fresh.none fresh.first (fresh.has_parent (Waiting k));
          classed = classed_added g c.nodes c.boxes x h.classed (fresh.reached live, estimate, λ is_yes. let bad : Yes ≡ Overflow = sym is_yes ∙ unsure in cc);
          met = met_added g before pend x (met_noted g c pend (length c.nodes) site.Goal h.met) (λ e. cc) (λ alive same. some_or_else c.over (length c.nodes, site.Goal));
          noted = noted_noted g more (length c.nodes) site.Goal (x, at_last c.nodes x, tt, unsure) (noted_added g c x room h.noted);
          counted = (let k = counted_added j c x h.counted refl room in record { takes = k.takes; limit = k.limit; owned = k.owned; states = k.states; boxes = k.boxes });
        },
        inl (node_last c.nodes x),
      )
