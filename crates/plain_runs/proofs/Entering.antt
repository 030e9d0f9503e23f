-- A state that enters alike configurations leaves them alike.
use Rattle.std.proofs.Common.{◌≡◌, ℕ, List, [], ◌∷◌, ◌++◌, length, refl, sym, ap, subst, ◌∙◌, inl, inr, arith}
use Rattle.plain_runs.specs.Alike.{AreInPairs}
use Rattle.plain_runs.proofs.Pairs.{pairs_length, pairs_push, first_none, none_first, first_same}
use Rattle.search_runs.specs.Nodes.{Config, or_else, noted, marked, added, keeping, IsFirstIn}
use Rattle.search_runs.specs.Runs.{Enters, no_room, in_kept, no_box, in_own, reaches, waits, waits_over}
use Rattle.search_runs.specs.Spaces.{Yes, No, Overflow, Space, IsAt, IsDeadState}
use Rattle.search_runs.specs.declared.answers.Full.{Full}
use Rattle.search_runs.specs.declared.answers.Full.TheVariants.{States, Boxes}
use Rattle.search_runs.specs.declared.answers.Site.{Site}
use Rattle.search_runs.specs.declared.answers.Site.TheVariants as site
use Rattle.search_runs.specs.declared.nodes.Status.{Status}
use Rattle.search_runs.specs.declared.nodes.Status.TheVariants.{Waiting, Goal, Dead}
use Rattle.search_runs.proofs.Places.{at_longer}

-- what two boxes that may be kept for one state have in common, and what the classes of states have to do with one another
pub record OneOfEach {S B : Type 0} (g : Space S B) (Alike : B → B → Type 0) : Type 0 where
  pub kept : (s : S) (a b : B) → g.Keeps s a → g.Keeps s b → Alike a b
  pub there : (a b : B) (s : S) → Alike a b → g.Contains a s → g.Contains b s
  pub back : (a b : B) (s : S) → Alike a b → g.Contains b s → g.Contains a s
  pub keeps : (s : S) (b : B) → g.Keeps s b → g.IsDead b × g.Contains b s
  pub goal_live : (s : S) → g.goal s ≡ Yes → IsDeadState g s → ⊥
  pub estimate : (s : S) (h k : ℕ) → g.IsEstimate s h → g.IsEstimate s k → h ≡ k

module _ {S B : Type 0} (g : Space S B) (Alike : B → B → Type 0) where
  abbrev pub AreDead : List B → Type 0
  AreDead boxes = (b : ℕ) (box : B) → IsAt boxes b box → g.IsDead box

  -- equal but for the boxes, which are alike in pairs; all are dead
  pub record AreLike (c d : Config S B) : Type 0 where
    pub nodes : c.nodes ≡ d.nodes
    pub over : c.over ≡ d.over
    pub full : c.full ≡ d.full
    pub boxes : AreInPairs Alike c.boxes d.boxes
    pub dead : AreDead c.boxes
    pub dead_too : AreDead d.boxes

module _ {S B : Type 0} (g : Space S B) (Alike : B → B → Type 0) (one : OneOfEach g Alike) where
  marked_like : (f : Full) (c d : Config S B) → AreLike g Alike c d → AreLike g Alike (marked f c) (marked f d)
  marked_like f c d like = record {
    nodes = like.nodes;
    over = like.over;
    full = ap (λ o. or_else o f) like.full;
    boxes = like.boxes;
    dead = like.dead;
    dead_too = like.dead_too;
  }

  pub noted_like : (m n : ℕ) (p : Site) (c d : Config S B) → m ≡ n → AreLike g Alike c d → AreLike g Alike (noted m p c) (noted n p d)
  noted_like m n p c d same like = record {
    nodes = like.nodes;
    over = (λ i. or_else (like.over i) (same i, p));
    full = like.full;
    boxes = like.boxes;
    dead = like.dead;
    dead_too = like.dead_too;
  }

  added_like : (s : S) (parent via : ℕ) (st t : Status) (c d : Config S B) → st ≡ t → AreLike g Alike c d → AreLike g Alike (added s parent via st c) (added s parent via t d)
  added_like s parent via st t c d same like = record {
    nodes = (λ i. like.nodes i ++ record { state = s; parent = parent; via = via; status = same i } ∷ []);
    over = like.over;
    full = like.full;
    boxes = like.boxes;
    dead = like.dead;
    dead_too = like.dead_too;
  }

  dead_more : (boxes : List B) (b : B) → AreDead g Alike boxes → g.IsDead b → AreDead g Alike (boxes ++ b ∷ [])
  dead_more boxes b dead new n box at =
      elim (at_longer boxes b n box at) [
        | inl old ↦ dead n box old
        | inr (here, same) ↦ subst g.IsDead (sym same) new
      ]

  keeping_like : (s : S) (a b : B) (c d : Config S B) → g.Keeps s a → g.Keeps s b → AreLike g Alike c d → AreLike g Alike (keeping a c) (keeping b d)
  keeping_like s a b c d keep other like = record {
    nodes = like.nodes;
    over = like.over;
    full = like.full;
    boxes = pairs_push Alike c.boxes d.boxes a b like.boxes (one.kept s a b keep other);
    dead = dead_more c.boxes a like.dead (one.keeps s a keep).0;
    dead_too = dead_more d.boxes b like.dead_too (one.keeps s b other).0;
  }

  first_dead : (boxes : List B) (s : S) (b : ℕ) → AreDead g Alike boxes → IsFirstIn g boxes s b → IsDeadState g s
  first_dead boxes s b dead first = (first.box, dead b first.box first.there, first.contains)

  own_dead : (s : S) (b : B) → g.Keeps s b → IsDeadState g s
  own_dead s b keep = let k = one.keeps s b keep in (b, k.0, k.1)

  yes_no : (s : S) → g.goal s ≡ Yes → g.goal s ≡ No → ⊥
  yes_no s a b = let bad : Yes ≡ No = sym a ∙ b in cc

  yes_over : (s : S) → g.goal s ≡ Yes → g.goal s ≡ Overflow → ⊥
  yes_over s a b = let bad : Yes ≡ Overflow = sym a ∙ b in cc

  no_over : (s : S) → g.goal s ≡ No → g.goal s ≡ Overflow → ⊥
  no_over s a b = let bad : No ≡ Overflow = sym a ∙ b in cc

  module _ (s : S) (parent via : ℕ) (c d c' d' : Config S B) (like : AreLike g Alike c d) where
    pub entered_like : Enters g s parent via c c' → Enters g s parent via d d' → AreLike g Alike c' d'
    entered_like (no_room full is) (no_room full' is') = rw (is, is') (marked_like States c d like)
    entered_like (no_room full is) (in_kept b' room' first' is') = absurd (omega (arith, ap length like.nodes))
    entered_like (no_room full is) (no_box room' out' dead' full' is') = absurd (omega (arith, ap length like.nodes))
    entered_like (no_room full is) (in_own b' room' out' keep' box_room' is') = absurd (omega (arith, ap length like.nodes))
    entered_like (no_room full is) (reaches room' goal' is') = absurd (omega (arith, ap length like.nodes))
    entered_like (no_room full is) (waits h' room' live' estimate' misses' is') = absurd (omega (arith, ap length like.nodes))
    entered_like (no_room full is) (waits_over h' room' live' estimate' unsure' is') = absurd (omega (arith, ap length like.nodes))
    entered_like (in_kept b room first is) (no_room full' is') = absurd (omega (arith, ap length like.nodes))
    entered_like (in_kept b room first is) (in_kept b' room' first' is') = rw (is, is') (added_like s parent via (Dead b) (Dead b') c d (ap Dead (first_same g Alike one.there one.back c.boxes d.boxes s b b' like.boxes first first')) like)
    entered_like (in_kept b room first is) (no_box room' out' dead' full' is') = absurd (first_none g Alike one.there one.back c.boxes d.boxes s b like.boxes first out')
    entered_like (in_kept b room first is) (in_own b' room' out' keep' box_room' is') = absurd (first_none g Alike one.there one.back c.boxes d.boxes s b like.boxes first out')
    entered_like (in_kept b room first is) (reaches room' goal' is') = absurd (one.goal_live s goal' (first_dead c.boxes s b like.dead first))
    entered_like (in_kept b room first is) (waits h' room' live' estimate' misses' is') = absurd (live' (first_dead c.boxes s b like.dead first))
    entered_like (in_kept b room first is) (waits_over h' room' live' estimate' unsure' is') = absurd (live' (first_dead c.boxes s b like.dead first))
    entered_like (no_box room out dead full is) (no_room full' is') = absurd (omega (arith, ap length like.nodes))
    entered_like (no_box room out dead full is) (in_kept b' room' first' is') = absurd (none_first g Alike one.there one.back c.boxes d.boxes s b' like.boxes out first')
    entered_like (no_box room out dead full is) (no_box room' out' dead' full' is') = rw (is, is') (marked_like Boxes c d like)
    entered_like (no_box room out dead full is) (in_own b' room' out' keep' box_room' is') = absurd (omega (arith, pairs_length Alike c.boxes d.boxes like.boxes))
    entered_like (no_box room out dead full is) (reaches room' goal' is') = absurd (one.goal_live s goal' dead)
    entered_like (no_box room out dead full is) (waits h' room' live' estimate' misses' is') = absurd (live' dead)
    entered_like (no_box room out dead full is) (waits_over h' room' live' estimate' unsure' is') = absurd (live' dead)
    entered_like (in_own b room out keep box_room is) (no_room full' is') = absurd (omega (arith, ap length like.nodes))
    entered_like (in_own b room out keep box_room is) (in_kept b' room' first' is') = absurd (none_first g Alike one.there one.back c.boxes d.boxes s b' like.boxes out first')
    entered_like (in_own b room out keep box_room is) (no_box room' out' dead' full' is') = absurd (omega (arith, pairs_length Alike c.boxes d.boxes like.boxes))
    entered_like (in_own b room out keep box_room is) (in_own b' room' out' keep' box_room' is') = rw (is, is') (added_like s parent via (Dead (length c.boxes)) (Dead (length d.boxes)) (keeping b c) (keeping b' d) (ap Dead (pairs_length Alike c.boxes d.boxes like.boxes)) (keeping_like s b b' c d keep keep' like))
    entered_like (in_own b room out keep box_room is) (reaches room' goal' is') = absurd (one.goal_live s goal' (own_dead s b keep))
    entered_like (in_own b room out keep box_room is) (waits h' room' live' estimate' misses' is') = absurd (live' (own_dead s b keep))
    entered_like (in_own b room out keep box_room is) (waits_over h' room' live' estimate' unsure' is') = absurd (live' (own_dead s b keep))
    entered_like (reaches room goal is) (no_room full' is') = absurd (omega (arith, ap length like.nodes))
    entered_like (reaches room goal is) (in_kept b' room' first' is') = absurd (one.goal_live s goal (first_dead d.boxes s b' like.dead_too first'))
    entered_like (reaches room goal is) (no_box room' out' dead' full' is') = absurd (one.goal_live s goal dead')
    entered_like (reaches room goal is) (in_own b' room' out' keep' box_room' is') = absurd (one.goal_live s goal (own_dead s b' keep'))
    entered_like (reaches room goal is) (reaches room' goal' is') = rw (is, is') (added_like s parent via Goal Goal c d refl like)
    entered_like (reaches room goal is) (waits h' room' live' estimate' misses' is') = absurd (yes_no s goal misses')
    entered_like (reaches room goal is) (waits_over h' room' live' estimate' unsure' is') = absurd (yes_over s goal unsure')
    entered_like (waits h room live estimate misses is) (no_room full' is') = absurd (omega (arith, ap length like.nodes))
    entered_like (waits h room live estimate misses is) (in_kept b' room' first' is') = absurd (live (first_dead d.boxes s b' like.dead_too first'))
    entered_like (waits h room live estimate misses is) (no_box room' out' dead' full' is') = absurd (live dead')
    entered_like (waits h room live estimate misses is) (in_own b' room' out' keep' box_room' is') = absurd (live (own_dead s b' keep'))
    entered_like (waits h room live estimate misses is) (reaches room' goal' is') = absurd (yes_no s goal' misses)
    entered_like (waits h room live estimate misses is) (waits h' room' live' estimate' misses' is') = rw (is, is') (added_like s parent via (Waiting h) (Waiting h') c d (ap Waiting (one.estimate s h h' estimate estimate')) like)
    entered_like (waits h room live estimate misses is) (waits_over h' room' live' estimate' unsure' is') = absurd (no_over s misses unsure')
    entered_like (waits_over h room live estimate unsure is) (no_room full' is') = absurd (omega (arith, ap length like.nodes))
    entered_like (waits_over h room live estimate unsure is) (in_kept b' room' first' is') = absurd (live (first_dead d.boxes s b' like.dead_too first'))
    entered_like (waits_over h room live estimate unsure is) (no_box room' out' dead' full' is') = absurd (live dead')
    entered_like (waits_over h room live estimate unsure is) (in_own b' room' out' keep' box_room' is') = absurd (live (own_dead s b' keep'))
    entered_like (waits_over h room live estimate unsure is) (reaches room' goal' is') = absurd (yes_over s goal' unsure)
    entered_like (waits_over h room live estimate unsure is) (waits h' room' live' estimate' misses' is') = absurd (no_over s misses' unsure)
    entered_like (waits_over h room live estimate unsure is) (waits_over h' room' live' estimate' unsure' is') = rw (is, is') (noted_like (length c.nodes) (length d.nodes) site.Goal (added s parent via (Waiting h) c) (added s parent via (Waiting h') d) (ap length like.nodes) (added_like s parent via (Waiting h) (Waiting h') c d (ap Waiting (one.estimate s h h' estimate estimate')) like))
