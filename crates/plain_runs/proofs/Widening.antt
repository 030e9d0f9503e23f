-- A plain run is a run where more boxes may be kept.
use Rattle.std.proofs.Common.{ℕ, zero, suc, List, inl, inr}
use Rattle.plain_runs.specs.Alike.{keeping_by}
use Rattle.search_runs.specs.Nodes.{Config, changed, nothing}
use Rattle.search_runs.specs.PlainRuns as plain
use Rattle.search_runs.specs.PlainRuns.{PlainRun}
use Rattle.search_runs.specs.Runs.{Enters, no_room, in_kept, no_box, in_own, reaches, waits, waits_over, Meets, Gives, Leads, Run, starts, goes_on}
use Rattle.search_runs.specs.Spaces.{Space, Stepped, Blocked, Over, Next}
use Rattle.search_runs.specs.declared.events.Event.{Event}
use Rattle.search_runs.specs.declared.events.Event.TheVariants.{Start, Take, Give, Starve}
use Rattle.search_runs.specs.declared.nodes.Status.TheVariants.{Closed}

module _ {S B : Type 0} (g : Space S B) (Keeps : S → B → Type 0) (more : (s : S) (b : B) → g.Keeps s b → Keeps s b) where
  enters_more : (s : S) (parent via : ℕ) (c d : Config S B) → Enters g s parent via c d → Enters (keeping_by Keeps g) s parent via c d
  enters_more s parent via c d (no_room full is) = no_room full is
  enters_more s parent via c d (in_kept b room first is) = in_kept b room first is
  enters_more s parent via c d (no_box room none dead full is) = no_box room none dead full is
  enters_more s parent via c d (in_own b room none keeps box_room is) = in_own b room none (more s b keeps) box_room is
  enters_more s parent via c d (reaches room goal is) = reaches room goal is
  enters_more s parent via c d (waits h room live estimate not_goal is) = waits h room live estimate not_goal is
  enters_more s parent via c d (waits_over h room live estimate unsure is) = waits_over h room live estimate unsure is

  meets_more : (n a : ℕ) (step : Stepped S) (c d : Config S B) → Meets g n a step c d → Meets (keeping_by Keeps g) n a step c d
  meets_more n a Blocked c d is = is
  meets_more n a Over c d is = is
  meets_more n a (Next s) c d (inl known) = inl known
  meets_more n a (Next s) c d (inr (new, enters)) = inr (new, enters_more s n a c d enters)

  gives_more : (left n : ℕ) (s : S) (a : ℕ) (c d : Config S B) → Gives g n s a left c d → Gives (keeping_by Keeps g) n s a left c d
  gives_more zero n s a c d is = is
  gives_more (suc left) n s a c d (mid, meet, rest) = (mid, meets_more n a (g.step a s) c mid meet, gives_more left n s (suc a) mid d rest)

  leads_more : (j : List Event) (c : Config S B) (e : Event) (d : Config S B) → Leads g j c e d → Leads (keeping_by Keeps g) j c e d
  leads_more j c Start d is = absurd is
  leads_more j c (Take w n) d is = is
  leads_more j c (Give w n) d is = record {
    node = is.node;
    there = is.there;
    taken = is.taken;
    after = gives_more g.actions n is.node.state 0 (changed n Closed c) d is.after;
  }
  leads_more j c (Starve w) d is = is

  pub plain_is_run : (j : List Event) (c : Config S B) → PlainRun g j c → Run (keeping_by Keeps g) j c
  plain_is_run _ _ (plain.starts c enters) = starts c (enters_more g.initial 0 0 nothing c enters)
  plain_is_run _ _ (plain.goes_on j c e d run none alone leads) = goes_on j c e d (plain_is_run j c run) (leads_more j c e d leads)
