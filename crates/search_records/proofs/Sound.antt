-- What holds of each legal record.
use Rattle.std.proofs.Common.{◌≡◌, ◌<◌, ◌≤◌, ℕ, List, length, All, Option, Some, None, IfSome, slice_index_or, refl, sym, subst, arith}
use Rattle.std.proofs.lemmas.Option.{slice_get-get_or}
use Rattle.ground_task.specs.Placed.{IsPlaced}
use Rattle.ground_task.specs.States.{StateValue}
use Rattle.ground_task.specs.Tasks.{IsStateOf, TaskValue}
use Rattle.box_model.specs.Boxes.{IsBoxOf}
use Rattle.box_model.specs.declared.state_box.StateBox.{StateBox}
use Rattle.explored.specs.declared.classes.Most.{Most}
use Rattle.search_runs.proofs.Holds.{Holds, IsSite, Laws}
use Rattle.search_runs.proofs.Places.{at_within}
use Rattle.search_runs.proofs.Whole.{runs_hold}
use Rattle.search_runs.specs.Spaces.{IsAt, Space}
use Rattle.search_runs.specs.declared.answers.Site.{Site}
use Rattle.search_runs.specs.declared.answers.Site.TheVariants as site
use Rattle.search_records.proofs.Meaning.{laws_at}
use Rattle.search_records.specs.Records.{IsKnownSite, IsLegalWithin, IsSound, config_of}
use Rattle.search_records.specs.Spaces.{space_of}
use Rattle.search_records.specs.declared.record.Record.{Record}

-- what holds at each place holds of each item
pub all_at : {X : Type 0} (P : X → Type 0) (xs : List X) → ((n : ℕ) (x : X) → IsAt xs n x → P x) → All P xs
all_at P xs holds = λ k d within. holds k (slice_index_or xs k d) (slice_get-get_or xs k d within)

module _ (most : Most) (room : 0 < most.states) (box_room : 0 < most.boxes) (few : most.states ≤ 1000000000) (few_boxes : most.boxes ≤ 1000000000) (t : TaskValue) (limit workers : ℕ) (placed : IsPlaced t.raw t.places) where
  abbrev space : Space StateValue StateBox
  space = space_of t limit workers most

  laws : Laws space
  laws = laws_at most room box_room t limit workers placed

  -- of a task by this name
  module _ (r : Record) (is : IsLegalWithin most t limit workers r) where
    holds : Holds space r.journal (config_of r) None
    holds = runs_hold space laws r.journal (config_of r) is.run

    site_known : (n : ℕ) (p : Site) → IsSite space r.nodes n p → IsKnownSite r n p
    site_known n site.Goal there = at_within r.nodes n there.0 there.1
    site_known n (site.Action a) there =
        (at_within r.nodes n there.0 there.1, subst (λ (k : TaskValue). a < length k.raw.actions) (sym is.task_is) there.3)

    known : (o : Option (ℕ × Site)) → r.over ≡ o → IfSome o (λ p. IsKnownSite r p.0 p.1)
    known None e = tt
    known (Some p) e = site_known p.0 p.1 (holds.noted.site p.0 p.1 e)

    pub sound : IsSound r
    sound = record {
      few_nodes = omega (arith, holds.counted.states, few);
      few_boxes = omega (arith, holds.counted.boxes, few_boxes);
      boxes = subst (λ (k : TaskValue). All (IsBoxOf k) r.boxes) (sym is.task_is) (all_at (IsBoxOf t) r.boxes (λ b box at. (holds.classed.dead b box at).a_box));
      states = subst (λ (k : TaskValue). All (λ x. IsStateOf k x.state) r.nodes) (sym is.task_is) (all_at (λ x. IsStateOf t x.state) r.nodes (λ n x at. holds.tree.states n x at));
      parents = λ n x some at. (holds.tree.parents n x some at).below;
      actions = λ n x some at. subst (λ (k : TaskValue). x.via < length k.raw.actions) (sym is.task_is) (laws.known x.via _ _ (holds.tree.parents n x some at).leads);
      site = known r.over refl;
    }
