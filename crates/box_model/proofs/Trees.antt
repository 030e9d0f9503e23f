-- Conditions of several members.
use Rattle.std.proofs.Common.{◌≡◌, ◌∙◌, ℕ, List}
use Rattle.std.specs.List.{list_all, list_any}
use Rattle.ground_task.proofs.Trees.{fold-And, fold-Or, list_all-map, list_any-map}
use Rattle.ground_task.specs.declared.raw.GCond.{GCond}
use Rattle.ground_task.specs.declared.raw.GCond.TheVariants as c
use Rattle.ground_task.specs.Placed.{few_places_layer, has_few_places}
use Rattle.box_model.specs.Hold.{may_hold, may_hold_layer}
use Rattle.box_model.specs.declared.state_box.StateBox.{StateBox}

pub may_hold-And : (places : List ℕ) (b : StateBox) (cs : List GCond) → may_hold places b (c.And cs) ≡ list_all (may_hold places b) cs
may_hold-And places b cs = fold-And (may_hold_layer places b) cs ∙ list_all-map (may_hold places b) cs

pub may_hold-Or : (places : List ℕ) (b : StateBox) (cs : List GCond) → may_hold places b (c.Or cs) ≡ list_any (may_hold places b) cs
may_hold-Or places b cs = fold-Or (may_hold_layer places b) cs ∙ list_any-map (may_hold places b) cs

pub has_few_places-And : (places : List ℕ) (cs : List GCond) → has_few_places places (c.And cs) ≡ list_all (has_few_places places) cs
has_few_places-And places cs = fold-And (few_places_layer places) cs ∙ list_all-map (has_few_places places) cs

pub has_few_places-Or : (places : List ℕ) (cs : List GCond) → has_few_places places (c.Or cs) ≡ list_all (has_few_places places) cs
has_few_places-Or places cs = fold-Or (few_places_layer places) cs ∙ list_all-map (has_few_places places) cs
