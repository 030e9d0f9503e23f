-- The top conjuncts of a condition: what they inherit of it.
use Rattle.std.proofs.Common.{◌≡◌, ℕ, Bool, true, List, [], ◌∷◌, map, length, All, refl, sym, ◌∙◌}
use Rattle.std.specs.List.{list_all}
use Rattle.std.proofs.lemmas.Bool.{and_from}
use Rattle.ground_task.specs.declared.raw.GCond.{GCond, GCond-F, fold_out-GCond, map-GCond, out-GCond}
use Rattle.ground_task.specs.declared.raw.GCond.TheOpen as cond
use Rattle.ground_task.specs.Inside.{IsDecidable}
use Rattle.ground_task.specs.Meaning.{fact_value, fluent_value, holds, holds_layer}
use Rattle.ground_task.specs.Placed.{few_places_layer, has_few_places}
use Rattle.ground_task.specs.Ranged.{conjuncts_layer, literal_layer, literals_true, top_conjuncts}
use Rattle.ground_task.specs.States.{StateValue}
use Rattle.ground_task.specs.Tasks.{TaskValue}
use Rattle.ground_task.specs.Valid.{is_known_condition, known_condition_layer}
use Rattle.ground_task.proofs.Evaluable.{each_member}
use Rattle.ground_task.proofs.Ranges.{both_true, true_both}
use Rattle.ground_task.proofs.Trees.{list_all-map}

-- a test that an `and` passes where its members do
pub conjuncts_pass : (layer : GCond-F Bool → Bool) (f : GCond → Bool) → ((c : GCond) → f c ≡ layer (map-GCond GCond Bool f (out-GCond c))) → ((vs : List Bool) → layer (cond.And vs) ≡ list_all (λ v. v) vs) → (c : GCond) → f c ≡ true → list_all f (top_conjuncts c) ≡ true
conjuncts_pass layer f here conj c h =
    let one : list_all f (c ∷ []) ≡ true = and_from (f c) true h refl in
    let at : (o : GCond-F GCond) → layer (map-GCond GCond Bool f o) ≡ true → list_all f (conjuncts_layer c o) ≡ true =
    λ (o : GCond-F GCond). elim o as (λ o. layer (map-GCond GCond Bool f o) ≡ true → list_all f (conjuncts_layer c o) ≡ true) [
      | cond.True ↦ λ k. one
      | cond.False ↦ λ k. one
      | cond.Fact g truth ↦ λ k. one
      | cond.Cmp r a b ↦ λ k. one
      | cond.And cs ↦ λ k. sym (list_all-map f cs) ∙ sym (conj (map f cs)) ∙ k
      | cond.Or cs ↦ λ k. one
    ] in
    at (out-GCond c) (sym (here c) ∙ h)

-- the top conjuncts of what can be decided can be decided
pub decidable_conjuncts : (t : TaskValue) (c : GCond) → IsDecidable t c → All (IsDecidable t) (top_conjuncts c)
decidable_conjuncts t c h =
    each_member t (top_conjuncts c)
    (conjuncts_pass (known_condition_layer (length t.raw.facts) (length t.raw.fluents)) (is_known_condition (length t.raw.facts) (length t.raw.fluents)) (fold_out-GCond Bool (known_condition_layer (length t.raw.facts) (length t.raw.fluents))) (λ vs. refl) c h.known)
    (conjuncts_pass (few_places_layer t.places) (has_few_places t.places) (fold_out-GCond Bool (few_places_layer t.places)) (λ vs. refl) c h.few)

module _ (places : List ℕ) (s : StateValue) where
  layer : GCond-F Bool → Bool
  layer = holds_layer (fact_value s) (fluent_value places s)

  true_literal : (d : GCond) → holds places s d ≡ true → literal_layer s (out-GCond d) ≡ true
  unfolding layer
  true_literal d h =
      let at : (o : GCond-F GCond) → layer (map-GCond GCond Bool (holds places s) o) ≡ true → literal_layer s o ≡ true =
      λ (o : GCond-F GCond). elim o as (λ o. layer (map-GCond GCond Bool (holds places s) o) ≡ true → literal_layer s o ≡ true) [
        | cond.True ↦ λ k. refl
        | cond.False ↦ λ k. refl
        | cond.Fact g truth ↦ λ k. k
        | cond.Cmp r a b ↦ λ k. refl
        | cond.And cs ↦ λ k. refl
        | cond.Or cs ↦ λ k. refl
      ] in
      at (out-GCond d) (sym (fold_out-GCond Bool layer d) ∙ h)

  each_literal : (cs : List GCond) → list_all (holds places s) cs ≡ true → list_all (λ d. literal_layer s (out-GCond d)) cs ≡ true
  each_literal [] h = refl
  each_literal (d ∷ cs) h =
      let parts = both_true (holds places s d) (list_all (holds places s) cs) h in
      true_both (literal_layer s (out-GCond d)) (list_all (λ d. literal_layer s (out-GCond d)) cs) (true_literal d parts.0) (each_literal cs parts.1)

  -- a condition that holds has true literals
  pub literals_of_truth : (c : GCond) → holds places s c ≡ true → literals_true s c ≡ true
  unfolding literals_true layer
  literals_of_truth c h = each_literal (top_conjuncts c) (conjuncts_pass layer (holds places s) (fold_out-GCond Bool layer) (λ vs. refl) c h)
