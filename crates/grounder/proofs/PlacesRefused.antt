-- The texts that refusals for places name.
use Rattle.std.proofs.Common.{◌≡◌, ◌∙◌, ℕ, zero, suc, List, [], ◌∷◌, map, refl, sym, ap, subst, slice_get, slice_index_or}
use Rattle.std.specs.Prelude.{codes}
use Rattle.std.specs.Option.{option_map_or}
use Rattle.pddl_types.specs.declared.pairs.Pair.{Pair}
use Rattle.static_facts.specs.Atoms.{text_of_atom}
use Rattle.ground_task.specs.declared.raw.Ground.{Ground}
use Rattle.ground_task.specs.declared.raw.RawTask.{RawTask}
use Rattle.coded_actions.specs.declared.coded.CodedAction.{CodedAction}
use Rattle.places.specs.declared.faults.PlacesFault.TheVariants as places_fault
use Rattle.places.specs.Least.{IsPlacesFault}
use Rattle.ground_meaning.specs.declared.faults.GroundFault.TheVariants as fault
use Rattle.grounder.specs.internal.Decoded.{fluent_of}
use Rattle.grounder.specs.internal.Made.{AreNamedBy, IsPlacesRefusal}

named_at : {A : Type 0} (name : A → List ℕ) (xs : List A) (n : ℕ) → option_map_or name (slice_get xs n) [] ≡ slice_index_or (map name xs) n []
named_at name [] n = refl
named_at name (x ∷ xs) zero = refl
named_at name (x ∷ xs) (suc n) = named_at name xs n

pub memory_refused : (raw : RawTask) → IsPlacesRefusal raw fault.NoMemory
memory_refused raw = IsPlacesRefusal.by_memory

module _ (p : Pair) (fluents : List ℕ) (actions : List CodedAction) (raw : RawTask) (named : AreNamedBy p fluents actions raw) where
  abbrev texts : List (List ℕ)
  texts = map (λ n. text_of_atom (fluent_of p n)) fluents

  same_fluent : (x : ℕ) (text : List ℕ) → text ≡ slice_index_or texts x [] → text ≡ slice_index_or raw.fluents x []
  same_fluent x text is = is ∙ ap (λ (l : List (List ℕ)). slice_index_or l x []) (sym named.fluent_texts)

  pub fluent_refused : (x : ℕ) (text : List ℕ) → text ≡ slice_index_or (map (λ n. text_of_atom (fluent_of p n)) fluents) x [] → IsPlacesFault raw (places_fault.Fluent x)
      → IsPlacesRefusal raw (fault.Places text)
  fluent_refused x text is h =
      subst (λ (l : List ℕ). IsPlacesRefusal raw (fault.Places l)) (sym (same_fluent x text is)) (IsPlacesRefusal.refused (places_fault.Fluent x) h)

  pub range_refused : (x : ℕ) (text : List ℕ) → text ≡ slice_index_or (map (λ n. text_of_atom (fluent_of p n)) fluents) x [] → IsPlacesFault raw (places_fault.Range x)
      → IsPlacesRefusal raw (fault.Range text)
  range_refused x text is h =
      subst (λ (l : List ℕ). IsPlacesRefusal raw (fault.Range l)) (sym (same_fluent x text is)) (IsPlacesRefusal.refused (places_fault.Range x) h)

  pub action_refused : (n : ℕ) (text : List ℕ) → text ≡ option_map_or (λ (a : CodedAction). a.name) (slice_get actions n) [] → IsPlacesFault raw (places_fault.Action n)
      → IsPlacesRefusal raw (fault.Places text)
  action_refused n text is h =
      let same = is ∙ named_at (λ (a : CodedAction). a.name) actions n ∙ ap (λ (l : List (List ℕ)). slice_index_or l n []) (sym named.action_texts)
      ∙ sym (named_at (λ (a : Ground). a.name) raw.actions n) in
      subst (λ (l : List ℕ). IsPlacesRefusal raw (fault.Places l)) (sym same) (IsPlacesRefusal.refused (places_fault.Action n) h)

  pub goal_refused : (text : List ℕ) → text ≡ codes "goal" → IsPlacesFault raw places_fault.Goal → IsPlacesRefusal raw (fault.Places text)
  goal_refused text is h =
      subst (λ (l : List ℕ). IsPlacesRefusal raw (fault.Places l)) (sym is) (IsPlacesRefusal.refused places_fault.Goal h)
