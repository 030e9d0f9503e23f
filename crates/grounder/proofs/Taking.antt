-- Outcomes taken one after another.
use Rattle.std.proofs.Common.{◌≡◌, ◌<◌, ◌≤◌, ◌+◌, ◌++◌, ℕ, zero, suc, Bool, List, [], ◌∷◌, Some, map, length, take, drop, slice_get, slice_index_or, refl, sym, ap, subst, ◌∙◌, inl, inr, arith, append_assoc, le-leb}
use Rattle.std.specs.Prelude.{filter_map, flat_map, if◌then◌else◌}
use Rattle.std.proofs.lemmas.Bool.{lt-leb}
use Rattle.std.proofs.lemmas.List.{append-nil, length-append, map-append}
use Rattle.std.proofs.lemmas.List.Elements.{filter_map-append}
use Rattle.pddl_terms.specs.declared.limits.What.TheVariants as what
use Rattle.pddl_terms.specs.declared.limits.TheConstants.{MAX_ACTIONS, MAX_PREFIXES}
use Rattle.pddl_terms.specs.declared.actions.Schema.{Schema}
use Rattle.pddl_types.specs.declared.pairs.Pair.{Pair}
use Rattle.pddl_types.specs.Pairs.{objects_of}
use Rattle.pddl_types.specs.WellFormed.{Each, Stands}
use Rattle.static_facts.specs.Bindings.{bindings, prefix_count}
use Rattle.ground_task.specs.declared.raw.Ground.{Ground}
use Rattle.coded_actions.specs.declared.coded.CodedAction.{CodedAction}
use Rattle.coded_actions.specs.Coded.{action_of}
use Rattle.ground_meaning.specs.declared.faults.GroundFault.{GroundFault}
use Rattle.ground_meaning.specs.declared.faults.GroundFault.TheVariants as fault
use Rattle.ground_meaning.specs.Outcomes.{Outcome, first_refused, kept, kept_in, outcome, outcomes, schema_outcomes}
use Rattle.ground_meaning.specs.Outcomes.Outcome.{Dropped, Kept, Refused}
use Rattle.ground_meaning.proofs.KeptSources.{binding_known}
use Rattle.folding.specs.Folding.{IsRefusedBy}
use Rattle.grounder.specs.internal.Taken.{AreKept, IsBindingFault, IsStopped, IsTaken, actions_of}

-- ---- one outcome

pub none_taken : (xs : List CodedAction) → IsTaken [] xs xs
none_taken xs = record { kept_ones = sym (append-nil (actions_of xs)); none_refused = λ rest. refl }

pub dropped_taken : (o : Outcome) (xs : List CodedAction) → o ≡ Dropped → IsTaken (o ∷ []) xs xs
dropped_taken o xs is =
    subst (λ (u : Outcome). IsTaken (u ∷ []) xs xs) (sym is) (record { kept_ones = sym (append-nil (actions_of xs)); none_refused = λ rest. refl })

pub one_taken : (a : CodedAction) (xs ys : List CodedAction) → length xs < MAX_ACTIONS → ys ≡ xs ++ a ∷ [] → IsTaken (Kept (action_of a) ∷ []) xs ys
one_taken a xs ys few is =
    let many : length ys ≡ suc (length xs) = let joined = length-append xs (a ∷ []) in let same = ap (length {A = CodedAction}) is in omega (arith, joined, same) in
    record {
      kept_ones = ap actions_of is ∙ map-append action_of xs (a ∷ []);
      none_refused = λ rest.
          ap (λ (b : Bool). if b then Some (fault.TooMany what.Actions MAX_ACTIONS) else first_refused (suc (length xs)) rest) (lt-leb MAX_ACTIONS (length xs) few)
          ∙ ap (λ (n : ℕ). first_refused n rest) (sym many);
    }

pub one_too_many : (g : Ground) (xs : List CodedAction) → MAX_ACTIONS ≤ length xs → IsStopped (Kept g ∷ []) xs (fault.TooMany what.Actions MAX_ACTIONS)
one_too_many g xs many =
    IsStopped.refused (fault.TooMany what.Actions MAX_ACTIONS)
    (λ rest. ap (λ (b : Bool). if b then Some (fault.TooMany what.Actions MAX_ACTIONS) else first_refused (suc (length xs)) rest) (le-leb MAX_ACTIONS (length xs) many))

pub kept_taken : (o : Outcome) (a : CodedAction) (xs ys : List CodedAction) → o ≡ Kept (action_of a) → IsTaken (Kept (action_of a) ∷ []) xs ys → IsTaken (o ∷ []) xs ys
kept_taken o a xs ys is taken = subst (λ (u : Outcome). IsTaken (u ∷ []) xs ys) (sym is) taken

pub kept_stopped : (o : Outcome) (a : CodedAction) (xs : List CodedAction) (f : GroundFault) → o ≡ Kept (action_of a) → IsStopped (Kept (action_of a) ∷ []) xs f
    → IsStopped (o ∷ []) xs f
kept_stopped o a xs f is stopped = subst (λ (u : Outcome). IsStopped (u ∷ []) xs f) (sym is) stopped

refused_at_once : (o : Outcome) (xs : List CodedAction) (f : GroundFault) → o ≡ Refused f → IsStopped (o ∷ []) xs f
refused_at_once o xs f is = subst (λ (u : Outcome). IsStopped (u ∷ []) xs f) (sym is) (IsStopped.refused f (λ rest. refl))

pub refused_stopped : (o : Outcome) (xs : List CodedAction) (f : GroundFault) → IsRefusedBy o f → IsStopped (o ∷ []) xs f
refused_stopped o xs (fault.Unset text) is = refused_at_once o xs (fault.Unset text) is
refused_stopped o xs (fault.Divide at place) is = refused_at_once o xs (fault.Divide at place) is
refused_stopped o xs (fault.Places text) is = refused_at_once o xs (fault.Places text) is
refused_stopped o xs (fault.Range text) is = refused_at_once o xs (fault.Range text) is
refused_stopped o xs (fault.TooMany kind limit) is = refused_at_once o xs (fault.TooMany kind limit) is
refused_stopped o xs fault.NoMemory is = IsStopped.by_memory

pub memory_stopped : (os : List Outcome) (xs : List CodedAction) → IsStopped os xs fault.NoMemory
memory_stopped os xs = IsStopped.by_memory

-- ---- one list of outcomes after another

joined_taken : (os ps : List Outcome) (xs ys zs : List CodedAction) → IsTaken os xs ys → IsTaken ps ys zs → IsTaken (os ++ ps) xs zs
joined_taken os ps xs ys zs first second = record {
  kept_ones = second.kept_ones ∙ ap (λ (gs : List Ground). gs ++ filter_map kept_in ps) first.kept_ones ∙ append_assoc (actions_of xs) (filter_map kept_in os) (filter_map kept_in ps)
      ∙ ap (λ (gs : List Ground). actions_of xs ++ gs) (sym (filter_map-append kept_in os ps));
  none_refused = λ rest. ap (first_refused (length xs)) (append_assoc os ps rest) ∙ first.none_refused (ps ++ rest) ∙ second.none_refused rest;
}

stopped_before : (os ps : List Outcome) (xs : List CodedAction) (f : GroundFault) → IsStopped os xs f → IsStopped (os ++ ps) xs f
stopped_before os ps xs f (IsStopped.refused g h) = IsStopped.refused f (λ rest. ap (first_refused (length xs)) (append_assoc os ps rest) ∙ h (ps ++ rest))
stopped_before os ps xs f IsStopped.by_memory = IsStopped.by_memory

stopped_after : (os ps : List Outcome) (xs ys : List CodedAction) (f : GroundFault) → IsTaken os xs ys → IsStopped ps ys f → IsStopped (os ++ ps) xs f
stopped_after os ps xs ys f first (IsStopped.refused g h) =
    IsStopped.refused f (λ rest. ap (first_refused (length xs)) (append_assoc os ps rest) ∙ first.none_refused (ps ++ rest) ∙ h rest)
stopped_after os ps xs ys f first IsStopped.by_memory = IsStopped.by_memory

-- ---- the outcomes of a list of things, of each some

module _ {A : Type 0} (g : A → List Outcome) where
  up_to : (items : List A) (i : ℕ) (x : A) → slice_get items i ≡ Some x → flat_map g (take (suc i) items) ≡ flat_map g (take i items) ++ g x
  up_to [] i x h = cc
  up_to (y ∷ items) zero x h = let same : y ≡ x = cc in first items ∙ ap g same
    where
      first : (l : List A) → g y ++ flat_map g (take 0 l) ≡ g y
      first [] = append-nil (g y)
      first (z ∷ l) = append-nil (g y)
  up_to (y ∷ items) (suc i) x h = ap (λ (os : List Outcome). g y ++ os) (up_to items i x h) ∙ sym (append_assoc (g y) (flat_map g (take i items)) (g x))

  with_rest : (items : List A) (i : ℕ) → flat_map g items ≡ flat_map g (take i items) ++ flat_map g (drop i items)
  with_rest items zero = whole items
    where
      whole : (l : List A) → flat_map g l ≡ flat_map g (take 0 l) ++ flat_map g l
      whole [] = refl
      whole (z ∷ l) = refl
  with_rest [] (suc i) = refl
  with_rest (y ∷ items) (suc i) = ap (λ (os : List Outcome). g y ++ os) (with_rest items i) ∙ sym (append_assoc (g y) (flat_map g (take i items)) (flat_map g (drop i items)))

  taken_next : (items : List A) (i : ℕ) (x : A) (xs ys zs : List CodedAction) → slice_get items i ≡ Some x → IsTaken (flat_map g (take i items)) xs ys
      → IsTaken (g x) ys zs → IsTaken (flat_map g (take (i + 1) items)) xs zs
  taken_next items i x xs ys zs h first second =
      let more : i + 1 ≡ suc i = omega arith in
      subst (λ (os : List Outcome). IsTaken os xs zs) (sym (ap (λ (n : ℕ). flat_map g (take n items)) more ∙ up_to items i x h))
      (joined_taken (flat_map g (take i items)) (g x) xs ys zs first second)

  stopped_within : (items : List A) (i : ℕ) (x : A) (xs ys : List CodedAction) (f : GroundFault) → slice_get items i ≡ Some x → IsTaken (flat_map g (take i items)) xs ys
      → IsStopped (g x) ys f → IsStopped (flat_map g items) xs f
  stopped_within items i x xs ys f h first second =
      let there = subst (λ (os : List Outcome). IsStopped os xs f) (sym (up_to items i x h)) (stopped_after (flat_map g (take i items)) (g x) xs ys f first second) in
      subst (λ (os : List Outcome). IsStopped os xs f) (sym (with_rest items (suc i)))
      (stopped_before (flat_map g (take (suc i) items)) (flat_map g (drop (suc i) items)) xs f there)

all_of : {A : Type 0} (items : List A) (i : ℕ) → length items ≤ i → take i items ≡ items
all_of [] zero h = refl
all_of [] (suc i) h = refl
all_of (x ∷ items) zero h = absurd (omega (arith, h))
all_of (x ∷ items) (suc i) h = ap (λ (l : List _). x ∷ l) (all_of items i (omega (arith, h)))

-- ---- the bindings of an action

module _ (p : Pair) (s : Schema) where
  abbrev single : List ℕ → List Outcome
  single os = outcome p s os ∷ []

  as_singles : (rows : List (List ℕ)) → map (outcome p s) rows ≡ flat_map single rows
  as_singles [] = refl
  as_singles (os ∷ rows) = ap (λ (l : List Outcome). outcome p s os ∷ l) (as_singles rows)

  pub row_next : (rows : List (List ℕ)) (i : ℕ) (os : List ℕ) (xs ys zs : List CodedAction) → slice_get rows i ≡ Some os
      → IsTaken (map (outcome p s) (take i rows)) xs ys → IsTaken (outcome p s os ∷ []) ys zs → IsTaken (map (outcome p s) (take (i + 1) rows)) xs zs
  row_next rows i os xs ys zs h first second =
      subst (λ (l : List Outcome). IsTaken l xs zs) (sym (as_singles (take (i + 1) rows)))
      (taken_next single rows i os xs ys zs h (subst (λ (l : List Outcome). IsTaken l xs ys) (as_singles (take i rows)) first) second)

  pub row_stopped : (rows : List (List ℕ)) (i : ℕ) (os : List ℕ) (xs ys : List CodedAction) (f : GroundFault) → slice_get rows i ≡ Some os
      → IsTaken (map (outcome p s) (take i rows)) xs ys → IsStopped (outcome p s os ∷ []) ys f → IsStopped (map (outcome p s) rows) xs f
  row_stopped rows i os xs ys f h first second =
      subst (λ (l : List Outcome). IsStopped l xs f) (sym (as_singles rows))
      (stopped_within single rows i os xs ys f h (subst (λ (l : List Outcome). IsTaken l xs ys) (as_singles (take i rows)) first) second)

  pub rows_taken : (rows : List (List ℕ)) (i : ℕ) (xs ys : List CodedAction) → length rows ≤ i → IsTaken (map (outcome p s) (take i rows)) xs ys
      → IsTaken (map (outcome p s) rows) xs ys
  rows_taken rows i xs ys whole taken = subst (λ (l : List (List ℕ)). IsTaken (map (outcome p s) l) xs ys) (all_of rows i whole) taken

  found_stands : (rows : List (List ℕ)) (i : ℕ) (os : List ℕ) → slice_get rows i ≡ Some os → Stands os rows
  found_stands [] i os h = cc
  found_stands (qs ∷ rows) zero os h = let same : os ≡ qs = cc in inl same
  found_stands (qs ∷ rows) (suc i) os h = inr (found_stands rows i os h)

  -- each row has a known object for each parameter
  pub row_known : (rows : List (List ℕ)) (i : ℕ) (os : List ℕ) → rows ≡ bindings p s → slice_get rows i ≡ Some os → Each (λ o. o < length (objects_of p)) os
  row_known rows i os is h = (binding_known p s os (subst (λ (l : List (List ℕ)). Stands os l) is (found_stands rows i os h))).0

  pub row_fits : (rows : List (List ℕ)) (i : ℕ) (os : List ℕ) → rows ≡ bindings p s → slice_get rows i ≡ Some os → length os ≡ length s.params
  row_fits rows i os is h = (binding_known p s os (subst (λ (l : List (List ℕ)). Stands os l) is (found_stands rows i os h))).1

  few_outcomes : prefix_count p s ≤ MAX_PREFIXES → schema_outcomes p s ≡ map (outcome p s) (bindings p s)
  unfolding schema_outcomes
  few_outcomes few =
      ap (λ (b : Bool). if b then map (outcome p s) (bindings p s) else Refused (fault.TooMany what.Prefixes MAX_PREFIXES) ∷ []) (le-leb (prefix_count p s) MAX_PREFIXES few)

  pub bound_taken : (rows : List (List ℕ)) (xs ys : List CodedAction) → rows ≡ bindings p s → prefix_count p s ≤ MAX_PREFIXES → IsTaken (map (outcome p s) rows) xs ys
      → IsTaken (schema_outcomes p s) xs ys
  bound_taken rows xs ys is few taken =
      subst (λ (l : List Outcome). IsTaken l xs ys) (ap (map (outcome p s)) is ∙ sym (few_outcomes few)) taken

  pub bound_stopped : (rows : List (List ℕ)) (xs : List CodedAction) (f : GroundFault) → rows ≡ bindings p s → prefix_count p s ≤ MAX_PREFIXES
      → IsStopped (map (outcome p s) rows) xs f → IsStopped (schema_outcomes p s) xs f
  bound_stopped rows xs f is few stopped =
      subst (λ (l : List Outcome). IsStopped l xs f) (ap (map (outcome p s)) is ∙ sym (few_outcomes few)) stopped

  pub prefixes_stopped : (xs : List CodedAction) → MAX_PREFIXES < prefix_count p s → IsStopped (schema_outcomes p s) xs (fault.TooMany what.Prefixes MAX_PREFIXES)
  unfolding schema_outcomes
  prefixes_stopped xs many =
      let is = ap (λ (b : Bool). if b then map (outcome p s) (bindings p s) else Refused (fault.TooMany what.Prefixes MAX_PREFIXES) ∷ [])
      (lt-leb (prefix_count p s) MAX_PREFIXES many) in
      subst (λ (l : List Outcome). IsStopped l xs (fault.TooMany what.Prefixes MAX_PREFIXES)) (sym is)
      (refused_at_once (Refused (fault.TooMany what.Prefixes MAX_PREFIXES)) xs (fault.TooMany what.Prefixes MAX_PREFIXES) refl)

-- ---- all actions

module _ (p : Pair) where
  pub schema_next : (i : ℕ) (s : Schema) (xs ys zs : List CodedAction) → slice_get p.domain.schemas i ≡ Some s
      → IsTaken (flat_map (schema_outcomes p) (take i p.domain.schemas)) xs ys → IsTaken (schema_outcomes p s) ys zs
      → IsTaken (flat_map (schema_outcomes p) (take (i + 1) p.domain.schemas)) xs zs
  schema_next i s xs ys zs h first second = taken_next (schema_outcomes p) p.domain.schemas i s xs ys zs h first second

  pub schema_stopped : (i : ℕ) (s : Schema) (xs ys : List CodedAction) (f : GroundFault) → slice_get p.domain.schemas i ≡ Some s
      → IsTaken (flat_map (schema_outcomes p) (take i p.domain.schemas)) xs ys → IsStopped (schema_outcomes p s) ys f
      → IsStopped (flat_map (schema_outcomes p) p.domain.schemas) xs f
  schema_stopped i s xs ys f h first second = stopped_within (schema_outcomes p) p.domain.schemas i s xs ys f h first second

  pub schemas_taken : (i : ℕ) (xs ys : List CodedAction) → length p.domain.schemas ≤ i → IsTaken (flat_map (schema_outcomes p) (take i p.domain.schemas)) xs ys
      → IsTaken (flat_map (schema_outcomes p) p.domain.schemas) xs ys
  schemas_taken i xs ys whole taken = subst (λ (l : List Schema). IsTaken (flat_map (schema_outcomes p) l) xs ys) (all_of p.domain.schemas i whole) taken

  -- after all actions, from none kept
  pub all_taken : (xs ys : List CodedAction) → xs ≡ [] → IsTaken (flat_map (schema_outcomes p) p.domain.schemas) xs ys → AreKept p ys
  unfolding kept outcomes
  all_taken xs ys none taken =
      let all = subst (λ (l : List CodedAction). IsTaken (flat_map (schema_outcomes p) p.domain.schemas) l ys) none taken in
      record {
        kept_ones = all.kept_ones;
        none_refused = ap (first_refused 0) (sym (append-nil (flat_map (schema_outcomes p) p.domain.schemas))) ∙ all.none_refused [];
      }

  from_none : (f : GroundFault) → IsStopped (flat_map (schema_outcomes p) p.domain.schemas) [] f → IsBindingFault p f
  unfolding outcomes
  from_none f (IsStopped.refused g more) = IsBindingFault.refused f (ap (first_refused 0) (sym (append-nil (flat_map (schema_outcomes p) p.domain.schemas))) ∙ more [])
  from_none f IsStopped.by_memory = IsBindingFault.by_memory

  pub stopped_whole : (xs : List CodedAction) (f : GroundFault) → xs ≡ [] → IsStopped (flat_map (schema_outcomes p) p.domain.schemas) xs f → IsBindingFault p f
  stopped_whole xs f none stopped = from_none f (subst (λ (l : List CodedAction). IsStopped (flat_map (schema_outcomes p) p.domain.schemas) l f) none stopped)

-- the action with a number
pub schema_there : (schemas known : List Schema) (i : ℕ) (d : Schema) → schemas ≡ known → i < length known → slice_get known i ≡ Some (slice_index_or schemas i d)
schema_there schemas known i d same below = at known i below ∙ ap (λ (l : List Schema). Some (slice_index_or l i d)) (sym same)
  where
    at : (xs : List Schema) (n : ℕ) → n < length xs → slice_get xs n ≡ Some (slice_index_or xs n d)
    at [] n h = absurd (omega (arith, h))
    at (x ∷ xs) zero h = refl
    at (x ∷ xs) (suc n) h = at xs n (omega (arith, h))
