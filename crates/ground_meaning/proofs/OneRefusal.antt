-- A pair has at most one refusal apart from want of memory, and none where it has a task.
use Rattle.std.proofs.Common.{◌≡◌, ◌<◌, ◌≤◌, ◌⊎◌, ℕ, false, true, List, length, Some, None, Err, Ok, slice_get, slice_index_or, refl, sym, ap, subst, ◌∙◌, inl, inr, arith}
use Rattle.std.specs.Prelude.{All, IsTrue, codes}
use Rattle.std.proofs.lemmas.Bool.{cases_lt}
use Rattle.std.proofs.lemmas.Option.{same_Some}
use Rattle.pddl_terms.specs.declared.limits.What.TheVariants as what
use Rattle.pddl_terms.specs.declared.limits.TheConstants.{MAX_FACTS, MAX_FLUENTS, MAX_OBJECTS}
use Rattle.pddl_terms.specs.Readable.{IsReadable}
use Rattle.pddl_types.specs.declared.faults.Side.TheVariants as side
use Rattle.pddl_types.specs.declared.pairs.Pair.{Pair}
use Rattle.pddl_types.specs.Pairs.{objects_of}
use Rattle.static_facts.specs.Codes.{fact_code, fluent_code}
use Rattle.ground_task.specs.declared.raw.RawTask.{RawTask}
use Rattle.ground_task.specs.declared.raw.Ground.{Ground}
use Rattle.ground_task.specs.declared.faults.TaskFault.TheVariants as task_fault
use Rattle.ground_task.specs.Placed.{IsPlaced, IsPlacedAction, has_few_places}
use Rattle.ground_task.specs.Tasks.{TaskValue, AreFirstInRange, IsCause}
use Rattle.ground_task.proofs.StateNumbers.{found}
use Rattle.places.specs.declared.faults.PlacesFault.{PlacesFault}
use Rattle.places.specs.declared.faults.PlacesFault.TheVariants as places_fault
use Rattle.places.specs.Least.{IsDeepAction, IsDeepFluent, IsDeepGoal, IsLeastPlaces, IsPlacesFault}
use Rattle.ground_meaning.specs.declared.faults.GroundFault.{GroundFault}
use Rattle.ground_meaning.specs.declared.faults.GroundFault.TheVariants as fault
use Rattle.ground_meaning.specs.Expressions.{FoldFault}
use Rattle.ground_meaning.specs.Conditions.{Settled}
use Rattle.ground_meaning.specs.Outcomes.{first_refused, fold_refusal, outcomes}
use Rattle.ground_meaning.specs.Goals.{IsFolded, folded_goal, unset_in_goal}
use Rattle.ground_meaning.specs.Refusals.{IsGrounded, IsRefused, places_refusal}
use Rattle.ground_meaning.specs.Refusals.IsRefused.{by_binding, by_facts, by_fluents, by_folding, by_goal, by_memory, by_objects, by_places}
use Rattle.ground_meaning.specs.Tasks.{AreAllOf, IsFact, IsFluent, IsGroundTask, IsRelevant, IsTaskFact}
use Rattle.ground_meaning.proofs.OneTask.{one_fact_list, one_fluent_list, one_goal, one_places, one_raw}

-- ---- reasons, one before the others

-- where a first reason gives one answer, the later ones give one, and they don't go together, all give one
one_level : {A : Type 0} (X Y : A → Type 0) → ((f g : A) → X f → X g → f ≡ g) → ((f g : A) → Y f → Y g → f ≡ g) → ((f g : A) → X f → Y g → ⊥)
    → (f g : A) → X f ⊎ Y f → X g ⊎ Y g → f ≡ g
one_level X Y first later apart f g (inl x) (inl u) = first f g x u
one_level X Y first later apart f g (inl x) (inr v) = absurd (apart f g x v)
one_level X Y first later apart f g (inr y) (inl u) = absurd (apart g f u y)
one_level X Y first later apart f g (inr y) (inr v) = later f g y v

same_first : (x y : ℕ) → (x < y → ⊥) → (y < x → ⊥) → x ≡ y
same_first x y below above =
    elim (cases_lt x y) [
      | inl less ↦ absurd (below less)
      | inr more ↦ elim (cases_lt y x) [ inl less ↦ absurd (above less) | inr least ↦ omega (arith, more, least) ]
    ]

not_both : (a b : ℕ) → a < b → b ≤ a → ⊥
not_both a b less least = absurd (omega (arith, less, least))

all_index : (P : ℕ → Type 0) (xs : List ℕ) (n d : ℕ) → All P xs → n < length xs → P (slice_index_or xs n d)
all_index P xs n d all within = all n d within

-- ---- faults of places

module _ (raw : RawTask) (counts : List ℕ) (many : length counts ≡ length raw.fluents) where
  abbrev DeepFluent : PlacesFault → Type 0
  DeepFluent g = (x : ℕ) × IsDeepFluent raw counts x × (g ≡ places_fault.Fluent x)

  abbrev DeepAction : PlacesFault → Type 0
  DeepAction g = (number : ℕ) × IsDeepAction raw counts number × (g ≡ places_fault.Action number)

  abbrev DeepGoal : PlacesFault → Type 0
  DeepGoal g = (has_few_places counts raw.goal ≡ false) × (g ≡ places_fault.Goal)

  abbrev OutOfRange : PlacesFault → Type 0
  OutOfRange g = (has_few_places counts raw.goal ≡ true) × (x : ℕ) × IsCause raw counts (task_fault.Range x) × (g ≡ places_fault.Range x)

  abbrev AfterActions : PlacesFault → Type 0
  AfterActions g = ((number : ℕ) (a : Ground) → slice_get raw.actions number ≡ Some a → has_few_places counts a.pre ≡ true) × (DeepGoal g ⊎ OutOfRange g)

  abbrev AfterFluents : PlacesFault → Type 0
  AfterFluents g = All (λ p. p ≤ 9) counts × (DeepAction g ⊎ AfterActions g)

  one_range : (g h : PlacesFault) → OutOfRange g → OutOfRange h → g ≡ h
  one_range g h (few, x, a, e) (other, y, b, d) =
      let same = same_first x y (λ less. a.1 (b.2 x less)) (λ less. b.1 (a.2 y less)) in
      e ∙ ap (λ (n : ℕ). places_fault.Range n) same ∙ sym d

  one_after_actions : (g h : PlacesFault) → AfterActions g → AfterActions h → g ≡ h
  one_after_actions g h a b =
      one_level DeepGoal OutOfRange (λ f k x y. x.1 ∙ sym y.1) one_range (λ f k x y. let bad = sym x.0 ∙ y.0 in cc) g h a.1 b.1

  one_action : (g h : PlacesFault) → DeepAction g → DeepAction h → g ≡ h
  one_action g h (x, a, e) (y, b, d) =
      let same = same_first x y (λ less. let bad = sym a.deep ∙ b.first x a.action less a.is in cc) (λ less. let bad = sym b.deep ∙ a.first y b.action less b.is in cc) in
      e ∙ ap (λ (n : ℕ). places_fault.Action n) same ∙ sym d

  one_after_fluents : (g h : PlacesFault) → AfterFluents g → AfterFluents h → g ≡ h
  one_after_fluents g h a b =
      one_level DeepAction AfterActions one_action one_after_actions (λ f k x y. let bad = sym x.1.deep ∙ y.0 x.0 x.1.action x.1.is in cc) g h a.1 b.1

  one_fluent : (g h : PlacesFault) → DeepFluent g → DeepFluent h → g ≡ h
  one_fluent g h (x, a, e) (y, b, d) =
      let same = same_first x y (λ less. not_both 9 (slice_index_or counts x 0) a.deep (b.first x less)) (λ less. not_both 9 (slice_index_or counts y 0) b.deep (a.first y less)) in
      e ∙ ap (λ (n : ℕ). places_fault.Fluent n) same ∙ sym d

  few_fluent : (x : ℕ) → IsDeepFluent raw counts x → All (λ p. p ≤ 9) counts → ⊥
  few_fluent x a few = not_both 9 (slice_index_or counts x 0) a.deep (all_index (λ p. p ≤ 9) counts x 0 few (omega (arith, a.known, many)))

  one_on_counts : (g h : PlacesFault) → DeepFluent g ⊎ AfterFluents g → DeepFluent h ⊎ AfterFluents h → g ≡ h
  one_on_counts = one_level DeepFluent AfterFluents one_fluent one_after_fluents (λ f k x y. few_fluent x.0 x.1 y.0)

least_of : (raw : RawTask) (g : PlacesFault) → IsPlacesFault raw g → (g ≡ places_fault.NoMemory → ⊥) → (counts : List ℕ) × IsLeastPlaces raw counts
least_of raw (places_fault.Fluent x) h real = (h.0, h.1)
least_of raw (places_fault.Action number) h real = (h.0, h.1)
least_of raw places_fault.Goal h real = (h.0, h.1)
least_of raw (places_fault.Range x) h real = (h.0, h.1)
least_of raw places_fault.NoMemory h real = absurd (real refl)

module _ (raw : RawTask) (counts : List ℕ) (least : IsLeastPlaces raw counts) where
  -- the fault in its place among the reasons
  in_order : (g : PlacesFault) → IsPlacesFault raw g → (g ≡ places_fault.NoMemory → ⊥)
      → DeepFluent raw counts least.enough.a_count_each g ⊎ AfterFluents raw counts least.enough.a_count_each g
  in_order (places_fault.Fluent x) (others, also, deep) real = inl (x, subst (λ (c : List ℕ). IsDeepFluent raw c x) (one_places raw others counts also least) deep, refl)
  in_order (places_fault.Action number) (others, also, deep) real =
      let here = subst (λ (c : List ℕ). IsDeepAction raw c number) (one_places raw others counts also least) deep in
      inr (here.few, inl (number, here, refl))
  in_order places_fault.Goal (others, also, deep) real =
      let here = subst (λ (c : List ℕ). IsDeepGoal raw c) (one_places raw others counts also least) deep in
      inr (here.few, inr ((λ number a at. found (λ (b : Ground). IsTrue (has_few_places counts b.pre)) raw.actions number a here.actions at), inl (here.deep, refl)))
  in_order (places_fault.Range x) (others, also, placed, cause) real =
      let same = one_places raw others counts also least in
      let here = subst (λ (c : List ℕ). IsPlaced raw c) same placed in
      let why = subst (λ (c : List ℕ). IsCause raw c (task_fault.Range x)) same cause in
      inr (here.few, inr ((λ number a at. (found (IsPlacedAction counts) raw.actions number a here.placed_actions at).few_in_condition), inr (here.few_in_goal, x, why, refl)))
  in_order places_fault.NoMemory h real = absurd (real refl)

pub one_places_fault : (raw : RawTask) (g h : PlacesFault) → IsPlacesFault raw g → IsPlacesFault raw h → (g ≡ places_fault.NoMemory → ⊥) → (h ≡ places_fault.NoMemory → ⊥) → g ≡ h
one_places_fault raw g h a b real also =
    let counts = least_of raw g a real in
    one_on_counts raw counts.0 counts.1.enough.a_count_each g h (in_order raw counts.0 counts.1 g a real) (in_order raw counts.0 counts.1 h b also)

-- ---- refusals

is_memory : (g : PlacesFault) → (g ≡ places_fault.NoMemory) ⊎ (g ≡ places_fault.NoMemory → ⊥)
is_memory (places_fault.Fluent x) = inr (λ e. cc)
is_memory (places_fault.Action number) = inr (λ e. cc)
is_memory places_fault.Goal = inr (λ e. cc)
is_memory (places_fault.Range x) = inr (λ e. cc)
is_memory places_fault.NoMemory = inl refl

module _ (p : Pair) where
  abbrev TooManyObjects : GroundFault → Type 0
  TooManyObjects f = (MAX_OBJECTS < length (objects_of p)) × (f ≡ fault.TooMany what.Objects MAX_OBJECTS)

  abbrev BindingRefuses : GroundFault → Type 0
  BindingRefuses f = first_refused 0 (outcomes p) ≡ Some f

  abbrev GoalUnset : GroundFault → Type 0
  GoalUnset f = (text : List ℕ) × (unset_in_goal p ≡ Some text) × (f ≡ fault.Unset text)

  abbrev GoalFolds : GroundFault → Type 0
  GoalFolds f = (why : FoldFault) × (folded_goal p ≡ Err why) × (f ≡ fold_refusal side.Problem (codes "goal") why)

  abbrev TooManyFacts : Settled → GroundFault → Type 0
  TooManyFacts goal f = (facts : List (List (List ℕ))) × AreAllOf (IsFact p) (fact_code p) (IsTaskFact p goal) facts × (MAX_FACTS < length facts) × (f ≡ fault.TooMany what.Facts MAX_FACTS)

  abbrev TooManyFluents : Settled → GroundFault → Type 0
  TooManyFluents goal f =
      (fluents : List (List (List ℕ))) × AreAllOf (IsFluent p) (fluent_code p) (IsRelevant p goal) fluents × (MAX_FLUENTS < length fluents) × (f ≡ fault.TooMany what.Fluents MAX_FLUENTS)

  abbrev PlacesRefuse : GroundFault → Type 0
  PlacesRefuse f = (raw : RawTask) × (g : PlacesFault) × IsGroundTask p raw × IsPlacesFault raw g × (g ≡ places_fault.NoMemory → ⊥) × (f ≡ places_refusal raw g)

  abbrev AfterFacts : Settled → GroundFault → Type 0
  AfterFacts goal f =
      (facts : List (List (List ℕ))) × AreAllOf (IsFact p) (fact_code p) (IsTaskFact p goal) facts × (length facts ≤ MAX_FACTS) × (TooManyFluents goal f ⊎ PlacesRefuse f)

  abbrev AfterGoal : GroundFault → Type 0
  AfterGoal f = (goal : Settled) × (folded_goal p ≡ Ok goal) × (TooManyFacts goal f ⊎ AfterFacts goal f)

  abbrev AfterUnset : GroundFault → Type 0
  AfterUnset f = (unset_in_goal p ≡ None) × (GoalFolds f ⊎ AfterGoal f)

  abbrev AfterBindings : GroundFault → Type 0
  AfterBindings f = (first_refused 0 (outcomes p) ≡ None) × (GoalUnset f ⊎ AfterUnset f)

  abbrev AfterObjects : GroundFault → Type 0
  AfterObjects f = (length (objects_of p) ≤ MAX_OBJECTS) × (BindingRefuses f ⊎ AfterBindings f)

  after_folds : (goal : Settled) (f : GroundFault) → IsFolded p goal → TooManyFacts goal f ⊎ AfterFacts goal f → AfterObjects f
  after_folds goal f folds why = (folds.bound.few_objects, inr (folds.bound.none_refused, inr (folds.all_set, inr (goal, folds.folds, why))))

  by_memory_or : (raw : RawTask) (g : PlacesFault) → IsGroundTask p raw → IsPlacesFault raw g → (g ≡ places_fault.NoMemory) ⊎ (g ≡ places_fault.NoMemory → ⊥)
      → (places_refusal raw g ≡ fault.NoMemory) ⊎ (TooManyObjects (places_refusal raw g) ⊎ AfterObjects (places_refusal raw g))
  by_memory_or raw g task why (inl e) = inl (ap (places_refusal raw) e)
  by_memory_or raw g task why (inr real) =
      inr (inr (after_folds task.goal (places_refusal raw g) task.folds (inr (task.facts, task.all_facts, task.few_facts, inr (raw, g, task, why, real, refl)))))

  -- a refusal in its place among the reasons
  pub refusal_in_order : (f : GroundFault) → IsRefused p f → (f ≡ fault.NoMemory) ⊎ (TooManyObjects f ⊎ AfterObjects f)
  refusal_in_order f (by_objects many) = inr (inl (many, refl))
  refusal_in_order f (by_binding g few is) = inr (inr (few, inl is))
  refusal_in_order f (by_goal text bound is) = inr (inr (bound.few_objects, inr (bound.none_refused, inl (text, is, refl))))
  refusal_in_order f (by_folding why bound none is) = inr (inr (bound.few_objects, inr (bound.none_refused, inr (none, inl (why, is, refl)))))
  refusal_in_order f (by_facts goal facts folds all many) = inr (inr (after_folds goal f folds (inl (facts, all, many, refl))))
  refusal_in_order f (by_fluents goal facts fluents folds all others few many) = inr (inr (after_folds goal f folds (inr (facts, all, few, inl (fluents, others, many, refl)))))
  refusal_in_order f (by_places raw g task why) = by_memory_or raw g task why (is_memory g)
  refusal_in_order f by_memory = inl refl

  module _ (readable : IsReadable p.domain p.problem) where
    one_of_places : (f g : GroundFault) → PlacesRefuse f → PlacesRefuse g → f ≡ g
    one_of_places f g (raw, x, task, why, real, e) (other, y, also, cause, too, d) =
        let raws = one_raw p readable other raw also task in
        let same = one_places_fault raw x y why (subst (λ (r : RawTask). IsPlacesFault r y) raws cause) real too in
        e ∙ (λ i. places_refusal (sym raws i) (same i)) ∙ sym d

    no_fluents : (goal : Settled) → folded_goal p ≡ Ok goal → (f g : GroundFault) → TooManyFluents goal f → PlacesRefuse g → ⊥
    no_fluents goal folds f g (fluents, all, many, e) (raw, x, task, why, real, d) =
        let goals = one_goal p task.goal goal task.folds.folds folds in
        let same = one_fluent_list p readable goal task.fluents fluents (subst (λ (s : Settled). AreAllOf (IsFluent p) (fluent_code p) (IsRelevant p s) task.fluents) goals task.all_fluents) all in
        not_both MAX_FLUENTS (length fluents) many (subst (λ (xs : List (List (List ℕ))). length xs ≤ MAX_FLUENTS) same task.few_fluents)

    one_after_facts : (goal : Settled) → folded_goal p ≡ Ok goal → (f g : GroundFault) → AfterFacts goal f → AfterFacts goal g → f ≡ g
    one_after_facts goal folds f g a b = one_level (TooManyFluents goal) PlacesRefuse (λ h k x y. x.3 ∙ sym y.3) one_of_places (no_fluents goal folds) f g a.3 b.3

    no_facts : (goal : Settled) (f g : GroundFault) → TooManyFacts goal f → AfterFacts goal g → ⊥
    no_facts goal f g (facts, all, many, e) (others, also, few, why) =
        not_both MAX_FACTS (length facts) many (subst (λ (xs : List (List (List ℕ))). length xs ≤ MAX_FACTS) (one_fact_list p readable goal others facts also all) few)

    one_after_goal : (f g : GroundFault) → AfterGoal f → AfterGoal g → f ≡ g
    one_after_goal f g (goal, folds, a) (other, also, b) =
        one_level (TooManyFacts goal) (AfterFacts goal) (λ h k x y. x.3 ∙ sym y.3) (one_after_facts goal folds) (no_facts goal) f g a
        (subst (λ (s : Settled). TooManyFacts s g ⊎ AfterFacts s g) (one_goal p other goal also folds) b)

    one_of_folds : (f g : GroundFault) → GoalFolds f → GoalFolds g → f ≡ g
    one_of_folds f g (why, is, e) (cause, also, d) =
        let same : why ≡ cause = let both = sym is ∙ also in cc in
        e ∙ ap (fold_refusal side.Problem (codes "goal")) same ∙ sym d

    one_of_unset : (f g : GroundFault) → GoalUnset f → GoalUnset g → f ≡ g
    one_of_unset f g (text, is, e) (other, also, d) = e ∙ ap (λ (t : List ℕ). fault.Unset t) (same_Some text other (sym is ∙ also)) ∙ sym d

    one_after_unset : (f g : GroundFault) → AfterUnset f → AfterUnset g → f ≡ g
    one_after_unset f g a b = one_level GoalFolds AfterGoal one_of_folds one_after_goal (λ h k x y. let bad = sym x.1 ∙ y.1 in cc) f g a.1 b.1

    one_after_bindings : (f g : GroundFault) → AfterBindings f → AfterBindings g → f ≡ g
    one_after_bindings f g a b = one_level GoalUnset AfterUnset one_of_unset one_after_unset (λ h k x y. let bad = sym x.1 ∙ y.0 in cc) f g a.1 b.1

    one_after_objects : (f g : GroundFault) → AfterObjects f → AfterObjects g → f ≡ g
    one_after_objects f g a b =
        one_level BindingRefuses AfterBindings (λ h k x y. same_Some h k (sym x ∙ y)) one_after_bindings (λ h k x y. let bad = sym x ∙ y.0 in cc) f g a.1 b.1

    pub one_refusal : (f g : GroundFault) → IsRefused p f → IsRefused p g → (f ≡ fault.NoMemory → ⊥) → (g ≡ fault.NoMemory → ⊥) → f ≡ g
    one_refusal f g a b real also =
        one_level TooManyObjects AfterObjects (λ h k x y. x.1 ∙ sym y.1) one_after_objects
        (λ h k x y. not_both MAX_OBJECTS (length (objects_of p)) x.0 y.0) f g (reason f real (refusal_in_order f a)) (reason g also (refusal_in_order g b))
      where
        reason : (h : GroundFault) → (h ≡ fault.NoMemory → ⊥) → (h ≡ fault.NoMemory) ⊎ (TooManyObjects h ⊎ AfterObjects h) → TooManyObjects h ⊎ AfterObjects h
        reason h real (inl e) = absurd (real e)
        reason h real (inr r) = r

    -- ---- a task and a refusal

    module _ (t : TaskValue) (grounded : IsGrounded p t) (placed : IsPlaced t.raw t.places) (in_range : AreFirstInRange t.places t.raw.values (length t.raw.fluents)) where
      abbrev counts_many : length t.places ≡ length t.raw.fluents
      counts_many = grounded.places.enough.a_count_each

      no_after_actions : (g : PlacesFault) → DeepGoal t.raw t.places counts_many g ⊎ OutOfRange t.raw t.places counts_many g → ⊥
      no_after_actions g (inl deep) = let bad = sym deep.0 ∙ placed.few_in_goal in cc
      no_after_actions g (inr (few, x, cause, e)) = absurd (cause.1 (in_range x cause.0))

      no_after_fluents : (g : PlacesFault) → DeepAction t.raw t.places counts_many g ⊎ AfterActions t.raw t.places counts_many g → ⊥
      no_after_fluents g (inl (number, deep, e)) =
          let bad = sym deep.deep ∙ (found (IsPlacedAction t.places) t.raw.actions number deep.action placed.placed_actions deep.is).few_in_condition in cc
      no_after_fluents g (inr after) = no_after_actions g after.1

      no_places_fault : (g : PlacesFault) → DeepFluent t.raw t.places counts_many g ⊎ AfterFluents t.raw t.places counts_many g → ⊥
      no_places_fault g (inl (x, deep, e)) = few_fluent t.raw t.places counts_many x deep placed.few
      no_places_fault g (inr after) = no_after_fluents g after.1

      no_places : (f : GroundFault) → PlacesRefuse f → ⊥
      no_places f (raw, g, task, why, real, e) =
          let here = subst (λ (r : RawTask). IsPlacesFault r g) (one_raw p readable raw t.raw task grounded.task) why in
          no_places_fault g (in_order t.raw t.places grounded.places g here real)

      no_after_facts : (goal : Settled) → folded_goal p ≡ Ok goal → (f : GroundFault) → TooManyFluents goal f ⊎ PlacesRefuse f → ⊥
      no_after_facts goal folds f (inl (fluents, all, many, e)) =
          let goals = one_goal p grounded.task.goal goal grounded.task.folds.folds folds in
          let same = one_fluent_list p readable goal grounded.task.fluents fluents
          (subst (λ (s : Settled). AreAllOf (IsFluent p) (fluent_code p) (IsRelevant p s) grounded.task.fluents) goals grounded.task.all_fluents) all in
          not_both MAX_FLUENTS (length fluents) many (subst (λ (xs : List (List (List ℕ))). length xs ≤ MAX_FLUENTS) same grounded.task.few_fluents)
      no_after_facts goal folds f (inr places) = no_places f places

      no_after_goal : (goal : Settled) → folded_goal p ≡ Ok goal → (f : GroundFault) → TooManyFacts goal f ⊎ AfterFacts goal f → ⊥
      no_after_goal goal folds f (inl (facts, all, many, e)) =
          let goals = one_goal p grounded.task.goal goal grounded.task.folds.folds folds in
          let same = one_fact_list p readable goal grounded.task.facts facts
          (subst (λ (s : Settled). AreAllOf (IsFact p) (fact_code p) (IsTaskFact p s) grounded.task.facts) goals grounded.task.all_facts) all in
          not_both MAX_FACTS (length facts) many (subst (λ (xs : List (List (List ℕ))). length xs ≤ MAX_FACTS) same grounded.task.few_facts)
      no_after_goal goal folds f (inr after) = no_after_facts goal folds f after.3

      no_after_unset : (f : GroundFault) → GoalFolds f ⊎ AfterGoal f → ⊥
      no_after_unset f (inl (why, is, e)) = let bad = sym is ∙ grounded.task.folds.folds in cc
      no_after_unset f (inr (goal, folds, after)) = no_after_goal goal folds f after

      no_after_bindings : (f : GroundFault) → GoalUnset f ⊎ AfterUnset f → ⊥
      no_after_bindings f (inl (text, is, e)) = let bad = sym is ∙ grounded.task.folds.all_set in cc
      no_after_bindings f (inr after) = no_after_unset f after.1

      no_after_objects : (f : GroundFault) → BindingRefuses f ⊎ AfterBindings f → ⊥
      no_after_objects f (inl is) = let bad = sym is ∙ grounded.task.folds.bound.none_refused in cc
      no_after_objects f (inr after) = no_after_bindings f after.1

      -- where there is a task, only want of memory is a refusal
      pub only_memory : (f : GroundFault) → IsRefused p f → f ≡ fault.NoMemory
      only_memory f refused = of_reason (refusal_in_order f refused)
        where
          of_reason : (f ≡ fault.NoMemory) ⊎ (TooManyObjects f ⊎ AfterObjects f) → f ≡ fault.NoMemory
          of_reason (inl e) = e
          of_reason (inr (inl (many, e))) = absurd (not_both MAX_OBJECTS (length (objects_of p)) many grounded.task.folds.bound.few_objects)
          of_reason (inr (inr after)) = absurd (no_after_objects f after.1)
