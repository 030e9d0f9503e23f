-- The evaluations that are computed of the changes, and what they have to do with the values after the changes.
use Rattle.std.proofs.Common.{◌≡◌, ◌&&◌, ◌||◌, ℕ, Bool, true, false, List, [], ◌∷◌, Option, Some, None, map, length, refl, sym, ap, subst, ◌∙◌, cond, is_some, arith, append_assoc, append-nil, drop, get_or, ◌+◌, ◌++◌, ◌<◌, ◌≤◌, if◌then◌else◌}
use Rattle.std.specs.Prelude.{bytes_eq, fold, nat_le, option_map, flat_map}
use Rattle.std.specs.Option.{MatchOption, option_and_then}
use Rattle.std.specs.List.{list_all, zip}
use Rattle.std.specs.FinMap as finite
use Rattle.std.proofs.lemmas.List.{at_drop_more, drop_all}
use Rattle.num_ends.specs.Decimal.{Decimal}
use Rattle.pddl_terms.specs.declared.names.Typed.{Typed}
use Rattle.pddl_terms.specs.declared.actions.Effect.{Effect}
use Rattle.pddl_meaning.specs.declared.answers.Stepped.TheVariants as answer
use Rattle.pddl_meaning.specs.declared.effects.Evaluation.{Evaluation}
use Rattle.pddl_meaning.specs.Worlds.{Values, WorldValue}
use Rattle.pddl_meaning.specs.Values.{exactly, in_bounds, value_by}
use Rattle.pddl_meaning.specs.Effects.{NumericEffect, added_by, are_effects_defined, are_effects_valued, are_compatible, numeric_effect_by, changed_value, numeric_effects, effects_on, deleted_by, first_part, further_part, is_effect_defined, is_joined, next_facts, next_value, next_values, next_world, value_after, with_value}
use Rattle.pddl_meaning.specs.internal.Computed.{evaluation_of, evaluations_of, evaluations_on, are_compatible_evaluations, effects_answer, new_values, ready_evaluations, value_from, with_parts, with_values, written}
use Rattle.pddl_meaning.proofs.Bounds.{next_bounded}

module _ (params : List Typed) (args : List (List ℕ)) (w : WorldValue) where
  abbrev evaluation : NumericEffect → Evaluation
  evaluation = evaluation_of params args w

  -- ---- which changes are ready

  defined_list : (changes : List NumericEffect) → evaluations_of params args w changes ≡ (if list_all (is_effect_defined params args w) changes then Some (map evaluation changes) else None)
  defined_list [] = refl
  defined_list (c ∷ cs) = cases (is_effect_defined params args w c) (list_all (is_effect_defined params args w) cs) (defined_list cs)
    where
      cases : (here rest : Bool) → evaluations_of params args w cs ≡ (if rest then Some (map evaluation cs) else None)
          → (if here then option_map (λ evaluations. evaluation c ∷ evaluations) (evaluations_of params args w cs) else None) ≡ (if here && rest then Some (evaluation c ∷ map evaluation cs) else None)
      cases false rest h = refl
      cases true true h = ap (option_map (λ evaluations. evaluation c ∷ evaluations)) h
      cases true false h = ap (option_map (λ evaluations. evaluation c ∷ evaluations)) h

  evaluations_defined : (changes : List NumericEffect) → evaluations_of params args w changes ≡ (if are_effects_defined params args w changes then Some (map evaluation changes) else None)
  unfolding are_effects_defined
  evaluations_defined changes = defined_list changes

  pub on_evaluations : (fluent : List ℕ) (changes : List NumericEffect) → evaluations_on fluent (map evaluation changes) ≡ map evaluation (effects_on fluent changes)
  on_evaluations fluent [] = refl
  on_evaluations fluent (c ∷ cs) = cases (bytes_eq fluent c.fluent) (on_evaluations fluent cs)
    where
      cases : (test : Bool) → evaluations_on fluent (map evaluation cs) ≡ map evaluation (effects_on fluent cs)
          → cond test (evaluation c ∷ evaluations_on fluent (map evaluation cs)) (evaluations_on fluent (map evaluation cs)) ≡ map evaluation (cond test (c ∷ effects_on fluent cs) (effects_on fluent cs))
      cases true h = ap (λ (rest : List Evaluation). evaluation c ∷ rest) h
      cases false h = h

  length_evaluations : (changes : List NumericEffect) → length (map evaluation changes) ≡ length changes
  length_evaluations [] = refl
  length_evaluations (c ∷ cs) = grind (arith, length_evaluations cs)

  compatible_list : (all changes : List NumericEffect)
      → list_all (λ a. is_joined a.how || nat_le (length (evaluations_on a.fluent (map evaluation all))) 1) (map evaluation changes) ≡ list_all (λ c. is_joined c.how || nat_le (length (effects_on c.fluent all)) 1) changes
  compatible_list all [] = refl
  compatible_list all (c ∷ cs) =
      λ i. (is_joined c.how || nat_le ((ap length (on_evaluations c.fluent all) ∙ length_evaluations (effects_on c.fluent all)) i) 1) && compatible_list all cs i

  compatible_evaluations : (changes : List NumericEffect) → are_compatible_evaluations (map evaluation changes) ≡ are_compatible changes
  unfolding are_compatible
  compatible_evaluations changes = compatible_list changes changes

  abbrev compatible_only : List Evaluation → Option (List Evaluation)
  compatible_only evaluations = if are_compatible_evaluations evaluations then Some evaluations else None

  pub ready_by : (changes : List NumericEffect) → ready_evaluations params args w changes ≡ option_and_then compatible_only (evaluations_of params args w changes)
  ready_by changes = cases (are_effects_defined params args w changes) (are_compatible changes) (compatible_evaluations changes) ∙ ap (option_and_then compatible_only) (sym (evaluations_defined changes))
    where
      cases : (defined compatible : Bool) → are_compatible_evaluations (map evaluation changes) ≡ compatible
          → (if defined && compatible then Some (map evaluation changes) else None) ≡ option_and_then compatible_only (if defined then Some (map evaluation changes) else None)
      cases false compatible h = refl
      cases true compatible h = sym (ap (λ (b : Bool). if b then Some (map evaluation changes) else None) h)

  -- ---- loops

  -- done evaluations, and then those of changes
  abbrev pub after : List Evaluation → List NumericEffect → Option (List Evaluation)
  after done changes = option_map (λ rest. done ++ rest) (evaluations_of params args w changes)

  after_more : (done : List Evaluation) (a : Evaluation) (rest : Option (List Evaluation)) → option_map (λ further. done ++ further) (option_map (λ further. a ∷ further) rest) ≡ option_map (λ further. (done ++ a ∷ []) ++ further) rest
  after_more done a None = refl
  after_more done a (Some further) = ap Some (sym (append_assoc done (a ∷ []) further))

  joined_evaluations : (done : List Evaluation) (xs ys : List NumericEffect) → after done (xs ++ ys) ≡ option_and_then (λ more. after more ys) (after done xs)
  joined_evaluations done [] ys = ap (λ (more : List Evaluation). after more ys) (sym (append-nil done))
  joined_evaluations done (x ∷ xs) ys = cases (is_effect_defined params args w x) (joined_evaluations (done ++ evaluation x ∷ []) xs ys)
    where
      cases : (test : Bool) → after (done ++ evaluation x ∷ []) (xs ++ ys) ≡ option_and_then (λ more. after more ys) (after (done ++ evaluation x ∷ []) xs)
          → option_map (λ further. done ++ further) (if test then option_map (λ further. evaluation x ∷ further) (evaluations_of params args w (xs ++ ys)) else None)
          ≡ option_and_then (λ more. after more ys) (option_map (λ further. done ++ further) (if test then option_map (λ further. evaluation x ∷ further) (evaluations_of params args w xs) else None))
      cases false h = refl
      cases true h =
          after_more done (evaluation x) (evaluations_of params args w (xs ++ ys)) ∙ h ∙ ap (option_and_then (λ more. after more ys)) (sym (after_more done (evaluation x) (evaluations_of params args w xs)))

  next_effect : (effects : List Effect) (i : ℕ) (e other : Effect) (done : List Evaluation) → i < length effects → e ≡ get_or effects i other
      → after done (numeric_effects params args (drop i effects)) ≡ option_and_then (λ more. after more (numeric_effects params args (drop (i + 1) effects))) (after done (numeric_effect_by params args e))
  unfolding numeric_effects
  next_effect effects i e other done within at =
      ap (after done) (at_drop_more (flat_map (numeric_effect_by params args)) effects i other within ∙ ap (λ (f : Effect). numeric_effect_by params args f ++ flat_map (numeric_effect_by params args) (drop (i + 1) effects)) (sym at))
      ∙ joined_evaluations done (numeric_effect_by params args e) (flat_map (numeric_effect_by params args) (drop (i + 1) effects))

  pub evaluations_step : (effects : List Effect) (i : ℕ) (e other : Effect) (done : List Evaluation) (more : Option (List Evaluation)) → i < length effects → e ≡ get_or effects i other
      → more ≡ after done (numeric_effect_by params args e) → option_and_then (λ m. after m (numeric_effects params args (drop (i + 1) effects))) more ≡ after done (numeric_effects params args (drop i effects))
  evaluations_step effects i e other done more within at is =
      ap (option_and_then (λ m. after m (numeric_effects params args (drop (i + 1) effects)))) is ∙ sym (next_effect effects i e other done within at)

  pub evaluations_end : (effects : List Effect) (i : ℕ) (done : List Evaluation) → length effects ≤ i → Some done ≡ after done (numeric_effects params args (drop i effects))
  unfolding numeric_effects
  evaluations_end effects i done behind = ap Some (sym (append-nil done)) ∙ ap (λ (es : List Effect). after done (flat_map (numeric_effect_by params args) es)) (sym (drop_all i effects behind))

  -- ---- new values

  parts_of_effects : (changes : List NumericEffect) (sum : Option Decimal)
      → with_parts sum (map evaluation changes) ≡ fold (λ s d. further_part in_bounds d.how s (value_by in_bounds params args w d.by)) sum changes
  parts_of_effects [] sum = refl
  parts_of_effects (c ∷ cs) sum = parts_of_effects cs (further_part in_bounds c.how sum (value_by in_bounds params args w c.by))

  value_of_effects : (fluent : List ℕ) (changes : List NumericEffect) → value_from (finite.get w.values fluent) (map evaluation changes) ≡ changed_value in_bounds params args w fluent changes
  value_of_effects fluent [] = refl
  value_of_effects fluent (c ∷ cs) =
      ap (value_after in_bounds c.how (finite.get w.values fluent) (value_by in_bounds params args w c.by)) (parts_of_effects cs (first_part in_bounds c.how (value_by in_bounds params args w c.by)))

  pub new_is_next : (changes : List NumericEffect) (fluent : List ℕ) → value_from (finite.get w.values fluent) (evaluations_on fluent (map evaluation changes)) ≡ next_value in_bounds params args w changes fluent
  new_is_next changes fluent = ap (value_from (finite.get w.values fluent)) (on_evaluations fluent changes) ∙ value_of_effects fluent (effects_on fluent changes)

  module _ (all : List NumericEffect) where
    abbrev next : List ℕ → Option Decimal
    next = next_value in_bounds params args w all

    abbrev news : List NumericEffect → Option (List Decimal)
    news changes = new_values (map evaluation all) (map evaluation changes)

    news_step : (c : NumericEffect) (cs : List NumericEffect) → news (c ∷ cs) ≡ option_and_then (λ d. option_map (λ ds. d ∷ ds) (news cs)) (next c.fluent)
    news_step c cs = ap (option_and_then (λ d. option_map (λ ds. d ∷ ds) (news cs))) (new_is_next all c.fluent)

    -- what it means of changes that their new values were computed
    abbrev Computed : List NumericEffect → Option (List Decimal) → Type 0
    Computed changes None = list_all (λ c. is_some (next c.fluent)) changes ≡ false
    Computed changes (Some ds) =
        (list_all (λ c. is_some (next c.fluent)) changes ≡ true)
        × ((values : Values) → with_values values (zip (map evaluation changes) ds) ≡ fold (λ vs c. with_value vs c.fluent (next_value exactly params args w all c.fluent)) values changes)

    computed : (changes : List NumericEffect) → Computed changes (news changes)
    computed [] = (refl, λ values. refl)
    computed (c ∷ cs) = subst (Computed (c ∷ cs)) (sym (news_step c cs)) (cases (next c.fluent) refl (news cs) (computed cs))
      where
        cases : (x : Option Decimal) → next c.fluent ≡ x → (rest : Option (List Decimal)) → Computed cs rest → Computed (c ∷ cs) (option_and_then (λ d. option_map (λ ds. d ∷ ds) rest) x)
        cases None here rest h = ap (λ (x : Option Decimal). is_some x && list_all (λ e. is_some (next e.fluent)) cs) here
        cases (Some d) here None h = ap (λ (x : Option Decimal). is_some x && list_all (λ e. is_some (next e.fluent)) cs) here ∙ h
        cases (Some d) here (Some ds) h = (
          ap (λ (x : Option Decimal). is_some x && list_all (λ e. is_some (next e.fluent)) cs) here ∙ h.0,
          λ values.
              h.1 (finite.insert values c.fluent d)
              ∙ ap (λ (x : Option Decimal). fold (λ vs e. with_value vs e.fluent (next_value exactly params args w all e.fluent)) (with_value values c.fluent x) cs)
              (sym (next_bounded params args w all c.fluent d here)),
        )

  -- what effects do, by the new values
  pub effects_written : (effects : List Effect) (r : Option (List Decimal)) → r ≡ new_values (map evaluation (numeric_effects params args effects)) (map evaluation (numeric_effects params args effects))
      → MatchOption r (answer.Over ≡ effects_answer params args w effects)
      (λ ds. answer.Next (written w (record { deleted = flat_map (deleted_by params args) effects; added = flat_map (added_by params args) effects; evaluations = map evaluation (numeric_effects params args effects); news = ds }))
      ≡ effects_answer params args w effects)
  unfolding are_effects_valued next_values next_facts
  effects_written effects r h = cases r (subst (Computed (numeric_effects params args effects) (numeric_effects params args effects)) (sym h) (computed (numeric_effects params args effects) (numeric_effects params args effects)))
    where
      cases : (x : Option (List Decimal)) → Computed (numeric_effects params args effects) (numeric_effects params args effects) x
          → MatchOption x (answer.Over ≡ effects_answer params args w effects)
          (λ ds. answer.Next (written w (record { deleted = flat_map (deleted_by params args) effects; added = flat_map (added_by params args) effects; evaluations = map evaluation (numeric_effects params args effects); news = ds }))
          ≡ effects_answer params args w effects)
      cases None over = ap (λ (b : Bool). if b then answer.Next (next_world params args w effects) else answer.Over) (sym over)
      cases (Some ds) done =
          (λ i. answer.Next (record { facts = next_facts params args w.facts effects; values = done.1 w.values i }))
          ∙ ap (λ (b : Bool). if b then answer.Next (next_world params args w effects) else answer.Over) (sym done.0)

  pub over_written : (effects : List Effect) (evaluations : List Evaluation) → evaluations ≡ map evaluation (numeric_effects params args effects) → None ≡ new_values evaluations evaluations → answer.Over ≡ effects_answer params args w effects
  over_written effects evaluations is none = effects_written effects None (none ∙ (λ i. new_values (is i) (is i)))

  pub ready_written : (effects : List Effect) (deleted added : List (List ℕ)) (evaluations : List Evaluation) (ds : List Decimal) → deleted ≡ flat_map (deleted_by params args) effects → added ≡ flat_map (added_by params args) effects
      → evaluations ≡ map evaluation (numeric_effects params args effects) → Some ds ≡ new_values evaluations evaluations
      → answer.Next (written w (record { deleted = deleted; added = added; evaluations = evaluations; news = ds })) ≡ effects_answer params args w effects
  ready_written effects deleted added evaluations ds d a is some =
      (λ i. answer.Next (written w (record { deleted = d i; added = a i; evaluations = is i; news = ds }))) ∙ effects_written effects (Some ds) (some ∙ (λ i. new_values (is i) (is i)))
