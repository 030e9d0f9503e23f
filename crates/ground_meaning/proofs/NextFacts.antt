-- The facts of a task after an action are those of the pair.
use Rattle.std.proofs.Common.{◌≡◌, ◌<◌, ◌&&◌, ◌||◌, ◌==◌, ◌++◌, ℕ, Bool, true, false, not, List, [], ◌∷◌, map, length, slice_index_or, refl, sym, ap, ap₂, ◌∙◌, eqb-true, eq-eqb, cond}
use Rattle.std.specs.Prelude.{bytes_eq, filter, flat_map, if◌then◌else◌}
use Rattle.std.specs.Bool.{one_answer}
use Rattle.std.specs.List.{list_any}
use Rattle.std.specs.List.Sorted.{IsStrictlyIncreasing}
use Rattle.pddl_terms.specs.declared.names.Atom.{Atom}
use Rattle.pddl_terms.specs.declared.names.Typed.{Typed}
use Rattle.pddl_terms.specs.declared.actions.Effect.{Effect}
use Rattle.pddl_terms.specs.declared.actions.Effect.TheVariants as effect
use Rattle.pddl_terms.specs.Texts.{ground_text}
use Rattle.name_table.specs.Tables.{is_text_among}
use Rattle.pddl_types.specs.Contents.{fact_changed}
use Rattle.pddl_types.specs.declared.pairs.Pair.{Pair}
use Rattle.pddl_types.specs.WellFormed.{Each, Stands}
use Rattle.static_facts.specs.Atoms.{atom_of}
use Rattle.pddl_meaning.specs.Effects.{added_by, deleted_by}
use Rattle.static_facts.specs.Codes.{fact_code}
use Rattle.ground_meaning.specs.Actions.{added_fact, added_facts, deleted_fact, deleted_facts, each_once, is_listed, with_new}
use Rattle.ground_meaning.specs.Tasks.{number_in}
use Rattle.ground_meaning.proofs.Listed.{found_at, number_at}
use Rattle.ground_meaning.proofs.Simplified.{any_joined}

-- ---- each number once

or_assoc : (a b d : Bool) → ((a || b) || d) ≡ (a || (b || d))
or_assoc true b d = refl
or_assoc false b d = refl

or_false : (a : Bool) → (a || false) ≡ a
or_false true = refl
or_false false = refl

pub listed_new : (n : ℕ) (ns : List ℕ) (m : ℕ) → is_listed n (with_new ns m) ≡ (is_listed n ns || (m == n))
listed_new n ns m = by_test (is_listed m ns) refl
  where
    absorbed : (same : Bool) → (m == n) ≡ same → is_listed m ns ≡ true → is_listed n ns ≡ (is_listed n ns || same)
    absorbed false e there = sym (or_false (is_listed n ns))
    absorbed true e there = let is = ap (λ (k : ℕ). is_listed k ns) (sym (eqb-true m n e)) ∙ there in is ∙ sym (ap (λ (b : Bool). b || true) is)

    by_test : (test : Bool) → is_listed m ns ≡ test → is_listed n (if test then ns else ns ++ m ∷ []) ≡ (is_listed n ns || (m == n))
    by_test true there = absorbed (m == n) refl there
    by_test false there = any_joined (λ k. k == n) ns (m ∷ []) ∙ ap (λ (b : Bool). is_listed n ns || b) (or_false (m == n))

pub listed_once : (n : ℕ) (seen ns : List ℕ) → is_listed n (each_once seen ns) ≡ (is_listed n seen || is_listed n ns)
listed_once n seen [] = sym (or_false (is_listed n seen))
listed_once n seen (m ∷ ns) =
    listed_once n (with_new seen m) ns ∙ ap (λ (b : Bool). b || is_listed n ns) (listed_new n seen m) ∙ or_assoc (is_listed n seen) (m == n) (is_listed n ns)

pub listed_kept : (n : ℕ) (keep : ℕ → Bool) (ns : List ℕ) → is_listed n (filter keep ns) ≡ (is_listed n ns && keep n)
listed_kept n keep [] = refl
listed_kept n keep (m ∷ ns) = by_test (keep m) (m == n) refl refl (listed_kept n keep ns)
  where
    by_test : (kept same : Bool) → keep m ≡ kept → (m == n) ≡ same → is_listed n (filter keep ns) ≡ (is_listed n ns && keep n)
        → is_listed n (cond kept (m ∷ filter keep ns) (filter keep ns)) ≡ ((same || is_listed n ns) && keep n)
    by_test true true k s rest = ap (λ (b : Bool). b || is_listed n (filter keep ns)) s ∙ sym (ap keep (sym (eqb-true m n s)) ∙ k)
    by_test true false k s rest = ap (λ (b : Bool). b || is_listed n (filter keep ns)) s ∙ rest
    by_test false true k s rest =
        let none = ap keep (sym (eqb-true m n s)) ∙ k in rest ∙ ap (λ (b : Bool). is_listed n ns && b) none ∙ and_false (is_listed n ns) ∙ sym none
      where
        and_false : (b : Bool) → (b && false) ≡ false
        and_false true = refl
        and_false false = refl
    by_test false false k s rest = rest

-- ---- effects by codes and by texts

module _ (p : Pair) (params : List Typed) (args : List (List ℕ)) (n : ℕ) (text : List ℕ) where
  -- an atom has this code where it has this text
  abbrev pub IsTold : Atom → Type 0
  IsTold a = (fact_code p (atom_of params args a) == n) ≡ bytes_eq text (ground_text params args a)

  added_told : (effects : List Effect) → Each IsTold (flat_map fact_changed effects)
      → is_listed n (flat_map (added_fact p params args) effects) ≡ is_text_among text (flat_map (added_by params args) effects)
  added_told [] told = refl
  added_told (effect.Add a ∷ effects) told = ap₂ (λ (s t : Bool). s || t) told.0 (added_told effects told.1)
  added_told (effect.Del a ∷ effects) told = added_told effects told.1
  added_told (effect.Num how a x ∷ effects) told = added_told effects told

  deleted_told : (effects : List Effect) → Each IsTold (flat_map fact_changed effects)
      → is_listed n (flat_map (deleted_fact p params args) effects) ≡ is_text_among text (flat_map (deleted_by params args) effects)
  deleted_told [] told = refl
  deleted_told (effect.Add a ∷ effects) told = deleted_told effects told.1
  deleted_told (effect.Del a ∷ effects) told = ap₂ (λ (s t : Bool). s || t) told.0 (deleted_told effects told.1)
  deleted_told (effect.Num how a x ∷ effects) told = deleted_told effects told

  module _ (effects : List Effect) (told : Each IsTold (flat_map fact_changed effects)) where
    abbrev is_added : Bool
    is_added = is_text_among text (flat_map (added_by params args) effects)

    abbrev is_deleted : Bool
    is_deleted = is_text_among text (flat_map (deleted_by params args) effects)

    pub listed_added : is_listed n (added_facts p params args effects) ≡ is_added
    unfolding added_facts
    listed_added = listed_once n [] (flat_map (added_fact p params args) effects) ∙ added_told effects told

    pub listed_deleted : is_listed n (deleted_facts p params args effects) ≡ (is_deleted && not is_added)
    unfolding deleted_facts
    listed_deleted =
        listed_kept n (λ f. not (is_listed f (added_facts p params args effects))) (each_once [] (flat_map (deleted_fact p params args) effects))
        ∙ ap₂ (λ (s t : Bool). s && not t) (listed_once n [] (flat_map (deleted_fact p params args) effects) ∙ deleted_told effects told) listed_added

-- ---- by numbers

listed_by_number : (codes : List ℕ) (f n : ℕ) (ns : List ℕ) → Each (λ m. (number_in codes m == f) ≡ (m == n)) ns → list_any (λ g. g == f) (map (number_in codes) ns) ≡ is_listed n ns
listed_by_number codes f n [] h = refl
listed_by_number codes f n (m ∷ ns) h = ap₂ (λ (s t : Bool). s || t) h.0 (listed_by_number codes f n ns h.1)

joined_truth : (added deleted old : Bool) → (added || (old && not (deleted && not added))) ≡ (added || (old && not deleted))
joined_truth true deleted old = refl
joined_truth false true old = refl
joined_truth false false old = refl

module _ (code : List (List ℕ) → ℕ) (atoms : List (List (List ℕ))) (rising : IsStrictlyIncreasing (map code atoms)) (f : ℕ) (within : f < length atoms) where
  -- a listed code has the number of an atom where it is that atom's code
  pub number_told : (n : ℕ) → Stands n (map code atoms) → (number_in (map code atoms) n == f) ≡ (n == code (slice_index_or atoms f []))
  number_told n s =
      one_answer {P = n ≡ code (slice_index_or atoms f [])} _ _ (
        λ same. sym (found_at code atoms n s).1 ∙ ap (λ (k : ℕ). code (slice_index_or atoms k [])) (eqb-true (number_in (map code atoms) n) f same),
        λ e. eq-eqb (number_in (map code atoms) n) f (ap (number_in (map code atoms)) e ∙ number_at code atoms rising f within),
      )
      (λ same. eqb-true n (code (slice_index_or atoms f [])) same, λ e. eq-eqb n (code (slice_index_or atoms f [])) e)

  pub all_told : (ns : List ℕ) → Each (λ n. Stands n (map code atoms)) ns → Each (λ n. (number_in (map code atoms) n == f) ≡ (n == code (slice_index_or atoms f []))) ns
  all_told [] h = tt
  all_told (n ∷ ns) h = (number_told n h.0, all_told ns h.1)

  -- the facts of an action by numbers are those of its effects by texts
  pub fact_by_number : (p : Pair) (params : List Typed) (args : List (List ℕ)) (text : List ℕ) (effects : List Effect) (old : Bool)
      → Each (IsTold p params args (code (slice_index_or atoms f [])) text) (flat_map fact_changed effects)
      → Each (λ n. Stands n (map code atoms)) (added_facts p params args effects) → Each (λ n. Stands n (map code atoms)) (deleted_facts p params args effects)
      → (list_any (λ g. g == f) (map (number_in (map code atoms)) (added_facts p params args effects)) || (old && not (list_any (λ g. g == f) (map (number_in (map code atoms)) (deleted_facts p params args effects)))))
      ≡ (is_text_among text (flat_map (added_by params args) effects) || (old && not (is_text_among text (flat_map (deleted_by params args) effects))))
  fact_by_number p params args text effects old told added deleted =
      let n = code (slice_index_or atoms f []) in
      let first = listed_by_number (map code atoms) f n (added_facts p params args effects) (all_told (added_facts p params args effects) added) ∙ listed_added p params args n text effects told in
      let second = listed_by_number (map code atoms) f n (deleted_facts p params args effects) (all_told (deleted_facts p params args effects) deleted) ∙ listed_deleted p params args n text effects told in
      ap₂ (λ (s t : Bool). s || (old && not t)) first second
      ∙ joined_truth (is_text_among text (flat_map (added_by params args) effects)) (is_text_among text (flat_map (deleted_by params args) effects)) old
