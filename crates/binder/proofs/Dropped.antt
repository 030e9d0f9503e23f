-- The next item of a list that is walked.
use Rattle.std.proofs.Common.{◌≡◌, ◌<◌, ◌≤◌, ◌+◌, ◌++◌, ℕ, zero, suc, List, [], ◌∷◌, length, drop, Some, sym, ap, subst, ◌∙◌, arith, add-one, append_assoc, inl, inr, slice_get, get_or, length-append}
use Rattle.std.specs.Prelude.{All, flat_map}
use Rattle.std.proofs.lemmas.List.{drop_more}
use Rattle.pddl_terms.specs.declared.names.Typed.{Typed}
use Rattle.pddl_terms.specs.declared.actions.Schema.{Schema}
use Rattle.pddl_terms.specs.Readable.{IsReadableSchema}
use Rattle.pddl_types.specs.declared.pairs.Pair.{Pair}
use Rattle.pddl_types.specs.WellFormed.{Stands}
use Rattle.binder.specs.declared.checks.Check.{Check}
use Rattle.binder.specs.declared.levels.LevelFault.{LevelFault}
use Rattle.binder.specs.declared.levels.LevelFault.TheVariants as fault
use Rattle.binder.specs.internal.Levels.{counted, grown, IsOver, next_rows}

next_item : {A : Type 0} (xs : List A) (i : ℕ) (x : A) → slice_get xs i ≡ Some x → drop i xs ≡ x ∷ drop (suc i) xs
next_item [] i x h = cc
next_item (y ∷ xs) zero x h = let same : y ≡ x = cc in ap (λ (z : _). z ∷ xs) same
next_item (y ∷ xs) (suc i) x h = next_item xs i x h

-- an item is taken
pub next_taken : {A : Type 0} (done xs : List A) (i : ℕ) (x : A) → slice_get xs i ≡ Some x → (done ++ x ∷ []) ++ drop (i + 1) xs ≡ done ++ drop i xs
next_taken {A} done xs i x h =
    append_assoc done (x ∷ []) (drop (i + 1) xs)
    ∙ ap (λ (n : ℕ). done ++ x ∷ drop n xs) (add-one i)
    ∙ ap (λ (r : List A). done ++ r) (sym (next_item xs i x h))

-- what is made of an item is taken
pub next_made : {A B : Type 0} (make : A → List B) (done : List B) (xs : List A) (i : ℕ) (x : A) → slice_get xs i ≡ Some x
    → (done ++ make x) ++ flat_map make (drop (i + 1) xs) ≡ done ++ flat_map make (drop i xs)
next_made {A} {B} make done xs i x h =
    append_assoc done (make x) (flat_map make (drop (i + 1) xs))
    ∙ ap (λ (n : ℕ). done ++ (make x ++ flat_map make (drop n xs))) (add-one i)
    ∙ ap (λ (r : List A). done ++ flat_map make r) (sym (next_item xs i x h))

pub at_most_whole : {B : Type 0} (part rest whole : List B) → part ++ rest ≡ whole → length part ≤ length whole
at_most_whole {B} part rest whole h =
    let sum = length-append part rest in
    let same : length (part ++ rest) ≡ length whole = ap length h in
    omega (arith, sum, same)

-- ---- one more parameter

module _ (p : Pair) (checks : List Check) (params : List Typed) (i : ℕ) (param : Typed) (l : i < length params) (is : param ≡ get_or params i param) where
  next_param : drop i params ≡ param ∷ drop (i + 1) params
  next_param = drop_more params i param l ∙ ap (λ (t : Typed). t ∷ drop (i + 1) params) (sym is)

  pub grown_more : (rows : List (List ℕ)) → grown p checks (drop i params) rows ≡ grown p checks (drop (i + 1) params) (next_rows p checks param rows)
  grown_more rows = ap (λ (ts : List Typed). grown p checks ts rows) next_param

  pub counted_more : (rows : List (List ℕ)) → counted p checks (drop i params) rows ≡ length (next_rows p checks param rows) + counted p checks (drop (i + 1) params) (next_rows p checks param rows)
  counted_more rows = ap (λ (ts : List Typed). counted p checks ts rows) next_param

-- what is too many of some is too many of more
pub over_more : (f : LevelFault) (few more : ℕ) → few ≤ more → IsOver f few → IsOver f more
over_more fault.NoMemory few more l h = tt
over_more fault.TooMany few more l h = omega (arith, l, h)

-- ---- the action with a number

pub found_stands : {A : Type 0} (xs : List A) (i : ℕ) (x : A) → slice_get xs i ≡ Some x → Stands x xs
found_stands [] i x h = cc
found_stands (y ∷ xs) zero x h = let same : x ≡ y = cc in inl same
found_stands (y ∷ xs) (suc i) x h = inr (found_stands xs i x h)

pub few_of_found : (schemas : List Schema) → All IsReadableSchema schemas → (i : ℕ) (s : Schema) → slice_get schemas i ≡ Some s → length s.params ≤ 8
few_of_found [] r i s h = cc
few_of_found (t ∷ schemas) r zero s h =
    let same : t ≡ s = cc in
    let readable = r 0 t (omega arith) in
    subst (λ u. length u.params ≤ 8) same readable.few_params
few_of_found (t ∷ schemas) r (suc i) s h = few_of_found schemas (λ k d l. r (suc k) d (omega (arith, l))) i s h
