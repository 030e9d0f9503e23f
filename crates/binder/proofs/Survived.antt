-- The tuples that survive, one parameter after another.
use Rattle.std.proofs.Common.{◌≡◌, ◌<◌, ◌≤◌, ◌+◌, ◌&&◌, ℕ, zero, suc, Bool, true, false, cond, List, [], ◌∷◌, ◌++◌, length, take, map, refl, sym, ap, ◌∙◌, arith, append_assoc, if◌then◌else◌, length-append}
use Rattle.std.specs.Prelude.{filter, flat_map, sum}
use Rattle.std.specs.List.{list_all, range_with_len}
use Rattle.std.proofs.lemmas.List.{append-nil, length-map, map-append, take_at}
use Rattle.std.proofs.lemmas.List.Elements.{filter-append}
use Rattle.std.proofs.lemmas.List.Folds.{flat_map-map}
use Rattle.std.proofs.lemmas.Grind.{flat_map-append}
use Rattle.std.proofs.lemmas.List.Sums.{sum_by-cons}
use Rattle.pddl_terms.specs.declared.names.Typed.{Typed}
use Rattle.pddl_terms.specs.declared.actions.Schema.{Schema}
use Rattle.type_order.specs.Types.{is_within}
use Rattle.name_table.specs.TypedLists.{names_of}
use Rattle.pddl_types.specs.declared.pairs.Pair.{Pair}
use Rattle.pddl_types.specs.Pairs.{objects_of}
use Rattle.pddl_types.specs.WellFormed.{Each}
use Rattle.pddl_types.proofs.Empties.{each_append, each_flat}
use Rattle.static_facts.specs.Bindings.{bindings, fitting, kind_of, prefix_count, prefixes_of, survives, tuples}
use Rattle.static_facts.specs.Literals.{conjuncts}
use Rattle.binder.specs.declared.checks.Check.{Check}
use Rattle.binder.specs.internal.Checks.{checks_of, extends, extensions}
use Rattle.binder.specs.internal.Levels.{counted, first_rows, grown, next_rows}
use Rattle.binder.proofs.Judged.{all_spared, HasObjects, is_known_literal, IsObject, passes}
use Rattle.binder.proofs.Extended.{all_extended, checks_wait, none_extended}

-- ---- flat lists

flat_same : {A B : Type 0} (f g : A → List B) → ((x : A) → f x ≡ g x) → (xs : List A) → flat_map f xs ≡ flat_map g xs
flat_same f g h [] = refl
flat_same f g h (x ∷ xs) = ap (λ (r : List _). r ++ flat_map f xs) (h x) ∙ ap (λ (r : List _). g x ++ r) (flat_same f g h xs)

flat_twice : {A B C : Type 0} (f : B → List C) (g : A → List B) (xs : List A) → flat_map f (flat_map g xs) ≡ flat_map (λ x. flat_map f (g x)) xs
flat_twice f g [] = refl
flat_twice f g (x ∷ xs) = flat_map-append f (g x) (flat_map g xs) ∙ ap (λ (r : List _). flat_map f (g x) ++ r) (flat_twice f g xs)

map_flat : {A B C : Type 0} (f : B → C) (g : A → List B) (xs : List A) → map f (flat_map g xs) ≡ flat_map (λ x. map f (g x)) xs
map_flat f g [] = refl
map_flat f g (x ∷ xs) = map-append f (g x) (flat_map g xs) ∙ ap (λ (r : List _). map f (g x) ++ r) (map_flat f g xs)

map_twice : {A B C : Type 0} (f : B → C) (g : A → B) (xs : List A) → map f (map g xs) ≡ map (λ x. f (g x)) xs
map_twice f g [] = refl
map_twice f g (x ∷ xs) = ap (λ (r : List _). f (g x) ∷ r) (map_twice f g xs)

filter_flat : {A B : Type 0} (test : B → Bool) (g : A → List B) (xs : List A) → filter test (flat_map g xs) ≡ flat_map (λ x. filter test (g x)) xs
filter_flat test g [] = refl
filter_flat test g (x ∷ xs) = filter-append test (g x) (flat_map g xs) ∙ ap (λ (r : List _). filter test (g x) ++ r) (filter_flat test g xs)

singles : {A : Type 0} (xs : List A) → flat_map (λ x. (x ∷ []) ∷ []) xs ≡ map (λ x. x ∷ []) xs
singles [] = refl
singles (x ∷ xs) = ap (λ (r : List _). (x ∷ []) ∷ r) (singles xs)

-- ---- tuples of one more parameter

abbrev pub longer : List ℕ → List ℕ → List (List ℕ)
longer objects os = map (λ o. os ++ o ∷ []) objects

pub tuples_more : (p : Pair) (ts : List Typed) (t : Typed) → tuples p (ts ++ t ∷ []) ≡ flat_map (longer (fitting p t)) (tuples p ts)
tuples_more p [] t = singles (fitting p t) ∙ sym (append-nil (longer (fitting p t) []))
tuples_more p (s ∷ ts) t =
    ap (λ (rest : List (List ℕ)). flat_map (λ o. map (λ os. o ∷ os) rest) (fitting p s)) (tuples_more p ts t)
    ∙ flat_same (λ o. map (λ os. o ∷ os) (flat_map (longer (fitting p t)) (tuples p ts))) (λ o. flat_map (longer (fitting p t)) (map (λ os. o ∷ os) (tuples p ts)))
    (λ o.
    map_flat (λ os. o ∷ os) (longer (fitting p t)) (tuples p ts)
    ∙ flat_same (λ os. map (λ qs. o ∷ qs) (longer (fitting p t) os)) (λ os. longer (fitting p t) (o ∷ os)) (λ os. map_twice (λ qs. o ∷ qs) (λ q. os ++ q ∷ []) (fitting p t)) (tuples p ts)
    ∙ sym (flat_map-map (longer (fitting p t)) (λ os. o ∷ os) (tuples p ts)))
    (fitting p s)
    ∙ sym (flat_twice (longer (fitting p t)) (λ o. map (λ os. o ∷ os) (tuples p ts)) (fitting p s))

-- ---- tuples are of objects

range_below : (first count most : ℕ) → first + count ≤ most → Each (λ o. o < most) (range_with_len first count)
range_below first zero most l = tt
range_below first (suc count) most l = (omega (arith, l), range_below (first + 1) count most (omega (arith, l)))

each_filter : {A : Type 0} (P : A → Type 0) (test : A → Bool) (xs : List A) → Each P xs → Each P (filter test xs)
each_filter P test [] h = tt
each_filter P test (x ∷ xs) h = cases (test x) (each_filter P test xs h.1)
  where
    cases : (b : Bool) → Each P (filter test xs) → Each P (cond b (x ∷ filter test xs) (filter test xs))
    cases true r = (h.0, r)
    cases false r = r

pub fitting_objects : (p : Pair) (t : Typed) → Each (IsObject p) (fitting p t)
fitting_objects p t =
    let named = length-map (objects_of p) (λ u. u.name) in
    each_filter (IsObject p) (λ o. is_within p.domain.types (kind_of p o) t.kind.text) (range_with_len 0 (length (objects_of p)))
    (range_below 0 (length (objects_of p)) (length (names_of (objects_of p))) (omega (arith, named)))

consed : (p : Pair) (o : ℕ) → IsObject p o → (rows : List (List ℕ)) → Each (Each (IsObject p)) rows → Each (Each (IsObject p)) (map (λ os. o ∷ os) rows)
consed p o h [] r = tt
consed p o h (os ∷ rows) r = ((h, r.0), consed p o h rows r.1)

all_consed : (p : Pair) (objects : List ℕ) → Each (IsObject p) objects → (rows : List (List ℕ)) → Each (Each (IsObject p)) rows → Each (λ o. Each (Each (IsObject p)) (map (λ os. o ∷ os) rows)) objects
all_consed p [] h rows r = tt
all_consed p (o ∷ objects) h rows r = (consed p o h.0 rows r, all_consed p objects h.1 rows r)

pub tuples_objects : (p : Pair) (ts : List Typed) → Each (Each (IsObject p)) (tuples p ts)
tuples_objects p [] = (tt, tt)
tuples_objects p (t ∷ ts) =
    (each_flat (Each (IsObject p)) (λ o. map (λ os. o ∷ os) (tuples p ts)) (fitting p t)).1 (all_consed p (fitting p t) (fitting_objects p t) (tuples p ts) (tuples_objects p ts))

-- ---- filters

filtered : (test more : List ℕ → Bool) (b : Bool) (xs : List (List ℕ)) → Each (λ x. test x ≡ (b && more x)) xs → filter test xs ≡ (if b then filter more xs else [])
filtered test more true [] h = refl
filtered test more false [] h = refl
filtered test more true (x ∷ xs) h =
    ap (λ (c : Bool). cond c (x ∷ filter test xs) (filter test xs)) h.0 ∙ ap (λ (r : List (List ℕ)). cond (more x) (x ∷ r) r) (filtered test more true xs h.1)
filtered test more false (x ∷ xs) h = ap (λ (c : Bool). cond c (x ∷ filter test xs) (filter test xs)) h.0 ∙ filtered test more false xs h.1

flat_kept : (test : List ℕ → Bool) (rows kept : List ℕ → List (List ℕ)) (xs : List (List ℕ)) → Each (λ x. rows x ≡ (if test x then kept x else [])) xs → flat_map rows xs ≡ flat_map kept (filter test xs)
flat_kept test rows kept [] h = refl
flat_kept test rows kept (x ∷ xs) h = ap (λ (r : List (List ℕ)). r ++ flat_map rows xs) h.0 ∙ cases (test x) (flat_kept test rows kept xs h.1)
  where
    cases : (b : Bool) → flat_map rows xs ≡ flat_map kept (filter test xs) → (if b then kept x else []) ++ flat_map rows xs ≡ flat_map kept (cond b (x ∷ filter test xs) (filter test xs))
    cases true r = ap (λ (r : List (List ℕ)). kept x ++ r) r
    cases false r = r

-- ---- one parameter after another

module _ (p : Pair) (s : Schema) (has : HasObjects p) (known : list_all (is_known_literal p) (conjuncts s.pre true) ≡ true) where
  abbrev checks : List Check
  checks = checks_of p s.params (conjuncts s.pre true)

  abbrev rows : List Typed → List (List ℕ)
  rows ts = filter (survives p s) (tuples p ts)

  checked : (os : List ℕ) → Each (IsObject p) os → survives p s os ≡ list_all (passes p os) checks
  unfolding survives
  checked os valid = all_spared p s has os valid (conjuncts s.pre true) known

  one_step : (os : List ℕ) → Each (IsObject p) os → (o : ℕ) → IsObject p o → survives p s (os ++ o ∷ []) ≡ (survives p s os && extends p checks (os ++ o ∷ []))
  one_step os valid o h =
      checked (os ++ o ∷ []) ((each_append (IsObject p) os (o ∷ [])).1 (valid, (h, tt)))
      ∙ all_extended p os o checks (checks_wait p s.params (conjuncts s.pre true))
      ∙ ap (λ (b : Bool). b && extends p checks (os ++ o ∷ [])) (sym (checked os valid))

  steps : (os : List ℕ) → Each (IsObject p) os → (objects : List ℕ) → Each (IsObject p) objects
      → Each (λ row. survives p s row ≡ (survives p s os && extends p checks row)) (longer objects os)
  steps os valid [] h = tt
  steps os valid (o ∷ objects) h = (one_step os valid o h.0, steps os valid objects h.1)

  rows_extended : (objects : List ℕ) → Each (IsObject p) objects → (xs : List (List ℕ)) → Each (Each (IsObject p)) xs
      → Each (λ os. filter (survives p s) (longer objects os) ≡ (if survives p s os then extensions p checks objects os else [])) xs
  rows_extended objects h [] v = tt
  rows_extended objects h (os ∷ xs) v = (filtered (survives p s) (extends p checks) (survives p s os) (longer objects os) (steps os v.0 objects h), rows_extended objects h xs v.1)

  pub next : (ts : List Typed) (t : Typed) → rows (ts ++ t ∷ []) ≡ next_rows p checks t (rows ts)
  next ts t =
      ap (filter (survives p s)) (tuples_more p ts t)
      ∙ filter_flat (survives p s) (longer (fitting p t)) (tuples p ts)
      ∙ flat_kept (survives p s) (λ os. filter (survives p s) (longer (fitting p t) os)) (extensions p checks (fitting p t)) (tuples p ts)
      (rows_extended (fitting p t) (fitting_objects p t) (tuples p ts) (tuples_objects p ts))

  first_row : first_rows p checks ≡ rows []
  first_row = ap (λ (b : Bool). cond b ([] ∷ []) []) (sym (checked [] tt ∙ none_extended p checks))

  all_grown : (done rest : List Typed) → grown p checks rest (rows done) ≡ rows (done ++ rest)
  all_grown done [] = ap rows (sym (append-nil done))
  all_grown done (t ∷ rest) =
      ap (grown p checks rest) (sym (next done t)) ∙ all_grown (done ++ t ∷ []) rest ∙ ap rows (append_assoc done (t ∷ []) rest)

  prefix_rows : (done rest : List Typed) → s.params ≡ done ++ rest → prefixes_of p s (length done) ≡ rows done
  unfolding prefixes_of
  prefix_rows done rest is = ap rows (ap (take (length done)) is ∙ take_at done rest (length done) refl)

  all_counted : (done rest : List Typed) → s.params ≡ done ++ rest
      → counted p checks rest (rows done) ≡ sum (map (λ k. length (prefixes_of p s k)) (range_with_len (length done + 1) (length rest)))
  all_counted done [] is = refl
  all_counted done (t ∷ rest) is =
      let again : s.params ≡ (done ++ t ∷ []) ++ rest = is ∙ sym (append_assoc done (t ∷ []) rest) in
      let one : length (done ++ t ∷ []) ≡ length done + 1 = length-append done (t ∷ []) in
      let here : length (next_rows p checks t (rows done)) ≡ length (prefixes_of p s (length done + 1)) =
      ap length (sym (next done t) ∙ sym (prefix_rows (done ++ t ∷ []) rest again)) ∙ ap (λ (k : ℕ). length (prefixes_of p s k)) one in
      let behind : counted p checks rest (next_rows p checks t (rows done)) ≡ sum (map (λ k. length (prefixes_of p s k)) (range_with_len (length done + 1 + 1) (length rest))) =
      ap (counted p checks rest) (sym (next done t)) ∙ all_counted (done ++ t ∷ []) rest again
      ∙ ap (λ (k : ℕ). sum (map (λ j. length (prefixes_of p s j)) (range_with_len (k + 1) (length rest)))) one in
      ap (λ (n : ℕ). n + counted p checks rest (next_rows p checks t (rows done))) here
      ∙ ap (λ (n : ℕ). length (prefixes_of p s (length done + 1)) + n) behind
      ∙ sym (sum_by-cons (λ n. n) (length (prefixes_of p s (length done + 1))) (map (λ k. length (prefixes_of p s k)) (range_with_len (length done + 1 + 1) (length rest))))

  pub bindings_grown : grown p checks s.params (first_rows p checks) ≡ bindings p s
  bindings_grown = ap (grown p checks s.params) first_row ∙ all_grown [] s.params ∙ sym (prefix_rows s.params [] (sym (append-nil s.params)))

  pub prefixes_counted : counted p checks s.params (first_rows p checks) ≡ prefix_count p s
  unfolding prefix_count
  prefixes_counted = ap (counted p checks s.params) first_row ∙ all_counted [] s.params refl
