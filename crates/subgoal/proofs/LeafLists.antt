-- The numbers of the actions that pass a test.
use Rattle.std.proofs.Common.{◌≡◌, ℕ, ◌+◌, ◌<◌, ◌≤◌, ◌++◌, Bool, true, false, List, [], ◌∷◌, length, drop, get_or, map, refl, sym, ap, ◌∙◌, append_assoc}
use Rattle.std.proofs.lemmas.List.{drop_all, append-nil, get_or-map, length-map}
use Rattle.ground_task.specs.declared.raw.Ground.{Ground}
use Rattle.subgoal.specs.Leaves.{numbers_of}
use Rattle.subgoal.proofs.Steps.{next}

module _ (test : Ground → Bool) (actions : List Ground) (i : ℕ) (a other : Ground) (done : List ℕ) (within : i < length actions) (is : a ≡ get_or actions i other) where
  pub numbers_passed : test a ≡ true → (done ++ i ∷ []) ++ numbers_of test (i + 1) (drop (i + 1) actions) ≡ done ++ numbers_of test i (drop i actions)
  unfolding numbers_of
  numbers_passed e =
      append_assoc done (i ∷ []) (numbers_of test (i + 1) (drop (i + 1) actions))
      ∙ ap (λ (rest : List ℕ). done ++ rest) (sym (ap (numbers_of test i) (next actions i a other within is) ∙ rw e refl))

  pub numbers_failed : test a ≡ false → done ++ numbers_of test (i + 1) (drop (i + 1) actions) ≡ done ++ numbers_of test i (drop i actions)
  unfolding numbers_of
  numbers_failed e = ap (λ (rest : List ℕ). done ++ rest) (sym (ap (numbers_of test i) (next actions i a other within is) ∙ rw e refl))

pub numbers_end : (test : Ground → Bool) (actions : List Ground) (i : ℕ) (done : List ℕ) → length actions ≤ i → done ≡ done ++ numbers_of test i (drop i actions)
unfolding numbers_of
numbers_end test actions i done behind =
    sym (append-nil done) ∙ ap (λ (those : List Ground). done ++ numbers_of test i those) (sym (drop_all i actions behind))

-- ---- a function of each

module _ {X Y : Type 0} (f : X → Y) (xs : List X) (i : ℕ) (done : List Y) where
  pub mapped_next : (x other : X) (y : Y) → i < length xs → x ≡ get_or xs i other → y ≡ f x
      → (done ++ y ∷ []) ++ map f (drop (i + 1) xs) ≡ done ++ map f (drop i xs)
  mapped_next x other y within is its =
      append_assoc done (y ∷ []) (map f (drop (i + 1) xs))
      ∙ ap (λ (z : Y). done ++ z ∷ map f (drop (i + 1) xs)) its
      ∙ ap (λ (ys : List X). done ++ map f ys) (sym (next xs i x other within is))

  pub mapped_end : length xs ≤ i → done ≡ done ++ map f (drop i xs)
  mapped_end behind = sym (append-nil done) ∙ ap (λ (ys : List X). done ++ map f ys) (sym (drop_all i xs behind))

module _ {X Y : Type 0} (f : X → Y) (xs : List X) (ys : List Y) (are : ys ≡ map f xs) where
  pub mapped_long : length ys ≡ length xs
  mapped_long = ap length are ∙ length-map xs f

  pub mapped_at : (i : ℕ) (x other : X) (y another : Y) → i < length xs → x ≡ get_or xs i other → y ≡ get_or ys i another → y ≡ f x
  mapped_at i x other y another within is its =
      its ∙ ap (λ (zs : List Y). get_or zs i another) are ∙ get_or-map f xs i other another within ∙ ap f (sym is)
