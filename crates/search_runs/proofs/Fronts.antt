-- The first events of a run are a run, and what a worker has taken then stays its own.
use Rattle.std.proofs.Common.{◌≡◌, ◌≢◌, ℕ, ◌<◌, ◌⊎◌, List, [], ◌∷◌, ◌++◌, length, refl, sym, ap, subst, ◌∙◌, inl, inr, arith, length-append}
use Rattle.std.proofs.lemmas.List.{append_assoc, append-nil}
use Rattle.search_runs.proofs.Stability.{stays_at}
use Rattle.search_runs.specs.Later.{Continues, NeverGives, Stays}
use Rattle.search_runs.specs.Nodes.{Config}
use Rattle.search_runs.specs.Runs.{Leads, Run, starts, goes_on}
use Rattle.search_runs.specs.Spaces.{IsAt, Space}
use Rattle.search_runs.specs.declared.events.Event.{Event}
use Rattle.search_runs.specs.declared.events.Event.TheVariants.{Give}
use Rattle.search_runs.specs.declared.nodes.Node.{Node}
use Rattle.search_runs.specs.declared.nodes.Status.TheVariants.{Taken}

snoc_view : {X : Type 0} (xs : List X) → (xs ≡ []) ⊎ ((ys : List X) × (y : X) × (xs ≡ ys ++ y ∷ []))
snoc_view [] = inl refl
snoc_view (x ∷ xs) =
    elim (snoc_view xs) [
      | inl none ↦ inr ([], x, ap (λ k. x ∷ k) none)
      | inr (ys, y, is) ↦ inr (x ∷ ys, y, ap (λ k. x ∷ k) is)
    ]

snoc_is : (xs ys : List Event) (x y : Event) → xs ++ x ∷ [] ≡ ys ++ y ∷ [] → (xs ≡ ys) × (x ≡ y)
snoc_is [] [] x y e = (refl, cc)
snoc_is [] (z ∷ ys) x y e = absurd (omega (arith, ap length e, length-append ys (y ∷ [])))
snoc_is (z ∷ xs) [] x y e = absurd (omega (arith, ap length e, length-append xs (x ∷ [])))
snoc_is (z ∷ xs) (w ∷ ys) x y e =
    let first : z ≡ w = cc in
    let rest : xs ++ x ∷ [] ≡ ys ++ y ∷ [] = cc in
    let r = snoc_is xs ys x y rest in
    ((λ i. first i ∷ r.0 i), r.1)

never_front : (w n : ℕ) (xs : List Event) (e : Event) → NeverGives w n (xs ++ e ∷ []) → NeverGives w n xs × (e ≢ Give w n)
never_front w n [] e never = (tt, never.0)
never_front w n (x ∷ xs) e never = let r = never_front w n xs e never.1 in ((never.0, r.0), r.1)

module _ {S B : Type 0} (g : Space S B) where
  -- nothing more came
  whole : (j more : List Event) (c : Config S B) → Run g j c → more ≡ [] → Continues g j more c
  whole j more c run none = record { config = c; run = run; taken = λ w n x at taken never. (x, at, refl, taken) }

  -- one event more came
  one_more : (j more : List Event) (e : Event) (k : List Event) (c d : Config S B) → Continues g j more c → Leads g k c e d → Continues g j (more ++ e ∷ []) d
  one_more j more e k c d is leads = record {
    config = is.config;
    run = is.run;
    taken = λ w n x at taken never. then w n x never (is.taken w n x at taken (never_front w n more e never).0);
  }
    where
      then : (w n : ℕ) (x : Node S) → NeverGives w n (more ++ e ∷ []) → (y : Node S) × IsAt c.nodes n y × (y.state ≡ x.state) × (y.status ≡ Taken w)
          → (y : Node S) × IsAt d.nodes n y × (y.state ≡ x.state) × (y.status ≡ Taken w)
      then w n x never (y, at, same, taken) =
          let stays : Stays e n y d = stays_at g k c e d leads n y at in
          let other : e ≢ Give w n = (never_front w n more e never).1 in
          (stays.node, stays.there, stays.state ∙ same, stays.taken w taken other)

  pub front_of : (i : List Event) (d : Config S B) → Run g i d → (j more : List Event) → i ≡ j ++ more → 0 < length j → Continues g j more d
  front_of _ _ (starts c enters) j more is some =
      elim (snoc_view more) [
        | inl none ↦ whole j more c (subst (λ k. Run g k c) (is ∙ ap (λ k. j ++ k) none ∙ append-nil j) (starts c enters)) none
        | inr (ys, y, last) ↦ absurd (omega (arith, some, ap length is, length-append j more, ap length last, length-append ys (y ∷ [])))
      ]
  front_of _ _ (goes_on k c e d run leads) j more is some =
      elim (snoc_view more) [
        | inl none ↦ whole j more d (subst (λ l. Run g l d) (is ∙ ap (λ l. j ++ l) none ∙ append-nil j) (goes_on k c e d run leads)) none
        | inr (ys, y, last) ↦
            let parts = snoc_is k (j ++ ys) e y (is ∙ ap (λ l. j ++ l) last ∙ sym (append_assoc j ys (y ∷ []))) in
            let before = front_of k c run j ys parts.0 some in
            subst (λ l. Continues g j l d) (ap (λ f. ys ++ f ∷ []) parts.1 ∙ sym last) (one_more j ys e k c d before leads)
      ]
