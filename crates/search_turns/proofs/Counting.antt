-- What is counted, as events come.
use Rattle.std.proofs.Common.{◌≡◌, ℕ, ◌<◌, ◌≤◌, ◌+◌, Bool, true, false, List, [], ◌∷◌, ◌++◌, refl, sym, subst, ◌∙◌, arith}
use Rattle.search_runs.proofs.Marks.{takes-Take, takes-Give, takes-Starve}
use Rattle.search_runs.proofs.Stays.{starved-Starve}
use Rattle.search_runs.specs.Runs.{has_starve, has_starved}
use Rattle.search_runs.specs.declared.events.Event.{Event}
use Rattle.search_runs.specs.declared.events.Event.TheVariants.{Start, Take, Give, Starve}
use Rattle.search_turns.proofs.Answering.{unstarved_less, unstarved_within}
use Rattle.search_turns.specs.Turns.{AreCounted}

pub starve_Take : (j : List Event) (w n : ℕ) → has_starve (j ++ Take w n ∷ []) ≡ has_starve j
starve_Take [] w n = refl
starve_Take (Start ∷ j) w n = starve_Take j w n
starve_Take (Take v m ∷ j) w n = starve_Take j w n
starve_Take (Give v m ∷ j) w n = starve_Take j w n
starve_Take (Starve v ∷ j) w n = refl

starve_Give : (j : List Event) (w n : ℕ) → has_starve (j ++ Give w n ∷ []) ≡ has_starve j
starve_Give [] w n = refl
starve_Give (Start ∷ j) w n = starve_Give j w n
starve_Give (Take v m ∷ j) w n = starve_Give j w n
starve_Give (Give v m ∷ j) w n = starve_Give j w n
starve_Give (Starve v ∷ j) w n = refl

-- the same, with the journal, its length and its room by other names
pub counted_as : (limit workers : ℕ) {j i : List Event} {takes more : ℕ} {starved now : Bool} {len long : ℕ} (capacity : ℕ) → i ≡ j → more ≡ takes → now ≡ starved → long ≡ len
    → AreCounted j limit workers takes starved len capacity → AreCounted i limit workers more now long capacity
counted_as limit workers {j} {i} {takes} {more} {starved} {now} {len} {long} capacity p q r s is =
    subst (λ k. AreCounted k limit workers more now long capacity) (sym p)
    (subst (λ k. AreCounted j limit workers k now long capacity) (sym q)
    (subst (λ k. AreCounted j limit workers takes k long capacity) (sym r)
    (subst (λ k. AreCounted j limit workers takes starved k capacity) (sym s) is)))

pub counted_take : (j : List Event) (limit workers takes : ℕ) (starved : Bool) (len old new w n : ℕ) → AreCounted j limit workers takes starved len old → takes < limit → len + (workers + 1) ≤ new
    → AreCounted (j ++ Take w n ∷ []) limit workers (takes + 1) starved (len + 1) new
counted_take j limit workers takes starved len old new w n is less room = record {
  takes_are = omega (arith, is.takes_are, takes-Take j w n);
  few_takes = omega (arith, less);
  starved_is = is.starved_is ∙ sym (starve_Take j w n);
  few_workers = is.few_workers;
  room = omega (arith, room, unstarved_within workers (j ++ Take w n ∷ []));
}

pub counted_give : (j : List Event) (limit workers takes : ℕ) (starved : Bool) (len old new w n : ℕ) → AreCounted j limit workers takes starved len old → len + (workers + 1) ≤ new
    → AreCounted (j ++ Give w n ∷ []) limit workers takes starved (len + 1) new
counted_give j limit workers takes starved len old new w n is room = record {
  takes_are = is.takes_are ∙ sym (takes-Give j w n);
  few_takes = is.few_takes;
  starved_is = is.starved_is ∙ sym (starve_Give j w n);
  few_workers = is.few_workers;
  room = omega (arith, room, unstarved_within workers (j ++ Give w n ∷ []));
}

pub counted_starve : (j : List Event) (limit workers takes : ℕ) (starved : Bool) (len old new w : ℕ) → AreCounted j limit workers takes starved len old → w < workers → has_starved w j ≡ false → old ≤ new
    → AreCounted (j ++ Starve w ∷ []) limit workers takes true (len + 1) new
counted_starve j limit workers takes starved len old new w is below once room = record {
  takes_are = is.takes_are ∙ sym (takes-Starve j w);
  few_takes = is.few_takes;
  starved_is = sym (starved-Starve j w);
  few_workers = is.few_workers;
  room = omega (arith, room, is.room, unstarved_less workers j w below once);
}

-- there is room for a worker that may still starve
pub starve_room : (j : List Event) (limit workers takes : ℕ) (starved : Bool) (len capacity w : ℕ) → AreCounted j limit workers takes starved len capacity → w < workers → has_starved w j ≡ false → len < capacity
starve_room j limit workers takes starved len capacity w is below once = omega (arith, is.room, unstarved_less workers j w below once)

-- the same with more room
pub counted_room : (j : List Event) (limit workers takes : ℕ) (starved : Bool) (len old new : ℕ) → AreCounted j limit workers takes starved len old → old ≤ new → AreCounted j limit workers takes starved len new
counted_room j limit workers takes starved len old new is room = record {
  takes_are = is.takes_are;
  few_takes = is.few_takes;
  starved_is = is.starved_is;
  few_workers = is.few_workers;
  room = omega (arith, is.room, room);
}

pub counted_start : (limit workers new : ℕ) → workers ≤ 1000000 → 0 + (workers + 1) ≤ new → AreCounted (Start ∷ []) limit workers 0 false 1 new
counted_start limit workers new few room = record {
  takes_are = refl;
  few_takes = omega arith;
  starved_is = refl;
  few_workers = few;
  room = omega (arith, room, unstarved_within workers (Start ∷ []));
}
