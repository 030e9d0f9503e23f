-- The answer by its cases, and who may still starve.
use Rattle.std.proofs.Common.{◌≡◌, ℕ, ◌<◌, ◌≤◌, ◌+◌, ◌==◌, ◌||◌, zero, suc, Bool, true, false, cond, List, [], ◌∷◌, ◌++◌, Option, None, Some, refl, ap, subst, ◌∙◌, inl, inr, arith, if◌then◌else◌, nat_lt}
use Rattle.std.proofs.lemmas.Bool.{cases_order, eq-eqb, eqb-true, false_from_ne_true, lt-ltb, ltb-true}
use Rattle.std.specs.Prelude.{is_some}
use Rattle.std.specs.Option.{option_map}
use Rattle.search_runs.specs.Answers.{answer_of, count, first_where, is_goal, is_taken, is_waiting, when_idle}
use Rattle.search_runs.specs.Nodes.{Config}
use Rattle.search_runs.specs.Runs.{count_takes, has_starve, has_starved}
use Rattle.search_runs.specs.declared.answers.Answer.{Answer}
use Rattle.search_runs.specs.declared.answers.Answer.TheVariants.{Plan, Exhausted, Expansions, Filled, Starved}
use Rattle.search_runs.specs.declared.answers.Answer.TheVariants as answer
use Rattle.search_runs.specs.declared.answers.Full.{Full}
use Rattle.search_runs.specs.declared.answers.Site.{Site}
use Rattle.search_runs.specs.declared.events.Event.{Event}
use Rattle.search_runs.specs.declared.events.Event.TheVariants.{Start, Take, Give, Starve}
use Rattle.search_runs.specs.declared.nodes.Node.{Node}
use Rattle.search_runs.specs.declared.nodes.Status.{Status}
use Rattle.search_turns.specs.Turns.{count_unstarved}

-- where none is counted, none is there
pub first_none : {S : Type 0} (p : Status → Bool) (nodes : List (Node S)) → count p nodes ≡ 0 → first_where p nodes ≡ None
first_none p [] none = refl
first_none p (x ∷ nodes) none = by (p x.status) none (first_none p nodes)
  where
    by : (b : Bool) → cond b 1 0 + count p nodes ≡ 0 → (count p nodes ≡ 0 → first_where p nodes ≡ None) → (if b then Some 0 else option_map suc (first_where p nodes)) ≡ None
    by true some rest = absurd (omega (arith, some))
    by false some rest = ap (option_map suc) (rest (omega (arith, some)))

-- and where one is counted, one is
pub first_some : {S : Type 0} (p : Status → Bool) (nodes : List (Node S)) → 0 < count p nodes → (n : ℕ) × (first_where p nodes ≡ Some n)
first_some p [] some = absurd (omega (arith, some))
first_some p (x ∷ nodes) some = by (p x.status) some (first_some p nodes)
  where
    by : (b : Bool) → 0 < cond b 1 0 + count p nodes → (0 < count p nodes → (n : ℕ) × (first_where p nodes ≡ Some n)) → (n : ℕ) × ((if b then Some 0 else option_map suc (first_where p nodes)) ≡ Some n)
    by true some rest = (0, refl)
    by false some rest = let r = rest (omega (arith, some)) in (suc r.0, ap (option_map suc) r.1)

module _ {S B : Type 0} (limit : ℕ) (j : List Event) (c : Config S B) where
  abbrev after_goal : Option ℕ → Option Answer
  after_goal o = elim o as (λ _. Option Answer) [ Some n ↦ Some (Plan n) | None ↦ if has_starve j then Some Starved else elim (first_where is_taken c.nodes) [ Some n ↦ None | None ↦ when_idle limit j c ] ]

  abbrev after_starve : Bool → Option Answer
  after_starve b = if b then Some Starved else elim (first_where is_taken c.nodes) as (λ _. Option Answer) [ Some n ↦ None | None ↦ when_idle limit j c ]

  abbrev after_taken : Option ℕ → Option Answer
  after_taken o = elim o as (λ _. Option Answer) [ Some n ↦ None | None ↦ when_idle limit j c ]

  pub answer_plan : (n : ℕ) → first_where is_goal c.nodes ≡ Some n → answer_of limit j c ≡ Some (Plan n)
  answer_plan n e = ap after_goal e

  pub answer_starved : first_where is_goal c.nodes ≡ None → has_starve j ≡ true → answer_of limit j c ≡ Some Starved
  answer_starved e s = ap after_goal e ∙ ap after_starve s

  pub answer_taken : first_where is_goal c.nodes ≡ None → has_starve j ≡ false → 0 < count is_taken c.nodes → answer_of limit j c ≡ None
  answer_taken e s some = ap after_goal e ∙ ap after_starve s ∙ ap after_taken (first_some is_taken c.nodes some).1

  pub answer_idle : first_where is_goal c.nodes ≡ None → has_starve j ≡ false → count is_taken c.nodes ≡ 0 → answer_of limit j c ≡ when_idle limit j c
  answer_idle e s none = ap after_goal e ∙ ap after_starve s ∙ ap after_taken (first_none is_taken c.nodes none)

  pub answer_taken_at : (n : ℕ) → first_where is_goal c.nodes ≡ None → has_starve j ≡ false → first_where is_taken c.nodes ≡ Some n → answer_of limit j c ≡ None
  answer_taken_at n e s taken = ap after_goal e ∙ ap after_starve s ∙ ap after_taken taken

  pub answer_idle_at : first_where is_goal c.nodes ≡ None → has_starve j ≡ false → first_where is_taken c.nodes ≡ None → answer_of limit j c ≡ when_idle limit j c
  answer_idle_at e s none = ap after_goal e ∙ ap after_starve s ∙ ap after_taken none

  abbrev after_site : Option (ℕ × Site) → Option Answer
  after_site o = elim o as (λ _. Option Answer) [ Some p ↦ Some (answer.Over p.0 p.1) | None ↦ Some Exhausted ]

  abbrev after_waiting : Option ℕ → Option Answer
  after_waiting o = elim o as (λ _. Option Answer) [ Some n ↦ if nat_lt (count_takes j) limit then None else Some Expansions | None ↦ elim c.over [ Some p ↦ Some (answer.Over p.0 p.1) | None ↦ Some Exhausted ] ]

  abbrev after_mark : Option Full → Option Answer
  after_mark o = elim o as (λ _. Option Answer) [ Some f ↦ Some (Filled f) | None ↦ elim (first_where is_waiting c.nodes) [ Some n ↦ if nat_lt (count_takes j) limit then None else Some Expansions | None ↦ elim c.over [ Some p ↦ Some (answer.Over p.0 p.1) | None ↦ Some Exhausted ] ] ]

  pub idle_filled : (f : Full) → c.full ≡ Some f → when_idle limit j c ≡ Some (Filled f)
  idle_filled f e = ap after_mark e

  waiting_is : is_some (first_where is_waiting c.nodes) ≡ true → (n : ℕ) × (first_where is_waiting c.nodes ≡ Some n)
  waiting_is some = by (first_where is_waiting c.nodes) refl some
    where
      by : (o : Option ℕ) → first_where is_waiting c.nodes ≡ o → is_some o ≡ true → (n : ℕ) × (first_where is_waiting c.nodes ≡ Some n)
      by None e is = cc
      by (Some n) e is = (n, e)

  none_waiting : is_some (first_where is_waiting c.nodes) ≡ false → first_where is_waiting c.nodes ≡ None
  none_waiting none = by (first_where is_waiting c.nodes) refl none
    where
      by : (o : Option ℕ) → first_where is_waiting c.nodes ≡ o → is_some o ≡ false → first_where is_waiting c.nodes ≡ None
      by None e is = e
      by (Some n) e is = cc

  pub idle_open : c.full ≡ None → is_some (first_where is_waiting c.nodes) ≡ true → count_takes j < limit → when_idle limit j c ≡ None
  idle_open e some less = ap after_mark e ∙ ap after_waiting (waiting_is some).1 ∙ ap (λ b. if b then None else Some Expansions) (lt-ltb (count_takes j) limit less)

  pub idle_limit : c.full ≡ None → is_some (first_where is_waiting c.nodes) ≡ true → limit ≤ count_takes j → when_idle limit j c ≡ Some Expansions
  idle_limit e some past =
      ap after_mark e ∙ ap after_waiting (waiting_is some).1 ∙ ap (λ b. if b then None else Some Expansions) (false_from_ne_true (nat_lt (count_takes j) limit) (λ less. absurd (omega (arith, past, ltb-true (count_takes j) limit less))))

  pub idle_over : (n : ℕ) (p : Site) → c.full ≡ None → is_some (first_where is_waiting c.nodes) ≡ false → c.over ≡ Some (n, p) → when_idle limit j c ≡ Some (answer.Over n p)
  idle_over n p e none over = ap after_mark e ∙ ap after_waiting (none_waiting none) ∙ ap after_site over

  pub idle_exhausted : c.full ≡ None → is_some (first_where is_waiting c.nodes) ≡ false → c.over ≡ None → when_idle limit j c ≡ Some Exhausted
  idle_exhausted e none over = ap after_mark e ∙ ap after_waiting (none_waiting none) ∙ ap after_site over

-- who may still starve

pub unstarved_within : (w : ℕ) (j : List Event) → count_unstarved w j ≤ w
unstarved_within zero j = omega arith
unstarved_within (suc w) j = by (has_starved w j) (unstarved_within w j)
  where
    by : (b : Bool) → count_unstarved w j ≤ w → cond b 0 1 + count_unstarved w j ≤ suc w
    by true h = omega (arith, h)
    by false h = omega (arith, h)

pub starved_snoc : (v : ℕ) (j : List Event) (w : ℕ) → has_starved v (j ++ Starve w ∷ []) ≡ (w == v || has_starved v j)
starved_snoc v [] w = refl
starved_snoc v (Start ∷ j) w = starved_snoc v j w
starved_snoc v (Take u n ∷ j) w = starved_snoc v j w
starved_snoc v (Give u n ∷ j) w = starved_snoc v j w
starved_snoc v (Starve u ∷ j) w = ap (λ b. u == v || b) (starved_snoc v j w) ∙ swap (u == v) (w == v) (has_starved v j)
  where
    swap : (a b c : Bool) → (a || (b || c)) ≡ (b || (a || c))
    swap true true c = refl
    swap true false c = refl
    swap false true c = refl
    swap false false c = refl

unstarved_past : (v : ℕ) (j : List Event) (w : ℕ) → v ≤ w → count_unstarved v (j ++ Starve w ∷ []) ≡ count_unstarved v j
unstarved_past zero j w past = refl
unstarved_past (suc v) j w past =
    let other : (w == v) ≡ false = false_from_ne_true (w == v) (λ e. let same : w ≡ v = eqb-true w v e in absurd (omega (arith, past, same))) in
    let one : has_starved v (j ++ Starve w ∷ []) ≡ has_starved v j = starved_snoc v j w ∙ ap (λ b. b || has_starved v j) other in
    λ i. cond {A = ℕ} (one i) 0 1 + unstarved_past v j w (omega (arith, past)) i

-- one worker fewer may starve
pub unstarved_less : (v : ℕ) (j : List Event) (w : ℕ) → w < v → has_starved w j ≡ false → count_unstarved v (j ++ Starve w ∷ []) + 1 ≡ count_unstarved v j
unstarved_less zero j w below once = absurd (omega (arith, below))
unstarved_less (suc v) j w below once =
    elim (cases_order w v) [
      | inl same ↦ here same
      | inr (inl less) ↦ later less (unstarved_less v j w less once)
      | inr (inr more) ↦ absurd (omega (arith, below, more))
    ]
  where
    here : w ≡ v → count_unstarved (suc v) (j ++ Starve w ∷ []) + 1 ≡ count_unstarved (suc v) j
    here same =
        let starved : has_starved v (j ++ Starve w ∷ []) ≡ true = starved_snoc v j w ∙ ap (λ b. b || has_starved v j) (eq-eqb w v same) in
        let before : has_starved v j ≡ false = subst (λ u. has_starved u j ≡ false) same once in
        let none : ◌≡◌ {A = ℕ} (cond (has_starved v (j ++ Starve w ∷ [])) 0 1) 0 = ap (λ b. cond {A = ℕ} b 0 1) starved in
        let one : ◌≡◌ {A = ℕ} (cond (has_starved v j) 0 1) 1 = ap (λ b. cond {A = ℕ} b 0 1) before in
        omega (arith, none, one, unstarved_past v j w (omega (arith, same)))

    later : w < v → count_unstarved v (j ++ Starve w ∷ []) + 1 ≡ count_unstarved v j → count_unstarved (suc v) (j ++ Starve w ∷ []) + 1 ≡ count_unstarved (suc v) j
    later less rest =
        let other : (w == v) ≡ false = false_from_ne_true (w == v) (λ e. let same : w ≡ v = eqb-true w v e in absurd (omega (arith, less, same))) in
        let one : has_starved v (j ++ Starve w ∷ []) ≡ has_starved v j = starved_snoc v j w ∙ ap (λ b. b || has_starved v j) other in
        let count : ◌≡◌ {A = ℕ} (cond (has_starved v (j ++ Starve w ∷ [])) 0 1) (cond (has_starved v j) 0 1) = ap (λ b. cond {A = ℕ} b 0 1) one in
        omega (arith, count, rest)
