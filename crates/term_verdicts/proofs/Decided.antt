-- What is known of a conjunction or a disjunction is what is known of its members.
use Rattle.std.proofs.Common.{◌≡◌, ◌++◌, Bool, true, false, not, List, [], ◌∷◌, map, Option, Some, None, Result, Ok, Err, refl, sym, ap, ◌∙◌}
use Rattle.std.specs.Prelude.{flat_map, if◌then◌else◌}
use Rattle.std.specs.List.{list_any}
use Rattle.pddl_types.specs.WellFormed.{Each}
use Rattle.ground_task.specs.declared.raw.GCond.{GCond}
use Rattle.ground_task.specs.declared.raw.GCond.TheVariants as c
use Rattle.ground_task.specs.Ranged.{top_conjuncts}
use Rattle.ground_meaning.specs.Results.{all_answers, mapped}
use Rattle.ground_meaning.specs.Expressions.{FoldFault}
use Rattle.ground_meaning.specs.Conditions.{Settled, all_of, any_of, is_decided, joined, remaining_members, top_disjuncts}
use Rattle.ground_meaning.specs.Conditions.Settled.{decided, remaining}
use Rattle.term_patterns.specs.Bound.{joins}
use Rattle.term_verdicts.specs.Verdicts.{fault_alone, truth_of}
use Rattle.term_verdicts.specs.internal.Truths.{decides, truths, with_truth}
use Rattle.term_verdicts.proofs.Chained.{all_mapped, mapped_twice}
use Rattle.term_verdicts.proofs.Filled.{AreFull, IsFull, NotEmpty, filled_conjuncts, filled_disjuncts}

decided_whole : (conjunction : Bool) (ts : List (Option Bool)) → truths conjunction (Some (not conjunction)) ts ≡ Some (not conjunction)
decided_whole true [] = refl
decided_whole true (t ∷ ts) = decided_whole true ts
decided_whole false [] = refl
decided_whole false (t ∷ ts) = decided_whole false ts

undecided_all : (ss : List Settled) → truths true None (map truth_of ss) ≡ (if list_any (is_decided false) ss then Some false else None)
undecided_all [] = refl
undecided_all (decided true ∷ ss) = undecided_all ss
undecided_all (decided false ∷ ss) = decided_whole true (map truth_of ss)
undecided_all (remaining g ∷ ss) = undecided_all ss

undecided_any : (ss : List Settled) → truths false None (map truth_of ss) ≡ (if list_any (is_decided true) ss then Some true else None)
undecided_any [] = refl
undecided_any (decided true ∷ ss) = decided_whole false (map truth_of ss)
undecided_any (decided false ∷ ss) = undecided_any ss
undecided_any (remaining g ∷ ss) = undecided_any ss

joined_remaining : (empty : Bool) (make : List GCond → GCond) (gs hs : List GCond) → NotEmpty gs → truth_of (joined empty make (gs ++ hs)) ≡ None
joined_remaining empty make [] hs h = elim h [ ]
joined_remaining empty make (g ∷ []) [] h = refl
joined_remaining empty make (g ∷ []) (k ∷ hs) h = refl
joined_remaining empty make (g ∷ k ∷ gs) hs h = refl

either_truth : (test truth : Bool) (s : Settled) → truth_of s ≡ None → (if test then Some truth else None) ≡ truth_of (if test then decided truth else s)
either_truth true truth s h = refl
either_truth false truth s h = sym h

truths_all : (ss : List Settled) → Each IsFull ss → truths true (Some true) (map truth_of ss) ≡ truth_of (all_of ss)
truths_all [] h = refl
truths_all (decided true ∷ ss) h = truths_all ss h.1
truths_all (decided false ∷ ss) h = decided_whole true (map truth_of ss)
truths_all (remaining g ∷ ss) h =
    undecided_all ss
    ∙ either_truth (list_any (is_decided false) ss) false (joined true c.And (top_conjuncts g ++ flat_map (remaining_members top_conjuncts) ss))
    (joined_remaining true c.And (top_conjuncts g) (flat_map (remaining_members top_conjuncts) ss) (filled_conjuncts g h.0).0)

truths_any : (ss : List Settled) → Each IsFull ss → truths false (Some false) (map truth_of ss) ≡ truth_of (any_of ss)
truths_any [] h = refl
truths_any (decided true ∷ ss) h = decided_whole false (map truth_of ss)
truths_any (decided false ∷ ss) h = truths_any ss h.1
truths_any (remaining g ∷ ss) h =
    undecided_any ss
    ∙ either_truth (list_any (is_decided true) ss) true (joined false c.Or (top_disjuncts g ++ flat_map (remaining_members top_disjuncts) ss))
    (joined_remaining false c.Or (top_disjuncts g) (flat_map (remaining_members top_disjuncts) ss) (filled_disjuncts g h.0).0)

truths_joined : (conjunction : Bool) (ss : List Settled) → Each IsFull ss → truth_of (joins conjunction ss) ≡ truths conjunction (Some conjunction) (map truth_of ss)
truths_joined true ss h = sym (truths_all ss h)
truths_joined false ss h = sym (truths_any ss h)

-- where members are folded
joined_answers : (conjunction : Bool) (r : Result (List Settled) FoldFault) → AreFull r
    → mapped (λ ss. truth_of (joins conjunction ss)) r ≡ mapped (λ ss. truths conjunction (Some conjunction) (map truth_of ss)) r
joined_answers conjunction (Ok ss) h = ap Ok (truths_joined conjunction ss h)
joined_answers conjunction (Err f) h = refl

pub members_known : (conjunction : Bool) (rs : List (Result Settled FoldFault)) → AreFull (all_answers rs)
    → mapped truth_of (mapped (joins conjunction) (all_answers rs)) ≡ mapped (truths conjunction (Some conjunction)) (all_answers (map (mapped truth_of) rs))
members_known conjunction rs h =
    mapped_twice truth_of (joins conjunction) (all_answers rs)
    ∙ joined_answers conjunction (all_answers rs) h
    ∙ sym (mapped_twice (truths conjunction (Some conjunction)) (map truth_of) (all_answers rs))
    ∙ ap (mapped (truths conjunction (Some conjunction))) (all_mapped truth_of rs)

-- ---- one member after another

stays : (conjunction : Bool) (t a : Option Bool) → decides conjunction t ≡ true → with_truth conjunction t a ≡ t
stays true (Some true) a h = cc
stays true (Some false) a h = refl
stays true None a h = cc
stays false (Some true) a h = refl
stays false (Some false) a h = cc
stays false None a h = cc

pub stays_decided : (conjunction : Bool) (t : Option Bool) (r : Result (Option Bool) FoldFault) (u : Unit {0}) → decides conjunction t ≡ true → fault_alone r ≡ Ok u
    → mapped (with_truth conjunction t) r ≡ Ok t
stays_decided conjunction t (Ok a) u d h = ap Ok (stays conjunction t a d)
stays_decided conjunction t (Err f) u d h = cc

pub next_member : (conjunction : Bool) (t v : Option Bool) (r : Result (Option Bool) FoldFault) (rs : List (Result (Option Bool) FoldFault)) → mapped (with_truth conjunction t) r ≡ Ok v
    → mapped (truths conjunction t) (all_answers (r ∷ rs)) ≡ mapped (truths conjunction v) (all_answers rs)
next_member conjunction t v (Ok a) rs h =
    let same : with_truth conjunction t a ≡ v = cc in
    mapped_twice (truths conjunction t) (λ (found : List (Option Bool)). a ∷ found) (all_answers rs)
    ∙ ap (λ (s : Option Bool). mapped (truths conjunction s) (all_answers rs)) same
next_member conjunction t v (Err f) rs h = cc

pub member_fault : {A B : Type 0} (make : List A → B) (r : Result A FoldFault) (rs : List (Result A FoldFault)) (f : FoldFault) → r ≡ Err f → mapped make (all_answers (r ∷ rs)) ≡ Err f
member_fault {A} make r rs f h = ap (λ (s : Result A FoldFault). mapped make (all_answers (s ∷ rs))) h
