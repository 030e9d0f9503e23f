-- What is known of a conjunction, or at `false` of a disjunction, from what is known of its members.
use Rattle.std.specs.Prelude.{Bool, true, false, List, [], ◌∷◌, Option, Some, None}

-- with one more member: a false one decides a conjunction, and a true one a disjunction
abbrev pub with_truth : Bool → Option Bool → Option Bool → Option Bool
with_truth true (Some true) t = t
with_truth true (Some false) t = Some false
with_truth true None (Some true) = None
with_truth true None (Some false) = Some false
with_truth true None None = None
with_truth false (Some true) t = Some true
with_truth false (Some false) t = t
with_truth false None (Some true) = Some true
with_truth false None (Some false) = None
with_truth false None None = None

abbrev pub truths : Bool → Option Bool → List (Option Bool) → Option Bool
truths conjunction so_far [] = so_far
truths conjunction so_far (t ∷ ts) = truths conjunction (with_truth conjunction so_far t) ts

-- whether the whole is decided, whatever the further members are
abbrev pub decides : Bool → Option Bool → Bool
decides true (Some true) = false
decides true (Some false) = true
decides false (Some true) = true
decides false (Some false) = false
decides conjunction None = false
