-- The members that a condition adds to a conjunction or a disjunction.
use Rattle.std.proofs.Common.{◌≡◌, ◌++◌, ℕ, Bool, true, false, List, [], ◌∷◌, Result, map, refl, sym, ap, ap₂, ◌∙◌}
use Rattle.std.proofs.lemmas.List.{map-append}
use Rattle.ground_task.specs.declared.raw.Rel.{Rel}
use Rattle.ground_task.specs.declared.raw.GExpr.{GExpr}
use Rattle.ground_task.specs.declared.raw.GCond.{GCond, GCond-F, out-GCond, out-roll-GCond}
use Rattle.ground_task.specs.declared.raw.GCond.TheVariants as c
use Rattle.ground_task.specs.Ranged.{conjuncts_layer}
use Rattle.coded_actions.specs.declared.coded.CodedCond.{CodedCond}
use Rattle.coded_actions.specs.declared.coded.CodedCond.TheVariants as d
use Rattle.coded_actions.specs.Coded.{condition_of, expression_of}
use Rattle.coded_actions.proofs.Equations.{condition_And, condition_Cmp, condition_Fact, condition_False, condition_Or, condition_True}
use Rattle.coded_actions.proofs.Inductions.{induct_condition}
use Rattle.ground_meaning.specs.Results.{mapped}
use Rattle.ground_meaning.specs.Expressions.{FoldFault}
use Rattle.ground_meaning.specs.Conditions.{Settled, disjuncts_layer}
use Rattle.term_patterns.specs.Bound.{joins}
use Rattle.folded_terms.specs.declared.joints.CodedJoint.{CodedJoint}
use Rattle.folded_terms.specs.internal.Joints.{Joint, finished, joint_meaning, joint_of, top_members}
use Rattle.folded_terms.proofs.Answered.{mapped_same}
use Rattle.folded_terms.proofs.Joining.{joined_all}

-- ---- one layer

layer_of : Bool → GCond → GCond-F GCond → List GCond
layer_of true = conjuncts_layer
layer_of false = disjuncts_layer

opened : (conjunction : Bool) (g : GCond) (l : GCond-F GCond) → out-GCond g ≡ l → top_members conjunction g ≡ layer_of conjunction g l
unfolding layer_of
opened true g l e = ap (conjuncts_layer g) e
opened false g l e = ap (disjuncts_layer g) e

single : (conjunction : Bool) (g : GCond) (l : GCond-F GCond) → out-GCond g ≡ l → layer_of conjunction g l ≡ g ∷ [] → (h : GCond) → h ≡ g → top_members conjunction h ≡ h ∷ []
single conjunction g l e k h is = ap (top_members conjunction) is ∙ opened conjunction g l e ∙ k ∙ ap (λ (x : GCond). x ∷ []) (sym is)

single_True : (conjunction : Bool) → layer_of conjunction c.True GCond-F.True ≡ c.True ∷ []
unfolding layer_of
single_True true = refl
single_True false = refl

single_False : (conjunction : Bool) → layer_of conjunction c.False GCond-F.False ≡ c.False ∷ []
unfolding layer_of
single_False true = refl
single_False false = refl

single_Fact : (conjunction : Bool) (f : ℕ) (truth : Bool) → layer_of conjunction (c.Fact f truth) (GCond-F.Fact f truth) ≡ c.Fact f truth ∷ []
unfolding layer_of
single_Fact true f truth = refl
single_Fact false f truth = refl

single_Cmp : (conjunction : Bool) (r : Rel) (a b : GExpr) → layer_of conjunction (c.Cmp r a b) (GCond-F.Cmp r a b) ≡ c.Cmp r a b ∷ []
unfolding layer_of
single_Cmp true r a b = refl
single_Cmp false r a b = refl

open_And : (cs : List GCond) → out-GCond (c.And cs) ≡ GCond-F.And cs
open_And cs = ap out-GCond (sym (c.rolls-And cs)) ∙ out-roll-GCond (GCond-F.And cs)

open_Or : (cs : List GCond) → out-GCond (c.Or cs) ≡ GCond-F.Or cs
open_Or cs = ap out-GCond (sym (c.rolls-Or cs)) ∙ out-roll-GCond (GCond-F.Or cs)

-- ---- coded conditions

tops_of_And : (cs : List CodedCond) → top_members true (condition_of (d.And cs)) ≡ map condition_of cs
unfolding layer_of
tops_of_And cs = ap (top_members true) (condition_And cs) ∙ opened true (c.And (map condition_of cs)) (GCond-F.And (map condition_of cs)) (open_And (map condition_of cs))

tops_of_Or : (cs : List CodedCond) → top_members false (condition_of (d.Or cs)) ≡ map condition_of cs
unfolding layer_of
tops_of_Or cs = ap (top_members false) (condition_Or cs) ∙ opened false (c.Or (map condition_of cs)) (GCond-F.Or (map condition_of cs)) (open_Or (map condition_of cs))

only_And : (cs : List CodedCond) → top_members false (condition_of (d.And cs)) ≡ condition_of (d.And cs) ∷ []
unfolding layer_of
only_And cs = single false (c.And (map condition_of cs)) (GCond-F.And (map condition_of cs)) (open_And (map condition_of cs)) refl (condition_of (d.And cs)) (condition_And cs)

only_Or : (cs : List CodedCond) → top_members true (condition_of (d.Or cs)) ≡ condition_of (d.Or cs) ∷ []
unfolding layer_of
only_Or cs = single true (c.Or (map condition_of cs)) (GCond-F.Or (map condition_of cs)) (open_Or (map condition_of cs)) refl (condition_of (d.Or cs)) (condition_Or cs)

abbrev IsOther : CodedCond → Type 0
IsOther g = ((cs : List CodedCond) → g ≡ d.And cs → ⊥) → ((cs : List CodedCond) → g ≡ d.Or cs → ⊥) → (conjunction : Bool) → top_members conjunction (condition_of g) ≡ condition_of g ∷ []

only_other : (g : CodedCond) → IsOther g
only_other =
    induct_condition IsOther
    (λ n m k. single k c.True GCond-F.True (ap out-GCond (sym c.rolls-True) ∙ out-roll-GCond GCond-F.True) (single_True k) (condition_of d.True) condition_True)
    (λ n m k. single k c.False GCond-F.False (ap out-GCond (sym c.rolls-False) ∙ out-roll-GCond GCond-F.False) (single_False k) (condition_of d.False) condition_False)
    (λ f truth n m k. single k (c.Fact f truth) (GCond-F.Fact f truth) (ap out-GCond (sym (c.rolls-Fact f truth)) ∙ out-roll-GCond (GCond-F.Fact f truth)) (single_Fact k f truth)
    (condition_of (d.Fact f truth)) (condition_Fact f truth))
    (λ r a b n m k. single k (c.Cmp r (expression_of a) (expression_of b)) (GCond-F.Cmp r (expression_of a) (expression_of b))
    (ap out-GCond (sym (c.rolls-Cmp r (expression_of a) (expression_of b))) ∙ out-roll-GCond (GCond-F.Cmp r (expression_of a) (expression_of b)))
    (single_Cmp k r (expression_of a) (expression_of b)) (condition_of (d.Cmp r a b)) (condition_Cmp r a b))
    (λ cs h n m k. absurd (n cs refl))
    (λ cs h n m k. absurd (m cs refl))

-- ---- members behind others

behind : (conjunction : Bool) (old more new : List CodedCond) (g : CodedCond) → new ≡ old ++ more → map condition_of more ≡ top_members conjunction (condition_of g)
    → map condition_of new ≡ map condition_of old ++ top_members conjunction (condition_of g)
behind conjunction old more new g e h = ap (map condition_of) e ∙ map-append condition_of old more ∙ ap (λ (ms : List GCond). map condition_of old ++ ms) h

at_cond : (conjunction k : Bool) (g h : CodedCond) (ms : List GCond) → ms ≡ top_members k (condition_of h) → conjunction ≡ k → g ≡ h → ms ≡ top_members conjunction (condition_of g)
at_cond conjunction k g h ms e ek eg = e ∙ ap₂ (λ (b : Bool) (x : CodedCond). top_members b (condition_of x)) (sym ek) (sym eg)

pub appended_And : (conjunction : Bool) (old new conds : List CodedCond) (g : CodedCond) → g ≡ d.And conds → conjunction ≡ true → new ≡ old ++ conds
    → map condition_of new ≡ map condition_of old ++ top_members conjunction (condition_of g)
appended_And conjunction old new conds g eg ek e = behind conjunction old conds new g e (at_cond conjunction true g (d.And conds) (map condition_of conds) (sym (tops_of_And conds)) ek eg)

pub appended_Or : (conjunction : Bool) (old new conds : List CodedCond) (g : CodedCond) → g ≡ d.Or conds → conjunction ≡ false → new ≡ old ++ conds
    → map condition_of new ≡ map condition_of old ++ top_members conjunction (condition_of g)
appended_Or conjunction old new conds g eg ek e = behind conjunction old conds new g e (at_cond conjunction false g (d.Or conds) (map condition_of conds) (sym (tops_of_Or conds)) ek eg)

pub pushed_And : (conjunction : Bool) (old new conds : List CodedCond) (g : CodedCond) → g ≡ d.And conds → conjunction ≡ false → new ≡ old ++ d.And conds ∷ []
    → map condition_of new ≡ map condition_of old ++ top_members conjunction (condition_of g)
pushed_And conjunction old new conds g eg ek e =
    behind conjunction old (d.And conds ∷ []) new g e (at_cond conjunction false g (d.And conds) (condition_of (d.And conds) ∷ []) (sym (only_And conds)) ek eg)

pub pushed_Or : (conjunction : Bool) (old new conds : List CodedCond) (g : CodedCond) → g ≡ d.Or conds → conjunction ≡ true → new ≡ old ++ d.Or conds ∷ []
    → map condition_of new ≡ map condition_of old ++ top_members conjunction (condition_of g)
pushed_Or conjunction old new conds g eg ek e =
    behind conjunction old (d.Or conds ∷ []) new g e (at_cond conjunction true g (d.Or conds) (condition_of (d.Or conds) ∷ []) (sym (only_Or conds)) ek eg)

pub pushed_other : (conjunction : Bool) (old new : List CodedCond) (g h : CodedCond) → ((cs : List CodedCond) → g ≡ d.And cs → ⊥) → ((cs : List CodedCond) → g ≡ d.Or cs → ⊥) → h ≡ g
    → new ≡ old ++ h ∷ [] → map condition_of new ≡ map condition_of old ++ top_members conjunction (condition_of g)
pushed_other conjunction old new g h n m is e = behind conjunction old (h ∷ []) new g e (ap (λ (x : CodedCond). condition_of x ∷ []) is ∙ sym (only_other g n m conjunction))

-- ---- the first of all

abbrev joint : Bool → List GCond → Joint
joint decides members = record { decides = decides; members = members }

pub none_joined : (conjunction : Bool) (j : CodedJoint) → j.decides ≡ false → j.members ≡ [] → (r : Result (List Settled) FoldFault)
    → mapped (λ ss. finished conjunction (joint_of conjunction (joint_meaning j) ss)) r ≡ mapped (joins conjunction) r
none_joined conjunction j e h =
    mapped_same (λ ss. finished conjunction (joint_of conjunction (joint_meaning j) ss)) (joins conjunction)
    (λ ss. ap₂ (λ (b : Bool) (ms : List CodedCond). finished conjunction (joint_of conjunction (joint b (map condition_of ms)) ss)) e h ∙ joined_all conjunction ss)
