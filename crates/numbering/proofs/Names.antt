-- What coded expressions and conditions name, one equation for each variant.
use Rattle.std.proofs.Common.{◌≡◌, ℕ, Bool, List, [], ◌∷◌, ◌++◌, map, refl, sym, ap, ◌∙◌}
use Rattle.std.specs.List.{flat_map}
use Rattle.std.proofs.lemmas.List.{append-nil}
use Rattle.std.proofs.Common.{append_assoc}
use Rattle.num_ends.specs.Decimal.{Decimal}
use Rattle.ground_task.specs.declared.raw.Rel.{Rel}
use Rattle.ground_task.specs.declared.raw.GCond.{GCond}
use Rattle.ground_task.proofs.Trees as tree
use Rattle.ground_meaning.specs.Tasks.{condition_facts, condition_facts_layer, condition_fluents, condition_fluents_layer, fluents_in, fluents_layer}
use Rattle.coded_actions.specs.declared.coded.CodedExpr.{CodedExpr}
use Rattle.coded_actions.specs.declared.coded.CodedExpr.TheVariants as x
use Rattle.coded_actions.specs.declared.coded.CodedCond.{CodedCond}
use Rattle.coded_actions.specs.declared.coded.CodedCond.TheVariants as d
use Rattle.coded_actions.specs.Coded.{condition_of, expression_of}
use Rattle.coded_actions.proofs.Equations as coded
use Rattle.numbering.specs.internal.Closures.{edges_to}

-- ---- numbers added to a list

unchanged : {A : Type 0} (before added : List A) → added ≡ [] → before ≡ before ++ added
unchanged before added none = sym (append-nil before) ∙ ap (λ (ns : List _). before ++ ns) (sym none)

twice : {A : Type 0} (before middle after first second all : List A) → all ≡ first ++ second → middle ≡ before ++ first → after ≡ middle ++ second
    → after ≡ before ++ all
twice before middle after first second all is once again =
    again ∙ ap (λ (ns : List _). ns ++ second) once ∙ append_assoc before first second ∙ ap (λ (ns : List _). before ++ ns) (sym is)

-- ---- the fluents of expressions

pub fluents_Const : (v : Decimal) → fluents_in (expression_of (x.Const v)) ≡ []
fluents_Const v = ap fluents_in (coded.expression_Const v) ∙ tree.fold-Const fluents_layer v

pub fluents_Read : (n : ℕ) → fluents_in (expression_of (x.Read n)) ≡ n ∷ []
fluents_Read n = ap fluents_in (coded.expression_Read n) ∙ tree.fold-Read fluents_layer n

pub fluents_Add : (a b : CodedExpr) → fluents_in (expression_of (x.Add a b)) ≡ fluents_in (expression_of a) ++ fluents_in (expression_of b)
fluents_Add a b = ap fluents_in (coded.expression_Add a b) ∙ tree.fold-Add fluents_layer (expression_of a) (expression_of b)

pub fluents_Sub : (a b : CodedExpr) → fluents_in (expression_of (x.Sub a b)) ≡ fluents_in (expression_of a) ++ fluents_in (expression_of b)
fluents_Sub a b = ap fluents_in (coded.expression_Sub a b) ∙ tree.fold-Sub fluents_layer (expression_of a) (expression_of b)

pub fluents_Mul : (a b : CodedExpr) → fluents_in (expression_of (x.Mul a b)) ≡ fluents_in (expression_of a) ++ fluents_in (expression_of b)
fluents_Mul a b = ap fluents_in (coded.expression_Mul a b) ∙ tree.fold-Mul fluents_layer (expression_of a) (expression_of b)

-- edges to the numbers of two lists
edges_from : (y : ℕ) (ns ms : List ℕ) → edges_to y (ns ++ ms) ≡ edges_to y ns ++ edges_to y ms
unfolding edges_to
edges_from y [] ms = refl
edges_from y (n ∷ ns) ms = ap (λ es. (y, n) ∷ es) (edges_from y ns ms)

pub unchanged_Const : (before : List ℕ) (v : Decimal) → before ≡ before ++ fluents_in (expression_of (x.Const v))
unchanged_Const before v = unchanged before (fluents_in (expression_of (x.Const v))) (fluents_Const v)

pub twice_Add : (before middle after : List ℕ) (a b : CodedExpr) → middle ≡ before ++ fluents_in (expression_of a)
    → after ≡ middle ++ fluents_in (expression_of b) → after ≡ before ++ fluents_in (expression_of (x.Add a b))
twice_Add before middle after a b once again =
    twice before middle after (fluents_in (expression_of a)) (fluents_in (expression_of b)) (fluents_in (expression_of (x.Add a b))) (fluents_Add a b) once again

pub twice_Sub : (before middle after : List ℕ) (a b : CodedExpr) → middle ≡ before ++ fluents_in (expression_of a)
    → after ≡ middle ++ fluents_in (expression_of b) → after ≡ before ++ fluents_in (expression_of (x.Sub a b))
twice_Sub before middle after a b once again =
    twice before middle after (fluents_in (expression_of a)) (fluents_in (expression_of b)) (fluents_in (expression_of (x.Sub a b))) (fluents_Sub a b) once again

pub twice_Mul : (before middle after : List ℕ) (a b : CodedExpr) → middle ≡ before ++ fluents_in (expression_of a)
    → after ≡ middle ++ fluents_in (expression_of b) → after ≡ before ++ fluents_in (expression_of (x.Mul a b))
twice_Mul before middle after a b once again =
    twice before middle after (fluents_in (expression_of a)) (fluents_in (expression_of b)) (fluents_in (expression_of (x.Mul a b))) (fluents_Mul a b) once again

-- ---- the edges to them

-- from a number to those that an expression reads
abbrev read_edges : ℕ → CodedExpr → List (ℕ × ℕ)
read_edges y e = edges_to y (fluents_in (expression_of e))

pub edges_Const : (before : List (ℕ × ℕ)) (y : ℕ) (v : Decimal) → before ≡ before ++ edges_to y (fluents_in (expression_of (x.Const v)))
unfolding edges_to
edges_Const before y v = unchanged before (read_edges y (x.Const v)) (ap (edges_to y) (fluents_Const v))

pub edges_Read : (y n : ℕ) → edges_to y (fluents_in (expression_of (x.Read n))) ≡ (y, n) ∷ []
unfolding edges_to
edges_Read y n = ap (edges_to y) (fluents_Read n)

pub edges_Add : (before middle after : List (ℕ × ℕ)) (y : ℕ) (a b : CodedExpr) → middle ≡ before ++ edges_to y (fluents_in (expression_of a))
    → after ≡ middle ++ edges_to y (fluents_in (expression_of b)) → after ≡ before ++ edges_to y (fluents_in (expression_of (x.Add a b)))
edges_Add before middle after y a b once again =
    twice before middle after (read_edges y a) (read_edges y b) (read_edges y (x.Add a b))
    (ap (edges_to y) (fluents_Add a b) ∙ edges_from y (fluents_in (expression_of a)) (fluents_in (expression_of b))) once again

pub edges_Sub : (before middle after : List (ℕ × ℕ)) (y : ℕ) (a b : CodedExpr) → middle ≡ before ++ edges_to y (fluents_in (expression_of a))
    → after ≡ middle ++ edges_to y (fluents_in (expression_of b)) → after ≡ before ++ edges_to y (fluents_in (expression_of (x.Sub a b)))
edges_Sub before middle after y a b once again =
    twice before middle after (read_edges y a) (read_edges y b) (read_edges y (x.Sub a b))
    (ap (edges_to y) (fluents_Sub a b) ∙ edges_from y (fluents_in (expression_of a)) (fluents_in (expression_of b))) once again

pub edges_Mul : (before middle after : List (ℕ × ℕ)) (y : ℕ) (a b : CodedExpr) → middle ≡ before ++ edges_to y (fluents_in (expression_of a))
    → after ≡ middle ++ edges_to y (fluents_in (expression_of b)) → after ≡ before ++ edges_to y (fluents_in (expression_of (x.Mul a b)))
edges_Mul before middle after y a b once again =
    twice before middle after (read_edges y a) (read_edges y b) (read_edges y (x.Mul a b))
    (ap (edges_to y) (fluents_Mul a b) ∙ edges_from y (fluents_in (expression_of a)) (fluents_in (expression_of b))) once again

-- ---- the members of conditions

merged : (f : GCond → List ℕ) (cs : List CodedCond) → flat_map (λ c. c) (map f (map condition_of cs)) ≡ flat_map (λ c. f (condition_of c)) cs
merged f [] = refl
merged f (c ∷ cs) = ap (λ ns. f (condition_of c) ++ ns) (merged f cs)

-- ---- facts

pub facts_True : condition_facts (condition_of d.True) ≡ []
facts_True = ap condition_facts coded.condition_True ∙ tree.fold-True condition_facts_layer

pub facts_False : condition_facts (condition_of d.False) ≡ []
facts_False = ap condition_facts coded.condition_False ∙ tree.fold-False condition_facts_layer

pub facts_Fact : (f : ℕ) (truth : Bool) → condition_facts (condition_of (d.Fact f truth)) ≡ f ∷ []
facts_Fact f truth = ap condition_facts (coded.condition_Fact f truth) ∙ tree.fold-Fact condition_facts_layer f truth

pub facts_Cmp : (r : Rel) (a b : CodedExpr) → condition_facts (condition_of (d.Cmp r a b)) ≡ []
facts_Cmp r a b = ap condition_facts (coded.condition_Cmp r a b) ∙ tree.fold-Cmp condition_facts_layer r (expression_of a) (expression_of b)

pub facts_unchanged_True : (before : List ℕ) → before ≡ before ++ condition_facts (condition_of d.True)
facts_unchanged_True before = unchanged before (condition_facts (condition_of d.True)) facts_True

pub facts_unchanged_False : (before : List ℕ) → before ≡ before ++ condition_facts (condition_of d.False)
facts_unchanged_False before = unchanged before (condition_facts (condition_of d.False)) facts_False

pub facts_unchanged_Cmp : (before : List ℕ) (r : Rel) (a b : CodedExpr) → before ≡ before ++ condition_facts (condition_of (d.Cmp r a b))
facts_unchanged_Cmp before r a b = unchanged before (condition_facts (condition_of (d.Cmp r a b))) (facts_Cmp r a b)

pub facts_And : (cs : List CodedCond) → condition_facts (condition_of (d.And cs)) ≡ flat_map (λ c. condition_facts (condition_of c)) cs
facts_And cs = ap condition_facts (coded.condition_And cs) ∙ tree.fold-And condition_facts_layer (map condition_of cs) ∙ merged condition_facts cs

pub facts_Or : (cs : List CodedCond) → condition_facts (condition_of (d.Or cs)) ≡ flat_map (λ c. condition_facts (condition_of c)) cs
facts_Or cs = ap condition_facts (coded.condition_Or cs) ∙ tree.fold-Or condition_facts_layer (map condition_of cs) ∙ merged condition_facts cs

-- ---- the fluents of conditions

pub reads_True : condition_fluents (condition_of d.True) ≡ []
reads_True = ap condition_fluents coded.condition_True ∙ tree.fold-True condition_fluents_layer

pub reads_False : condition_fluents (condition_of d.False) ≡ []
reads_False = ap condition_fluents coded.condition_False ∙ tree.fold-False condition_fluents_layer

pub reads_Fact : (f : ℕ) (truth : Bool) → condition_fluents (condition_of (d.Fact f truth)) ≡ []
reads_Fact f truth = ap condition_fluents (coded.condition_Fact f truth) ∙ tree.fold-Fact condition_fluents_layer f truth

pub reads_Cmp : (r : Rel) (a b : CodedExpr) → condition_fluents (condition_of (d.Cmp r a b)) ≡ fluents_in (expression_of a) ++ fluents_in (expression_of b)
reads_Cmp r a b = ap condition_fluents (coded.condition_Cmp r a b) ∙ tree.fold-Cmp condition_fluents_layer r (expression_of a) (expression_of b)

pub reads_unchanged_True : (before : List ℕ) → before ≡ before ++ condition_fluents (condition_of d.True)
reads_unchanged_True before = unchanged before (condition_fluents (condition_of d.True)) reads_True

pub reads_unchanged_False : (before : List ℕ) → before ≡ before ++ condition_fluents (condition_of d.False)
reads_unchanged_False before = unchanged before (condition_fluents (condition_of d.False)) reads_False

pub reads_unchanged_Fact : (before : List ℕ) (f : ℕ) (truth : Bool) → before ≡ before ++ condition_fluents (condition_of (d.Fact f truth))
reads_unchanged_Fact before f truth = unchanged before (condition_fluents (condition_of (d.Fact f truth))) (reads_Fact f truth)

pub reads_twice_Cmp : (before middle after : List ℕ) (r : Rel) (a b : CodedExpr) → middle ≡ before ++ fluents_in (expression_of a)
    → after ≡ middle ++ fluents_in (expression_of b) → after ≡ before ++ condition_fluents (condition_of (d.Cmp r a b))
reads_twice_Cmp before middle after r a b once again =
    twice before middle after (fluents_in (expression_of a)) (fluents_in (expression_of b)) (condition_fluents (condition_of (d.Cmp r a b))) (reads_Cmp r a b) once again

pub reads_And : (cs : List CodedCond) → condition_fluents (condition_of (d.And cs)) ≡ flat_map (λ c. condition_fluents (condition_of c)) cs
reads_And cs = ap condition_fluents (coded.condition_And cs) ∙ tree.fold-And condition_fluents_layer (map condition_of cs) ∙ merged condition_fluents cs

pub reads_Or : (cs : List CodedCond) → condition_fluents (condition_of (d.Or cs)) ≡ flat_map (λ c. condition_fluents (condition_of c)) cs
reads_Or cs = ap condition_fluents (coded.condition_Or cs) ∙ tree.fold-Or condition_fluents_layer (map condition_of cs) ∙ merged condition_fluents cs
