-- Patterns of what expressions, conditions and effects read.
use Rattle.std.proofs.Common.{◌≡◌, ◌≤◌, ◌-◌, ◌++◌, ℕ, suc, List, [], ◌∷◌, map, length, take, drop, get_or, refl, sym, ap, ap₂, ◌∙◌, append_assoc, arith}
use Rattle.std.specs.Prelude.{flat_map}
use Rattle.std.proofs.lemmas.Grind.{flat_map-append}
use Rattle.std.proofs.lemmas.List.{map-append}
use Rattle.num_ends.specs.Decimal.{Decimal}
use Rattle.pddl_terms.specs.declared.names.Arg.{Arg}
use Rattle.pddl_terms.specs.declared.names.Atom.{Atom}
use Rattle.pddl_terms.specs.declared.names.Typed.{Typed}
use Rattle.pddl_terms.specs.declared.expressions.Op.{Op}
use Rattle.pddl_terms.specs.declared.expressions.Expr.{Expr}
use Rattle.pddl_terms.specs.declared.expressions.Expr.TheVariants as e
use Rattle.pddl_terms.specs.declared.conditions.Rel.{Rel}
use Rattle.pddl_terms.specs.declared.conditions.Cond.{Cond}
use Rattle.pddl_terms.specs.declared.conditions.Cond.TheVariants as c
use Rattle.pddl_terms.specs.declared.actions.Assign.{Assign}
use Rattle.pddl_terms.specs.declared.actions.Effect.{Effect}
use Rattle.pddl_terms.specs.declared.actions.Effect.TheVariants as effect
use Rattle.pddl_terms.specs.declared.actions.Schema.{Schema}
use Rattle.pddl_types.specs.declared.pairs.Pair.{Pair}
use Rattle.pddl_types.specs.Contents.{Parts, Reads, all_read, condition_parts, condition_parts_layer, expression_reads, expression_reads_layer}
use Rattle.pddl_meaning.proofs.Folds.{fold-And, fold-Or, fold-Not, fold-Imply, fold-Fact, fold-Same, fold-Cmp, fold-Lit}
use Rattle.ground_meaning.proofs.ExpressionFolds.{reads_of_operation, reads_of_read}
use Rattle.bound_actions.specs.Reads.{action_reads, clash, clashes, effect_reads, old_read}
use Rattle.bound_actions.specs.Patterns.{condition_patterns, expression_patterns, pattern, pattern_pair, patterns}

append_none : {A : Type 0} (xs : List A) → xs ++ [] ≡ xs
append_none [] = refl
append_none (x ∷ xs) = ap (λ (ys : List _). x ∷ ys) (append_none xs)

module _ (p : Pair) (params : List Typed) where
  abbrev made : List Atom → List (Pair × List Typed × Atom)
  made = patterns p params

  pub read_of_Lit : (d : Decimal) (at : ℕ) → expression_patterns p params (e.Lit d at) ≡ []
  read_of_Lit d at = ap (λ (r : Reads). made r.all) (fold-Lit expression_reads_layer d at)

  pub read_of_Read : (a : Atom) → expression_patterns p params (e.Read a) ≡ pattern p params a ∷ []
  read_of_Read a = ap made (reads_of_read a)

  pub read_of_Op : (at : ℕ) (o : Op) (x y : Expr) → expression_patterns p params (e.Op at o x y) ≡ expression_patterns p params x ++ expression_patterns p params y
  read_of_Op at o x y = ap made (reads_of_operation at o x y) ∙ map-append (pattern p params) (expression_reads x).all (expression_reads y).all

  -- ---- conditions

  made_two : (xs ys : List Expr) → made (all_read (xs ++ ys)) ≡ made (all_read xs) ++ made (all_read ys)
  made_two xs ys = ap made (flat_map-append (λ (x : Expr). (expression_reads x).all) xs ys) ∙ map-append (pattern p params) (all_read xs) (all_read ys)

  members : (cs : List Cond) → made (all_read (flat_map (λ (q : Parts). q.numbers) (map condition_parts cs))) ≡ flat_map (condition_patterns p params) cs
  members [] = refl
  members (b ∷ cs) =
      made_two (condition_parts b).numbers (flat_map (λ (q : Parts). q.numbers) (map condition_parts cs)) ∙ ap (λ (ys : List (Pair × List Typed × Atom)). condition_patterns p params b ++ ys) (members cs)

  abbrev of_parts : Parts → List (Pair × List Typed × Atom)
  of_parts q = made (all_read q.numbers)

  pub read_in_And : (cs : List Cond) → condition_patterns p params (c.And cs) ≡ flat_map (condition_patterns p params) cs
  read_in_And cs = ap of_parts (fold-And condition_parts_layer cs) ∙ members cs

  pub read_in_Or : (cs : List Cond) → condition_patterns p params (c.Or cs) ≡ flat_map (condition_patterns p params) cs
  read_in_Or cs = ap of_parts (fold-Or condition_parts_layer cs) ∙ members cs

  pub read_in_Not : (b : Cond) → condition_patterns p params (c.Not b) ≡ condition_patterns p params b
  read_in_Not b = ap of_parts (fold-Not condition_parts_layer b)

  pub read_in_Imply : (a b : Cond) → condition_patterns p params (c.Imply a b) ≡ condition_patterns p params a ++ condition_patterns p params b
  read_in_Imply a b =
      ap of_parts (fold-Imply condition_parts_layer a b) ∙ made_two (condition_parts a).numbers ((condition_parts b).numbers ++ [])
      ∙ ap (λ (xs : List Expr). condition_patterns p params a ++ made (all_read xs)) (append_none (condition_parts b).numbers)

  pub read_in_Fact : (a : Atom) → condition_patterns p params (c.Fact a) ≡ []
  read_in_Fact a = ap of_parts (fold-Fact condition_parts_layer a)

  pub read_in_Same : (a b : Arg) → condition_patterns p params (c.Same a b) ≡ []
  read_in_Same a b = ap of_parts (fold-Same condition_parts_layer a b)

  pub read_in_Cmp : (r : Rel) (x y : Expr) → condition_patterns p params (c.Cmp r x y) ≡ expression_patterns p params x ++ expression_patterns p params y
  read_in_Cmp r x y =
      ap of_parts (fold-Cmp condition_parts_layer r x y) ∙ map-append (pattern p params) (expression_reads x).all ((expression_reads y).all ++ [])
      ∙ ap (λ (atoms : List Atom). expression_patterns p params x ++ made atoms) (append_none (expression_reads y).all)

  -- ---- effects

  pub both_read : (how : Assign) (a : Atom) (x : Expr) → made (effect_reads (effect.Num how a x)) ≡ expression_patterns p params x ++ made (old_read how a)
  both_read how a x = map-append (pattern p params) (expression_reads x).all (old_read how a)

  -- a map of joined lists
  pub mapped_lists : {A B D : Type 0} (f : B → D) (g : A → List B) (xs : List A) → map f (flat_map g xs) ≡ flat_map (λ x. map f (g x)) xs
  mapped_lists f g [] = refl
  mapped_lists f g (x ∷ xs) = map-append f (g x) (flat_map g xs) ∙ ap (λ (ys : List _). map f (g x) ++ ys) (mapped_lists f g xs)

  pub all_action_reads : (s : Schema) → condition_patterns p params s.pre ++ flat_map (λ (d : Effect). made (effect_reads d)) s.effects ≡ made (action_reads s)
  all_action_reads s =
      ap (λ (ys : List (Pair × List Typed × Atom)). condition_patterns p params s.pre ++ ys) (sym (mapped_lists (pattern p params) effect_reads s.effects))
      ∙ sym (map-append (pattern p params) (all_read (condition_parts s.pre).numbers) (flat_map effect_reads s.effects))

  -- ---- conflicts

  abbrev paired : List (Atom × Atom) → List ((Pair × List Typed × Atom) × (Pair × List Typed × Atom))
  paired = map (pattern_pair p params)

  -- an effect on a fact is in conflict with none
  none_with : (d : Effect) → ((x : Effect) → clash d x ≡ []) → (later : List Effect) → flat_map (λ (x : Effect). paired (clash d x)) later ≡ []
  none_with d none [] = refl
  none_with d none (x ∷ later) = ap₂ (λ (xs ys : List ((Pair × List Typed × Atom) × (Pair × List Typed × Atom))). xs ++ ys) (ap paired (none x)) (none_with d none later)

  pub unclashed : (d : Effect) → ((x : Effect) → clash d x ≡ []) → (later : List Effect) (so_far : List ((Pair × List Typed × Atom) × (Pair × List Typed × Atom)))
      → so_far ≡ so_far ++ flat_map (λ (x : Effect). paired (clash d x)) later
  unclashed d none later so_far = sym (ap (λ (ys : List ((Pair × List Typed × Atom) × (Pair × List Typed × Atom))). so_far ++ ys) (none_with d none later) ∙ append_none so_far)

  pub add_clashes : (d : Effect) (a : Atom) → d ≡ effect.Add a → (x : Effect) → clash d x ≡ []
  add_clashes d a is x = ap (λ (e : Effect). clash e x) is

  pub del_clashes : (d : Effect) (a : Atom) → d ≡ effect.Del a → (x : Effect) → clash d x ≡ []
  del_clashes d a is x = ap (λ (e : Effect). clash e x) is

  pub next_clashes : (d : Effect) (effects : List Effect) → paired (clashes (d ∷ effects)) ≡ flat_map (λ (x : Effect). paired (clash d x)) effects ++ paired (clashes effects)
  next_clashes d effects =
      map-append (pattern_pair p params) (flat_map (clash d) effects) (clashes effects)
      ∙ ap (λ (ys : List ((Pair × List Typed × Atom) × (Pair × List Typed × Atom))). ys ++ paired (clashes effects)) (mapped_lists (pattern_pair p params) (clash d) effects)

  whole : (xs : List Effect) → take (length xs) xs ≡ xs
  whole [] = refl
  whole (x ∷ xs) = ap (λ (ys : List Effect). x ∷ ys) (whole xs)

  abbrev later_of : List Effect → List Effect
  later_of rest = take (length rest - 1) (drop 1 rest)

  later_is : (d : Effect) (effects : List Effect) → later_of (d ∷ effects) ≡ effects
  later_is d effects =
      let less : suc (length effects) - 1 ≡ length effects = omega arith in
      ap (λ (n : ℕ). take n effects) less ∙ whole effects

  -- the first of some effects beside the later ones, and then these
  pub clashes_go_on : (rest : List Effect) (x : Effect) → 1 ≤ length rest → x ≡ get_or rest 0 x → (so_far new : List ((Pair × List Typed × Atom) × (Pair × List Typed × Atom)))
      → new ≡ so_far ++ flat_map (λ (e : Effect). paired (clash x e)) (later_of rest) → (all : List ((Pair × List Typed × Atom) × (Pair × List Typed × Atom)))
      → so_far ++ paired (clashes rest) ≡ all → new ++ paired (clashes (later_of rest)) ≡ all
  clashes_go_on [] x some is so_far new h all k = absurd (omega (arith, some))
  clashes_go_on (d ∷ effects) x some is so_far new h all k =
      ap (λ (ys : List ((Pair × List Typed × Atom) × (Pair × List Typed × Atom))). ys ++ paired (clashes (later_of (d ∷ effects))))
      (h ∙ ap₂ (λ (y : Effect) (later : List Effect). so_far ++ flat_map (λ (e : Effect). paired (clash y e)) later) is (later_is d effects))
      ∙ ap (λ (later : List Effect). (so_far ++ flat_map (λ (e : Effect). paired (clash d e)) effects) ++ paired (clashes later)) (later_is d effects)
      ∙ append_assoc so_far (flat_map (λ (e : Effect). paired (clash d e)) effects) (paired (clashes effects))
      ∙ ap (λ (ys : List ((Pair × List Typed × Atom) × (Pair × List Typed × Atom))). so_far ++ ys) (sym (next_clashes d effects)) ∙ k

  -- what an action reads, one part after another
  pub action_looked : (s : Schema) (none first all : List (Pair × List Typed × Atom)) (slice : List Effect) → none ≡ [] → first ≡ none ++ condition_patterns p params s.pre
      → all ≡ first ++ flat_map (λ (d : Effect). made (effect_reads d)) slice → slice ≡ s.effects → all ≡ made (action_reads s)
  action_looked s none first all slice h k l is =
      l ∙ ap₂ (λ (xs : List (Pair × List Typed × Atom)) (es : List Effect). xs ++ flat_map (λ (d : Effect). made (effect_reads d)) es)
      (k ∙ ap (λ (xs : List (Pair × List Typed × Atom)). xs ++ condition_patterns p params s.pre) h) is
      ∙ all_action_reads s
