-- The places of expressions, cut, and the parts of what is known.
use Rattle.std.proofs.Common.{◌≡◌, ◌≤◌, ◌<◌, ◌+◌, ◌&&◌, ℕ, Bool, true, List, max, min, slice_index_or, sym, ap, ◌∙◌, arith}
use Rattle.std.specs.Prelude.{nat_le, nat_lt, IsTrue}
use Rattle.std.specs.List.{list_all}
use Rattle.std.proofs.lemmas.Bool.Decides.{nat_tests}
use Rattle.num_ends.specs.Decimal.{Decimal, trimmed}
use Rattle.ground_task.specs.declared.raw.Rel.{Rel}
use Rattle.ground_task.specs.declared.raw.GExpr.{GExpr}
use Rattle.ground_task.specs.declared.raw.GExpr.TheVariants as e
use Rattle.ground_task.specs.declared.raw.GCond.{GCond}
use Rattle.ground_task.specs.declared.raw.GCond.TheVariants as c
use Rattle.ground_task.specs.Placed.{few_places_layer, has_few_places, places_layer, places_of}
use Rattle.ground_task.specs.Valid.{is_known_condition, is_known_expression, known_condition_layer, known_expression_layer}
use Rattle.ground_task.proofs.Ranges.{both_true}
use Rattle.ground_task.proofs.Trees.{fold-Const, fold-Read, fold-Add, fold-Sub, fold-Mul, fold-True, fold-False, fold-Fact, fold-Cmp, fold-And, fold-Or, list_all-map}

-- ---- expressions

module _ (counts : List ℕ) where
  pub cut_Const : (d : Decimal) → (trimmed d).p ≤ 18 → (trimmed d).p ≡ min 19 (places_of counts (e.Const d))
  cut_Const d few = omega (arith, few, fold-Const (places_layer counts) d)

  pub cut_Read : (x : ℕ) → min (slice_index_or counts x 0) 19 ≡ min 19 (places_of counts (e.Read x))
  cut_Read x = omega (arith, fold-Read (places_layer counts) x)

  module _ (a b : GExpr) (m n : ℕ) (first : m ≡ min 19 (places_of counts a)) (second : n ≡ min 19 (places_of counts b)) where
    pub cut_Add : max m n ≡ min 19 (places_of counts (e.Add a b))
    cut_Add = omega (arith, first, second, fold-Add (places_layer counts) a b)

    pub cut_Sub : max m n ≡ min 19 (places_of counts (e.Sub a b))
    cut_Sub = omega (arith, first, second, fold-Sub (places_layer counts) a b)

    pub cut_Mul : min (m + n) 19 ≡ min 19 (places_of counts (e.Mul a b))
    cut_Mul = omega (arith, first, second, fold-Mul (places_layer counts) a b)

  -- what is cut at 19 and then at 10 is cut at 10
  pub cut_further : (x : GExpr) (m : ℕ) → m ≡ min 19 (places_of counts x) → min m 10 ≡ min 10 (places_of counts x)
  cut_further x m cut = omega (arith, cut)

module _ (n : ℕ) where
  pub known_Read : (x : ℕ) → IsTrue (is_known_expression n (e.Read x)) → x < n
  known_Read x h = let test : nat_lt x n ≡ true = sym (fold-Read (known_expression_layer n) x) ∙ h in grind (arith, nat_tests)

  module _ (a b : GExpr) where
    pub first_Add : IsTrue (is_known_expression n (e.Add a b)) → IsTrue (is_known_expression n a)
    first_Add h = (both_true (is_known_expression n a) (is_known_expression n b) (sym (fold-Add (known_expression_layer n) a b) ∙ h)).0

    pub second_Add : IsTrue (is_known_expression n (e.Add a b)) → IsTrue (is_known_expression n b)
    second_Add h = (both_true (is_known_expression n a) (is_known_expression n b) (sym (fold-Add (known_expression_layer n) a b) ∙ h)).1

    pub first_Sub : IsTrue (is_known_expression n (e.Sub a b)) → IsTrue (is_known_expression n a)
    first_Sub h = (both_true (is_known_expression n a) (is_known_expression n b) (sym (fold-Sub (known_expression_layer n) a b) ∙ h)).0

    pub second_Sub : IsTrue (is_known_expression n (e.Sub a b)) → IsTrue (is_known_expression n b)
    second_Sub h = (both_true (is_known_expression n a) (is_known_expression n b) (sym (fold-Sub (known_expression_layer n) a b) ∙ h)).1

    pub first_Mul : IsTrue (is_known_expression n (e.Mul a b)) → IsTrue (is_known_expression n a)
    first_Mul h = (both_true (is_known_expression n a) (is_known_expression n b) (sym (fold-Mul (known_expression_layer n) a b) ∙ h)).0

    pub second_Mul : IsTrue (is_known_expression n (e.Mul a b)) → IsTrue (is_known_expression n b)
    second_Mul h = (both_true (is_known_expression n a) (is_known_expression n b) (sym (fold-Mul (known_expression_layer n) a b) ∙ h)).1

-- ---- conditions

module _ (counts : List ℕ) where
  pub few_True : true ≡ has_few_places counts c.True
  few_True = sym (fold-True (few_places_layer counts))

  pub few_False : true ≡ has_few_places counts c.False
  few_False = sym (fold-False (few_places_layer counts))

  pub few_Fact : (f : ℕ) (truth : Bool) → true ≡ has_few_places counts (c.Fact f truth)
  few_Fact f truth = sym (fold-Fact (few_places_layer counts) f truth)

  uncut : (p m : ℕ) → m ≡ min 19 p → nat_le m 18 ≡ nat_le p 18
  uncut p m cut = grind (arith, nat_tests)

  pub few_Cmp : (r : Rel) (a b : GExpr) (m n : ℕ) → m ≡ min 19 (places_of counts a) → n ≡ min 19 (places_of counts b) → (nat_le m 18 && nat_le n 18) ≡ has_few_places counts (c.Cmp r a b)
  few_Cmp r a b m n first second =
      ap (λ (x : Bool). x && nat_le n 18) (uncut (places_of counts a) m first) ∙ ap (λ (x : Bool). nat_le (places_of counts a) 18 && x) (uncut (places_of counts b) n second)
      ∙ sym (fold-Cmp (few_places_layer counts) r a b)

  pub few_And : (cs : List GCond) → list_all (has_few_places counts) cs ≡ has_few_places counts (c.And cs)
  few_And cs = sym (fold-And (few_places_layer counts) cs ∙ list_all-map (has_few_places counts) cs)

  pub few_Or : (cs : List GCond) → list_all (has_few_places counts) cs ≡ has_few_places counts (c.Or cs)
  few_Or cs = sym (fold-Or (few_places_layer counts) cs ∙ list_all-map (has_few_places counts) cs)

module _ (facts n : ℕ) where
  pub first_Cmp : (r : Rel) (a b : GExpr) → IsTrue (is_known_condition facts n (c.Cmp r a b)) → IsTrue (is_known_expression n a)
  first_Cmp r a b h = (both_true (is_known_expression n a) (is_known_expression n b) (sym (fold-Cmp (known_condition_layer facts n) r a b) ∙ h)).0

  pub second_Cmp : (r : Rel) (a b : GExpr) → IsTrue (is_known_condition facts n (c.Cmp r a b)) → IsTrue (is_known_expression n b)
  second_Cmp r a b h = (both_true (is_known_expression n a) (is_known_expression n b) (sym (fold-Cmp (known_condition_layer facts n) r a b) ∙ h)).1

  pub members_And : (cs : List GCond) → IsTrue (is_known_condition facts n (c.And cs)) → IsTrue (list_all (is_known_condition facts n) cs)
  members_And cs h = sym (fold-And (known_condition_layer facts n) cs ∙ list_all-map (is_known_condition facts n) cs) ∙ h

  pub members_Or : (cs : List GCond) → IsTrue (is_known_condition facts n (c.Or cs)) → IsTrue (list_all (is_known_condition facts n) cs)
  members_Or cs h = sym (fold-Or (known_condition_layer facts n) cs ∙ list_all-map (is_known_condition facts n) cs) ∙ h
