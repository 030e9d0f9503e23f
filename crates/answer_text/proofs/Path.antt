-- The path to a node, from its end.
use Rattle.std.proofs.Common.{◌≡◌, ℕ, ◌≤◌, ◌<◌, zero, suc, List, [], ◌∷◌, ◌++◌, Option, Some, None, length, get_or, slice_get, reverse, refl, sym, ap, ◌∙◌, append_assoc, arith, length-append}
use Rattle.std.proofs.lemmas.List.{reverse-append}
use Rattle.std.proofs.lemmas.Option.{slice_get-get_or}
use Rattle.ground_task.specs.States.{StateValue}
use Rattle.search_runs.specs.Answers.{path_to, path_within}
use Rattle.search_runs.specs.Spaces.{IsAt}
use Rattle.search_runs.specs.declared.nodes.Node.{Node}
use Rattle.search_records.specs.Records.{AreParents}

module _ (nodes : List (Node StateValue)) (parents : AreParents nodes) where
  -- with enough steps their number doesn't matter
  same_path : (m k n : ℕ) → n ≤ m → n ≤ k → path_within m nodes n ≡ path_within k nodes n
  same_path m k zero enough also = refl
  same_path zero k (suc n) enough also = absurd (omega (arith, enough))
  same_path (suc m) zero (suc n) enough also = absurd (omega (arith, also))
  same_path (suc m) (suc k) (suc n) enough also = by (λ p p_enough p_also. same_path m k p p_enough p_also) (slice_get nodes (suc n)) refl
    where
      by : ((p : ℕ) → p ≤ m → p ≤ k → path_within m nodes p ≡ path_within k nodes p) → (o : Option (Node StateValue)) → slice_get nodes (suc n) ≡ o
          → elim o as (λ _. List ℕ) [ None ↦ [] | Some x ↦ path_within m nodes x.parent ++ x.via ∷ [] ] ≡ elim o as (λ _. List ℕ) [ None ↦ [] | Some x ↦ path_within k nodes x.parent ++ x.via ∷ [] ]
      by rest None e = refl
      by rest (Some x) e =
          let below = parents (suc n) x (omega arith) e in
          ap (λ (l : List ℕ). l ++ x.via ∷ []) (rest x.parent (omega (arith, below, enough)) (omega (arith, below, also)))

  -- the path to a node goes by its parent
  by_parent : (n : ℕ) (x : Node StateValue) → 0 < n → IsAt nodes n x → path_to nodes n ≡ path_to nodes x.parent ++ x.via ∷ []
  by_parent zero x some at = absurd (omega (arith, some))
  by_parent (suc n) x some at =
      by (slice_get nodes (suc n)) at ∙ ap (λ (l : List ℕ). l ++ x.via ∷ []) (same_path n x.parent x.parent (omega (arith, parents (suc n) x some at)) (omega arith))
    where
      by : (o : Option (Node StateValue)) → o ≡ Some x → elim o as (λ _. List ℕ) [ None ↦ [] | Some y ↦ path_within n nodes y.parent ++ y.via ∷ [] ] ≡ path_within n nodes x.parent ++ x.via ∷ []
      by o e = ap (λ (q : Option (Node StateValue)). elim q as (λ _. List ℕ) [ None ↦ [] | Some y ↦ path_within n nodes y.parent ++ y.via ∷ [] ]) e

  -- one action more is found
  pub up : (n : ℕ) (d : Node StateValue) (path whole : List ℕ) → 0 < n → n < length nodes → path_to nodes n ++ reverse path ≡ whole → path_to nodes (get_or nodes n d).parent ++ reverse (path ++ (get_or nodes n d).via ∷ []) ≡ whole
  up n d path whole some known is =
      let x = get_or nodes n d in
      ap (λ (l : List ℕ). path_to nodes x.parent ++ l) (reverse-append path (x.via ∷ []))
      ∙ sym (append_assoc (path_to nodes x.parent) (x.via ∷ []) (reverse path))
      ∙ ap (λ (l : List ℕ). l ++ reverse path) (sym (by_parent n x some (slice_get-get_or nodes n d known)))
      ∙ is

  pub parent_below : (n : ℕ) (d : Node StateValue) → 0 < n → n < length nodes → (get_or nodes n d).parent < n
  parent_below n d some known = parents n (get_or nodes n d) some (slice_get-get_or nodes n d known)

within_short : (nodes : List (Node StateValue)) (m n : ℕ) → length (path_within m nodes n) ≤ m
within_short nodes m zero = omega arith
within_short nodes zero (suc n) = omega arith
within_short nodes (suc m) (suc n) = by (λ p. within_short nodes m p) (slice_get nodes (suc n))
  where
    by : ((p : ℕ) → length (path_within m nodes p) ≤ m) → (o : Option (Node StateValue)) → length (elim o as (λ _. List ℕ) [ None ↦ [] | Some x ↦ path_within m nodes x.parent ++ x.via ∷ [] ]) ≤ suc m
    by rest None = omega arith
    by rest (Some x) = omega (arith, rest x.parent, length-append (path_within m nodes x.parent) (x.via ∷ []))

-- a path has no more actions than there are nodes before its end
pub path_short : (nodes : List (Node StateValue)) (n : ℕ) → length (path_to nodes n) ≤ n
path_short nodes n = within_short nodes n n
