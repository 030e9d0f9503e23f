-- Values of the trees of a list, gathered where they are there, and the trees' faults.
use Rattle.std.proofs.Common.{◌≡◌, List, ◌∷◌, ◌++◌, Option, Some, None, refl, sym, ap, ◌∙◌, append_assoc}
use Rattle.std.specs.List.{filter_map, flat_map}
use Rattle.pddl_trees.specs.declared.faults.Fault.{Fault}
use Rattle.pddl_trees.specs.Faults.{all_noted}
use Rattle.pddl_trees.specs.Declarations.{one_item}
use Rattle.pddl_trees.proofs.Noted.{noted_append}

pub one_more : {T A : Type 0} (value : T → Option A) (t : T) (ts : List T) (x : Option A) → value t ≡ x → filter_map value (t ∷ ts) ≡ one_item x ++ filter_map value ts
one_more value t ts None is = rw is refl
one_more value t ts (Some x) is = rw is refl

-- what is gathered behind a tree, with the rest
pub gathered_more : {T A : Type 0} (value : T → Option A) (t : T) (ts : List T) (done now : List A) (x : Option A) → x ≡ value t → now ≡ done ++ one_item x
    → now ++ filter_map value ts ≡ done ++ filter_map value (t ∷ ts)
gathered_more value t ts done now x is now-is =
    ap (λ (xs : List _). xs ++ filter_map value ts) now-is
    ∙ append_assoc done (one_item x) (filter_map value ts)
    ∙ ap (λ (xs : List _). done ++ xs) (sym (one_more value t ts x (sym is)))

-- what is noted behind a tree, with the rest
pub noted_more : {T : Type 0} (faults : T → List Fault) (t : T) (ts : List T) (first now : Option Fault) → now ≡ all_noted first (faults t)
    → all_noted now (flat_map faults ts) ≡ all_noted first (flat_map faults (t ∷ ts))
noted_more faults t ts first now is =
    ap (λ (n : Option Fault). all_noted n (flat_map faults ts)) is ∙ sym (noted_append first (faults t) (flat_map faults ts))
