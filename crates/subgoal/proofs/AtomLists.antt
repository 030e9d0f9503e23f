-- The atoms of a condition, one equation for each variant, and their values.
use Rattle.std.proofs.Common.{◌≡◌, ℕ, ◌++◌, Bool, List, [], ◌∷◌, map, refl, sym, ap, ◌∙◌}
use Rattle.std.specs.List.{flat_map}
use Rattle.std.proofs.lemmas.List.{map-append}
use Rattle.std.proofs.lemmas.List.Concat.{flat_map-cons}
use Rattle.ground_task.proofs.Trees.{fold-True, fold-False, fold-Fact, fold-Cmp, fold-And, fold-Or}
use Rattle.ground_task.specs.declared.raw.Rel.{Rel}
use Rattle.ground_task.specs.declared.raw.GExpr.{GExpr}
use Rattle.ground_task.specs.declared.raw.GCond.{GCond}
use Rattle.ground_task.specs.declared.raw.GCond.TheVariants as c
use Rattle.ground_task.specs.declared.raw.Ground.{Ground}
use Rattle.subgoal.specs.Equations.{Atoms, condition_value}
use Rattle.subgoal.specs.Network.{atoms_layer, atoms_of, weights_of}

flat_mapped : {X Y : Type 0} (f : X → List Y) (xs : List X) → flat_map (λ part. part) (map f xs) ≡ flat_map f xs
flat_mapped f [] = refl
flat_mapped f (x ∷ xs) =
    flat_map-cons (λ part. part) (f x) (map f xs) ∙ ap (λ (rest : List _). f x ++ rest) (flat_mapped f xs) ∙ sym (flat_map-cons f x xs)

pub map_flat : {X Y Z : Type 0} (g : Y → Z) (f : X → List Y) (xs : List X) → map g (flat_map f xs) ≡ flat_map (λ x. map g (f x)) xs
map_flat g f [] = refl
map_flat g f (x ∷ xs) =
    ap (map g) (flat_map-cons f x xs) ∙ map-append g (f x) (flat_map f xs) ∙ ap (λ (rest : List _). map g (f x) ++ rest) (map_flat g f xs)
    ∙ sym (flat_map-cons (λ y. map g (f y)) x xs)

pub atoms_True : atoms_of c.True ≡ []
unfolding atoms_of
atoms_True = fold-True atoms_layer

pub atoms_False : atoms_of c.False ≡ []
unfolding atoms_of
atoms_False = fold-False atoms_layer

pub atoms_Fact : (f : ℕ) (truth : Bool) → atoms_of (c.Fact f truth) ≡ c.Fact f truth ∷ []
unfolding atoms_of
atoms_Fact f truth = fold-Fact atoms_layer f truth

pub atoms_Cmp : (r : Rel) (a b : GExpr) → atoms_of (c.Cmp r a b) ≡ c.Cmp r a b ∷ []
unfolding atoms_of
atoms_Cmp r a b = fold-Cmp atoms_layer r a b

pub atoms_And : (cs : List GCond) → atoms_of (c.And cs) ≡ flat_map atoms_of cs
unfolding atoms_of
atoms_And cs = fold-And atoms_layer cs ∙ flat_mapped atoms_of cs

pub atoms_Or : (cs : List GCond) → atoms_of (c.Or cs) ≡ flat_map atoms_of cs
unfolding atoms_of
atoms_Or cs = fold-Or atoms_layer cs ∙ flat_mapped atoms_of cs

-- an atom has itself alone
pub own_Fact : (x : GCond) (f : ℕ) (truth : Bool) → x ≡ c.Fact f truth → x ∷ [] ≡ atoms_of x
own_Fact x f truth is = sym (ap atoms_of is ∙ atoms_Fact f truth ∙ ap (λ (y : GCond). y ∷ []) (sym is))

pub own_Cmp : (x : GCond) (r : Rel) (a b : GExpr) → x ≡ c.Cmp r a b → x ∷ [] ≡ atoms_of x
own_Cmp x r a b is = sym (ap atoms_of is ∙ atoms_Cmp r a b ∙ ap (λ (y : GCond). y ∷ []) (sym is))

module _ (atoms : Atoms) (actions : List Ground) (v : List ℕ) where
  pub weights_And : (cs : List GCond) → weights_of atoms actions v (c.And cs) ≡ flat_map (weights_of atoms actions v) cs
  weights_And cs = ap (map (condition_value atoms actions v)) (atoms_And cs) ∙ map_flat (condition_value atoms actions v) atoms_of cs

  pub weights_Or : (cs : List GCond) → weights_of atoms actions v (c.Or cs) ≡ flat_map (weights_of atoms actions v) cs
  weights_Or cs = ap (map (condition_value atoms actions v)) (atoms_Or cs) ∙ map_flat (condition_value atoms actions v) atoms_of cs
