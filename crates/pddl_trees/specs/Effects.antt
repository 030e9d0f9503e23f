-- What a list says as effects, with all its faults.
use Rattle.std.specs.Prelude.{ℕ, ◌++◌, List, [], ◌∷◌, Option, None, take, drop, codes, bytes_eq, flat_map, option_map, if◌then◌else◌}
use Rattle.std.specs.Option.{option_map_or}
use Rattle.pddl_terms.specs.declared.names.Atom.{Atom}
use Rattle.pddl_terms.specs.declared.actions.Assign.{Assign}
use Rattle.pddl_terms.specs.declared.actions.Effect.{Effect}
use Rattle.pddl_terms.specs.declared.actions.Effect.TheVariants as effect
use Rattle.pddl_trees.specs.declared.faults.Fault.{Fault}
use Rattle.pddl_trees.specs.Words.{change_of}
use Rattle.pddl_trees.specs.Forms.{Effects, Form, Parsed, both, extra, missing}

abbrev pub one_effect : ℕ → Option Effect → List Fault → Effects
one_effect at value faults = record { found = (at, value) ∷ []; faults = faults }

abbrev pub all_effects : List Form → Effects
all_effects ts = record { found = flat_map (λ t. t.effects.found) ts; faults = flat_map (λ t. t.effects.faults) ts }

abbrev pub deleted : List Form → Option Effect
deleted [] = None
deleted (t ∷ []) = option_map effect.Del t.atom.value
deleted (t ∷ u ∷ us) = None

abbrev pub changed : Assign → List Form → Option Effect
changed how [] = None
changed how (t ∷ []) = None
changed how (t ∷ u ∷ []) = both (effect.Num how) t.atom.value u.expr.value
changed how (t ∷ u ∷ v ∷ vs) = None

abbrev pub deletion : ℕ → List Form → Effects
deletion at ts = one_effect at (deleted ts) (flat_map (λ t. t.atom.faults) (take 1 ts) ++ missing at 1 ts ++ extra 1 ts)

abbrev pub change : ℕ → Assign → List Form → Effects
change at how ts =
    one_effect at (changed how ts)
    (flat_map (λ t. t.atom.faults) (take 1 ts) ++ flat_map (λ t. t.expr.faults) (take 1 (drop 1 ts)) ++ missing at 2 ts ++ extra 2 ts)

abbrev pub addition : ℕ → Parsed Atom → Effects
addition at a = one_effect at (option_map effect.Add a.value) a.faults

abbrev pub headed_effects : ℕ → List ℕ → List Form → Parsed Atom → Effects
headed_effects at w ts a =
    if bytes_eq w (codes "and") then all_effects ts
    else (if bytes_eq w (codes "not") then deletion at ts
    else option_map_or (λ how. change at how ts) (change_of w) (addition at a))

abbrev pub effects_of : ℕ → List Form → Parsed Atom → Effects
effects_of at [] a = record { found = []; faults = [] }
effects_of at (t ∷ ts) a = option_map_or (λ w. headed_effects at w ts a) t.word (addition at a)
