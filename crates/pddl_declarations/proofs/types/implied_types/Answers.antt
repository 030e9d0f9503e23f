use Rattle.std.proofs.Common.{◌+◌, ℕ, List, ◌++◌, Bor, drop, map, sym, ap, ◌∙◌}
use Rattle.pddl_terms.specs.declared.names.Typed.{Typed}
use Rattle.pddl_trees.specs.Declarations.{implied_types, names_of}
use Rattle.pddl_declarations.proofs.Known.{same_implied}
use Rattle.pddl_declarations.proofs.TypedSteps.{drop_next}
use Rattle.pddl_declarations.proofs.types.implied_types.Goals as goal

pub each-init : goal.each-init
each-init c =
    let types = c.args.types.now in
    let ks : List (List ℕ) = map (λ (w : Bor (List ℕ)). w.now) c.in_ok-known.known.keys in
    ap (λ (done : List Typed). done ++ implied_types ks types) c.new-implied.ensures.items ∙ same_implied types ks (names_of types) c.in_ok-known.ensures

pub each-preserved : goal.each-preserved
each-preserved c =
    let ks : List (List ℕ) = map (λ (w : Bor (List ℕ)). w.now) c.each.known.keys in
    let next = drop_next c.args.types.now c.each.one-index c.one-item.result c.each-test.true c.one-item.is in
    c.in_ok-imply.ensures (drop (c.each.one-index + 1) c.args.types.now)
    ∙ ap (λ (ts : List Typed). c.each.implied.items ++ implied_types ks ts) (sym next)
    ∙ c.each.invariant
