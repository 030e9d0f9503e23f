use Rattle.std.proofs.Common.{Option, false, ap, sym}
use Rattle.std.specs.Option.{option_map_or}
use Rattle.pddl_terms.specs.declared.names.Typed.{Typed}
use Rattle.pddl_types.specs.Pairs.{objects_of}
use Rattle.type_order.specs.Types.{is_within}
use Rattle.pddl_meaning.proofs.Places.{not_found, place_within, tested_at}
use Rattle.pddl_meaning.proofs.steps.fits.Goals as goal

pub fits-requires : goal.fits-requires
fits-requires c = place_within (λ (t : Typed). t.name) c.args.arg.now (objects_of c.args.checked.now) c.in-Some.object c.in-Some.ensures

pub returns-in-Some : goal.returns-in-Some
returns-in-Some c =
    tested_at (λ (t : Typed). t.name) (λ own. is_within c.args.checked.now.domain.types own.kind.text c.args.param.now.kind.text) c.args.arg.now (objects_of c.args.checked.now) c.in-Some.object c.fits.result c.in-Some.ensures c.fits.ensures

pub returns-in-None : goal.returns-in-None
returns-in-None c =
    ap (λ (x : Option Typed). option_map_or (λ own. is_within c.args.checked.now.domain.types own.kind.text c.args.param.now.kind.text) x false)
    (sym (not_found (λ (t : Typed). t.name) c.args.arg.now (objects_of c.args.checked.now) c.in-None.ensures))
