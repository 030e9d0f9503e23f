use Rattle.std.proofs.Common.{List, Some, None, ap, ◌∙◌}
use Rattle.pddl_terms.specs.declared.names.Typed.{Typed}
use Rattle.static_facts.specs.Atoms.{atom_of, names, text_of_atom}
use Rattle.bound_actions.proofs.FirstUnset.{fluents_bound, text_by_patterns}
use Rattle.bound_actions.proofs.Members.{known_in}
use Rattle.bound_actions.proofs.unset.AssignedFluents.first_unset.Goals as goal

pub first_unset-requires : goal.first_unset-requires
first_unset-requires c = record {
  bound = fluents_bound c.self.inside.checked.now c.self.inside.schema.now c.args.self.now c.self.view_is c.args.objects.now c.self.inside.assigned.items c.as_slice-2.result.now
      c.as_slice-2.ensures.value c.self.invariant c.requires.as_many c.requires.known;
}

pub atom_text-requires : goal.atom_text-requires
atom_text-requires c = record { known = known_in c.self.inside.checked.now c.self.inside.schema.now c.args.self.now c.self.view_is c.args.objects.now c.requires.known }

pub returns-in_ok-atom_text-in-Some : goal.returns-in_ok-atom_text-in-Some
returns-in_ok-atom_text-in-Some c =
    ap Some
    (c.in_ok-atom_text-in-Some.ensures
    ∙ ap (λ (ts : List Typed). text_of_atom (atom_of ts (names c.self.inside.checked.now c.args.objects.now) c.in-Some.atom.now)) c.as_slice.ensures)
    ∙ text_by_patterns c.self.inside.checked.now c.self.inside.schema.now c.args.self.now c.self.view_is c.args.objects.now c.self.inside.assigned.items c.as_slice-2.result.now
    c.as_slice-2.ensures.value c.self.invariant (Some c.in-Some.atom.now) c.in-Some.ensures

pub returns-in-None : goal.returns-in-None
returns-in-None c =
    text_by_patterns c.self.inside.checked.now c.self.inside.schema.now c.args.self.now c.self.view_is c.args.objects.now c.self.inside.assigned.items c.as_slice-2.result.now
    c.as_slice-2.ensures.value c.self.invariant None c.in-None.ensures
