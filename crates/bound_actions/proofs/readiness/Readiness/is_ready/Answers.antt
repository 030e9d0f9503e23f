use Rattle.std.proofs.Common.{◌&&◌, Bool, List, ap, sym, subst, ◌∙◌}
use Rattle.std.specs.List.{list_all}
use Rattle.pddl_types.specs.WellFormed.{Each}
use Rattle.bound_actions.specs.Patterns.{AreBoundBy, IsBoundBy, are_apart_by, is_set_by}
use Rattle.bound_actions.proofs.Members.{known_in, many_in}
use Rattle.bound_actions.proofs.ReadyPatterns.{apart_bound, reads_bound, ready_of}
use Rattle.bound_actions.proofs.readiness.Readiness.is_ready.Goals as goal

pub are_set-requires : goal.are_set-requires
are_set-requires c =
    let p = c.self.inside.checked.now in
    let s = c.self.inside.schema.now in
    let os = c.args.objects.now in
    record {
      bound = subst (Each (IsBoundBy os)) (sym c.as_slice.ensures.value)
          (reads_bound p s c.self.inside.reads.items c.self.inside.apart.items c.self.invariant os (many_in p s c.args.self.now c.self.view_is os c.requires.as_many)
          (known_in p s c.args.self.now c.self.view_is os c.requires.known));
    }

pub are_apart-requires : goal.are_apart-requires
are_apart-requires c =
    let p = c.self.inside.checked.now in
    let s = c.self.inside.schema.now in
    let os = c.args.objects.now in
    record {
      bound = subst (Each (AreBoundBy os)) (sym c.as_slice-then-are_set.ensures.value)
          (apart_bound p s c.self.inside.reads.items c.self.inside.apart.items c.self.invariant os (many_in p s c.args.self.now c.self.view_is os c.requires.as_many)
          (known_in p s c.args.self.now c.self.view_is os c.requires.known));
    }

pub returns-then-are_set : goal.returns-then-are_set
returns-then-are_set c =
    let os = c.args.objects.now in
    let reads = c.self.inside.reads.items in
    let apart = c.self.inside.apart.items in
    c.are_apart.ensures ∙ ap (list_all (are_apart_by os)) c.as_slice-then-are_set.ensures.value
    ∙ ap (λ (t : Bool). t && list_all (are_apart_by os) apart) (c.if-are_set.ensures ∙ ap (list_all (is_set_by os)) c.as_slice.ensures.value)
    ∙ ready_of c.self.inside.checked.now c.self.inside.schema.now c.args.self.now c.self.view_is os reads apart c.self.invariant c.requires.as_many c.requires.known

pub returns-else-are_set : goal.returns-else-are_set
returns-else-are_set c =
    let os = c.args.objects.now in
    let reads = c.self.inside.reads.items in
    let apart = c.self.inside.apart.items in
    c.if-are_set.false ∙ ap (λ (t : Bool). t && list_all (are_apart_by os) apart) (c.if-are_set.ensures ∙ ap (list_all (is_set_by os)) c.as_slice.ensures.value)
    ∙ ready_of c.self.inside.checked.now c.self.inside.schema.now c.args.self.now c.self.view_is os reads apart c.self.invariant c.requires.as_many c.requires.known
