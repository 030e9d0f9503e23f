use Rattle.std.proofs.Common.{◌≡◌, List, ◌++◌, Option, None, codes, subst}
use Rattle.sexp_text.specs.declared.trees.Tree.{Tree}
use Rattle.pddl_trees.specs.declared.faults.Fault.{Fault}
use Rattle.pddl_trees.specs.Faults.{all_noted}
use Rattle.pddl_trees.specs.Sections.{domain_sections, objects_in, requirements_faults, sections_of, word_and_repeat_faults}
use Rattle.pddl_trees.specs.Frames.{frame_of}
use Rattle.pddl_trees.specs.Domains.{functions_in, predicates_in, types_in}
use Rattle.pddl_trees.specs.Actions.{schemas_in}
use Rattle.pddl_trees.proofs.Quiet.{quiet_behind}
use Rattle.pddl_reader.proofs.DomainParts.{same_parts}
use Rattle.pddl_trees.proofs.Walks.{noted_after}
use Rattle.pddl_reader.proofs.domains.domain_parts.Goals as goal

pub returns-clause-faults : goal.returns-clause-faults
returns-clause-faults c =
    let text = c.args.text.now in
    let at = c.args.at in
    let ts = c.args.parts.now in
    let ss : List Tree = sections_of ts in
    let ss_is : c.behind_frame-sections.result.now ≡ ss = c.behind_frame-sections.ensures in
    let n0 : Option Fault = c.args.notes.now.first in
    let n1 : Option Fault = c.frame.new.notes.first in
    let f1 : List Fault = (frame_of text (codes "domain") at ts).faults in
    let n2 : Option Fault = c.note_domain_sections.new.notes.first in
    let f2 : List Fault = word_and_repeat_faults text domain_sections ss in
    let n3 : Option Fault = c.note_required.new.notes.first in
    let f3 : List Fault = requirements_faults text ss in
    let n4 : Option Fault = c.types.new.notes.first in
    let f4 : List Fault = (types_in text ss).faults in
    let n5 : Option Fault = c.objects.new.notes.first in
    let f5 : List Fault = (objects_in text (codes ":constants") ss).faults in
    let n6 : Option Fault = c.predicates.new.notes.first in
    let f6 : List Fault = (predicates_in text ss).faults in
    let n7 : Option Fault = c.functions.new.notes.first in
    let f7 : List Fault = (functions_in text ss).faults in
    let n8 : Option Fault = c.schemas.new.notes.first in
    let f8 : List Fault = (schemas_in text ss).faults in
    let s1 : n1 ≡ all_noted n0 f1 = c.in_ok-name.ensures.faults in
    let s2 : n2 ≡ all_noted n1 f2 = subst (λ (us : List Tree). n2 ≡ all_noted n1 (word_and_repeat_faults text domain_sections us)) ss_is c.note_domain_sections.ensures in
    let s3 : n3 ≡ all_noted n2 f3 = subst (λ (us : List Tree). n3 ≡ all_noted n2 (requirements_faults text us)) ss_is c.note_required.ensures in
    let s4 : n4 ≡ all_noted n3 f4 = subst (λ (us : List Tree). n4 ≡ all_noted n3 ((types_in text us).faults)) ss_is c.in_ok-types.ensures.faults in
    let s5 : n5 ≡ all_noted n4 f5 = subst (λ (us : List Tree). n5 ≡ all_noted n4 ((objects_in text (codes ":constants") us).faults)) ss_is c.in_ok-constants.ensures.faults in
    let s6 : n6 ≡ all_noted n5 f6 = subst (λ (us : List Tree). n6 ≡ all_noted n5 ((predicates_in text us).faults)) ss_is c.in_ok-predicates.ensures.faults in
    let s7 : n7 ≡ all_noted n6 f7 = subst (λ (us : List Tree). n7 ≡ all_noted n6 ((functions_in text us).faults)) ss_is c.in_ok-functions.ensures.faults in
    let s8 : n8 ≡ all_noted n7 f8 = subst (λ (us : List Tree). n8 ≡ all_noted n7 ((schemas_in text us).faults)) ss_is c.in_ok-schemas.ensures.faults in
    let e1 : n1 ≡ all_noted n0 f1 = s1 in
    let e2 : n2 ≡ all_noted n0 (f1 ++ f2) = noted_after n0 n1 n2 (f1) f2 e1 s2 in
    let e3 : n3 ≡ all_noted n0 (f1 ++ f2 ++ f3) = noted_after n0 n2 n3 (f1 ++ f2) f3 e2 s3 in
    let e4 : n4 ≡ all_noted n0 (f1 ++ f2 ++ f3 ++ f4) = noted_after n0 n3 n4 (f1 ++ f2 ++ f3) f4 e3 s4 in
    let e5 : n5 ≡ all_noted n0 (f1 ++ f2 ++ f3 ++ f4 ++ f5) = noted_after n0 n4 n5 (f1 ++ f2 ++ f3 ++ f4) f5 e4 s5 in
    let e6 : n6 ≡ all_noted n0 (f1 ++ f2 ++ f3 ++ f4 ++ f5 ++ f6) = noted_after n0 n5 n6 (f1 ++ f2 ++ f3 ++ f4 ++ f5) f6 e5 s6 in
    let e7 : n7 ≡ all_noted n0 (f1 ++ f2 ++ f3 ++ f4 ++ f5 ++ f6 ++ f7) = noted_after n0 n6 n7 (f1 ++ f2 ++ f3 ++ f4 ++ f5 ++ f6) f7 e6 s7 in
    let e8 : n8 ≡ all_noted n0 (f1 ++ f2 ++ f3 ++ f4 ++ f5 ++ f6 ++ f7 ++ f8) = noted_after n0 n7 n8 (f1 ++ f2 ++ f3 ++ f4 ++ f5 ++ f6 ++ f7) f8 e7 s8 in
    e8

pub returns-clause-value : goal.returns-clause-value
returns-clause-value c = λ quiet.
    let text = c.args.text.now in
    let at = c.args.at in
    let ts = c.args.parts.now in
    let ss : List Tree = sections_of ts in
    let ss_is : c.behind_frame-sections.result.now ≡ ss = c.behind_frame-sections.ensures in
    let n0 : Option Fault = c.args.notes.now.first in
    let n1 : Option Fault = c.frame.new.notes.first in
    let f1 : List Fault = (frame_of text (codes "domain") at ts).faults in
    let n2 : Option Fault = c.note_domain_sections.new.notes.first in
    let f2 : List Fault = word_and_repeat_faults text domain_sections ss in
    let n3 : Option Fault = c.note_required.new.notes.first in
    let f3 : List Fault = requirements_faults text ss in
    let n4 : Option Fault = c.types.new.notes.first in
    let f4 : List Fault = (types_in text ss).faults in
    let n5 : Option Fault = c.objects.new.notes.first in
    let f5 : List Fault = (objects_in text (codes ":constants") ss).faults in
    let n6 : Option Fault = c.predicates.new.notes.first in
    let f6 : List Fault = (predicates_in text ss).faults in
    let n7 : Option Fault = c.functions.new.notes.first in
    let f7 : List Fault = (functions_in text ss).faults in
    let n8 : Option Fault = c.schemas.new.notes.first in
    let f8 : List Fault = (schemas_in text ss).faults in
    let s1 : n1 ≡ all_noted n0 f1 = c.in_ok-name.ensures.faults in
    let s2 : n2 ≡ all_noted n1 f2 = subst (λ (us : List Tree). n2 ≡ all_noted n1 (word_and_repeat_faults text domain_sections us)) ss_is c.note_domain_sections.ensures in
    let s3 : n3 ≡ all_noted n2 f3 = subst (λ (us : List Tree). n3 ≡ all_noted n2 (requirements_faults text us)) ss_is c.note_required.ensures in
    let s4 : n4 ≡ all_noted n3 f4 = subst (λ (us : List Tree). n4 ≡ all_noted n3 ((types_in text us).faults)) ss_is c.in_ok-types.ensures.faults in
    let s5 : n5 ≡ all_noted n4 f5 = subst (λ (us : List Tree). n5 ≡ all_noted n4 ((objects_in text (codes ":constants") us).faults)) ss_is c.in_ok-constants.ensures.faults in
    let s6 : n6 ≡ all_noted n5 f6 = subst (λ (us : List Tree). n6 ≡ all_noted n5 ((predicates_in text us).faults)) ss_is c.in_ok-predicates.ensures.faults in
    let s7 : n7 ≡ all_noted n6 f7 = subst (λ (us : List Tree). n7 ≡ all_noted n6 ((functions_in text us).faults)) ss_is c.in_ok-functions.ensures.faults in
    let s8 : n8 ≡ all_noted n7 f8 = subst (λ (us : List Tree). n8 ≡ all_noted n7 ((schemas_in text us).faults)) ss_is c.in_ok-schemas.ensures.faults in
    let q8 : n8 ≡ None = quiet in
    let q7 : n7 ≡ None = quiet_behind n7 n8 f8 s8 q8 in
    let q6 : n6 ≡ None = quiet_behind n6 n7 f7 s7 q7 in
    let q5 : n5 ≡ None = quiet_behind n5 n6 f6 s6 q6 in
    let q4 : n4 ≡ None = quiet_behind n4 n5 f5 s5 q5 in
    same_parts text (frame_of text (codes "domain") at ts) c.in_ok-name.name ss c.in_ok-types.types c.in_ok-constants.constants c.in_ok-predicates.predicates c.in_ok-functions.functions
    c.in_ok-schemas.schemas c.with_parts.result c.with_parts.ensures
    (subst (λ (us : List Tree). c.in_ok-types.types ≡ (types_in text us).items) ss_is (c.in_ok-types.ensures.items q4))
    (subst (λ (us : List Tree). c.in_ok-constants.constants ≡ (objects_in text (codes ":constants") us).items) ss_is (c.in_ok-constants.ensures.items q5))
    (subst (λ (us : List Tree). c.in_ok-predicates.predicates ≡ (predicates_in text us).items) ss_is (c.in_ok-predicates.ensures.items q6))
    (subst (λ (us : List Tree). c.in_ok-functions.functions ≡ (functions_in text us).items) ss_is (c.in_ok-functions.ensures.items q7))
    (subst (λ (us : List Tree). c.in_ok-schemas.schemas ≡ (schemas_in text us).items) ss_is (c.in_ok-schemas.ensures.items q8))
    c.in_ok-name.ensures.value
