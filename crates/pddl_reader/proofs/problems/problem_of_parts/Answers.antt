use Rattle.std.proofs.Common.{◌≡◌, List, ◌++◌, Option, None, codes, subst}
use Rattle.std.specs.Prelude.{flat_map, filter_map}
use Rattle.sexp_text.specs.declared.trees.Tree.{Tree}
use Rattle.pddl_trees.specs.declared.faults.Fault.{Fault}
use Rattle.pddl_trees.specs.Faults.{all_noted}
use Rattle.pddl_trees.specs.Initial.{Entry, entries_in}
use Rattle.pddl_trees.specs.Sections.{problem_sections, objects_in, requirements_faults, sections_of, word_and_repeat_faults}
use Rattle.pddl_trees.specs.Problems.{domain_name_faults, needed_section}
use Rattle.pddl_trees.specs.Frames.{frame_of}
use Rattle.pddl_trees.specs.Goals.{goal_in, metric_in}
use Rattle.pddl_trees.proofs.Quiet.{quiet_behind}
use Rattle.pddl_reader.proofs.ProblemParts.{same_parts}
use Rattle.pddl_trees.proofs.Walks.{noted_after}
use Rattle.pddl_reader.proofs.problems.problem_of_parts.Goals as goal

pub returns-clause-faults : goal.returns-clause-faults
returns-clause-faults c =
    let text = c.args.text.now in
    let at = c.args.at in
    let ts = c.args.parts.now in
    let ss : List Tree = sections_of ts in
    let ss_is : c.behind_frame-sections.result.now ≡ ss = c.behind_frame-sections.ensures in
    let n0 : Option Fault = c.args.notes.now.first in
    let n1 : Option Fault = c.frame.new.notes.first in
    let f1 : List Fault = (frame_of text (codes "problem") at ts).faults in
    let n2 : Option Fault = c.note_problem_sections.new.notes.first in
    let f2 : List Fault = word_and_repeat_faults text problem_sections ss in
    let n3 : Option Fault = c.note_required.new.notes.first in
    let f3 : List Fault = requirements_faults text ss in
    let n4 : Option Fault = c.note_needed.new.notes.first in
    let f4 : List Fault = needed_section text at (codes ":init") ss in
    let n5 : Option Fault = c.note_needed-2.new.notes.first in
    let f5 : List Fault = needed_section text at (codes ":goal") ss in
    let n6 : Option Fault = c.note_domain_name.new.notes.first in
    let f6 : List Fault = domain_name_faults text ss in
    let n7 : Option Fault = c.objects.new.notes.first in
    let f7 : List Fault = (objects_in text (codes ":objects") ss).faults in
    let n8 : Option Fault = c.initial.new.notes.first in
    let f8 : List Fault = flat_map (λ (e : Entry). e.faults) (entries_in text ss) in
    let n9 : Option Fault = c.goal_of.new.notes.first in
    let f9 : List Fault = (goal_in text ss).faults in
    let n10 : Option Fault = c.note_metric_of.new.notes.first in
    let f10 : List Fault = metric_in text ss in
    let s1 : n1 ≡ all_noted n0 f1 = c.in_ok-name.ensures.faults in
    let s2 : n2 ≡ all_noted n1 f2 = subst (λ (us : List Tree). n2 ≡ all_noted n1 (word_and_repeat_faults text problem_sections us)) ss_is c.note_problem_sections.ensures in
    let s3 : n3 ≡ all_noted n2 f3 = subst (λ (us : List Tree). n3 ≡ all_noted n2 (requirements_faults text us)) ss_is c.note_required.ensures in
    let s4 : n4 ≡ all_noted n3 f4 = subst (λ (us : List Tree). n4 ≡ all_noted n3 (needed_section text at (codes ":init") us)) ss_is c.note_needed.ensures in
    let s5 : n5 ≡ all_noted n4 f5 = subst (λ (us : List Tree). n5 ≡ all_noted n4 (needed_section text at (codes ":goal") us)) ss_is c.note_needed-2.ensures in
    let s6 : n6 ≡ all_noted n5 f6 = subst (λ (us : List Tree). n6 ≡ all_noted n5 (domain_name_faults text us)) ss_is c.in_ok-note_domain_name.ensures in
    let s7 : n7 ≡ all_noted n6 f7 = subst (λ (us : List Tree). n7 ≡ all_noted n6 ((objects_in text (codes ":objects") us).faults)) ss_is c.in_ok-objects.ensures.faults in
    let s8 : n8 ≡ all_noted n7 f8 = subst (λ (us : List Tree). n8 ≡ all_noted n7 (flat_map (λ (e : Entry). e.faults) (entries_in text us))) ss_is c.in_ok-initial.ensures.faults in
    let s9 : n9 ≡ all_noted n8 f9 = subst (λ (us : List Tree). n9 ≡ all_noted n8 ((goal_in text us).faults)) ss_is c.in_ok-goal.ensures.faults in
    let s10 : n10 ≡ all_noted n9 f10 = subst (λ (us : List Tree). n10 ≡ all_noted n9 (metric_in text us)) ss_is c.note_metric_of.ensures in
    let e1 : n1 ≡ all_noted n0 f1 = s1 in
    let e2 : n2 ≡ all_noted n0 (f1 ++ f2) = noted_after n0 n1 n2 (f1) f2 e1 s2 in
    let e3 : n3 ≡ all_noted n0 (f1 ++ f2 ++ f3) = noted_after n0 n2 n3 (f1 ++ f2) f3 e2 s3 in
    let e4 : n4 ≡ all_noted n0 (f1 ++ f2 ++ f3 ++ f4) = noted_after n0 n3 n4 (f1 ++ f2 ++ f3) f4 e3 s4 in
    let e5 : n5 ≡ all_noted n0 (f1 ++ f2 ++ f3 ++ f4 ++ f5) = noted_after n0 n4 n5 (f1 ++ f2 ++ f3 ++ f4) f5 e4 s5 in
    let e6 : n6 ≡ all_noted n0 (f1 ++ f2 ++ f3 ++ f4 ++ f5 ++ f6) = noted_after n0 n5 n6 (f1 ++ f2 ++ f3 ++ f4 ++ f5) f6 e5 s6 in
    let e7 : n7 ≡ all_noted n0 (f1 ++ f2 ++ f3 ++ f4 ++ f5 ++ f6 ++ f7) = noted_after n0 n6 n7 (f1 ++ f2 ++ f3 ++ f4 ++ f5 ++ f6) f7 e6 s7 in
    let e8 : n8 ≡ all_noted n0 (f1 ++ f2 ++ f3 ++ f4 ++ f5 ++ f6 ++ f7 ++ f8) = noted_after n0 n7 n8 (f1 ++ f2 ++ f3 ++ f4 ++ f5 ++ f6 ++ f7) f8 e7 s8 in
    let e9 : n9 ≡ all_noted n0 (f1 ++ f2 ++ f3 ++ f4 ++ f5 ++ f6 ++ f7 ++ f8 ++ f9) = noted_after n0 n8 n9 (f1 ++ f2 ++ f3 ++ f4 ++ f5 ++ f6 ++ f7 ++ f8) f9 e8 s9 in
    let e10 : n10 ≡ all_noted n0 (f1 ++ f2 ++ f3 ++ f4 ++ f5 ++ f6 ++ f7 ++ f8 ++ f9 ++ f10) = noted_after n0 n9 n10 (f1 ++ f2 ++ f3 ++ f4 ++ f5 ++ f6 ++ f7 ++ f8 ++ f9) f10 e9 s10 in
    e10

pub returns-clause-value : goal.returns-clause-value
returns-clause-value c = λ quiet.
    let text = c.args.text.now in
    let at = c.args.at in
    let ts = c.args.parts.now in
    let ss : List Tree = sections_of ts in
    let ss_is : c.behind_frame-sections.result.now ≡ ss = c.behind_frame-sections.ensures in
    let n0 : Option Fault = c.args.notes.now.first in
    let n1 : Option Fault = c.frame.new.notes.first in
    let f1 : List Fault = (frame_of text (codes "problem") at ts).faults in
    let n2 : Option Fault = c.note_problem_sections.new.notes.first in
    let f2 : List Fault = word_and_repeat_faults text problem_sections ss in
    let n3 : Option Fault = c.note_required.new.notes.first in
    let f3 : List Fault = requirements_faults text ss in
    let n4 : Option Fault = c.note_needed.new.notes.first in
    let f4 : List Fault = needed_section text at (codes ":init") ss in
    let n5 : Option Fault = c.note_needed-2.new.notes.first in
    let f5 : List Fault = needed_section text at (codes ":goal") ss in
    let n6 : Option Fault = c.note_domain_name.new.notes.first in
    let f6 : List Fault = domain_name_faults text ss in
    let n7 : Option Fault = c.objects.new.notes.first in
    let f7 : List Fault = (objects_in text (codes ":objects") ss).faults in
    let n8 : Option Fault = c.initial.new.notes.first in
    let f8 : List Fault = flat_map (λ (e : Entry). e.faults) (entries_in text ss) in
    let n9 : Option Fault = c.goal_of.new.notes.first in
    let f9 : List Fault = (goal_in text ss).faults in
    let n10 : Option Fault = c.note_metric_of.new.notes.first in
    let f10 : List Fault = metric_in text ss in
    let s1 : n1 ≡ all_noted n0 f1 = c.in_ok-name.ensures.faults in
    let s2 : n2 ≡ all_noted n1 f2 = subst (λ (us : List Tree). n2 ≡ all_noted n1 (word_and_repeat_faults text problem_sections us)) ss_is c.note_problem_sections.ensures in
    let s3 : n3 ≡ all_noted n2 f3 = subst (λ (us : List Tree). n3 ≡ all_noted n2 (requirements_faults text us)) ss_is c.note_required.ensures in
    let s4 : n4 ≡ all_noted n3 f4 = subst (λ (us : List Tree). n4 ≡ all_noted n3 (needed_section text at (codes ":init") us)) ss_is c.note_needed.ensures in
    let s5 : n5 ≡ all_noted n4 f5 = subst (λ (us : List Tree). n5 ≡ all_noted n4 (needed_section text at (codes ":goal") us)) ss_is c.note_needed-2.ensures in
    let s6 : n6 ≡ all_noted n5 f6 = subst (λ (us : List Tree). n6 ≡ all_noted n5 (domain_name_faults text us)) ss_is c.in_ok-note_domain_name.ensures in
    let s7 : n7 ≡ all_noted n6 f7 = subst (λ (us : List Tree). n7 ≡ all_noted n6 ((objects_in text (codes ":objects") us).faults)) ss_is c.in_ok-objects.ensures.faults in
    let s8 : n8 ≡ all_noted n7 f8 = subst (λ (us : List Tree). n8 ≡ all_noted n7 (flat_map (λ (e : Entry). e.faults) (entries_in text us))) ss_is c.in_ok-initial.ensures.faults in
    let s9 : n9 ≡ all_noted n8 f9 = subst (λ (us : List Tree). n9 ≡ all_noted n8 ((goal_in text us).faults)) ss_is c.in_ok-goal.ensures.faults in
    let s10 : n10 ≡ all_noted n9 f10 = subst (λ (us : List Tree). n10 ≡ all_noted n9 (metric_in text us)) ss_is c.note_metric_of.ensures in
    let q10 : n10 ≡ None = quiet in
    let q9 : n9 ≡ None = quiet_behind n9 n10 f10 s10 q10 in
    let q8 : n8 ≡ None = quiet_behind n8 n9 f9 s9 q9 in
    let q7 : n7 ≡ None = quiet_behind n7 n8 f8 s8 q8 in
    same_parts text at (frame_of text (codes "problem") at ts) c.in_ok-name.name ss c.in_ok-objects.objects c.in_ok-initial.initial.facts c.in_ok-initial.initial.values
    c.in_ok-goal.goal c.with_parts.result c.with_parts.ensures
    (subst (λ (us : List Tree). c.in_ok-objects.objects ≡ (objects_in text (codes ":objects") us).items) ss_is (c.in_ok-objects.ensures.items q7))
    (subst (λ (us : List Tree). c.in_ok-initial.initial.facts ≡ filter_map (λ (e : Entry). e.fact) (entries_in text us)) ss_is (c.in_ok-initial.ensures.facts))
    (subst (λ (us : List Tree). c.in_ok-initial.initial.values ≡ filter_map (λ (e : Entry). e.value) (entries_in text us)) ss_is (c.in_ok-initial.ensures.values))
    (subst (λ (us : List Tree). c.in_ok-goal.goal ≡ (goal_in text us).value) ss_is (c.in_ok-goal.ensures.value q9))
    c.in_ok-name.ensures.value
