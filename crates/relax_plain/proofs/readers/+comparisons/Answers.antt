use Rattle.std.proofs.Common.{◌∙◌, List, length, rules, ap, subst, sym}
use Rattle.std.specs.List.{list_all, list_any}
use Rattle.std.proofs.lemmas.Result.{on_ok_weaker}
use Rattle.ground_task.specs.Valid.{is_known_condition}
use Rattle.ground_task.specs.declared.raw.GCond.{GCond}
use Rattle.ground_task.specs.declared.raw.GCond.TheViews.{the_lemmas}
use Rattle.ground_task.proofs.Trees.{is_known-And, is_known-Or}
use Rattle.relax_plain.specs.Reads.{compares, IsNoted}
use Rattle.relax_plain.proofs.ReaderLemmas.{noted_and, noted_or, noted_more}
use Rattle.relax_plain.proofs.readers.+comparisons.Goals as goal

pub note_all_compared-each-preserved : goal.note_all_compared-each-preserved
note_all_compared-each-preserved t c =
    let g : GCond = c.cond-item.result in
    noted_more c.args.number compares c.args.conds.now c.each.cond-index g c.args.lists.now.items c.each.lists.items c.note_compared.new.lists.items c.each-test.true c.each.invariant
    (subst (λ (h : GCond). IsNoted c.args.number (λ x. compares x h) c.each.lists.items c.note_compared.new.lists.items) c.cond-item.is c.in_ok-note_compared.ensures)

pub note_compared-note_all_compared-requires : goal.note_compared-note_all_compared-requires
note_compared-note_all_compared-requires t c =
    let conds = c.in-And.conds in (
      search (rules, the_lemmas),
      ap (list_all (is_known_condition (c.args.facts) (length c.args.lists.now.items))) c.as_slice.ensures ∙ sym (is_known-And (c.args.facts) (length c.args.lists.now.items) conds)
          ∙ ap (is_known_condition (c.args.facts) (length c.args.lists.now.items)) (sym c.in-And.is) ∙ c.requires.known,
    )

pub note_compared-note_all_compared-requires-in-Or : goal.note_compared-note_all_compared-requires-in-Or
note_compared-note_all_compared-requires-in-Or t c =
    let conds = c.in-Or.conds in (
      search (rules, the_lemmas),
      ap (list_all (is_known_condition (c.args.facts) (length c.args.lists.now.items))) c.as_slice-in-Or.ensures ∙ sym (is_known-Or (c.args.facts) (length c.args.lists.now.items) conds)
          ∙ ap (is_known_condition (c.args.facts) (length c.args.lists.now.items)) (sym c.in-Or.is) ∙ c.requires.known,
    )

pub note_compared-returns-in-And : goal.note_compared-returns-in-And
note_compared-returns-in-And t c =
    on_ok_weaker c.note_all_compared.result
    (λ h. noted_and c.args.number c.args.cond.now c.in-And.conds c.args.lists.now.items c.note_all_compared.new.lists.items c.in-And.is
    (subst (λ (cs : List GCond). IsNoted c.args.number (λ x. list_any (compares x) cs) c.args.lists.now.items c.note_all_compared.new.lists.items) c.as_slice.ensures h))
    c.note_all_compared.ensures

pub note_compared-returns-in-Or : goal.note_compared-returns-in-Or
note_compared-returns-in-Or t c =
    on_ok_weaker c.note_all_compared-in-Or.result
    (λ h. noted_or c.args.number c.args.cond.now c.in-Or.conds c.args.lists.now.items c.note_all_compared-in-Or.new.lists.items c.in-Or.is
    (subst (λ (cs : List GCond). IsNoted c.args.number (λ x. list_any (compares x) cs) c.args.lists.now.items c.note_all_compared-in-Or.new.lists.items) c.as_slice-in-Or.ensures h))
    c.note_all_compared-in-Or.ensures
