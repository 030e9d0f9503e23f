use Rattle.std.proofs.Common.{◌∙◌, List, length, rules, ap, subst, sym}
use Rattle.std.specs.List.{list_all, list_any}
use Rattle.std.proofs.lemmas.Result.{on_ok_weaker}
use Rattle.ground_task.specs.Valid.{is_known_condition}
use Rattle.ground_task.specs.declared.raw.GCond.{GCond}
use Rattle.ground_task.specs.declared.raw.GCond.TheViews.{the_lemmas}
use Rattle.ground_task.proofs.Trees.{is_known-And, is_known-Or}
use Rattle.relax_plain.specs.Reads.{asks, IsNoted}
use Rattle.relax_plain.proofs.ReaderLemmas.{asked_and, asked_or, noted_more}
use Rattle.relax_plain.proofs.readers.+literals.Goals as goal

pub note_all_asked-each-preserved : goal.note_all_asked-each-preserved
note_all_asked-each-preserved t c =
    let g : GCond = c.cond-item.result in
    noted_more c.args.number asks c.args.conds.now c.each.cond-index g c.args.lists.now.items c.each.lists.items c.note_asked.new.lists.items c.each-test.true c.each.invariant
    (subst (λ (h : GCond). IsNoted c.args.number (λ x. asks x h) c.each.lists.items c.note_asked.new.lists.items) c.cond-item.is c.in_ok-note_asked.ensures)

pub note_asked-note_all_asked-requires : goal.note_asked-note_all_asked-requires
note_asked-note_all_asked-requires t c =
    let conds = c.in-And.conds in (
      search (rules, the_lemmas),
      ap (list_all (is_known_condition (length c.args.lists.now.items) (c.args.fluents))) c.as_slice.ensures ∙ sym (is_known-And (length c.args.lists.now.items) (c.args.fluents) conds)
          ∙ ap (is_known_condition (length c.args.lists.now.items) (c.args.fluents)) (sym c.in-And.is) ∙ c.requires.known,
    )

pub note_asked-note_all_asked-requires-in-Or : goal.note_asked-note_all_asked-requires-in-Or
note_asked-note_all_asked-requires-in-Or t c =
    let conds = c.in-Or.conds in (
      search (rules, the_lemmas),
      ap (list_all (is_known_condition (length c.args.lists.now.items) (c.args.fluents))) c.as_slice-in-Or.ensures ∙ sym (is_known-Or (length c.args.lists.now.items) (c.args.fluents) conds)
          ∙ ap (is_known_condition (length c.args.lists.now.items) (c.args.fluents)) (sym c.in-Or.is) ∙ c.requires.known,
    )

pub note_asked-returns-in-And : goal.note_asked-returns-in-And
note_asked-returns-in-And t c =
    on_ok_weaker c.note_all_asked.result
    (λ h. asked_and c.args.number c.args.cond.now c.in-And.conds c.args.lists.now.items c.note_all_asked.new.lists.items c.in-And.is
    (subst (λ (cs : List GCond). IsNoted c.args.number (λ x. list_any (asks x) cs) c.args.lists.now.items c.note_all_asked.new.lists.items) c.as_slice.ensures h))
    c.note_all_asked.ensures

pub note_asked-returns-in-Or : goal.note_asked-returns-in-Or
note_asked-returns-in-Or t c =
    on_ok_weaker c.note_all_asked-in-Or.result
    (λ h. asked_or c.args.number c.args.cond.now c.in-Or.conds c.args.lists.now.items c.note_all_asked-in-Or.new.lists.items c.in-Or.is
    (subst (λ (cs : List GCond). IsNoted c.args.number (λ x. list_any (asks x) cs) c.args.lists.now.items c.note_all_asked-in-Or.new.lists.items) c.as_slice-in-Or.ensures h))
    c.note_all_asked-in-Or.ensures
