use Rattle.std.proofs.Common.{◌≡◌, ℕ, ◌<◌, ◌∙◌, List, [], true, false, length, get_or, set, ap, subst, sym}
use Rattle.std.proofs.lemmas.List.{get_or_read}
use Rattle.num_ends.specs.Ends.{Interval, hull_of, is_within}
use Rattle.box_model.specs.Boxes.{fluent_in}
use Rattle.box_model.specs.declared.state_box.StateBox.{StateBox}
use Rattle.relax_plain.specs.Marks.{MarksMore}
use Rattle.relax_plain.specs.Spread.{IsSpread}
use Rattle.relax_plain.proofs.Spreads.{box_of, extended, fluent_least, fluent_spread, known_numbers}
use Rattle.relax_plain.proofs.widen.extend.Goals as goal

pub reached-requires : goal.reached-requires
reached-requires c =
    record {
      inhabited = rw c.interval_of-interval.ensures (c.requires.a_box.inhabited c.args.fluent (subst (λ (n : ℕ). c.args.fluent < n) (sym c.requires.a_box.as_many_fluents) c.requires.known));
    }

pub set_all-requires : goal.set_all-requires
set_all-requires c =
    let t = c.args.task.now in
    let r = c.args.readers.now in
    let lists = r.fluents.items in
    let known : c.args.fluent < length lists = subst (λ (n : ℕ). c.args.fluent < n) (sym c.requires.readers.a_list_each_fluent) c.requires.known in
    let here : c.as_slice.result.now ≡ get_or lists c.args.fluent [] = c.as_slice.ensures ∙ get_or_read lists c.args.fluent c.index.result.now known c.index.ensures [] in
    record {
      known = λ k d h. subst (λ (n : ℕ). get_or c.as_slice.result.now k d < n) (sym c.requires.as_many)
          (known_numbers lists c.args.fluent c.as_slice.result.now (length t.raw.actions) here (c.requires.readers.known_in_fluents c.args.fluent) k d h);
    }

pub returns-clause-spread : goal.returns-clause-spread
returns-clause-spread c =
    let t = c.args.task.now in
    let r = c.args.readers.now in
    let lists = r.fluents.items in
    let known : c.args.fluent < length lists = subst (λ (n : ℕ). c.args.fluent < n) (sym c.requires.readers.a_list_each_fluent) c.requires.known in
    let here : c.as_slice.result.now ≡ get_or lists c.args.fluent [] = c.as_slice.ensures ∙ get_or_read lists c.args.fluent c.index.result.now known c.index.ensures [] in
    let b = c.args.state_box in
    let m = c.args.marks.now in
    let i : c.interval_of-interval.result ≡ fluent_in b c.args.fluent =
    c.interval_of-interval.ensures in
    let no' : is_within (c.args.lower, c.args.upper) (fluent_in b c.args.fluent) ≡ false = sym (c.reaches.ensures ∙ ap (is_within (c.args.lower, c.args.upper)) i) ∙ c.if-reaches.false in
    let more : MarksMore (get_or lists c.args.fluent []) m c.set_all.new.self =
    subst (λ (ns : List ℕ). MarksMore ns m c.set_all.new.self) here c.set_all.ensures in
    let wide : c.reached.result ≡ hull_of (fluent_in b c.args.fluent) (c.args.lower, c.args.upper) = c.reached.ensures ∙ ap (λ (j : Interval). hull_of j (c.args.lower, c.args.upper)) i in
    let result_is : c.with_interval.result ≡ extended t b m c.set_all.new.self r.facts.items r.fluents.items c.requires.readers c.requires.a_box c.requires.as_many c.args.fluent (c.args.lower, c.args.upper) c.requires.known more c.requires.fits =
    c.with_interval.ensures ∙ ap (λ (j : Interval). box_of b.facts (set b.fluents c.args.fluent j)) wide in
    subst (λ (a : StateBox). IsSpread t b m a c.set_all.new.self) (sym result_is)
    (fluent_spread t b m c.set_all.new.self r.facts.items r.fluents.items c.requires.readers c.requires.a_box c.requires.as_many
    c.args.fluent (c.args.lower, c.args.upper) c.requires.known more c.requires.fits no' c.requires.asked c.requires.progress)

pub returns-clause-extended : goal.returns-clause-extended
returns-clause-extended c =
    let t = c.args.task.now in
    let r = c.args.readers.now in
    let lists = r.fluents.items in
    let known : c.args.fluent < length lists = subst (λ (n : ℕ). c.args.fluent < n) (sym c.requires.readers.a_list_each_fluent) c.requires.known in
    let here : c.as_slice.result.now ≡ get_or lists c.args.fluent [] = c.as_slice.ensures ∙ get_or_read lists c.args.fluent c.index.result.now known c.index.ensures [] in
    let b = c.args.state_box in
    let m = c.args.marks.now in
    let i : c.interval_of-interval.result ≡ fluent_in b c.args.fluent =
    c.interval_of-interval.ensures in
    let no' : is_within (c.args.lower, c.args.upper) (fluent_in b c.args.fluent) ≡ false = sym (c.reaches.ensures ∙ ap (is_within (c.args.lower, c.args.upper)) i) ∙ c.if-reaches.false in
    let more : MarksMore (get_or lists c.args.fluent []) m c.set_all.new.self =
    subst (λ (ns : List ℕ). MarksMore ns m c.set_all.new.self) here c.set_all.ensures in
    let wide : c.reached.result ≡ hull_of (fluent_in b c.args.fluent) (c.args.lower, c.args.upper) = c.reached.ensures ∙ ap (λ (j : Interval). hull_of j (c.args.lower, c.args.upper)) i in
    let result_is : c.with_interval.result ≡ extended t b m c.set_all.new.self r.facts.items r.fluents.items c.requires.readers c.requires.a_box c.requires.as_many c.args.fluent (c.args.lower, c.args.upper) c.requires.known more c.requires.fits =
    c.with_interval.ensures ∙ ap (λ (j : Interval). box_of b.facts (set b.fluents c.args.fluent j)) wide in
    subst (λ (a : StateBox). is_within (c.args.lower, c.args.upper) (fluent_in a c.args.fluent) ≡ true) (sym result_is)
    (fluent_least t b m c.set_all.new.self r.facts.items r.fluents.items c.requires.readers c.requires.a_box c.requires.as_many
    c.args.fluent (c.args.lower, c.args.upper) c.requires.known more c.requires.fits no' c.requires.asked c.requires.progress).passes
