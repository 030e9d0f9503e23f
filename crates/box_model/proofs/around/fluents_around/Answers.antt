use Rattle.std.proofs.Common.{ℕ, ◌++◌, [], ◌∷◌, List, ap, sym, ◌∙◌, arith, below_more, pos, slice_index_or}
use Rattle.num_ends.specs.Decimal.{InRange}
use Rattle.std.proofs.lemmas.List.FromFn.{map-range_with_len_more}
use Rattle.num_ends.specs.Ends.{Interval, point_of}
use Rattle.ground_task.specs.Meaning.{fluent_value}
use Rattle.box_model.proofs.around.fluents_around.Goals as goal

pub each-preserved : goal.each-preserved
each-preserved c =
    let f : ℕ → Interval = λ x. point_of (fluent_value c.args.task.now.places c.args.state.now x) in
    record {
      each = c.in_ok-push.ensures.items
          ∙ ap (λ (i : Interval). c.each.fluents.items ++ i ∷ []) (c.point.ensures ∙ ap point_of c.value_of.ensures.value)
          ∙ ap (λ (is : List Interval). is ++ f c.each.fluent ∷ []) c.each.invariant.each
          ∙ sym (map-range_with_len_more f 0 c.each.fluent c.each.fluent (omega arith));
      in_range = below_more (λ x. InRange (slice_index_or c.args.state.now.values x (pos 0))) c.each.fluent c.each.invariant.in_range c.value_of.ensures.in_range;
    }
