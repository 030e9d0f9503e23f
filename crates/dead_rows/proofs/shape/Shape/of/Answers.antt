use Rattle.std.proofs.Common.{arith, ◌≡◌, ◌≤◌, ◌<◌, ℕ, List, length, map, get_or, slice_index_or, sym, ap, ◌∙◌, subst}
use Rattle.std.specs.List.{range_with_len}
use Rattle.std.proofs.lemmas.List.FromFn.{length-map-range_with_len, get_or-map-range_with_len}
use Rattle.dead_rows.proofs.shape.Shape.of.Goals as goal

pub returns-clause-shape : goal.returns-clause-shape
returns-clause-shape c = let t = c.args.task.now in let n : ℕ = length t.raw.fluents in let f : ℕ → ℕ = λ x. slice_index_or t.places x 0 in
    let list : c.from_vec.result ≡ map f (range_with_len 0 n) = c.from_vec.ensures ∙ c.in_ok-places.ensures.each in
    let count : length c.from_vec.result ≡ n = ap length list ∙ length-map-range_with_len f 0 n in
    let each = λ (x : ℕ) (lt : x < length c.from_vec.result). ap (λ (l : List ℕ). get_or l x 0) list ∙ get_or-map-range_with_len f 0 n x x 0 (omega arith) (omega arith) in record {
      facts = c.len-facts.ensures ∙ ap (λ r. length r.facts) c.raw.ensures.value;
      fluents = count;
      places = each;
      few_places = λ x lt. subst (λ (p : ℕ). p ≤ 18) (sym (each x lt)) (c.places_of.ensures.few x (omega arith));
    }
