use Rattle.std.proofs.Common.{rules, arith, ◌≡◌, length}
use Rattle.supporter_count.proofs.Marking.{few_effects, count_of}
use Rattle.supporter_count.proofs.count.supporters_of.Goals as goal

pub overflow_cast-result : goal.overflow_cast-result
overflow_cast-result c = let e = few_effects _ c.args.fluents c.args.action.now c.requires.valid in let n : c.len.result ≡ length c.args.action.now.nums = search rules in let few = c.requires.few_fluents in omega arith

pub overflow_mul-result : goal.overflow_mul-result
overflow_mul-result c = let e = few_effects _ c.args.fluents c.args.action.now c.requires.valid in let n : c.len.result ≡ length c.args.action.now.nums = search rules in let few = c.requires.few_fluents in omega arith

pub overflow_add-result-2 : goal.overflow_add-result-2
overflow_add-result-2 c = let e = few_effects _ c.args.fluents c.args.action.now c.requires.valid in let n : c.len.result ≡ length c.args.action.now.nums = search rules in let few = c.requires.few_fluents in
    let a = c.mark_all-added.ensures.few in let b = c.mark_all-deleted.ensures.few in omega arith

pub returns-clause-count : goal.returns-clause-count
returns-clause-count c = let n : c.len.result ≡ length c.args.action.now.nums = search rules in
    (count_of c.clear.new.self c.mark_all-added.new.self c.mark_all-deleted.new.self c.args.action.now c.as_slice.result.now c.as_slice-2.result.now c.mark_all-added.result c.mark_all-deleted.result c.len.result c.as_slice.ensures c.as_slice-2.ensures c.clear.ensures.marked c.mark_all-added.ensures.marked c.mark_all-deleted.ensures.marked n).0

pub returns-clause-few : goal.returns-clause-few
returns-clause-few c = let e = few_effects _ c.args.fluents c.args.action.now c.requires.valid in let n : c.len.result ≡ length c.args.action.now.nums = search rules in let few = c.requires.few_fluents in
    let a = c.mark_all-added.ensures.few in let b = c.mark_all-deleted.ensures.few in omega arith

pub returns-clause-old : goal.returns-clause-old
returns-clause-old c = let n : c.len.result ≡ length c.args.action.now.nums = search rules in
    (count_of c.clear.new.self c.mark_all-added.new.self c.mark_all-deleted.new.self c.args.action.now c.as_slice.result.now c.as_slice-2.result.now c.mark_all-added.result c.mark_all-deleted.result c.len.result c.as_slice.ensures c.as_slice-2.ensures c.clear.ensures.marked c.mark_all-added.ensures.marked c.mark_all-deleted.ensures.marked n).1
