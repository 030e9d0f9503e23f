use Rattle.std.proofs.Common.{◌≡◌, ◌+◌, ◌-◌, ◌*◌, ℕ, List, map, suc, drop, sym, ap, ◌∙◌, arith}
use Rattle.static_facts.specs.Codes.{code_of, with_digits}
use Rattle.static_facts.proofs.Coding.{code_fits, code_grows, next_digit}
use Rattle.bound_atoms.specs.Atoms.{capped_number, slots_code}
use Rattle.bound_atoms.proofs.atoms.digits_of.Goals as goal

pub overflow_mul-code : goal.overflow_mul-code
overflow_mul-code c =
    let fits = code_fits c.digits.code 0 c.digits.place c.digits-test.true c.digits.invariant.small (omega arith) in
    omega (arith, fits)

pub overflow_add-code : goal.overflow_add-code
overflow_add-code c =
    let fits = code_fits c.digits.code c.digit.result c.digits.place c.digits-test.true c.digits.invariant.small c.digit.ensures.small in
    omega (arith, fits)

pub digits-preserved : goal.digits-preserved
digits-preserved c =
    let fewer : suc (8 - (c.digits.place + 1)) ≡ 8 - c.digits.place = omega (arith, c.digits-test.true) in
    let numbers : List ℕ = map (capped_number c.args.objects.now) c.args.slots.now in
    record {
      rest =
          ap (λ (d : ℕ). with_digits (8 - (c.digits.place + 1)) (c.digits.code * 4096 + d) (drop (c.digits.place + 1) numbers)) c.digit.ensures.value
          ∙ sym (next_digit (8 - (c.digits.place + 1)) c.digits.code c.digits.place numbers)
          ∙ ap (λ (k : ℕ). with_digits k c.digits.code (drop c.digits.place numbers)) fewer
          ∙ c.digits.invariant.rest;
      small = code_grows c.digits.code c.digit.result c.digits.place c.digits.invariant.small c.digit.ensures.small;
    }

pub returns : goal.returns
unfolding slots_code code_of
returns c =
    let none : 8 - c.digits.place ≡ 0 = omega (arith, c.digits-test.false) in
    let numbers : List ℕ = map (capped_number c.args.objects.now) c.args.slots.now in
    sym (ap (λ (k : ℕ). with_digits k c.digits.code (drop c.digits.place numbers)) none) ∙ c.digits.invariant.rest
