use Rattle.std.proofs.Common.{◌≡◌, ◌<◌, ◌+◌, ◌-◌, ◌++◌, ℕ, List, [], ◌∷◌, length, ap, sym, ◌∙◌, arith, length-append}
use Rattle.std.specs.Prelude.{vec_items}
use Rattle.pddl_types.specs.Pairs.{objects_of}
use Rattle.binder.proofs.Fitted.{fitting_from, left_out, taken, tested}
use Rattle.binder.proofs.levels.fitting.Goals as goal
use Rattle.binder.proofs.levels.fitting.Goals.{then-fits+in_ok-push, else-fits}

pub each-preserved : goal.each-preserved
each-preserved c =
    let p = c.args.checked.now in
    let param = c.args.param.now in
    let within : c.each.object < length (objects_of p) = omega (arith, c.each-test.true, c.objects-object-end.ensures) in
    let test = tested p param c.each.object c.fits.result within c.fits.ensures in
    elim c.if-fits.branch [
      | then-fits+in_ok-push w ↦
          let items : c.if-fits.objects.items ≡ c.each.objects.items ++ c.each.object ∷ [] = ap vec_items w.objects-is ∙ w.in_ok-push.ensures.items in
          let longer : length c.if-fits.objects.items ≡ length c.each.objects.items + 1 = ap length items ∙ length-append c.each.objects.items (c.each.object ∷ []) in
          record {
            rest =
                ap (λ (os : List ℕ). os ++ fitting_from p param (c.each.object + 1) (length (objects_of p) - (c.each.object + 1))) items
                ∙ taken p param c.each.objects.items c.each.object (length (objects_of p)) within (sym test ∙ w.if-fits.true)
                ∙ c.each.invariant.rest;
            few = omega (arith, longer, c.each.invariant.few);
          }
      | else-fits w ↦
          let items : c.if-fits.objects.items ≡ c.each.objects.items = ap vec_items w.objects-is in
          let same : length c.if-fits.objects.items ≡ length c.each.objects.items = ap length items in
          record {
            rest =
                ap (λ (os : List ℕ). os ++ fitting_from p param (c.each.object + 1) (length (objects_of p) - (c.each.object + 1))) items
                ∙ left_out p param c.each.objects.items c.each.object (length (objects_of p)) within (sym test ∙ w.if-fits.false)
                ∙ c.each.invariant.rest;
            few = omega (arith, same, c.each.invariant.few);
          }
    ]
