use Rattle.std.proofs.Common.{ℕ, List, Option, Some, None, ap, sym, ◌∙◌}
use Rattle.std.specs.Prelude.{unwrap_or}
use Rattle.name_table.specs.Tables.{table_number}
use Rattle.name_table.specs.TypedLists.{names_of}
use Rattle.name_table.proofs.Numbered.{place_by_table}
use Rattle.binder.specs.declared.checks.Slot.TheVariants.{Parameter}
use Rattle.binder.specs.internal.Checks.{slot_of}
use Rattle.binder.proofs.resolve.slot_of.Goals as goal

pub returns-in-Some : goal.returns-in-Some
returns-in-Some c =
    let table = c.args.scope.now.table.now in
    ap (λ (x : Option ℕ). Parameter (unwrap_or x 0))
    (place_by_table c.in-Var.name.text table (names_of c.args.scope.now.params.now) (Some c.in-Some.place) c.args.scope.now.by_name
    (sym c.in-Some.is ∙ c.number.ensures ∙ ap (λ (t : List ℕ). table_number t table) c.as_slice.ensures))
    ∙ ap (slot_of c.args.scope.now.checked.now c.args.scope.now.params.now) (sym c.in-Var.is)

pub returns-in-None : goal.returns-in-None
returns-in-None c =
    let table = c.args.scope.now.table.now in
    ap (λ (x : Option ℕ). Parameter (unwrap_or x 0))
    (place_by_table c.in-Var.name.text table (names_of c.args.scope.now.params.now) None c.args.scope.now.by_name
    (sym c.in-None.is ∙ c.number.ensures ∙ ap (λ (t : List ℕ). table_number t table) c.as_slice.ensures))
    ∙ ap (slot_of c.args.scope.now.checked.now c.args.scope.now.params.now) (sym c.in-Var.is)
