use Rattle.std.proofs.Common.{◌≡◌, ◌++◌, sym, ap, subst, ◌∙◌}
use Rattle.ground_meaning.specs.Tasks.{fluents_in}
use Rattle.coded_actions.specs.declared.coded.CodedExpr.{CodedExpr}
use Rattle.coded_actions.specs.Coded.{expression_of}
use Rattle.numbering.specs.internal.Closures.{edges_to}
use Rattle.numbering.proofs.Lists.{on_ok}
use Rattle.numbering.proofs.Names.{edges_Add, edges_Const, edges_Mul, edges_Sub}
use Rattle.numbering.proofs.reads.+add_edges.Goals as goal

pub returns-in-Const : goal.returns-in-Const
returns-in-Const t c =
    let old = c.args.edges.now.items in
    subst (λ (e : CodedExpr). old ≡ old ++ edges_to c.args.target (fluents_in (expression_of e))) (sym c.in-Const.is) (edges_Const old c.args.target c.in-Const.field-0)

pub returns-in_ok-add_edges-in-Add : goal.returns-in_ok-add_edges-in-Add
returns-in_ok-add_edges-in-Add t c =
    let old = c.args.edges.now.items in
    let middle = c.add_edges.new.edges.items in
    let after = c.add_edges-in-Add.new.edges.items in
    let first = c.in_ok-add_edges-in-Add.ensures ∙ ap (λ (e : CodedExpr). old ++ edges_to c.args.target (fluents_in (expression_of e))) c.get.ensures in
    on_ok c.add_edges-in-Add.result _ _
    (λ again.
    subst (λ (e : CodedExpr). after ≡ old ++ edges_to c.args.target (fluents_in (expression_of e))) (sym c.in-Add.is)
    (edges_Add old middle after c.args.target c.in-Add.a c.in-Add.b first
    (again ∙ ap (λ (e : CodedExpr). middle ++ edges_to c.args.target (fluents_in (expression_of e))) c.get-in-Add.ensures)))
    c.add_edges-in-Add.ensures

pub returns-in_ok-add_edges-in-Sub : goal.returns-in_ok-add_edges-in-Sub
returns-in_ok-add_edges-in-Sub t c =
    let old = c.args.edges.now.items in
    let middle = c.add_edges-in-Sub.new.edges.items in
    let after = c.add_edges-in-Sub-2.new.edges.items in
    let first = c.in_ok-add_edges-in-Sub.ensures ∙ ap (λ (e : CodedExpr). old ++ edges_to c.args.target (fluents_in (expression_of e))) c.get-in-Sub.ensures in
    on_ok c.add_edges-in-Sub-2.result _ _
    (λ again.
    subst (λ (e : CodedExpr). after ≡ old ++ edges_to c.args.target (fluents_in (expression_of e))) (sym c.in-Sub.is)
    (edges_Sub old middle after c.args.target c.in-Sub.a c.in-Sub.b first
    (again ∙ ap (λ (e : CodedExpr). middle ++ edges_to c.args.target (fluents_in (expression_of e))) c.get-in-Sub-2.ensures)))
    c.add_edges-in-Sub-2.ensures

pub returns-in_ok-add_edges-in-Mul : goal.returns-in_ok-add_edges-in-Mul
returns-in_ok-add_edges-in-Mul t c =
    let old = c.args.edges.now.items in
    let middle = c.add_edges-in-Mul.new.edges.items in
    let after = c.add_edges-in-Mul-2.new.edges.items in
    let first = c.in_ok-add_edges-in-Mul.ensures ∙ ap (λ (e : CodedExpr). old ++ edges_to c.args.target (fluents_in (expression_of e))) c.get-in-Mul.ensures in
    on_ok c.add_edges-in-Mul-2.result _ _
    (λ again.
    subst (λ (e : CodedExpr). after ≡ old ++ edges_to c.args.target (fluents_in (expression_of e))) (sym c.in-Mul.is)
    (edges_Mul old middle after c.args.target c.in-Mul.a c.in-Mul.b first
    (again ∙ ap (λ (e : CodedExpr). middle ++ edges_to c.args.target (fluents_in (expression_of e))) c.get-in-Mul-2.ensures)))
    c.add_edges-in-Mul-2.ensures
