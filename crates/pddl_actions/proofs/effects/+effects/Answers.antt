use Rattle.std.proofs.Common.{◌∙◌, ap, sym}
use Rattle.std.specs.Prelude.{fold}
use Rattle.std.proofs.lemmas.Result.{IfOk-weaker}
use Rattle.pddl_actions.specs.declared.effects.Kind.TheVariants as kind
use Rattle.pddl_trees.specs.Faults.{all_noted}
use Rattle.pddl_trees.specs.Forms.{Effects}
use Rattle.pddl_actions.specs.internal.EffectSteps.{with_effect, with_fitting}
use Rattle.pddl_trees.proofs.Noted.{faults_walked, found_walked, walked, with_faults_in, with_found}
use Rattle.pddl_actions.proofs.Effecting.{listed_kind}
use Rattle.pddl_actions.proofs.effects.+effects.Goals as goal

pub each_effects-returns-clause-gathered : goal.each_effects-returns-clause-gathered
each_effects-returns-clause-gathered t c =
    walked (with_found with_effect (λ t. t.effects.found) c.args.text.now) c.each.gathered _ c.args.parts.now c.each.tree-index c.each-test.false c.each.invariant.gathered
    ∙ found_walked with_effect (λ t. t.effects.found) c.args.text.now c.args.gathered.now c.args.parts.now

pub each_effects-returns-clause-faults : goal.each_effects-returns-clause-faults
each_effects-returns-clause-faults t c =
    walked (with_faults_in (λ t. t.effects.faults) c.args.text.now) c.each.notes.first _ c.args.parts.now c.each.tree-index c.each-test.false c.each.invariant.faults
    ∙ faults_walked (λ t. t.effects.faults) c.args.text.now c.args.notes.now.first c.args.parts.now

pub list_effects-returns-in-All-clause-gathered : goal.list_effects-returns-in-All-clause-gathered
list_effects-returns-in-All-clause-gathered t c =
    let listed = listed_kind c.args.text.now c.args.at c.args.trees.now c.head-item.result kind.All c.in-len1-up.len_at_least c.head-item.is (sym c.in-All.is ∙ c.kind_at.ensures) in
    IfOk-weaker c.each_effects.result _ _ (λ found e. e ∙ ap (λ (p : Effects). fold with_effect c.args.gathered.now p.found) (sym listed)) c.each_effects.ensures.gathered

pub list_effects-returns-in-All-clause-faults : goal.list_effects-returns-in-All-clause-faults
list_effects-returns-in-All-clause-faults t c =
    let listed = listed_kind c.args.text.now c.args.at c.args.trees.now c.head-item.result kind.All c.in-len1-up.len_at_least c.head-item.is (sym c.in-All.is ∙ c.kind_at.ensures) in
    IfOk-weaker c.each_effects.result _ _ (λ found e. e ∙ ap (λ (p : Effects). all_noted c.args.notes.now.first p.faults) (sym listed)) c.each_effects.ensures.faults

pub list_effects-returns-in_ok-effect-in-Deletion-clause-gathered : goal.list_effects-returns-in_ok-effect-in-Deletion-clause-gathered
list_effects-returns-in_ok-effect-in-Deletion-clause-gathered t c =
    let listed = listed_kind c.args.text.now c.args.at c.args.trees.now c.head-item.result kind.Deletion c.in-len1-up.len_at_least c.head-item.is (sym c.in-Deletion.is ∙ c.kind_at.ensures) in
    IfOk-weaker c.add.result _ _
    (λ done e. e ∙ ap (with_fitting c.args.gathered.now c.args.at) c.in_ok-effect-in-Deletion.ensures.value ∙ ap (λ (p : Effects). fold with_effect c.args.gathered.now p.found) (sym listed))
    c.add.ensures

pub list_effects-returns-in_ok-effect-in-Deletion-clause-faults : goal.list_effects-returns-in_ok-effect-in-Deletion-clause-faults
list_effects-returns-in_ok-effect-in-Deletion-clause-faults t c =
    let listed = listed_kind c.args.text.now c.args.at c.args.trees.now c.head-item.result kind.Deletion c.in-len1-up.len_at_least c.head-item.is (sym c.in-Deletion.is ∙ c.kind_at.ensures) in
    IfOk-weaker c.add.result _ _ (λ done e. c.in_ok-effect-in-Deletion.ensures.faults ∙ ap (λ (p : Effects). all_noted c.args.notes.now.first p.faults) (sym listed)) c.add.ensures

pub list_effects-returns-in_ok-effect-in-Change-clause-gathered : goal.list_effects-returns-in_ok-effect-in-Change-clause-gathered
list_effects-returns-in_ok-effect-in-Change-clause-gathered t c =
    let listed = listed_kind c.args.text.now c.args.at c.args.trees.now c.head-item.result (kind.Change c.in-Change.how) c.in-len1-up.len_at_least c.head-item.is (sym c.in-Change.is ∙ c.kind_at.ensures) in
    IfOk-weaker c.add-in-Change.result _ _
    (λ done e. e ∙ ap (with_fitting c.args.gathered.now c.args.at) c.in_ok-effect-in-Change.ensures.value ∙ ap (λ (p : Effects). fold with_effect c.args.gathered.now p.found) (sym listed))
    c.add-in-Change.ensures

pub list_effects-returns-in_ok-effect-in-Change-clause-faults : goal.list_effects-returns-in_ok-effect-in-Change-clause-faults
list_effects-returns-in_ok-effect-in-Change-clause-faults t c =
    let listed = listed_kind c.args.text.now c.args.at c.args.trees.now c.head-item.result (kind.Change c.in-Change.how) c.in-len1-up.len_at_least c.head-item.is (sym c.in-Change.is ∙ c.kind_at.ensures) in
    IfOk-weaker c.add-in-Change.result _ _ (λ done e. c.in_ok-effect-in-Change.ensures.faults ∙ ap (λ (p : Effects). all_noted c.args.notes.now.first p.faults) (sym listed)) c.add-in-Change.ensures

pub list_effects-returns-in_ok-effect-in-Addition-clause-gathered : goal.list_effects-returns-in_ok-effect-in-Addition-clause-gathered
list_effects-returns-in_ok-effect-in-Addition-clause-gathered t c =
    let listed = listed_kind c.args.text.now c.args.at c.args.trees.now c.head-item.result kind.Addition c.in-len1-up.len_at_least c.head-item.is (sym c.in-Addition.is ∙ c.kind_at.ensures) in
    IfOk-weaker c.add-in-Addition.result _ _
    (λ done e. e ∙ ap (with_fitting c.args.gathered.now c.args.at) c.in_ok-effect-in-Addition.ensures.value ∙ ap (λ (p : Effects). fold with_effect c.args.gathered.now p.found) (sym listed))
    c.add-in-Addition.ensures

pub list_effects-returns-in_ok-effect-in-Addition-clause-faults : goal.list_effects-returns-in_ok-effect-in-Addition-clause-faults
list_effects-returns-in_ok-effect-in-Addition-clause-faults t c =
    let listed = listed_kind c.args.text.now c.args.at c.args.trees.now c.head-item.result kind.Addition c.in-len1-up.len_at_least c.head-item.is (sym c.in-Addition.is ∙ c.kind_at.ensures) in
    IfOk-weaker c.add-in-Addition.result _ _ (λ done e. c.in_ok-effect-in-Addition.ensures.faults ∙ ap (λ (p : Effects). all_noted c.args.notes.now.first p.faults) (sym listed)) c.add-in-Addition.ensures
