use Rattle.std.proofs.lemmas.Result.{IfOk-weaker}
use Rattle.enhsp_words.proofs.Parsing.{with_known}
use Rattle.enhsp_words.proofs.command_line.command_line.Goals as goal

pub returns : goal.returns
returns c =
    let first = with_known _ _ _ _ _ c.in_ok-arg.ensures c.bare.ensures c.positional.ensures.rule c.positional.ensures.own in
    let second = with_known _ _ _ _ _ c.in_ok-arg-2.ensures first c.short_option.ensures.rule c.short_option.ensures.own in
    let third = with_known _ _ _ _ _ c.in_ok-arg-3.ensures second c.short_option-2.ensures.rule c.short_option-2.ensures.own in
    let fourth = with_known _ _ _ _ _ c.in_ok-arg-4.ensures third c.short_option-3.ensures.rule c.short_option-3.ensures.own in
    let fifth = with_known _ _ _ _ _ c.in_ok-arg-5.ensures fourth c.short_option-4.ensures.rule c.short_option-4.ensures.own in
    let sixth = with_known _ _ _ _ _ c.in_ok-arg-6.ensures fifth c.long_option.ensures.rule c.long_option.ensures.own in
    let seventh = with_known _ _ _ _ _ c.in_ok-arg-7.ensures sixth c.long_option-2.ensures.rule c.long_option-2.ensures.own in
    let eighth = with_known _ _ _ _ _ c.in_ok-arg-8.ensures seventh c.long_option-3.ensures.rule c.long_option-3.ensures.own in
    IfOk-weaker c.arg-9.result _ _ (λ command added. with_known _ _ _ _ _ added eighth c.long_option-4.ensures.rule c.long_option-4.ensures.own) c.arg-9.ensures
