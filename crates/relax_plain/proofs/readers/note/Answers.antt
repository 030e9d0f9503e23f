use Rattle.std.proofs.Common.{◌≡◌, ◌∙◌, ◌++◌, ◌∷◌, [], ap, get_or, subst}
use Rattle.std.proofs.lemmas.List.{get_or_read}
use Rattle.std.proofs.lemmas.Result.{on_ok_weaker}
use Rattle.std.specs.List.{IsAmong}
use Rattle.relax_plain.proofs.ReaderLemmas.{noted_push, noted_there}
use Rattle.relax_plain.proofs.readers.note.Goals as goal

pub returns : goal.returns
returns c =
    let lists = c.args.lists.now.items in
    let here : c.index_mut.result.now ≡ get_or lists c.args.at [] = get_or_read lists c.args.at c.index_mut.result.now c.requires.known c.index_mut.ensures.value [] in
    on_ok_weaker c.push.result (λ is. noted_push lists c.args.at c.args.number c.push.new.self c.requires.known (is ∙ ap (λ xs. xs ++ (c.args.number ∷ [])) here)) c.push.ensures.ok

pub returns-then-is_last : goal.returns-then-is_last
returns-then-is_last c =
    let lists = c.args.lists.now.items in
    let here : c.index.result.now ≡ get_or lists c.args.at [] = get_or_read lists c.args.at c.index.result.now c.requires.known c.index.ensures [] in
    noted_there lists c.args.at c.args.number (subst (λ xs. IsAmong xs c.args.number) here (c.is_last.ensures c.if-is_last.true))
