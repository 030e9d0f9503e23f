use Rattle.std.proofs.Common.{rules, arith, ◌≡◌, ◌≤◌, ℕ, length, ◌∙◌}
use Rattle.box_words.proofs.Decoding.{behind_facts}
use Rattle.box_words.proofs.words.word_at.Goals as goal

pub returns-clause-word : goal.returns-clause-word
returns-clause-word c = let b = c.args.part.now in let before = c.if-place-facts.false in let all : length c.as_slice-facts.result.now ≡ length b.facts = search rules in let le : length b.facts ≤ c.args.place = omega arith in
    search (rules, behind_facts)
