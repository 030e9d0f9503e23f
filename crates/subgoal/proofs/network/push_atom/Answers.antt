use Rattle.std.proofs.Common.{◌≡◌, ◌∙◌, ◌++◌, [], ◌∷◌, ℕ, ap, arith, length}
use Rattle.subgoal.proofs.Networks.{atom_added}
use Rattle.subgoal.proofs.network.push_atom.Goals as goal

pub returns : goal.returns
returns c =
    let old = c.args.network.now in
    let number : c.len-number.result ≡ length old.atoms.items = omega (arith, c.len-number.ensures, old.atoms.ok.0) in
    atom_added c.args.task.now old (record { atoms = c.push.new.self; numbers = c.push-2.new.self; known = c.insert.new.self }) c.args.atom c.requires.atom
    c.in_ok-push.ensures.items (c.in_ok-push-2.ensures.items ∙ ap (λ (n : ℕ). old.numbers.items ++ n ∷ []) number)
