use Rattle.std.proofs.Common.{◌≡◌, ◌+◌, ◌-◌, ◌≤◌, drop, length}
use Rattle.simple_atoms.specs.Forms.{merged}
use Rattle.simple_atoms.proofs.Loops.{after}
use Rattle.simple_atoms.proofs.forms.merge.Given as goal

abbrev pub invariant-front : goal.invariant-front
invariant-front l =
    record {
      whole : after l.terms (merged (drop l.i l.left) (drop l.j l.right)) ≡ merged l.left l.right;
      first : l.i ≤ length l.left;
      second : l.j ≤ length l.right;
    }

abbrev pub decreases-front : goal.decreases-front
decreases-front l = (length l.left - l.i) + (length l.right - l.j)
