use Rattle.std.proofs.Common.{◌++◌, ◌∷◌, length}
use Rattle.cert_reader.specs.Certificates.{first_line}
use Rattle.cert_reader.proofs.InTexts.{IsReadTo}
use Rattle.cert_reader.proofs.read.read_lines.Given as goal

abbrev pub invariant-lines : goal.invariant-lines
invariant-lines l = IsReadTo l.task l.version (first_line l.version ++ 10 ∷ l.fn.text) l.cert l.number l.rest

abbrev pub decreases-lines : goal.decreases-lines
decreases-lines l = length l.rest
