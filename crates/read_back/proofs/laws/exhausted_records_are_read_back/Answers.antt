use Rattle.read_back.proofs.Exhausted.{certified_only, exhausted_reads, good_as_well}
use Rattle.read_back.proofs.laws.exhausted_records_are_read_back.Goals as goal

pub returns-clause-reads : goal.returns-clause-reads
returns-clause-reads c = λ t text valid placed fits is.
    let read = exhausted_reads t text valid placed fits is in (read.boxes, read.states, read.reads)

pub returns-clause-good : goal.returns-clause-good
returns-clause-good c = λ t text boxes states valid placed fits is reads.
    let read = exhausted_reads t text valid placed fits is in
    let same = c.answers.ensures.one_certificate t text read.boxes boxes read.states states valid read.reads reads in
    good_as_well t read.boxes boxes read.states states same.0 same.1 placed read.proved

pub returns-clause-certified : goal.returns-clause-certified
returns-clause-certified c = λ t text boxes states checked valid placed fits is reads.
    let read = exhausted_reads t text valid placed fits is in
    let same = c.answers.ensures.one_certificate t text read.boxes boxes read.states states valid read.reads reads in
    let good = good_as_well t read.boxes boxes read.states states same.0 same.1 placed read.proved in
    certified_only t boxes states checked (λ line reason refused. c.refused_certificates.ensures t boxes states line reason placed refused good.0 good.1)
