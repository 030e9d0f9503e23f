use Rattle.enhsp_run.proofs.Endings.{sound_record}
use Rattle.enhsp_run.proofs.sending.status_in.Goals as goal

pub answer-requires : goal.answer-requires
answer-requires c = record { sound = sound_record c.args.found.now c.raw-raw.ensures.placed c.requires.legal }
