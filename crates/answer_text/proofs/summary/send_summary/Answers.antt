use Rattle.answer_text.proofs.Told.{sound_record}
use Rattle.answer_text.proofs.summary.send_summary.Goals as goal

pub answer-requires : goal.answer-requires
answer-requires g c = record { sound = sound_record c.args.found.now c.raw-raw.ensures.placed c.requires.legal }
