use Rattle.ground_text.proofs.Limits as limits
use Rattle.ground_text.proofs.laws.limits_are_told.Goals as goal

pub returns : goal.returns
returns c = limits.limits_are_told
