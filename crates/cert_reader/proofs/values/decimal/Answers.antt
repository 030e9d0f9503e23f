use Rattle.cert_reader.proofs.Numbers.{not_read}
use Rattle.cert_reader.proofs.values.decimal.Goals as goal

pub returns-in-Err : goal.returns-in-Err
returns-in-Err c = not_read c.args.places c.args.text.now c.in-Err.field-0 c.requires c.in-Err.ensures
