use Rattle.search_records.proofs.Plain.{plain_legal_record, plain_records_alike}
use Rattle.search_records.proofs.laws.plain_records.Goals as goal

pub returns : goal.returns
returns c = record { legal = plain_legal_record; one = plain_records_alike }
