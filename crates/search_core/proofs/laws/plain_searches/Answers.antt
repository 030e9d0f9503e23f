use Rattle.search_core.proofs.Alone.{never_put_off, plain_expansion, plain_record, taken_is_open}
use Rattle.search_core.proofs.laws.plain_searches.Goals as goal

pub returns : goal.returns
returns c = record { expands = plain_expansion; goes_on = never_put_off; open_while_taken = taken_is_open; ends = plain_record }
