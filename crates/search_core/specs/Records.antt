-- What a search leaves behind.
use Rattle.search_turns.specs.Turns.{Turns}
use Rattle.search_records.specs.declared.record.Record.{Record}

abbrev pub record_of : Turns → Record
record_of v = record {
  task = v.table.task;
  limit = v.limit;
  nodes = v.table.nodes;
  boxes = v.table.boxes;
  over = v.table.over;
  full = v.table.full;
  journal = v.journal;
}
