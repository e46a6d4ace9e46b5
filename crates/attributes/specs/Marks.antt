-- Records apart from their four marks: what the till's own lookup and store look at.
use Rattle.std.specs.Prelude.{false, List, map}
use Rattle.attributes.specs.Records.{entries}
use Rattle.attributes.specs.declared.Record.{Record}
use Rattle.attributes.specs.declared.Table.{Table}

abbrev pub unmarked : Record → Record
unmarked r = record {
  handle = r.handle;
  kind = r.kind;
  readable = false;
  writable = false;
  read_encrypted = false;
  write_encrypted = false;
  place = r.place;
}

abbrev pub without_marks : Table → List Record
without_marks t = map unmarked (entries t)
