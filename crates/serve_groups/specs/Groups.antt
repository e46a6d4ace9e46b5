-- What group ends are told from: the handle and the type's own bytes of each record that counts.
use Rattle.std.specs.Prelude.{List, map}
use Rattle.ble_uuid.specs.Uuids.{own}
use Rattle.attributes.specs.Records.{entries}
use Rattle.attributes.specs.declared.Record.{Record}
use Rattle.attributes.specs.declared.Table.{Table}
use Rattle.answers.specs.Replies.{Outline}

abbrev pub outline : Record → Outline
outline r = (r.handle, own r.kind)

abbrev pub outlines_of : Table → List Outline
outlines_of t = map outline (entries t)
