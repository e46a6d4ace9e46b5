-- What the private function answers: a store into a record that was found.
use Rattle.std.specs.Prelude.{ℕ, ◌+◌, List, Result, length, set, slice_index_or}
use Rattle.codec.specs.Buffer.{laid_at}
use Rattle.codec.specs.declared.Refusal.{Refusal}
use Rattle.attributes.specs.Additions.{blank, changed_by}
use Rattle.attributes.specs.Records.{slot_of, start, lengthened}
use Rattle.attributes.specs.Stores.{slot_refusal, live_by}
use Rattle.attributes.specs.declared.Place.{Place}
use Rattle.attributes.specs.declared.Place.TheVariants.{Fixed, Live}
use Rattle.attributes.specs.declared.Record.{Record}
use Rattle.attributes.specs.declared.Table.{Table}

-- the record with the number `i`, and where the slot of a live place ends
abbrev pub numbered : Table → ℕ → Record
numbered t i = slice_index_or t.records i blank

abbrev pub slot_end : Place → ℕ
slot_end (Fixed a n) = 0
slot_end (Live a c n) = a + c

-- a table with another record at the number `i`
abbrev pub with_record : Table → ℕ → Record → Table
with_record t i r = record { records = set t.records i r; count = t.count; fixed_len = t.fixed_len; live_len = t.live_len }

-- a store into the record `r`, which has the number `i`
unfoldable pub stored_as : Table → ℕ → Record → List ℕ → Result Table Refusal
stored_as t i r v = changed_by (slot_refusal (length v) (slot_of r.place)) (with_record t i (lengthened r (length v)))

unfoldable pub stored_as_live : Record → List ℕ → List ℕ → List ℕ
stored_as_live r v live = live_by (slot_refusal (length v) (slot_of r.place)) (laid_at (start r.place) v live) live
