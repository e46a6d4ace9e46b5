-- Document 01, "Table, link and the till's own stores": records, the place of a record's value, and how a record is found.
use Rattle.std.specs.Prelude.{ℕ, Bool, true, false, List, Option, map, take, drop, leb, position, ◌==◌}
use Rattle.attributes.specs.Lists.{first_at}
use Rattle.attributes.specs.declared.Place.{Place}
use Rattle.attributes.specs.declared.Place.TheVariants.{Fixed, Live}
use Rattle.attributes.specs.declared.Record.{Record}
use Rattle.attributes.specs.declared.Table.{Table}

-- the records that count; what stands behind them in the array is not looked at
abbrev pub entries : Table → List Record
entries t = take t.count t.records

-- A value is a part of the fixed bytes, or of the live bytes with its current length.
abbrev pub value_of : Place → List ℕ → List ℕ → List ℕ
value_of (Fixed a n) fixed live = take n (drop a fixed)
value_of (Live a c n) fixed live = take n (drop a live)

-- what a store may fill: nothing, or a slot of so many bytes
pub data Slot : Type 0 where
  Kept : Slot
  Room : ℕ → Slot

abbrev pub slot_of : Place → Slot
slot_of (Fixed a n) = Kept
slot_of (Live a c n) = Room c

abbrev pub slot_size : Slot → ℕ
slot_size Kept = 0
slot_size (Room c) = c

abbrev pub fits : ℕ → Slot → Bool
fits n Kept = false
fits n (Room c) = leb n c

abbrev pub is_room : Slot → Bool
is_room Kept = false
is_room (Room c) = true

-- where the value starts in its area
abbrev pub start : Place → ℕ
start (Fixed a n) = a
start (Live a c n) = a

-- the same place with another current length, which only a live one has
abbrev pub grown : Place → ℕ → Place
grown (Fixed a n) m = Fixed a n
grown (Live a c n) m = Live a c m

abbrev pub lengthened : Record → ℕ → Record
lengthened r n = record {
  handle = r.handle;
  kind = r.kind;
  readable = r.readable;
  writable = r.writable;
  read_encrypted = r.read_encrypted;
  write_encrypted = r.write_encrypted;
  place = grown r.place n;
}

-- A record as its addition made it, with length 0; and all records of a table so. Two tables that were built by the same
-- accepted additions are equal in this, whatever was stored in them since.
abbrev pub bare : Record → Record
bare r = lengthened r 0

abbrev pub skeleton : Table → List Record
skeleton t = map bare (entries t)

-- the record with a handle; and its number among these, from 0 on
abbrev pub record_at : {A : Type 0} → ℕ → (Record → A) → A → List Record → A
record_at h gives none rs = first_at (λ (r : Record). r.handle) h gives none rs

abbrev pub find_in : ℕ → List Record → Option ℕ
find_in h rs = position (λ (r : Record). r.handle == h) rs
