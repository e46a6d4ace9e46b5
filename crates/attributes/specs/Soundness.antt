-- Document 01, "Table, link and the till's own stores": when a table is sound. Each rule has a name of its own, and the rules
-- that an addition is refused by (refusals 4 to 7) are the same ones that a record of a sound table meets.
use Rattle.std.specs.Prelude.{ℕ, ◌+◌, Bool, true, false, ◌&&◌, not, List, [], ◌∷◌, leb, ltb, eqb}
use Rattle.ble_uuid.specs.declared.Uuid.{Uuid}
use Rattle.ble_uuid.specs.declared.Uuid.TheVariants.{Uuid16, Uuid32, Uuid128}
use Rattle.attributes.specs.Records.{entries, slot_of, slot_size}
use Rattle.attributes.specs.declared.Place.{Place}
use Rattle.attributes.specs.declared.Place.TheVariants as place
use Rattle.attributes.specs.declared.Record.{Record}
use Rattle.attributes.specs.declared.Room as asked
use Rattle.attributes.specs.declared.Room.TheVariants as room
use Rattle.attributes.specs.declared.Table.{Table}

-- Rules of the whole table: at most 64 records; a live area of at most 32,768 bytes; lent areas of exactly the lengths that the
-- table was built for.
abbrev pub count_ok : ℕ → Bool
count_ok n = leb n 64

abbrev pub live_ok : ℕ → Bool
live_ok n = leb n 32768

abbrev pub areas_ok : Table → ℕ → ℕ → Bool
areas_ok t fl ll = eqb fl t.fixed_len && eqb ll t.live_len

-- Rules of a record or an addition. Refusal 4: handles rise, and none is 0, since the first has to be above 0.
abbrev pub handle_ok : ℕ → ℕ → Bool
handle_ok last h = ltb last h

-- refusal 5: no type is a 32-bit UUID
abbrev pub type_ok : Uuid → Bool
type_ok (Uuid16 b) = true
type_ok (Uuid32 b) = false
type_ok (Uuid128 b) = true

-- Refusal 6: no capacity and no fixed value is over 512 bytes, a fixed value lies inside the fixed bytes, and it is not writable.
abbrev pub size_ok : ℕ → Bool
size_ok n = leb n 512

abbrev pub inside_ok : ℕ → ℕ → ℕ → Bool
inside_ok fl a n = leb (a + n) fl

abbrev pub value_ok : ℕ → Bool → asked.Room → Bool
value_ok fl writable (room.Fixed a n) = size_ok n && (inside_ok fl a n && not writable)
value_ok fl writable (room.Live c) = size_ok c

-- refusal 7: from byte `at` on the live area has room for the capacity
abbrev pub space_ok : ℕ → ℕ → asked.Room → Bool
space_ok ll at (room.Fixed a n) = true
space_ok ll at (room.Live c) = leb (at + c) ll

-- Rules of a record alone: its live slot starts where the slots before it end, and its length is within the capacity.
abbrev pub start_ok : ℕ → Place → Bool
start_ok at (place.Fixed a n) = true
start_ok at (place.Live a c n) = eqb a at

abbrev pub length_ok : Place → Bool
length_ok (place.Fixed a n) = true
length_ok (place.Live a c n) = leb n c

abbrev pub room_of : Place → asked.Room
room_of (place.Fixed a n) = room.Fixed a n
room_of (place.Live a c n) = room.Live c

-- a record behind one with the handle `last`, where the slots so far end at `at`
abbrev pub record_ok : ℕ → ℕ → ℕ → ℕ → Record → Bool
record_ok fl ll last at r =
    handle_ok last r.handle
    && (type_ok r.kind
    && (value_ok fl r.writable (room_of r.place)
    && (space_ok ll at (room_of r.place)
    && (start_ok at r.place
    && length_ok r.place))))

-- where the slots end once this record is among them
abbrev pub slots_end : ℕ → Record → ℕ
slots_end at r = at + slot_size (slot_of r.place)

abbrev pub records_ok : ℕ → ℕ → ℕ → ℕ → List Record → Bool
records_ok fl ll last at [] = true
records_ok fl ll last at (r ∷ rs) = record_ok fl ll last at r && records_ok fl ll r.handle (slots_end at r) rs

-- a sound table, for lent areas of `fl` fixed and `ll` live bytes
unfoldable pub sound_table : Table → ℕ → ℕ → Bool
sound_table t fl ll = count_ok t.count && (live_ok t.live_len && (areas_ok t fl ll && records_ok fl ll 0 0 (entries t)))
