-- Document 01, "Refusal numbers" and "Table, link and the till's own stores": a new table, and adding to one.
use Rattle.std.specs.Prelude.{ℕ, ◌+◌, Bool, false, List, [], ◌∷◌, ◌++◌, Result, Ok, Err, set, replicate, ltb}
use Rattle.codec.specs.Cases.{pick}
use Rattle.codec.specs.declared.Refusal.{Refusal}
use Rattle.codec.specs.declared.Refusal.TheVariants.{TableFull, BadHandle, BadType, BadValue, NoRoom, BadTable}
use Rattle.ble_uuid.specs.Uuids.{no_uuid}
use Rattle.attributes.specs.Ledger.{Item, holding}
use Rattle.attributes.specs.Records.{entries, value_of}
use Rattle.attributes.specs.Soundness.{live_ok, handle_ok, type_ok, value_ok, space_ok, slots_end, sound_table}
use Rattle.attributes.specs.declared.Addition.{Addition}
use Rattle.attributes.specs.declared.Place.{Place}
use Rattle.attributes.specs.declared.Place.TheVariants as place
use Rattle.attributes.specs.declared.Record.{Record}
use Rattle.attributes.specs.declared.Room as asked
use Rattle.attributes.specs.declared.Room.TheVariants as room
use Rattle.attributes.specs.declared.Table.{Table}

-- the first test that fails gives the refusal
abbrev pub tested : List (Bool × Refusal) → Result Unit Refusal
tested [] = Ok tt
tested (test ∷ tests) = pick test.0 (tested tests) (Err test.1)

-- What a call answers whose tests say this: the changed table, or the refusal.
abbrev pub changed_by : Result Unit Refusal → Table → Result Table Refusal
changed_by (Ok u) next = Ok next
changed_by (Err why) next = Err why

-- The table that a caller has after such a call: a refusal leaves its own, `t`, as it was.
abbrev pub table_after : Table → Result Table Refusal → Table
table_after t (Ok next) = next
table_after t (Err why) = t

-- The same, as the tests say it: the changed table, or the caller's own.
abbrev pub left_by : Result Unit Refusal → Table → Table → Table
left_by (Ok u) next t = next
left_by (Err why) next t = t

-- A table with no record, built for areas of these lengths. The places that do not count hold a blank record.
abbrev pub blank : Record
blank = record {
  handle = 0;
  kind = no_uuid;
  readable = false;
  writable = false;
  read_encrypted = false;
  write_encrypted = false;
  place = place.Fixed 0 0;
}

abbrev pub empty_table : ℕ → ℕ → Table
empty_table fl ll = record { records = replicate 64 blank; count = 0; fixed_len = fl; live_len = ll }

-- A new table: refusal 11 for a live area over 32,768 bytes.
abbrev pub new_refusal : ℕ → Result Unit Refusal
new_refusal ll = tested ((live_ok ll, BadTable) ∷ [])

unfoldable pub new_table : ℕ → ℕ → Result Table Refusal
new_table fl ll = changed_by (new_refusal ll) (empty_table fl ll)

-- the handle of the last of some records, and where their slots end; `last` and `at` where there are none
abbrev pub last_handle : ℕ → List Record → ℕ
last_handle last [] = last
last_handle last (r ∷ rs) = last_handle r.handle rs

abbrev pub used : ℕ → List Record → ℕ
used at [] = at
used at (r ∷ rs) = used (slots_end at r) rs

-- The record that an addition makes: a live one starts at `at`, and its length is 0.
abbrev pub fresh_place : ℕ → asked.Room → Place
fresh_place at (room.Fixed a n) = place.Fixed a n
fresh_place at (room.Live c) = place.Live at c 0

abbrev pub fresh : ℕ → Addition → Record
fresh at a = record {
  handle = a.handle;
  kind = a.kind;
  readable = a.readable;
  writable = a.writable;
  read_encrypted = a.read_encrypted;
  write_encrypted = a.write_encrypted;
  place = fresh_place at a.room;
}

-- Adding tests 11, 3, 4, 5, 6, 7.
abbrev pub add_tests : Table → Addition → ℕ → ℕ → List (Bool × Refusal)
add_tests t a fl ll =
    (sound_table t fl ll, BadTable)
    ∷ (ltb t.count 64, TableFull)
    ∷ (handle_ok (last_handle 0 (entries t)) a.handle, BadHandle)
    ∷ (type_ok a.kind, BadType)
    ∷ (value_ok fl a.writable a.room, BadValue)
    ∷ (space_ok ll (used 0 (entries t)) a.room, NoRoom)
    ∷ []

unfoldable pub add_refusal : Table → Addition → ℕ → ℕ → Result Unit Refusal
add_refusal t a fl ll = tested (add_tests t a fl ll)

-- the table with one record more
abbrev pub appended : Table → Record → Table
appended t r = record {
  records = set t.records t.count r;
  count = t.count + 1;
  fixed_len = t.fixed_len;
  live_len = t.live_len;
}

unfoldable pub added : Table → Addition → ℕ → ℕ → Result Table Refusal
added t a fl ll = changed_by (add_refusal t a fl ll) (appended t (fresh (used 0 (entries t)) a))

-- the table that a caller has after an addition: with one record more, or its own where it was refused
abbrev pub added_table : Table → Addition → ℕ → ℕ → Table
added_table t a fl ll = left_by (add_refusal t a fl ll) (appended t (fresh (used 0 (entries t)) a)) t

-- The attribute that an addition makes, as the ledger has it: the slot's place does not show, and a live value is empty.
abbrev pub fresh_item : List ℕ → Addition → Item
fresh_item fixed a = holding (fresh 0 a) (value_of (fresh_place 0 a.room) fixed [])

-- the additions that were accepted so far, and one more where it is accepted too
abbrev pub joins : Result Unit Refusal → Addition → List Addition → List Addition
joins (Ok u) a adds = adds ++ a ∷ []
joins (Err why) a adds = adds

-- the records that additions make one after the other, the first live slot at `at`
abbrev pub layout : ℕ → List Addition → List Record
layout at [] = []
layout at (a ∷ rest) = fresh at a ∷ layout (slots_end at (fresh at a)) rest
