-- Tables, additions and stores to try the rules on: document 01, "Refusal numbers", in the order of the tests.
use Rattle.std.specs.Prelude.{ℕ, zero, suc, true, false, List, [], ◌∷◌, Result, replicate}
use Rattle.codec.specs.declared.Refusal.{Refusal}
use Rattle.ble_uuid.specs.Uuids.{short}
use Rattle.ble_uuid.specs.declared.Uuid.{Uuid}
use Rattle.attributes.specs.Additions.{blank, empty_table, add_refusal}
use Rattle.attributes.specs.Stores.{own_refusal}
use Rattle.attributes.specs.declared.Addition.{Addition}
use Rattle.attributes.specs.declared.Place.{Place}
use Rattle.attributes.specs.declared.Place.TheVariants as place
use Rattle.attributes.specs.declared.Record.{Record}
use Rattle.attributes.specs.declared.Room.TheVariants.{Live}
use Rattle.attributes.specs.declared.Table.{Table}

-- a live attribute to be added, and what a table without areas says to it where a fixed area of `lent` bytes is lent
abbrev pub wanted : ℕ → Uuid → ℕ → Addition
wanted handle kind capacity = record {
  handle = handle;
  kind = kind;
  readable = true;
  writable = true;
  read_encrypted = false;
  write_encrypted = false;
  room = Live capacity;
}

abbrev pub adding_told : ℕ → Addition → Result Unit Refusal
adding_told lent a = add_refusal (empty_table 0 0) a lent 0

-- records of type 2A19 at these places, with the handles from `h` on; and a table of 64 of them without a value
abbrev pub record_as : ℕ → Place → Record
record_as h p = record {
  handle = h;
  kind = short 0x2A19;
  readable = false;
  writable = false;
  read_encrypted = false;
  write_encrypted = false;
  place = p;
}

abbrev pub rising : ℕ → ℕ → List Record
rising h zero = []
rising h (suc n) = record_as h (place.Fixed 0 0) ∷ rising (suc h) n

abbrev pub full_table : Table
full_table = record { records = rising 1 64; count = 64; fixed_len = 0; live_len = 0 }

-- handle 1 fixed with one byte, handle 2 live with a capacity of one byte, for one fixed and one live byte; and what it says to an own
-- store of two bytes or of one, where `lent` live bytes are lent
abbrev pub two_table : Table
two_table = record {
  records = record_as 1 (place.Fixed 0 1) ∷ record_as 2 (place.Live 0 1 0) ∷ replicate 62 blank;
  count = 2;
  fixed_len = 1;
  live_len = 1;
}

abbrev pub store_told : List ℕ → ℕ → ℕ → Result Unit Refusal
store_told lent h n = own_refusal two_table h n (0x41 ∷ []) lent
