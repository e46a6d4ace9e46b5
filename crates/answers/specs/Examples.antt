-- Tills and sequences to try the theorems on: a pharmacy's expiry and lot; document 01's table with two unlock codes; a fixed value that
-- no link may read.
use Rattle.std.specs.Prelude.{ℕ, Bool, true, false, List, [], ◌∷◌, replicate}
use Rattle.ble_uuid.specs.Uuids.{short}
use Rattle.attributes.specs.Additions.{blank, empty_table}
use Rattle.attributes.specs.declared.Addition.{Addition}
use Rattle.attributes.specs.declared.Place.TheVariants as place
use Rattle.attributes.specs.declared.Room as asked
use Rattle.attributes.specs.declared.Room.TheVariants as room
use Rattle.answers.specs.Cases.{attribute, till_table, new_link, till_with}
use Rattle.answers.specs.Serve.{State, Heard, Bytes, Step, Send, Store, Encrypt}

-- 1 the expiry and 2 the lot, both of type FFF2, live with four bytes, readable and writable
abbrev pub pharmacy : State
pharmacy = record {
  table = record {
    records = attribute 1 0xFFF2 true true (place.Live 0 4 0) ∷ attribute 2 0xFFF2 true true (place.Live 4 4 0) ∷ replicate 62 blank;
    count = 2;
    fixed_len = 0;
    live_len = 8;
  };
  link = new_link;
  fixed = [];
  live = 0 ∷ 0 ∷ 0 ∷ 0 ∷ 0 ∷ 0 ∷ 0 ∷ 0 ∷ [];
}

-- the expiry is stored; five bytes for the lot are refused, 12 with four is taken; the link is encrypted; 52 writes the lot again
abbrev pub pharmacy_steps : List Step
pharmacy_steps =
    Store 1 (0x20 ∷ 0x27 ∷ [])
    ∷ Store 2 (0x4C ∷ 0x4F ∷ 0x54 ∷ 0x31 ∷ 0x32 ∷ [])
    ∷ Send (0x12 ∷ 0x02 ∷ 0x00 ∷ 0x4C ∷ 0x31 ∷ 0x32 ∷ 0x33 ∷ []) 64
    ∷ Encrypt true
    ∷ Send (0x52 ∷ 0x02 ∷ 0x00 ∷ 0x4C ∷ 0x39 ∷ []) 64
    ∷ []

abbrev pub addition : ℕ → ℕ → Bool → Bool → asked.Room → Addition
addition h kind readable writable w = record {
  handle = h;
  kind = short kind;
  readable = readable;
  writable = writable;
  read_encrypted = false;
  write_encrypted = false;
  room = w;
}

abbrev pub additions : List Addition
additions =
    addition 1 0x2800 true false (room.Fixed 0 2)
    ∷ addition 2 0x2803 true false (room.Fixed 2 5)
    ∷ addition 3 0x2A19 true false (room.Live 1)
    ∷ addition 4 0xFFF1 false true (room.Live 4)
    ∷ []

-- the till at its start: a table without a record, for seven fixed and five live bytes
abbrev pub begun : State
begun = record {
  table = empty_table 7 5;
  link = new_link;
  fixed = 0x0F ∷ 0x18 ∷ 0x02 ∷ 0x03 ∷ 0x00 ∷ 0x19 ∷ 0x2A ∷ [];
  live = 0x00 ∷ 0x00 ∷ 0x00 ∷ 0x00 ∷ 0x00 ∷ [];
}

-- the bytes behind the codes differ too
abbrev pub left : State
left = till_with (0x31 ∷ 0x32 ∷ []) (0x00 ∷ 0x00 ∷ [])

abbrev pub right : State
right = till_with (0x39 ∷ 0x39 ∷ 0x37 ∷ []) (0xAA ∷ [])

-- 02 with an MTU below 23, and again; 04; 06 with the left code; 08; 0A; own stores of two codes; 0C behind the one and not behind the other; 10; an own store of the
-- battery level; its 0A; 12 with five bytes and with four; own stores of which the left one is refused; 06 again.
abbrev pub sequence : List ℕ → List ℕ → List Step
sequence code last =
    Send (0x02 ∷ 0x05 ∷ 0x00 ∷ []) 64
    ∷ Send (0x02 ∷ 0x64 ∷ 0x00 ∷ []) 64
    ∷ Send (0x04 ∷ 0x01 ∷ 0x00 ∷ 0xFF ∷ 0xFF ∷ []) 64
    ∷ Send (0x06 ∷ 0x01 ∷ 0x00 ∷ 0xFF ∷ 0xFF ∷ 0xF1 ∷ 0xFF ∷ 0x31 ∷ 0x32 ∷ []) 64
    ∷ Send (0x08 ∷ 0x01 ∷ 0x00 ∷ 0xFF ∷ 0xFF ∷ 0xF1 ∷ 0xFF ∷ []) 64
    ∷ Send (0x0A ∷ 0x04 ∷ 0x00 ∷ []) 64
    ∷ Store 4 code
    ∷ Send (0x0C ∷ 0x04 ∷ 0x00 ∷ 0x02 ∷ 0x00 ∷ []) 64
    ∷ Send (0x10 ∷ 0x01 ∷ 0x00 ∷ 0xFF ∷ 0xFF ∷ 0x00 ∷ 0x28 ∷ []) 64
    ∷ Store 3 (0x63 ∷ [])
    ∷ Send (0x0A ∷ 0x03 ∷ 0x00 ∷ []) 23
    ∷ Send (0x12 ∷ 0x04 ∷ 0x00 ∷ 0x61 ∷ 0x62 ∷ 0x63 ∷ 0x64 ∷ 0x65 ∷ []) 64
    ∷ Send (0x12 ∷ 0x04 ∷ 0x00 ∷ 0x61 ∷ 0x62 ∷ 0x63 ∷ 0x64 ∷ []) 64
    ∷ Store 4 last
    ∷ Send (0x06 ∷ 0x01 ∷ 0x00 ∷ 0xFF ∷ 0xFF ∷ 0xF1 ∷ 0xFF ∷ 0x61 ∷ 0x62 ∷ 0x63 ∷ 0x64 ∷ []) 64
    ∷ []

abbrev pub heard_by_both : List Heard
heard_by_both =
    Bytes (0x03 ∷ 0xF7 ∷ 0x00 ∷ [])
    ∷ Bytes (0x01 ∷ 0x02 ∷ 0x00 ∷ 0x00 ∷ 0x06 ∷ [])
    ∷ Bytes (0x05 ∷ 0x01 ∷ 0x01 ∷ 0x00 ∷ 0x00 ∷ 0x28 ∷ 0x02 ∷ 0x00 ∷ 0x03 ∷ 0x28 ∷ 0x03 ∷ 0x00 ∷ 0x19 ∷ 0x2A ∷ 0x04 ∷ 0x00 ∷ 0xF1 ∷ 0xFF ∷ [])
    ∷ Bytes (0x01 ∷ 0x06 ∷ 0x01 ∷ 0x00 ∷ 0x0A ∷ [])
    ∷ Bytes (0x01 ∷ 0x08 ∷ 0x04 ∷ 0x00 ∷ 0x02 ∷ [])
    ∷ Bytes (0x01 ∷ 0x0A ∷ 0x04 ∷ 0x00 ∷ 0x02 ∷ [])
    ∷ Bytes (0x01 ∷ 0x0C ∷ 0x04 ∷ 0x00 ∷ 0x02 ∷ [])
    ∷ Bytes (0x11 ∷ 0x06 ∷ 0x01 ∷ 0x00 ∷ 0x04 ∷ 0x00 ∷ 0x0F ∷ 0x18 ∷ [])
    ∷ Bytes (0x0B ∷ 0x63 ∷ [])
    ∷ Bytes (0x01 ∷ 0x12 ∷ 0x04 ∷ 0x00 ∷ 0x0D ∷ [])
    ∷ Bytes (0x13 ∷ [])
    ∷ Bytes (0x01 ∷ 0x06 ∷ 0x01 ∷ 0x00 ∷ 0x0A ∷ [])
    ∷ []

abbrev pub left_steps : List Step
left_steps = sequence (0x41 ∷ []) (0x35 ∷ 0x35 ∷ 0x35 ∷ 0x35 ∷ 0x35 ∷ [])

abbrev pub right_steps : List Step
right_steps = sequence (0x42 ∷ 0x43 ∷ 0x44 ∷ 0x45 ∷ []) (0x37 ∷ [])

-- Fixed values that the link may not read may differ, too: one attribute, fixed and not readable, 41 here and 42 there.
abbrev pub sealed : ℕ → State
sealed value = record {
  table = record { records = attribute 1 0xFFF1 false false (place.Fixed 0 1) ∷ replicate 63 blank; count = 1; fixed_len = 1; live_len = 0 };
  link = new_link;
  fixed = value ∷ [];
  live = [];
}

-- Document 01's till on a link with this MTU, lent as many more live bytes than its table was built for.
abbrev pub till_on : ℕ → List ℕ → State
till_on mtu more = record {
  table = till_table 2;
  link = record { mtu = mtu; exchanged = false; encrypted = false };
  fixed = 0x0F ∷ 0x18 ∷ 0x02 ∷ 0x03 ∷ 0x00 ∷ 0x19 ∷ 0x2A ∷ [];
  live = 0x64 ∷ 0x31 ∷ 0x32 ∷ 0x00 ∷ 0x00 ∷ more;
}
