-- Demand 3's premises one by one, so that each can be left out alone; and for each of them two runs that meet all the others.
use Rattle.std.specs.Prelude.{ℕ, Bool, true, false, not, ◌≡◌, List, [], ◌∷◌, ◌++◌, replicate, eqb}
use Rattle.codec.specs.Cases.{pick}
use Rattle.ble_uuid.specs.Uuids.{short}
use Rattle.attributes.specs.Additions.{blank}
use Rattle.attributes.specs.Ledger.{value_at}
use Rattle.attributes.specs.Lists.{Each}
use Rattle.attributes.specs.declared.Addition.{Addition}
use Rattle.attributes.specs.declared.Place.TheVariants.{Live}
use Rattle.attributes.specs.declared.Record.{Record}
use Rattle.attributes.specs.declared.Room.TheVariants as room
use Rattle.answers.specs.View.{may_read_at}
use Rattle.answers.specs.Demand3.{made, BuiltBy}
use Rattle.answers.specs.Replies.{keep}
use Rattle.answers.specs.Serve.{State, sound, ledger, hears, Step, Send, Store, Encrypt}
use Rattle.answers.specs.declared.Link.{Link}

-- What a sequence has of each kind of step: the kinds in order; packets and outputs; handles of own stores; values that are stored to
-- attributes that the link may read; changes of encryption.
pub data Kind : Type 0 where
  APacket : Kind
  AStore : Kind
  AChange : Kind

abbrev pub kinds : List Step → List Kind
kinds [] = []
kinds (Send p room ∷ es) = APacket ∷ kinds es
kinds (Store h v ∷ es) = AStore ∷ kinds es
kinds (Encrypt e ∷ es) = AChange ∷ kinds es

abbrev pub packets : List Step → List (List ℕ)
packets [] = []
packets (Send p room ∷ es) = p ∷ packets es
packets (Store h v ∷ es) = packets es
packets (Encrypt e ∷ es) = packets es

abbrev pub outputs : List Step → List ℕ
outputs [] = []
outputs (Send p room ∷ es) = room ∷ outputs es
outputs (Store h v ∷ es) = outputs es
outputs (Encrypt e ∷ es) = outputs es

abbrev pub handles : List Step → List ℕ
handles [] = []
handles (Send p room ∷ es) = handles es
handles (Store h v ∷ es) = h ∷ handles es
handles (Encrypt e ∷ es) = handles es

abbrev pub readable_stores : Bool → List Addition → List Step → List (List ℕ)
readable_stores encrypted adds [] = []
readable_stores encrypted adds (Send p room ∷ es) = readable_stores encrypted adds es
readable_stores encrypted adds (Store h v ∷ es) = pick (may_read_at encrypted h (made adds)) (v ∷ readable_stores encrypted adds es) (readable_stores encrypted adds es)
readable_stores encrypted adds (Encrypt e ∷ es) = readable_stores encrypted adds es

abbrev pub encryptions : List Step → List Bool
encryptions [] = []
encryptions (Send p room ∷ es) = encryptions es
encryptions (Store h v ∷ es) = encryptions es
encryptions (Encrypt e ∷ es) = e ∷ encryptions es

-- A run: a till and what happens to it. The premises of two runs, where these additions built the left table.
abbrev pub Run : Type 0
Run = State × List Step

pub data Premise : Type 0 where
  sound_left : Premise
  sound_right : Premise
  same_additions : Premise
  equal_readable : Premise
  equal_links : Premise
  same_order : Premise
  same_packets : Premise
  equal_outputs : Premise
  same_handles : Premise
  equal_stores : Premise
  no_change : Premise

abbrev pub Meets : List Addition → Run → Run → Premise → Type 0
Meets adds a b sound_left = sound a.0 ≡ true
Meets adds a b sound_right = sound b.0 ≡ true
Meets adds a b same_additions = BuiltBy adds b.0
Meets adds a b equal_readable = (h : ℕ) → may_read_at a.0.link.encrypted h (made adds) ≡ true → value_at h (ledger a.0) ≡ value_at h (ledger b.0)
Meets adds a b equal_links = a.0.link ≡ b.0.link
Meets adds a b same_order = kinds a.1 ≡ kinds b.1
Meets adds a b same_packets = packets a.1 ≡ packets b.1
Meets adds a b equal_outputs = outputs a.1 ≡ outputs b.1
Meets adds a b same_handles = handles a.1 ≡ handles b.1
Meets adds a b equal_stores = readable_stores a.0.link.encrypted adds a.1 ≡ readable_stores a.0.link.encrypted adds b.1
Meets adds a b no_change = encryptions a.1 ++ encryptions b.1 ≡ []

abbrev pub premises : List Premise
premises =
    sound_left ∷ sound_right ∷ same_additions ∷ equal_readable ∷ equal_links ∷ same_order ∷ same_packets ∷ equal_outputs ∷ same_handles ∷ equal_stores
    ∷ no_change
    ∷ []

abbrev pub rank_of : Premise → ℕ
rank_of sound_left = 0
rank_of sound_right = 1
rank_of same_additions = 2
rank_of equal_readable = 3
rank_of equal_links = 4
rank_of same_order = 5
rank_of same_packets = 6
rank_of equal_outputs = 7
rank_of same_handles = 8
rank_of equal_stores = 9
rank_of no_change = 10

-- Two runs show that a premise is needed: the additions built the left table, all other premises are met, and the link hears different
-- things of the two.
pub record Shows : Type 0 where
  pub left_out : Premise
  pub adds : List Addition
  pub one : Run
  pub other : Run

abbrev pub Needs : Shows → Type 0
Needs w =
    BuiltBy w.adds w.one.0
    × Each (Meets w.adds w.one w.other) (keep (λ (p : Premise). not (eqb (rank_of p) (rank_of w.left_out))) premises)
    × (hears w.one.0 w.one.1 ≡ hears w.other.0 w.other.1 → ⊥)

-- The runs. An attribute of type FFF1 and one live byte, readable; on an encrypted link only, where `hidden` says so.
abbrev pub lone : ℕ → Bool → ℕ → Record
lone h hidden at = record {
  handle = h;
  kind = short 0xFFF1;
  readable = true;
  writable = false;
  read_encrypted = hidden;
  write_encrypted = false;
  place = Live at 1 1;
}

abbrev pub lone_addition : ℕ → Bool → Addition
lone_addition h hidden = record {
  handle = h;
  kind = short 0xFFF1;
  readable = true;
  writable = false;
  read_encrypted = hidden;
  write_encrypted = false;
  room = room.Live 1;
}

abbrev pub link_with : ℕ → Bool → Bool → Link
link_with mtu exchanged encrypted = record { mtu = mtu; exchanged = exchanged; encrypted = encrypted }

-- `built` is the length of the live area that the table says it was built for; it is 1
abbrev pub holder_of : Bool → ℕ → Link → ℕ → State
holder_of hidden built l value = record {
  table = record { records = lone 1 hidden 0 ∷ replicate 63 blank; count = 1; fixed_len = 0; live_len = built };
  link = l;
  fixed = [];
  live = value ∷ [];
}

abbrev pub open_till : ℕ → State
open_till value = holder_of false 1 (link_with 23 false false) value

abbrev pub secret_till : ℕ → State
secret_till value = holder_of true 1 (link_with 23 false false) value

-- two such attributes, 41 and 42
abbrev pub couple : State
couple = record {
  table = record { records = lone 1 false 0 ∷ lone 2 false 1 ∷ replicate 62 blank; count = 2; fixed_len = 0; live_len = 2 };
  link = link_with 23 false false;
  fixed = [];
  live = 0x41 ∷ 0x42 ∷ [];
}

abbrev pub reads_one : Step
reads_one = Send (0x0A ∷ 0x01 ∷ 0x00 ∷ []) 23

abbrev pub lists_all : Step
lists_all = Send (0x04 ∷ 0x01 ∷ 0x00 ∷ 0xFF ∷ 0xFF ∷ []) 23

abbrev pub exchanges : Step
exchanges = Send (0x02 ∷ 0x17 ∷ 0x00 ∷ []) 23

abbrev pub shows : Premise → Bool → Run → Run → Shows
shows q s a b = record { left_out = q; adds = lone_addition 1 s ∷ []; one = a; other = b }

-- the first table says that it was built for two live bytes
abbrev pub left_unsound : Shows
left_unsound = shows sound_left false (holder_of false 2 (link_with 23 false false) 0x41, reads_one ∷ []) (open_till 0x41, reads_one ∷ [])

-- and the same of the second
abbrev pub right_unsound : Shows
right_unsound = shows sound_right false (open_till 0x41, reads_one ∷ []) (holder_of false 2 (link_with 23 false false) 0x41, reads_one ∷ [])

-- the second table has one attribute more
abbrev pub one_more : Shows
one_more = shows same_additions false (open_till 0x41, lists_all ∷ []) (couple, lists_all ∷ [])

-- readable values 41 and 42
abbrev pub other_value : Shows
other_value = shows equal_readable false (open_till 0x41, reads_one ∷ []) (open_till 0x42, reads_one ∷ [])

-- link records that differ in encryption
abbrev pub encrypted_link : Shows
encrypted_link = shows equal_links true (holder_of true 1 (link_with 23 false true) 0x41, reads_one ∷ []) (secret_till 0x41, reads_one ∷ [])

-- in the mark of the exchange
abbrev pub exchanged_link : Shows
exchanged_link = shows equal_links false (holder_of false 1 (link_with 23 true false) 0x41, exchanges ∷ []) (open_till 0x41, exchanges ∷ [])

-- in the MTU
abbrev pub wider_link : Shows
wider_link = shows equal_links false (holder_of false 1 (link_with 24 false false) 0x41, reads_one ∷ []) (open_till 0x41, reads_one ∷ [])

-- a store behind the packet, and before it
abbrev pub other_order : Shows
other_order = shows same_order false (open_till 0x41, reads_one ∷ Store 1 (0x43 ∷ []) ∷ []) (open_till 0x41, Store 1 (0x43 ∷ []) ∷ reads_one ∷ [])

-- packets for handles 2 and 1
abbrev pub other_packet : Shows
other_packet = shows same_packets false (open_till 0x41, Send (0x0A ∷ 0x02 ∷ 0x00 ∷ []) 23 ∷ []) (open_till 0x41, reads_one ∷ [])

-- outputs of 22 and 23 bytes
abbrev pub shorter_output : Shows
shorter_output = shows equal_outputs false (open_till 0x41, Send (0x0A ∷ 0x01 ∷ 0x00 ∷ []) 22 ∷ []) (open_till 0x41, reads_one ∷ [])

-- one value, stored at handle 1 and at 2
abbrev pub other_handle : Shows
other_handle = record {
  left_out = same_handles;
  adds = lone_addition 1 false ∷ lone_addition 2 false ∷ [];
  one = (couple, Store 1 (0x43 ∷ []) ∷ reads_one ∷ []);
  other = (couple, Store 2 (0x43 ∷ []) ∷ reads_one ∷ []);
}

-- two values, stored where the link may read
abbrev pub other_store : Shows
other_store = shows equal_stores false (open_till 0x41, Store 1 (0x43 ∷ []) ∷ reads_one ∷ []) (open_till 0x41, Store 1 (0x44 ∷ []) ∷ reads_one ∷ [])

-- encryption comes in both runs: what differed unread is read
abbrev pub later_encrypted : Shows
later_encrypted = shows no_change true (secret_till 0x41, Encrypt true ∷ reads_one ∷ []) (secret_till 0x42, Encrypt true ∷ reads_one ∷ [])

abbrev pub needed : List Shows
needed =
    left_unsound
    ∷ right_unsound
    ∷ one_more
    ∷ other_value
    ∷ encrypted_link
    ∷ exchanged_link
    ∷ wider_link
    ∷ other_order
    ∷ other_packet
    ∷ shorter_output
    ∷ other_handle
    ∷ other_store
    ∷ later_encrypted
    ∷ []
