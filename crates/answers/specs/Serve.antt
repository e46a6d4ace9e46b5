-- Document 01, "How a packet is served": the responder and the till's own store as functions of a state, and sequences of them.
use Rattle.std.specs.Prelude.{ℕ, Bool, true, false, List, [], ◌∷◌, ◌++◌, length, leb, Result, Ok, Err}
use Rattle.codec.specs.Cases.{pick}
use Rattle.codec.specs.declared.Refusal.{Refusal}
use Rattle.codec.specs.declared.Refusal.TheVariants.{InsufficientSpace, InvalidValue, BadTable, BadLink}
use Rattle.att.specs.Wire.{Coded, Sent, NotSent, send, first}
use Rattle.attributes.specs.Records.{entries}
use Rattle.attributes.specs.Soundness.{sound_table}
use Rattle.attributes.specs.Ledger.{Item, ledger_of}
use Rattle.attributes.specs.Stores.{relengthed, written_live, stored, stored_live, own_refusal}
use Rattle.attributes.specs.Additions.{tested, table_after}
use Rattle.attributes.specs.declared.Table.{Table}
use Rattle.answers.specs.View.{View, views_of}
use Rattle.answers.specs.Replies.{Says, Packet, Silence, Effect, Nothing, Stores, Agrees, error_packet, reply_to, link_ok}
use Rattle.answers.specs.declared.Link.{Link}

-- The till's state: the table, the link's record, and the two areas.
pub record State : Type 0 where
  pub table : Table
  pub link : Link
  pub fixed : List ℕ
  pub live : List ℕ

unfoldable pub sound : State → Bool
sound s = sound_table s.table (length s.fixed) (length s.live)

unfoldable pub ledger : State → List Item
ledger s = ledger_of s.table s.fixed s.live

abbrev pub views : State → List View
views s = views_of s.link.encrypted (ledger s)

-- A store at a live attribute with room for it; any other changes nothing. Slot bytes behind the value stay.
unfoldable pub store : State → ℕ → List ℕ → State
store s h v = record {
  table = relengthed s.table h (length v);
  link = s.link;
  fixed = s.fixed;
  live = written_live h v (entries s.table) s.live;
}

abbrev pub relinked : State → Link → State
relinked s l = record { table = s.table; link = l; fixed = s.fixed; live = s.live }

abbrev pub agreed : Link → ℕ → Link
agreed l mtu = record { mtu = mtu; exchanged = true; encrypted = l.encrypted }

-- what an effect does to the state
abbrev pub changed : State → Effect → State
changed s Nothing = s
changed s (Stores h v) = store s h v
changed s (Agrees mtu) = relinked s (agreed s.link mtu)

-- What a device hears: bytes, nothing, or nothing since the till was told a refusal.
pub data Heard : Type 0 where
  Bytes : List ℕ → Heard
  Silent : Heard
  Refused : Refusal → Heard

pub record Turn : Type 0 where
  pub heard : Heard
  pub state : State

abbrev pub serving : Heard → State → Turn
serving h s = record { heard = h; state = s }

-- "If the encoder refuses inside the responder, answer error 0E with handle 0": nothing is stored or changed then.
abbrev pub coded : Coded → List ℕ
coded (Sent b) = b
coded NotSent = []

unfoldable pub unlikely : ℕ → List ℕ
unlikely op = coded (send (error_packet op 0 0x0E))

-- What a device hears of a reply, and the effect that takes place.
abbrev pub coded_heard : Coded → ℕ → ℕ → Heard
coded_heard (Sent b) op room = pick (leb (length b) room) (Bytes b) (Bytes (unlikely op))
coded_heard NotSent op room = Bytes (unlikely op)

abbrev pub coded_does : Coded → ℕ → Effect → Effect
coded_does (Sent b) room e = pick (leb (length b) room) e Nothing
coded_does NotSent room e = Nothing

abbrev pub spoken : Says → ℕ → ℕ → Heard
spoken (Packet m) op room = coded_heard (send m) op room
spoken Silence op room = Silent

abbrev pub does : Says → ℕ → Effect → Effect
does (Packet m) room e = coded_does (send m) room e
does Silence room e = e

-- "Serving tests 11, 12, 1, 2": the table, the link, the output, and the packet.
abbrev pub serve_tests : State → List ℕ → ℕ → List (Bool × Refusal)
serve_tests s p room =
    (sound s, BadTable)
    ∷ (link_ok s.link, BadLink)
    ∷ (leb s.link.mtu room, InsufficientSpace)
    ∷ (leb 1 (length p), InvalidValue)
    ∷ []

unfoldable pub serve_refusal : State → List ℕ → ℕ → Result Unit Refusal
serve_refusal s p room = tested (serve_tests s p room)

-- What the device hears of a packet, and what the packet asks for: a refusal asks for nothing.
abbrev pub heard_by : Result Unit Refusal → Heard → Heard
heard_by (Ok u) h = h
heard_by (Err why) h = Refused why

abbrev pub effect_by : Result Unit Refusal → Effect → Effect
effect_by (Ok u) e = e
effect_by (Err why) e = Nothing

unfoldable pub answered : State → List ℕ → ℕ → Heard
answered s p room = heard_by (serve_refusal s p room) (spoken (reply_to (views s) s.link p).says (first p) room)

unfoldable pub asks : State → List ℕ → ℕ → Effect
asks s p room = let r = reply_to (views s) s.link p in effect_by (serve_refusal s p room) (does r.says room r.effect)

-- the responder: one packet into an output of `room` bytes
unfoldable pub serve : State → List ℕ → ℕ → Turn
serve s p room = serving (answered s p room) (changed s (asks s p room))

-- the till's own store: its refusal, and the state after it
unfoldable pub own_outcome : State → ℕ → List ℕ → Result Unit Refusal
own_outcome s h v = own_refusal s.table h (length v) s.fixed s.live

unfoldable pub own_store : State → ℕ → List ℕ → State
own_store s h v = record {
  table = table_after s.table (stored s.table h v s.fixed s.live);
  link = s.link;
  fixed = s.fixed;
  live = stored_live s.table h v s.fixed s.live;
}

-- Steps: a packet into an output of some length, an own store, a change of the link's encryption.
pub data Step : Type 0 where
  Send : List ℕ → ℕ → Step
  Store : ℕ → List ℕ → Step
  Encrypt : Bool → Step

-- "A link has an MTU (23 at first), a mark that the exchange was made, and encrypted or not."
abbrev pub first_link : Bool → Link
first_link encrypted = record { mtu = 23; exchanged = false; encrypted = encrypted }

abbrev pub encrypting : Link → Bool → Link
encrypting l e = record { mtu = l.mtu; exchanged = l.exchanged; encrypted = e }

unfoldable pub after : State → Step → State
after s (Send p room) = (serve s p room).state
after s (Store h v) = own_store s h v
after s (Encrypt e) = relinked s (encrypting s.link e)

-- what the device hears of a step
unfoldable pub heard_of : State → Step → List Heard
heard_of s (Send p room) = (serve s p room).heard ∷ []
heard_of s (Store h v) = []
heard_of s (Encrypt e) = []

-- a sequence of steps, and all that the device hears
unfoldable pub run : State → List Step → State
run s [] = s
run s (e ∷ es) = run (after s e) es

unfoldable pub hears : State → List Step → List Heard
hears s [] = []
hears s (e ∷ es) = heard_of s e ++ hears (after s e) es
