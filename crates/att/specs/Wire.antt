-- Core Specification, Volume 3 Part F, 3.3 and 3.4: the packets as bytes, in the rows of document 01's table "Packets".
-- What a packet is, when bytes decode to one, when they are strict, and what a packet encodes to, all come from its row.
use Rattle.std.specs.Prelude.{ℕ, ◌+◌, ◌-◌, ◌%◌, Bool, true, false, ◌&&◌, ◌||◌, List, [], ◌∷◌, ◌++◌, length, take, drop, leb, eqb}
use Rattle.codec.specs.Cases.{pick, lookup}
use Rattle.primitives.specs.Numbers.{bytes_of, number_at}

-- What follows the fixed fields. The length of an item is told by the fixed fields; 0 and 1 are no length of an item. The last
-- number is the shortest item of the strict form.
pub data Tail : Type 0 where
  Ends : Tail
  Rest : Tail
  Handles : Tail
  AUuid : Tail
  Items : (List ℕ → ℕ) → ℕ → Tail
  NoPacket : Tail

-- A row: the width of each fixed field, and what follows them.
pub record Shape : Type 0 where
  pub fields : List ℕ
  pub tail : Tail

abbrev pub shape : List ℕ → Tail → Shape
shape ws t = record { fields = ws; tail = t }

abbrev pub first : List ℕ → ℕ
first [] = 0
first (n ∷ ns) = n

-- 3.4.3.2: format 1 has pairs of handle and 16-bit UUID, format 2 of handle and 128-bit UUID
abbrev pub by_format : List ℕ → ℕ
by_format ns = pick (eqb (first ns) 1) 4 (pick (eqb (first ns) 2) 18 0)

unfoldable pub rows : List (ℕ × Shape)
rows =
    -- 3.4.1.1 Error Response: request, handle, code
    (0x01, shape (1 ∷ 2 ∷ 1 ∷ []) Ends)
    -- 3.4.2.1, 3.4.2.2 Exchange MTU: mtu
    ∷ (0x02, shape (2 ∷ []) Ends)
    ∷ (0x03, shape (2 ∷ []) Ends)
    -- 3.4.3.1 Find Information Request: start, end
    ∷ (0x04, shape (2 ∷ 2 ∷ []) Ends)
    -- 3.4.3.2 Find Information Response: format, pairs
    ∷ (0x05, shape (1 ∷ []) (Items by_format 2))
    -- 3.4.3.3 Find By Type Value Request: start, end, type, value
    ∷ (0x06, shape (2 ∷ 2 ∷ 2 ∷ []) Rest)
    -- 3.4.3.4 Find By Type Value Response: pairs of 4
    ∷ (0x07, shape [] (Items (λ ns. 4) 2))
    -- 3.4.4.1 Read By Type Request: start, end, UUID
    ∷ (0x08, shape (2 ∷ 2 ∷ []) AUuid)
    -- 3.4.4.2 Read By Type Response: item length, items
    ∷ (0x09, shape (1 ∷ []) (Items first 2))
    -- 3.4.4.3, 3.4.4.4 Read: handle; data
    ∷ (0x0A, shape (2 ∷ []) Ends)
    ∷ (0x0B, shape [] Rest)
    -- 3.4.4.5, 3.4.4.6 Read Blob: handle, offset; data
    ∷ (0x0C, shape (2 ∷ 2 ∷ []) Ends)
    ∷ (0x0D, shape [] Rest)
    -- 3.4.4.9 Read By Group Type Request: start, end, UUID
    ∷ (0x10, shape (2 ∷ 2 ∷ []) AUuid)
    -- 3.4.4.10 Read By Group Type Response: item length, items of handle, end and value
    ∷ (0x11, shape (1 ∷ []) (Items first 4))
    -- 3.4.5.1, 3.4.5.2 Write: handle, data; nothing
    ∷ (0x12, shape (2 ∷ []) Rest)
    ∷ (0x13, shape [] Ends)
    -- 3.4.6.1 Prepare Write Request: handle, offset, data
    ∷ (0x16, shape (2 ∷ 2 ∷ []) Rest)
    -- 3.4.6.3 Execute Write Request: flags
    ∷ (0x18, shape (1 ∷ []) Ends)
    -- 3.4.7.1, 3.4.7.2 Notification, Indication: handle, data
    ∷ (0x1B, shape (2 ∷ []) Rest)
    ∷ (0x1D, shape (2 ∷ []) Rest)
    -- 3.4.7.3 Confirmation: nothing
    ∷ (0x1E, shape [] Ends)
    -- 3.4.4.11 Read Multiple Variable Request: handles
    ∷ (0x20, shape [] Handles)
    -- 3.4.5.3 Write Command: handle, data
    ∷ (0x52, shape (2 ∷ []) Rest)
    ∷ []

-- the row of an opcode; anything else is no packet
unfoldable pub shape_of : ℕ → Shape
shape_of op = lookup op rows (shape [] NoPacket)

-- the length of the fixed fields, and their numbers in a payload
abbrev pub total : List ℕ → ℕ
total [] = 0
total (w ∷ ws) = w + total ws

abbrev pub numbers : ℕ → List ℕ → List ℕ → List ℕ
numbers at [] p = []
numbers at (w ∷ ws) p = number_at w at p ∷ numbers (at + w) ws p

-- a UUID in a packet is of 2 or 16 bytes
abbrev pub uuid_length : ℕ → Bool
uuid_length n = eqb n 2 || eqb n 16

-- "Decodes" of document 01's table, of what follows the fixed fields: `ns` are their numbers, `r` the bytes behind them
abbrev pub tail_decodes : Tail → List ℕ → List ℕ → Bool
tail_decodes Ends ns r = true
tail_decodes Rest ns r = true
tail_decodes Handles ns r = true
tail_decodes AUuid ns r = uuid_length (length r)
tail_decodes (Items each least) ns r = leb 2 (each ns)
tail_decodes NoPacket ns r = false

abbrev pub shape_decodes : Shape → List ℕ → Bool
shape_decodes s p = tail_decodes s.tail (numbers 0 s.fields p) (drop (total s.fields) p) && leb (total s.fields) (length p)

unfoldable pub decodes : ℕ → List ℕ → Bool
decodes op p = shape_decodes (shape_of op) p

-- "Strict" of that table: the Core form. Items are one or more, and whole.
abbrev pub tail_strict : Tail → List ℕ → List ℕ → Bool
tail_strict Ends ns r = eqb (length r) 0
tail_strict Rest ns r = true
tail_strict Handles ns r = leb 4 (length r) && eqb (length r % 2) 0
tail_strict AUuid ns r = uuid_length (length r)
tail_strict (Items each least) ns r = leb least (each ns) && (leb (each ns) (length r) && eqb (length r % each ns) 0)
tail_strict NoPacket ns r = false

abbrev pub shape_strict : Shape → List ℕ → Bool
shape_strict s p = tail_strict s.tail (numbers 0 s.fields p) (drop (total s.fields) p) && leb (total s.fields) (length p)

unfoldable pub strict : List ℕ → Bool
strict [] = false
strict (op ∷ p) = shape_strict (shape_of op) p

-- What a packet means: its opcode, the numbers of its fixed fields, and the bytes that follow: data, items, or a UUID's own bytes,
-- whose number tells its form.
pub record Meaning : Type 0 where
  pub opcode : ℕ
  pub numbers : List ℕ
  pub tail : List ℕ

abbrev pub meaning : ℕ → List ℕ → List ℕ → Meaning
meaning op ns t = record { opcode = op; numbers = ns; tail = t }

-- extra bytes after fixed fields are ignored
abbrev pub kept_tail : Tail → List ℕ → List ℕ
kept_tail Ends r = []
kept_tail Rest r = r
kept_tail Handles r = r
kept_tail AUuid r = r
kept_tail (Items each least) r = r
kept_tail NoPacket r = []

abbrev pub shape_means : ℕ → Shape → List ℕ → Meaning
shape_means op s p = meaning op (numbers 0 s.fields p) (kept_tail s.tail (drop (total s.fields) p))

pub data Read : Type 0 where
  Means : Meaning → Read
  NotRead : Read

-- decoding
unfoldable pub read : List ℕ → Read
read [] = NotRead
read (op ∷ p) = pick (decodes op p) (Means (shape_means op (shape_of op) p)) NotRead

-- an incomplete last item is dropped
abbrev pub whole : ℕ → ℕ → ℕ
whole n each = n - n % each

abbrev pub sent_tail : Tail → List ℕ → List ℕ → List ℕ
sent_tail Ends ns t = []
sent_tail Rest ns t = t
sent_tail Handles ns t = t
sent_tail AUuid ns t = t
sent_tail (Items each least) ns t = take (whole (length t) (each ns)) t
sent_tail NoPacket ns t = []

abbrev pub sent_fields : List ℕ → List ℕ → List ℕ
sent_fields [] ns = []
sent_fields (w ∷ ws) [] = bytes_of w 0 ++ sent_fields ws []
sent_fields (w ∷ ws) (n ∷ ns) = bytes_of w n ++ sent_fields ws ns

pub data Coded : Type 0 where
  Sent : List ℕ → Coded
  NotSent : Coded

abbrev pub shape_sends : Shape → Meaning → Coded
shape_sends s m =
    pick (tail_decodes s.tail m.numbers m.tail)
    (Sent (m.opcode ∷ (sent_fields s.fields m.numbers ++ sent_tail s.tail m.numbers m.tail)))
    NotSent

-- encoding: what is no packet, an item length that is none, and a UUID of another form are not sent
unfoldable pub send : Meaning → Coded
send m = shape_sends (shape_of m.opcode) m

-- decoding and then encoding
abbrev pub resent : Read → Coded
resent (Means m) = send m
resent NotRead = NotSent

-- A packet without its incomplete last item: what its encoding carries.
unfoldable pub trimmed : Meaning → Meaning
trimmed m = meaning m.opcode m.numbers (sent_tail (shape_of m.opcode).tail m.numbers m.tail)
