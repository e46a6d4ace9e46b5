-- The auditor's sentence, "show that expiry cannot be taken for lot": what was written to an attribute, and what a client is told of it.
use Rattle.std.specs.Prelude.{ℕ, ◌-◌, ◌<◌, Bool, true, false, ◌&&◌, ◌||◌, ◌≡◌, List, [], ◌∷◌, ◌++◌, map, length, take, drop, leb, eqb, Result, Ok, Err}
use Rattle.codec.specs.Cases.{pick, lookup}
use Rattle.codec.specs.declared.Refusal.{Refusal}
use Rattle.primitives.specs.Numbers.{bytes_of, number_at}
use Rattle.ble_uuid.specs.Uuids.{own, width_of, equal_types}
use Rattle.att.specs.Items.{items_of}
use Rattle.att.specs.Wire.{Meaning, Read, Means, NotRead, read, strict}
use Rattle.attributes.specs.Ledger.{Item, item_at}
use Rattle.attributes.specs.Lists.{Each}
use Rattle.attributes.specs.Records.{Slot, Kept, slot_size, skeleton}
use Rattle.attributes.specs.Stores.{store_refusal}
use Rattle.attributes.specs.declared.Record.{Record}
use Rattle.answers.specs.View.{View, may_read, may_write, unreadable, reading_of}
use Rattle.answers.specs.Replies.{Effect, Nothing, Stores, Agrees, error_packet, value_packet, blob_packet, keep, outlines, group_end, end_of, holds, nth}
use Rattle.answers.specs.Serve.{State, ledger, views, Heard, Bytes, Silent, Refused, serve_refusal, serve, own_outcome, Step, Send, Store, Encrypt, after}
use Rattle.answers.specs.declared.Link.{Link}

-- A write: a handle and the value for it. A packet says one by its own bytes, 12 and 52 alone: at the handle in its first two payload
-- bytes, the bytes behind them.
abbrev pub Write : Type 0
Write = ℕ × List ℕ

abbrev pub write_in : List ℕ → List Write
write_in [] = []
write_in (op ∷ p) = pick (eqb op 0x12 || eqb op 0x52) ((number_at 2 0 p, drop 2 p) ∷ []) []

abbrev pub writes_of : Step → List Write
writes_of (Send p room) = write_in p
writes_of (Store h v) = (h, v) ∷ []
writes_of (Encrypt e) = []

-- What a packet may ask for: nothing, the end of an exchange, or the write that it says.
abbrev pub AsksOnly : List ℕ → Effect → Type 0
AsksOnly p Nothing = Unit
AsksOnly p (Stores h v) = write_in p ≡ (h, v) ∷ []
AsksOnly p (Agrees mtu) = Unit

-- A packet's write is accepted where no test of serving fails, the packet is strict and no longer than the MTU, and the link may write
-- the attribute, which has room for it.
abbrev pub passes : Result Unit Refusal → Bool
passes (Ok u) = true
passes (Err why) = false

abbrev pub writable_at : Bool → Write → List Item → Bool
writable_at encrypted w is = item_at w.0 (λ i. may_write encrypted i && leb (length w.1) (slot_size i.slot)) false is

unfoldable pub takes_write : State → List ℕ → ℕ → Write → Bool
takes_write s p room w =
    passes (serve_refusal s p room)
    && (leb (length p) s.link.mtu
    && (strict p
    && writable_at s.link.encrypted w (ledger s)))

-- the writes that the table takes of what a packet asks for
abbrev pub accepted_of : Effect → List Item → List Write
accepted_of Nothing is = []
accepted_of (Stores h v) is = pick (passes (store_refusal h (length v) is)) ((h, v) ∷ []) []
accepted_of (Agrees mtu) is = []

-- The accepted writes of a step, and of a sequence in order: by the till's own store, by 12 or by 52.
unfoldable pub accepted_in : State → Step → List Write
accepted_in s (Send p room) = keep (takes_write s p room) (write_in p)
accepted_in s (Store h v) = pick (passes (own_outcome s h v)) ((h, v) ∷ []) []
accepted_in s (Encrypt e) = []

unfoldable pub accepted : State → List Step → List Write
accepted s [] = []
accepted s (e ∷ es) = accepted_in s e ++ accepted (after s e) es

-- no write of a step is for this handle
abbrev pub Elsewhere : ℕ → Step → Type 0
Elsewhere h e = Each (λ (w : Write). w.0 ≡ h → ⊥) (writes_of e)

-- the last of these writes for a handle, or what was there before them
abbrev pub last_for : ℕ → List ℕ → List Write → List ℕ
last_for h before [] = before
last_for h before (w ∷ ws) = last_for h (pick (eqb w.0 h) w.1 before) ws

-- What a client is told of an attribute, by its handle: that its value has these bytes from this offset on, or that these bytes are its
-- value; and when that is true.
pub data Told : Type 0 where
  HasPart : ℕ → ℕ → List ℕ → Told
  HasWhole : ℕ → List ℕ → Told

abbrev pub about : Told → ℕ
about (HasPart h offset b) = h
about (HasWhole h b) = h

abbrev pub TrueOf : List ℕ → Told → Type 0
TrueOf value (HasPart h offset b) = b ≡ take (length b) (drop offset value)
TrueOf value (HasWhole h b) = b ≡ value

-- What a client takes from the answer `m` to its request `q`, both as the wire reads them. In 0B and 0D it is told of the handle that
-- it asked for; in 07, that the value asked for is the value of each handle listed; in 09 and 11 each item names its handle in front.
abbrev pub told_in : Meaning → Meaning → List Told
told_in q m =
    lookup m.opcode
    ((0x0B, HasPart (nth q.numbers 0) 0 m.tail ∷ [])
    ∷ (0x0D, HasPart (nth q.numbers 0) (nth q.numbers 1) m.tail ∷ [])
    ∷ (0x07, map (λ i. HasWhole (number_at 2 0 i) q.tail) (items_of m))
    ∷ (0x09, map (λ i. HasPart (number_at 2 0 i) 0 (drop 2 i)) (items_of m))
    ∷ (0x11, map (λ i. HasPart (number_at 2 0 i) 0 (drop 4 i)) (items_of m))
    ∷ [])
    []

abbrev pub told_by : Read → Read → List Told
told_by (Means q) (Means m) = told_in q m
told_by (Means q) NotRead = []
told_by NotRead r = []

abbrev pub read_heard : Heard → Read
read_heard (Bytes b) = read b
read_heard Silent = NotRead
read_heard (Refused why) = NotRead

unfoldable pub told : State → List ℕ → ℕ → List Told
told s p room = told_by (read p) (read_heard (serve s p room).heard)

-- The answers to 0A and 0C for the handle `h`, made of the attribute that has it and of nothing else.
abbrev pub read_answer : Link → ℕ → Item → Meaning
read_answer l h i = pick (may_read l.encrypted i) (value_packet l i.value) (error_packet 0x0A h (unreadable i))

abbrev pub blob_answer : Link → ℕ → ℕ → Item → Meaning
blob_answer l h offset i = pick (may_read l.encrypted i) (blob_packet l h offset i.value) (error_packet 0x0C h (unreadable i))

-- the attribute that has the handle `h`, with its value, or none
abbrev pub attribute_at : ℕ → List Item → List Item
attribute_at h is = item_at h (λ i. i ∷ []) [] is

-- what may be stored there: nothing, where there is no such attribute
abbrev pub slot_at : ℕ → List Item → Slot
slot_at h is = item_at h (λ i. i.slot) Kept is

-- The items that a client finds in a list, 05, 07, 09 or 11; and those that are due to its request, of all matching attributes in the
-- order of their handles. A list may end early: it is then the start of what is due.
abbrev pub items_in : Read → List (List ℕ)
items_in (Means m) = lookup m.opcode ((0x05, items_of m) ∷ (0x07, items_of m) ∷ (0x09, items_of m) ∷ (0x11, items_of m) ∷ []) []
items_in NotRead = []

abbrev pub Starts : {A : Type 0} → List A → List A → Type 0
Starts xs ys = xs ≡ take (length xs) ys

abbrev pub between : ℕ → ℕ → List Item → List Item
between from to is = keep (λ (i : Item). leb from i.handle && leb i.handle to) is

abbrev pub info_item : Item → List ℕ
info_item i = bytes_of 2 i.handle ++ i.kind

abbrev pub pair_item : List View → List ℕ → Item → List ℕ
pair_item vs kind i = bytes_of 2 i.handle ++ bytes_of 2 (end_of (outlines vs) kind i.handle)

abbrev pub value_item : Link → Item → List ℕ
value_item l i = bytes_of 2 i.handle ++ take (l.mtu - 4) i.value

abbrev pub group_item : List View → Link → Item → List ℕ
group_item vs l i = (bytes_of 2 i.handle ++ bytes_of 2 (group_end (outlines vs) i.handle)) ++ take (l.mtu - 6) i.value

abbrev pub holds_value : Bool → List ℕ → List ℕ → Item → Bool
holds_value encrypted kind value i = equal_types i.kind kind && holds (reading_of encrypted i) value

abbrev pub dues : State → List ℕ → List ℕ → List (ℕ × List (List ℕ))
dues s ns t =
    let is = between (nth ns 0) (nth ns 1) (ledger s) in
    (0x04, map info_item is)
    ∷ (0x06, map (pair_item (views s) (bytes_of 2 (nth ns 2))) (keep (holds_value s.link.encrypted (bytes_of 2 (nth ns 2)) t) is))
    ∷ (0x08, map (value_item s.link) (keep (λ (i : Item). equal_types i.kind t) is))
    ∷ (0x10, map (group_item (views s) s.link) (keep (λ (i : Item). equal_types i.kind t) is))
    ∷ []

unfoldable pub due : State → Meaning → List (List ℕ)
due s q = lookup q.opcode (dues s q.numbers q.tail) []

-- What the code's types say of a table: a handle is a u16, and a UUID has as many bytes as its form.
abbrev pub Typed : State → Type 0
Typed s = Each (λ (r : Record). (r.handle < 65536) × (length (own r.kind) ≡ width_of r.kind)) (skeleton s.table)
