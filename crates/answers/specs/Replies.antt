-- Document 01, "How a packet is served": the reply to a packet as a function of the link's view of the table, the link and the packet,
-- and of nothing else. A reply is a packet of the wire or silence, and an effect.
use Rattle.std.specs.Prelude.{ℕ, ◌-◌, ◌/◌, ◌%◌, min, max, Bool, false, ◌&&◌, ◌||◌, not, List, [], ◌∷◌, ◌++◌, map, length, take, drop, get_or, leb, ltb, eqb}
use Rattle.codec.specs.Cases.{pick, lookup, same}
use Rattle.primitives.specs.Numbers.{bytes_of}
use Rattle.ble_uuid.specs.Uuids.{equal_types}
use Rattle.att.specs.Wire.{Meaning, meaning, shape_of, shape_means, strict}
use Rattle.att.specs.Items.{joined}
use Rattle.answers.specs.View.{View, Reading, Value, NoRead, Writing, UpTo, NoWrite, view_at}
use Rattle.answers.specs.declared.Link.{Link}

pub data Says : Type 0 where
  Packet : Meaning → Says
  Silence : Says

-- what a packet does beside its answer: nothing, a store, or the end of an exchange
pub data Effect : Type 0 where
  Nothing : Effect
  Stores : ℕ → List ℕ → Effect
  Agrees : ℕ → Effect

pub record Reply : Type 0 where
  pub says : Says
  pub effect : Effect

abbrev pub doing : Says → Effect → Reply
doing s e = record { says = s; effect = e }

abbrev pub only : Says → Reply
only s = doing s Nothing

-- An error is 01, the request's opcode, handle, code.
abbrev pub error_packet : ℕ → ℕ → ℕ → Meaning
error_packet op handle code = meaning 0x01 (op ∷ handle ∷ code ∷ []) []

abbrev pub error : ℕ → ℕ → ℕ → Reply
error op handle code = only (Packet (error_packet op handle code))

-- "02: a second exchange, error 06, handle 0. Else answer 247; MTU becomes the smaller of 247 and the request, at least 23."
unfoldable pub exchange : Link → ℕ → Reply
exchange l mtu =
    pick l.exchanged (error 0x02 0 0x06) (doing (Packet (meaning 0x03 (247 ∷ []) [])) (Agrees (max 23 (min 247 mtu))))

-- "0A, 0C, 12: unknown handle 01; not readable 02 or not writable 03; not encrypted 0F; 0C with offset over the length 07; 12 over
-- capacity 0D. Handle is the requested one. 0A and 0C return at most MTU - 1 bytes. 12 replaces the value."
-- First, the packets that 0A and 0C get of a value that the link may read.
abbrev pub value_packet : Link → List ℕ → Meaning
value_packet l b = meaning 0x0B [] (take (l.mtu - 1) b)

abbrev pub blob_packet : Link → ℕ → ℕ → List ℕ → Meaning
blob_packet l h offset b = pick (leb offset (length b)) (meaning 0x0D [] (take (l.mtu - 1) (drop offset b))) (error_packet 0x0C h 0x07)

abbrev pub value_told : Link → List ℕ → Reply
value_told l b = only (Packet (value_packet l b))

abbrev pub blob_told : Link → ℕ → ℕ → List ℕ → Reply
blob_told l h offset b = only (Packet (blob_packet l h offset b))

unfoldable pub reading : ℕ → ℕ → (List ℕ → Reply) → Reading → Reply
reading op h k (Value v) = k v
reading op h k (NoRead code) = error op h code

unfoldable pub read_reply : List View → Link → ℕ → Reply
read_reply vs l h = view_at h (λ v. reading 0x0A h (value_told l) v.reading) (error 0x0A h 0x01) vs

unfoldable pub blob_reply : List View → Link → ℕ → ℕ → Reply
blob_reply vs l h offset = view_at h (λ v. reading 0x0C h (blob_told l h offset) v.reading) (error 0x0C h 0x01) vs

unfoldable pub writing : ℕ → List ℕ → Writing → Reply
writing h d (UpTo capacity) = pick (leb (length d) capacity) (doing (Packet (meaning 0x13 [] [])) (Stores h d)) (error 0x12 h 0x0D)
writing h d (NoWrite code) = error 0x12 h code

unfoldable pub write : List View → ℕ → List ℕ → Reply
write vs h d = view_at h (λ v. writing h d v.writing) (error 0x12 h 0x01) vs

-- A search over the attributes of a range, in order. Each gives it nothing, an item, or the handle and the code that reading it is
-- refused with.
pub data Part : Type 0 where
  Skip : Part
  Take : List ℕ → Part
  Fail : ℕ → ℕ → Part

-- What comes of it: nothing, a first one that fails, or a list of items, each as long as the first.
pub data Found : Type 0 where
  None : Found
  Failed : ℕ → ℕ → Found
  Listed : ℕ → List (List ℕ) → Found

-- The items behind the first, of `n` bytes each. The list ends before one that fails, one of another length, and one that does not
-- fit into the room that is left.
unfoldable pub more : ℕ → ℕ → List Part → List (List ℕ)
more n room [] = []
more n room (Skip ∷ ps) = more n room ps
more n room (Take b ∷ ps) = pick (eqb (length b) n && leb n room) (b ∷ more n (room - n) ps) []
more n room (Fail h code ∷ ps) = []

unfoldable pub search : ℕ → List Part → Found
search room [] = None
search room (Skip ∷ ps) = search room ps
search room (Take b ∷ ps) = Listed (length b) (b ∷ more (length b) (room - length b) ps)
search room (Fail h code ∷ ps) = Failed h code

abbrev pub keep : {A : Type 0} → (A → Bool) → List A → List A
keep f [] = []
keep f (x ∷ xs) = pick (f x) (x ∷ keep f xs) (keep f xs)

unfoldable pub in_range : ℕ → ℕ → List View → List View
in_range from to vs = keep (λ v. leb from v.handle && leb v.handle to) vs

-- "start 0 or above end, error 01 with start; nothing found, 0A with start." `answer` makes the packet of the length of an item and
-- of the items joined; `f` tells what an attribute gives.
unfoldable pub range_ok : ℕ → ℕ → Bool
range_ok from to = leb 1 from && leb from to

unfoldable pub listing : ℕ → ℕ → (ℕ → List ℕ → Meaning) → Found → Reply
listing op from answer None = error op from 0x0A
listing op from answer (Failed h code) = error op h code
listing op from answer (Listed n is) = only (Packet (answer n (joined is)))

unfoldable pub searched : ℕ → List View → ℕ → ℕ → ℕ → (ℕ → List ℕ → Meaning) → (View → Part) → Reply
searched op vs room from to answer f =
    pick (range_ok from to) (listing op from answer (search room (map f (in_range from to vs)))) (error op from 0x01)

-- "for types 2800 and 2801 the handle of the last record before the next one of either type, or the table's last record"
unfoldable pub groups : List ℕ → Bool
groups kind = equal_types kind (bytes_of 2 0x2800) || equal_types kind (bytes_of 2 0x2801)

abbrev pub Outline : Type 0
Outline = ℕ × List ℕ

abbrev pub outlines : List View → List Outline
outlines vs = map (λ v. (v.handle, v.kind)) vs

unfoldable pub last_of : ℕ → List Outline → ℕ
last_of h [] = h
last_of h (o ∷ os) = pick (groups o.1) h (last_of o.0 os)

unfoldable pub group_end : List Outline → ℕ → ℕ
group_end os h = last_of h (keep (λ o. ltb h o.0) os)

-- "04 lists handles and types in order, ending before the first of another form than the first's, or that does not fit."
unfoldable pub info : View → Part
info v = Take (bytes_of 2 v.handle ++ v.kind)

unfoldable pub infos : ℕ → List ℕ → Meaning
infos n is = meaning 0x05 (pick (eqb n 4) 1 2 ∷ []) is

unfoldable pub find_information : List View → Link → ℕ → ℕ → Reply
find_information vs l from to = searched 0x04 vs (l.mtu - 2) from to infos info

-- "06 lists attributes with equal type and whole value that the link may read, in order, as many whole pairs as fit, with group
-- end: for types 2800 and 2801 [..]; otherwise the handle itself."
unfoldable pub holds : Reading → List ℕ → Bool
holds (Value b) value = same b value
holds (NoRead code) value = false

unfoldable pub end_of : List Outline → List ℕ → ℕ → ℕ
end_of os kind h = pick (groups kind) (group_end os h) h

unfoldable pub pair : List View → List ℕ → List ℕ → View → Part
pair vs kind value v =
    pick (equal_types v.kind kind && holds v.reading value)
    (Take (bytes_of 2 v.handle ++ bytes_of 2 (end_of (outlines vs) kind v.handle)))
    Skip

unfoldable pub pairs : ℕ → List ℕ → Meaning
pairs n is = meaning 0x07 [] is

unfoldable pub find_by_type_value : List View → Link → ℕ → ℕ → ℕ → List ℕ → Reply
find_by_type_value vs l from to kind value = searched 0x06 vs (l.mtu - 1) from to pairs (pair vs (bytes_of 2 kind) value)

-- "08 and 10 take matching types in order. A first match the link may not read gives 02 or 0F with its handle; a later one ends the
-- list. Values are cut to MTU - 4 (08) or MTU - 6 (10); the list ends at another length or a full packet. 10 adds the group end."
unfoldable pub value_part : ℕ → Reading → List ℕ → ℕ → Part
value_part h (Value b) front n = Take (front ++ take n b)
value_part h (NoRead code) front n = Fail h code

unfoldable pub typed : Link → List ℕ → View → Part
typed l kind v = pick (equal_types v.kind kind) (value_part v.handle v.reading (bytes_of 2 v.handle) (l.mtu - 4)) Skip

unfoldable pub values : ℕ → List ℕ → Meaning
values n is = meaning 0x09 (n ∷ []) is

unfoldable pub read_by_type : List View → Link → ℕ → ℕ → List ℕ → Reply
read_by_type vs l from to kind = searched 0x08 vs (l.mtu - 2) from to values (typed l kind)

unfoldable pub grouped : List View → Link → List ℕ → View → Part
grouped vs l kind v =
    pick (equal_types v.kind kind)
    (value_part v.handle v.reading (bytes_of 2 v.handle ++ bytes_of 2 (group_end (outlines vs) v.handle)) (l.mtu - 6))
    Skip

unfoldable pub group_values : ℕ → List ℕ → Meaning
group_values n is = meaning 0x11 (n ∷ []) is

-- "10 with a type other than 16-bit 2800 or 2801, error 10 with start, after the range test."
unfoldable pub read_by_group_type : List View → Link → ℕ → ℕ → List ℕ → Reply
read_by_group_type vs l from to kind =
    pick (range_ok from to && not (groups kind)) (error 0x10 from 0x10)
    (searched 0x10 vs (l.mtu - 2) from to group_values (grouped vs l kind))

-- The requests that are served, each with its reply to a packet of its numbers and what follows them.
abbrev pub nth : List ℕ → ℕ → ℕ
nth ns k = get_or ns k 0

pub data Row : Type 0 where
  Serves : Reply → Row
  NotServed : Row

unfoldable pub served : List View → Link → List ℕ → List ℕ → List (ℕ × Row)
served vs l ns t =
    (0x02, Serves (exchange l (nth ns 0)))
    ∷ (0x04, Serves (find_information vs l (nth ns 0) (nth ns 1)))
    ∷ (0x06, Serves (find_by_type_value vs l (nth ns 0) (nth ns 1) (nth ns 2) t))
    ∷ (0x08, Serves (read_by_type vs l (nth ns 0) (nth ns 1) t))
    ∷ (0x0A, Serves (read_reply vs l (nth ns 0)))
    ∷ (0x0C, Serves (blob_reply vs l (nth ns 0) (nth ns 1)))
    ∷ (0x10, Serves (read_by_group_type vs l (nth ns 0) (nth ns 1) t))
    ∷ (0x12, Serves (write vs (nth ns 0) t))
    ∷ []

-- "Other requests, in order: longer than the MTU, error 04; opcode not one of [these], error 06; not strict, error 04. These errors
-- carry handle 0."
unfoldable pub row_reply : ℕ → Bool → Row → Reply
row_reply op ok (Serves r) = pick ok r (error op 0 0x04)
row_reply op ok NotServed = error op 0 0x06

unfoldable pub request : List View → Link → ℕ → List ℕ → Reply
request vs l op p =
    let m = shape_means op (shape_of op) p in
    pick (leb (length (op ∷ p)) l.mtu)
    (row_reply op (strict (op ∷ p)) (lookup op (served vs l m.numbers m.tail) NotServed))
    (error op 0 0x04)

-- "No answer and no change: odd opcodes, 1E, and opcodes with bit 40 set, except that 52, strict, no longer than the MTU, to an
-- attribute the link may write and within capacity, stores its data."
unfoldable pub silent : ℕ → Bool
silent op = eqb (op % 2) 1 || (eqb op 0x1E || eqb (op / 64 % 2) 1)

abbrev pub quietly : Reply → Reply
quietly r = doing Silence r.effect

unfoldable pub commanded : List View → List ℕ → List ℕ → Reply
commanded vs ns t = quietly (write vs (nth ns 0) t)

unfoldable pub command : List View → Link → ℕ → List ℕ → Reply
command vs l op p =
    let m = shape_means op (shape_of op) p in
    pick (eqb op 0x52 && (strict (op ∷ p) && leb (length (op ∷ p)) l.mtu)) (commanded vs m.numbers m.tail) (only Silence)

-- The reply to a packet of at least one byte.
unfoldable pub reply_to : List View → Link → List ℕ → Reply
reply_to vs l [] = only Silence
reply_to vs l (op ∷ p) = pick (silent op) (command vs l op p) (request vs l op p)

-- A legal MTU; and a sound link has one.
unfoldable pub mtu_ok : ℕ → Bool
mtu_ok mtu = leb 23 mtu && leb mtu 247

unfoldable pub link_ok : Link → Bool
link_ok l = mtu_ok l.mtu
