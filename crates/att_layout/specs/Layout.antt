-- What a shown packet is written as (document 01, "Packets"): the opcode and its fixed fields, by their widths, and what follows them.
use Rattle.std.specs.Prelude.{ℕ, List, [], ◌∷◌, ◌++◌, length}
use Rattle.codec.specs.Cases.{pick, same}
use Rattle.primitives.specs.Numbers.{bytes_of}
use Rattle.ble_uuid.specs.declared.Uuid.{Uuid}
use Rattle.att.specs.Wire as wire
use Rattle.att.specs.Wire.{shape_of, sent_fields}
use Rattle.att.specs.Typed.{Shown, span, nth}
use Rattle.att.specs.declared.Span.{Span}
use Rattle.att_layout.specs.declared.Fields.{Fields}
use Rattle.att_layout.specs.declared.Fields.TheVariants.{Bare, Byte, Word, Pair, Triple, Error}
use Rattle.att_layout.specs.declared.Follows.{Follows}
use Rattle.att_layout.specs.declared.Follows.TheVariants.{Nothing, Data, Items, AUuid}
use Rattle.att_layout.specs.declared.Layout.{Layout}

-- the bytes of the fixed fields, and with the opcode before them
abbrev pub field_bytes : Fields → List ℕ
field_bytes Bare = []
field_bytes (Byte v) = bytes_of 1 v
field_bytes (Word v) = bytes_of 2 v
field_bytes (Pair v w) = bytes_of 2 v ++ bytes_of 2 w
field_bytes (Triple v w x) = bytes_of 2 v ++ (bytes_of 2 w ++ bytes_of 2 x)
field_bytes (Error r h c) = bytes_of 1 r ++ (bytes_of 2 h ++ bytes_of 1 c)

abbrev pub head_bytes : ℕ → Fields → List ℕ
head_bytes op f = bytes_of 1 op ++ field_bytes f

-- the fields of these widths with these numbers
abbrev pub fields_of : List ℕ → List ℕ → Fields
fields_of ws ns =
    pick (same ws (1 ∷ [])) (Byte (nth ns 0))
    (pick (same ws (2 ∷ [])) (Word (nth ns 0))
    (pick (same ws (2 ∷ 2 ∷ [])) (Pair (nth ns 0) (nth ns 1))
    (pick (same ws (2 ∷ 2 ∷ 2 ∷ [])) (Triple (nth ns 0) (nth ns 1) (nth ns 2))
    (pick (same ws (1 ∷ 2 ∷ 1 ∷ [])) (Error (nth ns 0) (nth ns 1) (nth ns 2)) Bare))))

abbrev pub plain : ℕ → Fields → ℕ → Layout
plain op f n = record { opcode = op; fields = f; len = n; follows = Nothing; part = span 0 0 }

abbrev pub followed_by : Follows → Span → Layout → Layout
followed_by f d l = record { opcode = l.opcode; fields = l.fields; len = l.len; follows = f; part = d }

-- an opcode with fixed fields of these widths and numbers
abbrev pub head_of : ℕ → List ℕ → List ℕ → List ℕ
head_of op ws ns = op ∷ sent_fields ws ns

abbrev pub fixed_of : ℕ → List ℕ → List ℕ → Layout
fixed_of op ws ns = plain op (fields_of ws ns) (length (head_of op ws ns))

-- no packet is one whose items have no length
abbrev pub follows_of : wire.Tail → List ℕ → Uuid → Follows
follows_of wire.Ends ns u = Nothing
follows_of wire.Rest ns u = Data
follows_of wire.Handles ns u = Data
follows_of wire.AUuid ns u = AUuid u
follows_of (wire.Items each least) ns u = Items (each ns)
follows_of wire.NoPacket ns u = Items 0

abbrev pub shown_head : Shown → List ℕ
shown_head s = head_of s.opcode (shape_of s.opcode).fields s.numbers

unfoldable pub layout_of : Shown → Layout
layout_of s =
    followed_by (follows_of (shape_of s.opcode).tail s.numbers s.uuid) s.part
    (fixed_of s.opcode (shape_of s.opcode).fields s.numbers)
