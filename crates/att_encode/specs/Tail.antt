-- What is sent behind a packet's fixed fields (document 01, "Packets" and "Refusal numbers"): data ranges and values are tested, and
-- what is left is a part of the received bytes or the UUID's bytes on air. The size and the encoding both go by this.
use Rattle.std.specs.Prelude.{ℕ, ◌+◌, ◌^◌, List, [], ◌++◌, length, take, leb, ltb, Option, Some, None}
use Rattle.codec.specs.Cases.{pick}
use Rattle.ble_uuid.specs.Uuids.{on_air}
use Rattle.ble_uuid.specs.declared.Uuid.{Uuid}
use Rattle.att.specs.Wire.{uuid_length, whole, Coded, Sent, NotSent}
use Rattle.att.specs.Typed.{part_ok, part_of}
use Rattle.att_layout.specs.declared.Follows.{Follows}
use Rattle.att_layout.specs.declared.Follows.TheVariants.{Nothing, Data, Items, AUuid}
use Rattle.att_layout.specs.declared.Layout.{Layout}

-- an incomplete last item is dropped; only a UUID of 2 or 16 bytes is sent
abbrev pub whole_part : ℕ → List ℕ → Option (List ℕ)
whole_part each d = pick (leb 2 each) (Some (take (whole (length d) each) d)) None

abbrev pub sent_uuid : Uuid → Option (List ℕ)
sent_uuid u = pick (uuid_length (length (on_air u))) (Some (on_air u)) None

-- the bytes that follow, where `d` are those of the packet's range
abbrev pub following : Follows → List ℕ → Option (List ℕ)
following Nothing d = Some []
following Data d = Some d
following (Items each) d = whole_part each d
following (AUuid u) d = sent_uuid u

-- with the `n` bytes of opcode and fixed fields they make a length that the machine can count
abbrev pub counted : ℕ → Option (List ℕ) → Option (List ℕ)
counted n None = None
counted n (Some t) = pick (ltb (n + length t) (2 ^ 64)) (Some t) None

unfoldable pub tail_bytes : Layout → List ℕ → Option (List ℕ)
tail_bytes l src = pick (part_ok l.part src) (counted l.len (following l.follows (part_of l.part src))) None

-- what is sent of a head with what follows it
abbrev pub coded : List ℕ → Option (List ℕ) → Coded
coded head None = NotSent
coded head (Some t) = Sent (head ++ t)
