-- Document 01's column "Decodes" for a number of bytes of fixed fields and a kind of tail: what the functions that rows share are
-- proved equal to. The rows themselves are in Wire.antt and Typed.antt of `att`, and every reader is proved equal to its row.
use Rattle.std.specs.Prelude.{ℕ, ◌&&◌, List, [], length, drop, leb, Result, Ok, Err}
use Rattle.codec.specs.Cases.{pick}
use Rattle.codec.specs.declared.Error.{Error}
use Rattle.codec.specs.declared.Error.TheVariants.{InvalidValue}
use Rattle.ble_uuid.specs.Uuids.{uuid_of}
use Rattle.ble_uuid.specs.declared.Uuid.{Uuid}
use Rattle.att.specs.Wire.{Tail, AUuid, tail_decodes}
use Rattle.att.specs.Typed.{Parsed, refusal, part_of, part_ok}
use Rattle.att.specs.declared.Span.{Span}

-- the answer to a payload with `fixed` bytes of fields and then a tail, of which `ns` are the numbers of the fields
abbrev pub answered : Tail → List ℕ → ℕ → List ℕ → Parsed → Parsed
answered t ns fixed p a = pick (tail_decodes t ns (drop fixed p) && leb fixed (length p)) a refusal

-- the UUID behind start and end
abbrev pub carried : List ℕ → Result Uuid Error
carried p = pick (tail_decodes AUuid [] (drop 4 p) && leb 4 (length p)) (Ok (uuid_of (drop 4 p))) (Err InvalidValue)

-- a data field's bytes, and their number: refused where its range does not lie within the received bytes
abbrev pub field : Span → List ℕ → List ℕ
field d src = pick (part_ok d src) (part_of d src) []

abbrev pub field_length : Span → List ℕ → Result ℕ Error
field_length d src = pick (part_ok d src) (Ok d.len) (Err InvalidValue)
