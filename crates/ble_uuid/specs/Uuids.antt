-- UUIDs (document 01, "UUIDs"; Core Specification, Volume 3 Part F, 3.2.1): the three forms, the bytes of each, and when two
-- are equal. A UUID's own length is 2, 4 or 16, and never the 6, 8 or 20 of the Rust's `Uuid::size`.
use Rattle.std.specs.Prelude.{ℕ, Bool, List, [], ◌∷◌, ◌++◌, length, take, replicate, Result, Ok, Err}
use Rattle.codec.specs.Buffer.{over}
use Rattle.codec.specs.Cases.{lookup, same}
use Rattle.codec.specs.declared.Error.{Error}
use Rattle.codec.specs.declared.Error.TheVariants.{InvalidValue}
use Rattle.primitives.specs.Numbers.{bytes_of, number_of}
use Rattle.ble_uuid.specs.declared.Uuid.{Uuid}
use Rattle.ble_uuid.specs.declared.Uuid.TheVariants.{Uuid16, Uuid32, Uuid128}
use Rattle.ble_uuid.specs.declared.Raw.{Raw}

-- how many own bytes the form has
abbrev pub width_of : Uuid → ℕ
width_of (Uuid16 b) = 2
width_of (Uuid32 b) = 4
width_of (Uuid128 b) = 16

-- the array that the form holds
abbrev pub array_of : Uuid → List ℕ
array_of (Uuid16 b) = b
array_of (Uuid32 b) = b
array_of (Uuid128 b) = b

-- the form's own bytes: its array, which in code is as long as the form is wide
abbrev pub own : Uuid → List ℕ
own u = take (width_of u) (array_of u)

-- what a packet carries of a UUID
unfoldable pub on_air : Uuid → List ℕ
on_air u = own u

-- Two UUIDs are equal when form and the form's own bytes are equal. The forms' own bytes have different lengths, so equal
-- own bytes are those of one form (`forms_equal` of UuidsLaws.antt) and the test needs the bytes alone.
unfoldable pub equal_types : List ℕ → List ℕ → Bool
equal_types a b = same a b

abbrev pub equal : Uuid → Uuid → Bool
equal a b = equal_types (own a) (own b)

-- sixteen bytes: those given, and 00 behind them
abbrev pub zeros : List ℕ
zeros = replicate 16 0

abbrev pub padded : List ℕ → List ℕ
padded l = over l zeros

abbrev pub raw_of : List ℕ → Raw
raw_of l = record { bytes = padded l; len = length l }

-- the UUIDs of numbers and of sixteen bytes
abbrev pub short : ℕ → Uuid
short v = Uuid16 (bytes_of 2 v)

abbrev pub wide : ℕ → Uuid
wide v = Uuid32 (bytes_of 4 v)

abbrev pub long : List ℕ → Uuid
long l = Uuid128 l

-- the 16-bit 0000, which stands where there is no UUID
abbrev pub no_uuid : Uuid
no_uuid = Uuid16 (replicate 2 0)

-- 2, 4 or 16 bytes; any other length is InvalidValue
abbrev pub lengths : List ℕ → List (ℕ × Result Uuid Error)
lengths l = (2, Ok (Uuid16 l)) ∷ (4, Ok (Uuid32 l)) ∷ (16, Ok (Uuid128 l)) ∷ []

unfoldable pub sliced : List ℕ → Result Uuid Error
sliced l = lookup (length l) (lengths l) (Err InvalidValue)

-- the UUID of bytes that are one
abbrev pub uuid_or : Result Uuid Error → Uuid
uuid_or (Ok u) = u
uuid_or (Err e) = no_uuid

abbrev pub uuid_of : List ℕ → Uuid
uuid_of l = uuid_or (sliced l)

-- the number of a 16-bit form; another form is InvalidValue
abbrev pub short_of : Uuid → Result ℕ Error
short_of (Uuid16 b) = Ok (number_of (own (Uuid16 b)))
short_of (Uuid32 b) = Err InvalidValue
short_of (Uuid128 b) = Err InvalidValue

-- the format of Find Information Response (3.4.3.2)
abbrev pub att_type : Uuid → ℕ
att_type (Uuid16 b) = 1
att_type (Uuid32 b) = 2
att_type (Uuid128 b) = 2

-- the Bluetooth base: a 32-bit value's four bytes follow these twelve
abbrev pub base : List ℕ
base = 0xFB ∷ 0x34 ∷ 0x9B ∷ 0x5F ∷ 0x80 ∷ 0x00 ∷ 0x00 ∷ 0x80 ∷ 0x00 ∷ 0x10 ∷ 0x00 ∷ 0x00 ∷ []

-- the bytes under the format
abbrev pub att_bytes : Uuid → List ℕ
att_bytes (Uuid16 b) = own (Uuid16 b)
att_bytes (Uuid32 b) = base ++ own (Uuid32 b)
att_bytes (Uuid128 b) = own (Uuid128 b)
