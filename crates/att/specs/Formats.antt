-- The formats of Find Information Response (3.4.3.2): 1 for 16-bit UUIDs, 2 for 128-bit ones.
use Rattle.std.specs.Prelude.{ℕ, eqb, Result, Ok, Err}
use Rattle.codec.specs.Cases.{pick}
use Rattle.codec.specs.declared.Error.{Error}
use Rattle.codec.specs.declared.Error.TheVariants.{InvalidValue}
use Rattle.att.specs.declared.FindInformationUuidFormat.{FindInformationUuidFormat}
use Rattle.att.specs.declared.FindInformationUuidFormat.TheVariants.{Uuid16, Uuid128}

abbrev pub format_number : FindInformationUuidFormat → ℕ
format_number Uuid16 = 1
format_number Uuid128 = 2

-- of a number that is one; a packet with another does not decode
abbrev pub format_of : ℕ → FindInformationUuidFormat
format_of n = pick (eqb n 2) Uuid128 Uuid16

-- of any number, and the length of the pairs of a format: the item length of 05
abbrev pub format_in : ℕ → Result FindInformationUuidFormat Error
format_in n = pick (eqb n 1) (Ok Uuid16) (pick (eqb n 2) (Ok Uuid128) (Err InvalidValue))

abbrev pub pair_length : FindInformationUuidFormat → ℕ
pair_length Uuid16 = 4
pair_length Uuid128 = 18
