-- Document 01, "Refusal numbers": the number and the name of each row.
use Rattle.std.specs.Prelude.{ℕ, List}
use Rattle.codec.specs.Ascii.{ascii}
use Rattle.codec.specs.declared.Error.{Error}
use Rattle.codec.specs.declared.Error.TheVariants as error
use Rattle.codec.specs.declared.Refusal.{Refusal}
use Rattle.codec.specs.declared.Refusal.TheVariants.{InsufficientSpace, InvalidValue, TableFull, BadHandle, BadType, BadValue, NoRoom, UnknownHandle, NotStorable, TooLong, BadTable, BadLink}

abbrev pub refusal_number : Refusal → ℕ
refusal_number InsufficientSpace = 1
refusal_number InvalidValue = 2
refusal_number TableFull = 3
refusal_number BadHandle = 4
refusal_number BadType = 5
refusal_number BadValue = 6
refusal_number NoRoom = 7
refusal_number UnknownHandle = 8
refusal_number NotStorable = 9
refusal_number TooLong = 10
refusal_number BadTable = 11
refusal_number BadLink = 12

abbrev pub name_of : Refusal → List ℕ
name_of InsufficientSpace = ascii "InsufficientSpace"
name_of InvalidValue = ascii "InvalidValue"
name_of TableFull = ascii "TableFull"
name_of BadHandle = ascii "BadHandle"
name_of BadType = ascii "BadType"
name_of BadValue = ascii "BadValue"
name_of NoRoom = ascii "NoRoom"
name_of UnknownHandle = ascii "UnknownHandle"
name_of NotStorable = ascii "NotStorable"
name_of TooLong = ascii "TooLong"
name_of BadTable = ascii "BadTable"
name_of BadLink = ascii "BadLink"

-- the row of an error of the codec
abbrev pub refusal_of : Error → Refusal
refusal_of error.InsufficientSpace = InsufficientSpace
refusal_of error.InvalidValue = InvalidValue
