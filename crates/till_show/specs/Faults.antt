-- What is said of a line that is no command, as the programs' page has it.
use Rattle.std.specs.Prelude.{ℕ, ◌≡◌, List}
use Rattle.codec.specs.Ascii.{ascii}
use Rattle.text_put.specs.Put.{complaint_texts}
use Rattle.text_put.specs.PutLaws.{Wrote}
use Rattle.till_read.specs.declared.Fault.{Fault}
use Rattle.till_read.specs.declared.Fault.TheVariants.{NotHex, UnknownCommand, MissingWord, TooManyWords, NotNumber, NotType, NotMarks, TooLong}

abbrev pub fault_text : Fault → List ℕ
fault_text NotHex = ascii "not hexadecimal"
fault_text UnknownCommand = ascii "unknown command"
fault_text MissingWord = ascii "missing word"
fault_text TooManyWords = ascii "too many words"
fault_text NotNumber = ascii "not a number"
fault_text NotType = ascii "not a type"
fault_text NotMarks = ascii "not marks"
fault_text TooLong = ascii "too long"

-- the text of a fault that is known
pub fault_as : (f g : Fault) (number pos : ℕ) (out : List ℕ) (r : ℕ) (w : List ℕ) → f ≡ g
    → Wrote (complaint_texts number (fault_text g)) pos out r w → Wrote (complaint_texts number (fault_text f)) pos out r w
fault_as f g number pos out r w e h = rw e h
