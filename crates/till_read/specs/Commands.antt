-- A line of `till` as a command, or what is wrong with it.
use Rattle.std.specs.Prelude.{ℕ, Bool, List, length, leb, eqb, Option, Some, None, Result, Ok, Err}
use Rattle.std.specs.Option.{ok_or}
use Rattle.attributes.specs.declared.Addition.{Addition}
use Rattle.attributes.specs.declared.Room.{Room}
use Rattle.attributes.specs.declared.Room.TheVariants as room
use Rattle.ble_uuid.specs.declared.Uuid.{Uuid}
use Rattle.codec.specs.Ascii.{ascii}
use Rattle.codec.specs.Cases.{pick, same}
use Rattle.codec.specs.declared.Error.{Error}
use Rattle.text_hex.specs.Hex.{hex_means, answered, filled, decimal_of, handle_of, type_of}
use Rattle.text_hex.specs.declared.HexError.{HexError}
use Rattle.text_hex.specs.declared.HexError.TheVariants as hex
use Rattle.text_lines.specs.Words.{word_of, member, marks_of}
use Rattle.till_read.specs.declared.Command.{Command}
use Rattle.till_read.specs.declared.Command.TheVariants as command
use Rattle.till_read.specs.declared.Fault.{Fault}
use Rattle.till_read.specs.declared.Fault.TheVariants as fault
use Rattle.till_read.specs.declared.Name.{Name}
use Rattle.till_read.specs.declared.Name.TheVariants as name

-- a word is read and the rest behind it; where it can't be read, its fault is the answer
abbrev pub after : {A B : Type 0} → Result A Fault → (A → Result B Fault) → Result B Fault
after (Ok a) rest = rest a
after (Err f) rest = Err f

-- a value where a test holds, or else a fault
abbrev pub where_set : {A : Type 0} → Bool → Fault → A → Result A Fault
where_set b f a = pick b (Ok a) (Err f)

-- the command that a word names
unfoldable pub name_of : List ℕ → Option Name
name_of w =
    pick (same w (ascii "fixed")) (Some name.Fixed)
    (pick (same w (ascii "live")) (Some name.Live)
    (pick (same w (ascii "table")) (Some name.Table)
    (pick (same w (ascii "add")) (Some name.Add)
    (pick (same w (ascii "store")) (Some name.Store)
    (pick (same w (ascii "lookup")) (Some name.Lookup)
    (pick (same w (ascii "link")) (Some name.Link)
    (pick (same w (ascii "output")) (Some name.Output)
    (pick (same w (ascii "send")) (Some name.Send)
    (pick (same w (ascii "show")) (Some name.Show) None)))))))))

-- the number of the last word that a command must have, its name being 0, and of the first that is one too many
abbrev pub last_of : Name → ℕ
last_of name.Fixed = 1
last_of name.Live = 1
last_of name.Table = 0
last_of name.Add = 4
last_of name.Store = 2
last_of name.Lookup = 1
last_of name.Link = 2
last_of name.Output = 1
last_of name.Send = 1
last_of name.Show = 0

abbrev pub behind_of : Name → ℕ
behind_of name.Fixed = 2
behind_of name.Live = 2
behind_of name.Table = 1
behind_of name.Add = 7
behind_of name.Store = 3
behind_of name.Lookup = 2
behind_of name.Link = 3
behind_of name.Output = 2
behind_of name.Send = 2
behind_of name.Show = 1

-- by these two words: one that is not there is empty
unfoldable pub counted : List ℕ → ℕ → ℕ → Result Unit Fault
counted line last behind =
    pick (eqb (length (word_of last line)) 0) (Err fault.MissingWord) (where_set (eqb (length (word_of behind line)) 0) fault.TooManyWords tt)

-- the word with the number k as a number; the first as a number of up to `most`, and as a handle; the second as a type
abbrev pub number_at : ℕ → List ℕ → Result ℕ Fault
number_at k line = ok_or (decimal_of (word_of k line)) fault.NotNumber

abbrev pub len_at : ℕ → List ℕ → Result ℕ Fault
len_at most line = after (number_at 1 line) (λ n. where_set (leb n most) fault.TooLong n)

abbrev pub handle_at : List ℕ → Result ℕ Fault
handle_at line = ok_or (handle_of (word_of 1 line)) fault.NotHex

abbrev pub typed : Result Uuid Error → Result Uuid Fault
typed (Ok u) = Ok u
typed (Err e) = Err fault.NotType

abbrev pub kind_at : List ℕ → Result Uuid Fault
kind_at line = typed (type_of (word_of 2 line))

-- a word is MARKS of these letters
abbrev pub marked : List ℕ → List ℕ → Result Unit Fault
marked letters word = where_set (marks_of letters word) fault.NotMarks tt

-- how many bytes, up to `most`, the word with the number k has as a HEX for so many lent bytes
abbrev pub fault_of : HexError → Fault
fault_of hex.NotHex = fault.NotHex
fault_of hex.TooLong = fault.TooLong

abbrev pub hex_by : ℕ → Result ℕ HexError → Result ℕ Fault
hex_by most (Ok n) = where_set (leb n most) fault.TooLong n
hex_by most (Err e) = Err (fault_of e)

abbrev pub hex_at : ℕ → ℕ → List ℕ → ℕ → Result ℕ Fault
hex_at k most line n = hex_by most (answered (hex_means (word_of k line)) n)

-- `link MTU MARKS`
abbrev pub link_of : List ℕ → Result Command Fault
link_of line =
    after (number_at 1 line) (λ n.
    after (marked (ascii "ex") (word_of 2 line)) (λ _.
    where_set (leb n 65535) fault.NotNumber (command.NewLink n (member 101 (word_of 2 line)) (member 120 (word_of 2 line)))))

-- `fixed AT LEN` or `live CAPACITY` behind `add HANDLE TYPE MARKS`
abbrev pub room_of : List ℕ → Result Room Fault
room_of line =
    pick (same (word_of 4 line) (ascii "fixed"))
    (after (counted line 6 7) (λ _. after (number_at 5 line) (λ at. after (number_at 6 line) (λ len. Ok (room.Fixed at len)))))
    (pick (same (word_of 4 line) (ascii "live"))
    (after (counted line 5 6) (λ _. after (number_at 5 line) (λ capacity. Ok (room.Live capacity))))
    (Err fault.UnknownCommand))

-- `add HANDLE TYPE MARKS ..`
abbrev pub addition : ℕ → Uuid → List ℕ → Room → Addition
addition h u marks r = record {
  handle = h;
  kind = u;
  readable = member 114 marks;
  writable = member 119 marks;
  read_encrypted = member 82 marks;
  write_encrypted = member 87 marks;
  room = r;
}

abbrev pub addition_of : List ℕ → Result Addition Fault
addition_of line =
    after (handle_at line) (λ h.
    after (kind_at line) (λ u.
    after (marked (ascii "rwRW") (word_of 3 line)) (λ _.
    after (room_of line) (λ r. Ok (addition h u (word_of 3 line) r)))))

-- `store HANDLE HEX`
abbrev pub store_of : List ℕ → ℕ → Result Command Fault
store_of line n = after (handle_at line) (λ h. after (hex_at 2 8192 line n) (λ len. Ok (command.Store h len)))

-- a line of a name and as many words as its command takes, for so many lent bytes; and what these hold then
unfoldable pub words_of : Name → List ℕ → ℕ → Result Command Fault
words_of name.Fixed line n = after (hex_at 1 4096 line n) (λ len. Ok (command.Fixed len))
words_of name.Live line n = after (len_at 40000 line) (λ len. Ok (command.Live len))
words_of name.Table line n = Ok command.NewTable
words_of name.Add line n = after (addition_of line) (λ a. Ok (command.Add a))
words_of name.Store line n = store_of line n
words_of name.Lookup line n = after (handle_at line) (λ h. Ok (command.Lookup h))
words_of name.Link line n = link_of line
words_of name.Output line n = after (len_at 1024 line) (λ len. Ok (command.Output len))
words_of name.Send line n = after (hex_at 1 8192 line n) (λ len. Ok (command.Send len))
words_of name.Show line n = Ok command.Show

unfoldable pub words_bytes : Name → List ℕ → List ℕ → List ℕ
words_bytes name.Fixed line b = filled (hex_means (word_of 1 line)) b
words_bytes name.Store line b = filled (hex_means (word_of 2 line)) b
words_bytes name.Send line b = filled (hex_means (word_of 1 line)) b
words_bytes _ line b = b

-- a line that is neither blank nor a comment: its name, if it has as many words as its command takes
abbrev pub named : List ℕ → Result Name Fault
named line =
    after (ok_or (name_of (word_of 0 line)) fault.UnknownCommand) (λ w. after (counted line (last_of w) (behind_of w)) (λ _. Ok w))

abbrev pub bytes_by : Result Name Fault → List ℕ → List ℕ → List ℕ
bytes_by (Ok w) line b = words_bytes w line b
bytes_by (Err f) line b = b

unfoldable pub read_of : List ℕ → ℕ → Result Command Fault
read_of line n = after (named line) (λ w. words_of w line n)

unfoldable pub read_bytes : List ℕ → List ℕ → List ℕ
read_bytes line b = bytes_by (named line) line b
