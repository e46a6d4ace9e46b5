-- The texts that programs put on a line.
use Rattle.std.specs.Prelude.{ℕ, ◌/◌, ◌%◌, List, [], ◌∷◌, length, take, leb}
use Rattle.codec.specs.Ascii.{ascii}
use Rattle.codec.specs.Cases.{pick}
use Rattle.codec.specs.Refusals.{refusal_number, name_of}
use Rattle.codec.specs.declared.Refusal.{Refusal}
use Rattle.ble_uuid.specs.declared.Uuid.{Uuid}
use Rattle.text_print.specs.Print.{capitals, hex_text, type_text}
use Rattle.text_decimal.specs.Decimal.{decimal_text}

-- the first `n` bytes, or none where there are fewer
abbrev pub first_of : ℕ → List ℕ → List ℕ
first_of n bytes = pick (leb n (length bytes)) (take n bytes) []

-- a text, and behind it a number of one byte, of two bytes, or in decimal; bytes in HEX; a TYPE
abbrev pub byted : List ℕ → ℕ → List (List ℕ)
byted name v = name ∷ capitals (v ∷ []) ∷ []

abbrev pub numbered : List ℕ → ℕ → List (List ℕ)
numbered name v = name ∷ capitals (v / 256 ∷ v % 256 ∷ []) ∷ []

abbrev pub counting : List ℕ → ℕ → List (List ℕ)
counting name v = name ∷ decimal_text v ∷ []

abbrev pub hexed : List ℕ → List ℕ → List (List ℕ)
hexed name bytes = name ∷ hex_text bytes ∷ []

abbrev pub typed : List ℕ → Uuid → List (List ℕ)
typed name u = name ∷ type_text u ∷ []

-- `refused NUMBER NAME`
abbrev pub refusal : Refusal → List (List ℕ)
refusal r = ascii "refused " ∷ decimal_text (refusal_number r) ∷ ascii " " ∷ name_of r ∷ []

-- `error line K: WHAT`
abbrev pub complaint_texts : ℕ → List ℕ → List (List ℕ)
complaint_texts number what = ascii "error line " ∷ decimal_text number ∷ ascii ": " ∷ what ∷ []
