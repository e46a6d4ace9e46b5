-- The texts of the replies on integers and UUIDs, one behind the other.
use Rattle.std.specs.Prelude.{ℕ, ◌*◌, ◌/◌, ◌%◌, List, [], ◌∷◌, ◌++◌, length, eqb, Result, Ok, Err}
use Rattle.codec.specs.Ascii.{ascii}
use Rattle.codec.specs.Cases.{pick}
use Rattle.codec.specs.declared.Error.{Error}
use Rattle.codec.specs.declared.Error.TheVariants.{InvalidValue}
use Rattle.primitives.specs.Numbers.{number_at, reading}
use Rattle.text_lines.specs.Words.{word_of}
use Rattle.text_print.specs.Print.{capitals}
use Rattle.text_decimal.specs.Decimal.{decimal_text}
use Rattle.text_put.specs.Put.{numbered, hexed, counting}
use Rattle.ble_uuid.specs.Uuids.{own, width_of, att_type, att_bytes, padded, short_of, sliced, uuid_of, equal}
use Rattle.ble_uuid.specs.declared.Raw.{Raw}
use Rattle.ble_uuid.specs.declared.Uuid.{Uuid}
use Rattle.replay_base.specs.Base.{said, refused_texts, double_text}

-- D: an integer that was read, or the refusal, and of which width by its letter, `b`, `w` or any other
abbrev pub number_said : {A : Type 0} → (A → List (List ℕ)) → Result A Error → List (List ℕ)
number_said digits (Ok v) = digits v
number_said digits (Err e) = refused_texts [] e

abbrev pub number_texts : {A : Type 0} → ℕ → (ℕ → A) → (A → List (List ℕ)) → List ℕ → List (List ℕ)
number_texts width of digits src = number_said digits (reading width (λ n. Ok (of n)) (Err InvalidValue) src)

abbrev pub byte_texts : List ℕ → List (List ℕ)
byte_texts src = number_texts 1 (λ n. n) (λ v. capitals (v ∷ []) ∷ []) src

abbrev pub word_texts : List ℕ → List (List ℕ)
word_texts src = number_texts 2 (λ n. n) (λ v. capitals (v / 256 ∷ v % 256 ∷ []) ∷ []) src

abbrev pub double_texts : List ℕ → List (List ℕ)
double_texts src = number_texts 4 (λ n. n) double_text src

abbrev pub decoded_texts : ℕ → List ℕ → List (List ℕ)
decoded_texts letter src = pick (eqb letter 98) (byte_texts src) (pick (eqb letter 119) (word_texts src) (double_texts src))

abbrev pub decoded_line : List ℕ → List (List ℕ)
decoded_line line = decoded_texts (number_at 1 0 (word_of 2 line)) (said 64 (word_of 3 line))

-- U: form, format, the bytes under the format and the own bytes, each with how many count, and the short form
abbrev pub bits_of : Uuid → ℕ
bits_of u = 8 * width_of u

abbrev pub raw_said : Raw → List (List ℕ)
raw_said r = hexed (ascii " ") r.bytes ++ counting (ascii "/") r.len

abbrev pub raw_texts : List ℕ → List (List ℕ)
raw_texts l = hexed (ascii " ") (padded l) ++ counting (ascii "/") (length l)

abbrev pub short_said : Result ℕ Error → List (List ℕ)
short_said (Ok v) = numbered (ascii " ") v
short_said (Err e) = refused_texts (ascii " ") e

abbrev pub uuid_texts : Uuid → List (List ℕ)
uuid_texts u =
    decimal_text (bits_of u)
    ∷ ascii " "
    ∷ decimal_text (att_type u)
    ∷ (raw_texts (att_bytes u) ++ (raw_texts (own u) ++ short_said (short_of u)))

abbrev pub uuid_said : Result Uuid Error → List (List ℕ)
uuid_said (Ok u) = uuid_texts u
uuid_said (Err e) = refused_texts [] e

abbrev pub uuid_line : List ℕ → List (List ℕ)
uuid_line line = uuid_said (sliced (said 64 (word_of 2 line)))

-- V: whether two UUIDs are equal
abbrev pub same_text : Uuid → Uuid → List ℕ
same_text a b = pick (equal a b) (ascii "equal") (ascii "different")

abbrev pub same_line : List ℕ → List (List ℕ)
same_line line = same_text (uuid_of (said 64 (word_of 2 line))) (uuid_of (said 64 (word_of 3 line))) ∷ []
