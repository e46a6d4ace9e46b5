-- What the words of a request say, and the words of a refusal and of a number of four bytes.
use Rattle.std.specs.Prelude.{ℕ, ◌/◌, ◌%◌, List, [], ◌∷◌, ◌++◌, Option, Some, None, length, leb, reverse, take, drop, replicate}
use Rattle.std.specs.Result.{result_unwrap_or}
use Rattle.codec.specs.Ascii.{ascii}
use Rattle.codec.specs.Cases.{pick}
use Rattle.codec.specs.Refusals.{refusal_number, refusal_of}
use Rattle.codec.specs.declared.Error.{Error}
use Rattle.text_put.specs.Put.{counting}
use Rattle.text_hex.specs.Hex.{hex_means, answered, filled}
use Rattle.text_print.specs.Print.{capitals}

-- the bytes of a HEX; none where a word is no HEX or has more than `k` of them
abbrev pub said_by : ℕ → Option (List ℕ) → List ℕ
said_by k None = []
said_by k (Some bytes) = pick (leb (length bytes) k) bytes []

abbrev pub said : ℕ → List ℕ → List ℕ
said k word = said_by k (hex_means word)

-- the first n bytes turned round
abbrev pub turned : ℕ → List ℕ → List ℕ
turned n b = pick (leb n 4) (reverse (take n b) ++ drop n b) b

abbrev pub little_of : List ℕ → List ℕ
little_of word = turned (result_unwrap_or (answered (hex_means word) 4) 0) (filled (hex_means word) (replicate 4 0))

-- `!1` or `!2`, behind a text
abbrev pub refused_texts : List ℕ → Error → List (List ℕ)
refused_texts name e = name ∷ counting (ascii "!") (refusal_number (refusal_of e))

-- a number of four bytes, as 8 digits
abbrev pub double_text : ℕ → List (List ℕ)
double_text v = capitals (v / 65536 / 256 ∷ v / 65536 % 256 ∷ []) ∷ capitals (v % 65536 / 256 ∷ v % 65536 % 256 ∷ []) ∷ []
