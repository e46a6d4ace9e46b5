-- What a person types for bytes and for numbers. HEX is an even number of hexadecimal digits of either case, with blanks
-- anywhere between them, or `-` for no bytes. A number is a run of digits, the most significant first; leading zeros are
-- allowed, and it has to fit.
use Rattle.std.specs.Prelude.{ℕ, ◌+◌, ◌-◌, ◌*◌, ◌%◌, Bool, true, false, not, ◌&&◌, List, [], ◌∷◌, Option, Some, None, Result, Ok, Err, map, filter, reverse, length, get_or, leb, ltb, eqb}
use Rattle.std.specs.List.{list_any, list_all}
use Rattle.codec.specs.Cases.{pick}
use Rattle.codec.specs.Buffer.{laid}
use Rattle.ble_uuid.specs.Uuids.{sliced}
use Rattle.ble_uuid.specs.declared.Uuid.{Uuid}
use Rattle.codec.specs.declared.Error.{Error}
use Rattle.text_hex.specs.declared.HexError.{HexError}
use Rattle.text_hex.specs.declared.HexError.TheVariants.{NotHex, TooLong}

-- a character's value as a digit: `0` to `9`, `A` to `F`, `a` to `f`; 16 for every other character
unfoldable pub digit : ℕ → ℕ
digit c =
    pick (leb 48 c && ltb c 58) (c - 48)
    (pick (leb 65 c && ltb c 71) (c - 55)
    (pick (leb 97 c && ltb c 103) (c - 87) 16))

-- the value of a digit of a base
abbrev pub digit_in : ℕ → ℕ → Option ℕ
digit_in base c = pick (ltb (digit c) base) (Some (digit c)) None

abbrev pub values : List ℕ → List ℕ
values cs = map digit cs

-- every value is a digit's of this base
unfoldable pub below : ℕ → List ℕ → Bool
below base [] = true
below base (v ∷ vs) = pick (ltb v base) (below base vs) false

-- the bytes of digits, two to a byte, the upper one first
unfoldable pub pairs : List ℕ → List ℕ
pairs [] = []
pairs (h ∷ []) = []
pairs (h ∷ l ∷ vs) = (h * 16 + l) ∷ pairs vs

-- a text without the characters that are passed over
unfoldable pub without : List ℕ → List ℕ → List ℕ
without passed cs = filter (λ c. not (list_any (λ d. eqb d c) passed)) cs

-- a blank is a space or a tab
abbrev pub unblanked : List ℕ → List ℕ
unblanked cs = without (32 ∷ 9 ∷ []) cs

abbrev pub is_dash : List ℕ → Bool
is_dash [] = false
is_dash (c ∷ []) = eqb c 45
is_dash (c ∷ d ∷ cs) = false

-- what a text means: bytes, or nothing where it cannot be read
abbrev pub digits_mean : List ℕ → Option (List ℕ)
digits_mean vs = pick (below 16 vs && eqb (length vs % 2) 0) (Some (pairs vs)) None

unfoldable pub hex_means : List ℕ → Option (List ℕ)
hex_means text = pick (is_dash (unblanked text)) (Some []) (digits_mean (values (unblanked text)))

-- the answer for a lent buffer, and what the buffer then holds: the bytes from its start on, or what it held before
abbrev pub answered : Option (List ℕ) → ℕ → Result ℕ HexError
answered None room = Err NotHex
answered (Some bytes) room = pick (leb (length bytes) room) (Ok (length bytes)) (Err TooLong)

abbrev pub filled : Option (List ℕ) → List ℕ → List ℕ
filled None out = out
filled (Some bytes) out = laid bytes out

-- the number that digits say in a base, behind what was read of it before
unfoldable pub numeral : ℕ → ℕ → List ℕ → ℕ
numeral base sofar [] = sofar
numeral base sofar (v ∷ vs) = numeral base (sofar * base + v) vs

-- a number of one digit or more that is at most `most`
unfoldable pub number_in : ℕ → ℕ → List ℕ → Option ℕ
number_in base most word =
    pick (ltb 0 (length word) && below base (values word) && leb (numeral base 0 (values word)) most)
    (Some (numeral base 0 (values word)))
    None

-- N fits 64 bits
abbrev pub decimal_of : List ℕ → Option ℕ
decimal_of word = number_in 10 18446744073709551615 word

-- HANDLE is 4 hexadecimal digits
unfoldable pub handle_of : List ℕ → Option ℕ
handle_of word = pick (eqb (length word) 4) (number_in 16 65535 word) None

-- TYPE is 4 or 8 hexadecimal digits, or the 36 characters of the usual form of a 128-bit UUID: 32 digits, with `-` as the
-- characters 8, 13, 18 and 23. So many bytes has a type of a word's outline.
abbrev pub hyphened : List ℕ → Bool
hyphened word = list_all (λ i. eqb (get_or word i 0) 45) (8 ∷ 13 ∷ 18 ∷ 23 ∷ [])

unfoldable pub outline : List ℕ → Option ℕ
outline word =
    pick (eqb (length word) 4) (Some 2)
    (pick (eqb (length word) 8) (Some 4)
    (pick (eqb (length word) 36 && hyphened word) (Some 16) None))

-- the bytes of a type, the least significant first; none where a word is no type
abbrev pub type_from : Option ℕ → Option (List ℕ) → List ℕ
type_from None meant = []
type_from (Some n) None = []
type_from (Some n) (Some bytes) = pick (eqb (length bytes) n) (reverse bytes) []

unfoldable pub type_bytes : List ℕ → List ℕ
type_bytes word = type_from (outline word) (digits_mean (values (without (45 ∷ []) word)))

-- as a UUID: no bytes are refused as one
abbrev pub type_of : List ℕ → Result Uuid Error
type_of word = sliced (type_bytes word)
