-- What a program prints: bytes as hexadecimal digits in capitals, `-` for no bytes; numbers of one and two bytes as 2 and 4
-- digits; decimal numbers; types. A text is printed whole at a position of a lent line, or not at all.
use Rattle.std.specs.Prelude.{ℕ, ◌+◌, ◌/◌, ◌%◌, List, [], ◌∷◌, ◌++◌, reverse, length, take, drop, replicate, leb, ltb}
use Rattle.codec.specs.Cases.{pick}
use Rattle.codec.specs.Buffer.{laid_at}
use Rattle.ble_uuid.specs.declared.Uuid.{Uuid}
use Rattle.ble_uuid.specs.declared.Uuid.TheVariants.{Uuid16, Uuid32, Uuid128}

-- the position behind a text that was printed at `pos`. Where it does not fit, it is the largest number, at which nothing
-- more fits: so one test at a line's end shows whether all of the line stands there.
abbrev pub placed : ℕ → List ℕ → List ℕ → ℕ
placed pos text out = pick (leb (pos + length text) (length out)) (pos + length text) 18446744073709551615

-- `0` to `9`, `A` to `F`
abbrev pub glyph : ℕ → ℕ
glyph d = pick (ltb d 10) (48 + d) (55 + d)

abbrev pub two : ℕ → List ℕ
two b = glyph (b / 16) ∷ glyph (b % 16) ∷ []

unfoldable pub capitals : List ℕ → List ℕ
capitals [] = []
capitals (b ∷ bs) = two b ++ capitals bs

-- HEX, as it is printed
abbrev pub hex_text : List ℕ → List ℕ
hex_text [] = 45 ∷ []
hex_text (b ∷ bs) = capitals (b ∷ bs)

-- the usual form of a 128-bit UUID, from its sixteen bytes, the most significant first: 36 characters `-`, with the digits of
-- 4, 2, 2, 2 and 6 bytes laid over them
unfoldable pub usual_text : List ℕ → List ℕ
usual_text b =
    laid_at 24 (capitals (take 6 (drop 10 b)))
    (laid_at 19 (capitals (take 2 (drop 8 b)))
    (laid_at 14 (capitals (take 2 (drop 6 b)))
    (laid_at 9 (capitals (take 2 (drop 4 b)))
    (laid_at 0 (capitals (take 4 b)) (replicate 36 45)))))

-- TYPE, as it is printed: the most significant byte first
abbrev pub type_text : Uuid → List ℕ
type_text (Uuid16 b) = capitals (reverse b)
type_text (Uuid32 b) = capitals (reverse b)
type_text (Uuid128 b) = usual_text (reverse b)
