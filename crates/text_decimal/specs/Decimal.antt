-- A number in decimal, without padding (document 01, "Error texts": in decimal), by the digits of the kit's book on numbers as text.
use Rattle.std.specs.Prelude.{ℕ, zero, suc, ◌/◌, List, ltb}
use Rattle.io.specs.Digits.{last_digits}
use Rattle.codec.specs.Cases.{pick}

-- how many decimal digits a number of at most 1 + f digits has
unfoldable pub width : ℕ → ℕ → ℕ
width zero n = 1
width (suc f) n = pick (ltb n 10) 1 (suc (width f (n / 10)))

-- of a number of 64 bits
unfoldable pub decimal_text : ℕ → List ℕ
decimal_text n = last_digits 10 (width 20 n) n
