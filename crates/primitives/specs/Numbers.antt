-- Integers in packets are little-endian (Core Specification, Volume 3 Part F, 3.3.1), at any width in bytes.
use Rattle.std.specs.Prelude.{ℕ, zero, suc, ◌+◌, ◌*◌, ◌/◌, ◌%◌, ◌<◌, List, [], ◌∷◌, length, take, drop, leb}
use Rattle.codec.specs.Cases.{pick}

-- the `width` bytes of a number
abbrev pub bytes_of : ℕ → ℕ → List ℕ
bytes_of zero v = []
bytes_of (suc width) v = v % 256 ∷ bytes_of width (v / 256)

-- the number of some bytes
abbrev pub number_of : List ℕ → ℕ
number_of [] = 0
number_of (b ∷ bs) = b + 256 * number_of bs

-- the number in the `width` bytes from `at` on; what lies past the end counts as nothing
abbrev pub number_at : ℕ → ℕ → List ℕ → ℕ
number_at width at l = number_of (take width (drop at l))

-- how many numbers there are of a width, and what makes a list one of bytes
abbrev pub limit : ℕ → ℕ
limit zero = 1
limit (suc width) = 256 * limit width

abbrev pub Octets : List ℕ → Type 0
Octets [] = Unit
Octets (b ∷ bs) = (b < 256) × Octets bs

-- what reading a number of a width from the start of some bytes answers
abbrev pub reading : {A : Type 0} → ℕ → (ℕ → A) → A → List ℕ → A
reading width value refused src = pick (leb width (length src)) (value (number_at width 0 src)) refused
