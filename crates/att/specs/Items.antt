-- The items of 05, 07, 09 and 11 (3.4.3.2, 3.4.3.4, 3.4.4.2, 3.4.4.10): consecutive stretches of one length, from the first byte
-- behind the fixed fields on. What is left behind the last whole one is no item.
use Rattle.std.specs.Prelude.{ℕ, zero, suc, ◌/◌, List, [], ◌∷◌, ◌++◌, length, take, drop}
use Rattle.att.specs.Wire.{Tail, Ends, Rest, Handles, AUuid, Items, NoPacket, Meaning, shape_of}

-- the first `n` stretches of `each` bytes
abbrev pub stretches : ℕ → ℕ → List ℕ → List (List ℕ)
stretches zero each l = []
stretches (suc n) each l = take each l ∷ stretches n each (drop each l)

unfoldable pub items : ℕ → List ℕ → List (List ℕ)
items each l = stretches (length l / each) each l

abbrev pub joined : List (List ℕ) → List ℕ
joined [] = []
joined (x ∷ xs) = x ++ joined xs

-- the length of a packet's items, 0 where it has none
abbrev pub each_of : Tail → List ℕ → ℕ
each_of Ends ns = 0
each_of Rest ns = 0
each_of Handles ns = 0
each_of AUuid ns = 0
each_of (Items each least) ns = each ns
each_of NoPacket ns = 0

-- the items that a packet means
unfoldable pub items_of : Meaning → List (List ℕ)
items_of m = items (each_of (shape_of m.opcode).tail m.numbers) m.tail
