-- What the two walks over a HEX find: the next character that counts, and how many digits there are.
use Rattle.std.specs.Prelude.{ℕ, ◌+◌, ◌<◌, ◌≡◌, List, [], ◌∷◌, length, Option, Some, None}
use denote.Ref.{Bor}
use Rattle.codec.specs.Cases.{pick}
use Rattle.text_hex.specs.Hex.{values, below, without}

-- the first character that is not passed over, and what stands behind it; none where all are
abbrev pub Next : List ℕ → List ℕ → Option (ℕ × Bor (List ℕ)) → Type 0
Next passed text None = without passed text ≡ []
Next passed text (Some p) = (without passed text ≡ p.0 ∷ without passed p.1.now) × (length p.1.now < length text)

-- how many digits follow, behind n that were counted; the count of a whole text is from 0
abbrev pub scanned : ℕ → List ℕ → Option ℕ
scanned n ds = pick (below 16 (values ds)) (Some (n + length ds)) None
