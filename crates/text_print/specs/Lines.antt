-- What a line holds after several texts, one behind the other.
use Rattle.std.specs.Prelude.{ℕ, ◌≡◌, List, [], ◌∷◌}
use Rattle.codec.specs.Buffer.{laid_at}
use Rattle.text_print.specs.Print.{placed}
use Rattle.text_print.specs.declared.Line.{Line}

-- the position behind the texts, and the line with them
unfoldable pub behind : List (List ℕ) → ℕ → List ℕ → ℕ
behind [] pos out = pos
behind (t ∷ ts) pos out = behind ts (placed pos t out) (laid_at pos t out)

unfoldable pub holding : List (List ℕ) → ℕ → List ℕ → List ℕ
holding [] pos out = out
holding (t ∷ ts) pos out = holding ts (placed pos t out) (laid_at pos t out)

-- a line in the same buffer, with the texts put behind what stood there
abbrev pub Puts : List (List ℕ) → Line → Line → Type 0
Puts texts old new =
    (new.out.ghost_name ≡ old.out.ghost_name)
    × (new.pos ≡ behind texts old.pos old.out.now)
    × (new.out.now ≡ holding texts old.pos old.out.now)
