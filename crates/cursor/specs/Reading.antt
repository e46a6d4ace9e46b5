-- Document 01, "Cursors": reading at a position. A refused call keeps the position: the caller has its own still.
use Rattle.std.specs.Prelude.{ℕ, ◌+◌, List, length, take, drop}
use Rattle.codec.specs.Cases.{pick}
use Rattle.primitives.specs.Numbers.{number_at}
use Rattle.cursor.specs.Position.{enough, parted}

-- `read` of a number of a width: the number and the position behind it, or the refusal
abbrev pub read_at : {A : Type 0} → ℕ → (ℕ → ℕ → A) → A → ℕ → List ℕ → A
read_at width value refused pos src = pick (enough pos (length src) width) (value (number_at width pos src) (pos + width)) refused

-- `slice` and `consume`: n bytes from the position on
abbrev pub sliced : ℕ → List ℕ → ℕ → List ℕ
sliced pos src n = parted pos (length src) n (take n (drop pos src))

-- `remaining`, and what `write_buf` lends: the bytes from the position on
abbrev pub rest : ℕ → List ℕ → List ℕ
rest pos src = parted pos (length src) 0 (drop pos src)
