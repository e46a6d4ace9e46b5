-- Document 01, "Cursors": the part that `slice` and `consume` hand back, or the refusal.
use Rattle.std.specs.Prelude.{ℕ, List, length, take, drop, Result, Ok, Err}
use Rattle.std.specs.Borrow.{Bor}
use Rattle.codec.specs.Cases.{pick}
use Rattle.codec.specs.declared.Error.{Error}
use Rattle.codec.specs.declared.Error.TheVariants.{InsufficientSpace}
use Rattle.cursor.specs.Position.{enough}

-- the bytes of a part that was lent
abbrev pub part_of : Result (Bor (List ℕ)) Error → Result (List ℕ) Error
part_of (Ok part) = Ok part.now
part_of (Err e) = Err e

abbrev pub slicing : ℕ → List ℕ → ℕ → Result (List ℕ) Error
slicing pos src n = pick (enough pos (length src) n) (Ok (take n (drop pos src))) (Err InsufficientSpace)
