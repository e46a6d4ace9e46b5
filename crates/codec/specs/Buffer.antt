-- What a lent buffer holds after a call that writes bytes into it, and what that call answers: the bytes are written whole
-- or not at all, and every other byte of the buffer stays.
use Rattle.std.specs.Prelude.{Result, Ok, Err, ℕ, ◌+◌, List, ◌++◌, length, take, drop, leb}
use Rattle.codec.specs.Cases.{pick}
use Rattle.codec.specs.declared.Error.{Error}
use Rattle.codec.specs.declared.Error.TheVariants.{InsufficientSpace}

-- `out` with `bytes` laid over its start
abbrev pub over : List ℕ → List ℕ → List ℕ
over bytes out = bytes ++ drop (length bytes) out

abbrev pub laid : List ℕ → List ℕ → List ℕ
laid bytes out = pick (leb (length bytes) (length out)) (over bytes out) out

abbrev pub written : List ℕ → List ℕ → Result ℕ Error
written bytes out = pick (leb (length bytes) (length out)) (Ok (length bytes)) (Err InsufficientSpace)

-- The same from a position on: what stands before it stays. A position past the end has no room, not even for no bytes.
abbrev pub over_at : ℕ → List ℕ → List ℕ → List ℕ
over_at pos bytes out = take pos out ++ over bytes (drop pos out)

abbrev pub laid_at : ℕ → List ℕ → List ℕ → List ℕ
laid_at pos bytes out = pick (leb (pos + length bytes) (length out)) (over_at pos bytes out) out
