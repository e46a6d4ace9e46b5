-- Document 01, "Cursors": writing at a position. What the buffer then holds is `laid_at` of the codec's Buffer: the bytes are
-- written whole or not at all.
use Rattle.std.specs.Prelude.{ℕ, List, length, take, drop, leb, Result}
use Rattle.codec.specs.Cases.{pick}
use Rattle.codec.specs.Buffer.{over}
use Rattle.cursor.specs.Position.{moving, parted}
use Rattle.codec.specs.declared.Error.{Error}

-- `append`, and `write` of a number's bytes
abbrev pub writing : ℕ → List ℕ → List ℕ → Result ℕ Error
writing pos out bytes = moving pos (length out) (length bytes)

-- `truncate`: the minimum
abbrev pub truncated : ℕ → ℕ → ℕ
truncated pos npos = pick (leb pos npos) pos npos

-- `split(n)` "compares n with what is available but cuts from the buffer's start"
abbrev pub split_first : ℕ → List ℕ → ℕ → List ℕ
split_first pos out n = parted pos (length out) n (take n out)

abbrev pub split_second : ℕ → List ℕ → ℕ → List ℕ
split_second pos out n = parted pos (length out) n (drop n out)

-- `finish`: the bytes before the position
abbrev pub finished : ℕ → List ℕ → List ℕ
finished pos out = parted pos (length out) 0 (take pos out)

-- what `write_buf` lends, once the encoder of the next field has filled it
abbrev pub filled : ℕ → List ℕ → List ℕ → List ℕ
filled pos out bytes = parted pos (length out) (length bytes) (over bytes (drop pos out))
