-- Document 01's column "Strict" for a number of bytes of fixed fields and a kind of tail: what the functions that rows share are
-- proved equal to. The rows themselves are in Wire.antt of `att`.
use Rattle.std.specs.Prelude.{ℕ, Bool, ◌&&◌, List, length, drop, leb}
use Rattle.att.specs.Wire.{Tail, tail_strict}

-- a payload of `fixed` bytes of fields and then a tail, of which `ns` are the numbers of the fields
abbrev pub exact : Tail → List ℕ → ℕ → List ℕ → Bool
exact t ns fixed p = tail_strict t ns (drop fixed p) && leb fixed (length p)
