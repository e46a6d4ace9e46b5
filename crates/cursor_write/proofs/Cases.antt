-- Document 01, "Cursors": "with 10 bytes at position 4, 6 gives parts of 6 and 4, and 7 is refused"; and at the end exactly, none of
-- the bytes and all of them.
use Prim.Native.Nat.{ℕ}
use mathlib.Core.Path.{◌≡◌, refl}
use mathlib.Core.List.{List}
use lib.ListN.{length, length-drop}
use lib.Seq.{length-take-le}
use native.Mathlib.Omega.{arith}
use Rattle.codec.specs.declared.Error.TheVariants.{InsufficientSpace}
use Rattle.cursor.specs.Position.{parting}
use Rattle.std.specs.Prelude.{Ok, Err}
use Rattle.cursor_write.specs.Writing.{split_first, split_second}

pub six_and_four : (out : List ℕ) → length out ≡ 10
    → (length (split_first 4 out 6) ≡ 6) × (length (split_second 4 out 6) ≡ 4) × (parting 4 (length out) 7 ≡ Err InsufficientSpace)
six_and_four out e = rw e (length-take-le 6 out (omega arith), rw (length-drop, e) refl, refl)

pub none_and_all : (out : List ℕ) → length out ≡ 10
    → (parting 10 (length out) 0 ≡ Ok tt) × (length (split_first 10 out 0) ≡ 0) × (length (split_second 10 out 0) ≡ 10)
none_and_all out e = rw e (refl, refl, e)
