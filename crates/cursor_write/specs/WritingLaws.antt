-- Laws of writing at a position. Each has the shape of what a proof over the writing cursor is asked for.
use Rattle.std.specs.Prelude.{ℕ, ◌+◌, ◌-◌, ◌≤◌, ◌<◌, ◌≡◌, refl, List, ◌++◌, length, take, drop, Result, Ok, Err}
use Rattle.std.proofs.Common.{ap, ◌∙◌, arith, length-drop, take-append-drop, take_at, drop_at, length-take-le, le-leb}
use Rattle.std.proofs.lemmas.Bool.{lt-leb}
use Rattle.codec.specs.Buffer.{over, laid, over_at, laid_at}
use Rattle.codec.specs.BufferLaws.{to_the_end, lent_back}
use Rattle.codec.specs.declared.Error.{Error}
use Rattle.primitives.specs.Numbers.{bytes_of, number_at, limit}
use Rattle.primitives.specs.NumbersLaws.{length_bytes, number_bytes}
use Rattle.cursor.specs.Position.{moving, parted}
use Rattle.cursor.proofs.PositionLaws.{went, stayed}
use Rattle.cursor.specs.Reading.{rest}
use Rattle.cursor.proofs.ReadingLaws.{rest_drop}
use Rattle.cursor_write.specs.Writing.{writing, filled, split_first, split_second}

-- a part from the buffer's start
pub front_whole : (pos n k : ℕ) (out : List ℕ) → pos + n ≤ length out → take (k - 0) out ≡ parted pos (length out) n (take k out)
front_whole pos n k out h = let e : k - 0 ≡ k = omega arith in rw (e, le-leb _ _ h)

laid_over : (bytes out : List ℕ) → length bytes ≤ length out → laid bytes out ≡ over bytes out
laid_over bytes out h = rw (le-leb _ _ h)

-- What a write answers and leaves, once over its bytes, by what `forward` answered: the part from the position on was lent, and came
-- back with the bytes laid over it; or nothing was written.
module _ (pos : ℕ) (bytes out : List ℕ) {r : Result ℕ Error} (told : r ≡ moving pos (length out) (length bytes)) where
  pub write_went : (next : ℕ) (w : List ℕ) → r ≡ Ok next → w ≡ laid bytes (take (length out - pos) (drop pos out))
      → (Ok next ≡ writing pos out bytes) × (take pos out ++ (w ++ drop (length out - pos) (drop pos out)) ≡ laid_at pos bytes out)
  write_went next w g e =
      let h = went pos (length out) (length bytes) next g told in
      let k : length bytes ≤ length (take (length out - pos) (drop pos out)) = rw (to_the_end pos out, length-drop) (omega (arith, h.1)) in
      let b = lent_back bytes out w pos (e ∙ laid_over bytes _ k) in
      rw (le-leb _ _ h.1) (ap Ok h.0, b)

  pub write_stayed : (e : Error) → r ≡ Err e → (Err e ≡ writing pos out bytes) × (out ≡ laid_at pos bytes out)
  write_stayed e g = let h = stayed pos (length out) (length bytes) e g told in rw (lt-leb _ _ h.1) (ap Err h.0, refl)

-- the rest was lent whole, and came back with the bytes laid over it
pub fill_whole : (pos : ℕ) (bytes out lent w : List ℕ) → pos + length bytes ≤ length out → lent ≡ rest pos out → w ≡ laid bytes lent
    → w ≡ filled pos out bytes
fill_whole pos bytes out lent w h e f =
    let d : lent ≡ drop pos out = e ∙ rest_drop pos out in
    let k : length bytes ≤ length lent = rw (d, length-drop) (omega arith) in
    f ∙ laid_over bytes lent k ∙ rw (le-leb _ _ h, d)

-- a split that is not refused is the whole buffer in two parts
pub split_joins : (pos n : ℕ) (out : List ℕ) → pos + n ≤ length out → split_first pos out n ++ split_second pos out n ≡ out
split_joins pos n out h = rw (le-leb _ _ h, take-append-drop n out)

-- a number that was written at a position is read there
pub read_back : (width pos v : ℕ) (out : List ℕ) → pos ≤ length out → v < limit width → number_at width pos (over_at pos (bytes_of width v) out) ≡ v
read_back width pos v out h k =
    rw (
      drop_at (take pos out) (over (bytes_of width v) (drop pos out)) pos (length-take-le pos out h),
      take_at (bytes_of width v) (drop (length (bytes_of width v)) (drop pos out)) width (length_bytes width v),
      number_bytes width v k,
    )
