-- Laws of reading at a position: each answer where there are enough bytes and where there are not.
use Rattle.std.specs.Prelude.{ℕ, ◌+◌, ◌-◌, ◌≤◌, ◌<◌, ◌≡◌, refl, Bool, true, false, List, [], length, take, drop, leb, Result, Ok, Err}
use Rattle.std.proofs.Common.{sym, ap, ◌∙◌, arith, drop_of_length-le, le-leb, leb-true, leb-false}
use Rattle.std.proofs.lemmas.Bool.{lt-leb}
use Rattle.codec.specs.Cases.{pick}
use Rattle.codec.specs.CasesLaws.{impossible}
use Rattle.codec.specs.BufferLaws.{part_whole}
use Rattle.primitives.specs.Numbers.{number_at}
use Rattle.codec.specs.declared.Error.{Error}
use Rattle.codec.specs.declared.Error.TheVariants.{InvalidValue}
use Rattle.cursor.specs.Position.{moving}
use Rattle.cursor.proofs.PositionLaws.{gives, went, stayed}
use Rattle.cursor.specs.Reading.{read_at, sliced, rest}

-- what a read answers, once over the width, by what `forward` answered
module _ {A : Type 0} (width : ℕ) (value : ℕ → ℕ → A) (refused : A) (pos : ℕ) (src : List ℕ) {r : Result ℕ Error} (told : r ≡ moving pos (length src) width) where
  pub read_went : (v next : ℕ) → r ≡ Ok next → v ≡ number_at width pos src → value v next ≡ read_at width value refused pos src
  read_went v next g e = let h = went pos (length src) width next g told in rw (le-leb _ _ h.1, e, h.0)

  pub read_stayed : (e : Error) → r ≡ Err e → refused ≡ read_at width value refused pos src
  read_stayed e g = rw (lt-leb _ _ (stayed pos (length src) width e g told).1)

-- what a read answers, and what that tells the one who got it, once over the width
abbrev pub came : ℕ → ℕ → Result (ℕ × ℕ) Error
came v next = Ok (v, next)

abbrev number_in : Result (ℕ × ℕ) Error → ℕ
number_in (Ok p) = p.0
number_in (Err e) = 0

abbrev place_in : Result (ℕ × ℕ) Error → ℕ
place_in (Ok p) = p.1
place_in (Err e) = 0

abbrev pub reads : ℕ → ℕ → List ℕ → Result (ℕ × ℕ) Error
reads width pos src = read_at width came (Err InvalidValue) pos src

pub got : {r : Result (ℕ × ℕ) Error} (width pos : ℕ) (src : List ℕ) (v next : ℕ) → r ≡ came v next → r ≡ reads width pos src
    → (pos + width ≤ length src) × (v ≡ number_at width pos src) × (next ≡ pos + width)
got width pos src v next g f = by (leb (pos + width) (length src)) refl (sym g ∙ f) where
  by : (t : Bool) → leb (pos + width) (length src) ≡ t
      → came v next ≡ pick t (came (number_at width pos src) (pos + width)) (Err InvalidValue)
      → (pos + width ≤ length src) × (v ≡ number_at width pos src) × (next ≡ pos + width)
  by true h e = (leb-true _ _ h, ap number_in e, ap place_in e)
  by false h e = impossible (cc)

pub not_got : {r : Result (ℕ × ℕ) Error} (width pos : ℕ) (src : List ℕ) (e : Error) → r ≡ Err e → r ≡ reads width pos src
    → length src < pos + width
not_got width pos src u g f = by (leb (pos + width) (length src)) refl (sym g ∙ f) where
  by : (t : Bool) → leb (pos + width) (length src) ≡ t
      → Err u ≡ pick t (came (number_at width pos src) (pos + width)) (Err InvalidValue) → length src < pos + width
  by true h e = impossible (cc)
  by false h e = leb-false _ _ h

-- a part up to the next position
pub slice_whole : (pos n next : ℕ) (src : List ℕ) → (next ≡ pos + n) × (pos + n ≤ length src)
    → take (next - pos) (drop pos src) ≡ sliced pos src n
slice_whole pos n next src h = rw (h.0, part_whole pos n src) (sym (gives pos (length src) n (take n (drop pos src)) h.1))

-- the rest is what is left after the position, past the end too
pub rest_drop : (pos : ℕ) (src : List ℕ) → rest pos src ≡ drop pos src
rest_drop pos src = by (leb (pos + 0) (length src)) refl where
  by : (t : Bool) → leb (pos + 0) (length src) ≡ t → pick t (drop pos src) [] ≡ drop pos src
  by true h = refl
  by false h = sym (drop_of_length-le src {i = pos} (let k = leb-false (pos + 0) (length src) h in omega arith))
