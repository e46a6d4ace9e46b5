-- The laws of bytes and numbers, once over the width: a number's bytes and the number of bytes are each the inverse of the
-- other within the width.
use Rattle.std.specs.Prelude.{ℕ, zero, suc, ◌+◌, ◌*◌, ◌/◌, ◌%◌, ◌≤◌, ◌<◌, ◌≡◌, refl, List, [], ◌∷◌, ◌++◌, length, take, drop, get_or}
use Rattle.std.proofs.Common.{ap, ◌∙◌, mod-lt, mod-eq_of_lt, mul-add, mul_assoc, add-one, arith, drop_of_length-le, length-drop, drop-cons, take-add, drop-drop, length-take-le, le-leb}
use Rattle.std.proofs.Math.Nat.{div-add-mod}
use Rattle.std.proofs.Math.Seq.{take-nil}
use Rattle.std.proofs.lemmas.Bool.{lt-leb}
use Rattle.primitives.specs.Numbers.{bytes_of, number_of, number_at, limit, Octets, reading}

pub length_bytes : (width v : ℕ) → length (bytes_of width v) ≡ width
length_bytes zero v = refl
length_bytes (suc width) v = ap suc (length_bytes width (v / 256))

-- a byte is its own byte
pub byte_itself : (v : ℕ) → v < 256 → bytes_of 1 v ≡ v ∷ []
byte_itself v h = rw (mod-eq_of_lt h)

pub octets_bytes : (width v : ℕ) → Octets (bytes_of width v)
octets_bytes zero v = tt
octets_bytes (suc width) v = (mod-lt v (omega arith), octets_bytes width (v / 256))

-- the number of a number's bytes is that number
pub number_bytes : (width v : ℕ) → v < limit width → number_of (bytes_of width v) ≡ v
number_bytes zero v h = omega arith
number_bytes (suc width) v h =
    let e : number_of (bytes_of width (v / 256)) ≡ v / 256 = number_bytes width (v / 256) (omega (arith, div-add-mod v 256)) in
    rw e (omega (arith, div-add-mod v 256))

-- the bytes of the number of some bytes are those bytes
pub bytes_number : (l : List ℕ) → Octets l → bytes_of (length l) (number_of l) ≡ l
bytes_number [] o = refl
bytes_number (b ∷ bs) o =
    let r : (b + 256 * number_of bs) % 256 ≡ b = omega (arith, o.0) in
    let q : (b + 256 * number_of bs) / 256 ≡ number_of bs = omega (arith, o.0) in
    rw (r, q, bytes_number bs o.1)

pub number_limit : (l : List ℕ) → Octets l → number_of l < limit (length l)
number_limit [] o = omega arith
number_limit (b ∷ bs) o = omega (arith, number_limit bs o.1, o.0)

-- lists of bytes, in parts and joined
pub octets_take : (n : ℕ) (l : List ℕ) → Octets l → Octets (take n l)
octets_take zero l o = tt
octets_take (suc n) [] o = tt
octets_take (suc n) (b ∷ bs) o = (o.0, octets_take n bs o.1)

pub octets_drop : (n : ℕ) (l : List ℕ) → Octets l → Octets (drop n l)
octets_drop zero l o = o
octets_drop (suc n) [] o = tt
octets_drop (suc n) (b ∷ bs) o = octets_drop n bs o.1

pub octets_append : (a b : List ℕ) → Octets a → Octets b → Octets (a ++ b)
octets_append [] b o p = p
octets_append (x ∷ xs) b o p = (o.0, octets_append xs b o.1 p)

-- the `width` bytes from `at` on, one by one, as code reads them
abbrev pub each : ℕ → ℕ → List ℕ → List ℕ
each zero at l = []
each (suc width) at l = get_or l at 0 ∷ each width (at + 1) l

pub take_each : (width at : ℕ) (l : List ℕ) → at + width ≤ length l → take width (drop at l) ≡ each width at l
take_each zero at l h = refl
take_each (suc width) at l h = rw (drop-cons l at 0 (omega arith), ← add-one at, take_each width (at + 1) l (omega arith))

-- a number at a place: of whole width, past the end, and of one byte alone at the end
pub number_each : (width at : ℕ) (l : List ℕ) → at + width ≤ length l → number_at width at l ≡ number_of (each width at l)
number_each width at l h = ap number_of (take_each width at l h)

pub number_past : (width at : ℕ) (l : List ℕ) → length l ≤ at → number_at width at l ≡ 0
number_past width at l h = rw (drop_of_length-le l h, take-nil)

pub number_last : (width at : ℕ) (l : List ℕ) → at + 1 ≡ length l → number_at (suc width) at l ≡ get_or l at 0 + 256 * 0
number_last width at l h = rw (drop-cons l at 0 (omega arith), ← add-one at, drop_of_length-le l {i = at + 1} (omega arith), take-nil {A = ℕ} width)

-- a number in two parts: the later bytes count by what the earlier ones can hold
pub number_append : (a b : List ℕ) → number_of (a ++ b) ≡ number_of a + limit (length a) * number_of b
number_append [] b = omega arith
number_append (x ∷ xs) b = rw (number_append xs b, mul-add, mul_assoc) (omega arith)

pub number_split : (a b at : ℕ) (l : List ℕ) → at + a ≤ length l → number_at (a + b) at l ≡ number_at a at l + limit a * number_at b (at + a) l
number_split a b at l h =
    let e : length (take a (drop at l)) ≡ a = length-take-le a (drop at l) (simp length-drop (omega arith)) in
    rw (take-add a b (drop at l), number_append (take a (drop at l)) (take b (drop a (drop at l))), e, drop-drop)

-- a number of four bytes in its halves, wherever the list ends
pub halves : (l : List ℕ) → number_of (take 4 l) ≡ number_of (take 2 l) + 65536 * number_of (take 2 (drop 2 l))
halves [] = refl
halves (x ∷ []) = omega arith
halves (x ∷ y ∷ r) = omega arith

pub number_halves : (at : ℕ) (l : List ℕ) → number_at 4 at l ≡ number_at 2 at l + 65536 * number_at 2 (at + 2) l
number_halves at l = halves (drop at l) ∙ rw drop-drop

-- the two answers of reading a number
pub short : {A : Type 0} (width : ℕ) (value : ℕ → A) (refused : A) (src : List ℕ) → length src < width
    → refused ≡ reading width value refused src
short width value refused src h = rw (lt-leb _ _ h)

pub whole : {A : Type 0} (width : ℕ) (value : ℕ → A) (refused : A) (src : List ℕ) (n : ℕ) → width ≤ length src → n ≡ number_at width 0 src
    → value n ≡ reading width value refused src
whole width value refused src n h e = rw (le-leb _ _ h) (ap value e)
