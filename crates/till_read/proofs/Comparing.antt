-- What a word is compared with a text by, in the steps of a `match` on the word: its length, then a character after the other.
use Rattle.std.specs.Prelude.{ℕ, suc, ◌≡◌, ◌<◌, refl, Bool, true, false, ◌&&◌, List, [], ◌∷◌, length, eqb, slice_index_or}
use Rattle.std.proofs.Common.{arith, ne_eqb}
use Rattle.std.proofs.Math.Bool.{and-false}
use Rattle.codec.specs.Cases.{same}

-- the characters from `k` on
abbrev pub each_at : List ℕ → ℕ → List ℕ → Bool
each_at w k [] = true
each_at w k (y ∷ ys) = eqb (slice_index_or w k 0) y && each_at w (suc k) ys

later : (x : ℕ) (w : List ℕ) (k : ℕ) (t : List ℕ) → each_at (x ∷ w) (suc k) t ≡ each_at w k t
later x w k [] = refl
later x w k (y ∷ ys) = rw (later x w (suc k) ys)

one_more : (a b : ℕ) → eqb (suc a) (suc b) ≡ eqb a b
one_more a b = grind arith

swapped : (a b c : Bool) → (a && (b && c)) ≡ (b && (a && c))
swapped true b c = refl
swapped false true c = refl
swapped false false c = refl

pub same_at : (w t : List ℕ) → same w t ≡ (eqb (length w) (length t) && each_at w 0 t)
same_at [] [] = refl
same_at [] (y ∷ ys) = rw (ne_eqb 0 (suc (length ys)) (λ e. absurd (omega arith)))
same_at (x ∷ xs) [] = rw (ne_eqb (suc (length xs)) 0 (λ e. absurd (omega arith)))
same_at (x ∷ xs) (y ∷ ys) =
    rw (one_more (length xs) (length ys), later x xs 0 ys, same_at xs ys) (swapped (eqb x y) (eqb (length xs) (length ys)) (each_at xs 0 ys))

pub shorter : (w t : List ℕ) → length w < length t → same w t ≡ false
shorter w t h = rw (same_at w t, ne_eqb (length w) (length t) (λ e. absurd (omega arith)))

pub longer : (w t : List ℕ) → length t < length w → same w t ≡ false
longer w t h = rw (same_at w t, ne_eqb (length w) (length t) (λ e. absurd (omega arith)))

pub other_first : (w t : List ℕ) → (slice_index_or w 0 0 ≡ slice_index_or t 0 0 → ⊥) → same w t ≡ false
other_first [] [] h = absurd (h refl)
other_first [] (y ∷ ys) h = refl
other_first (x ∷ xs) [] h = refl
other_first (x ∷ xs) (y ∷ ys) h = rw (ne_eqb x y h)

pub other_second : (w t : List ℕ) → (slice_index_or w 1 0 ≡ slice_index_or t 1 0 → ⊥) → same w t ≡ false
other_second [] [] h = absurd (h refl)
other_second [] (y ∷ ys) h = refl
other_second (x ∷ xs) [] h = refl
other_second (x ∷ xs) (y ∷ ys) h = rw (other_first xs ys h) (and-false (eqb x y))

pub ruleset compared = (same_at, shorter, longer, other_first, other_second)
