-- Where a line is cut: before its first blank, and before a CR at its end.
use Rattle.std.proofs.Common.{ℕ, zero, suc, ◌-◌, ◌+◌, ◌≡◌, refl, ap, ◌≤◌, ◌<◌, Bool, true, false, not, Some, None, List, [], ◌∷◌, length, take, drop, arith, get_or, cond}
use Rattle.std.specs.Prelude.{position}
use Rattle.std.specs.Option.{unwrap_or}
use Rattle.std.specs.List.{position_or_len}
use Rattle.std.proofs.lemmas.List.Sums.{prefix_len-le-length}
use borrow.Author.Tests.{lt-ltb, le-ltb, eq-eqb, ne_eqb}
use Rattle.std.proofs.Math.Dec.{ltb}
use Rattle.codec.specs.Cases.{pick}
use Rattle.text_lines.specs.Lines.{blank, uncarriaged}
use Rattle.text_lines.specs.Words.{front, behind, word_of, trimmed}

-- the word that a line begins with ends at the first blank, or with the line
end_of_word : (line : List ℕ) → unwrap_or (position blank line) (length line) ≡ position_or_len blank line
end_of_word line = by (position_or_len blank line) (prefix_len-le-length _ line)
  where
    by : (n : ℕ) → n ≤ length line → unwrap_or (cond (ltb n (length line)) (Some n) None) (length line) ≡ n
    by n h = grind (arith, lt-ltb, le-ltb)

to_blank : (line : List ℕ) → take (position_or_len blank line) line ≡ front line
unfolding front
to_blank [] = refl
to_blank (c ∷ cs) = by (blank c) (to_blank cs)
  where
    by : (b : Bool) → take (position_or_len blank cs) cs ≡ front cs → take (cond (not b) (1 + position_or_len blank cs) 0) (c ∷ cs) ≡ pick b [] (c ∷ front cs)
    by true h = refl
    by false h = grind arith

from_blank : (line : List ℕ) → drop (position_or_len blank line) line ≡ behind line
unfolding behind
from_blank [] = refl
from_blank (c ∷ cs) = by (blank c) (from_blank cs)
  where
    by : (b : Bool) → drop (position_or_len blank cs) cs ≡ behind cs → drop (cond (not b) (1 + position_or_len blank cs) 0) (c ∷ cs) ≡ pick b (c ∷ cs) (behind cs)
    by true h = refl
    by false h = grind arith

pub word_cut : (line : List ℕ) → take (unwrap_or (position blank line) (length line)) line ≡ front line
word_cut line = rw (end_of_word line) (to_blank line)

pub rest_cut : (line : List ℕ) → drop (unwrap_or (position blank line) (length line)) line ≡ behind line
rest_cut line = rw (end_of_word line) (from_blank line)

-- a line that ends with CR, and one that does not
cr_ends : (line : List ℕ) (n : ℕ) → length line ≡ suc n → get_or line n 0 ≡ 13 → take n line ≡ uncarriaged line
unfolding uncarriaged
cr_ends [] n h e = absurd (omega arith)
cr_ends (c ∷ []) zero h e = rw (eq-eqb c 13 e)
cr_ends (c ∷ []) (suc n) h e = absurd (omega arith)
cr_ends (c ∷ d ∷ cs) zero h e = absurd (omega arith)
cr_ends (c ∷ d ∷ cs) (suc n) h e = ap (λ (l : List ℕ). c ∷ l) (cr_ends (d ∷ cs) n (omega arith) e)

other_ends : (line : List ℕ) (n : ℕ) → length line ≡ suc n → (get_or line n 0 ≡ 13 → ⊥) → line ≡ uncarriaged line
unfolding uncarriaged
other_ends [] n h e = absurd (omega arith)
other_ends (c ∷ []) zero h e = rw (ne_eqb c 13 e)
other_ends (c ∷ []) (suc n) h e = absurd (omega arith)
other_ends (c ∷ d ∷ cs) zero h e = absurd (omega arith)
other_ends (c ∷ d ∷ cs) (suc n) h e = ap (λ (l : List ℕ). c ∷ l) (other_ends (d ∷ cs) n (omega arith) e)

pub without_cr : (line : List ℕ) → 1 ≤ length line → get_or line (length line - 1) 0 ≡ 13 → take (length line - 1) line ≡ uncarriaged line
without_cr line h e = cr_ends line (length line - 1) (omega arith) e

pub no_cr : (line : List ℕ) → (1 ≤ length line → get_or line (length line - 1) 0 ≡ 13 → ⊥) → line ≡ uncarriaged line
unfolding uncarriaged
no_cr [] h = refl
no_cr (c ∷ cs) h = other_ends (c ∷ cs) (length (c ∷ cs) - 1) (omega arith) (h (omega arith))

-- behind `n` words, and at the word asked for
pub word_passed : (k n : ℕ) (line : List ℕ) → n < k → word_of (k - (n + 1)) (behind (trimmed line)) ≡ word_of (k - n) line
unfolding word_of
word_passed k n line h = let e : k - n ≡ suc (k - (n + 1)) = omega arith in rw e

pub word_here : (k n : ℕ) (line : List ℕ) → k ≤ n → front (trimmed line) ≡ word_of (k - n) line
unfolding word_of
word_here k n line h = let e : k - n ≡ 0 = omega arith in rw e
