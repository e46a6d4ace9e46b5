-- The words of a line: its runs of characters that are not blanks. And marks: letters of a given set, each at most once.
use Rattle.std.specs.Prelude.{ℕ, zero, suc, Bool, true, false, ◌||◌, List, [], ◌∷◌, eqb}
use Rattle.std.specs.List.{list_any}
use Rattle.codec.specs.Cases.{pick}
use Rattle.text_lines.specs.Lines.{blank}

-- a line from its first word on; the first word of such a line; what stands behind that word
unfoldable pub trimmed : List ℕ → List ℕ
trimmed [] = []
trimmed (c ∷ cs) = pick (blank c) (trimmed cs) (c ∷ cs)

unfoldable pub front : List ℕ → List ℕ
front [] = []
front (c ∷ cs) = pick (blank c) [] (c ∷ front cs)

unfoldable pub behind : List ℕ → List ℕ
behind [] = []
behind (c ∷ cs) = pick (blank c) (c ∷ cs) (behind cs)

-- the word with the number `k`, counted from 0; empty where there are fewer words
unfoldable pub word_of : ℕ → List ℕ → List ℕ
word_of zero line = front (trimmed line)
word_of (suc k) line = word_of k (behind (trimmed line))

-- whether a character stands in a word
abbrev pub member : ℕ → List ℕ → Bool
member c w = list_any (λ d. eqb d c) w

-- each character is one of the letters, and stands there once
unfoldable pub each_once : List ℕ → List ℕ → Bool
each_once letters [] = true
each_once letters (c ∷ cs) = pick (member c letters) (pick (member c cs) false (each_once letters cs)) false

-- MARKS: letters, or `-` for none
abbrev pub is_dash : List ℕ → Bool
is_dash [] = false
is_dash (c ∷ []) = eqb c 45
is_dash (c ∷ d ∷ cs) = false

unfoldable pub marks_of : List ℕ → List ℕ → Bool
marks_of letters word = is_dash word || each_once letters word
