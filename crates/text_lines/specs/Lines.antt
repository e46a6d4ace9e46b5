-- The lines of a program's input. A line ends with LF; one CR before the end is ignored. Blank lines, and lines whose first
-- character other than a blank is `#`, are passed over. A line longer than its room is one error, a comment too. Lines are
-- counted from 1, all of them.
use Rattle.std.specs.Prelude.{ℕ, ◌+◌, ◌-◌, ◌^◌, min, Bool, true, false, ◌||◌, List, [], ◌∷◌, Some, None, length, take, set, leb, ltb, eqb}
use Rattle.codec.specs.Cases.{pick}
use Rattle.text_lines.specs.declared.Lines.{Lines}
use Rattle.text_lines.specs.declared.Seen.{Seen}
use Rattle.text_lines.specs.declared.Seen.TheVariants.{Line, TooLong, Passed}
use Rattle.text_lines.specs.declared.Stepped.{Stepped}

-- a blank is a space or a tab
abbrev pub blank : ℕ → Bool
blank c = eqb c 32 || eqb c 9

-- a line without the CR at its end
unfoldable pub uncarriaged : List ℕ → List ℕ
uncarriaged [] = []
uncarriaged (c ∷ []) = pick (eqb c 13) [] (c ∷ [])
uncarriaged (c ∷ d ∷ cs) = c ∷ uncarriaged (d ∷ cs)

-- a blank line, or a comment
unfoldable pub silent : List ℕ → Bool
silent [] = true
silent (c ∷ cs) = pick (blank c) (silent cs) (eqb c 35)

-- what a whole line is, where at most `room` characters are allowed
abbrev pub seen_of : ℕ → List ℕ → Seen
seen_of room line = pick (leb (length line) room) (pick (silent line) Passed (Line (length line))) TooLong

-- a line at its end: the lent buffer holds its characters, unless there were more than it has room for. The buffer has one
-- place more than a line may have characters, for the CR.
unfoldable pub judged : Lines → List ℕ → Seen
judged lines buf = pick lines.long TooLong (seen_of (length buf - 1) (uncarriaged (take lines.len buf)))

-- the next line's number, while there is one
abbrev pub following : ℕ → ℕ
following n = min (n + 1) (2 ^ 64 - 1)

unfoldable pub end_of : Lines → List ℕ → Stepped
end_of lines buf =
    record { lines = record { len = 0; long = false; number = following lines.number }; seen = Some (judged lines buf); number = lines.number }

abbrev pub reading_of : Lines → ℕ → Bool → Stepped
reading_of lines n long = record { lines = record { len = n; long = long; number = lines.number }; seen = None; number = lines.number }

-- a character: LF ends the line, and any other is kept while there is room
unfoldable pub step_of : Lines → ℕ → List ℕ → Stepped
step_of lines c buf =
    pick (eqb c 10) (end_of lines buf)
    (pick (ltb lines.len (length buf)) (reading_of lines (lines.len + 1) lines.long) (reading_of lines lines.len true))

unfoldable pub held_after : Lines → ℕ → List ℕ → List ℕ
held_after lines c buf = pick (eqb c 10) buf (set buf lines.len c)

-- the end of the input: a last line without LF counts, if it has a character
unfoldable pub last_of : Lines → List ℕ → Stepped
last_of lines buf = pick (lines.long || ltb 0 lines.len) (end_of lines buf) (reading_of lines lines.len lines.long)
