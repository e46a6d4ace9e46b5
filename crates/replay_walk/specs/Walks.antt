-- The words of a walk: where its steps end, what stands between and behind their answers, and where a jump leads.
use Rattle.std.specs.Prelude.{ℕ, ◌+◌, ◌-◌, Bool, true, List, [], ◌∷◌, ◌++◌, eqb, ltb}
use Rattle.codec.specs.Ascii.{ascii}
use Rattle.codec.specs.Cases.{pick}
use Rattle.cursor.specs.Position.{left}
use Rattle.text_put.specs.Put.{counting}

-- no word, or one that begins with `=`
abbrev pub end_of : List ℕ → Bool
end_of [] = true
end_of (c ∷ cs) = eqb c 61

-- a blank behind what stands there, none at the line's start
abbrev pub joint : ℕ → List (List ℕ)
joint at = pick (eqb at 0) [] ((32 ∷ []) ∷ [])

-- the position n bytes on, where it is not past the end
abbrev pub jumped_to : ℕ → ℕ → ℕ → ℕ
jumped_to pos len n = pick (ltb len pos) pos (pick (ltb (18446744073709551615 - pos) n) pos (pos + n))

-- `@POSITION/AVAILABLE`, of a cursor over `len` bytes
abbrev pub place_texts : ℕ → ℕ → List (List ℕ)
place_texts pos len = counting (ascii "@") pos ++ counting (ascii "/") (left pos len)
