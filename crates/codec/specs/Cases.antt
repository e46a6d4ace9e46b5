-- Choosing by a test, and by a number in a table of rows.
use Rattle.std.specs.Prelude.{ℕ, ◌≡◌, Bool, true, false, ◌&&◌, List, [], ◌∷◌, eqb}

abbrev pub pick : {A : Type 0} → Bool → A → A → A
pick true a b = a
pick false a b = b

-- what stands in the row of the number `k`, or `d` where no row has that number
abbrev pub lookup : {A : Type 0} → ℕ → List (ℕ × A) → A → A
lookup k [] d = d
lookup k (row ∷ rows) d = pick (eqb k row.0) row.1 (lookup k rows d)

-- `k` is the number of no row, in the form in which a `match` says it of its last arm: a tuple nested to the left
abbrev pub None : {A : Type 0} → ℕ → Type 0 → List (ℕ × A) → Type 0
None k T [] = T
None k T (row ∷ rows) = None k (T × (k ≡ row.0 → ⊥)) rows

-- two lists of bytes are the same
abbrev pub same : List ℕ → List ℕ → Bool
same [] [] = true
same [] (y ∷ ys) = false
same (x ∷ xs) [] = false
same (x ∷ xs) (y ∷ ys) = eqb x y && same xs ys
