-- Lists: what holds of each element, and the first with a handle, of anything that has one.
use Rattle.std.specs.Prelude.{ℕ, List, [], ◌∷◌, eqb}
use Rattle.codec.specs.Cases.{pick}

abbrev pub Each : {A : Type 0} → (A → Type 0) → List A → Type 0
Each Q [] = Unit
Each Q (x ∷ xs) = Q x × Each Q xs

-- what the first with the handle `h` gives, or `none` where there is no such one; `handle` tells the handle of each
abbrev pub first_at : {A B : Type 0} → (A → ℕ) → ℕ → (A → B) → B → List A → B
first_at handle h gives none [] = none
first_at handle h gives none (x ∷ xs) = pick (eqb (handle x) h) (gives x) (first_at handle h gives none xs)
