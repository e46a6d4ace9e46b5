-- Laws of the words of a walk, in the shapes that the proofs of the code ask for.
use Rattle.std.specs.Prelude.{ℕ, ◌≡◌, refl, true, List, [], ◌∷◌, length, get_or, eqb}
use Rattle.std.proofs.Common.{arith}
use Rattle.replay_walk.specs.Walks.{end_of}

-- a word without characters, and one with some
pub no_word : (w : List ℕ) → length w ≡ 0 → true ≡ end_of w
no_word [] h = refl
no_word (c ∷ cs) h = absurd (omega arith)

pub some_word : (w : List ℕ) → (length w ≡ 0 → ⊥) → eqb (get_or w 0 0) 61 ≡ end_of w
some_word [] h = absurd (h refl)
some_word (c ∷ cs) h = refl
