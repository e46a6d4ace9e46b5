-- A line keeps its length, whatever is put on it.
use Rattle.std.specs.Prelude.{ℕ, ◌+◌, ◌≡◌, refl, Bool, true, false, List, [], ◌∷◌, length, take, drop, leb}
use Rattle.std.proofs.Common.{◌∙◌, arith, length-append, length-drop, length-take-le, leb-true}
use Rattle.codec.specs.Buffer.{laid_at, over_at}
use Rattle.codec.specs.Cases.{pick}
use Rattle.text_print.specs.Lines.{holding}
use Rattle.text_print.specs.Print.{placed}

one_by : (t : List ℕ) (pos : ℕ) (out : List ℕ) (b : Bool) → leb (pos + length t) (length out) ≡ b → length (pick b (over_at pos t out) out) ≡ length out
one_by t pos out false e = refl
one_by t pos out true e =
    let h = leb-true (pos + length t) (length out) e in
    simp (length-append, length-drop, length-drop) (omega (arith, length-take-le pos out (omega arith)))

one : (t : List ℕ) (pos : ℕ) (out : List ℕ) → length (laid_at pos t out) ≡ length out
one t pos out = one_by t pos out (leb (pos + length t) (length out)) refl

pub kept : (ts : List (List ℕ)) (pos : ℕ) (out : List ℕ) → length (holding ts pos out) ≡ length out
unfolding holding
kept [] pos out = refl
kept (t ∷ ts) pos out = kept ts (placed pos t out) (laid_at pos t out) ∙ one t pos out
