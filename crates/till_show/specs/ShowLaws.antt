-- Texts of marks and places, in the shapes that the proofs of the code ask for.
use Rattle.std.specs.Prelude.{ℕ, ◌≡◌, Bool, false, List, []}
use Rattle.text_print.specs.Lines.{Puts}
use Rattle.text_print.specs.declared.Line.{Line}
use Rattle.codec.specs.Cases.{pick}
use Rattle.attributes.specs.declared.Place.{Place}
use Rattle.till_show.specs.Show.{place_texts}

-- the letter `-`, by a test on the marks
pub dashed : (n m : Bool) (s t : List ℕ) → s ≡ pick n t [] → n ≡ m → s ≡ pick m t []
dashed n m s t e f = rw f at e

pub unset : (n s t a b : Bool) → n ≡ pick a false (pick b false s) → s ≡ t → n ≡ pick a false (pick b false t)
unset n s t a b e f = rw f at e

-- the texts of a place that is known
pub place_as : (p q : Place) (a b : Line) → p ≡ q → Puts (place_texts q) a b → Puts (place_texts p) a b
place_as p q a b e h = rw e h
