-- Cases 1 to 15 of document 01, on the definitions, as one statement over one list. By computing both sides.
use mathlib.Core.Path.{◌≡◌, refl}
use mathlib.Core.List.{map}
use Rattle.answers.specs.Cases.{cases, tried}
use Rattle.answers.proofs.Computes.{book}

pub cases_hold : map (λ c. tried c.0) cases ≡ map (λ c. c.1) cases
unfolding book
cases_hold = refl
