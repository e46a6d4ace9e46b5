-- Laws of a position: the two answers of a call, for the one who gives them and for the one who got them.
use Rattle.std.specs.Prelude.{ℕ, ◌+◌, ◌≤◌, ◌<◌, ◌≡◌, refl, Bool, true, false, List, [], leb, Result, Ok, Err}
use Rattle.std.proofs.Common.{sym, ◌∙◌, arith, leb-true, leb-false}
use Rattle.codec.specs.CasesLaws.{impossible}
use Rattle.codec.specs.Cases.{pick}
use Rattle.codec.specs.declared.Error.{Error}
use Rattle.codec.specs.declared.Error.TheVariants.{InsufficientSpace}
use Rattle.cursor.specs.Position.{enough, moving, parting, parted}

-- there is enough, or there is not
pub is_enough : (pos len n : ℕ) → pos + n ≤ len → enough pos len n ≡ true
is_enough pos len n h = by (enough pos len n) refl where
  by : (t : Bool) → enough pos len n ≡ t → enough pos len n ≡ true
  by true e = e
  by false e = impossible (omega (arith, leb-false))

pub not_enough : (pos len n : ℕ) → len < pos + n → enough pos len n ≡ false
not_enough pos len n h = by (enough pos len n) refl where
  by : (t : Bool) → enough pos len n ≡ t → enough pos len n ≡ false
  by true e = impossible (omega (arith, leb-true))
  by false e = e

-- so the answers, and the part
pub moves : (pos len n : ℕ) → pos + n ≤ len → moving pos len n ≡ Ok (pos + n)
moves pos len n h = rw (is_enough pos len n h)

pub stays : (pos len n : ℕ) → len < pos + n → moving pos len n ≡ Err InsufficientSpace
stays pos len n h = rw (not_enough pos len n h)

pub gives : (pos len n : ℕ) (bytes : List ℕ) → pos + n ≤ len → parted pos len n bytes ≡ bytes
gives pos len n bytes h = rw (is_enough pos len n h)

pub keeps : (pos len n : ℕ) (bytes : List ℕ) → len < pos + n → parted pos len n bytes ≡ []
keeps pos len n bytes h = rw (not_enough pos len n h)

-- "With a position past the end any n is short, and parts are empty."
pub past_short : (pos len n : ℕ) → len < pos → (moving pos len n ≡ Err InsufficientSpace) × (parting pos len n ≡ Err InsufficientSpace)
past_short pos len n h = rw (not_enough pos len n (omega arith)) (refl, refl)

pub past_empty : (pos len n : ℕ) (bytes : List ℕ) → len < pos → parted pos len n bytes ≡ []
past_empty pos len n bytes h = keeps pos len n bytes (omega arith)

-- what an answer tells the one who got it
pub went : {r : Result ℕ Error} (pos len n next : ℕ) → r ≡ Ok next → r ≡ moving pos len n → (next ≡ pos + n) × (pos + n ≤ len)
went pos len n next g f = by (leb (pos + n) len) refl (sym g ∙ f) where
  by : (t : Bool) → leb (pos + n) len ≡ t → Ok next ≡ pick t (Ok (pos + n)) (Err InsufficientSpace)
      → (next ≡ pos + n) × (pos + n ≤ len)
  by true h e = (cc, leb-true _ _ h)
  by false h e = impossible (cc)

pub stayed : {r : Result ℕ Error} (pos len n : ℕ) (e : Error) → r ≡ Err e → r ≡ moving pos len n → (e ≡ InsufficientSpace) × (len < pos + n)
stayed pos len n u g f = by (leb (pos + n) len) refl (sym g ∙ f) where
  by : (t : Bool) → leb (pos + n) len ≡ t → Err u ≡ pick t (Ok (pos + n)) (Err InsufficientSpace)
      → (u ≡ InsufficientSpace) × (len < pos + n)
  by true h e = impossible (cc)
  by false h e = (cc, leb-false _ _ h)
