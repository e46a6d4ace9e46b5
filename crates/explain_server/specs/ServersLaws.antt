-- Every error's text has room in 256 bytes.
use Rattle.std.specs.Prelude.{ℕ, ◌≡◌, refl, Bool, true, false, ◌&&◌, List, [], ◌∷◌, Err, length, replicate, leb, eqb}
use Rattle.std.proofs.Common.{arith, length-append, le-leb}
use Rattle.codec.specs.Buffer.{written}
use Rattle.codec.specs.Cases.{pick, lookup}
use Rattle.codec.specs.CasesLaws.{both}
use Rattle.codec.specs.declared.Error.{Error}
use Rattle.text_decimal.specs.DecimalLaws.{decimal_most}
use Rattle.att_error.specs.Texts.{texts, application, unknown, shared, text_of}
use Rattle.text_put.specs.PutLaws.{not_refused}

-- a row's text is short, and so is that of every other code
abbrev short : List ℕ → Bool
short t = leb (length t) 256

all_short : List (ℕ × List ℕ) → Bool
all_short [] = true
all_short (row ∷ rows) = short row.1 && all_short rows

looked_up_lem : (code : ℕ) (rows : List (ℕ × List ℕ)) (d : List ℕ) → all_short rows ≡ true → short d ≡ true → short (lookup code rows d) ≡ true
unfolding all_short
looked_up_lem code [] d h k = k
looked_up_lem code (row ∷ rows) d h k =
    let p = both (short row.1) (all_short rows) h in
    by (eqb code row.0) p.0 (looked_up_lem code rows d p.1 k)
  where
    by : (t : Bool) → short row.1 ≡ true → short (lookup code rows d) ≡ true → short (pick t row.1 (lookup code rows d)) ≡ true
    by true a b = a
    by false a b = b

application_short : (code : ℕ) → short (application code) ≡ true
unfolding application
application_short code = le-leb (length (application code)) 256 (simp length-append (omega (arith, decimal_most code)))

unknown_short : (code : ℕ) → short (unknown code) ≡ true
unfolding unknown
unknown_short code = le-leb (length (unknown code)) 256 (simp length-append (omega (arith, decimal_most code)))

shared_short : (code : ℕ) → short (shared code) ≡ true
shared_short code = by (leb 0x80 code) (leb code 0x9F) where
  by : (a b : Bool) → short (pick a (pick b (application code) (unknown code)) (unknown code)) ≡ true
  by true true = application_short code
  by true false = unknown_short code
  by false b = unknown_short code

rows_short : all_short texts ≡ true
unfolding all_short texts
rows_short = refl

text_short : (code : ℕ) → short (text_of code) ≡ true
unfolding text_of
text_short code = looked_up_lem code texts (shared code) rows_short (shared_short code)

-- no text is refused by 256 bytes
pub text_fits : (code : ℕ) (x : Error) → written (text_of code) (replicate 256 0) ≡ Err x → ⊥
text_fits code x w = not_refused (text_of code) (replicate 256 0) x (text_short code) w
