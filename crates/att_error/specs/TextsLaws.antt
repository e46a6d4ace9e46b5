-- Which text a code has, and that the table has one row for a code and none for a code of the application.
use Rattle.std.specs.Prelude.{ℕ, ◌≤◌, ◌<◌, ◌≡◌, refl, Bool, true, false, ◌&&◌, not, ◌⊎◌, List, [], ◌∷◌, map, ltb, leb, eqb, Option, Some, unwrap_or}
use Rattle.std.specs.Prelude.{None as Nothing}
use Rattle.std.proofs.Common.{sym, ap, ◌∙◌, inl, inr, arith, le-leb}
use Rattle.std.proofs.lemmas.Bool.{lt-leb}
use Rattle.codec.specs.Cases.{None, lookup, pick}
use Rattle.codec.specs.CasesLaws.{missing}
use Rattle.att_error.specs.Texts.{texts, own_row, own_text, application, unknown, shared, text_of, codes}

-- every number of a list is above the one before it, the first above `low`, and none is from 80 to 9F
abbrev apart : ℕ → List ℕ → Bool
apart low [] = true
apart low (c ∷ cs) = ltb low c && not (leb 0x80 c && leb c 0x9F) && apart c cs

pub one_text : apart 0 codes ≡ true
unfolding codes texts
one_text = refl

-- what the codes without a text of their own share
pub shared_application : (code : ℕ) → 0x80 ≤ code → code ≤ 0x9F → shared code ≡ application code
shared_application code h k = rw (le-leb 0x80 code h, le-leb code 0x9F k)

pub shared_unknown : (code : ℕ) → (code < 0x80) ⊎ (0x9F < code) → shared code ≡ unknown code
shared_unknown code (inl h) = rw (lt-leb 0x80 code h)
shared_unknown code (inr h) = rw (le-leb 0x80 code (omega arith), lt-leb code 0x9F h)

pub text_application : (code : ℕ) → None code Unit texts → 0x80 ≤ code → code ≤ 0x9F → text_of code ≡ application code
unfolding text_of
text_application code n h k = missing code texts (shared code) n ∙ shared_application code h k

pub text_unknown : (code : ℕ) → None code Unit texts → (code < 0x80) ⊎ (0x9F < code) → text_of code ≡ unknown code
unfolding text_of
text_unknown code n h = missing code texts (shared code) n ∙ shared_unknown code h

-- the text of a code by whether it has its own
looked : (k : ℕ) (rows : List (ℕ × List ℕ)) (d : List ℕ) → lookup k rows d ≡ unwrap_or (lookup k (map own_row rows) Nothing) d
looked k [] d = refl
looked k (row ∷ rows) d = by (eqb k row.0) (looked k rows d) where
  by : (b : Bool) → lookup k rows d ≡ unwrap_or (lookup k (map own_row rows) Nothing) d
      → pick b row.1 (lookup k rows d) ≡ unwrap_or (pick b (Some row.1) (lookup k (map own_row rows) Nothing)) d
  by true e = refl
  by false e = e

pub text_own : (code : ℕ) (t : List ℕ) → Some t ≡ own_text code → text_of code ≡ t
unfolding text_of
text_own code t e = looked code texts (shared code) ∙ sym (ap (λ (o : Option (List ℕ)). unwrap_or o (shared code)) e)

pub text_shared : (code : ℕ) → Nothing ≡ own_text code → text_of code ≡ shared code
unfolding text_of
text_shared code e = looked code texts (shared code) ∙ sym (ap (λ (o : Option (List ℕ)). unwrap_or o (shared code)) e)
