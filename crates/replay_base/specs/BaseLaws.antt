-- Laws of the words of a request, in the shapes that the proofs of the code ask for.
use Rattle.std.specs.Prelude.{ℕ, ◌≤◌, ◌<◌, ◌≡◌, refl, Bool, true, false, List, [], ◌∷◌, ◌++◌, Option, Some, None, length, leb, reverse, take, drop}
use Rattle.std.specs.Result.{result_unwrap_or}
use Rattle.std.proofs.Common.{sym, arith, leb-true, le-leb, take_at}
use Rattle.std.proofs.lemmas.Bool.{lt-leb}
use Rattle.codec.specs.Buffer.{laid_at}
use Rattle.text_decimal.specs.Decimal.{decimal_text}
use Rattle.text_print.specs.Lines.{behind, holding}
use Rattle.text_print.specs.Print.{placed}
use Rattle.text_hex.specs.Hex.{answered, filled}
use Rattle.replay_base.specs.Base.{said_by, turned}

-- a HEX that was read fits the buffer, and its bytes are the buffer's first
fits_by : (l : List ℕ) (k : ℕ) (b : Bool) → leb (length l) k ≡ b → result_unwrap_or (answered (Some l) k) 0 ≤ k
fits_by l k true e = rw e (leb-true (length l) k e)
fits_by l k false e = rw e (omega arith)

pub fits : (m : Option (List ℕ)) (k : ℕ) → result_unwrap_or (answered m k) 0 ≤ k
fits None k = omega arith
fits (Some l) k = fits_by l k (leb (length l) k) refl

held_by : (l z : List ℕ) (b : Bool) → leb (length l) (length z) ≡ b
    → take (result_unwrap_or (answered (Some l) (length z)) 0) (filled (Some l) z) ≡ said_by (length z) (Some l)
held_by l z true e = rw (e) (take_at l (drop (length l) z) (length l) refl)
held_by l z false e = rw (e)

pub held : (m : Option (List ℕ)) (z : List ℕ) → take (result_unwrap_or (answered m (length z)) 0) (filled m z) ≡ said_by (length z) m
held None z = refl
held (Some l) z = held_by l z (leb (length l) (length z)) refl

-- a text and a number behind a text
pub number_behind : (pos at r v n : ℕ) (a b out m w : List ℕ) → v ≡ n → (at ≡ placed pos a out) × (m ≡ laid_at pos a out)
    → (r ≡ behind (b ∷ decimal_text v ∷ []) at m) × (w ≡ holding (b ∷ decimal_text v ∷ []) at m)
    → (r ≡ behind (a ∷ b ∷ decimal_text n ∷ []) pos out) × (w ≡ holding (a ∷ b ∷ decimal_text n ∷ []) pos out)
unfolding behind holding
number_behind pos at r v n a b out m w e p q = rw (p.0, p.1, e) at q

-- the digits of a number, turned round, and too many of them
module _ (n k : ℕ) (b d : List ℕ) (e : n ≡ k) (f : b ≡ d) where
  pub turned_round : (m : List ℕ) → n ≤ 4 → m ≡ reverse (take n b) ++ drop n b → m ≡ turned k d
  turned_round m h g = rw (sym e, sym f, le-leb n 4 h) g

  pub not_turned : 4 < n → b ≡ turned k d
  not_turned h = rw (sym e, sym f, lt-leb n 4 h)

-- two numbers, each behind its text
pub two_numbers : (pos at r v n x k : ℕ) (a b out m w : List ℕ) → v ≡ n → x ≡ k
    → (at ≡ behind (a ∷ decimal_text v ∷ []) pos out) × (m ≡ holding (a ∷ decimal_text v ∷ []) pos out)
    → (r ≡ behind (b ∷ decimal_text x ∷ []) at m) × (w ≡ holding (b ∷ decimal_text x ∷ []) at m)
    → (r ≡ behind (a ∷ decimal_text n ∷ b ∷ decimal_text k ∷ []) pos out) × (w ≡ holding (a ∷ decimal_text n ∷ b ∷ decimal_text k ∷ []) pos out)
unfolding behind holding
two_numbers pos at r v n x k a b out m w e f p q = rw (p.0, p.1, e, f) at q
