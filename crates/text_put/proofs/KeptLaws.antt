-- Laws of a program's line that the code's proofs do not cite: of the first bytes, of a text behind a text, and of a refusal's name.
use Rattle.std.specs.Prelude.{ℕ, ◌-◌, ◌≤◌, ◌<◌, ◌≡◌, refl, true, List, [], ◌∷◌, Err, length, take, drop, replicate, leb}
use Rattle.std.proofs.Common.{arith, le-leb}
use Rattle.std.proofs.lemmas.Bool.{lt-leb}
use Rattle.codec.specs.Ascii.{ascii}
use Rattle.codec.specs.Buffer.{written, laid_at}
use Rattle.codec.specs.Refusals.{refusal_number, name_of}
use Rattle.codec.specs.declared.Error.{Error}
use Rattle.codec.specs.declared.Refusal.{Refusal}
use Rattle.codec.specs.declared.Refusal.TheVariants.{InsufficientSpace, InvalidValue, TableFull, BadHandle, BadType, BadValue, NoRoom, UnknownHandle, NotStorable, TooLong, BadTable, BadLink}
use Rattle.text_decimal.specs.Decimal.{decimal_text}
use Rattle.text_print.specs.Lines.{behind, holding}
use Rattle.text_print.specs.Print.{placed}
use Rattle.text_put.specs.Put.{first_of, refusal}
use Rattle.text_put.specs.PutLaws.{not_refused}

-- fewer bytes than asked for, and enough of them
pub too_few : (n : ℕ) (l : List ℕ) → length l < n → take (0 - 0) (drop 0 l) ≡ first_of n l
too_few n l h = rw (lt-leb n (length l) h)

pub enough : (n : ℕ) (l : List ℕ) → n ≤ length l → take (n - 0) (drop 0 l) ≡ first_of n l
enough n l h = let z : n - 0 ≡ n = omega arith in rw (z, le-leb n (length l) h)

-- a text behind a text
pub then : (pos at r : ℕ) (a b out m w : List ℕ) → (at ≡ placed pos a out) × (m ≡ laid_at pos a out) → (r ≡ placed at b m) × (w ≡ laid_at at b m)
    → (r ≡ behind (a ∷ b ∷ []) pos out) × (w ≡ holding (a ∷ b ∷ []) pos out)
unfolding behind holding
then pos at r a b out m w p q = rw (p.0, p.1) at q

-- the four texts of a refusal
pub refusal_said : (r : Refusal) (v pos p₂ p₃ q : ℕ) (out m₂ m₃ name w : List ℕ) → v ≡ refusal_number r → name ≡ name_of r
    → (p₂ ≡ behind (ascii "refused " ∷ decimal_text v ∷ []) pos out) × (m₂ ≡ holding (ascii "refused " ∷ decimal_text v ∷ []) pos out)
    → (p₃ ≡ placed p₂ (ascii " ") m₂) × (m₃ ≡ laid_at p₂ (ascii " ") m₂) → (q ≡ placed p₃ name m₃) × (w ≡ laid_at p₃ name m₃)
    → (q ≡ behind (refusal r) pos out) × (w ≡ holding (refusal r) pos out)
unfolding behind holding
refusal_said r v pos p₂ p₃ q out m₂ m₃ name w n k e f g = rw (f.0, f.1, e.0, e.1, n, k) at g

-- every name has room in 32 bytes
fits : (r : Refusal) → leb (length (name_of r)) 32 ≡ true
fits InsufficientSpace = refl
fits InvalidValue = refl
fits TableFull = refl
fits BadHandle = refl
fits BadType = refl
fits BadValue = refl
fits NoRoom = refl
fits UnknownHandle = refl
fits NotStorable = refl
fits TooLong = refl
fits BadTable = refl
fits BadLink = refl

-- the name of a refusal is never refused by 32 bytes
pub name_fits : (r : Refusal) (x : Error) → written (name_of r) (replicate 32 0) ≡ Err x → ⊥
name_fits r x w = not_refused (name_of r) (replicate 32 0) x (fits r) w
