-- Laws of a program's line, in the shapes that the proofs of the code ask for.
use Rattle.std.specs.Prelude.{ℕ, ◌≤◌, ◌≡◌, refl, Bool, true, false, not, List, [], ◌∷◌, ◌++◌, Ok, Err, length, drop, leb}
use Rattle.std.proofs.Common.{sym, ◌∙◌, arith, length-append, take_at, le-leb}
use Rattle.codec.specs.CasesLaws.{impossible}
use Rattle.codec.specs.Buffer.{over, laid, written, laid_at}
use Rattle.codec.specs.Cases.{pick}
use Rattle.codec.specs.declared.Error.{Error}
use Rattle.codec.specs.declared.Error.TheVariants.{InsufficientSpace}
use Rattle.text_print.specs.Lines.{behind, holding, Puts}
use Rattle.text_print.specs.declared.Line.{Line}
use Rattle.text_put.specs.Put.{first_of}
use Rattle.text_print.specs.Print.{placed, hex_text}

-- the line `w`, of which texts end at `r`, is the line `out` with these texts from `pos` on
abbrev pub Wrote : List (List ℕ) → ℕ → List ℕ → ℕ → List ℕ → Type 0
Wrote ts pos out r w = (r ≡ behind ts pos out) × (w ≡ holding ts pos out)

pub one : (t : List ℕ) (pos : ℕ) (out : List ℕ) (r : ℕ) (w : List ℕ) → (r ≡ placed pos t out) × (w ≡ laid_at pos t out) → Wrote (t ∷ []) pos out r w
unfolding behind holding
one t pos out r w p = p

-- the same of a text that another one is
pub one_as : (s t : List ℕ) (pos : ℕ) (out : List ℕ) (r : ℕ) (w : List ℕ) → s ≡ t → (r ≡ placed pos s out) × (w ≡ laid_at pos s out)
    → Wrote (t ∷ []) pos out r w
one_as s t pos out r w e p = one t pos out r w (rw e at p)

pub behind_append : (xs ys : List (List ℕ)) (pos : ℕ) (out : List ℕ) → behind (xs ++ ys) pos out ≡ behind ys (behind xs pos out) (holding xs pos out)
unfolding behind holding
behind_append [] ys pos out = refl
behind_append (x ∷ xs) ys pos out = behind_append xs ys (placed pos x out) (laid_at pos x out)

pub holding_append : (xs ys : List (List ℕ)) (pos : ℕ) (out : List ℕ) → holding (xs ++ ys) pos out ≡ holding ys (behind xs pos out) (holding xs pos out)
unfolding behind holding
holding_append [] ys pos out = refl
holding_append (x ∷ xs) ys pos out = holding_append xs ys (placed pos x out) (laid_at pos x out)

pub joined : (xs ys : List (List ℕ)) (pos : ℕ) (out : List ℕ) (at : ℕ) (m : List ℕ) (r : ℕ) (w : List ℕ) → Wrote xs pos out at m → Wrote ys at m r w
    → Wrote (xs ++ ys) pos out r w
joined xs ys pos out at m r w p q = rw (behind_append xs ys pos out, holding_append xs ys pos out, sym p.0, sym p.1) q

-- texts put on a line, and then others
pub puts_then : (xs ys : List (List ℕ)) (a b c : Line) → Puts xs a b → Puts ys b c → Puts (xs ++ ys) a c
puts_then xs ys a b c p q =
    let j = joined xs ys a.pos a.out.now b.pos b.out.now c.pos c.out.now (p.1, p.2) (q.1, q.2) in (q.0 ∙ p.0, j.0, j.1)

-- no texts at all
pub puts_none : (ts : List (List ℕ)) (a : Line) → ts ≡ [] → Puts ts a a
unfolding behind holding
puts_none ts a e = rw e (refl, refl, refl)

-- the same texts, said otherwise
pub as_texts : (xs ys : List (List ℕ)) (pos : ℕ) (out : List ℕ) (r : ℕ) (w : List ℕ) → xs ≡ ys → Wrote ys pos out r w → Wrote xs pos out r w
as_texts xs ys pos out r w e p = rw e p

-- the same bytes in HEX, behind a text
pub hex_as : (name a b : List ℕ) (pos : ℕ) (out : List ℕ) (r : ℕ) (w : List ℕ) → a ≡ b → Wrote (name ∷ hex_text a ∷ []) pos out r w
    → Wrote (name ∷ hex_text b ∷ []) pos out r w
hex_as name a b pos out r w e p = rw e at p

-- bytes that were laid over others, as many as they are
pub first_laid : (l z : List ℕ) → first_of (length l) (over l z) ≡ l
first_laid l z =
    let h : length l ≤ length (over l z) = simp (length-append) (omega arith) in
    rw (le-leb (length l) (length (over l z)) h) (take_at l (drop (length l) z) (length l) refl)

-- what was written whole into a buffer stands at its start, and is what the buffer had no room for where it was refused
pub stands : (b spelt : List ℕ) (n : ℕ) (m : List ℕ) → written b spelt ≡ Ok n → m ≡ laid b spelt → first_of n m ≡ b
stands b spelt n m w h = by (leb (length b) (length spelt)) w h where
  by : (t : Bool) → pick t (Ok (length b)) (Err InsufficientSpace) ≡ Ok n → m ≡ pick t (over b spelt) spelt → first_of n m ≡ b
  by true q o =
      let k : length b ≡ n = cc in rw (sym k, o) (first_laid b spelt)
  by false q o = impossible (cc)

pub not_refused : (b spelt : List ℕ) (x : Error) → leb (length b) (length spelt) ≡ true → written b spelt ≡ Err x → ⊥
not_refused b spelt x t w =
    let q : Ok (length b) ≡ Err x = rw t at w in
    impossible (cc)

-- a test that fails, and one that does not
pub flipped : (b : Bool) → not b ≡ true → b ≡ false
flipped true h = sym h
flipped false h = refl

pub unflipped : (b : Bool) → not b ≡ false → b ≡ true
unflipped true h = refl
unflipped false h = sym h
