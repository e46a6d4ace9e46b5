-- What a lent buffer holds once a packet's parts are written one behind the other: by the law of two writes, part after part.
use Rattle.std.proofs.Common.{ℕ, ◌+◌, ◌-◌, ◌≤◌, ◌≡◌, refl, sym, ap, ◌∙◌, Bool, true, false, List, [], ◌++◌, append_assoc, arith, length, length-append, take-append-drop, leb, Ok, Err}
use Rattle.codec.specs.Cases.{pick}
use Rattle.codec.specs.CasesLaws.{impossible}
use Rattle.codec.specs.declared.Error.TheVariants.{InsufficientSpace}
use Rattle.codec.specs.Buffer.{laid, written, over_at, laid_at}
use Rattle.codec.specs.BufferLaws.{done, in_turn, laid_first}
use Rattle.cursor_write.specs.Writing.{writing}
use Rattle.primitives.specs.Numbers.{bytes_of}
use Rattle.att_layout.specs.Layout.{field_bytes, head_bytes}
use Rattle.att_layout.specs.declared.Fields.{Fields}

-- no bytes at a position
pub laid_nothing : (pos : ℕ) (l : List ℕ) → laid_at pos [] l ≡ l
laid_nothing pos l = by (leb (pos + 0) (length l)) where
  by : (t : Bool) → pick t (over_at pos [] l) l ≡ l
  by true = take-append-drop pos l
  by false = refl

module _ (pos q : ℕ) (a b l : List ℕ) (next : q ≡ pos + length a) where
  pub one_behind : q + length b ≤ length l → (m n : List ℕ) → m ≡ laid_at pos a l → n ≡ laid_at q b m → n ≡ laid_at pos (a ++ b) l
  one_behind h m n f g = g ∙ ap (λ (x : List ℕ). laid_at q b x) f ∙ in_turn pos q a b l next h

  pub two_behind : (r : ℕ) (x : List ℕ) → r ≡ q + length b → r + length x ≤ length l → (m n o : List ℕ) → m ≡ laid_at pos a l
      → n ≡ laid_at q b m → o ≡ laid_at r x n → o ≡ laid_at pos (a ++ (b ++ x)) l
  two_behind r x k h m n o f g i =
      let e : r ≡ pos + length (a ++ b) = omega (arith, length-append a b) in
      let first = one_behind (omega arith) m n f g in
      i ∙ ap (λ (y : List ℕ). laid_at r x y) first ∙ in_turn pos r (a ++ b) x l e h ∙ ap (λ (y : List ℕ). laid_at pos y l) (append_assoc a b x)

-- a write that was not refused stands in front of the position that it answers
moved : (pos q : ℕ) (out bytes : List ℕ) → Ok q ≡ writing pos out bytes → q ≡ pos + length bytes
moved pos q out bytes e = by (leb (pos + length bytes) (length out)) e where
  by : (t : Bool) → Ok q ≡ pick t (Ok (pos + length bytes)) (Err InsufficientSpace) → q ≡ pos + length bytes
  by true f = cc
  by false f = impossible (cc)

-- two fields, and three, each written at the position that the write before it answers
pub two_fields : (f : Fields) (pos q : ℕ) (a b l m n : List ℕ) → field_bytes f ≡ a ++ b → pos + length (field_bytes f) ≤ length l
    → Ok q ≡ writing pos l a → m ≡ laid_at pos a l → n ≡ laid_at q b m → n ≡ laid_at pos (field_bytes f) l
two_fields f pos q a b l m n e h g x y =
    let k = moved pos q l a g in
    let s : length (field_bytes f) ≡ length a + length b = ap length e ∙ length-append a b in
    one_behind pos q a b l k (omega arith) m n x y ∙ ap (λ (t : List ℕ). laid_at pos t l) (sym e)

pub three_fields : (f : Fields) (pos q r : ℕ) (a b c l m n o : List ℕ) → field_bytes f ≡ a ++ (b ++ c) → pos + length (field_bytes f) ≤ length l
    → Ok q ≡ writing pos l a → m ≡ laid_at pos a l → Ok r ≡ writing q m b → n ≡ laid_at q b m → o ≡ laid_at r c n → o ≡ laid_at pos (field_bytes f) l
three_fields f pos q r a b c l m n o e h g x i y z =
    let k = moved pos q l a g in
    let j = moved q r m b i in
    let s : length (field_bytes f) ≡ length a + (length b + length c) = simp (e, length-append) refl in
    two_behind pos q a b l k r c j (omega arith) m n o x y z ∙ ap (λ (t : List ℕ). laid_at pos t l) (sym e)

-- opcode, fields, and what follows them
pub packet_laid : (op : ℕ) (f : Fields) (t l m1 m2 m3 : List ℕ) (n : ℕ) → n ≡ length (head_bytes op f) → n ≤ length l → length t ≤ length l - n
    → m1 ≡ laid_at 0 (bytes_of 1 op) l → m2 ≡ laid_at 1 (field_bytes f) m1 → m3 ≡ laid_at n t m2
    → (Ok (n + length t) ≡ written (head_bytes op f ++ t) l) × (m3 ≡ laid (head_bytes op f ++ t) l)
packet_laid op f t l m1 m2 m3 n e h k p q r =
    let head = head_bytes op f in
    let c : length (head ++ t) ≡ length head + length t = length-append head t in
    let front : m2 ≡ laid_at 0 head l = one_behind 0 1 (bytes_of 1 op) (field_bytes f) l refl (omega (arith, e)) m1 m2 p q in
    let whole : m3 ≡ laid_at 0 (head ++ t) l = one_behind 0 n head t l (omega (arith, e)) (omega arith) m2 m3 front r in
    done (head ++ t) l m3 (n + length t) (omega (arith, c, e)) (omega (arith, c, e)) (whole ∙ laid_first (head ++ t) l (omega (arith, c, e)))
