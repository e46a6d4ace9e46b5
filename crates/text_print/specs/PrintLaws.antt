-- Laws of printing: a text behind a text, and the round trip of bytes through their digits.
use Rattle.std.specs.Prelude.{ℕ, ◌+◌, ◌*◌, ◌/◌, ◌%◌, ◌≤◌, ◌<◌, ◌≡◌, refl, length, take, drop, get_or, set, replicate}
use Rattle.std.proofs.Common.{sym, ◌∙◌, add-one, length-drop, length-take, take-append-drop, take_at, drop_at, drop-drop, take-suc, length-take-le, le-leb, lt-ltb, le-ltb}
use Rattle.std.proofs.Math.Path.{ap}
use mathlib.Core.List.{List, [], ◌∷◌, ◌++◌, append_assoc, append-nil}
use native.Mathlib.Omega.{arith}
use Rattle.std.proofs.Math.ListN.{length-append}
use Rattle.std.proofs.Math.Seq.{take-length}
use Rattle.std.proofs.lemmas.List.Edits.{sets-eq}
use Rattle.std.proofs.lemmas.Bool.{lt-leb}
use Rattle.codec.specs.Buffer.{over_at, laid_at}
use Rattle.text_print.specs.Print.{placed, glyph, two, capitals, usual_text}

-- a text does not fit, or it does: the answer, and what the line then holds
pub full : (pos : ℕ) (text out : List ℕ) → length out < pos + length text
    → (18446744073709551615 ≡ placed pos text out) × (out ≡ laid_at pos text out)
full pos text out h = rw (lt-leb (pos + length text) (length out) h) (refl, refl)

pub printed : (pos n : ℕ) (text out m : List ℕ) → pos + length text ≤ length out → n ≡ pos + length text → m ≡ over_at pos text out
    → (n ≡ placed pos text out) × (m ≡ laid_at pos text out)
printed pos n text out m h e w = rw (le-leb (pos + length text) (length out) h) (e, w)

pub over_at_length : (pos : ℕ) (text out : List ℕ) → pos + length text ≤ length out → length (over_at pos text out) ≡ length out
over_at_length pos text out h = simp (length-append, length-take, length-drop) (omega arith)

-- a text behind a text is the two in one
pub over_at_append : (pos : ℕ) (a b out : List ℕ) → pos + length a ≤ length out
    → over_at (pos + length a) b (over_at pos a out) ≡ over_at pos (a ++ b) out
over_at_append pos a b out h =
    let p : length (take pos out ++ a) ≡ pos + length a = rw (length-append (take pos out) a, length-take-le pos out (omega arith)) in
    let r : List ℕ = drop (length a) (drop pos out) in
    let t : take (pos + length a) (take pos out ++ (a ++ r)) ≡ take pos out ++ a =
    rw (sym (append_assoc (take pos out) a r)) (take_at (take pos out ++ a) r (pos + length a) p) in
    let d : drop (pos + length a) (take pos out ++ (a ++ r)) ≡ r =
    rw (sym (append_assoc (take pos out) a r)) (drop_at (take pos out ++ a) r (pos + length a) p) in
    rw (t, d, append_assoc, append_assoc, drop-drop, length-append)

pub glyph_low : (d : ℕ) → d < 10 → 48 + d ≡ glyph d
glyph_low d h = rw (lt-ltb d 10 h)

pub glyph_high : (d : ℕ) → 10 ≤ d → 55 + d ≡ glyph d
glyph_high d h = rw (le-ltb d 10 h)

-- the stores of two digits
pub two_stores : (out : List ℕ) (at x y b : ℕ) → at + 2 ≤ length out → x ≡ glyph (b / 16) → y ≡ glyph (b % 16)
    → set (set out at x) (at + 1) y ≡ over_at at (two b) out
two_stores out at x y b h e f =
    rw (e, f, add-one at, drop-drop) (sets-eq (two b) out at h ∙ append_assoc (take at out) (two b) (drop (at + 2) out))

pub capitals_length : (bs : List ℕ) → length (capitals bs) ≡ 2 * length bs
unfolding capitals
capitals_length [] = refl
capitals_length (b ∷ bs) = omega (arith, capitals_length bs)

capitals_append : (a b : List ℕ) → capitals (a ++ b) ≡ capitals a ++ capitals b
unfolding capitals
capitals_append [] b = refl
capitals_append (x ∷ a) b = ap (λ (l : List ℕ). two x ++ l) (capitals_append a b)

-- the digits of one byte more
pub capitals_more : (bs : List ℕ) (i : ℕ) → i < length bs → capitals (take i bs) ++ two (get_or bs i 0) ≡ capitals (take (i + 1) bs)
unfolding capitals
capitals_more bs i h = sym (rw (add-one i, take-suc bs i 0, capitals_append, append-nil))

pub capitals_taken : (bs : List ℕ) (i : ℕ) → i ≤ length bs → length (capitals (take i bs)) ≡ 2 * i
capitals_taken bs i h = omega (arith, capitals_length (take i bs), length-take-le i bs h)

-- how far the digits of bytes are printed
pub record Printing (pos : ℕ) (bs before out : List ℕ) (at i : ℕ) : Type 0 where
  pub inside : i ≤ length bs
  pub here : at ≡ pos + 2 * i
  pub room : pos + 2 * length bs ≤ length before
  pub long : length out ≡ length before
  pub put : out ≡ over_at pos (capitals (take i bs)) before

pub nothing_printed : (pos : ℕ) (bs before : List ℕ) → pos + 2 * length bs ≤ length before → Printing pos bs before before pos 0
unfolding capitals
nothing_printed pos bs before h =
    record { inside = omega arith; here = omega arith; room = h; long = refl; put = sym (take-append-drop pos before) }

pub printed_more : (pos : ℕ) (bs before out m : List ℕ) (at i : ℕ) → Printing pos bs before out at i → i < length bs
    → m ≡ over_at at (two (get_or bs i 0)) out → Printing pos bs before m (at + 2) (i + 1)
printed_more pos bs before out m at i p h e =
    let k : length (capitals (take i bs)) ≡ 2 * i = capitals_taken bs i p.inside in
    let a : at ≡ pos + length (capitals (take i bs)) = omega (arith, p.here) in
    let o : m ≡ over_at pos (capitals (take (i + 1) bs)) before =
    e
    ∙ rw (p.put, a) (over_at_append pos (capitals (take i bs)) (two (get_or bs i 0)) before (omega (arith, p.room)))
    ∙ ap (λ (t : List ℕ). over_at pos t before) (capitals_more bs i h) in
    record {
      inside = omega arith;
      here = omega (arith, p.here);
      room = p.room;
      long = ap length o ∙ over_at_length pos (capitals (take (i + 1) bs)) before (omega (arith, p.room, capitals_taken bs (i + 1) (omega arith)));
      put = o;
    }

pub all_printed : (pos : ℕ) (bs before out : List ℕ) (at i : ℕ) → Printing pos bs before out at i → length bs ≤ i
    → (at ≡ placed pos (capitals bs) before) × (out ≡ laid_at pos (capitals bs) before)
all_printed pos bs before out at i p h =
    let n : i ≡ length bs = omega (arith, p.inside) in
    let t : take i bs ≡ bs = rw n (take-length bs) in
    printed pos at (capitals bs) before out (omega (arith, p.room, capitals_length bs)) (omega (arith, p.here, capitals_length bs))
    (p.put ∙ rw t)

-- the stores of the usual form, one over the other
pub usual_stores : (b l₁ l₂ l₃ l₄ l₅ : List ℕ) → l₁ ≡ laid_at 0 (capitals (take 4 b)) (replicate 36 45)
    → l₂ ≡ laid_at 9 (capitals (take 2 (drop 4 b))) l₁ → l₃ ≡ laid_at 14 (capitals (take 2 (drop 6 b))) l₂
    → l₄ ≡ laid_at 19 (capitals (take 2 (drop 8 b))) l₃ → l₅ ≡ laid_at 24 (capitals (take 6 (drop 10 b))) l₄ → l₅ ≡ usual_text b
unfolding usual_text
usual_stores b l₁ l₂ l₃ l₄ l₅ e₁ e₂ e₃ e₄ e₅ =
    e₅
    ∙ ap (laid_at 24 (capitals (take 6 (drop 10 b))))
    (e₄
    ∙ ap (laid_at 19 (capitals (take 2 (drop 8 b))))
    (e₃ ∙ ap (laid_at 14 (capitals (take 2 (drop 6 b)))) (e₂ ∙ ap (laid_at 9 (capitals (take 2 (drop 4 b)))) e₁)))
