-- Fixed fields and their bytes, once over the list of widths: written and read again they are the same numbers, read and written
-- again the same bytes. By induction over the widths, each field by the laws of bytes and numbers.
use Rattle.std.proofs.Common.{ℕ, ◌+◌, ◌≤◌, ◌≡◌, refl, sym, ap, ◌∙◌, List, [], ◌∷◌, ◌++◌, append_assoc, arith, length, take, drop, length-append, length-drop, take_at, drop_at, take-add, drop-drop, length-take-le}
use Rattle.primitives.specs.Numbers.{bytes_of, number_of, number_at, Octets}
use Rattle.primitives.specs.NumbersLaws.{length_bytes, number_bytes, bytes_number, octets_take, octets_drop}
use Rattle.att.specs.Wire.{total, numbers, sent_fields}
use Rattle.att.specs.Proper.{Fields}

pub length_sent : (ws ns : List ℕ) → length (sent_fields ws ns) ≡ total ws
length_sent [] ns = refl
length_sent (w ∷ ws) [] = simp length-append (omega (arith, length_bytes w 0, length_sent ws []))
length_sent (w ∷ ws) (n ∷ ns) = simp length-append (omega (arith, length_bytes w n, length_sent ws ns))

-- a field's number, where its bytes stand
number_there : (w n at : ℕ) (pre t : List ℕ) → length pre ≡ at → number_of (bytes_of w n) ≡ n → number_at w at (pre ++ (bytes_of w n ++ t)) ≡ n
number_there w n at pre t h e = rw (drop_at pre (bytes_of w n ++ t) at h, take_at (bytes_of w n) t w (length_bytes w n)) e

pub numbers_sent : (ws ns : List ℕ) (at : ℕ) (pre t : List ℕ) → length pre ≡ at → Fields ws ns → numbers at ws (pre ++ (sent_fields ws ns ++ t)) ≡ ns
numbers_sent [] [] at pre t h f = refl
numbers_sent [] (n ∷ ns) at pre t h f = absurd f
numbers_sent (w ∷ ws) [] at pre t h f = absurd f
numbers_sent (w ∷ ws) (n ∷ ns) at pre t h f =
    let s = sent_fields ws ns in
    let l = length_bytes w n in
    let k : length (pre ++ bytes_of w n) ≡ at + w = simp length-append (omega arith) in
    let e : pre ++ ((bytes_of w n ++ s) ++ t) ≡ pre ++ (bytes_of w n ++ (s ++ t)) = rw append_assoc in
    let e2 : pre ++ (bytes_of w n ++ (s ++ t)) ≡ (pre ++ bytes_of w n) ++ (s ++ t) = sym (append_assoc pre (bytes_of w n) (s ++ t)) in
    let one : number_at w at (pre ++ ((bytes_of w n ++ s) ++ t)) ≡ n =
    rw e (number_there w n at pre (s ++ t) h (number_bytes w n f.0)) in
    let rest : numbers (at + w) ws (pre ++ ((bytes_of w n ++ s) ++ t)) ≡ ns =
    rw (e, e2) (numbers_sent ws ns (at + w) (pre ++ bytes_of w n) t k f.1) in
    rw (one, rest)

pub sent_numbers : (ws : List ℕ) (at : ℕ) (p : List ℕ) → at + total ws ≤ length p → Octets p
    → sent_fields ws (numbers at ws p) ≡ take (total ws) (drop at p)
sent_numbers [] at p h o = refl
sent_numbers (w ∷ ws) at p h o =
    let l : length (take w (drop at p)) ≡ w = length-take-le w (drop at p) (simp length-drop (omega arith)) in
    let b : bytes_of w (number_at w at p) ≡ take w (drop at p) =
    ap (λ (k : ℕ). bytes_of k (number_at w at p)) (sym l) ∙ bytes_number (take w (drop at p)) (octets_take w (drop at p) (octets_drop at p o)) in
    rw (b, sent_numbers ws (at + w) p (omega arith) o, take-add w (total ws) (drop at p), drop-drop w at p)
