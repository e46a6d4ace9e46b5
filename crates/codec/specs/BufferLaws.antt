-- Laws of bytes laid over a lent buffer. Each has the shape of what an encoder's proof is asked for.
use Rattle.std.specs.Prelude.{Ok, Err, ℕ, ◌+◌, ◌-◌, ◌≤◌, ◌<◌, ◌≡◌, refl, List, [], ◌++◌, length, take, drop}
use Rattle.std.proofs.Common.{sym, ap, ◌∙◌, append_assoc, append-nil, arith, length-append, length-drop, drop_of_length-le, take_all, drop-drop, take_at, drop_at, length-take-le, le-leb}
use Rattle.std.proofs.Math.Seq.{drop-length, take-nil}
use Rattle.std.proofs.lemmas.Bool.{lt-leb}
use Rattle.codec.specs.Buffer.{over, laid, written, over_at, laid_at}
use Rattle.codec.specs.declared.Error.TheVariants.{InsufficientSpace}

-- a part that goes to the end is what is left after its start
pub to_the_end : (p : ℕ) (l : List ℕ) → take (length l - p) (drop p l) ≡ drop p l
to_the_end p l = take_all (length l - p) (drop p l) (simp length-drop (omega arith))

-- the empty part at the end, for a start past it
pub past_the_end : (p : ℕ) (l : List ℕ) → length l ≤ p → take (length l - length l) (drop (length l) l) ≡ drop p l
past_the_end p l h = to_the_end (length l) l ∙ drop-length l ∙ sym (drop_of_length-le l h)

pub over_length : (a l : List ℕ) → length a ≤ length l → length (over a l) ≡ length l
over_length a l h = simp (length-append, length-drop) (omega arith)

-- the two answers of a call that writes, each with what the buffer then holds
pub refused : (bytes out : List ℕ) → length out < length bytes → (Err InsufficientSpace ≡ written bytes out) × (out ≡ laid bytes out)
refused bytes out h = rw (lt-leb _ _ h) (refl, refl)

pub done : (bytes out m : List ℕ) (n : ℕ) → length bytes ≤ length out → n ≡ length bytes → m ≡ over bytes out
    → (Ok n ≡ written bytes out) × (m ≡ laid bytes out)
done bytes out m n h e w = rw (le-leb _ _ h) (ap Ok e, w)

-- `m` is `l` with `a` laid over its start. Its part from the end of `a` on was lent, and came back with `b` laid over that
-- part's start: the whole is then `l` with `a ++ b` laid over its start
pub appended : (a b l m w : List ℕ) (p : ℕ) → p ≡ length a → m ≡ over a l → w ≡ over b (take (length m - p) (drop p m))
    → take p m ++ (w ++ drop (length m - p) (drop p m)) ≡ over (a ++ b) l
appended a b l m w p hp hm hw =
    let t : take p m ≡ a = rw hm (take_at a (drop (length a) l) p (sym hp)) in
    let d : drop p m ≡ drop (length a) l = rw hm (drop_at a (drop (length a) l) p (sym hp)) in
    let k : length (drop p m) ≤ length m - p = simp length-drop (omega arith) in
    let e : drop (length m - p) (drop p m) ≡ [] = drop_of_length-le (drop p m) k in
    rw (t, e, hw, to_the_end p m, d, append-nil, drop-drop, length-append, append_assoc)

-- the part from `p` on was lent, and came back with `b` laid over its start
pub lent_back : (b l w : List ℕ) (p : ℕ) → w ≡ over b (take (length l - p) (drop p l))
    → take p l ++ (w ++ drop (length l - p) (drop p l)) ≡ over_at p b l
lent_back b l w p hw =
    let k : length (drop p l) ≤ length l - p = simp length-drop (omega arith) in
    let e : drop (length l - p) (drop p l) ≡ [] = drop_of_length-le (drop p l) k in
    rw (e, hw, to_the_end p l, append-nil)

-- laid from a position on, where there is room and where there is none
pub laid_at_lem : (pos : ℕ) (bytes out : List ℕ) → pos + length bytes ≤ length out → laid_at pos bytes out ≡ over_at pos bytes out
laid_at_lem pos bytes out h = rw (le-leb _ _ h)

pub kept_at : (pos : ℕ) (bytes out : List ℕ) → length out < pos + length bytes → laid_at pos bytes out ≡ out
kept_at pos bytes out h = rw (lt-leb _ _ h)

-- two writes, one behind the other, are one write of both
pub in_turn : (pos q : ℕ) (a b l : List ℕ) → q ≡ pos + length a → q + length b ≤ length l
    → laid_at q b (laid_at pos a l) ≡ laid_at pos (a ++ b) l
in_turn pos q a b l e h =
    let front = take pos l ++ a in
    let tail = drop (length a) (drop pos l) in
    let n : length front ≡ q = simp length-append (omega (arith, length-take-le pos l (omega arith))) in
    let whole : over_at pos a l ≡ front ++ tail = sym (append_assoc (take pos l) a tail) in
    let k : q + length b ≤ length (front ++ tail) = rw (length-append front tail, length-drop, length-drop) (omega (arith, n)) in
    let step : over_at q b (front ++ tail) ≡ over_at pos (a ++ b) l =
    rw (take_at front tail q n, drop_at front tail q n, drop-drop (length b) (length a) (drop pos l), length-append a b, append_assoc, append_assoc) in
    ap (λ (m : List ℕ). laid_at q b m) (laid_at_lem pos a l (omega arith) ∙ whole) ∙ laid_at_lem q b (front ++ tail) k ∙ step
    ∙ sym (laid_at_lem pos (a ++ b) l (omega (arith, length-append a b)))

-- a write at the start
pub laid_first : (bytes out : List ℕ) → length bytes ≤ length out → laid_at 0 bytes out ≡ over bytes out
laid_first bytes out h = laid_at_lem 0 bytes out (omega arith)

-- the part of `n` bytes from `at` on, cut where the list ends
pub part_past : (at n : ℕ) (l : List ℕ) → length l < at → take (length l - length l) (drop (length l) l) ≡ take n (drop at l)
part_past at n l h = past_the_end at l (omega arith) ∙ rw (drop_of_length-le l {i = at} (omega arith), take-nil)

pub part_cut : (at n : ℕ) (l : List ℕ) → length l - at < n → take (length l - at) (drop at l) ≡ take n (drop at l)
part_cut at n l h = to_the_end at l ∙ sym (take_all n (drop at l) (simp length-drop (omega arith)))

pub part_whole : (at n : ℕ) (l : List ℕ) → take (at + n - at) (drop at l) ≡ take n (drop at l)
part_whole at n l = let e : at + n - at ≡ n = omega arith in rw e
