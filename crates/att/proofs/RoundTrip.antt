-- The round trips. Each is proved once over the shape of a row: what its fields and its tail do alone decides, whatever the opcode.
use Rattle.std.proofs.Common.{ℕ, ◌%◌, Bool, true, false, ◌&&◌, ◌≡◌, refl, List, [], ◌∷◌, ◌++◌, arith, leb, eqb, length, drop, length-append, take-append-drop, drop_at, le-leb, leb-true, eqb-true}
use Rattle.std.proofs.Math.Seq.{take-length}
use Rattle.codec.specs.Cases.{pick, lookup}
use Rattle.codec.specs.CasesLaws.{both, join}
use Rattle.primitives.specs.Numbers.{Octets}
use Rattle.att.specs.Wire.{Tail, Ends, Rest, Handles, AUuid, Items, NoPacket, Shape, shape, rows, shape_of, total, numbers, tail_decodes, shape_decodes, decodes, tail_strict, shape_strict, strict, Meaning, meaning, kept_tail, shape_means, Means, NotRead, read, whole, sent_tail, sent_fields, Sent, NotSent, shape_sends, send, resent, trimmed}
use Rattle.att.specs.Proper.{Fields, Proper}
use Rattle.att.proofs.FieldBytes.{length_sent, numbers_sent, sent_numbers}

-- what holds of every row and of none holds of the row of any opcode
abbrev every : (Shape → Bool) → List (ℕ × Shape) → Bool
every f [] = true
every f (r ∷ rs) = f r.1 && every f rs

at_every : (f : Shape → Bool) (op : ℕ) (rs : List (ℕ × Shape)) (d : Shape) → every f rs ≡ true → f d ≡ true → f (lookup op rs d) ≡ true
at_every f op [] d e k = k
at_every f op (r ∷ rs) d e k =
    let h = both (f r.1) (every f rs) e in
    by (eqb op r.0) h.0 (at_every f op rs d h.1 k) where
      by : (b : Bool) → f r.1 ≡ true → f (lookup op rs d) ≡ true → f (pick b r.1 (lookup op rs d)) ≡ true
      by true x y = x
      by false x y = y

-- a strict item is at least two bytes long in every row
abbrev sensible : Tail → Bool
sensible Ends = true
sensible Rest = true
sensible Handles = true
sensible AUuid = true
sensible (Items each least) = leb 2 least
sensible NoPacket = true

sensible_row : (op : ℕ) → sensible (shape_of op).tail ≡ true
unfolding shape_of rows
sensible_row op = at_every (λ s. sensible s.tail) op rows (shape [] NoPacket) refl refl

-- strict implies decodes
tail_decodes_lem : (t : Tail) (ns r : List ℕ) → sensible t ≡ true → tail_strict t ns r ≡ true → tail_decodes t ns r ≡ true
tail_decodes_lem Ends ns r k h = refl
tail_decodes_lem Rest ns r k h = refl
tail_decodes_lem Handles ns r k h = refl
tail_decodes_lem AUuid ns r k h = h
tail_decodes_lem (Items each least) ns r k h =
    le-leb 2 (each ns) (omega (arith, leb-true 2 least k, leb-true least (each ns) (both (leb least (each ns)) _ h).0))
tail_decodes_lem NoPacket ns r k h = h

shape_decodes_lem : (s : Shape) (p : List ℕ) → sensible s.tail ≡ true → shape_strict s p ≡ true → shape_decodes s p ≡ true
shape_decodes_lem s p k h =
    let ns = numbers 0 s.fields p in
    let r = drop (total s.fields) p in
    let e = both (tail_strict s.tail ns r) _ h in
    join (tail_decodes_lem s.tail ns r k e.0) e.1

pub strict_decodes : (op : ℕ) (p : List ℕ) → strict (op ∷ p) ≡ true → decodes op p ≡ true
unfolding strict decodes
strict_decodes op p h = shape_decodes_lem (shape_of op) p (sensible_row op) h

-- a strict tail is sent as it came
kept_decodes : (t : Tail) (ns r : List ℕ) → tail_decodes t ns r ≡ true → tail_decodes t ns (kept_tail t r) ≡ true
kept_decodes Ends ns r h = refl
kept_decodes Rest ns r h = refl
kept_decodes Handles ns r h = refl
kept_decodes AUuid ns r h = h
kept_decodes (Items each least) ns r h = h
kept_decodes NoPacket ns r h = h

none_left : (r : List ℕ) → length r ≡ 0 → [] ≡ r
none_left [] h = refl
none_left (x ∷ xs) h = absurd (omega arith)

strict_tail : (t : Tail) (ns r : List ℕ) → tail_strict t ns r ≡ true → sent_tail t ns (kept_tail t r) ≡ r
strict_tail Ends ns r h = none_left r (eqb-true (length r) 0 h)
strict_tail Rest ns r h = refl
strict_tail Handles ns r h = refl
strict_tail AUuid ns r h = refl
strict_tail (Items each least) ns r h =
    let e = (both (leb least (each ns)) _ h).1 in
    let z : length r % each ns ≡ 0 = eqb-true (length r % each ns) 0 (both (leb (each ns) (length r)) _ e).1 in
    let w : whole (length r) (each ns) ≡ length r = omega arith in
    rw w (take-length r)
strict_tail NoPacket ns r h = let z : ◌≡◌ {A = Bool} false true = h in cc

shape_again : (op : ℕ) (s : Shape) (p : List ℕ) → Octets p → shape_decodes s p ≡ true → shape_strict s p ≡ true
    → shape_sends s (shape_means op s p) ≡ Sent (op ∷ p)
shape_again op s p o d h =
    let ns = numbers 0 s.fields p in
    let r = drop (total s.fields) p in
    let e = both (tail_strict s.tail ns r) _ h in
    let k = kept_decodes s.tail ns r (both (tail_decodes s.tail ns r) _ d).0 in
    let l = leb-true (total s.fields) (length p) e.1 in
    rw (k, strict_tail s.tail ns r e.0, sent_numbers s.fields 0 p (omega arith) o, take-append-drop (total s.fields) p)

-- DEMAND 2: a strict packet, decoded and encoded, gives the same bytes.
pub strict_round_trip : (src : List ℕ) → Octets src → strict src ≡ true → resent (read src) ≡ Sent src
unfolding strict decodes read send
strict_round_trip [] o h = let z : ◌≡◌ {A = Bool} false true = h in cc
strict_round_trip (op ∷ p) o h =
    let d = strict_decodes op p h in
    rw d (shape_again op (shape_of op) p o.1 d h)

-- what was sent decodes, and its tail stays
sent_decodes : (t : Tail) (ns r : List ℕ) → tail_decodes t ns r ≡ true → tail_decodes t ns (sent_tail t ns r) ≡ true
sent_decodes Ends ns r h = refl
sent_decodes Rest ns r h = refl
sent_decodes Handles ns r h = refl
sent_decodes AUuid ns r h = h
sent_decodes (Items each least) ns r h = h
sent_decodes NoPacket ns r h = h

sent_kept : (t : Tail) (ns r : List ℕ) → kept_tail t (sent_tail t ns r) ≡ sent_tail t ns r
sent_kept Ends ns r = refl
sent_kept Rest ns r = refl
sent_kept Handles ns r = refl
sent_kept AUuid ns r = refl
sent_kept (Items each least) ns r = refl
sent_kept NoPacket ns r = refl

-- the payload that a shape sends, read by the same shape
shape_back : (op : ℕ) (s : Shape) (ns t : List ℕ) → Fields s.fields ns → tail_decodes s.tail ns t ≡ true
    → pick (shape_decodes s (sent_fields s.fields ns ++ sent_tail s.tail ns t))
    (Means (shape_means op s (sent_fields s.fields ns ++ sent_tail s.tail ns t)))
    NotRead
    ≡ Means (meaning op ns (sent_tail s.tail ns t))
shape_back op s ns t f h =
    let sf = sent_fields s.fields ns in
    let st = sent_tail s.tail ns t in
    let l = length_sent s.fields ns in
    let n : numbers 0 s.fields (sf ++ st) ≡ ns = numbers_sent s.fields ns 0 [] st refl f in
    let d : drop (total s.fields) (sf ++ st) ≡ st = drop_at sf st (total s.fields) l in
    let g : leb (total s.fields) (length (sf ++ st)) ≡ true = le-leb (total s.fields) (length (sf ++ st)) (simp length-append (omega arith)) in
    rw (n, d, sent_decodes s.tail ns t h, g, sent_kept s.tail ns t)

sent_means : (m : Meaning) (b : List ℕ) → send m ≡ Sent b
    → (tail_decodes (shape_of m.opcode).tail m.numbers m.tail ≡ true)
    × (b ≡ m.opcode ∷ (sent_fields (shape_of m.opcode).fields m.numbers ++ sent_tail (shape_of m.opcode).tail m.numbers m.tail))
unfolding send
sent_means m b e = by (tail_decodes (shape_of m.opcode).tail m.numbers m.tail) e where
  by : (t : Bool) → pick t (Sent (m.opcode ∷ (sent_fields (shape_of m.opcode).fields m.numbers ++ sent_tail (shape_of m.opcode).tail m.numbers m.tail))) NotSent ≡ Sent b
      → (t ≡ true)
      × (b ≡ m.opcode ∷ (sent_fields (shape_of m.opcode).fields m.numbers ++ sent_tail (shape_of m.opcode).tail m.numbers m.tail))
  by true q = (refl, cc)
  by false q = (cc, cc)

-- Whatever is encoded and then decoded gives back the same meaning, save that an incomplete last item is gone.
pub encode_round_trip : (m : Meaning) (b : List ℕ) → Proper m → send m ≡ Sent b → read b ≡ Means (trimmed m)
unfolding read decodes trimmed
encode_round_trip m b p e =
    let k = sent_means m b e in
    rw k.1 (shape_back m.opcode (shape_of m.opcode) m.numbers m.tail p.fields k.0)

-- So two packets of different meaning never encode to the same bytes, incomplete items aside.
pub never_alike : (m n : Meaning) (b : List ℕ) → Proper m → Proper n → send m ≡ Sent b → send n ≡ Sent b → trimmed m ≡ trimmed n
never_alike m n b p q e f =
    let x : read b ≡ Means (trimmed m) = encode_round_trip m b p e in
    let y : read b ≡ Means (trimmed n) = encode_round_trip n b q f in
    cc
