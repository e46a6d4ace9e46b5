-- NO SHIFT, the code's half: walking from position 0 gives exactly the items of the book, in order, and then the end. By induction over
-- the length of the walk, each step by what is left behind the position.
use Rattle.std.proofs.Common.{ℕ, zero, suc, ◌+◌, ◌-◌, ◌/◌, ◌≤◌, ◌<◌, ◌≡◌, refl, sym, ap, ◌∙◌, Bool, true, false, ◌||◌, List, [], ◌∷◌, arith, length, take, drop, length-drop, drop-drop, take-take, length-take-le, leb, eqb, leb-true, leb-false, le-leb, None}
use Rattle.std.proofs.Math.Nat.{div-eq_of_lt, div-eq-sub-div}
use Rattle.std.proofs.Math.Seq.{take-nil}
use Rattle.codec.specs.Cases.{pick}
use Rattle.att.specs.Wire as wire
use Rattle.att.specs.Wire.{Tail, first, by_format, rows, shape_of, send, tail_decodes, Sent, NotSent}
use Rattle.att.specs.Items.{stretches, items, each_of, items_of}
use Rattle.att.specs.Typed.{Shown, part_of, part_ok, tail_of, means_shown, countable, encoded_shown, show_rsp}
use Rattle.att.specs.declared.Span.{Span}
use Rattle.att.specs.declared.FindInformationUuidFormat.{FindInformationUuidFormat}
use Rattle.att.specs.declared.AttRsp.{AttRsp}
use Rattle.att.specs.declared.AttRsp.TheVariants as rsp
use Rattle.att_items.specs.Iterators.{sent, fitted, item_shown, item_at, onward, walk, Step}
use Rattle.att_items.proofs.StepLaws.{sent_range}

drop_take : (p n : ℕ) (l : List ℕ) → drop p (take n l) ≡ take (n - p) (drop p l)
drop_take zero n l = let e : n - 0 ≡ n = omega arith in rw e
drop_take (suc p) zero l = let e : zero - suc p ≡ 0 = omega arith in rw e
drop_take (suc p) (suc n) [] = rw take-nil
drop_take (suc p) (suc n) (x ∷ xs) = let e : suc n - suc p ≡ n - p = omega arith in rw e (drop_take p n xs)

-- a stretch of a part is a stretch of the whole
cut : (each at len pos : ℕ) (src : List ℕ) → pos + each ≤ len
    → take each (drop (at + pos) src) ≡ take each (drop pos (take len (drop at src)))
cut each at len pos src h =
    sym (ap (take each) (drop_take pos len (drop at src)) ∙ take-take each (len - pos) (drop pos (drop at src)) (omega arith) ∙ ap (take each) (drop-drop pos at src))

stretched : (n each at len pos : ℕ) (src : List ℕ) (step : ℕ → Step) → ((q : ℕ) → step q ≡ fitted each at len q) → 2 ≤ each → len - pos ≤ n
    → walk n step src pos ≡ stretches ((len - pos) / each) each (drop pos (take len (drop at src)))
unfolding fitted
stretched zero each at len pos src step w h k = let d : (len - pos) / each ≡ 0 = div-eq_of_lt {n = len - pos} {m = each} (omega arith) in rw d
stretched (suc n) each at len pos src step w h k = by (leb (pos + each) len) refl (λ g. stretched n each at len (pos + each) src step w h (omega arith)) where
  l : List ℕ
  l = take len (drop at src)

  by : (b : Bool) → leb (pos + each) len ≡ b
      → (pos + each ≤ len → walk n step src (pos + each) ≡ stretches ((len - (pos + each)) / each) each (drop (pos + each) l))
      → onward (step pos) src (walk n step src) ≡ stretches ((len - pos) / each) each (drop pos l)
  by true e more =
      let g : pos + each ≤ len = leb-true (pos + each) len e in
      let i : step pos ≡ item_at (at + pos) each (pos + each) = w pos ∙ rw (le-leb 2 each h, e) in
      let z : len - pos - each ≡ len - (pos + each) = omega arith in
      let d : (len - pos) / each ≡ suc ((len - (pos + each)) / each) =
      div-eq-sub-div {m = each} {n = len - pos} (omega arith) (omega arith) ∙ ap (λ (m : ℕ). m / each + 1) z ∙ omega arith in
      ap (λ (q : Step). onward q src (walk n step src)) i
      ∙ rw (more g, cut each at len pos src g, ← drop-drop each pos l, d)
  by false e more =
      let g : len < pos + each = leb-false (pos + each) len e in
      let i : step pos ≡ None = w pos ∙ rw (le-leb 2 each h, e) in
      let d : (len - pos) / each ≡ 0 = div-eq_of_lt {n = len - pos} {m = each} (omega arith) in
      ap (λ (q : Step). onward q src (walk n step src)) i ∙ rw d

-- a packet that is sent has passed its row's test
passed : (p b : Bool) (x : List ℕ) → sent (pick p (countable (pick b (Sent x) NotSent)) NotSent) ≡ true → b ≡ true
passed true true x h = refl
passed true false x h = h
passed false true x h = refl
passed false false x h = h

row_passed : (s : Shown) (src : List ℕ) → sent (encoded_shown s src) ≡ true
    → tail_decodes (shape_of s.opcode).tail s.numbers (tail_of (shape_of s.opcode).tail s.uuid (part_of s.part src)) ≡ true
unfolding encoded_shown send means_shown
row_passed s src h = passed (part_ok s.part src) _ _ h

-- the items of a packet that is sent, whose row has items, walked by an iterator that is for it
pub walk_gives_the_items : (a b : ℕ) (s : Shown) (src : List ℕ) (n : ℕ) (each : List ℕ → ℕ) (least : ℕ)
    → (shape_of s.opcode).tail ≡ wire.Items each least → sent (encoded_shown s src) ≡ true → (eqb s.opcode a || eqb s.opcode b) ≡ true
    → length src ≤ n → walk n (item_shown a b s src) src 0 ≡ items_of (means_shown s src)
unfolding item_shown items_of items means_shown
walk_gives_the_items a b s src n each least e h g k =
    let ns = s.numbers in
    let d = s.part in
    let r = sent_range s src h in
    let o : 2 ≤ each ns =
    leb-true 2 (each ns) (sym (ap (λ (t : Tail). tail_decodes t ns (tail_of t s.uuid (part_of d src))) e) ∙ row_passed s src h) in
    let f : (q : ℕ) → item_shown a b s src q ≡ fitted (each ns) d.at d.len q =
    λ q. rw (h, g) (ap (λ (t : Tail). fitted (each_of t ns) d.at d.len q) e) in
    let m : length (part_of d src) ≡ d.len - 0 =
    length-take-le d.len (drop d.at src) (simp length-drop (omega (arith, r.0, r.1))) ∙ omega arith in
    stretched n (each ns) d.at d.len 0 src (item_shown a b s src) f o (omega (arith, r.0, r.1))
    ∙ sym (ap (λ (t : Tail). items (each_of t ns) (tail_of t s.uuid (part_of d src))) e ∙ ap (λ (c : ℕ). stretches (c / each ns) (each ns) (part_of d src)) m)

-- another packet, and one that is not sent, has no item at any position
pub other_packet_ends : (a b : ℕ) (s : Shown) (src : List ℕ) (pos : ℕ) → (eqb s.opcode a || eqb s.opcode b) ≡ false → item_shown a b s src pos ≡ None
unfolding item_shown
other_packet_ends a b s src pos g = rw g (by (sent (encoded_shown s src))) where
  by : (t : Bool) → ◌≡◌ {A = Step} (pick t None None) None
  by true = refl
  by false = refl

pub not_sent_ends : (a b : ℕ) (s : Shown) (src : List ℕ) (pos : ℕ) → encoded_shown s src ≡ NotSent → item_shown a b s src pos ≡ None
unfolding item_shown
not_sent_ends a b s src pos e = rw e

-- so it is for the four packets that have items, each with its own iterator
abbrev Walked : ℕ → ℕ → AttRsp → Type 0
Walked a b r =
    (src : List ℕ) (n : ℕ) → sent (encoded_shown (show_rsp r) src) ≡ true → length src ≤ n
    → walk n (item_shown a b (show_rsp r) src) src 0 ≡ items_of (means_shown (show_rsp r) src)

pub information_walked : (f : FindInformationUuidFormat) (d : Span) → Walked 0x05 0x05 (rsp.FindInformation f d)
unfolding shape_of rows
information_walked f d src n h k = walk_gives_the_items 0x05 0x05 (show_rsp (rsp.FindInformation f d)) src n by_format 2 refl h refl k

pub pairs_walked : (d : Span) → Walked 0x07 0x07 (rsp.FindByTypeValue d)
unfolding shape_of rows
pairs_walked d src n h k = walk_gives_the_items 0x07 0x07 (show_rsp (rsp.FindByTypeValue d)) src n (λ ns. 4) 2 refl h refl k

pub values_walked : (c : ℕ) (d : Span) → Walked 0x09 0x11 (rsp.ReadByType c d)
unfolding shape_of rows
values_walked c d src n h k = walk_gives_the_items 0x09 0x11 (show_rsp (rsp.ReadByType c d)) src n first 2 refl h refl k

pub groups_walked : (c : ℕ) (d : Span) → Walked 0x09 0x11 (rsp.ReadByGroupType c d)
unfolding shape_of rows
groups_walked c d src n h k = walk_gives_the_items 0x09 0x11 (show_rsp (rsp.ReadByGroupType c d)) src n first 4 refl h refl k
