-- Laws of one room, step by step.
use Rattle.std.specs.Prelude.{ℕ, ◌+◌, ◌≤◌, ◌<◌, ◌≡◌, Bool, true, false, List, length, drop, get_or, Result, Ok, Err}
use Rattle.std.proofs.Common.{sym, ◌∙◌, add-one, drop_of_length-le}
use Rattle.std.proofs.Math.Seq.{drop-cons}
use borrow.Author.Tests.{eq-eqb, ne_eqb}
use Rattle.codec.specs.Cases.{same}
use Rattle.codec.specs.CasesLaws.{same_is}
use Rattle.codec.specs.Refusals.{refusal_number, refusal_of}
use Rattle.codec.specs.declared.Error.{Error}
use Rattle.cursor.specs.Reading.{rest}
use Rattle.text_put.specs.Put.{first_of}
use Rattle.replay_rooms.specs.Rooms.{all_of, untouched_of, wrote_of}

-- the bytes that were looked at so far
module _ (v : ℕ) (l : List ℕ) (i : ℕ) where
  pub all_more : i < length l → get_or l i 0 ≡ v → all_of v (drop i l) ≡ all_of v (drop (i + 1) l)
  all_more h e = rw (add-one i, drop-cons l i 0, eq-eqb (get_or l i 0) v e)

  pub all_fails : i < length l → (get_or l i 0 ≡ v → ⊥) → all_of v (drop i l) ≡ false
  all_fails h n = rw (drop-cons l i 0, ne_eqb (get_or l i 0) v n)

  pub all_end : length l ≤ i → all_of v (drop i l) ≡ true
  all_end h = rw (drop_of_length-le l {i = i} h)

-- one room: refused with another number, and with this one
module _ (w : Result ℕ Error) (e : Error) (k number v : ℕ) (out : List ℕ) (p : w ≡ Err e) (q : k ≡ refusal_number (refusal_of e)) where
  pub other_number : (k ≡ number → ⊥) → false ≡ untouched_of w number out v
  other_number n = rw (p, sym q, ne_eqb k number n)

  pub this_number : (r : Bool) → k ≡ number → r ≡ all_of v out → r ≡ untouched_of w number out v
  this_number r n a = rw (p, sym q, eq-eqb k number n) a

-- one room: another length, other bytes, and these bytes
module _ (w : Result ℕ Error) (n v : ℕ) (full out : List ℕ) (p : w ≡ Ok n) where
  pub other_length : (n ≡ length full → ⊥) → false ≡ wrote_of w full out v
  other_length h = rw (p, ne_eqb n (length full) h)

  module _ (f : List ℕ) (s : Bool) (h : n ≡ length full) (e : f ≡ first_of n out) (i : (s ≡ true → f ≡ full) × (f ≡ full → s ≡ true)) where
    tested : s ≡ same (first_of n out) full
    tested = same_is s f full i ∙ rw e

    pub other_bytes : s ≡ false → false ≡ wrote_of w full out v
    other_bytes z = let t : same (first_of n out) full ≡ false = sym tested ∙ z in rw (p, eq-eqb n (length full) h, t)

    pub these_bytes : (m : List ℕ) (r : Bool) → s ≡ true → m ≡ rest n out → r ≡ all_of v m → r ≡ wrote_of w full out v
    these_bytes m r z g a = let t : same (first_of n out) full ≡ true = sym tested ∙ z in rw (p, eq-eqb n (length full) h, t) (a ∙ rw g)
