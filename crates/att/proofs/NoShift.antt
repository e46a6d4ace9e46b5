-- NO SHIFT: one half of the auditor's sentence. The items of a packet are exactly the consecutive stretches of the item length from
-- the first byte behind the fixed fields on: item k starts at k times the length, joined they are the data without its incomplete
-- end, and the items of an encoded list are that list. By induction over the number of stretches.
use Rattle.std.proofs.Common.{ℕ, zero, suc, ◌+◌, ◌*◌, ◌/◌, ◌<◌, ◌≡◌, refl, ◌∙◌, List, [], ◌∷◌, zero-mul, suc-mul, div-add-mod', mul-div_cancel, arith, length, take, drop, get_or, length-append, take-add, drop-drop, take_at, drop_at}
use Rattle.att.specs.Wire.{whole}
use Rattle.att.specs.Items.{stretches, items, joined}

stretch_at : (n each : ℕ) (l : List ℕ) (k : ℕ) → k < n → get_or (stretches n each l) k [] ≡ take each (drop (k * each) l)
stretch_at zero each l k h = absurd (omega arith)
stretch_at (suc n) each l zero h = rw zero-mul
stretch_at (suc n) each l (suc k) h =
    let e : each + k * each ≡ suc k * each = omega (arith, suc-mul k each) in
    stretch_at n each (drop each l) k (omega arith) ∙ rw (drop-drop (k * each) each l, e)

stretches_join : (n each : ℕ) (l : List ℕ) → joined (stretches n each l) ≡ take (n * each) l
stretches_join zero each l = rw zero-mul
stretches_join (suc n) each l =
    let e : suc n * each ≡ each + n * each = omega (arith, suc-mul n each) in
    rw (e, stretches_join n each (drop each l), take-add each (n * each) l)

-- item k stands at k times the item length
pub item_at : (each : ℕ) (l : List ℕ) (k : ℕ) → k < length l / each → get_or (items each l) k [] ≡ take each (drop (k * each) l)
unfolding items
item_at each l k h = stretch_at (length l / each) each l k h

-- joined, the items are the data without its incomplete end
pub items_join : (each : ℕ) (l : List ℕ) → joined (items each l) ≡ take (whole (length l) each) l
unfolding items
items_join each l =
    let e : length l / each * each ≡ whole (length l) each = omega (arith, div-add-mod' (length l) each) in
    stretches_join (length l / each) each l ∙ rw e

-- all items of one length
abbrev pub AllOf : ℕ → List (List ℕ) → Type 0
AllOf each [] = Unit
AllOf each (x ∷ xs) = (length x ≡ each) × AllOf each xs

length_joined : (each : ℕ) (xs : List (List ℕ)) → AllOf each xs → length (joined xs) ≡ length xs * each
length_joined each [] a = rw zero-mul
length_joined each (x ∷ xs) a = simp length-append (omega (arith, a.0, length_joined each xs a.1, suc-mul (length xs) each))

join_stretches : (each : ℕ) (xs : List (List ℕ)) → AllOf each xs → stretches (length xs) each (joined xs) ≡ xs
join_stretches each [] a = refl
join_stretches each (x ∷ xs) a =
    rw (take_at x (joined xs) each a.0, drop_at x (joined xs) each a.0, join_stretches each xs a.1)

-- the items of an encoded list are that list
pub items_of_joined : (each : ℕ) (xs : List (List ℕ)) → 0 < each → AllOf each xs → items each (joined xs) ≡ xs
unfolding items
items_of_joined each xs h a =
    let e : length (joined xs) / each ≡ length xs = rw (length_joined each xs a) (mul-div_cancel (length xs) h) in
    rw e (join_stretches each xs a)
