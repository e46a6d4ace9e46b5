-- An item of a packet lies within the received bytes, by the tests that led to it; and a laid_out packet gives the item that the
-- shown packet has.
use Rattle.std.proofs.Common.{ℕ, ◌+◌, ◌-◌, ◌≤◌, ◌≡◌, refl, sym, ap, subst, ◌∙◌, Bool, true, false, ◌&&◌, ◌||◌, ◌⊎◌, inl, inr, List, arith, length, take, drop, length-drop, length-take-le, leb, eqb, leb-true, eqb-true, Ok, Err, Some, None}
use Rattle.codec.specs.Cases.{pick}
use Rattle.codec.specs.declared.Error.{Error}
use Rattle.cursor.specs.Reading.{sliced}
use Rattle.cursor.proofs.PositionLaws.{gives}
use Rattle.ble_uuid.specs.Uuids.{uuid_of, sliced as sliced_uuid}
use Rattle.ble_uuid.specs.UuidsLaws.{sliced_short, sliced_long}
use Rattle.ble_uuid.specs.declared.Uuid.{Uuid}
use Rattle.att.specs.Wire as wire
use Rattle.att.specs.Wire.{by_format, rows, shape_of, send, Coded, Sent, NotSent}
use Rattle.att.specs.Items.{each_of}
use Rattle.att.specs.Typed.{Shown, countable, means_shown, encoded_shown, length_of}
use Rattle.att_layout.specs.Layout.{follows_of, layout_of}
use Rattle.att_layout.specs.declared.Layout.{Layout}
use Rattle.att_items.specs.Iterators.{sent, fitted, each_shown, item_shown, item_at, found_bytes, each_by, of_layout, Step}
use Rattle.att_items.specs.declared.Found.{Found}

-- what the size tells
pub size_sent : (k : Coded) (n : ℕ) → length_of k ≡ Ok n → sent k ≡ true
size_sent (Sent b) n e = refl
size_sent NotSent n e = cc

pub no_size : (k : Coded) (r : Error) → length_of k ≡ Err r → sent k ≡ false
no_size (Sent b) r e = cc
no_size NotSent r e = refl

-- a packet that is sent has its range within the received bytes
pub sent_range : (s : Shown) (src : List ℕ) → sent (encoded_shown s src) ≡ true
    → (s.part.at ≤ length src) × (s.part.len ≤ length src - s.part.at)
unfolding encoded_shown
sent_range s src h = by (leb s.part.at (length src)) (leb s.part.len (length src - s.part.at)) refl refl h where
  by : (a b : Bool) → leb s.part.at (length src) ≡ a → leb s.part.len (length src - s.part.at) ≡ b
      → sent (pick (a && b) (countable (send (means_shown s src))) NotSent) ≡ true
      → (s.part.at ≤ length src) × (s.part.len ≤ length src - s.part.at)
  by true true e f h = (leb-true _ _ e, leb-true _ _ f)
  by true false e f h = (leb-true _ _ e, leb-true _ _ (f ∙ h))
  by false true e f h = (leb-true _ _ (e ∙ h), leb-true _ _ f)
  by false false e f h = (leb-true _ _ (e ∙ h), leb-true _ _ (f ∙ h))

-- the item of a laid_out packet
each_row : (t : wire.Tail) (ns : List ℕ) (u : Uuid) → each_by (follows_of t ns u) ≡ each_of t ns
each_row wire.Ends ns u = refl
each_row wire.Rest ns u = refl
each_row wire.Handles ns u = refl
each_row wire.AUuid ns u = refl
each_row (wire.Items each least) ns u = refl
each_row wire.NoPacket ns u = refl

laid_out : (a b : ℕ) (s : Shown) (pos : ℕ)
    → of_layout a b (layout_of s) pos
    ≡ pick (eqb s.opcode a || eqb s.opcode b) (fitted (each_shown s) s.part.at s.part.len pos) None
unfolding of_layout layout_of
laid_out a b s pos =
    ap
    (λ (n : ℕ). pick (eqb s.opcode a || eqb s.opcode b) (fitted n s.part.at s.part.len pos) None)
    (each_row (shape_of s.opcode).tail s.numbers s.uuid)

pub item_sent : (a b : ℕ) (s : Shown) (src : List ℕ) (pos : ℕ) (l : Layout) → l ≡ layout_of s → sent (encoded_shown s src) ≡ true
    → of_layout a b l pos ≡ item_shown a b s src pos
unfolding item_shown
item_sent a b s src pos l e h = rw h (ap (λ (k : Layout). of_layout a b k pos) e ∙ laid_out a b s pos)

pub item_refused : (a b : ℕ) (s : Shown) (src : List ℕ) (pos : ℕ) → sent (encoded_shown s src) ≡ false → None ≡ item_shown a b s src pos
unfolding item_shown
item_refused a b s src pos h = rw h

-- an item has its handle, and ends where the received bytes do or before
abbrev pub Inside : Step → ℕ → Type 0
Inside (Some f) all = (f.at + f.len ≤ all) × (2 ≤ f.len)
Inside None all = Unit

fitted_inside : (each at len pos all : ℕ) → at ≤ all → len ≤ all - at → Inside (fitted each at len pos) all
unfolding fitted
fitted_inside each at len pos all h k = by (leb 2 each) (leb (pos + each) len) refl refl where
  by : (a b : Bool) → leb 2 each ≡ a → leb (pos + each) len ≡ b → Inside (pick (a && b) (item_at (at + pos) each (pos + each)) None) all
  by true true e f = let g = leb-true (pos + each) len f in (omega arith, leb-true _ _ e)
  by true false e f = tt
  by false b e f = tt

item_inside : (a b : ℕ) (s : Shown) (src : List ℕ) (pos : ℕ) → Inside (item_shown a b s src pos) (length src)
unfolding item_shown
item_inside a b s src pos = by (sent (encoded_shown s src)) (eqb s.opcode a || eqb s.opcode b) refl where
  by : (g n : Bool) → sent (encoded_shown s src) ≡ g
      → Inside (pick g (pick n (fitted (each_shown s) s.part.at s.part.len pos) None) None) (length src)
  by true true e = let r = sent_range s src e in fitted_inside (each_shown s) s.part.at s.part.len pos (length src) r.0 r.1
  by true false e = tt
  by false n e = tt

-- an item has the length of its packet's items, and its packet an opcode of the iterator
abbrev Each : ℕ → ℕ → Shown → Step → Type 0
Each a b s (Some f) = (f.len ≡ each_shown s) × ((eqb s.opcode a || eqb s.opcode b) ≡ true)
Each a b s None = Unit

item_each : (a b : ℕ) (s : Shown) (src : List ℕ) (pos : ℕ) → Each a b s (item_shown a b s src pos)
unfolding item_shown fitted
item_each a b s src pos = by (sent (encoded_shown s src)) (eqb s.opcode a || eqb s.opcode b) refl (leb 2 (each_shown s) && leb (pos + each_shown s) s.part.len) where
  by : (g n : Bool) → (eqb s.opcode a || eqb s.opcode b) ≡ n → (t : Bool)
      → Each a b s (pick g (pick n (pick t (item_at (s.part.at + pos) (each_shown s) (pos + each_shown s)) None) None) None)
  by true true e true = (refl, e)
  by true true e false = tt
  by true false e t = tt
  by false n e t = tt

either : (b : Bool) → (b || b) ≡ true → b ≡ true
either true e = refl
either false e = e

-- of an iterator for one packet: the length of its items
each_found : (op : ℕ) (s : Shown) (src : List ℕ) (pos : ℕ) (f : Found) → Some f ≡ item_shown op op s src pos
    → f.len ≡ each_of (shape_of op).tail s.numbers
each_found op s src pos f e =
    let w : Each op op s (Some f) = subst (λ (q : Step). Each op op s q) (sym e) (item_each op op s src pos) in
    w.0 ∙ ap (λ (o : ℕ). each_of (shape_of o).tail s.numbers) (eqb-true s.opcode op (either (eqb s.opcode op) w.1))

-- The bytes of an item, as the cursor cuts them out.
module _ (a b : ℕ) (s : Shown) (src : List ℕ) (pos : ℕ) (f : Found) (told : Some f ≡ item_shown a b s src pos) where
  pub found_inside : (f.at + f.len ≤ length src) × (2 ≤ f.len)
  found_inside = subst (λ (q : Step). Inside q (length src)) (sym told) (item_inside a b s src pos)

  pub cut : (i : List ℕ) → i ≡ sliced f.at src f.len → i ≡ found_bytes f src
  cut i e = e ∙ gives f.at (length src) f.len (take f.len (drop f.at src)) found_inside.0

  pub cut_length : (i : List ℕ) → i ≡ sliced f.at src f.len → length i ≡ f.len
  cut_length i e = ap length (cut i e) ∙ length-take-le f.len (drop f.at src) (simp length-drop (omega (arith, found_inside.0)))

-- a pair of 07 has 4 bytes, one of 05 has 4 or 18
pub pair_length : (s : Shown) (src : List ℕ) (pos : ℕ) (f : Found) → Some f ≡ item_shown 0x07 0x07 s src pos → f.len ≡ 4
unfolding shape_of rows
pair_length s src pos f e = each_found 0x07 s src pos f e

format_length : (ns : List ℕ) (n : ℕ) → 2 ≤ n → n ≡ by_format ns → (n ≡ 4) ⊎ (n ≡ 18)
format_length ns n h e = by (eqb (wire.first ns) 1) (eqb (wire.first ns) 2) e where
  by : (x y : Bool) → n ≡ pick x 4 (pick y 18 0) → (n ≡ 4) ⊎ (n ≡ 18)
  by true y k = inl k
  by false true k = inr k
  by false false k = absurd (omega arith)

pub information_length : (s : Shown) (src : List ℕ) (pos : ℕ) (f : Found) → Some f ≡ item_shown 0x05 0x05 s src pos → (f.len ≡ 4) ⊎ (f.len ≡ 18)
unfolding shape_of rows
information_length s src pos f e = format_length s.numbers f.len (found_inside 0x05 0x05 s src pos f e).1 (each_found 0x05 s src pos f e)

-- what is left behind the handle of a pair of 05 is a UUID
pub uuid_left : (i r : List ℕ) → r ≡ drop 2 i → (length i ≡ 4) ⊎ (length i ≡ 18) → sliced_uuid r ≡ Ok (uuid_of r)
uuid_left i r e (inl h) =
    let l : length r ≡ 2 = ap length e ∙ length-drop 2 i ∙ omega arith in
    rw (sliced_short r l) refl
uuid_left i r e (inr h) =
    let l : length r ≡ 16 = ap length e ∙ length-drop 2 i ∙ omega arith in
    rw (sliced_long r l) refl
