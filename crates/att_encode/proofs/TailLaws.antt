-- A layout with what follows it is sent as the book of the wire says, row by row.
use Rattle.std.proofs.Common.{ℕ, ◌+◌, ◌^◌, ◌<◌, ◌≡◌, refl, sym, ap, ◌∙◌, Bool, true, false, List, [], ◌++◌, length, length-append, ltb, ltb-true, leb, take, Result, Err, Option, Some, None}
use Rattle.codec.specs.Buffer.{laid, written}
use Rattle.codec.specs.Cases.{pick}
use Rattle.codec.specs.CasesLaws.{impossible}
use Rattle.codec.specs.declared.Error.{Error}
use Rattle.codec.specs.declared.Error.TheVariants.{InvalidValue}
use Rattle.ble_uuid.specs.Uuids.{on_air}
use Rattle.ble_uuid.specs.declared.Uuid.{Uuid}
use Rattle.att.specs.Wire as wire
use Rattle.att.specs.Wire.{shape_of, sent_tail, tail_decodes, uuid_length, Coded, Sent, NotSent, send}
use Rattle.att.specs.Typed.{Shown, show_att, part_of, part_ok, tail_of, means_shown, countable, encoded_shown, encoded, written_of, laid_of}
use Rattle.att.specs.declared.Att.{Att}
use Rattle.att_layout.specs.Layout.{head_bytes, shown_head, follows_of, layout_of}
use Rattle.att_layout.specs.LayoutLaws.{heads}
use Rattle.att_layout.specs.declared.Layout.{Layout}
use Rattle.att_encode.specs.Tail.{following, counted, tail_bytes, coded}

-- a head with the bytes that follow it, sent where the length can be counted
whole_coded : (h t : List ℕ) → countable (Sent (h ++ t)) ≡ coded h (counted (length h) (Some t))
whole_coded h t = rw (length-append h t) (by (ltb (length h + length t) (2 ^ 64))) where
  by : (b : Bool) → pick b (Sent (h ++ t)) NotSent ≡ coded h (pick b (Some t) None)
  by true = refl
  by false = refl

-- where a test decides
tested : (h t : List ℕ) (b : Bool) → countable (pick b (Sent (h ++ t)) NotSent) ≡ coded h (counted (length h) (pick b (Some t) None))
tested h t true = whole_coded h t
tested h t false = refl

-- row by row
tail_coded : (t : wire.Tail) (h ns : List ℕ) (u : Uuid) (d : List ℕ)
    → countable (pick (tail_decodes t ns (tail_of t u d)) (Sent (h ++ sent_tail t ns (tail_of t u d))) NotSent)
    ≡ coded h (counted (length h) (following (follows_of t ns u) d))
tail_coded wire.Ends h ns u d = whole_coded h []
tail_coded wire.Rest h ns u d = whole_coded h d
tail_coded wire.Handles h ns u d = whole_coded h d
tail_coded wire.AUuid h ns u d = tested h (on_air u) (uuid_length (length (on_air u)))
tail_coded (wire.Items each least) h ns u d = tested h (take (wire.whole (length d) (each ns)) d) (leb 2 (each ns))
tail_coded wire.NoPacket h ns u d = refl

-- the whole: what is sent of a shown packet is what its layout and its tail say
pub layout_coded : (s : Shown) (src : List ℕ) → encoded_shown s src ≡ coded (shown_head s) (tail_bytes (layout_of s) src)
unfolding encoded_shown means_shown send layout_of tail_bytes
layout_coded s src = by (part_ok s.part src) where
  t : wire.Tail
  t = (shape_of s.opcode).tail

  r : List ℕ
  r = tail_of t s.uuid (part_of s.part src)

  by : (b : Bool) → pick b (countable (pick (tail_decodes t s.numbers r) (Sent (shown_head s ++ sent_tail t s.numbers r)) NotSent)) NotSent
      ≡ coded (shown_head s) (pick b (counted (length (shown_head s)) (following (follows_of t s.numbers s.uuid) (part_of s.part src))) None)
  by true = tail_coded t (shown_head s) s.numbers s.uuid (part_of s.part src)
  by false = refl

-- by what the calls of the code answer
module _ (a : Att) (src : List ℕ) (l : Layout) (laid_out : l ≡ layout_of (show_att a)) where
  headed : head_bytes l.opcode l.fields ≡ shown_head (show_att a)
  headed = ap (λ (k : Layout). head_bytes k.opcode k.fields) laid_out ∙ heads a

  pub head_counted : l.len ≡ length (head_bytes l.opcode l.fields)
  unfolding layout_of
  head_counted = ap (λ (k : Layout). k.len) laid_out ∙ sym (ap length headed)

  att_coded : encoded a src ≡ coded (head_bytes l.opcode l.fields) (tail_bytes l src)
  att_coded =
      layout_coded (show_att a) src
      ∙ sym (ap (λ (k : Layout). coded (head_bytes k.opcode k.fields) (tail_bytes k src)) laid_out
      ∙ ap (λ (h : List ℕ). coded h (tail_bytes (layout_of (show_att a)) src)) (heads a))

  pub sent : (t : List ℕ) → Some t ≡ tail_bytes l src → encoded a src ≡ Sent (head_bytes l.opcode l.fields ++ t)
  sent t e = att_coded ∙ sym (ap (coded (head_bytes l.opcode l.fields)) e)

  pub not_sent : None ≡ tail_bytes l src → encoded a src ≡ NotSent
  not_sent e = att_coded ∙ sym (ap (coded (head_bytes l.opcode l.fields)) e)

-- bytes that follow can be counted
pub countable_tail : (l : Layout) (src t : List ℕ) → Some t ≡ tail_bytes l src → l.len + length t < 2 ^ 64
unfolding tail_bytes
countable_tail l src t e = by (part_ok l.part src) (following l.follows (part_of l.part src)) e where
  one : (x : List ℕ) (b : Bool) → ltb (l.len + length x) (2 ^ 64) ≡ b → Some t ≡ pick b (Some x) None → l.len + length t < 2 ^ 64
  one x true f g = let s : t ≡ x = cc in rw s (ltb-true _ _ f)
  one x false f g = impossible (cc)

  by : (b : Bool) (o : Option (List ℕ)) → Some t ≡ pick b (counted l.len o) None → l.len + length t < 2 ^ 64
  by true (Some x) g = one x (ltb (l.len + length x) (2 ^ 64)) refl g
  by true None g = impossible (cc)
  by false o g = impossible (cc)

-- what writing the bytes of a packet answers and leaves, and what a packet that is not sent does
pub written_sent : (k : Coded) (b out : List ℕ) (r : Result ℕ Error) → k ≡ Sent b → r ≡ written b out → r ≡ written_of k out
written_sent k b out r e w = rw e w

pub laid_sent : (k : Coded) (b out m : List ℕ) → k ≡ Sent b → m ≡ laid b out → m ≡ laid_of k out
laid_sent k b out m e w = rw e w

pub written_not : (k : Coded) (out : List ℕ) → k ≡ NotSent → Err InvalidValue ≡ written_of k out
written_not k out e = rw e

pub laid_not : (k : Coded) (out : List ℕ) → k ≡ NotSent → out ≡ laid_of k out
laid_not k out e = rw e
