-- Encoding and then decoding, in the code's types: what the bytes of an encoded packet decode to means the same packet, save that an
-- incomplete last item is gone. The tests of the encoder take nothing from what is sent; the rest is the book's round trip.
use Rattle.std.proofs.Common.{ℕ, ◌^◌, ◌≡◌, ◌∙◌, Bool, true, false, List, length, ltb}
use Rattle.codec.specs.Cases.{pick}
use Rattle.att.specs.Wire.{Coded, Sent, NotSent, Means, send, trimmed}
use Rattle.att.specs.Proper.{Held}
use Rattle.att.specs.Typed.{meaning_of, part_ok, countable, encoded, encoded_shown, show_att, decoded, read_of}
use Rattle.att.specs.declared.Att.{Att}
use Rattle.att.proofs.Proper.{held_proper}
use Rattle.att.proofs.RoundTrip.{encode_round_trip}
use Rattle.att.proofs.TypedMeans.{decoded_means}

counted : (k : Coded) (b : List ℕ) → countable k ≡ Sent b → k ≡ Sent b
counted (Sent x) b e = by (ltb (length x) (2 ^ 64)) e where
  by : (t : Bool) → pick t (Sent x) NotSent ≡ Sent b → Sent x ≡ Sent b
  by true e = e
  by false e = cc
counted NotSent b e = e

tested : (t : Bool) (k : Coded) (b : List ℕ) → pick t (countable k) NotSent ≡ Sent b → k ≡ Sent b
tested true k b e = counted k b e
tested false k b e = cc

pub encode_then_decode : (a : Att) (src b : List ℕ) → Held a → encoded a src ≡ Sent b → read_of (decoded b) b ≡ Means (trimmed (meaning_of a src))
unfolding encoded_shown
encode_then_decode a src b p e =
    let s : send (meaning_of a src) ≡ Sent b = tested (part_ok (show_att a).part src) (send (meaning_of a src)) b e in
    decoded_means b ∙ encode_round_trip (meaning_of a src) b (held_proper a src p) s
