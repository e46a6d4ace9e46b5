-- What the typed packet of some bytes means is what the wire reads in them. The two tables, of rows and of typed packets, are gone
-- through side by side: at each opcode the typed packet shows that opcode, the row's numbers and its range.
use Rattle.std.proofs.Common.{ℕ, ◌+◌, ◌-◌, ◌^◌, ◌≤◌, ◌<◌, Bool, true, false, ◌||◌, ◌≡◌, refl, sym, ap, ◌∙◌, List, [], ◌∷◌, add-one, arith, leb, eqb, length, drop, length-drop, take_all, eqb-true, leb-true, le-leb, lt-ltb, Ok, Err, rules}
use Rattle.codec.specs.Cases.{pick, lookup}
use Rattle.codec.specs.CasesLaws.{impossible, both, join}
use Rattle.primitives.specs.Numbers.{number_at, Octets}
use Rattle.ble_uuid.specs.Uuids.{on_air, no_uuid, uuid_of}
use Rattle.ble_uuid.specs.UuidsLaws.{sliced_short, sliced_long, on_air_own, own_array}
use Rattle.ble_uuid.specs.declared.Uuid.{Uuid}
use Rattle.ble_uuid.specs.declared.Uuid.TheVariants as uuid
use Rattle.att.specs.Wire.{Tail, Ends, Rest, Handles, AUuid, Items, by_format, NoPacket, Shape, shape, rows, shape_of, total, numbers, uuid_length, tail_decodes, shape_decodes, decodes, meaning, kept_tail, shape_means, Means, NotRead, read, strict, Sent, send, resent}
use Rattle.att.specs.Typed.{Build, builds, build_of, refused_build, behind, uuid_in, shape_builds, refusal, row_decoded, Parsed, decoded, shown, shown_all, span, show_att, part_of, part_ok, tail_of, means_shown, countable, encoded_shown, encoded_again, read_of}
use Rattle.att.proofs.RoundTrip.{strict_decodes, strict_round_trip}
use Rattle.att.specs.Formats.{format_number, format_of}
use Rattle.att.specs.declared.FindInformationUuidFormat.TheVariants.{Uuid16, Uuid128}
use Rattle.att.specs.declared.Span.{Span}

-- the range that a typed packet shows: that of its data, or an empty one
abbrev ranged : Tail → Span → Span
ranged Ends d = span 0 0
ranged Rest d = d
ranged Handles d = d
ranged AUuid d = span 0 0
ranged (Items each least) d = d
ranged NoPacket d = span 0 0

-- the UUID that a typed packet shows
abbrev carried : Tail → Uuid → Uuid
carried Ends u = no_uuid
carried Rest u = no_uuid
carried Handles u = no_uuid
carried AUuid u = u
carried (Items each least) u = no_uuid
carried NoPacket u = no_uuid

abbrev ShownBy : ℕ → Tail → List ℕ → Uuid → Span → Parsed → Type 0
ShownBy op t ns u d (Ok a) = show_att a ≡ shown_all op ns (carried t u) (ranged t d)
ShownBy op t ns u d (Err e) = ⊥

abbrev Fine : ℕ → Shape → Build → Type 0
Fine op s b =
    (p : List ℕ) (u : Uuid) (d : Span) → shape_decodes s p ≡ true → ShownBy op s.tail (numbers 0 s.fields p) u d (b (numbers 0 s.fields p) u d)

abbrev Agree : List (ℕ × Shape) → List (ℕ × Build) → Type 0
Agree [] [] = Unit
Agree [] (b ∷ bs) = ⊥
Agree (r ∷ rs) [] = ⊥
Agree (r ∷ rs) (b ∷ bs) = (r.0 ≡ b.0) × (Fine r.0 r.1 b.1 × Agree rs bs)

-- the format of a packet that decodes is one of the two
format_back : (n : ℕ) → leb 2 (by_format (n ∷ [])) ≡ true → format_number (format_of n) ≡ n
format_back n h = by (eqb n 1) refl (eqb n 2) refl h where
  by : (x : Bool) → eqb n 1 ≡ x → (y : Bool) → eqb n 2 ≡ y → leb 2 (pick x 4 (pick y 18 0)) ≡ true → format_number (pick y Uuid128 Uuid16) ≡ n
  by true e true f k = sym (eqb-true n 2 f)
  by true e false f k = sym (eqb-true n 1 e)
  by false e true f k = sym (eqb-true n 2 f)
  by false e false f k = let z : ◌≡◌ {A = Bool} false true = k in impossible (cc)

shows_format : (p : List ℕ) (d : Span) → shape_decodes (shape (1 ∷ []) (Items by_format 2)) p ≡ true
    → shown 0x05 (format_number (format_of (number_at 1 0 p)) ∷ []) d ≡ shown 0x05 (number_at 1 0 p ∷ []) d
shows_format p d h =
    ap (λ (n : ℕ). shown 0x05 (n ∷ []) d)
    (format_back (number_at 1 0 p) (both (leb 2 (by_format (number_at 1 0 p ∷ []))) (leb 1 (length p)) h).0)

agree : Agree rows builds
unfolding rows builds
agree = search (rules, shows_format)

-- an opcode that decodes has a row, and the typed packet of that row
agree_at : (op : ℕ) (rs : List (ℕ × Shape)) (bs : List (ℕ × Build)) → Agree rs bs
    → Fine op (lookup op rs (shape [] NoPacket)) (lookup op bs refused_build)
agree_at op [] [] g = λ p u d h. let z : ◌≡◌ {A = Bool} false true = h in impossible (cc)
agree_at op [] (b ∷ bs) g = absurd g
agree_at op (r ∷ rs) [] g = absurd g
agree_at op (r ∷ rs) (b ∷ bs) g = by (eqb op r.0) refl (eqb op b.0) (ap (eqb op) g.0) (agree_at op rs bs g.1.1) where
  by : (x : Bool) → eqb op r.0 ≡ x → (y : Bool) → eqb op r.0 ≡ y
      → Fine op (lookup op rs (shape [] NoPacket)) (lookup op bs refused_build)
      → Fine op (pick x r.1 (lookup op rs (shape [] NoPacket))) (pick y b.1 (lookup op bs refused_build))
  by true e true f rest = λ p u d h. rw (eqb-true op r.0 e) (g.1.0 p u d h)
  by true e false f rest = impossible (cc)
  by false e true f rest = impossible (cc)
  by false e false f rest = rest

-- the bytes behind the fixed fields are those of the range, or of the UUID
behind_part : (k op : ℕ) (p : List ℕ) → part_of (behind k p) (op ∷ p) ≡ drop k p
behind_part k op p = rw (add-one k) (take_all (length p - k) (drop k p) (simp length-drop (omega arith)))

-- a UUID of 2 or 16 bytes is carried in the bytes that it was read from
air_of : (r : List ℕ) (n : ℕ) → uuid_length n ≡ true → length r ≡ n → on_air (uuid_of r) ≡ r
air_of r n h e = by (eqb n 2) refl h where
  by : (x : Bool) → eqb n 2 ≡ x → (x || eqb n 16) ≡ true → on_air (uuid_of r) ≡ r
  by true f k =
      let l : length r ≡ 2 = omega (arith, eqb-true n 2 f) in
      rw (sliced_short r l) (on_air_own (uuid.Uuid16 r) (λ b z. impossible (cc)) ∙ own_array (uuid.Uuid16 r) l)
  by false f k =
      let l : length r ≡ 16 = omega (arith, eqb-true n 16 k) in
      rw (sliced_long r l) (on_air_own (uuid.Uuid128 r) (λ b z. impossible (cc)) ∙ own_array (uuid.Uuid128 r) l)

tail_same : (t : Tail) (k op : ℕ) (p ns : List ℕ) → tail_decodes t ns (drop k p) ≡ true
    → tail_of t (carried t (uuid_in t (drop k p))) (part_of (ranged t (behind k p)) (op ∷ p)) ≡ kept_tail t (drop k p)
tail_same Ends k op p ns h = refl
tail_same Rest k op p ns h = behind_part k op p
tail_same Handles k op p ns h = behind_part k op p
tail_same AUuid k op p ns h = air_of (drop k p) (length (drop k p)) h refl
tail_same (Items each least) k op p ns h = behind_part k op p
tail_same NoPacket k op p ns h = refl

answer_means : (op : ℕ) (p : List ℕ) (a : Parsed) (ns : List ℕ) (u : Uuid) (d : Span) (t : Tail) → ShownBy op t ns u d a → t ≡ (shape_of op).tail
    → read_of a (op ∷ p) ≡ Means (meaning op ns (tail_of t (carried t u) (part_of (ranged t d) (op ∷ p))))
unfolding means_shown
answer_means op p (Ok a) ns u d t h e = rw (h, e)
answer_means op p (Err x) ns u d t h e = absurd h

read_decodes : (op : ℕ) (p : List ℕ) → shape_decodes (shape_of op) p ≡ true → read (op ∷ p) ≡ Means (shape_means op (shape_of op) p)
unfolding read decodes
read_decodes op p d = rw d

pub decoded_means : (src : List ℕ) → read_of (decoded src) src ≡ read src
unfolding decoded row_decoded read decodes build_of shape_of
decoded_means [] = refl
decoded_means (op ∷ p) = by (shape_decodes (shape_of op) p) refl where
  by : (x : Bool) → shape_decodes (shape_of op) p ≡ x
      → read_of (pick x (shape_builds (shape_of op) (build_of op) p) refusal) (op ∷ p)
      ≡ pick x (Means (shape_means op (shape_of op) p)) NotRead
  by true e =
      let s = shape_of op in
      let k = total s.fields in
      let ns = numbers 0 s.fields p in
      let u = uuid_in s.tail (drop k p) in
      answer_means op p (build_of op ns u (behind k p)) ns u (behind k p) s.tail (agree_at op rows builds agree p u (behind k p) e) refl
      ∙ ap (λ (t : List ℕ). Means (meaning op ns t)) (tail_same s.tail k op p ns (both (tail_decodes s.tail ns (drop k p)) _ e).0)
  by false e = refl

-- Decoding and then encoding, in the code's types.
part_ok_lem : (t : Tail) (k op : ℕ) (p : List ℕ) → k ≤ length p → part_ok (ranged t (behind k p)) (op ∷ p) ≡ true
part_ok_lem t k op p h = by t where
  none : part_ok (span 0 0) (op ∷ p) ≡ true
  none = join (le-leb 0 (length (op ∷ p)) (omega arith)) (le-leb 0 (length (op ∷ p) - 0) (omega arith))

  some : part_ok (behind k p) (op ∷ p) ≡ true
  some = join (le-leb (k + 1) (length (op ∷ p)) (omega arith)) (le-leb (length p - k) (length (op ∷ p) - (k + 1)) (omega arith))

  by : (t : Tail) → part_ok (ranged t (behind k p)) (op ∷ p) ≡ true
  by Ends = none
  by Rest = some
  by Handles = some
  by AUuid = none
  by (Items each least) = some
  by NoPacket = none

answer_encodes : (op : ℕ) (p : List ℕ) (a : Parsed) (ns : List ℕ) (u : Uuid) (d : Span) (t : Tail) → ShownBy op t ns u d a → t ≡ (shape_of op).tail
    → part_ok (ranged t d) (op ∷ p) ≡ true
    → encoded_again a (op ∷ p) ≡ countable (send (meaning op ns (tail_of t (carried t u) (part_of (ranged t d) (op ∷ p)))))
unfolding encoded_shown means_shown
answer_encodes op p (Ok a) ns u d t h e k = rw (h, k, e)
answer_encodes op p (Err x) ns u d t h e k = absurd h

-- DEMAND 2, of the code's own definitions: a strict packet, decoded and encoded over the bytes it came in, gives the same bytes.
pub strict_packet_same_bytes : (src : List ℕ) → Octets src → length src < 2 ^ 64 → strict src ≡ true → encoded_again (decoded src) src ≡ Sent src
unfolding decoded row_decoded decodes build_of shape_of strict
strict_packet_same_bytes [] o l h = let z : ◌≡◌ {A = Bool} false true = h in cc
strict_packet_same_bytes (op ∷ p) o l h =
    let d : shape_decodes (shape_of op) p ≡ true = strict_decodes op p h in
    let s = shape_of op in
    let k = total s.fields in
    let ns = numbers 0 s.fields p in
    let u = uuid_in s.tail (drop k p) in
    let e = both (tail_decodes s.tail ns (drop k p)) _ d in
    let g : resent (read (op ∷ p)) ≡ Sent (op ∷ p) = strict_round_trip (op ∷ p) o h in
    let r : read (op ∷ p) ≡ Means (shape_means op s p) = read_decodes op p d in
    let w : send (shape_means op s p) ≡ Sent (op ∷ p) = ap resent (sym r) ∙ g in
    let z : countable (Sent (op ∷ p)) ≡ Sent (op ∷ p) = rw (lt-ltb (length (op ∷ p)) (2 ^ 64) l) in
    rw d
    (answer_encodes op p (build_of op ns u (behind k p)) ns u (behind k p) s.tail
    (agree_at op rows builds agree p u (behind k p) d)
    refl
    (part_ok_lem s.tail k op p (leb-true k (length p) e.1))
    ∙ ap (λ (t : List ℕ). countable (send (meaning op ns t))) (tail_same s.tail k op p ns e.0)
    ∙ ap countable w
    ∙ z)
