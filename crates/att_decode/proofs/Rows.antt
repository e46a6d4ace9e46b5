-- Decoding by the first byte: nothing is refused, and so is an opcode of no row. How many bytes there are behind the fixed fields.
use Rattle.std.proofs.Common.{ℕ, ◌-◌, ◌<◌, ◌≡◌, refl, ap, ◌∙◌, ◌⊎◌, inl, inr, List, [], ◌∷◌, arith, length, take, drop, get_or, length-drop}
use Rattle.codec.specs.BufferLaws.{to_the_end}
use Rattle.ble_uuid.specs.Uuids.{sliced}
use Rattle.ble_uuid.specs.UuidsLaws.{sliced_short, sliced_long}
use Rattle.att_decode.specs.Tests.{carried}
use Rattle.cursor.specs.Reading.{rest}
use Rattle.cursor.proofs.ReadingLaws.{rest_drop}
use Rattle.codec.specs.Cases.{None}
use Rattle.codec.specs.CasesLaws.{missing}
use Rattle.att.specs.Wire.{shape, NoPacket, rows, shape_of, decodes}
use Rattle.att.specs.Typed.{refusal, row_decoded, decoded}

pub decoded_nil : (s : List ℕ) → length s ≡ 0 → refusal ≡ decoded s
unfolding decoded
decoded_nil [] h = refl
decoded_nil (x ∷ s) h = absurd (omega arith)

pub decoded_cons : (s : List ℕ) → 0 < length s → decoded s ≡ row_decoded (get_or s 0 0) (drop 1 s)
unfolding decoded
decoded_cons [] h = absurd (omega arith)
decoded_cons (x ∷ s) h = refl

pub row_missing : (op : ℕ) (p : List ℕ) → None op Unit rows → refusal ≡ row_decoded op p
unfolding row_decoded decodes shape_of
row_missing op p n = rw (missing op rows (shape [] NoPacket) n)

pub rest_length : (k : ℕ) (p d : List ℕ) → d ≡ rest k p → length d ≡ length p - k
rest_length k p d e = ap length (e ∙ rest_drop k p) ∙ length-drop k p

pub minus_zero : (n : ℕ) → n - 0 ≡ n
minus_zero n = omega arith

-- 08 and 10: a payload of these lengths has a UUID behind start and end
pub uuid_there : (p : List ℕ) → (length p ≡ 6) ⊎ (length p ≡ 20) → sliced (take (length p - 4) (drop 4 p)) ≡ carried p
uuid_there p (inl e) =
    let l : length (drop 4 p) ≡ 2 = simp length-drop (omega arith) in
    rw (to_the_end 4 p, e, l, sliced_short (drop 4 p) l)
uuid_there p (inr e) =
    let l : length (drop 4 p) ≡ 16 = simp length-drop (omega arith) in
    rw (to_the_end 4 p, e, l, sliced_long (drop 4 p) l)
