-- The replies to 0A and 0C, told by what the link may do at the handle and by the value held there.
use Rattle.std.specs.Prelude.{ℕ, ◌-◌, ◌≤◌, ◌<◌, min, Bool, true, false, ◌≡◌, refl, length, take, drop, leb, Result, Ok, Err}
use Rattle.std.proofs.Common.{sym, ◌∙◌, arith, length-drop, take_all, le-leb, leb-true, leb-false}
use Rattle.std.proofs.Math.Path.{ap}
use mathlib.Core.List.{List, []}
use Rattle.std.proofs.lemmas.Bool.{lt-leb}
use Rattle.codec.specs.CasesLaws.{join}
use Rattle.att_error.specs.declared.AttErrorCode.{AttErrorCode}
use Rattle.att.specs.Typed.{span, part_ok, means_shown}
use Rattle.att.specs.Wire.{rows, shape_of, send, meaning}
use Rattle.att.specs.declared.AttRsp.TheVariants as rsp
use Rattle.attributes.specs.Ledger.{ledger_of, value_at}
use Rattle.attributes.specs.Records.{entries}
use Rattle.answers.specs.Replies.{Packet, only, error, error_packet, value_told, blob_told, read_reply, blob_reply}
use Rattle.answers.specs.Serve.{State, views, ledger}
use Rattle.serve_permit.specs.Permit.{read_at}
use Rattle.serve_permit.specs.PermitLaws.{reading_by, read_is}
use Rattle.serve_tell.specs.Tell.{packet_of, coded_of}
use Rattle.serve_tell.specs.TellLaws.{packet_is}

-- as many bytes as there are, of those that may go
cut_same : (m n : ℕ) (l : List ℕ) → n ≡ min m (length l) → take n l ≡ take m l
cut_same m n l e = by (leb m (length l)) refl where
  by : (b : Bool) → leb m (length l) ≡ b → take n l ≡ take m l
  by true q = let z : n ≡ m = omega (arith, leb-true m (length l) q) in rw z
  by false q =
      let h : length l ≤ n = omega (arith, leb-false m (length l) q) in
      let k : length l ≤ m = omega (arith, leb-false m (length l) q) in
      take_all n l h ∙ sym (take_all m l k)

part_fits : (at n : ℕ) (v : List ℕ) → at ≤ length v → n ≤ length v - at → part_ok (span at n) v ≡ true
part_fits at n v h k = join (le-leb at (length v) h) (le-leb n (length v - at) k)

module _ (m at n : ℕ) (v : List ℕ) (h : at ≤ length v) (e : n ≡ min m (length v - at)) where
  part_is : take n (drop at v) ≡ take m (drop at v)
  part_is = cut_same m n (drop at v) (rw (length-drop at v) e)

  read_sent : packet_of (rsp.Read (span at n)) v ≡ send (meaning 0x0B [] (take m (drop at v)))
  unfolding means_shown shape_of rows
  read_sent =
      packet_is (rsp.Read (span at n)) v (part_fits at n v h (omega arith)) ∙ ap (λ (b : List ℕ). send (meaning 0x0B [] b)) part_is

  blob_sent : packet_of (rsp.ReadBlob (span at n)) v ≡ send (meaning 0x0D [] (take m (drop at v)))
  unfolding means_shown shape_of rows
  blob_sent =
      packet_is (rsp.ReadBlob (span at n)) v (part_fits at n v h (omega arith)) ∙ ap (λ (b : List ℕ). send (meaning 0x0D [] b)) part_is

module _ (s : State) (h : ℕ) where
  abbrev held : List ℕ
  held = value_at h (ledger_of s.table s.fixed s.live)

  read_by : (p : Result Unit AttErrorCode) → read_at s.link.encrypted h (entries s.table) ≡ p → read_reply (views s) s.link h
      ≡ reading_by 0x0A h (value_told s.link) held p
  unfolding read_reply ledger
  read_by p e =
      read_is s.link.encrypted s.fixed s.live 0x0A h (value_told s.link) (entries s.table)
      ∙ ap (reading_by 0x0A h (value_told s.link) held) e

  pub read_denied : (c : AttErrorCode) → read_at s.link.encrypted h (entries s.table) ≡ Err c
      → send (error_packet 0x0A h c.value) ≡ coded_of (read_reply (views s) s.link h)
  read_denied c e = sym (ap coded_of (read_by (Err c) e))

  pub read_allowed : (v : List ℕ) (n : ℕ) → read_at s.link.encrypted h (entries s.table) ≡ Ok tt → v ≡ held → n ≡ min (s.link.mtu - 1) (length v)
      → packet_of (rsp.Read (span 0 n)) v ≡ coded_of (read_reply (views s) s.link h)
  read_allowed v n e f g =
      read_sent (s.link.mtu - 1) 0 n v (omega arith) (omega (arith, g))
      ∙ ap (λ (b : List ℕ). send (meaning 0x0B [] (take (s.link.mtu - 1) b))) f ∙ sym (ap coded_of (read_by (Ok tt) e))

  module _ (offset : ℕ) where
    blob_by : (p : Result Unit AttErrorCode) → read_at s.link.encrypted h (entries s.table) ≡ p
        → blob_reply (views s) s.link h offset ≡ reading_by 0x0C h (blob_told s.link h offset) held p
    unfolding blob_reply ledger
    blob_by p e = read_is s.link.encrypted s.fixed s.live 0x0C h (blob_told s.link h offset) (entries s.table) ∙ ap (reading_by 0x0C h (blob_told s.link h offset) held) e

    pub blob_denied : (c : AttErrorCode) → read_at s.link.encrypted h (entries s.table) ≡ Err c
        → send (error_packet 0x0C h c.value) ≡ coded_of (blob_reply (views s) s.link h offset)
    blob_denied c e = sym (ap coded_of (blob_by (Err c) e))

    pub blob_past : (v : List ℕ) → read_at s.link.encrypted h (entries s.table) ≡ Ok tt → v ≡ held → length v < offset
        → send (error_packet 0x0C h 0x07) ≡ coded_of (blob_reply (views s) s.link h offset)
    blob_past v e f g =
        let z : blob_told s.link h offset v ≡ error 0x0C h 0x07 = rw (lt-leb offset (length v) g) in
        sym (ap coded_of (blob_by (Ok tt) e ∙ ap (blob_told s.link h offset) (sym f) ∙ z))

    pub blob_allowed : (v : List ℕ) (n : ℕ) → read_at s.link.encrypted h (entries s.table) ≡ Ok tt → v ≡ held → offset ≤ length v
        → n ≡ min (s.link.mtu - 1) (length v - offset) → packet_of (rsp.ReadBlob (span offset n)) v ≡ coded_of (blob_reply (views s) s.link h offset)
    blob_allowed v n e f k g =
        let z : blob_told s.link h offset v ≡ only (Packet (meaning 0x0D [] (take (s.link.mtu - 1) (drop offset v)))) = rw (le-leb offset (length v) k) in
        blob_sent (s.link.mtu - 1) offset n v k g ∙ sym (ap coded_of (blob_by (Ok tt) e ∙ ap (blob_told s.link h offset) (sym f) ∙ z))
