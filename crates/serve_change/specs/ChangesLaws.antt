-- An answer that was told, with its effect, is what its reply says.
use Rattle.std.specs.Prelude.{ℕ, min, max, Bool, ◌≡◌, List, [], ◌∷◌}
use Rattle.std.proofs.Math.Bool.{true, false}
use Rattle.std.proofs.Math.Path.{refl}
use Rattle.std.proofs.Common.{ap, ◌∙◌}
use Rattle.codec.specs.Cases.{pick}
use Rattle.att.specs.Typed.{means_shown}
use Rattle.att.specs.Wire.{rows, shape_of, Coded, send, meaning}
use Rattle.att.specs.declared.AttRsp.TheVariants as rsp
use Rattle.answers.specs.Replies as book
use Rattle.answers.specs.Replies.{Reply, exchange, error_packet}
use Rattle.answers.specs.declared.Link.{Link}
use Rattle.serve_tell.specs.Tell.{coded_of, wrote_by, packet_of}
use Rattle.serve_tell.specs.declared.Wrote.{Wrote}
use Rattle.serve_change.specs.Changes.{done, agreement, meant_by, meaning_of, said_of}
use Rattle.serve_change.specs.declared.Pending.{Pending}
use Rattle.serve_change.specs.declared.Pending.TheVariants.{Nothing, Agrees}
use Rattle.serve_change.specs.declared.Said.{Said}

-- with the coded answer `k` of the reply, and an effect that means the reply's
pub says : (src : List ℕ) (r : Reply) (op room : ℕ) (t : Wrote) (e : Pending) (s : Said) (k : Coded) → t ≡ wrote_by k op room → k ≡ coded_of r
    → meant_by src e ≡ r.effect → s ≡ done t e → meaning_of src s ≡ said_of r op room
says src r op room t e s k a b c d =
    ap (meaning_of src) d ∙ by t.meant ∙ ap (λ (x : book.Effect). (t.len, pick t.meant x book.Nothing)) c
    ∙ ap (λ (u : Wrote). (u.len, pick u.meant r.effect book.Nothing)) (a ∙ ap (λ (x : Coded). wrote_by x op room) b)
  where
    by : (b : Bool) → ◌≡◌ {A = ℕ × book.Effect} (t.len, meant_by src (pick b e Nothing)) (t.len, pick b (meant_by src e) book.Nothing)
    by true = refl
    by false = refl

-- 02
module _ (l : Link) (mtu : ℕ) where
  pub exchanged_before : l.exchanged ≡ true → (send (error_packet 0x02 0 0x06) ≡ coded_of (exchange l mtu)) × (Nothing ≡ agreement l mtu)
  unfolding exchange
  exchanged_before e = (rw e, rw e)

  pub first_exchange : l.exchanged ≡ false → (packet_of (rsp.ExchangeMtu 247) [] ≡ coded_of (exchange l mtu)) × (Agrees (max 23 (min 247 mtu)) ≡ agreement l mtu)
  unfolding exchange packet_of means_shown shape_of rows
  first_exchange e = (rw e, rw e)

  agreement_is : (src : List ℕ) → meant_by src (agreement l mtu) ≡ (exchange l mtu).effect
  unfolding exchange
  agreement_is src = by l.exchanged where
    by : (b : Bool) → meant_by src (pick b Nothing (Agrees (max 23 (min 247 mtu))))
        ≡ (pick b (book.error 0x02 0 0x06) (book.doing (book.Packet (meaning 0x03 (247 ∷ []) [])) (book.Agrees (max 23 (min 247 mtu))))).effect
    by true = refl
    by false = refl

  pub exchange_says : (src : List ℕ) (room : ℕ) (s : Said) → s ≡ done (wrote_by (coded_of (exchange l mtu)) 0x02 room) (agreement l mtu)
      → meaning_of src s ≡ said_of (exchange l mtu) 0x02 room
  exchange_says src room s e =
      says src (exchange l mtu) 0x02 room (wrote_by (coded_of (exchange l mtu)) 0x02 room) (agreement l mtu) s (coded_of (exchange l mtu)) refl refl (agreement_is src) e

-- 12
pub write_sent : packet_of rsp.Write [] ≡ send (meaning 0x13 [] [])
unfolding packet_of means_shown shape_of rows
write_sent = refl
