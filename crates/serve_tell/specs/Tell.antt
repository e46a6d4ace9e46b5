-- Document 01, "How a packet is served": what goes out of an answer, and what the output then holds. "If the encoder refuses inside
-- the responder, answer error 0E with handle 0."
use Rattle.std.specs.Prelude.{ℕ, Bool, true, false, List, length, leb}
use Rattle.codec.specs.Buffer.{over, laid}
use Rattle.codec.specs.Cases.{pick}
use Rattle.att.specs.Wire.{Coded, Sent, NotSent, send}
use Rattle.att.specs.Typed.{encoded, show_rsp, part_ok, means_shown}
use Rattle.att.specs.declared.Att.TheVariants.{Server}
use Rattle.att.specs.declared.AttRsp.{AttRsp}
use Rattle.att.specs.declared.AttServer.TheVariants.{Response}
use Rattle.answers.specs.Replies.{Says, Packet, Silence, Reply}
use Rattle.answers.specs.Serve.{unlikely}
use Rattle.serve_tell.specs.declared.Wrote.{Wrote}

abbrev pub wrote : ℕ → Bool → Wrote
wrote n meant = record { len = n; meant = meant }

-- a typed answer as the wire sends it, and as the encoder has it: that also asks for a length which the machine can count
unfoldable pub packet_of : AttRsp → List ℕ → Coded
packet_of rsp src = pick (part_ok (show_rsp rsp).part src) (send (means_shown (show_rsp rsp) src)) NotSent

unfoldable pub encoded_of : AttRsp → List ℕ → Coded
encoded_of rsp src = encoded (Server (Response rsp)) src

abbrev pub unlikely_wrote : ℕ → ℕ → Wrote
unlikely_wrote op room = pick (leb (length (unlikely op)) room) (wrote (length (unlikely op)) false) (wrote 0 false)

abbrev pub wrote_by : Coded → ℕ → ℕ → Wrote
wrote_by (Sent b) op room = pick (leb (length b) room) (wrote (length b) true) (unlikely_wrote op room)
wrote_by NotSent op room = unlikely_wrote op room

abbrev pub out_by : Coded → ℕ → List ℕ → List ℕ
out_by (Sent b) op out = pick (leb (length b) (length out)) (over b out) (laid (unlikely op) out)
out_by NotSent op out = laid (unlikely op) out

-- what the encoder makes of a reply that is a packet
abbrev pub coded_by : Says → Coded
coded_by (Packet m) = send m
coded_by Silence = NotSent

abbrev pub coded_of : Reply → Coded
coded_of r = coded_by r.says

-- what goes out of a reply, and what the output then holds
abbrev pub wrote_of : Reply → ℕ → ℕ → Wrote
wrote_of r op room = wrote_by (coded_of r) op room

abbrev pub out_of : Reply → ℕ → List ℕ → List ℕ
out_of r op out = out_by (coded_of r) op out
