-- Laws of a packet's line that the code's proofs do not cite: of a packet that is known, and of what received bytes decode to.
use Rattle.std.specs.Prelude.{ℕ, ◌≡◌, List, Result, Ok, Err}
use Rattle.std.proofs.Common.{sym, ◌∙◌}
use Rattle.codec.specs.Refusals.{refusal_of}
use Rattle.codec.specs.declared.Error.{Error}
use Rattle.att.specs.Typed.{decoded}
use Rattle.att.specs.declared.Att.{Att}
use Rattle.text_put.specs.Put.{refusal}
use Rattle.text_print.specs.declared.Line.{Line}
use Rattle.text_print.specs.Lines.{Puts}
use Rattle.explain_packet.specs.Packets.{field_texts, packet_texts, line_texts}

pub fields_as : (p q : Att) (src : List ℕ) (a b : Line) → p ≡ q → Puts (field_texts q src) a b → Puts (field_texts p src) a b
fields_as p q src a b e h = rw e h

-- bytes that decode to a packet, and bytes that do not
module _ (d : Result Att Error) (src : List ℕ) (e : d ≡ decoded src) (a b : Line) where
  pub packet_line : (att : Att) → d ≡ Ok att → Puts (packet_texts att src) a b → Puts (line_texts src) a b
  packet_line att h p = let k : decoded src ≡ Ok att = sym e ∙ h in rw k p

  pub refused_line : (x : Error) → d ≡ Err x → Puts (refusal (refusal_of x)) a b → Puts (line_texts src) a b
  refused_line x h p = let k : decoded src ≡ Err x = sym e ∙ h in rw k p
