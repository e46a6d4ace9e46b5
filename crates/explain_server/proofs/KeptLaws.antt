-- Laws of the texts of a packet that is known, which the code's proofs do not cite.
use Rattle.std.specs.Prelude.{ℕ, ◌≡◌, List}
use Rattle.att.specs.declared.Att.{Att}
use Rattle.att.specs.declared.AttRsp.{AttRsp}
use Rattle.att.specs.declared.AttUns.{AttUns}
use Rattle.att.specs.declared.AttServer.{AttServer}
use Rattle.text_print.specs.declared.Line.{Line}
use Rattle.text_print.specs.Lines.{Puts}
use Rattle.explain_server.specs.Servers.{response_texts, unsolicited_texts, server_texts}

pub response_as : (r q : AttRsp) (att : Att) (src : List ℕ) (a b : Line) → r ≡ q
    → Puts (response_texts q att src) a b → Puts (response_texts r att src) a b
response_as r q att src a b e h = rw e h

pub unsolicited_as : (u v : AttUns) (src : List ℕ) (a b : Line) → u ≡ v → Puts (unsolicited_texts v src) a b → Puts (unsolicited_texts u src) a b
unsolicited_as u v src a b e h = rw e h

pub server_as : (s t : AttServer) (att : Att) (src : List ℕ) (a b : Line) → s ≡ t → Puts (server_texts t att src) a b → Puts (server_texts s att src) a b
server_as s t att src a b e h = rw e h
