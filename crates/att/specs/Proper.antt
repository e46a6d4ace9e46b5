-- What every packet of numbers has: as many numbers as its row has fields, each within its width. And what the code's types can hold:
-- a number of a u8 is below 256, one of a u16 below 65536.
use Rattle.std.specs.Prelude.{ℕ, ◌<◌, List, [], ◌∷◌}
use Rattle.primitives.specs.Numbers.{limit}
use Rattle.att.specs.Wire.{Meaning, shape_of}
use Rattle.att.specs.declared.AttReq.{AttReq}
use Rattle.att.specs.declared.AttReq.TheVariants as req
use Rattle.att.specs.declared.AttClient.{AttClient}
use Rattle.att.specs.declared.AttClient.TheVariants.{Request, Command, Confirmation}
use Rattle.att.specs.declared.AttRsp.{AttRsp}
use Rattle.att.specs.declared.AttRsp.TheVariants as rsp
use Rattle.att.specs.declared.AttUns.{AttUns}
use Rattle.att.specs.declared.AttUns.TheVariants as uns
use Rattle.att.specs.declared.AttServer.{AttServer}
use Rattle.att.specs.declared.AttServer.TheVariants.{Response, Unsolicited}
use Rattle.att.specs.declared.Att.{Att}
use Rattle.att.specs.declared.Att.TheVariants.{Client, Server}

abbrev pub Fields : List ℕ → List ℕ → Type 0
Fields [] [] = Unit
Fields [] (n ∷ ns) = ⊥
Fields (w ∷ ws) [] = ⊥
Fields (w ∷ ws) (n ∷ ns) = (n < limit w) × Fields ws ns

pub record Proper (m : Meaning) : Type 0 where
  pub fields : Fields (shape_of m.opcode).fields m.numbers

abbrev pub U8 : ℕ → Type 0
U8 n = n < 256

abbrev pub U16 : ℕ → Type 0
U16 n = n < 65536

abbrev pub HeldReq : AttReq → Type 0
HeldReq (req.ReadByGroupType s e u) = U16 s × U16 e
HeldReq (req.ReadByType s e u) = U16 s × U16 e
HeldReq (req.Read h) = U16 h
HeldReq (req.Write h d) = U16 h
HeldReq (req.ExchangeMtu m) = U16 m
HeldReq (req.FindByTypeValue s e t v) = U16 s × U16 e × U16 t
HeldReq (req.FindInformation s e) = U16 s × U16 e
HeldReq (req.PrepareWrite h o v) = U16 h × U16 o
HeldReq (req.ExecuteWrite f) = U8 f
HeldReq (req.ReadMultiple hs) = Unit
HeldReq (req.ReadBlob h o) = U16 h × U16 o

abbrev pub HeldRsp : AttRsp → Type 0
HeldRsp (rsp.ExchangeMtu m) = U16 m
HeldRsp (rsp.FindByTypeValue i) = Unit
HeldRsp (rsp.FindInformation f i) = Unit
HeldRsp (rsp.Error r h c) = U8 r × U16 h × U8 c.value
HeldRsp (rsp.ReadByType n i) = U8 n
HeldRsp (rsp.ReadByGroupType n i) = U8 n
HeldRsp (rsp.Read d) = Unit
HeldRsp (rsp.ReadBlob d) = Unit
HeldRsp rsp.Write = Unit

abbrev pub HeldUns : AttUns → Type 0
HeldUns (uns.Notify h d) = U16 h
HeldUns (uns.Indicate h d) = U16 h

abbrev pub HeldClient : AttClient → Type 0
HeldClient (Request r) = HeldReq r
HeldClient (Command c) = U16 c.handle
HeldClient (Confirmation c) = Unit

abbrev pub HeldServer : AttServer → Type 0
HeldServer (Response r) = HeldRsp r
HeldServer (Unsolicited u) = HeldUns u

abbrev pub Held : Att → Type 0
Held (Client c) = HeldClient c
Held (Server s) = HeldServer s
