-- The opcode and the fields of a layout are the head that the packet's row says, case by case; and how long they can be.
use Rattle.std.specs.Prelude.{ℕ, ◌≤◌, ◌≡◌, refl, length}
use Rattle.std.proofs.Common.{arith}
use Rattle.att.specs.Wire.{rows, shape_of}
use Rattle.att.specs.Typed.{Shown, show_req, show_cfm, show_client, show_rsp, show_server, show_att}
use Rattle.att.specs.declared.AttReq.{AttReq}
use Rattle.att.specs.declared.AttReq.TheVariants as req
use Rattle.att.specs.declared.AttCfm.{AttCfm}
use Rattle.att.specs.declared.AttCfm.TheVariants as cfm
use Rattle.att.specs.declared.AttClient.{AttClient}
use Rattle.att.specs.declared.AttClient.TheVariants.{Request, Command, Confirmation}
use Rattle.att.specs.declared.AttRsp.{AttRsp}
use Rattle.att.specs.declared.AttRsp.TheVariants as rsp
use Rattle.att.specs.declared.AttUns.TheVariants as uns
use Rattle.att.specs.declared.AttServer.{AttServer}
use Rattle.att.specs.declared.AttServer.TheVariants.{Response, Unsolicited}
use Rattle.att.specs.declared.Att.{Att}
use Rattle.att.specs.declared.Att.TheVariants.{Client, Server}
use Rattle.att_layout.specs.Layout.{head_bytes, layout_of, shown_head}
use Rattle.att_layout.specs.declared.Fields.{Fields}
use Rattle.att_layout.specs.declared.Fields.TheVariants.{Bare, Byte, Word, Pair, Triple, Error}

-- the layout of a shown packet has the packet's head
abbrev Heads : Shown → Type 0
Heads s = head_bytes (layout_of s).opcode (layout_of s).fields ≡ shown_head s

heads_req : (r : AttReq) → Heads (show_req r)
unfolding layout_of shape_of rows
heads_req (req.ReadByGroupType s e u) = refl
heads_req (req.ReadByType s e u) = refl
heads_req (req.Read h) = refl
heads_req (req.Write h d) = refl
heads_req (req.ExchangeMtu m) = refl
heads_req (req.FindByTypeValue s e t v) = refl
heads_req (req.FindInformation s e) = refl
heads_req (req.PrepareWrite h o v) = refl
heads_req (req.ExecuteWrite f) = refl
heads_req (req.ReadMultiple hs) = refl
heads_req (req.ReadBlob h o) = refl

heads_cfm : (c : AttCfm) → Heads (show_cfm c)
unfolding layout_of shape_of rows
heads_cfm cfm.ConfirmIndication = refl

heads_client : (c : AttClient) → Heads (show_client c)
unfolding layout_of shape_of rows
heads_client (Request r) = heads_req r
heads_client (Command c) = refl
heads_client (Confirmation c) = heads_cfm c

heads_rsp : (r : AttRsp) → Heads (show_rsp r)
unfolding layout_of shape_of rows
heads_rsp (rsp.ExchangeMtu m) = refl
heads_rsp (rsp.FindByTypeValue i) = refl
heads_rsp (rsp.FindInformation f i) = refl
heads_rsp (rsp.Error r h c) = refl
heads_rsp (rsp.ReadByType n i) = refl
heads_rsp (rsp.ReadByGroupType n i) = refl
heads_rsp (rsp.Read d) = refl
heads_rsp (rsp.ReadBlob d) = refl
heads_rsp rsp.Write = refl

heads_server : (s : AttServer) → Heads (show_server s)
unfolding layout_of shape_of rows
heads_server (Response r) = heads_rsp r
heads_server (Unsolicited (uns.Notify h d)) = refl
heads_server (Unsolicited (uns.Indicate h d)) = refl

pub heads : (a : Att) → Heads (show_att a)
heads (Client c) = heads_client c
heads (Server s) = heads_server s

pub head_most : (op : ℕ) (f : Fields) → length (head_bytes op f) ≤ 8
head_most op Bare = omega arith
head_most op (Byte v) = omega arith
head_most op (Word v) = omega arith
head_most op (Pair v w) = omega arith
head_most op (Triple v w x) = omega arith
head_most op (Error r h c) = omega arith
