-- The round trip's premise holds of every packet that decoding gives and of every packet that the code's types can hold: case by case,
-- and for what is decoded by induction over the fields. And the typed case: what a packet means, with its range, tells the packet.
use Rattle.std.proofs.Common.{ℕ, ◌+◌, ◌≤◌, ◌<◌, Bool, true, false, ◌≡◌, refl, sym, ap, subst, ◌∙◌, List, [], ◌∷◌, arith, length, take, drop, length-drop, length-take-le, leb-true, Ok}
use Rattle.codec.specs.Cases.{pick}
use Rattle.codec.specs.CasesLaws.{impossible, both}
use Rattle.primitives.specs.Numbers.{limit, number_at, Octets}
use Rattle.primitives.specs.NumbersLaws.{number_limit, octets_take, octets_drop}
use Rattle.ble_uuid.specs.Uuids.{on_air}
use Rattle.ble_uuid.specs.declared.Uuid.{Uuid}
use Rattle.att.specs.Wire.{Tail, AUuid, rows, shape_of, total, numbers, tail_decodes, decodes, Meaning, shape_means, Means, NotRead, read, strict, Sent, resent}
use Rattle.att.specs.Typed.{builds, build_of, Shown, show_req, show_cfm, show_client, show_rsp, show_server, show_att, part_of, tail_of, means_shown, meaning_of, Parsed, decoded, read_of}
use Rattle.att.specs.Proper.{Fields, Proper, HeldReq, HeldRsp, HeldClient, HeldServer, Held}
use Rattle.att.proofs.RoundTrip.{strict_round_trip}
use Rattle.att.proofs.TypedMeans.{decoded_means}
use Rattle.att.specs.declared.AttReq.{AttReq}
use Rattle.att.specs.declared.AttReq.TheVariants as req
use Rattle.att.specs.declared.AttCfm.{AttCfm}
use Rattle.att.specs.declared.AttCfm.TheVariants as cfm
use Rattle.att.specs.declared.AttClient.{AttClient}
use Rattle.att.specs.declared.AttClient.TheVariants.{Request, Command, Confirmation}
use Rattle.att.specs.declared.FindInformationUuidFormat.TheVariants as format
use Rattle.att.specs.declared.AttRsp.{AttRsp}
use Rattle.att.specs.declared.AttRsp.TheVariants as rsp
use Rattle.att.specs.declared.AttUns.TheVariants as uns
use Rattle.att.specs.declared.AttServer.{AttServer}
use Rattle.att.specs.declared.AttServer.TheVariants.{Response, Unsolicited}
use Rattle.att.specs.declared.Att.{Att}
use Rattle.att.specs.declared.Att.TheVariants.{Client, Server}

-- the numbers of a payload that has its fixed fields
numbers_fit : (ws : List ℕ) (at : ℕ) (p : List ℕ) → at + total ws ≤ length p → Octets p → Fields ws (numbers at ws p)
numbers_fit [] at p h o = tt
numbers_fit (w ∷ ws) at p h o =
    let l : length (take w (drop at p)) ≡ w = length-take-le w (drop at p) (simp length-drop (omega arith)) in
    let n : number_at w at p < limit w =
    subst (λ (k : ℕ). number_at w at p < limit k) l (number_limit (take w (drop at p)) (octets_take w (drop at p) (octets_drop at p o))) in
    (n, numbers_fit ws (at + w) p (omega arith) o)

-- every packet that decoding gives
pub read_proper : (src : List ℕ) (m : Meaning) → Octets src → read src ≡ Means m → Proper m
unfolding read decodes
read_proper [] m o e = impossible (cc)
read_proper (op ∷ p) m o e = by (decodes op p) refl e where
  by : (t : Bool) → decodes op p ≡ t → pick t (Means (shape_means op (shape_of op) p)) NotRead ≡ Means m → Proper m
  by true d q =
      let s = shape_of op in
      let k = (both (tail_decodes s.tail (numbers 0 s.fields p) (drop (total s.fields) p)) _ d).1 in
      let f : Fields s.fields (numbers 0 s.fields p) =
      numbers_fit s.fields 0 p (omega (arith, leb-true (total s.fields) (length p) k)) o.1 in
      let g : shape_means op s p ≡ m = cc in
      subst Proper g (record { fields = f })
  by false d q = impossible (cc)

pub decoded_proper : (src : List ℕ) (a : Att) → Octets src → decoded src ≡ Ok a → Proper (meaning_of a src)
decoded_proper src a o e = read_proper src (meaning_of a src) o (sym (decoded_means src) ∙ ap (λ (x : Parsed). read_of x src) e)

-- every packet that the code's types can hold
abbrev Right : Shown → Type 0
Right s = Fields (shape_of s.opcode).fields s.numbers

held_req : (r : AttReq) → HeldReq r → Right (show_req r)
unfolding shape_of rows
held_req (req.ReadByGroupType s e u) h = (h.0, (h.1, tt))
held_req (req.ReadByType s e u) h = (h.0, (h.1, tt))
held_req (req.Read n) h = (h, tt)
held_req (req.Write n d) h = (h, tt)
held_req (req.ExchangeMtu m) h = (h, tt)
held_req (req.FindByTypeValue s e t v) h = (h.0, (h.1, (h.2, tt)))
held_req (req.FindInformation s e) h = (h.0, (h.1, tt))
held_req (req.PrepareWrite n o v) h = (h.0, (h.1, tt))
held_req (req.ExecuteWrite f) h = (h, tt)
held_req (req.ReadMultiple hs) h = tt
held_req (req.ReadBlob n o) h = (h.0, (h.1, tt))

held_cfm : (c : AttCfm) → Right (show_cfm c)
unfolding shape_of rows
held_cfm cfm.ConfirmIndication = tt

held_client : (c : AttClient) → HeldClient c → Right (show_client c)
unfolding shape_of rows
held_client (Request r) h = held_req r h
held_client (Command c) h = (h, tt)
held_client (Confirmation c) h = held_cfm c

held_rsp : (r : AttRsp) → HeldRsp r → Right (show_rsp r)
unfolding shape_of rows
held_rsp (rsp.ExchangeMtu m) h = (h, tt)
held_rsp (rsp.FindByTypeValue i) h = tt
held_rsp (rsp.FindInformation format.Uuid16 i) h = (omega arith, tt)
held_rsp (rsp.FindInformation format.Uuid128 i) h = (omega arith, tt)
held_rsp (rsp.Error r n c) h = (h.0, (h.1, (h.2, tt)))
held_rsp (rsp.ReadByType n i) h = (h, tt)
held_rsp (rsp.ReadByGroupType n i) h = (h, tt)
held_rsp (rsp.Read d) h = tt
held_rsp (rsp.ReadBlob d) h = tt
held_rsp rsp.Write h = tt

held_server : (s : AttServer) → HeldServer s → Right (show_server s)
unfolding shape_of rows
held_server (Response r) h = held_rsp r h
held_server (Unsolicited (uns.Notify n d)) h = (h, tt)
held_server (Unsolicited (uns.Indicate n d)) h = (h, tt)

held_shown : (a : Att) → Held a → Right (show_att a)
held_shown (Client c) h = held_client c h
held_shown (Server s) h = held_server s h

pub held_proper : (a : Att) (src : List ℕ) → Held a → Proper (meaning_of a src)
unfolding means_shown
held_proper a src h = record { fields = held_shown a h }

-- Two strict packets that mean the same are the same bytes.
pub strict_same_bytes : (src tgt : List ℕ) → Octets src → Octets tgt → strict src ≡ true → strict tgt ≡ true → read src ≡ read tgt → src ≡ tgt
strict_same_bytes src tgt o p s t e =
    let x : resent (read src) ≡ Sent src = strict_round_trip src o s in
    let y : resent (read tgt) ≡ Sent tgt = strict_round_trip tgt p t in
    let z : Sent src ≡ Sent tgt = sym x ∙ ap resent e ∙ y in
    cc

-- the packet with another UUID in the place of its own, where it has one
abbrev replaced_req : Uuid → AttReq → AttReq
replaced_req v (req.ReadByGroupType s e u) = req.ReadByGroupType s e v
replaced_req v (req.ReadByType s e u) = req.ReadByType s e v
replaced_req v (req.Read h) = req.Read h
replaced_req v (req.Write h d) = req.Write h d
replaced_req v (req.ExchangeMtu m) = req.ExchangeMtu m
replaced_req v (req.FindByTypeValue s e t d) = req.FindByTypeValue s e t d
replaced_req v (req.FindInformation s e) = req.FindInformation s e
replaced_req v (req.PrepareWrite h o d) = req.PrepareWrite h o d
replaced_req v (req.ExecuteWrite f) = req.ExecuteWrite f
replaced_req v (req.ReadMultiple hs) = req.ReadMultiple hs
replaced_req v (req.ReadBlob h o) = req.ReadBlob h o

abbrev pub replaced : Uuid → Att → Att
replaced v (Client (Request r)) = Client (Request (replaced_req v r))
replaced v (Client (Command c)) = Client (Command c)
replaced v (Client (Confirmation c)) = Client (Confirmation c)
replaced v (Server s) = Server s

-- the typed packet of an opcode, its numbers, a UUID and a range: that of the packet that shows them
abbrev Built : Att → Type 0
Built a = (v : Uuid) → build_of (show_att a).opcode (show_att a).numbers v (show_att a).part ≡ Ok (replaced v a)

built_req : (r : AttReq) → Built (Client (Request r))
unfolding build_of builds
built_req (req.ReadByGroupType s e u) v = refl
built_req (req.ReadByType s e u) v = refl
built_req (req.Read h) v = refl
built_req (req.Write h d) v = refl
built_req (req.ExchangeMtu m) v = refl
built_req (req.FindByTypeValue s e t d) v = refl
built_req (req.FindInformation s e) v = refl
built_req (req.PrepareWrite h o d) v = refl
built_req (req.ExecuteWrite f) v = refl
built_req (req.ReadMultiple hs) v = refl
built_req (req.ReadBlob h o) v = refl

built_client : (c : AttClient) → Built (Client c)
unfolding build_of builds
built_client (Request r) v = built_req r v
built_client (Command c) v = refl
built_client (Confirmation cfm.ConfirmIndication) v = refl

built_rsp : (r : AttRsp) → Built (Server (Response r))
unfolding build_of builds
built_rsp (rsp.ExchangeMtu m) v = refl
built_rsp (rsp.FindByTypeValue i) v = refl
built_rsp (rsp.FindInformation format.Uuid16 i) v = refl
built_rsp (rsp.FindInformation format.Uuid128 i) v = refl
built_rsp (rsp.Error r h c) v = refl
built_rsp (rsp.ReadByType n i) v = refl
built_rsp (rsp.ReadByGroupType n i) v = refl
built_rsp (rsp.Read d) v = refl
built_rsp (rsp.ReadBlob d) v = refl
built_rsp rsp.Write v = refl

built_server : (s : AttServer) → Built (Server s)
unfolding build_of builds
built_server (Response r) v = built_rsp r v
built_server (Unsolicited (uns.Notify h d)) v = refl
built_server (Unsolicited (uns.Indicate h d)) v = refl

built : (a : Att) → Built a
built (Client c) v = built_client c v
built (Server s) v = built_server s v

-- Equal meaning and an equal range are the same typed packet but for its UUID; and where there is one, they carry the same bytes of it.
-- With equal UUIDs the whole packets are the same.
pub same_packet : (a b : Att) (v : Uuid) (src tgt : List ℕ) → meaning_of a src ≡ meaning_of b tgt → (show_att a).part ≡ (show_att b).part
    → replaced v a ≡ replaced v b
unfolding means_shown
same_packet a b v src tgt e f =
    let o : (show_att a).opcode ≡ (show_att b).opcode = ap (λ (m : Meaning). m.opcode) e in
    let n : (show_att a).numbers ≡ (show_att b).numbers = ap (λ (m : Meaning). m.numbers) e in
    let x : ◌≡◌ {A = Parsed} (Ok (replaced v a)) (Ok (replaced v b)) = sym (built a v) ∙ rw (o, n, f) (built b v) in
    cc

own_req : (r : AttReq) → replaced_req (show_req r).uuid r ≡ r
own_req (req.ReadByGroupType s e u) = refl
own_req (req.ReadByType s e u) = refl
own_req (req.Read h) = refl
own_req (req.Write h d) = refl
own_req (req.ExchangeMtu m) = refl
own_req (req.FindByTypeValue s e t d) = refl
own_req (req.FindInformation s e) = refl
own_req (req.PrepareWrite h o d) = refl
own_req (req.ExecuteWrite f) = refl
own_req (req.ReadMultiple hs) = refl
own_req (req.ReadBlob h o) = refl

own_uuid : (a : Att) → replaced (show_att a).uuid a ≡ a
own_uuid (Client (Request r)) = ap (λ (x : AttReq). Client (Request x)) (own_req r)
own_uuid (Client (Command c)) = refl
own_uuid (Client (Confirmation c)) = refl
own_uuid (Server s) = refl

pub same_whole : (a b : Att) (src tgt : List ℕ) → meaning_of a src ≡ meaning_of b tgt → (show_att a).part ≡ (show_att b).part
    → (show_att a).uuid ≡ (show_att b).uuid → a ≡ b
same_whole a b src tgt e f g =
    sym (own_uuid a) ∙ same_packet a b (show_att a).uuid src tgt e f ∙ ap (λ (v : Uuid). replaced v b) g ∙ own_uuid b

pub same_uuid : (a b : Att) (src tgt : List ℕ) → (shape_of (show_att a).opcode).tail ≡ AUuid → meaning_of a src ≡ meaning_of b tgt
    → on_air (show_att a).uuid ≡ on_air (show_att b).uuid
unfolding means_shown
same_uuid a b src tgt h e =
    let o : (show_att a).opcode ≡ (show_att b).opcode = ap (λ (m : Meaning). m.opcode) e in
    let k : (shape_of (show_att b).opcode).tail ≡ AUuid = ap (λ (x : ℕ). (shape_of x).tail) (sym o) ∙ h in
    let t = ap (λ (m : Meaning). m.tail) e in
    sym (ap (λ (x : Tail). tail_of x (show_att a).uuid (part_of (show_att a).part src)) h)
    ∙ t
    ∙ ap (λ (x : Tail). tail_of x (show_att b).uuid (part_of (show_att b).part tgt)) k
