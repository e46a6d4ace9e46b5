-- The typed packets of the code (document 01, "Packets" and "Shapes that cannot be kept"): which of them each row decodes to, and
-- what each of them means. A data field is an index range; what the packet means has the bytes in its place.
use Rattle.std.specs.Prelude.{ℕ, ◌+◌, ◌-◌, ◌^◌, Bool, ◌&&◌, List, [], ◌∷◌, length, take, drop, get_or, leb, ltb, Result, Ok, Err, Option, Some, None}
use Rattle.codec.specs.Buffer.{laid, written}
use Rattle.codec.specs.Cases.{pick, lookup}
use Rattle.codec.specs.declared.Error.{Error}
use Rattle.codec.specs.declared.Error.TheVariants.{InvalidValue}
use Rattle.att_error.specs.declared.AttErrorCode.{AttErrorCode}
use Rattle.ble_uuid.specs.Uuids.{on_air, no_uuid, uuid_of}
use Rattle.ble_uuid.specs.declared.Uuid.{Uuid}
use Rattle.att.specs.Formats.{format_of, format_number}
use Rattle.att.specs.Wire.{Tail, Ends, Rest, Handles, AUuid, Items, NoPacket, Shape, shape_of, total, numbers, decodes, Meaning, meaning, Read, Means, NotRead, Coded, Sent, NotSent, send}
use Rattle.att.specs.declared.Span.{Span}
use Rattle.att.specs.declared.AttReq.{AttReq}
use Rattle.att.specs.declared.AttReq.TheVariants as req
use Rattle.att.specs.declared.AttCfm.{AttCfm}
use Rattle.att.specs.declared.AttCfm.TheVariants as cfm
use Rattle.att.specs.declared.AttClient.{AttClient}
use Rattle.att.specs.declared.AttClient.TheVariants.{Request, Command, Confirmation}
use Rattle.att.specs.declared.AttRsp.{AttRsp}
use Rattle.att.specs.declared.AttRsp.TheVariants as rsp
use Rattle.att.specs.declared.AttUns.{AttUns}
use Rattle.att.specs.declared.AttUns.TheVariants as uns
use Rattle.att.specs.declared.AttServer.{AttServer}
use Rattle.att.specs.declared.AttServer.TheVariants.{Response, Unsolicited}
use Rattle.att.specs.declared.Att.{Att}
use Rattle.att.specs.declared.Att.TheVariants.{Client, Server}

abbrev pub span : ℕ → ℕ → Span
span at n = record { at = at; len = n }

-- What bytes decode to: a packet, or why there is none.
abbrev pub Parsed : Type 0
Parsed = Result Att Error

-- The packet of each opcode, made of the numbers of its fixed fields, the UUID and the range of what follows them. Even opcodes are
-- client, odd ones server.
abbrev pub Build : Type 0
Build = List ℕ → Uuid → Span → Parsed

abbrev pub nth : List ℕ → ℕ → ℕ
nth ns k = get_or ns k 0

-- the error code of a number
abbrev pub code : ℕ → AttErrorCode
code n = record { value = n }

abbrev pub request : AttReq → Parsed
request r = Ok (Client (Request r))

abbrev pub response : AttRsp → Parsed
response r = Ok (Server (Response r))

unfoldable pub builds : List (ℕ × Build)
builds =
    (0x01, λ ns u d. response (rsp.Error (nth ns 0) (nth ns 1) (code (nth ns 2))))
    ∷ (0x02, λ ns u d. request (req.ExchangeMtu (nth ns 0)))
    ∷ (0x03, λ ns u d. response (rsp.ExchangeMtu (nth ns 0)))
    ∷ (0x04, λ ns u d. request (req.FindInformation (nth ns 0) (nth ns 1)))
    ∷ (0x05, λ ns u d. response (rsp.FindInformation (format_of (nth ns 0)) d))
    ∷ (0x06, λ ns u d. request (req.FindByTypeValue (nth ns 0) (nth ns 1) (nth ns 2) d))
    ∷ (0x07, λ ns u d. response (rsp.FindByTypeValue d))
    ∷ (0x08, λ ns u d. request (req.ReadByType (nth ns 0) (nth ns 1) u))
    ∷ (0x09, λ ns u d. response (rsp.ReadByType (nth ns 0) d))
    ∷ (0x0A, λ ns u d. request (req.Read (nth ns 0)))
    ∷ (0x0B, λ ns u d. response (rsp.Read d))
    ∷ (0x0C, λ ns u d. request (req.ReadBlob (nth ns 0) (nth ns 1)))
    ∷ (0x0D, λ ns u d. response (rsp.ReadBlob d))
    ∷ (0x10, λ ns u d. request (req.ReadByGroupType (nth ns 0) (nth ns 1) u))
    ∷ (0x11, λ ns u d. response (rsp.ReadByGroupType (nth ns 0) d))
    ∷ (0x12, λ ns u d. request (req.Write (nth ns 0) d))
    ∷ (0x13, λ ns u d. response rsp.Write)
    ∷ (0x16, λ ns u d. request (req.PrepareWrite (nth ns 0) (nth ns 1) d))
    ∷ (0x18, λ ns u d. request (req.ExecuteWrite (nth ns 0)))
    ∷ (0x1B, λ ns u d. Ok (Server (Unsolicited (uns.Notify (nth ns 0) d))))
    ∷ (0x1D, λ ns u d. Ok (Server (Unsolicited (uns.Indicate (nth ns 0) d))))
    ∷ (0x1E, λ ns u d. Ok (Client (Confirmation cfm.ConfirmIndication)))
    ∷ (0x20, λ ns u d. request (req.ReadMultiple d))
    ∷ (0x52, λ ns u d. Ok (Client (Command (record { handle = nth ns 0; «data» = d }))))
    ∷ []

abbrev pub refused_build : Build
refused_build ns u d = Err InvalidValue

unfoldable pub build_of : ℕ → Build
build_of op = lookup op builds refused_build

-- Decoding: a row's answer to the payload `p` behind the opcode. The range of what follows the fixed fields counts from the opcode on.
abbrev pub behind : ℕ → List ℕ → Span
behind k p = span (k + 1) (length p - k)

-- the UUID that a packet carries behind its fixed fields; where it carries none the 16-bit 0000
abbrev pub uuid_in : Tail → List ℕ → Uuid
uuid_in Ends r = no_uuid
uuid_in Rest r = no_uuid
uuid_in Handles r = no_uuid
uuid_in AUuid r = uuid_of r
uuid_in (Items each least) r = no_uuid
uuid_in NoPacket r = no_uuid

abbrev pub shape_builds : Shape → Build → List ℕ → Parsed
shape_builds s b p = b (numbers 0 s.fields p) (uuid_in s.tail (drop (total s.fields) p)) (behind (total s.fields) p)

abbrev pub refusal : Parsed
refusal = Err InvalidValue

unfoldable pub row_decoded : ℕ → List ℕ → Parsed
row_decoded op p = pick (decodes op p) (shape_builds (shape_of op) (build_of op) p) refusal

unfoldable pub decoded : List ℕ → Parsed
decoded [] = refusal
decoded (op ∷ p) = row_decoded op p

-- What a typed packet shows: its opcode, its numbers in the order of the row, its UUID and its range. A packet without a UUID shows the
-- 16-bit 0000, one without data an empty range.
pub record Shown : Type 0 where
  pub opcode : ℕ
  pub numbers : List ℕ
  pub uuid : Uuid
  pub part : Span

abbrev pub shown_all : ℕ → List ℕ → Uuid → Span → Shown
shown_all op ns u d = record { opcode = op; numbers = ns; uuid = u; part = d }

abbrev pub shown : ℕ → List ℕ → Span → Shown
shown op ns d = shown_all op ns no_uuid d

abbrev pub fixed : ℕ → List ℕ → Shown
fixed op ns = shown op ns (span 0 0)

abbrev pub with_uuid : ℕ → List ℕ → Uuid → Shown
with_uuid op ns u = shown_all op ns u (span 0 0)

abbrev pub show_req : AttReq → Shown
show_req (req.ReadByGroupType s e u) = with_uuid 0x10 (s ∷ e ∷ []) u
show_req (req.ReadByType s e u) = with_uuid 0x08 (s ∷ e ∷ []) u
show_req (req.Read h) = fixed 0x0A (h ∷ [])
show_req (req.Write h d) = shown 0x12 (h ∷ []) d
show_req (req.ExchangeMtu m) = fixed 0x02 (m ∷ [])
show_req (req.FindByTypeValue s e t v) = shown 0x06 (s ∷ e ∷ t ∷ []) v
show_req (req.FindInformation s e) = fixed 0x04 (s ∷ e ∷ [])
show_req (req.PrepareWrite h o v) = shown 0x16 (h ∷ o ∷ []) v
show_req (req.ExecuteWrite f) = fixed 0x18 (f ∷ [])
show_req (req.ReadMultiple hs) = shown 0x20 [] hs
show_req (req.ReadBlob h o) = fixed 0x0C (h ∷ o ∷ [])

abbrev pub show_cfm : AttCfm → Shown
show_cfm cfm.ConfirmIndication = fixed 0x1E []

abbrev pub show_client : AttClient → Shown
show_client (Request r) = show_req r
show_client (Command c) = shown 0x52 (c.handle ∷ []) c.«data»
show_client (Confirmation c) = show_cfm c

abbrev pub show_rsp : AttRsp → Shown
show_rsp (rsp.ExchangeMtu m) = fixed 0x03 (m ∷ [])
show_rsp (rsp.FindByTypeValue i) = shown 0x07 [] i
show_rsp (rsp.FindInformation f i) = shown 0x05 (format_number f ∷ []) i
show_rsp (rsp.Error r h c) = fixed 0x01 (r ∷ h ∷ c.value ∷ [])
show_rsp (rsp.ReadByType n i) = shown 0x09 (n ∷ []) i
show_rsp (rsp.ReadByGroupType n i) = shown 0x11 (n ∷ []) i
show_rsp (rsp.Read d) = shown 0x0B [] d
show_rsp (rsp.ReadBlob d) = shown 0x0D [] d
show_rsp rsp.Write = fixed 0x13 []

abbrev pub show_uns : AttUns → Shown
show_uns (uns.Notify h d) = shown 0x1B (h ∷ []) d
show_uns (uns.Indicate h d) = shown 0x1D (h ∷ []) d

abbrev pub show_server : AttServer → Shown
show_server (Response r) = show_rsp r
show_server (Unsolicited u) = show_uns u

abbrev pub show_att : Att → Shown
show_att (Client c) = show_client c
show_att (Server s) = show_server s

-- The bytes of a range, and whether it lies within them.
abbrev pub part_of : Span → List ℕ → List ℕ
part_of d src = take d.len (drop d.at src)

abbrev pub part_ok : Span → List ℕ → Bool
part_ok d src = leb d.at (length src) && leb d.len (length src - d.at)

abbrev pub part_in : Span → List ℕ → Option (List ℕ)
part_in d src = pick (part_ok d src) (Some (part_of d src)) None

-- What a shown packet means over the bytes that it points into: only 08 and 10 look at the UUID.
abbrev pub tail_of : Tail → Uuid → List ℕ → List ℕ
tail_of Ends u d = []
tail_of Rest u d = d
tail_of Handles u d = d
tail_of AUuid u d = on_air u
tail_of (Items each least) u d = d
tail_of NoPacket u d = []

unfoldable pub means_shown : Shown → List ℕ → Meaning
means_shown s src = meaning s.opcode s.numbers (tail_of (shape_of s.opcode).tail s.uuid (part_of s.part src))

abbrev pub meaning_of : Att → List ℕ → Meaning
meaning_of a src = means_shown (show_att a) src

-- Encoding: ranges and values are tested (2); so is that the length is a number of the machine, which no packet that fits a memory
-- can pass.
abbrev pub countable : Coded → Coded
countable (Sent b) = pick (ltb (length b) (2 ^ 64)) (Sent b) NotSent
countable NotSent = NotSent

unfoldable pub encoded_shown : Shown → List ℕ → Coded
encoded_shown s src = pick (part_ok s.part src) (countable (send (means_shown s src))) NotSent

abbrev pub encoded : Att → List ℕ → Coded
encoded a src = encoded_shown (show_att a) src

-- What encoding and the size answer, and what the lent output holds afterwards: then room is tested (1).
abbrev pub written_of : Coded → List ℕ → Result ℕ Error
written_of (Sent b) out = written b out
written_of NotSent out = Err InvalidValue

abbrev pub laid_of : Coded → List ℕ → List ℕ
laid_of (Sent b) out = laid b out
laid_of NotSent out = out

abbrev pub length_of : Coded → Result ℕ Error
length_of (Sent b) = Ok (length b)
length_of NotSent = Err InvalidValue

-- What decoded bytes mean, as the wire has it.
abbrev pub read_of : Parsed → List ℕ → Read
read_of (Ok a) src = Means (meaning_of a src)
read_of (Err e) src = NotRead

-- What decoded bytes are encoded to over the bytes that they came in.
abbrev pub encoded_again : Parsed → List ℕ → Coded
encoded_again (Ok a) src = encoded a src
encoded_again (Err e) src = NotSent
