-- Document 01, "Bytes to try": cases 1 to 15 as one list. A case is what is tried, and what must come of it.
use Rattle.std.specs.Prelude.{ℕ, Bool, true, false, List, [], ◌∷◌, ◌++◌, length, replicate, Ok, Err}
use Rattle.ble_uuid.specs.Uuids.{short}
use Rattle.codec.specs.Refusals.{refusal_number, refusal_of}
use Rattle.att.specs.Wire.{strict, Coded, Sent}
use Rattle.att.specs.Items.{items_of}
use Rattle.att.specs.Typed.{Parsed, span, code, request, response, decoded, meaning_of, encoded_again}
use Rattle.att.specs.declared.Att.{Att}
use Rattle.att.specs.declared.AttReq.TheVariants as req
use Rattle.att.specs.declared.FindInformationUuidFormat.TheVariants.{Uuid16}
use Rattle.att.specs.declared.AttRsp.TheVariants as rsp
use Rattle.attributes.specs.Additions.{blank}
use Rattle.attributes.specs.declared.Place.{Place}
use Rattle.attributes.specs.declared.Place.TheVariants.{Fixed, Live}
use Rattle.attributes.specs.declared.Record.{Record}
use Rattle.attributes.specs.declared.Table.{Table}
use Rattle.answers.specs.Serve.{first_link, State, Heard, Bytes, serve}
use Rattle.answers.specs.declared.Link.{Link}

-- The table: 1 type 2800 fixed 0F 18; 2 type 2803 fixed 02 03 00 19 2A; 3 type 2A19 live, capacity 1, value 64; all readable only.
-- 4 type FFF1 live, capacity 4, writable only, value 31 32. MTU 23.
abbrev pub attribute : ℕ → ℕ → Bool → Bool → Place → Record
attribute h kind r w place = record {
  handle = h;
  kind = short kind;
  readable = r;
  writable = w;
  read_encrypted = false;
  write_encrypted = false;
  place = place;
}

abbrev pub till_table : ℕ → Table
till_table codeLength = record {
  records =
      attribute 1 0x2800 true false (Fixed 0 2)
      ∷ attribute 2 0x2803 true false (Fixed 2 5)
      ∷ attribute 3 0x2A19 true false (Live 0 1 1)
      ∷ attribute 4 0xFFF1 false true (Live 1 4 codeLength)
      ∷ replicate 60 blank;
  count = 4;
  fixed_len = 7;
  live_len = 5;
}

abbrev pub new_link : Link
new_link = first_link false

-- the till with an unlock code and what stands behind it in its slot
abbrev pub till_with : List ℕ → List ℕ → State
till_with digits rest = record {
  table = till_table (length digits);
  link = new_link;
  fixed = 0x0F ∷ 0x18 ∷ 0x02 ∷ 0x03 ∷ 0x00 ∷ 0x19 ∷ 0x2A ∷ [];
  live = 0x64 ∷ (digits ++ rest);
}

abbrev pub till : State
till = till_with (0x31 ∷ 0x32 ∷ []) (0x00 ∷ 0x00 ∷ [])

-- What may be tried: to decode, to test strictly, to decode and list the items, to decode and encode, to send to the till into an
-- output of 64 bytes.
pub data Trial : Type 0 where
  Decode : List ℕ → Trial
  Strict : List ℕ → Trial
  ListItems : List ℕ → Trial
  Again : List ℕ → Trial
  Send : List ℕ → Trial

pub data Result : Type 0 where
  Gives : Att → Result
  Refuses : ℕ → Result
  IsStrict : Bool → Result
  Holds : List (List ℕ) → Result
  Encodes : Coded → Result
  Hears : Heard → Result

-- what `decode` answers: a typed packet, or a refusal with its number
abbrev pub given : Parsed → Result
given (Ok a) = Gives a
given (Err e) = Refuses (refusal_number (refusal_of e))

abbrev pub listed : Parsed → List ℕ → List (List ℕ)
listed (Ok a) b = items_of (meaning_of a b)
listed (Err e) b = []

abbrev pub tried : Trial → Result
tried (Decode b) = given (decoded b)
tried (Strict b) = IsStrict (strict b)
tried (ListItems b) = Holds (listed (decoded b) b)
tried (Again b) = Encodes (encoded_again (decoded b) b)
tried (Send b) = Hears (serve till b 64).heard

-- InvalidValue
abbrev pub invalid : Result
invalid = Refuses 2

abbrev pub answers : List ℕ → Result
answers b = Hears (Bytes b)

unfoldable pub cases : List (Trial × Result)
cases =
    -- (1) empty, InvalidValue
    (Decode [], invalid)
    -- (2) 0A 34 12, Read of 1234
    ∷ (Decode (0x0A ∷ 0x34 ∷ 0x12 ∷ []), given (request (req.Read 0x1234)))
    -- (3) 0A, InvalidValue
    ∷ (Decode (0x0A ∷ []), invalid)
    -- (4) 0A 34 12 99, as 2, not strict
    ∷ (Decode (0x0A ∷ 0x34 ∷ 0x12 ∷ 0x99 ∷ []), given (request (req.Read 0x1234)))
    ∷ (Strict (0x0A ∷ 0x34 ∷ 0x12 ∷ 0x99 ∷ []), IsStrict false)
    -- (5) 01 0A 01 00, InvalidValue; with 0A added, accepted
    ∷ (Decode (0x01 ∷ 0x0A ∷ 0x01 ∷ 0x00 ∷ []), invalid)
    ∷ (Decode (0x01 ∷ 0x0A ∷ 0x01 ∷ 0x00 ∷ 0x0A ∷ []), given (response (rsp.Error 0x0A 0x0001 (code 0x0A))))
    -- (6) 09 03 05 00 AA 06 00, one item, encodes to 09 03 05 00 AA
    ∷ (ListItems (0x09 ∷ 0x03 ∷ 0x05 ∷ 0x00 ∷ 0xAA ∷ 0x06 ∷ 0x00 ∷ []), Holds ((0x05 ∷ 0x00 ∷ 0xAA ∷ []) ∷ []))
    ∷ (Again (0x09 ∷ 0x03 ∷ 0x05 ∷ 0x00 ∷ 0xAA ∷ 0x06 ∷ 0x00 ∷ []), Encodes (Sent (0x09 ∷ 0x03 ∷ 0x05 ∷ 0x00 ∷ 0xAA ∷ [])))
    -- (7) 09 01, InvalidValue
    ∷ (Decode (0x09 ∷ 0x01 ∷ []), invalid)
    -- (8) 05 01 accepted without pairs, 05 03 InvalidValue
    ∷ (Decode (0x05 ∷ 0x01 ∷ []), given (response (rsp.FindInformation Uuid16 (span 2 0))))
    ∷ (ListItems (0x05 ∷ 0x01 ∷ []), Holds [])
    ∷ (Decode (0x05 ∷ 0x03 ∷ []), invalid)
    -- (9) 04 01 00 FF FF
    ∷ (Send (0x04 ∷ 0x01 ∷ 0x00 ∷ 0xFF ∷ 0xFF ∷ []), answers (0x05 ∷ 0x01 ∷ 0x01 ∷ 0x00 ∷ 0x00 ∷ 0x28 ∷ 0x02 ∷ 0x00 ∷ 0x03 ∷ 0x28 ∷ 0x03 ∷ 0x00 ∷ 0x19 ∷ 0x2A ∷ 0x04 ∷ 0x00 ∷ 0xF1 ∷ 0xFF ∷ []))
    -- (10) 10 01 00 FF FF 00 28
    ∷ (Send (0x10 ∷ 0x01 ∷ 0x00 ∷ 0xFF ∷ 0xFF ∷ 0x00 ∷ 0x28 ∷ []), answers (0x11 ∷ 0x06 ∷ 0x01 ∷ 0x00 ∷ 0x04 ∷ 0x00 ∷ 0x0F ∷ 0x18 ∷ []))
    -- (11) 0A 04 00
    ∷ (Send (0x0A ∷ 0x04 ∷ 0x00 ∷ []), answers (0x01 ∷ 0x0A ∷ 0x04 ∷ 0x00 ∷ 0x02 ∷ []))
    -- (12) 06 01 00 FF FF F1 FF 31 32
    ∷ (Send (0x06 ∷ 0x01 ∷ 0x00 ∷ 0xFF ∷ 0xFF ∷ 0xF1 ∷ 0xFF ∷ 0x31 ∷ 0x32 ∷ []), answers (0x01 ∷ 0x06 ∷ 0x01 ∷ 0x00 ∷ 0x0A ∷ []))
    -- (13) 08 01 00 FF FF F1 FF
    ∷ (Send (0x08 ∷ 0x01 ∷ 0x00 ∷ 0xFF ∷ 0xFF ∷ 0xF1 ∷ 0xFF ∷ []), answers (0x01 ∷ 0x08 ∷ 0x04 ∷ 0x00 ∷ 0x02 ∷ []))
    -- (14) 12 04 00 and five bytes gives 01 12 04 00 0D; with four, 13
    ∷ (Send (0x12 ∷ 0x04 ∷ 0x00 ∷ 0x61 ∷ 0x62 ∷ 0x63 ∷ 0x64 ∷ 0x65 ∷ []), answers (0x01 ∷ 0x12 ∷ 0x04 ∷ 0x00 ∷ 0x0D ∷ []))
    ∷ (Send (0x12 ∷ 0x04 ∷ 0x00 ∷ 0x61 ∷ 0x62 ∷ 0x63 ∷ 0x64 ∷ []), answers (0x13 ∷ []))
    -- (15) 0A 00 00
    ∷ (Send (0x0A ∷ 0x00 ∷ 0x00 ∷ []), answers (0x01 ∷ 0x0A ∷ 0x00 ∷ 0x00 ∷ 0x01 ∷ []))
    ∷ []
