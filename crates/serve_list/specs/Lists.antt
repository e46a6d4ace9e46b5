-- Document 01, "How a packet is served": the reply to 04, 06, 08 or 10, told by what is asked. ListsLaws.antt says that for a
-- legal MTU each is the reply of the book.
use Rattle.std.specs.Prelude.{ℕ, Bool, true, List, eqb, Some, None, Ok, Err}
use Rattle.codec.specs.Cases.{pick}
use Rattle.att.specs.Typed.{span}
use Rattle.att.specs.Wire.{Meaning, Coded, send}
use Rattle.att.specs.declared.AttRsp.{AttRsp}
use Rattle.att.specs.declared.FindInformationUuidFormat.{FindInformationUuidFormat}
use Rattle.att.specs.declared.FindInformationUuidFormat.TheVariants.{Uuid16, Uuid128}
use Rattle.att.specs.declared.AttRsp.TheVariants as rsp
use Rattle.answers.specs.Replies as book
use Rattle.answers.specs.Replies.{Reply, error, error_packet, range_ok, listing, infos, pairs, values, group_values, groups, mtu_ok}
use Rattle.answers.specs.Serve.{State, views}
use Rattle.answers.specs.View.{View}
use Rattle.answers.specs.declared.Link.{Link}
use Rattle.serve_collect.specs.Collect.{Gathered}
use Rattle.serve_search.specs.Search.{Asked, found_for}
use Rattle.serve_search.specs.declared.Ask.{Ask}
use Rattle.serve_search.specs.declared.Ask.TheVariants.{Info, Pair, Typed, Grouped}
use Rattle.serve_tell.specs.Tell.{packet_of, wrote_of, out_of}
use Rattle.serve_tell.specs.declared.Wrote.{Wrote}

abbrev pub asking : Ask → ℕ → ℕ → List ℕ → List ℕ → Asked
asking ask from to kind value = record { ask = ask; from = from; to = to; kind = kind; value = value }

abbrev pub op_for : Ask → ℕ
op_for Info = 0x04
op_for Pair = 0x06
op_for Typed = 0x08
op_for Grouped = 0x10

-- "10 with a type other than 16-bit 2800 or 2801, error 10 with start, after the range test."
abbrev pub kind_ok : Ask → List ℕ → Bool
kind_ok Info kind = true
kind_ok Pair kind = true
kind_ok Typed kind = true
kind_ok Grouped kind = groups kind

abbrev pub answer_for : Ask → ℕ → List ℕ → Meaning
answer_for Info n is = infos n is
answer_for Pair n is = pairs n is
answer_for Typed n is = values n is
answer_for Grouped n is = group_values n is

-- for an MTU that is not legal nothing is found
unfoldable pub found_in : Asked → List View → Link → book.Found
found_in q vs l = pick (mtu_ok l.mtu) (found_for q vs l) book.None

unfoldable pub list_reply : Asked → List View → Link → Reply
list_reply q vs l =
    pick (range_ok q.from q.to)
    (pick (kind_ok q.ask q.kind)
    (listing (op_for q.ask) q.from (answer_for q.ask) (found_in q vs l))
    (error (op_for q.ask) q.from 0x10))
    (error (op_for q.ask) q.from 0x01)

-- what goes out of it, and what the output then holds
abbrev pub list_wrote : Asked → State → ℕ → Wrote
list_wrote q s room = wrote_of (list_reply q (views s) s.link) (op_for q.ask) room

abbrev pub list_out : Asked → State → List ℕ → List ℕ
list_out q s out = out_of (list_reply q (views s) s.link) (op_for q.ask) out

-- the typed answer of a list, its items in the first bytes that are handed over
abbrev pub format_for : ℕ → FindInformationUuidFormat
format_for n = pick (eqb n 4) Uuid16 Uuid128

abbrev pub response_for : Ask → ℕ → ℕ → AttRsp
response_for Info n used = rsp.FindInformation (format_for n) (span 0 used)
response_for Pair n used = rsp.FindByTypeValue (span 0 used)
response_for Typed n used = rsp.ReadByType n (span 0 used)
response_for Grouped n used = rsp.ReadByGroupType n (span 0 used)

abbrev pub found_coded : Ask → ℕ → Gathered → List ℕ → Coded
found_coded ask from None items = send (error_packet (op_for ask) from 0x0A)
found_coded ask from (Some (Err x)) items = send (error_packet (op_for ask) x.handle x.code.value)
found_coded ask from (Some (Ok x)) items = packet_of (response_for ask x.item_len x.used) items
