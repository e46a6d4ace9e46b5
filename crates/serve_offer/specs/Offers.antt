-- Document 01, "How a packet is served": what a record offers to 06, 08 and 10, told before an item is made of it. OffersLaws.antt
-- says that this is what the record's view gives in the responder's book.
use Rattle.std.specs.Prelude.{ℕ, Bool, List, ◌++◌, Option, Some, None, Result, Ok, Err}
use Rattle.codec.specs.Cases.{pick, same}
use Rattle.ble_uuid.specs.Uuids.{own, equal_types}
use Rattle.att_error.specs.declared.AttErrorCode.{AttErrorCode}
use Rattle.attributes.specs.Records.{value_of}
use Rattle.attributes.specs.declared.Record.{Record}
use Rattle.attributes.specs.declared.Table.{Table}
use Rattle.answers.specs.Replies as book
use Rattle.answers.specs.Replies.{Part, group_end, end_of}
use Rattle.answers.specs.Serve.{State}
use Rattle.answers.specs.declared.Link.{Link}
use Rattle.serve_record.specs.Permissions.{permission_of}
use Rattle.serve_groups.specs.Groups.{outlines_of}
use Rattle.serve_collect.specs.Collect.{head_of}
use Rattle.serve_collect.specs.declared.Head.{Head}
use Rattle.serve_collect.specs.declared.Head.TheVariants.{Handle, Range}

-- nothing, an item with this head, or the code that reading is refused with
abbrev pub Offer : Type 0
Offer = Option (Result Head AttErrorCode)

-- what the offer of the record with the handle `h` means, with what stands behind the head of the item
abbrev pub meant : ℕ → Offer → List ℕ → Part
meant h None tail = book.Skip
meant h (Some (Ok head)) tail = book.Take (head_of head ++ tail)
meant h (Some (Err c)) tail = book.Fail h c.value

abbrev pub pair_by : Result Unit AttErrorCode → Bool → Head → Offer
pair_by (Ok u) equal head = pick equal (Some (Ok head)) None
pair_by (Err c) equal head = None

unfoldable pub pair_offer : List ℕ → List ℕ → State → Record → Offer
pair_offer kind value s r =
    pick (equal_types (own r.kind) kind)
    (pair_by (permission_of s.link.encrypted r) (same (value_of r.place s.fixed s.live) value) (Range r.handle (end_of (outlines_of s.table) kind r.handle)))
    None

abbrev pub offer_by : Result Unit AttErrorCode → Head → Offer
offer_by (Ok u) head = Some (Ok head)
offer_by (Err c) head = Some (Err c)

unfoldable pub typed_offer : List ℕ → Link → Record → Offer
typed_offer kind l r = pick (equal_types (own r.kind) kind) (offer_by (permission_of l.encrypted r) (Handle r.handle)) None

unfoldable pub grouped_offer : List ℕ → Table → Link → Record → Offer
grouped_offer kind t l r =
    pick (equal_types (own r.kind) kind)
    (offer_by (permission_of l.encrypted r) (Range r.handle (group_end (outlines_of t) r.handle)))
    None
