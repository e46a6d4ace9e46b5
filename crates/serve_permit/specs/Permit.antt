-- Document 01, "How a packet is served", 0A, 0C and 12: unknown handle 01; not readable 02 or not writable 03; not encrypted 0F.
use Rattle.std.specs.Prelude.{ℕ, Bool, List, [], length, leb, Result, Ok, Err}
use Rattle.codec.specs.Cases.{pick}
use Rattle.attributes.specs.Ledger.{holding}
use Rattle.attributes.specs.Records.{entries, slot_of, slot_size, record_at}
use Rattle.attributes.specs.declared.Record.{Record}
use Rattle.attributes.specs.declared.Table.{Table}
use Rattle.att_error.specs.declared.AttErrorCode.{AttErrorCode}
use Rattle.att.specs.Typed.{code}
use Rattle.att.specs.Wire.{meaning}
use Rattle.answers.specs.Replies.{Reply, Packet, Stores, doing, error}
use Rattle.answers.specs.View.{may_write, unwritable}
use Rattle.answers.specs.declared.Link.{Link}
use Rattle.serve_record.specs.Permissions.{permission_of}

unfoldable pub read_at : Bool → ℕ → List Record → Result Unit AttErrorCode
read_at encrypted h rs = record_at h (permission_of encrypted) (Err (code 0x01)) rs

unfoldable pub writable_by : Bool → Record → Result ℕ AttErrorCode
writable_by encrypted r =
    pick (may_write encrypted (holding r [])) (Ok (slot_size (slot_of r.place))) (Err (code (unwritable (holding r []))))

unfoldable pub write_at : Bool → ℕ → List Record → Result ℕ AttErrorCode
write_at encrypted h rs = record_at h (writable_by encrypted) (Err (code 0x01)) rs

-- "12 over capacity 0D"
abbrev pub store_by : ℕ → Result ℕ AttErrorCode → Result Unit AttErrorCode
store_by n (Ok capacity) = pick (leb n capacity) (Ok tt) (Err (code 0x0D))
store_by n (Err c) = Err c

unfoldable pub store_at : Bool → ℕ → ℕ → List Record → Result Unit AttErrorCode
store_at encrypted h n rs = store_by n (write_at encrypted h rs)

-- the answer to 12, and what 52 does
abbrev pub store_reply : ℕ → List ℕ → Result Unit AttErrorCode → Reply
store_reply h d (Ok u) = doing (Packet (meaning 0x13 [] [])) (Stores h d)
store_reply h d (Err c) = error 0x12 h c.value

abbrev pub store_to : Table → Link → ℕ → List ℕ → Reply
store_to t l h d = store_reply h d (store_at l.encrypted h (length d) (entries t))
