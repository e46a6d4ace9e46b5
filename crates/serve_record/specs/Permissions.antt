-- Document 01, "Table, link and the till's own stores": "May read" as a function of a record's marks and the link's encryption
-- alone, by the book's own rule. Not readable 02; not encrypted 0F.
use Rattle.std.specs.Prelude.{Bool, List, [], ℕ, Result, Ok, Err}
use Rattle.codec.specs.Cases.{pick}
use Rattle.att.specs.Typed.{code}
use Rattle.att_error.specs.declared.AttErrorCode.{AttErrorCode}
use Rattle.attributes.specs.Ledger.{holding}
use Rattle.attributes.specs.declared.Record.{Record}
use Rattle.answers.specs.View.{Reading, Value, NoRead, may_read, unreadable}

unfoldable pub permission_of : Bool → Record → Result Unit AttErrorCode
permission_of encrypted r = pick (may_read encrypted (holding r [])) (Ok tt) (Err (code (unreadable (holding r []))))

-- what a permission makes of a value
abbrev pub read_by : Result Unit AttErrorCode → List ℕ → Reading
read_by (Ok u) v = Value v
read_by (Err c) v = NoRead c.value
