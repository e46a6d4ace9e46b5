-- Document 01, "Table, link and the till's own stores": what a link may see of an attribute. A value that it may not read is not
-- in its view, so no answer can speak of it.
use Rattle.std.specs.Prelude.{ℕ, Bool, false, ◌&&◌, ◌||◌, not, List, map}
use Rattle.codec.specs.Cases.{pick}
use Rattle.attributes.specs.Records.{slot_size}
use Rattle.attributes.specs.Ledger.{Item, item_at}
use Rattle.attributes.specs.Lists.{first_at}

-- Reading gives the value, or the code that it is refused with; writing the room, or the code.
pub data Reading : Type 0 where
  Value : List ℕ → Reading
  NoRead : ℕ → Reading

pub data Writing : Type 0 where
  UpTo : ℕ → Writing
  NoWrite : ℕ → Writing

pub record View : Type 0 where
  pub handle : ℕ
  pub kind : List ℕ
  pub reading : Reading
  pub writing : Writing

-- "May read", "may write": marked so, and encrypted if that needs it; and so of the attribute with a handle.
abbrev pub may_read : Bool → Item → Bool
may_read encrypted i = i.readable && (not i.read_encrypted || encrypted)

abbrev pub may_write : Bool → Item → Bool
may_write encrypted i = i.writable && (not i.write_encrypted || encrypted)

abbrev pub may_read_at : Bool → ℕ → List Item → Bool
may_read_at encrypted h is = item_at h (may_read encrypted) false is

-- the code where it may not: not readable 02, not writable 03; not encrypted 0F
abbrev pub unreadable : Item → ℕ
unreadable i = pick i.readable 0x0F 0x02

abbrev pub unwritable : Item → ℕ
unwritable i = pick i.writable 0x0F 0x03

abbrev pub reading_of : Bool → Item → Reading
reading_of encrypted i = pick (may_read encrypted i) (Value i.value) (NoRead (unreadable i))

abbrev pub writing_of : Bool → Item → Writing
writing_of encrypted i = pick (may_write encrypted i) (UpTo (slot_size i.slot)) (NoWrite (unwritable i))

abbrev pub view : Bool → Item → View
view encrypted i = record {
  handle = i.handle;
  kind = i.kind;
  reading = reading_of encrypted i;
  writing = writing_of encrypted i;
}

-- what a link sees of the attribute with a handle
abbrev pub view_at : {A : Type 0} → ℕ → (View → A) → A → List View → A
view_at h gives none vs = first_at (λ (v : View). v.handle) h gives none vs

abbrev pub views_of : Bool → List Item → List View
views_of encrypted is = map (view encrypted) is
