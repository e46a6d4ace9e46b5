-- The ledger of a table: what its attributes hold, in order, with no address in it (document 01, "Table, link and the till's own
-- stores"). The till's lookup is defined on it.
use Rattle.std.specs.Prelude.{ℕ, Bool, List, [], Result, Ok, Err, map, length}
use Rattle.codec.specs.Cases.{pick}
use Rattle.codec.specs.declared.Refusal.{Refusal}
use Rattle.codec.specs.declared.Refusal.TheVariants.{UnknownHandle, BadTable}
use Rattle.ble_uuid.specs.Uuids.{own}
use Rattle.attributes.specs.Lists.{first_at}
use Rattle.attributes.specs.Records.{Slot, entries, slot_of, value_of}
use Rattle.attributes.specs.Soundness.{sound_table}
use Rattle.attributes.specs.declared.Record.{Record}
use Rattle.attributes.specs.declared.Table.{Table}

-- An attribute with its value, wherever that stands. Its type is the type's own bytes.
pub record Item : Type 0 where
  pub handle : ℕ
  pub kind : List ℕ
  pub readable : Bool
  pub writable : Bool
  pub read_encrypted : Bool
  pub write_encrypted : Bool
  pub slot : Slot
  pub value : List ℕ

abbrev pub holding : Record → List ℕ → Item
holding r v = record {
  handle = r.handle;
  kind = own r.kind;
  readable = r.readable;
  writable = r.writable;
  read_encrypted = r.read_encrypted;
  write_encrypted = r.write_encrypted;
  slot = slot_of r.place;
  value = v;
}

abbrev pub item : List ℕ → List ℕ → Record → Item
item fixed live r = holding r (value_of r.place fixed live)

abbrev pub ledger_of : Table → List ℕ → List ℕ → List Item
ledger_of t fixed live = map (item fixed live) (entries t)

-- the same attribute with another value
abbrev pub valued : Item → List ℕ → Item
valued i v = record {
  handle = i.handle;
  kind = i.kind;
  readable = i.readable;
  writable = i.writable;
  read_encrypted = i.read_encrypted;
  write_encrypted = i.write_encrypted;
  slot = i.slot;
  value = v;
}

-- the attribute with a handle
abbrev pub item_at : {A : Type 0} → ℕ → (Item → A) → A → List Item → A
item_at h gives none is = first_at (λ (i : Item). i.handle) h gives none is

abbrev pub value_at : ℕ → List Item → List ℕ
value_at h is = item_at h (λ i. i.value) [] is

-- The till's lookup, whatever the marks: its refusal (11, then 8), and its value, which is empty on a refusal.
abbrev pub known : ℕ → List Item → Result Unit Refusal
known h is = item_at h (λ i. Ok tt) (Err UnknownHandle) is

unfoldable pub lookup_refusal : Table → ℕ → List ℕ → List ℕ → Result Unit Refusal
lookup_refusal t h fixed live = pick (sound_table t (length fixed) (length live)) (known h (ledger_of t fixed live)) (Err BadTable)

unfoldable pub looked_up : Table → ℕ → List ℕ → List ℕ → List ℕ
looked_up t h fixed live = pick (sound_table t (length fixed) (length live)) (value_at h (ledger_of t fixed live)) []
