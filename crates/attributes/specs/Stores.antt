-- Document 01, "Table, link and the till's own stores": what a store does, to the table, to the live bytes and to the ledger, and
-- the till's own store with its refusals. A store that concerns no record changes nothing.
use Rattle.std.specs.Prelude.{ℕ, zero, suc, Bool, true, false, ◌&&◌, List, [], ◌∷◌, Result, Ok, Err, length, leb, eqb}
use Rattle.codec.specs.Buffer.{over_at}
use Rattle.codec.specs.Cases.{pick}
use Rattle.codec.specs.declared.Refusal.{Refusal}
use Rattle.codec.specs.declared.Refusal.TheVariants.{UnknownHandle, NotStorable, TooLong, BadTable}
use Rattle.attributes.specs.Additions.{tested, changed_by, left_by}
use Rattle.attributes.specs.Ledger.{Item, ledger_of, valued, item_at}
use Rattle.attributes.specs.Records.{Slot, Kept, Room, entries, slot_of, fits, is_room, start, lengthened}
use Rattle.attributes.specs.Soundness.{sound_table}
use Rattle.attributes.specs.declared.Record.{Record}
use Rattle.attributes.specs.declared.Table.{Table}

-- a store of `n` bytes at the handle `h` concerns the attribute with this handle and this slot
abbrev pub takes : ℕ → ℕ → ℕ → Slot → Bool
takes h n handle slot = eqb handle h && fits n slot

-- In the table: the record's length. Records behind the count stay.
abbrev pub relength : ℕ → ℕ → Record → Record
relength h n r = pick (takes h n r.handle (slot_of r.place)) (lengthened r n) r

abbrev pub map_first : {A : Type 0} → ℕ → (A → A) → List A → List A
map_first zero f l = l
map_first (suc n) f [] = []
map_first (suc n) f (x ∷ xs) = f x ∷ map_first n f xs

abbrev pub relengthed : Table → ℕ → ℕ → Table
relengthed t h n = record {
  records = map_first t.count (relength h n) t.records;
  count = t.count;
  fixed_len = t.fixed_len;
  live_len = t.live_len;
}

-- In the live bytes: the value from the slot's start on. Slot bytes behind the value and all other bytes stay.
abbrev pub written_live : ℕ → List ℕ → List Record → List ℕ → List ℕ
written_live h v [] live = live
written_live h v (r ∷ rs) live =
    pick (takes h (length v) r.handle (slot_of r.place)) (over_at (start r.place) v live) (written_live h v rs live)

-- in the ledger: the attribute's value
abbrev pub put : ℕ → List ℕ → Item → Item
put h v i = pick (takes h (length v) i.handle i.slot) (valued i v) i

-- The till's own store of `n` bytes, whatever the marks, tests 11, 8, 9, 10: there is an attribute with the handle, it is not fixed, and
-- its slot has the room.
abbrev pub present : ℕ → List Item → Bool
present h is = item_at h (λ i. true) false is

abbrev pub storable : ℕ → List Item → Bool
storable h is = item_at h (λ i. is_room i.slot) false is

abbrev pub roomy : ℕ → ℕ → List Item → Bool
roomy h n is = item_at h (λ i. fits n i.slot) false is

abbrev pub store_tests : ℕ → ℕ → List Item → List (Bool × Refusal)
store_tests h n is = (present h is, UnknownHandle) ∷ (storable h is, NotStorable) ∷ (roomy h n is, TooLong) ∷ []

abbrev pub own_tests : Table → ℕ → ℕ → List ℕ → List ℕ → List (Bool × Refusal)
own_tests t h n fixed live = (sound_table t (length fixed) (length live), BadTable) ∷ store_tests h n (ledger_of t fixed live)

unfoldable pub own_refusal : Table → ℕ → ℕ → List ℕ → List ℕ → Result Unit Refusal
own_refusal t h n fixed live = tested (own_tests t h n fixed live)

-- what a slot says to a store, and the slot of the attribute with the handle: the last three tests in another form (`store_tests_lem`)
abbrev pub slot_refusal : ℕ → Slot → Result Unit Refusal
slot_refusal n Kept = Err NotStorable
slot_refusal n (Room c) = pick (leb n c) (Ok tt) (Err TooLong)

abbrev pub store_refusal : ℕ → ℕ → List Item → Result Unit Refusal
store_refusal h n is = item_at h (λ i. slot_refusal n i.slot) (Err UnknownHandle) is

unfoldable pub stored : Table → ℕ → List ℕ → List ℕ → List ℕ → Result Table Refusal
stored t h v fixed live = changed_by (own_refusal t h (length v) fixed live) (relengthed t h (length v))

-- the table that a caller has after it: with the new length, or its own where it was refused
abbrev pub stored_table : Table → ℕ → List ℕ → List ℕ → List ℕ → Table
stored_table t h v fixed live = left_by (own_refusal t h (length v) fixed live) (relengthed t h (length v)) t

-- the live bytes after it; a refusal leaves them as they were
abbrev pub live_by : Result Unit Refusal → List ℕ → List ℕ → List ℕ
live_by (Ok u) next live = next
live_by (Err why) next live = live

unfoldable pub stored_live : Table → ℕ → List ℕ → List ℕ → List ℕ → List ℕ
stored_live t h v fixed live = live_by (own_refusal t h (length v) fixed live) (written_live h v (entries t) live) live
