-- The tests stand in document 01's order: calls that fail two of them, and the one that is told. By computing.
use Rattle.std.specs.Prelude.{true, ◌≡◌, refl, List, [], ◌∷◌, Result, Ok, Err}
use Rattle.codec.specs.declared.Refusal.{Refusal}
use Rattle.codec.specs.declared.Refusal.TheVariants.{TableFull, BadHandle, BadType, BadValue, NoRoom, UnknownHandle, NotStorable, TooLong, BadTable}
use Rattle.ble_uuid.specs.Uuids.{short, wide}
use Rattle.attributes.specs.Additions.{empty_table, add_refusal}
use Rattle.attributes.specs.Examples.{wanted, adding_told, full_table, store_told}
use Rattle.attributes.specs.Soundness.{sound_table}
use Rattle.attributes.specs.Stores.{own_refusal}

-- ADDING, 11, 3, 4, 5, 6, 7: a longer area and handle 0; 64 records and handle 0; handle 0 and a 32-bit type; a 32-bit type and 513
-- bytes; 513 bytes and no room; no room
pub tests_in_order : ◌≡◌ {A = List (Result Unit Refusal)}
    (adding_told 1 (wanted 0 (short 0x2A19) 1)
    ∷ add_refusal full_table (wanted 0 (short 0x2A19) 1) 0 0
    ∷ adding_told 0 (wanted 0 (wide 0x2A19) 1)
    ∷ adding_told 0 (wanted 1 (wide 0x2A19) 513)
    ∷ adding_told 0 (wanted 1 (short 0x2A19) 513)
    ∷ adding_told 0 (wanted 1 (short 0x2A19) 1)
    ∷ [])
    (Err BadTable ∷ Err TableFull ∷ Err BadHandle ∷ Err BadType ∷ Err BadValue ∷ Err NoRoom ∷ [])
unfolding add_refusal sound_table
tests_in_order = refl

-- 512 bytes are a capacity, and 513 are not, where there is room for both
pub most_is_512 : ◌≡◌ {A = List (Result Unit Refusal)}
    (add_refusal (empty_table 0 513) (wanted 1 (short 0x2A19) 512) 0 513 ∷ add_refusal (empty_table 0 513) (wanted 1 (short 0x2A19) 513) 0 513 ∷ [])
    (Ok tt ∷ Err BadValue ∷ [])
unfolding add_refusal sound_table
most_is_512 = refl

-- AN EMPTY TABLE is sound, for areas of any length up to the limit, and so is one of 64 records
pub empty_sound : (sound_table (empty_table 0 0) 0 0 ≡ true) × (sound_table (empty_table 7 32768) 7 32768 ≡ true) × (sound_table full_table 0 0 ≡ true)
unfolding sound_table
empty_sound = (refl, refl, refl)

-- THE OWN STORE, 11, 8, 9, 10: another area and an unknown handle; an unknown handle; two bytes at a fixed attribute; two bytes in a slot of
-- one; one byte
pub store_in_order : ◌≡◌ {A = List (Result Unit Refusal)}
    (store_told [] 3 2 ∷ store_told (0x00 ∷ []) 3 2 ∷ store_told (0x00 ∷ []) 1 2 ∷ store_told (0x00 ∷ []) 2 2 ∷ store_told (0x00 ∷ []) 2 1 ∷ [])
    (Err BadTable ∷ Err UnknownHandle ∷ Err NotStorable ∷ Err TooLong ∷ Ok tt ∷ [])
unfolding own_refusal sound_table
store_in_order = refl
