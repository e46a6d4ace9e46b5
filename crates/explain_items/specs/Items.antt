-- The texts of the items of a response, one behind the other: item=HANDLE:TYPE, item=HANDLE:END or item=HANDLE:HEX for each item, as
-- the programs' page has them.
use Rattle.std.specs.Prelude.{ℕ, Option, Some, None, option_map, length, drop, eqb}
use mathlib.Core.List.{List, [], ◌++◌, flat_map}
use Rattle.codec.specs.Ascii.{ascii}
use Rattle.codec.specs.Cases.{pick}
use Rattle.primitives.specs.Numbers.{number_at}
use Rattle.ble_uuid.specs.Uuids.{uuid_of}
use Rattle.att.specs.Typed.{show_att}
use Rattle.att.specs.declared.Att.{Att}
use Rattle.att_items.specs.Iterators.{Step, found_bytes, item_shown, walk}
use Rattle.text_put.specs.Put.{numbered, hexed, typed}

-- A kind of items: the two opcodes that have them, and the texts of an item `i`.
pub record Kind : Type 0 where
  pub first : ℕ
  pub second : ℕ
  pub texts : List ℕ → List (List ℕ)

abbrev pub handled : List ℕ → List (List ℕ)
handled i = numbered (ascii " item=") (number_at 2 0 i)

abbrev pub informations : Kind
informations = record { first = 0x05; second = 0x05; texts = λ i. handled i ++ typed (ascii ":") (uuid_of (drop 2 i)) }

abbrev pub ranges : Kind
ranges = record { first = 0x07; second = 0x07; texts = λ i. handled i ++ numbered (ascii ":") (number_at 2 2 i) }

abbrev pub values : Kind
values = record { first = 0x09; second = 0x11; texts = λ i. handled i ++ hexed (ascii ":") (drop 2 i) }

abbrev pub kind_of : ℕ → Kind
kind_of op = pick (eqb op 0x05) informations (pick (eqb op 0x07) ranges values)

-- the item at a position
abbrev pub step_in : Kind → Att → List ℕ → ℕ → Step
step_in k att src pos = item_shown k.first k.second (show_att att) src pos

-- its texts, none where there is none, and the position of the next item
abbrev pub step_texts : (List ℕ → List (List ℕ)) → Step → List ℕ → List (List ℕ)
step_texts texts None src = []
step_texts texts (Some f) src = texts (found_bytes f src)

abbrev pub item_texts : Kind → Att → List ℕ → ℕ → List (List ℕ)
item_texts k att src pos = step_texts k.texts (step_in k att src pos) src

abbrev pub next_of : Step → Option ℕ
next_of st = option_map (λ f. f.next) st

abbrev pub next_in : Kind → Att → List ℕ → ℕ → Option ℕ
next_in k att src pos = next_of (step_in k att src pos)

-- the texts of the items from a position on, `n` of them at the most
unfoldable pub texts_from : Kind → Att → List ℕ → ℕ → ℕ → List (List ℕ)
texts_from k att src n pos = flat_map k.texts (walk n (step_in k att src) src pos)

-- all items: a packet has fewer of them than bytes
abbrev pub items_texts : ℕ → Att → List ℕ → List (List ℕ)
items_texts op att src = texts_from (kind_of op) att src (length src) 0
