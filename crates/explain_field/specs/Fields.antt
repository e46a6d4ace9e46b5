-- The texts of fields that several packets have, as the programs' page has them.
use Rattle.std.specs.Prelude.{ℕ, List, ◌++◌}
use Rattle.codec.specs.Ascii.{ascii}
use Rattle.att.specs.declared.Span.{Span}
use Rattle.att_decode.specs.Tests.{field}
use Rattle.text_put.specs.Put.{hexed, numbered}

-- a text and the bytes of a data field
abbrev pub fielded : List ℕ → Span → List ℕ → List (List ℕ)
fielded name d src = hexed name (field d src)

-- two numbers of two bytes, each behind its text
abbrev pub pair_texts : List ℕ → ℕ → List ℕ → ℕ → List (List ℕ)
pair_texts name v second w = numbered name v ++ numbered second w

-- a handle, and the bytes of its value
abbrev pub value_texts : List ℕ → ℕ → Span → List ℕ → List (List ℕ)
value_texts name h d src = numbered name h ++ fielded (ascii " data=") d src
