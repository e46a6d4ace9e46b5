-- The text of the place of a data field.
use Rattle.std.specs.Prelude.{ℕ, List, ◌++◌, length}
use Rattle.codec.specs.Ascii.{ascii}
use Rattle.att.specs.declared.Span.{Span}
use Rattle.att_decode.specs.Tests.{field}
use Rattle.text_put.specs.Put.{counting}

-- ` at=START+LENGTH`: so many bytes from there on
abbrev pub place_texts : Span → List ℕ → List (List ℕ)
place_texts d src = counting (ascii " at=") d.at ++ counting (ascii "+") (length (field d src))
