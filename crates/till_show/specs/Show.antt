-- The texts of the lines of `show`, one behind the other.
use Rattle.std.specs.Prelude.{ℕ, ◌/◌, ◌%◌, Bool, true, false, List, [], ◌∷◌, ◌++◌}
use Rattle.answers.specs.declared.Link.{Link}
use Rattle.attributes.specs.declared.Place.{Place}
use Rattle.attributes.specs.declared.Place.TheVariants.{Fixed, Live}
use Rattle.attributes.specs.declared.Record.{Record}
use Rattle.codec.specs.Ascii.{ascii}
use Rattle.codec.specs.Cases.{pick}
use Rattle.text_print.specs.Print.{capitals, hex_text, type_text}
use Rattle.text_decimal.specs.Decimal.{decimal_text}

-- MARKS: the letters of the marks that are set, or `-` where none is
abbrev pub letters : List (Bool × List ℕ) → List (List ℕ)
letters [] = []
letters (m ∷ ms) = pick m.0 m.1 [] ∷ letters ms

abbrev pub none : List (Bool × List ℕ) → Bool
none [] = true
none (m ∷ ms) = pick m.0 false (none ms)

abbrev pub marks_texts : List (Bool × List ℕ) → List (List ℕ)
marks_texts ms = letters ms ++ (pick (none ms) (ascii "-") [] ∷ [])

-- `link mtu=N marks=MARKS`
abbrev pub link_texts : Link → List (List ℕ)
link_texts l =
    ascii "link mtu=" ∷ decimal_text l.mtu ∷ ascii " marks=" ∷ marks_texts ((l.encrypted, ascii "e") ∷ (l.exchanged, ascii "x") ∷ [])

-- `record HANDLE TYPE`
abbrev pub head_texts : Record → List (List ℕ)
head_texts r = ascii "record " ∷ capitals (r.handle / 256 ∷ r.handle % 256 ∷ []) ∷ ascii " " ∷ type_text r.kind ∷ []

-- ` MARKS`
abbrev pub record_marks : Record → List (List ℕ)
record_marks r =
    ascii " "
    ∷ marks_texts ((r.readable, ascii "r") ∷ (r.writable, ascii "w") ∷ (r.read_encrypted, ascii "R") ∷ (r.write_encrypted, ascii "W") ∷ [])

-- ` fixed at=AT` or ` live at=AT capacity=N`
abbrev pub place_texts : Place → List (List ℕ)
place_texts (Fixed at len) = ascii " fixed at=" ∷ decimal_text at ∷ []
place_texts (Live at capacity len) = ascii " live at=" ∷ decimal_text at ∷ ascii " capacity=" ∷ decimal_text capacity ∷ []

-- a record's line, with a value
abbrev pub record_texts : Record → List ℕ → List (List ℕ)
record_texts r value = head_texts r ++ (record_marks r ++ (place_texts r.place ++ (ascii " value=" ∷ hex_text value ∷ [])))
