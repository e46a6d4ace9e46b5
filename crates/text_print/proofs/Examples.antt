-- The page's own examples, computed from the definitions: what is typed as a type is printed the same.
use Prim.Native.Nat.{ℕ}
use mathlib.Core.Path.{◌≡◌, refl}
use mathlib.Core.List.{List, [], ◌∷◌}
use Rattle.codec.specs.Ascii.{ascii}
use Rattle.text_hex.specs.Hex.{digit, below, pairs, without, outline, type_bytes}
use Rattle.ble_uuid.specs.Uuids.{uuid_of, sliced}
use Rattle.text_print.specs.Print.{capitals, usual_text, type_text, hex_text}
use Rattle.text_decimal.specs.Decimal.{width, decimal_text}

abbrev usual : List ℕ
usual = ascii "00002A19-0000-1000-8000-00805F9B34FB"

pub usual_form : type_text (uuid_of (type_bytes usual)) ≡ usual
unfolding type_bytes outline digit below pairs without sliced capitals usual_text
usual_form = refl

pub short_form : type_text (uuid_of (type_bytes (ascii "2a19"))) ≡ ascii "2A19"
unfolding type_bytes outline digit below pairs without sliced capitals usual_text
short_form = refl

pub number_text : decimal_text 18446744073709551615 ≡ ascii "18446744073709551615"
unfolding width decimal_text
number_text = refl

pub packet_text : hex_text (0x0A ∷ 0x34 ∷ 0x12 ∷ []) ≡ ascii "0A3412"
unfolding capitals
packet_text = refl
