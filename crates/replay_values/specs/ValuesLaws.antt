-- Laws of the replies on integers and UUIDs, in the shapes that the proofs of the code ask for.
use Rattle.std.specs.Prelude.{ℕ, ◌≡◌, refl, Bool, true, false, List, [], ◌∷◌, Option, Some, None, Result, length, leb}
use Rattle.std.specs.Result.{result_unwrap_or}
use Rattle.std.proofs.Common.{sym, ◌∙◌, arith, ne_eqb, le-leb}
use Rattle.codec.specs.Ascii.{ascii}
use Rattle.codec.specs.declared.Error.{Error}
use Rattle.text_hex.specs.Hex.{hex_means, answered, filled}
use Rattle.text_print.specs.Lines.{Puts}
use Rattle.text_print.specs.declared.Line.{Line}
use Rattle.text_put.specs.Put.{first_of}
use Rattle.text_put.specs.PutLaws.{first_laid}
use Rattle.text_decimal.specs.Decimal.{decimal_text}
use Rattle.ble_uuid.specs.Uuids.{raw_of, sliced, uuid_of, equal}
use Rattle.ble_uuid.specs.declared.Raw.{Raw}
use Rattle.ble_uuid.specs.declared.Uuid.{Uuid}
use Rattle.replay_base.specs.Base.{said_by, said}
use Rattle.replay_values.specs.Values.{byte_texts, word_texts, double_texts, decoded_texts, raw_said, raw_texts, short_said, uuid_said, same_text}

module _ (a b : Line) where
  -- numbers, and bytes, that others are
  pub number_as : (n k : ℕ) → n ≡ k → Puts (decimal_text n ∷ []) a b → Puts (decimal_text k ∷ []) a b
  number_as n k e p = rw e at p

  pub count_as : (n k : ℕ) → n ≡ k → Puts (ascii " " ∷ decimal_text n ∷ []) a b → Puts (ascii " " ∷ decimal_text k ∷ []) a b
  count_as n k e p = rw e at p

  pub raw_as : (r : Raw) (l : List ℕ) → r ≡ raw_of l → Puts (raw_said r) a b → Puts (raw_texts l) a b
  raw_as r l e p = rw e at p

-- what stands at the start of a buffer of `k` bytes after a HEX was read into it
first_none : (l : List ℕ) → first_of 0 l ≡ []
first_none l = rw (le-leb 0 (length l) (omega arith))

held_some : (k : ℕ) (bytes z : List ℕ) (t : Bool) → length z ≡ k → leb (length bytes) k ≡ t
    → first_of (result_unwrap_or (answered (Some bytes) k) 0) (filled (Some bytes) z) ≡ said_by k (Some bytes)
held_some k bytes z true e h = rw (e, h) (first_laid bytes z)
held_some k bytes z false e h = rw (e, h) (first_none z)

held : (k : ℕ) (m : Option (List ℕ)) (z : List ℕ) → length z ≡ k → first_of (result_unwrap_or (answered m k) 0) (filled m z) ≡ said_by k m
held k None z e = first_none z
held k (Some bytes) z e = held_some k bytes z (leb (length bytes) k) e refl

pub said_first : (k n : ℕ) (word v z b f : List ℕ) → word ≡ v → length z ≡ k → n ≡ result_unwrap_or (answered (hex_means word) (length z)) 0
    → b ≡ filled (hex_means word) z → f ≡ first_of n b → f ≡ said k v
said_first k n word v z b f p e g h i = i ∙ rw (g, h, e, p) (held k (hex_means v) z e)

-- the integer of each letter
module _ (x l : ℕ) (f src : List ℕ) (a b : Line) (e : x ≡ l) (g : f ≡ src) where
  pub a_byte : x ≡ 98 → Puts (byte_texts f) a b → Puts (decoded_texts l src) a b
  a_byte h p = rw (sym e, sym g, h) p

  pub a_word : x ≡ 119 → Puts (word_texts f) a b → Puts (decoded_texts l src) a b
  a_word h p = rw (sym e, sym g, h) p

  pub a_double : (x ≡ 98 → ⊥) → (x ≡ 119 → ⊥) → Puts (double_texts f) a b → Puts (decoded_texts l src) a b
  a_double h k p = rw (sym e, sym g, ne_eqb x 98 h, ne_eqb x 119 k) p

-- an answer that is known
module _ (a b : Line) where
  pub short_as : (p q r : Result ℕ Error) → p ≡ r → p ≡ q → Puts (short_said q) a b → Puts (short_said r) a b
  short_as p q r e h w = rw (sym e, h) w

  pub uuid_as : (s r : Result Uuid Error) (f src : List ℕ) → s ≡ sliced f → f ≡ src → s ≡ r → Puts (uuid_said r) a b → Puts (uuid_said (sliced src)) a b
  uuid_as s r f src e g h p = rw (sym g, sym e, h) p

-- two UUIDs, equal or not
module _ (t : Bool) (u v : Uuid) (x y : List ℕ) (e : u ≡ uuid_of x) (h : v ≡ uuid_of y) (k : t ≡ equal u v) (a b : Line) where
  pub are_same : t ≡ true → Puts (ascii "equal" ∷ []) a b → Puts (same_text (uuid_of x) (uuid_of y) ∷ []) a b
  are_same i p = rw (sym e, sym h, sym k, i) p

  pub differ : t ≡ false → Puts (ascii "different" ∷ []) a b → Puts (same_text (uuid_of x) (uuid_of y) ∷ []) a b
  differ i p = rw (sym e, sym h, sym k, i) p
