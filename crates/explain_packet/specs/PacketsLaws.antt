-- The texts of a packet, in the shapes that the proofs of the code ask for.
use Rattle.std.specs.Prelude.{ℕ, ◌≡◌, refl, Bool, true, false, List, [], ◌∷◌, ◌++◌, Ok, Err, length, leb}
use Rattle.std.proofs.Common.{sym}
use Rattle.codec.specs.CasesLaws.{impossible}
use Rattle.codec.specs.Ascii.{ascii}
use Rattle.codec.specs.Refusals.{refusal_of}
use Rattle.codec.specs.declared.Error.{Error}
use Rattle.codec.specs.declared.Error.TheVariants.{InsufficientSpace, InvalidValue}
use Rattle.att.specs.Wire.{Coded, Sent, NotSent, strict}
use Rattle.att.specs.Typed.{length_of, written_of, laid_of}
use Rattle.att.specs.declared.Att.{Att}
use Rattle.text_put.specs.Put.{first_of, counting, hexed, refusal}
use Rattle.text_print.specs.declared.Line.{Line}
use Rattle.text_print.specs.Lines.{Puts}
use Rattle.text_put.specs.PutLaws.{stands}
use Rattle.explain_packet.specs.Packets.{field_texts, encodes_texts, sized_texts}

-- what encoding into 2,048 bytes answered says what is shown of it
module _ (room : List ℕ) (e : length room ≡ 2048) where
  pub encodes_done : (c : Coded) (n : ℕ) (m : List ℕ) → written_of c room ≡ Ok n → m ≡ laid_of c room
      → encodes_texts c ≡ hexed (ascii " tolerant encodes=") (first_of n m)
  encodes_done (Sent b) n m w h = by (leb (length b) (length room)) refl where
    by : (t : Bool) → leb (length b) (length room) ≡ t → encodes_texts (Sent b) ≡ hexed (ascii " tolerant encodes=") (first_of n m)
    by true q = let k : leb (length b) 2048 ≡ true = rw e at q in rw (k, stands b room n m w h)
    by false q =
        let k : Err InsufficientSpace ≡ Ok n = rw q at w in
        impossible (cc)
  encodes_done NotSent n m w h = impossible (cc)

  pub encodes_refused : (c : Coded) (x : Error) → written_of c room ≡ Err x → encodes_texts c ≡ ascii " tolerant " ∷ refusal (refusal_of x)
  encodes_refused (Sent b) x w = by (leb (length b) (length room)) refl where
    by : (t : Bool) → leb (length b) (length room) ≡ t → encodes_texts (Sent b) ≡ ascii " tolerant " ∷ refusal (refusal_of x)
    by true q =
        let k : Ok (length b) ≡ Err x = rw q at w in
        impossible (cc)
    by false q =
        let k : leb (length b) 2048 ≡ false = rw e at q in
        let l : Err InsufficientSpace ≡ Err x = rw q at w in
        let s : InsufficientSpace ≡ x = cc in rw (k, sym s)
  encodes_refused NotSent x w = let s : InvalidValue ≡ x = cc in rw (sym s)

-- a packet that can be sent, strict and not, and one that cannot
module _ (att : Att) (src : List ℕ) (c : Coded) (a b : Line) where
  pub strict_line : (n : ℕ) → Ok n ≡ length_of c → strict src ≡ true
      → Puts (field_texts att src ++ (counting (ascii " size=") n ++ (ascii " strict" ∷ []))) a b → Puts (sized_texts att src c) a b
  strict_line n l s h = by c l where
    by : (d : Coded) → Ok n ≡ length_of d → Puts (sized_texts att src d) a b
    by (Sent b) m = let k : length b ≡ n = cc in rw (k, s) h
    by NotSent m = impossible (cc)

  pub tolerant_line : (n : ℕ) → Ok n ≡ length_of c → strict src ≡ false
      → Puts (field_texts att src ++ (counting (ascii " size=") n ++ encodes_texts c)) a b → Puts (sized_texts att src c) a b
  tolerant_line n l s h = by c l h where
    by : (d : Coded) → Ok n ≡ length_of d → Puts (field_texts att src ++ (counting (ascii " size=") n ++ encodes_texts d)) a b
        → Puts (sized_texts att src d) a b
    by (Sent b) m g = let k : n ≡ length b = cc in rw s (rw k at g)
    by NotSent m g = impossible (cc)

  pub unsent_line : (x : Error) → Err x ≡ length_of c → Puts (refusal (refusal_of x)) a b → Puts (sized_texts att src c) a b
  unsent_line x l h = by c l where
    by : (d : Coded) → Err x ≡ length_of d → Puts (sized_texts att src d) a b
    by (Sent b) m = impossible (cc)
    by NotSent m = let k : x ≡ InvalidValue = cc in rw k at h
