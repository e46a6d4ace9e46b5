-- Laws of printing that the code's proofs do not cite: of a HEX, of equal texts, of a copy, and of a UUID's bytes turned round.
use Rattle.std.specs.Prelude.{ℕ, ◌-◌, ◌≤◌, ◌≡◌, refl, List, [], ◌∷◌, ◌++◌, reverse, length, take, drop}
use Rattle.std.proofs.Common.{ap, ◌∙◌, arith, length-append, take_at, length-take-le}
use Rattle.std.proofs.lemmas.List.{length-reverse}
use Rattle.std.proofs.Math.Seq.{take-length}
use Rattle.codec.specs.Buffer.{over, laid_at}
use Rattle.ble_uuid.specs.Uuids.{own, width_of}
use Rattle.ble_uuid.specs.UuidsLaws.{Whole, own_length}
use Rattle.ble_uuid.specs.declared.Uuid.{Uuid}
use Rattle.text_print.specs.Print.{placed, capitals, hex_text}

-- a HEX of no bytes, and of some
pub hex_none : (bs : List ℕ) → length bs ≡ 0 → 45 ∷ [] ≡ hex_text bs
hex_none [] h = refl
hex_none (b ∷ bs) h = absurd (omega arith)

pub hex_some : (bs : List ℕ) → (length bs ≡ 0 → ⊥) → capitals bs ≡ hex_text bs
hex_some [] h = absurd (h refl)
hex_some (b ∷ bs) h = refl

-- what prints one text prints any equal one
pub as_text : (pos r : ℕ) (a b out m : List ℕ) → a ≡ b → (r ≡ placed pos a out) × (m ≡ laid_at pos a out) → (r ≡ placed pos b out) × (m ≡ laid_at pos b out)
as_text pos r a b out m e p = rw e at p

-- a copy of a whole text
pub copied_over : (src dst w : List ℕ) → w ≡ take (length src) src ++ drop (length src) dst → w ≡ over src dst
copied_over src dst w e = e ∙ rw (take-length src)

-- a UUID's own bytes, turned round in their array
module _ (u : Uuid) (n : ℕ) (w : n ≡ width_of u) (f : Whole u) where
  pub own_inside : n ≤ length (own u)
  own_inside = omega (arith, own_length u f, w)

  own_whole : take n (own u) ≡ own u
  own_whole = let e : n ≡ length (own u) = omega (arith, own_length u f, w) in rw e (take-length (own u))

  turned : length (reverse (take n (own u))) ≡ n
  turned = length-reverse (take n (own u)) ∙ length-take-le n (own u) own_inside

  module _ (big : List ℕ) (e : big ≡ take 0 (own u) ++ (reverse (take n (own u)) ++ drop n (own u))) where
    pub turned_inside : n ≤ length big
    turned_inside = rw (e, length-append (reverse (take n (own u))) (drop n (own u)), turned) (omega arith)

    pub turned_own : take (n - 0) (drop 0 big) ≡ reverse (own u)
    turned_own =
        let z : n - 0 ≡ n = omega arith in
        rw (z, e) (take_at (reverse (take n (own u))) (drop n (own u)) n turned ∙ ap (λ (l : List ℕ). reverse l) own_whole)

    pub turned_wide : width_of u ≤ length (take (n - 0) (drop 0 big))
    turned_wide = let z : n - 0 ≡ n = omega arith in rw (z, length-take-le n big turned_inside) (omega (arith, w))
