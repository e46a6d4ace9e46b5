-- What is printed as HEX is read back as the same bytes.
use Rattle.std.specs.Prelude.{ℕ, ◌+◌, ◌/◌, ◌%◌, ◌≤◌, ◌<◌, ◌≡◌, refl, Bool, true, false, List, [], ◌∷◌, Some, length, ltb}
use Rattle.std.proofs.Common.{sym, ap, ◌∙◌, arith, div-add-mod', ltb-true, ltb-false, lt-ltb, eq-eqb, ne_eqb}
use Rattle.std.proofs.lemmas.List.{length-map}
use Rattle.text_hex.specs.Hex.{digit, values, below, pairs, without, unblanked, is_dash, hex_means}
use Rattle.text_hex.specs.HexLaws.{digit_low, digit_upper, below_cons}
use Rattle.text_print.specs.Print.{glyph, capitals, hex_text}
use Rattle.text_print.specs.PrintLaws.{glyph_low, glyph_high, capitals_length}

digit_glyph : (d : ℕ) → d < 16 → digit (glyph d) ≡ d
digit_glyph d h = by (ltb d 10) refl
  where
    by : (t : Bool) → ltb d 10 ≡ t → digit (glyph d) ≡ d
    by true e =
        let p : d < 10 = ltb-true d 10 e in
        rw (sym (glyph_low d p), digit_low (48 + d) (omega arith) (omega arith)) (omega arith)
    by false e =
        let p : 10 ≤ d = ltb-false d 10 e in
        rw (sym (glyph_high d p), digit_upper (55 + d) (omega arith) (omega arith)) (omega arith)

above : (d : ℕ) → 48 ≤ glyph d
above d = by (ltb d 10) refl
  where
    by : (t : Bool) → ltb d 10 ≡ t → 48 ≤ glyph d
    by true e = rw (sym (glyph_low d (ltb-true d 10 e))) (omega arith)
    by false e = rw (sym (glyph_high d (ltb-false d 10 e))) (omega (arith, ltb-false d 10 e))

solid : (d : ℕ) (cs : List ℕ) → unblanked (glyph d ∷ cs) ≡ glyph d ∷ unblanked cs
unfolding without
solid d cs =
    rw (ne_eqb 32 (glyph d) (λ e. omega (arith, above d)), ne_eqb 9 (glyph d) (λ e. omega (arith, above d)))

no_blanks : (bs : List ℕ) → unblanked (capitals bs) ≡ capitals bs
unfolding capitals without
no_blanks [] = refl
no_blanks (b ∷ bs) =
    solid (b / 16) (glyph (b % 16) ∷ capitals bs)
    ∙ ap (λ (l : List ℕ). glyph (b / 16) ∷ l) (solid (b % 16) (capitals bs) ∙ ap (λ (l : List ℕ). glyph (b % 16) ∷ l) (no_blanks bs))

-- the values of a byte's two digits
values_two : (b : ℕ) (bs : List ℕ) → b < 256 → values (capitals (b ∷ bs)) ≡ b / 16 ∷ b % 16 ∷ values (capitals bs)
unfolding capitals
values_two b bs h = rw (digit_glyph (b / 16) (omega arith), digit_glyph (b % 16) (omega arith))

read_values : (bs : List ℕ) → below 256 bs ≡ true → (below 16 (values (capitals bs)) ≡ true) × (pairs (values (capitals bs)) ≡ bs)
unfolding below pairs capitals
read_values [] h = (refl, refl)
read_values (b ∷ bs) h =
    let p = below_cons 256 b bs h in
    let q = read_values bs p.1 in
    let v : List ℕ = values (capitals bs) in
    let e = values_two b bs p.0 in
    let g : below 16 (b / 16 ∷ b % 16 ∷ v) ≡ true =
    rw (lt-ltb (b / 16) 16 (omega (arith, p.0)), lt-ltb (b % 16) 16 (omega arith)) q.0 in
    let k : pairs (b / 16 ∷ b % 16 ∷ v) ≡ b ∷ bs = rw (q.1, div-add-mod' b 16) in
    (ap (below 16) e ∙ g, ap pairs e ∙ k)

two_first : (c : ℕ) (cs : List ℕ) → is_dash (capitals (c ∷ cs)) ≡ false
unfolding capitals
two_first c cs = refl

pub read_printed : (bs : List ℕ) → below 256 bs ≡ true → hex_means (hex_text bs) ≡ Some bs
unfolding hex_means without
read_printed [] h = refl
read_printed (b ∷ bs) h =
    let q = read_values (b ∷ bs) h in
    let n : length (values (capitals (b ∷ bs))) % 2 ≡ 0 = omega (arith, length-map (capitals (b ∷ bs)) digit, capitals_length (b ∷ bs)) in
    rw (no_blanks (b ∷ bs), two_first b bs, q.0, eq-eqb (length (values (capitals (b ∷ bs))) % 2) 0 n, q.1)
