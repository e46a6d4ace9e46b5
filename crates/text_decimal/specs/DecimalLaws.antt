-- The fewest digits that hold a number are those of its text.
use Rattle.std.specs.Prelude.{ℕ, zero, suc, ◌-◌, ◌*◌, ◌/◌, ◌^◌, ◌≤◌, ◌<◌, ◌≡◌, refl, Bool, true, false, length, leb, ltb}
use Rattle.std.proofs.Common.{sym, ap, subst, ◌∙◌, arith, pow-suc, le-div_iff_mul-le, div-lt_iff_lt-mul, length-append, lt-ltb, le-ltb, leb-true, leb-false}
use Rattle.std.proofs.Math.Nat.{pow-zero, one-le-pow, pow-le-pow_right}
use Rattle.io.specs.Digits.{IsDigitCount, last_digits}
use Rattle.codec.specs.Cases.{pick}
use Rattle.text_decimal.specs.Decimal.{width, decimal_text}

-- the fewest digits are as many as the number is wide
pub width_is : (f k n : ℕ) → k ≤ f → IsDigitCount 10 1 n (suc k) → suc k ≡ width f n
unfolding width
width_is zero zero n h w = refl
width_is (suc f) zero n h w = let p : n < 10 = omega (arith, w.1, pow-suc 10 0, pow-zero 10) in rw (lt-ltb n 10 p)
width_is zero (suc k) n h w = absurd (omega arith)
width_is (suc f) (suc k) n h w =
    let s : suc (suc k) - 1 ≡ suc k = omega arith in
    let t : suc k - 1 ≡ k = omega arith in
    let p : 10 ^ suc k ≤ n = subst (λ (x : ℕ). 10 ^ x ≤ n) s (w.2 (omega arith)) in
    let r : 10 ^ k * 10 ≤ n = subst (λ (x : ℕ). x ≤ n) (pow-suc 10 k) p in
    let u : n < 10 ^ suc k * 10 = subst (λ (x : ℕ). n < x) (pow-suc 10 (suc k)) w.1 in
    let a : n / 10 < 10 ^ suc k = (div-lt_iff_lt-mul {k = 10} {x = n} {y = 10 ^ suc k} (omega arith)).1 u in
    let b : 10 ^ k ≤ n / 10 = (le-div_iff_mul-le {k = 10} {x = 10 ^ k} {y = n} (omega arith)).1 r in
    let v : IsDigitCount 10 1 (n / 10) (suc k) = (omega arith, a, λ g. subst (λ (x : ℕ). 10 ^ x ≤ n / 10) (sym t) b) in
    rw (le-ltb n 10 (omega (arith, one-le-pow k 10 (omega arith)))) (ap suc (width_is f k (n / 10) (omega arith) v))

-- a number of 64 bits has at most twenty digits
few : (k n : ℕ) → n < 18446744073709551616 → 10 ^ k ≤ n → k ≤ 20
few k n h p = by (leb k 20) refl
  where
    by : (t : Bool) → leb k 20 ≡ t → k ≤ 20
    by true e = leb-true k 20 e
    by false e =
        let q : 10 ^ 20 ≤ 10 ^ k = pow-le-pow_right {n = 10} (omega arith) {i = 20} {j = k} (omega (arith, leb-false k 20 e)) in
        omega (arith, q)

pub decimal_is : (n k : ℕ) → n < 18446744073709551616 → IsDigitCount 10 1 n k → last_digits 10 k n ≡ decimal_text n
unfolding decimal_text
decimal_is n zero h w = absurd (omega (arith, w.0))
decimal_is n (suc zero) h w = ap (λ (j : ℕ). last_digits 10 j n) (width_is 20 0 n (omega arith) w)
decimal_is n (suc (suc k)) h w =
    let s : suc (suc k) - 1 ≡ suc k = omega arith in
    let p : 10 ^ suc k ≤ n = subst (λ (x : ℕ). 10 ^ x ≤ n) s (w.2 (omega arith)) in
    ap (λ (j : ℕ). last_digits 10 j n) (width_is 20 (suc k) n (few (suc k) n h p) w)

-- how long the text is
pub digits_length : (b k n : ℕ) → length (last_digits b k n) ≡ k
digits_length b zero n = refl
digits_length b (suc k) n = simp length-append (omega (arith, digits_length b k (n / b)))

width_most : (f n : ℕ) → width f n ≤ suc f
unfolding width
width_most zero n = omega arith
width_most (suc f) n = by (ltb n 10) (width_most f (n / 10)) where
  by : (t : Bool) → width f (n / 10) ≤ suc f → pick t 1 (suc (width f (n / 10))) ≤ suc (suc f)
  by true h = omega arith
  by false h = omega arith

pub decimal_most : (n : ℕ) → length (decimal_text n) ≤ 21
unfolding decimal_text
decimal_most n = omega (arith, digits_length 10 (width 20 n) n, width_most 20 n)
