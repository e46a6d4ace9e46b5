-- Laws of digits, HEX, numbers and types that the code's proofs do not cite: what each character and each answer makes of the rest.
use Rattle.std.specs.Prelude.{ℕ, suc, ◌+◌, ◌-◌, ◌*◌, ◌/◌, ◌≤◌, ◌<◌, ◌≡◌, refl, Bool, true, false, List, [], ◌∷◌, ◌++◌, Option, Some, None, Result, Ok, Err, reverse, length, take, drop, get_or, replicate, set, leb}
use Rattle.std.proofs.Common.{sym, ap, ◌∙◌, arith, add-one, add-zero, le-div_iff_mul-le, div-lt_iff_lt-mul, append_assoc, length-append, length-drop, drop_of_length-le, drop-cons, take-suc, take_at, drop_at, length-take-le}
use Rattle.std.proofs.Math.ListN.{length-reverse}
use Rattle.std.proofs.lemmas.List.{set_at}
use Rattle.std.proofs.Math.Seq.{take-length, take-append_seam}
use Rattle.std.proofs.Math.Dec.{leb-zero}
use denote.Ref.{Bor}
use borrow.Author.Tests.{lt-ltb, le-ltb, le-leb, lt-leb, eq-eqb, ne_eqb, leb-true, leb-false}
use Rattle.codec.specs.CasesLaws.{impossible}
use Rattle.codec.specs.Cases.{pick}
use Rattle.codec.specs.Buffer.{over}
use Rattle.ble_uuid.specs.Uuids.{raw_of}
use Rattle.ble_uuid.specs.declared.Raw.{Raw}
use Rattle.text_hex.specs.Hex.{digit, values, below, without, unblanked, is_dash, hex_means, digits_mean, answered, filled, numeral, number_in, handle_of, type_from}
use Rattle.text_hex.specs.HexLaws.{next_character, numbered}
use Rattle.text_hex.specs.Scanning.{Next, scanned}
use Rattle.text_hex.specs.declared.HexError.{HexError}
use Rattle.text_hex.specs.declared.HexError.TheVariants.{NotHex, TooLong}

-- the value of a character, by the range that it stands in
module _ (c : ℕ) where
  pub digit_lower : 97 ≤ c → c < 103 → digit c ≡ c - 87
  unfolding digit
  digit_lower h k =
      rw (le-leb 48 c (omega arith), le-ltb c 58 (omega arith), le-leb 65 c (omega arith), le-ltb c 71 (omega arith), le-leb 97 c h, lt-ltb c 103 k)

  pub digit_first : c < 48 → digit c ≡ 16
  unfolding digit
  digit_first h = rw (lt-leb 48 c h, lt-leb 65 c (omega arith), lt-leb 97 c (omega arith))

  pub digit_second : 58 ≤ c → c < 65 → digit c ≡ 16
  unfolding digit
  digit_second h k = rw (le-leb 48 c (omega arith), le-ltb c 58 h, lt-leb 65 c k, lt-leb 97 c (omega arith))

  pub digit_third : 71 ≤ c → c < 97 → digit c ≡ 16
  unfolding digit
  digit_third h k =
      rw (le-leb 48 c (omega arith), le-ltb c 58 (omega arith), le-leb 65 c (omega arith), le-ltb c 71 h, lt-leb 97 c k)

  pub digit_last : 103 ≤ c → digit c ≡ 16
  unfolding digit
  digit_last h =
      rw (le-leb 48 c (omega arith), le-ltb c 58 (omega arith), le-leb 65 c (omega arith), le-ltb c 71 (omega arith), le-leb 97 c (omega arith), le-ltb c 103 h)

-- a text behind one character more: that character is passed over, or it is kept
module _ (a b i : ℕ) (text : List ℕ) (h : i < length text) where
  pub over_a : get_or text i 0 ≡ a → without (a ∷ b ∷ []) (drop (i + 1) text) ≡ without (a ∷ b ∷ []) (drop i text)
  unfolding without
  over_a e = rw (next_character text i h, eq-eqb a (get_or text i 0) (sym e))

  pub over_b : (get_or text i 0 ≡ a → ⊥) → get_or text i 0 ≡ b → without (a ∷ b ∷ []) (drop (i + 1) text) ≡ without (a ∷ b ∷ []) (drop i text)
  unfolding without
  over_b n e = rw (next_character text i h, ne_eqb a (get_or text i 0) (λ s. n (sym s)), eq-eqb b (get_or text i 0) (sym e))

  pub keeps : (get_or text i 0 ≡ a → ⊥) → (get_or text i 0 ≡ b → ⊥)
      → without (a ∷ b ∷ []) (drop i text) ≡ get_or text i 0 ∷ without (a ∷ b ∷ []) (drop (i + 1) text)
  unfolding without
  keeps n m = rw (next_character text i h, ne_eqb a (get_or text i 0) (λ s. n (sym s)), ne_eqb b (get_or text i 0) (λ s. m (sym s)))

-- nothing is kept from a place on, where as much is kept as from the text's end on
pub nothing_kept : (passed text : List ℕ) (from to : ℕ) → without passed (drop to text) ≡ without passed (drop from text) → length text ≤ to
    → without passed (drop from text) ≡ []
unfolding without
nothing_kept passed text from to s h = sym s ∙ rw (drop_of_length-le text h)

pub scanned_digit : (n c : ℕ) (cs ds : List ℕ) → cs ≡ c ∷ ds → digit c < 16 → scanned n cs ≡ scanned (n + 1) ds
unfolding below
scanned_digit n c cs ds e h =
    let k : n + suc (length ds) ≡ n + 1 + length ds = omega arith in
    rw (e, lt-ltb (digit c) 16 h, k)

pub scanned_other : (n c : ℕ) (cs ds : List ℕ) → cs ≡ c ∷ ds → 16 ≤ digit c → scanned n cs ≡ None
unfolding below
scanned_other n c cs ds e h = rw (e, le-ltb (digit c) 16 h)

pub scanned_none : (n i : ℕ) (passed text : List ℕ) → length text ≤ i → scanned n (without passed (drop i text)) ≡ Some n
unfolding without below
scanned_none n i passed text h = rw (drop_of_length-le text h, add-zero n)

-- one character, and then nothing or something
pub dash_alone : (c : ℕ) → c ≡ 45 → is_dash (c ∷ []) ≡ true
dash_alone c h = eq-eqb c 45 h

pub dash_not : (c : ℕ) (cs : List ℕ) → (c ≡ 45 → ⊥) → is_dash (c ∷ cs) ≡ false
dash_not c [] h = ne_eqb c 45 h
dash_not c (d ∷ cs) h = refl

-- `-` alone is one kept character, `-`, with nothing kept behind it
module _ (text : List ℕ) where
  pub dash_none : Next (32 ∷ 9 ∷ []) text None → is_dash (unblanked text) ≡ false
  dash_none s = rw s

  pub dash_other : (p : ℕ × Bor (List ℕ)) → Next (32 ∷ 9 ∷ []) text (Some p) → (p.0 ≡ 45 → ⊥) → is_dash (unblanked text) ≡ false
  dash_other p s n = rw (s.0) (dash_not p.0 (without (32 ∷ 9 ∷ []) p.1.now) n)

  pub dash_more : (p q : ℕ × Bor (List ℕ)) → Next (32 ∷ 9 ∷ []) text (Some p) → Next (32 ∷ 9 ∷ []) p.1.now (Some q)
      → is_dash (unblanked text) ≡ false
  dash_more p q s t = rw (s.0, t.0)

  pub dash_only : (p : ℕ × Bor (List ℕ)) → Next (32 ∷ 9 ∷ []) text (Some p) → Next (32 ∷ 9 ∷ []) p.1.now None → p.0 ≡ 45
      → is_dash (unblanked text) ≡ true
  dash_only p s t e = rw (s.0, t) (dash_alone p.0 e)

-- how many digits were counted, and that something else stood among them
pub scan_digits : (ds : List ℕ) (n : ℕ) → scanned 0 ds ≡ Some n → (below 16 (values ds) ≡ true) × (0 + length ds ≡ n)
scan_digits ds n e = said (below 16 (values ds)) (0 + length ds) n e
  where
    said : (t : Bool) (k m : ℕ) → pick t (Some k) None ≡ Some m → (t ≡ true) × (k ≡ m)
    said true k m h = (refl, cc)
    said false k m h = impossible (cc)

pub scan_other : (ds : List ℕ) → scanned 0 ds ≡ None → below 16 (values ds) ≡ false
scan_other ds e = said (below 16 (values ds)) (0 + length ds) e
  where
    said : (t : Bool) (k : ℕ) → ◌≡◌ {A = Option ℕ} (pick t (Some k) None) None → t ≡ false
    said true k h = impossible (cc)
    said false k h = refl

pub all_put : (all before out : List ℕ) (at : ℕ) → at ≤ length all → drop at all ≡ [] → out ≡ take at all ++ drop at before → out ≡ over all before
all_put all before out at h e o =
    let n : at ≡ length all = omega (arith, length-drop at all, ap length e) in
    o ∙ rw (n, take-length)

-- a turn's store takes the first bytes of `all` to one more
pub one_more : (all before out : List ℕ) (at x : ℕ) → out ≡ take at all ++ drop at before → at < length all → at < length before → get_or all at 0 ≡ x
    → set out at x ≡ take (at + 1) all ++ drop (at + 1) before
one_more all before out at x o h k e =
    rw (o, sym e, add-one at, drop-cons before at 0, take-suc all at 0, append_assoc) (set_at (take at all) _ _ _ at (length-take-le at all (omega arith)))

-- a character that is no digit: nothing is read, and the buffer stays
pub digits_other : (ds out : List ℕ) → scanned 0 ds ≡ None
    → (Err NotHex ≡ answered (digits_mean (values ds)) (length out)) × (out ≡ filled (digits_mean (values ds)) out)
digits_other ds out e = rw (scan_other ds e) (refl, refl)

-- the two ways to read a HEX
module _ (text out : List ℕ) where
  pub hex_dash : is_dash (unblanked text) ≡ true → (Ok 0 ≡ answered (hex_means text) (length out)) × (out ≡ filled (hex_means text) out)
  unfolding hex_means
  hex_dash e = rw (e, leb-zero (length out)) (refl, refl)

  pub hex_digits : is_dash (unblanked text) ≡ false → hex_means text ≡ digits_mean (values (unblanked text))
  unfolding hex_means
  hex_digits e = rw e

-- a digit more of a number, a character that is none, and the word's end
module _ (base most sofar i : ℕ) (word : List ℕ) (h : i < length word) where
  next_value : values (drop i word) ≡ digit (get_or word i 0) ∷ values (drop (i + 1) word)
  next_value = ap values (next_character word i h)

  pub number_digit : digit (get_or word i 0) < base
      → numbered base most sofar (values (drop i word)) ≡ numbered base most (sofar * base + digit (get_or word i 0)) (values (drop (i + 1) word))
  unfolding below numeral
  number_digit k = rw (next_value, lt-ltb (digit (get_or word i 0)) base k)

  pub number_other : base ≤ digit (get_or word i 0) → numbered base most sofar (values (drop i word)) ≡ None
  unfolding below
  number_other k = rw (next_value, le-ltb (digit (get_or word i 0)) base k)

pub number_ends : (base most sofar i : ℕ) (word : List ℕ) → length word ≤ i → sofar ≤ most → numbered base most sofar (values (drop i word)) ≡ Some sofar
unfolding below numeral
number_ends base most sofar i word h k = rw (drop_of_length-le word h, le-leb sofar most k)

-- the test before a digit more, by a division that cannot pass the limit
pub fits_div : (base most sofar d : ℕ) → 1 ≤ base → sofar ≤ (most - d) / base → d ≤ most → sofar * base + d ≤ most
fits_div base most sofar d b h k = omega (arith, (le-div_iff_mul-le {k = base} {x = sofar} {y = most - d} b).0 h)

pub over_div : (base most sofar d : ℕ) → 1 ≤ base → (most - d) / base < sofar → most < sofar * base + d
over_div base most sofar d b h = omega (arith, (div-lt_iff_lt-mul {k = base} {x = most - d} {y = sofar} b).0 h)

-- a handle is the number of four digits
module _ (word : List ℕ) where
  pub handle_length : (length word ≡ 4 → ⊥) → None ≡ handle_of word
  unfolding handle_of
  handle_length h = rw (ne_eqb (length word) 4 h)

  pub handle_as : length word ≡ 4 → (r : Option ℕ) → number_in 16 65535 word ≡ r → r ≡ handle_of word
  unfolding handle_of
  handle_as h r e = rw (eq-eqb (length word) 4 h, e)

-- a meaning is bytes, this many and at most sixteen
abbrev Sized : Option (List ℕ) → ℕ → Type 0
Sized None k = ⊥
Sized (Some bytes) k = (length bytes ≡ k) × (length bytes ≤ 16)

-- what decoding into sixteen bytes answered, taken apart
taken_apart : (m : Option (List ℕ)) (k : ℕ) → answered m 16 ≡ Ok k → Sized m k
taken_apart None k e = impossible (cc)
taken_apart (Some bytes) k e = sized (leb (length bytes) 16) refl e
  where
    sized : (t : Bool) → leb (length bytes) 16 ≡ t → ◌≡◌ {A = Result ℕ HexError} (pick t (Ok (length bytes)) (Err TooLong)) (Ok k)
        → (length bytes ≡ k) × (length bytes ≤ 16)
    sized true q r = (cc, leb-true (length bytes) 16 q)
    sized false q r = impossible (cc)

-- the bytes of a type whose outline asks for `n`
module _ (n : ℕ) (m : Option (List ℕ)) where
  pub type_not : Err NotHex ≡ answered m 16 → raw_of [] ≡ raw_of (type_from (Some n) m)
  type_not e = no m e
    where
      no : (w : Option (List ℕ)) → Err NotHex ≡ answered w 16 → raw_of [] ≡ raw_of (type_from (Some n) w)
      no None p = refl
      no (Some bytes) p = absurd (never (leb (length bytes) 16) p)
        where
          never : (t : Bool) → Err NotHex ≡ pick t (Ok (length bytes)) (Err TooLong) → ⊥
          never true q = impossible (cc)
          never false q = impossible (cc)

  pub type_long : n ≤ 16 → Err TooLong ≡ answered m 16 → raw_of [] ≡ raw_of (type_from (Some n) m)
  type_long h e = no m e
    where
      no : (w : Option (List ℕ)) → Err TooLong ≡ answered w 16 → raw_of [] ≡ raw_of (type_from (Some n) w)
      no None p = refl
      no (Some bytes) p = by (leb (length bytes) 16) refl p
        where
          by : (t : Bool) → leb (length bytes) 16 ≡ t → Err TooLong ≡ pick t (Ok (length bytes)) (Err TooLong)
              → raw_of [] ≡ raw_of (type_from (Some n) (Some bytes))
          by true q r = impossible (cc)
          by false q r = rw (ne_eqb (length bytes) n (λ s. omega (arith, leb-false (length bytes) 16 q)))

  pub type_other : (k : ℕ) → Ok k ≡ answered m 16 → (k ≡ n → ⊥) → raw_of [] ≡ raw_of (type_from (Some n) m)
  type_other k e h = no m (taken_apart m k (sym e))
    where
      no : (w : Option (List ℕ)) → Sized w k → raw_of [] ≡ raw_of (type_from (Some n) w)
      no None p = refl
      no (Some bytes) p = rw (ne_eqb (length bytes) n (λ s. h (sym p.0 ∙ s)))

  pub type_is : (k : ℕ) → Ok k ≡ answered m 16 → k ≡ n → (big little : List ℕ) → big ≡ filled m (replicate 16 0)
      → little ≡ take 0 big ++ (reverse (take n big) ++ drop n big) → record { bytes = little; len = n } ≡ raw_of (type_from (Some n) m)
  type_is k e h big little b l = is m (taken_apart m k (sym e)) b
    where
      is : (w : Option (List ℕ)) → Sized w k → big ≡ filled w (replicate 16 0) → record { bytes = little; len = n } ≡ raw_of (type_from (Some n) w)
      is None p q = absurd p
      is (Some bytes) p q =
          let z : List ℕ = replicate 16 0 in
          let o : big ≡ bytes ++ drop (length bytes) z = q ∙ rw (le-leb (length bytes) 16 p.1) in
          let s : length bytes ≡ n = p.0 ∙ h in
          let t : take n big ≡ bytes = rw o (take_at bytes (drop (length bytes) z) n s) in
          let d : drop n big ≡ drop (length bytes) z = rw o (drop_at bytes (drop (length bytes) z) n s) in
          let y : little ≡ reverse bytes ++ drop (length (reverse bytes)) z = l ∙ rw (t, d, length-reverse bytes) in
          rw (eq-eqb (length bytes) n s, y, length-reverse bytes, ← s)

-- the bytes that count are those that were padded
pub raw_own : (raw : Raw) (l : List ℕ) → raw ≡ raw_of l → take (raw.len - 0) (drop 0 raw.bytes) ≡ l
raw_own raw l e = rw e (let z : length l - 0 ≡ length l = omega arith in rw z (take-append_seam l (drop (length l) (replicate 16 0))))

pub raw_room : (raw : Raw) (l : List ℕ) → raw ≡ raw_of l → raw.len ≤ length raw.bytes
raw_room raw l e = rw (e, length-append l (drop (length l) (replicate 16 0))) (omega arith)
