-- Laws of digits and bytes.
use Rattle.std.specs.Prelude.{ℕ, ◌+◌, ◌-◌, ◌*◌, ◌/◌, ◌%◌, ◌≤◌, ◌<◌, ◌≡◌, ◌⊎◌, refl, Bool, true, false, ◌&&◌, List, [], ◌∷◌, ◌++◌, Option, Some, None, Result, Ok, Err, reverse, length, take, drop, get_or, replicate, set, leb, ltb, eqb}
use Rattle.std.proofs.Common.{sym, ap, ◌∙◌, arith, add-one, mul-le-mul_left, append_assoc, length-drop, drop-cons, take-suc, take_at, length-take-le}
use Rattle.std.specs.Char.{digit_value}
use Rattle.std.specs.Option.{SomeIff}
use Rattle.std.proofs.lemmas.Bool.Decides.{nat_tests}
use Rattle.std.proofs.lemmas.List.{set_at, length-set, length-map}
use Rattle.std.proofs.Math.Seq.{take-length}
use borrow.Author.Tests.{lt-ltb, le-ltb, le-leb, lt-leb, eq-eqb, ne_eqb, ltb-true, leb-true, eqb-true}
use Rattle.codec.specs.CasesLaws.{impossible}
use Rattle.codec.specs.Cases.{pick}
use Rattle.codec.specs.Buffer.{over}
use Rattle.text_hex.specs.Hex.{digit, digit_in, values, below, pairs, without, numeral, number_in, digits_mean, answered, filled, type_from, type_bytes, type_of, outline}
use Rattle.ble_uuid.specs.Uuids.{sliced}
use Rattle.codec.specs.declared.Error.TheVariants.{InvalidValue}
use Rattle.text_hex.specs.declared.HexError.{HexError}
use Rattle.text_hex.specs.declared.HexError.TheVariants.{NotHex, TooLong}
use Rattle.text_hex.specs.Scanning.{scanned}

-- the value of a character, by the range that it stands in
module _ (c : ℕ) where
  pub digit_low : 48 ≤ c → c < 58 → digit c ≡ c - 48
  unfolding digit
  digit_low h k = rw (le-leb 48 c h, lt-ltb c 58 k)

  pub digit_upper : 65 ≤ c → c < 71 → digit c ≡ c - 55
  unfolding digit
  digit_upper h k = rw (le-leb 48 c (omega arith), le-ltb c 58 (omega arith), le-leb 65 c h, lt-ltb c 71 k)

  -- it is the value that the library gives, where that is below 16
  digit_library : (digit c ≡ digit_value c) ⊎ ((digit c ≡ 16) × (16 ≤ digit_value c))
  unfolding digit
  digit_library = grind (arith, nat_tests)

  digit_inside : (base : ℕ) → digit c < base → digit_in base c ≡ Some (digit c)
  digit_inside base h = rw (lt-ltb (digit c) base h)

  digit_outside : (base : ℕ) → base ≤ digit c → digit_in base c ≡ None
  digit_outside base h = rw (le-ltb (digit c) base h)

  pub digit_of_base : (base : ℕ) (r : Option ℕ) → base ≤ 16 → SomeIff r (digit_value c < base) (digit_value c) → r ≡ digit_in base c
  digit_of_base base None h s = grind (arith, digit_library, digit_outside)
  digit_of_base base (Some v) h s = grind (arith, digit_library, digit_inside)

-- a text's next character
pub next_character : (text : List ℕ) (i : ℕ) → i < length text → drop i text ≡ get_or text i 0 ∷ drop (i + 1) text
next_character text i h = rw (add-one i, drop-cons text i 0)

pub below_cons : (base v : ℕ) (vs : List ℕ) → below base (v ∷ vs) ≡ true → (v < base) × (below base vs ≡ true)
unfolding below
below_cons base v vs e = let b = both (ltb v base) (below base vs) e in (ltb-true v base b.0, b.1)
  where
    both : (t u : Bool) → pick t u false ≡ true → (t ≡ true) × (u ≡ true)
    both true u h = (refl, h)
    both false u h = impossible (cc)

pub uncons : (l : List ℕ) (at x : ℕ) (rest : List ℕ) → drop at l ≡ x ∷ rest → (at < length l) × ((get_or l at 0 ≡ x) × (drop (at + 1) l ≡ rest))
uncons l at x rest e =
    let h : at < length l = omega (arith, length-drop at l, ap length e) in
    let d : get_or l at 0 ∷ drop (at + 1) l ≡ x ∷ rest = sym (next_character l at h) ∙ e in
    (h, (cc, cc))

-- how far the bytes `all` of a text are put: those before `at` stand in `out`, and those from `at` on are in what is left of it
pub record Filling (passed left all before out : List ℕ) (at : ℕ) : Type 0 where
  pub long : length out ≡ length before
  pub room : length all ≤ length before
  pub inside : at ≤ length all
  pub good : below 16 (values (without passed left)) ≡ true
  pub rest : pairs (values (without passed left)) ≡ drop at all
  pub put : out ≡ take at all ++ drop at before

pub pairs_length : (vs : List ℕ) → length (pairs vs) ≡ length vs / 2
unfolding pairs
pairs_length [] = refl
pairs_length (h ∷ []) = refl
pairs_length (h ∷ l ∷ vs) = omega (arith, pairs_length vs)

-- a number behind what was read of it
abbrev pub numbered : ℕ → ℕ → ℕ → List ℕ → Option ℕ
numbered base most sofar vs = pick (below base vs && leb (numeral base sofar vs) most) (Some (numeral base sofar vs)) None

pub number_starts : (base most : ℕ) (word : List ℕ) → 0 < length word → number_in base most word ≡ numbered base most 0 (values word)
unfolding number_in
number_starts base most word h = rw (lt-ltb 0 (length word) h)

pub number_empty : (base most : ℕ) (word : List ℕ) → length word ≡ 0 → None ≡ number_in base most word
unfolding number_in
number_empty base most word h = rw (le-ltb 0 (length word) (omega arith))

pub numeral_grows : (base sofar : ℕ) (vs : List ℕ) → 1 ≤ base → sofar ≤ numeral base sofar vs
unfolding numeral
numeral_grows base sofar [] h = omega arith
numeral_grows base sofar (v ∷ vs) h = omega (arith, numeral_grows base (sofar * base + v) vs h, mul-le-mul_left sofar h)

-- a digit more is too much where the number passes its limit
pub number_over : (base most sofar i : ℕ) (word : List ℕ) → i < length word → 1 ≤ base → most < sofar * base + digit (get_or word i 0)
    → numbered base most sofar (values (drop i word)) ≡ None
unfolding below numeral
number_over base most sofar i word h b o =
    rw (ap values (next_character word i h))
    (over_most (ltb (digit (get_or word i 0)) base) (below base (values (drop (i + 1) word))) _
    (omega (arith, numeral_grows base (sofar * base + digit (get_or word i 0)) (values (drop (i + 1) word)) b)))
  where
    over_most : (t u : Bool) (n : ℕ) → most < n → pick (pick t u false && leb n most) (Some n) None ≡ None
    over_most true true n p = rw (lt-leb n most p)
    over_most true false n p = refl
    over_most false u n p = refl

pub number_bounded : (base most : ℕ) (word : List ℕ) (n : ℕ) → Some n ≡ number_in base most word → n ≤ most
unfolding number_in
number_bounded base most word n e = bounded (ltb 0 (length word) && below base (values word)) (numeral base 0 (values word)) e
  where
    bounded : (t : Bool) (m : ℕ) → Some n ≡ pick (t && leb m most) (Some m) None → n ≤ most
    bounded true m p = tested (leb m most) refl p
      where
        tested : (u : Bool) → leb m most ≡ u → Some n ≡ pick u (Some m) None → n ≤ most
        tested true q r = let s : m ≡ n = cc in omega (arith, leb-true m most q)
        tested false q r = impossible (cc)
    bounded false m p = impossible (cc)

-- the next two digits of a text, and the byte that they are
pub record Two (c d at : ℕ) (cs all : List ℕ) : Type 0 where
  pub upper : digit c < 16
  pub lower : digit d < 16
  pub good : below 16 (values cs) ≡ true
  pub inside : at < length all
  pub here : get_or all at 0 ≡ digit c * 16 + digit d
  pub rest : pairs (values cs) ≡ drop (at + 1) all

two : (c d at : ℕ) (cs all : List ℕ) → below 16 (values (c ∷ d ∷ cs)) ≡ true → pairs (values (c ∷ d ∷ cs)) ≡ drop at all → Two c d at cs all
unfolding pairs
two c d at cs all g r =
    let x = below_cons 16 (digit c) (digit d ∷ values cs) g in
    let y = below_cons 16 (digit d) (values cs) x.1 in
    let u = uncons all at (digit c * 16 + digit d) (pairs (values cs)) (sym r) in
    record { upper = x.0; lower = y.0; good = y.1; inside = u.0; here = u.1.0; rest = sym u.1.1 }

-- where the bytes of what is left of a text are those of `all` from `at` on: the next two digits; no digit is left, or one alone, which
-- is no byte, and then no byte is left
module _ (passed left all : List ℕ) (at : ℕ) (r : pairs (values (without passed left)) ≡ drop at all) where
  pub next_two : below 16 (values (without passed left)) ≡ true → (c d : ℕ) (l m : List ℕ) → without passed left ≡ c ∷ without passed l
      → without passed l ≡ d ∷ without passed m → Two c d at (without passed m) all
  next_two g c d l m p q =
      let e : without passed left ≡ c ∷ d ∷ without passed m = rw p (ap (λ (k : List ℕ). c ∷ k) q) in
      two c d at (without passed m) all
      (sym (ap (λ (k : List ℕ). below 16 (values k)) e) ∙ g)
      (sym (ap (λ (k : List ℕ). pairs (values k)) e) ∙ r)

  pub none_left : without passed left ≡ [] → drop at all ≡ []
  unfolding pairs
  none_left e = sym r ∙ ap (λ (k : List ℕ). pairs (values k)) e

  pub odd_one : (c : ℕ) (l : List ℕ) → without passed left ≡ c ∷ without passed l → without passed l ≡ [] → drop at all ≡ []
  unfolding pairs
  odd_one c l p q = sym r ∙ ap (λ (k : List ℕ). pairs (values k)) (p ∙ ap (λ (k : List ℕ). c ∷ k) q)

module _ (passed left all before out : List ℕ) (at : ℕ) (f : Filling passed left all before out at) where
  pub two_to_put : (c d : ℕ) (l m : List ℕ) → without passed left ≡ c ∷ without passed l → without passed l ≡ d ∷ without passed m
      → Two c d at (without passed m) all
  two_to_put c d l m p q = next_two passed left all at f.rest f.good c d l m p q

  -- a turn's store takes the first bytes of `all` to one more
  pub one_more : (c d v : ℕ) (m : List ℕ) → Two c d at (without passed m) all → v ≡ digit c * 16 + digit d → Filling passed m all before (set out at v) (at + 1)
  one_more c d v m w e =
      let k : at < length before = omega (arith, w.inside, f.room) in
      let i : at < length all = w.inside in
      record {
        long = rw (length-set out at v) f.long;
        room = f.room;
        inside = omega (arith, w.inside);
        good = w.good;
        rest = w.rest;
        put =
            rw (f.put, e, sym w.here, add-one at, drop-cons before at 0, take-suc all at 0, append_assoc)
            (set_at (take at all) _ _ _ at (length-take-le at all (omega arith)));
      }

  all_put : drop at all ≡ [] → out ≡ over all before
  all_put e =
      let n : at ≡ length all = omega (arith, length-drop at all, ap length e, f.inside) in
      f.put ∙ rw (n, take-length)

  -- no digit is left, or one alone: all bytes are put
  pub none_left_put : without passed left ≡ [] → out ≡ over all before
  none_left_put e = all_put (none_left passed left all at f.rest e)

  pub odd_one_put : (c : ℕ) (l : List ℕ) → without passed left ≡ c ∷ without passed l → without passed l ≡ [] → out ≡ over all before
  odd_one_put c l p q = all_put (odd_one passed left all at f.rest c l p q)

-- what counting the digits of a text says of it
pub counted : (ds : List ℕ) (n : ℕ) → Some n ≡ scanned 0 ds → (below 16 (values ds) ≡ true) × (length ds ≡ n)
counted ds n e = let s = said (below 16 (values ds)) (0 + length ds) e in (s.0, omega (arith, s.1))
  where
    said : (t : Bool) (k : ℕ) → Some n ≡ pick t (Some k) None → (t ≡ true) × (k ≡ n)
    said true k h = (refl, cc)
    said false k h = impossible (cc)

-- the answers for so many digits, each with what the buffer then holds
module _ (ds out : List ℕ) (n : ℕ) (e : Some n ≡ scanned 0 ds) where
  count : length (values ds) ≡ n
  count = omega (arith, length-map ds digit, (counted ds n e).1)

  pub digits_good : below 16 (values ds) ≡ true
  digits_good = (counted ds n e).0

  pub digits_odd : (n % 2 ≡ 0 → ⊥) → (Err NotHex ≡ answered (digits_mean (values ds)) (length out)) × (out ≡ filled (digits_mean (values ds)) out)
  digits_odd h = rw ((counted ds n e).0, count, ne_eqb (n % 2) 0 h) (refl, refl)

  pub digits_long : n % 2 ≡ 0 → length out < n / 2
      → (Err TooLong ≡ answered (digits_mean (values ds)) (length out)) × (out ≡ filled (digits_mean (values ds)) out)
  digits_long h k =
      rw ((counted ds n e).0, count, eq-eqb (n % 2) 0 h, pairs_length (values ds), count, lt-leb (n / 2) (length out) k) (refl, refl)

  pub digits_fit : n / 2 ≤ length out → length (pairs (values ds)) ≤ length out
  digits_fit h = omega (arith, pairs_length (values ds), count)

  pub digits_put : n % 2 ≡ 0 → n / 2 ≤ length out → (m : List ℕ) → m ≡ over (pairs (values ds)) out
      → (Ok (n / 2) ≡ answered (digits_mean (values ds)) (length out)) × (m ≡ filled (digits_mean (values ds)) out)
  digits_put h k m w =
      let l : n / 2 ≡ length (pairs (values ds)) = omega (arith, pairs_length (values ds), count) in
      rw ((counted ds n e).0, count, eq-eqb (n % 2) 0 h, le-leb (length (pairs (values ds))) (length out) (digits_fit k)) (ap (λ (k : ℕ). Ok k) l, w)

-- what decoding into sixteen bytes answered, for a type of so many bytes
type_other : (n : ℕ) → n ≤ 16 → (m : Option (List ℕ)) (r : Result ℕ HexError) → r ≡ answered m 16 → (r ≡ Ok n → ⊥) → type_from (Some n) m ≡ []
type_other n s None r e h = refl
type_other n s (Some bytes) r e h = by (eqb (length bytes) n) refl
  where
    by : (t : Bool) → eqb (length bytes) n ≡ t → pick t (reverse bytes) [] ≡ []
    by true q =
        let l : length bytes ≡ n = eqb-true (length bytes) n q in
        absurd (h (e ∙ rw (l, le-leb n 16 s)))
    by false q = refl

type_read : (n : ℕ) (m : Option (List ℕ)) (big : List ℕ) → Ok n ≡ answered m 16 → big ≡ filled m (replicate 16 0) → reverse (take n big) ≡ type_from (Some n) m
type_read n None big e b = impossible (cc)
type_read n (Some bytes) big e b = by (leb (length bytes) 16) e b
  where
    by : (t : Bool) → Ok n ≡ pick t (Ok (length bytes)) (Err TooLong) → big ≡ pick t (over bytes (replicate 16 0)) (replicate 16 0)
        → reverse (take n big) ≡ pick (eqb (length bytes) n) (reverse bytes) []
    by true q o =
        let l : length bytes ≡ n = cc in
        rw (eq-eqb (length bytes) n l, o, take_at bytes (drop (length bytes) (replicate 16 0)) n l)
    by false q o = impossible (cc)

-- the answers for a word: its outline is none, its bytes are not as many as the outline asks for, and they are
module _ (word : List ℕ) where
  pub no_outline : None ≡ outline word → Err InvalidValue ≡ type_of word
  unfolding type_bytes sliced
  no_outline e = rw (sym e) refl

  pub other_bytes : (n : ℕ) (r : Result ℕ HexError) → Some n ≡ outline word → n ≤ 16 → r ≡ answered (digits_mean (values (without (45 ∷ []) word))) 16
      → (r ≡ Ok n → ⊥) → Err InvalidValue ≡ type_of word
  unfolding type_bytes sliced
  other_bytes n r e s a h = rw (sym e, type_other n s (digits_mean (values (without (45 ∷ []) word))) r a h) refl

  pub same_bytes : (n : ℕ) (big : List ℕ) → Some n ≡ outline word → Ok n ≡ answered (digits_mean (values (without (45 ∷ []) word))) 16
      → big ≡ filled (digits_mean (values (without (45 ∷ []) word))) (replicate 16 0) → reverse (take n big) ≡ type_bytes word
  unfolding type_bytes
  same_bytes n big e a b = rw (sym e) (type_read n (digits_mean (values (without (45 ∷ []) word))) big a b)
