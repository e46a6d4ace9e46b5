-- The first with a handle, of a list of anything that has one: what holds of it, and that a list made of another has it at the same
-- place. And the record that is found at a handle: it counts, it has the handle, and it gives what the first one with the handle
-- gives.
use Rattle.std.specs.Prelude.{ℕ, zero, suc, ◌+◌, ◌<◌, ◌≤◌, min, Bool, ◌≡◌, refl, List, [], ◌∷◌, Some, None, map, length, take, drop, get_or, leb, eqb, ◌==◌, cond, find}
use Rattle.std.specs.Option.{option_map_or}
use Rattle.std.specs.List.{position_from}
use Rattle.std.proofs.Math.Bool.{true, false}
use Rattle.std.proofs.Common.{sym, ◌∙◌, ap, arith, not-suc-le-zero, le_of_suc-le-suc, suc-le-suc, add-one, drop-cons, drop_of_length-le, length-take, length-take-le, get_or-take, take_all, eq-eqb, ne_eqb, eqb-true, leb-true, leb-false}
use Rattle.std.proofs.lemmas.List.Quantifiers.{position-Some}
use Rattle.std.proofs.lemmas.Iterator.Adapters.{position_from-zero}
use Rattle.codec.specs.CasesLaws.{impossible}
use Rattle.codec.specs.Cases.{pick}
use Rattle.attributes.specs.Additions.{blank}
use Rattle.attributes.specs.Ledger.{Item, item, item_at}
use Rattle.attributes.specs.Lists.{Each, first_at}
use Rattle.attributes.specs.Records.{entries, record_at, find_in}
use Rattle.attributes.specs.declared.Record.{Record}
use Rattle.attributes.specs.declared.Table.{Table}

-- what it gives is one of these, with what is known of each, or `none`
pub first_each : {A B : Type 0} (P : B → Type 0) (Q : A → Type 0) (handle : A → ℕ) (h : ℕ) (gives : A → B) (none : B) (l : List A) → Each Q l
    → ((x : A) → Q x → handle x ≡ h → P (gives x)) → P none → P (first_at handle h gives none l)
first_each P Q handle h gives none [] a f n = n
first_each P Q handle h gives none (x ∷ l) a f n = by (eqb (handle x) h) refl (first_each P Q handle h gives none l a.1 f n)
  where
    by : (b : Bool) → eqb (handle x) h ≡ b → P (first_at handle h gives none l) → P (pick b (gives x) (first_at handle h gives none l))
    by true e k = f x a.0 (eqb-true (handle x) h e)
    by false e k = k

-- what two functions give of it
pub first_two : {A B C : Type 0} (R : B → C → Type 0) (handle : A → ℕ) (h : ℕ) (f : A → B) (g : A → C) (m : B) (n : C) (l : List A)
    → ((x : A) → handle x ≡ h → R (f x) (g x)) → R m n → R (first_at handle h f m l) (first_at handle h g n l)
first_two R handle h f g m n [] k e = e
first_two R handle h f g m n (x ∷ l) k e = by (eqb (handle x) h) refl (first_two R handle h f g m n l k e)
  where
    by : (b : Bool) → eqb (handle x) h ≡ b → R (first_at handle h f m l) (first_at handle h g n l)
        → R (pick b (f x) (first_at handle h f m l)) (pick b (g x) (first_at handle h g n l))
    by true q r = k x (eqb-true (handle x) h q)
    by false q r = r

-- of a list that was made of another
pub first_map : {A B C : Type 0} (f : A → B) (handle : B → ℕ) (h : ℕ) (gives : B → C) (none : C) (l : List A)
    → first_at handle h gives none (map f l) ≡ first_at (λ (x : A). handle (f x)) h (λ (x : A). gives (f x)) none l
first_map f handle h gives none [] = refl
first_map f handle h gives none (x ∷ l) =
    ap (pick (eqb (handle (f x)) h) (gives (f x))) (first_map f handle h gives none l)

-- of a ledger, by its records
pub item_first : {A : Type 0} (fixed live : List ℕ) (h : ℕ) (gives : Item → A) (none : A) (rs : List Record)
    → item_at h gives none (map (item fixed live) rs) ≡ record_at h (λ (r : Record). gives (item fixed live r)) none rs
item_first fixed live h gives none rs = first_map (item fixed live) (λ (i : Item). i.handle) h gives none rs

-- what is given of the first record with a handle, as std's `find` gives the record
pub record_found : {A : Type 0} (h : ℕ) (gives : Record → A) (none : A) (rs : List Record)
    → record_at h gives none rs ≡ option_map_or gives (find (λ (r : Record). r.handle == h) rs) none
record_found h gives none [] = refl
record_found {A = A} h gives none (r ∷ rs) = by (eqb r.handle h) (record_found h gives none rs)
  where
    by : (b : Bool) → record_at h gives none rs ≡ option_map_or gives (find (λ (r : Record). r.handle == h) rs) none
        → pick b (gives r) (record_at h gives none rs) ≡ option_map_or gives (cond b (Some r) (find (λ (r : Record). r.handle == h) rs)) none
    by true e = refl
    by false e = e

-- none has the handle: what is given then. And the one at a place, where none before it has the handle: it is what is found.
missing_from : {A B : Type 0} (handle : A → ℕ) (h : ℕ) (gives : A → B) (none : B) (j : ℕ) (l : List A)
    → position_from (λ (x : A). eqb (handle x) h) j l ≡ None → first_at handle h gives none l ≡ none
missing_from handle h gives none j [] e = refl
missing_from {A = A} handle h gives none j (x ∷ l) e = by (eqb (handle x) h) e (missing_from handle h gives none (j + 1) l)
  where
    by : (b : Bool) → cond b (Some j) (position_from (λ (y : A). eqb (handle y) h) (j + 1) l) ≡ None
        → (position_from (λ (y : A). eqb (handle y) h) (j + 1) l ≡ None → first_at handle h gives none l ≡ none)
        → pick b (gives x) (first_at handle h gives none l) ≡ none
    by true e f = impossible (cc)
    by false e f = f e

pub missing_gives : {A : Type 0} (h : ℕ) (gives : Record → A) (none : A) (j : ℕ) (rs : List Record) → position_from (λ (r : Record). r.handle == h) j rs ≡ None
    → record_at h gives none rs ≡ none
missing_gives h gives none j rs e = missing_from (λ (r : Record). r.handle) h gives none j rs e

pub missing_in : {A : Type 0} (h : ℕ) (gives : Record → A) (none : A) (rs : List Record) → find_in h rs ≡ None → record_at h gives none rs ≡ none
missing_in h gives none rs e = missing_gives h gives none 0 rs (sym (position_from-zero (λ (r : Record). r.handle == h) rs) ∙ e)

first_there : {A B : Type 0} (handle : A → ℕ) (h : ℕ) (gives : A → B) (none : B) (l : List A) (i : ℕ) (d : A) → i < length l → eqb (handle (get_or l i d)) h ≡ true
    → ((k : ℕ) → k < i → eqb (handle (get_or l k d)) h ≡ false) → first_at handle h gives none l ≡ gives (get_or l i d)
first_there handle h gives none [] i d p e f = absurd (not-suc-le-zero p)
first_there handle h gives none (x ∷ l) zero d p e f = rw e
first_there handle h gives none (x ∷ l) (suc i) d p e f =
    rw (f 0 (omega arith)) (first_there handle h gives none l i d (le_of_suc-le-suc p) e (λ k q. f (suc k) (suc-le-suc q)))

-- a walk over the first `n` records, one at a time, by what is found from the record `i` on
step : (h i n : ℕ) (l : List Record) (d : Record) → i < n → n ≤ length l
    → position_from (λ (r : Record). r.handle == h) i (drop i (take n l))
    ≡ cond (eqb (get_or l i d).handle h) (Some i) (position_from (λ (r : Record). r.handle == h) (i + 1) (drop (i + 1) (take n l)))
step h i n l d p q =
    let k : i < length (take n l) = rw (length-take-le n l) (omega arith) in
    rw (drop-cons (take n l) i d k, get_or-take n l i d p, add-one i)

pub find_here : (h i n : ℕ) (l : List Record) (d : Record) → i < n → n ≤ length l → (get_or l i d).handle ≡ h
    → position_from (λ (r : Record). r.handle == h) i (drop i (take n l)) ≡ Some i
find_here h i n l d p q e = step h i n l d p q ∙ rw (eq-eqb _ _ e)

pub find_next : (h i n : ℕ) (l : List Record) (d : Record) → i < n → n ≤ length l → ((get_or l i d).handle ≡ h → ⊥)
    → position_from (λ (r : Record). r.handle == h) i (drop i (take n l))
    ≡ position_from (λ (r : Record). r.handle == h) (i + 1) (drop (i + 1) (take n l))
find_next h i n l d p q e = step h i n l d p q ∙ rw (ne_eqb _ _ e)

pub find_none : (h i n : ℕ) (l : List Record) → n ≤ i → n ≤ length l → position_from (λ (r : Record). r.handle == h) i (drop i (take n l)) ≡ None
find_none h i n l p q =
    let k : length (take n l) ≤ i = rw (length-take-le n l) p in
    rw (drop_of_length-le (take n l) k)

-- What is found among the first `n` records of an array, as code has them.
module _ (h n i : ℕ) (l : List Record) (d : Record) (e : find_in h (take n l) ≡ Some i) where
  there : (i < length (take n l)) × (eqb (get_or (take n l) i d).handle h ≡ true) × ((k : ℕ) → k < i → eqb (get_or (take n l) k d).handle h ≡ false)
  there = position-Some (λ (r : Record). eqb r.handle h) (take n l) i d e

  pub found_below : i < n
  found_below = let q : i < min n (length l) = simp length-take at there.0 in omega arith

  pub found_inside : i < length l
  found_inside = let q : i < min n (length l) = simp length-take at there.0 in omega arith

  pub found_handle : (get_or l i d).handle ≡ h
  found_handle = eqb-true _ _ (rw (sym (get_or-take n l i d found_below)) there.1)

  pub found_gives : {A : Type 0} (gives : Record → A) (none : A) → record_at h gives none (take n l) ≡ gives (get_or l i d)
  found_gives gives none =
      first_there (λ (r : Record). r.handle) h gives none (take n l) i d there.0 there.1 there.2 ∙ ap gives (get_or-take n l i d found_below)

-- a record that is found has a number below 64, for an array of 64
pub found_64 : (t : Table) (h i : ℕ) → length t.records ≡ 64 → find_in h (entries t) ≡ Some i → i < 64
found_64 t h i full e = omega (arith, full, found_inside h t.count i t.records blank e)

-- the records that count, where code looks at no more than the array has
pub entries_counted : (t : Table) (n : ℕ) → length t.records ≡ 64 → n ≡ min t.count 64 → take n t.records ≡ entries t
entries_counted t n full e = by (leb t.count 64) refl
  where
    by : (b : Bool) → leb t.count 64 ≡ b → take n t.records ≡ entries t
    by true q = let p : n ≡ t.count = omega (arith, leb-true t.count 64 q) in ap (λ (k : ℕ). take k t.records) p
    by false q =
        let p : 64 < t.count = leb-false t.count 64 q in
        take_all n t.records (omega arith) ∙ sym (take_all t.count t.records (omega arith))
