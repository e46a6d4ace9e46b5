-- Laws of the tests on lengths. Each has the shape of what a function's proof is asked for.
use Rattle.std.specs.Prelude.{ℕ, ◌-◌, ◌%◌, ◌≤◌, ◌<◌, Bool, true, false, ◌&&◌, ◌≡◌, refl, List, [], ◌∷◌, leb, eqb, length, drop}
use Rattle.std.proofs.Common.{arith, length-drop, le-leb, ne_eqb, eqb-true, leb-true, leb-false}
use Rattle.std.proofs.Math.Dec.{leb-zero}
use Rattle.std.proofs.lemmas.Bool.{lt-leb, eqb-false}
use Rattle.att.specs.Wire.{Ends, Handles, Items, first, uuid_length}
use Rattle.att_strict.specs.Tests.{exact}

pub and_false : (b : Bool) → (b && false) ≡ false
and_false true = refl
and_false false = refl

pub and_true : (b : Bool) → (b && true) ≡ b
and_true true = refl
and_true false = refl

-- nothing follows the fixed fields
pub ends_there : (p : List ℕ) (k : ℕ) → eqb (length p) k ≡ exact Ends [] k p
ends_there p k = by (eqb (length p) k) refl (leb k (length p)) refl where
  by : (e : Bool) → eqb (length p) k ≡ e → (l : Bool) → leb k (length p) ≡ l → e ≡ (eqb (length (drop k p)) 0 && l)
  by true f true g =
      let h = eqb-true (length p) k f in
      let z : length (drop k p) ≡ 0 = simp length-drop (omega arith) in
      rw z
  by true f false g = absurd (omega (arith, eqb-true (length p) k f, leb-false k (length p) g))
  by false f true g =
      let h = leb-true k (length p) g in
      let n : length (drop k p) ≡ 0 → ⊥ = λ z. eqb-false (length p) k f (omega (arith, length-drop k p, z)) in
      rw (ne_eqb _ _ n)
  by false f false g = rw and_false

-- a UUID of 2 or 16 bytes follows start and end exactly when the payload has 6 or 20
pub uuid_follows : (p : List ℕ) (n : ℕ) → length p ≡ n → (uuid_length (n - 4) && leb 4 n) ≡ true → (uuid_length (length (drop 4 p)) && leb 4 (length p)) ≡ true
uuid_follows p n e h = rw (length-drop, e) h

pub no_uuid_follows : (p : List ℕ) → (length p ≡ 6 → ⊥) → (length p ≡ 20 → ⊥) → (uuid_length (length (drop 4 p)) && leb 4 (length p)) ≡ false
no_uuid_follows p a b = by (leb 4 (length p)) refl where
  by : (l : Bool) → leb 4 (length p) ≡ l → (uuid_length (length (drop 4 p)) && l) ≡ false
  by true g =
      let h = leb-true 4 (length p) g in
      let x : length (drop 4 p) ≡ 2 → ⊥ = λ z. a (omega (arith, length-drop 4 p, z)) in
      let y : length (drop 4 p) ≡ 16 → ⊥ = λ z. b (omega (arith, length-drop 4 p, z)) in
      rw (ne_eqb _ _ x, ne_eqb _ _ y)
  by false g = rw and_false

-- an even number of bytes, 4 or more
pub handles_odd : (p : List ℕ) → length p < 4 → false ≡ exact Handles [] 0 p
handles_odd p h = rw (lt-leb _ _ h)

pub handles_even : (p : List ℕ) → 4 ≤ length p → eqb (length p % 2) 0 ≡ exact Handles [] 0 p
handles_even p h = rw (le-leb _ _ h, leb-zero, and_true)

-- items: too short an item, no room for the fixed fields, not one item, and whether all are whole
pub items_none : (p : List ℕ) (k each least : ℕ) → each < least → false ≡ exact (Items first least) (each ∷ []) k p
items_none p k each least h = rw (lt-leb _ _ h)

pub items_short : (p : List ℕ) (k each least : ℕ) → length p < k → false ≡ exact (Items first least) (each ∷ []) k p
items_short p k each least h = rw (lt-leb _ _ h, and_false)

pub items_few : (p : List ℕ) (k each least : ℕ) → least ≤ each → length p - k < each → false ≡ exact (Items first least) (each ∷ []) k p
items_few p k each least h i = rw (le-leb least each h, length-drop, lt-leb each (length p - k) i)

pub items_whole : (p : List ℕ) (k each least : ℕ) → least ≤ each → k ≤ length p → each ≤ length p - k
    → eqb ((length p - k) % each) 0 ≡ exact (Items first least) (each ∷ []) k p
items_whole p k each least h i j = rw (le-leb least each h, length-drop, le-leb each (length p - k) j, le-leb k (length p) i, and_true)
