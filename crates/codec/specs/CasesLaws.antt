-- Laws of choosing. The default arm of a `match` on a number: a number of no row looks up the default. Two lists pass the test
-- `same` exactly when they are equal. A case that cannot be.
use Rattle.std.specs.Prelude.{ℕ, ◌≡◌, refl, Bool, true, false, ◌&&◌, List, [], ◌∷◌, eqb}
use Rattle.std.proofs.Common.{sym, ◌∙◌, arith, eq-eqb, ne_eqb, eqb-true}
use lib.Pointwise.{pointwise}
use Rattle.codec.specs.Cases.{lookup, None, same}

-- A case that cannot be: what is known there makes 0 equal 1, which `cc` shows of two constructors taken for equal.
pub impossible : {A : Type 0} → ◌≡◌ {A = ℕ} 0 1 → A
impossible e = absurd (omega arith)

abbrev Differs : {A : Type 0} → ℕ → List (ℕ × A) → Type 0
Differs k [] = Unit
Differs k (row ∷ rows) = (k ≡ row.0 → ⊥) × Differs k rows

apart : {A : Type 0} (k : ℕ) (T : Type 0) (rows : List (ℕ × A)) → None k T rows → T × Differs k rows
apart k T [] t = (t, tt)
apart k T (row ∷ rows) t = let s = apart k (T × (k ≡ row.0 → ⊥)) rows t in (s.0.0, (s.0.1, s.1))

default : {A : Type 0} (k : ℕ) (rows : List (ℕ × A)) (d : A) → Differs k rows → lookup k rows d ≡ d
default k [] d n = refl
default k (row ∷ rows) d n = rw (ne_eqb k row.0 n.0) (default k rows d n.1)

pub missing : {A : Type 0} (k : ℕ) (rows : List (ℕ × A)) (d : A) → None k Unit rows → lookup k rows d ≡ d
missing k rows d n = default k rows d (apart k Unit rows n).1

-- a test that is true of both, and one that is not
pub both : (a b : Bool) → (a && b) ≡ true → (a ≡ true) × (b ≡ true)
both true b e = (refl, e)
both false b e = let z : ◌≡◌ {A = Bool} false true = e in (cc, cc)

pub join : {a b : Bool} → a ≡ true → b ≡ true → (a && b) ≡ true
join e f = rw (e, f)

pub same_refl : (l : List ℕ) → same l l ≡ true
same_refl [] = refl
same_refl (x ∷ xs) = rw (eq-eqb x x refl) (same_refl xs)

pub same_equal : (a b : List ℕ) → same a b ≡ true → a ≡ b
same_equal [] [] e = refl
same_equal [] (y ∷ ys) e = cc
same_equal (x ∷ xs) [] e = cc
same_equal (x ∷ xs) (y ∷ ys) e =
    let p = both (eqb x y) (same xs ys) e in
    let h : x ≡ y = eqb-true x y p.0 in
    let t : xs ≡ ys = same_equal xs ys p.1 in
    cc

-- Rust's `==` of two slices of bytes is the test
pub same_eq : (a b : List ℕ) → pointwise eqb a b ≡ same a b
same_eq [] [] = refl
same_eq [] (y ∷ ys) = refl
same_eq (x ∷ xs) [] = refl
same_eq (x ∷ xs) (y ∷ ys) = rw (same_eq xs ys)

-- a Bool that is true exactly when the lists are equal is the test
pub same_is : (r : Bool) (a b : List ℕ) → (r ≡ true → a ≡ b) × (a ≡ b → r ≡ true) → r ≡ same a b
same_is true a b h = sym (rw (h.0 refl) (same_refl b))
same_is false a b h = by (same a b) refl where
  by : (t : Bool) → same a b ≡ t → false ≡ same a b
  by true e = h.1 (same_equal a b e) ∙ sym e
  by false e = sym e
