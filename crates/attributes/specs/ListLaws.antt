-- Laws of lists that the table needs: parts of lists that are equal in front or behind, bytes laid at a place, and a function on
-- the first elements.
use Rattle.std.specs.Prelude.{ℕ, zero, suc, ◌+◌, ◌-◌, ◌≤◌, ◌<◌, ◌≡◌, refl, List, [], ◌∷◌, ◌++◌, map, length, take, drop, get_or}
use Rattle.std.proofs.Common.{sym, ◌∙◌, ap, append_assoc, arith, length-append, length-take, length-drop, length-take-le, take-take, take_at, drop_at, drop-drop}
use Rattle.std.proofs.Math.Path.{fun_ext}
use Rattle.std.proofs.lemmas.List.{drop-take, get_or_default, length-map, take-append-le}
use Rattle.codec.specs.Buffer.{over_at}
use Rattle.attributes.specs.Stores.{map_first}

pub map_as : {A B : Type 0} (f g : A → B) (l : List A) → ((x : A) → f x ≡ g x) → map f l ≡ map g l
map_as f g l h = ap (λ k. map k l) (fun_ext h)

pub take_map_first : {A : Type 0} (n : ℕ) (f : A → A) (l : List A) → take n (map_first n f l) ≡ map f (take n l)
take_map_first zero f l = refl
take_map_first (suc n) f [] = refl
take_map_first (suc n) f (x ∷ l) = ap (λ m. f x ∷ m) (take_map_first n f l)

pub length_map_first : {A : Type 0} (n : ℕ) (f : A → A) (l : List A) → length (map_first n f l) ≡ length l
length_map_first zero f l = refl
length_map_first (suc n) f [] = refl
length_map_first (suc n) f (x ∷ l) = ap suc (length_map_first n f l)

-- what an element is does not depend on the default, where there is one
pub any_default : {A : Type 0} (l : List A) (i : ℕ) (d e : A) → i < length l → get_or l i d ≡ get_or l i e
any_default l i d e h = get_or_default l i d e h

-- the length of an array of structs: what a function knows of it stands under `map`
pub length_mapped : (X Y : Type 0) (f : X → Y) (l : List X) (n : ℕ) → length (map f l) ≡ n → length l ≡ n
length_mapped X Y f l n e = sym (length-map l f) ∙ e

-- lists that are equal in front, or behind, have equal parts there
pub part_of_front : (a n m : ℕ) (l k : List ℕ) → a + n ≤ m → take m l ≡ take m k → take n (drop a l) ≡ take n (drop a k)
part_of_front a n m l k h e =
    sym (drop-take a n l) ∙ ap (drop a) (sym (take-take (a + n) m l h) ∙ ap (take (a + n)) e ∙ take-take (a + n) m k h) ∙ drop-take a n k

pub part_of_back : (a p : ℕ) (l k : List ℕ) → p ≤ a → drop p l ≡ drop p k → drop a l ≡ drop a k
part_of_back a p l k h e =
    let q : a ≡ p + (a - p) = omega arith in
    ap (λ x. drop x l) q ∙ sym (drop-drop (a - p) p l) ∙ ap (drop (a - p)) e ∙ drop-drop (a - p) p k ∙ ap (λ x. drop x k) (sym q)

-- bytes laid over a list at a place
module _ (a : ℕ) (v l : List ℕ) (ok : a + length v ≤ length l) where
  pub over_at_length : length (over_at a v l) ≡ length l
  over_at_length = simp (length-append, length-take, length-drop) (omega arith)

  pub over_at_there : take (length v) (drop a (over_at a v l)) ≡ v
  over_at_there =
      rw (drop_at (take a l) (v ++ drop (length v) (drop a l)) a (length-take-le a l (omega arith)), take_at v (drop (length v) (drop a l)) (length v) refl)

  pub over_at_before : (p : ℕ) → p ≤ a → take p (over_at a v l) ≡ take p l
  over_at_before p h =
      take-append-le p (take a l) (v ++ drop (length v) (drop a l)) (rw (length-take-le a l (omega arith)) h) ∙ take-take p a l h

  pub over_at_behind : (p : ℕ) → a + length v ≤ p → drop p (over_at a v l) ≡ drop p l
  over_at_behind p h =
      part_of_back p (a + length v) (over_at a v l) l h
      (rw (drop-drop (length v) a l, ← append_assoc (take a l) v (drop (a + length v) l))
      (drop_at (take a l ++ v) (drop (a + length v) l) (a + length v) (simp (length-append, length-take) (omega arith))))
