-- Laws of lists and tests. By induction over the lists, and by cases of the tests.
use Prim.Native.Nat.{ℕ, zero, suc}
use mathlib.Core.Bool.{Bool, true, false}
use mathlib.Core.Path.{◌≡◌, refl, ap, ap₂}
use mathlib.Core.List.{List, [], ◌∷◌, map}
use lib.ListN.{length, take}
use Rattle.codec.specs.Cases.{pick}
use Rattle.attributes.specs.Lists.{Each}
use Rattle.answers.specs.Auditor.{Starts}
use Rattle.answers.specs.Replies.{keep}

abbrev pub zip_with : {A B C : Type 0} → (A → B → C) → List A → List B → List C
zip_with f [] bs = []
zip_with f (a ∷ l) [] = []
zip_with f (a ∷ l) (b ∷ m) = f a b ∷ zip_with f l m

-- a map that looks at an element only through two others
pub zip_map : {I A B C : Type 0} (k : I → C) (F : A → B → C) (f : I → A) (g : I → B) (l : List I)
    → ((i : I) → k i ≡ F (f i) (g i)) → map k l ≡ zip_with F (map f l) (map g l)
zip_map k F f g [] h = refl
zip_map k F f g (i ∷ l) h = ap₂ (λ y m. y ∷ m) (h i) (zip_map k F f g l h)

-- A property of each element: what it implies, and what is kept, mapped or a start of the list has it.
pub each : {A : Type 0} (Q : A → Type 0) (l : List A) → ((x : A) → Q x) → Each Q l
each Q [] f = tt
each Q (x ∷ xs) f = (f x, each Q xs f)

pub each_so : {A : Type 0} (P Q : A → Type 0) (l : List A) → ((x : A) → P x → Q x) → Each P l → Each Q l
each_so P Q [] f a = tt
each_so P Q (x ∷ xs) f a = (f x a.0, each_so P Q xs f a.1)

pub each_two : {A : Type 0} (P Q R : A → Type 0) (l : List A) → ((x : A) → P x → Q x → R x) → Each P l → Each Q l → Each R l
each_two P Q R [] f a b = tt
each_two P Q R (x ∷ xs) f a b = (f x a.0 b.0, each_two P Q R xs f a.1 b.1)

pub each_map : {A B : Type 0} (Q : B → Type 0) (g : A → B) (l : List A) → Each (λ x. Q (g x)) l → Each Q (map g l)
each_map Q g [] a = tt
each_map Q g (x ∷ xs) a = (a.0, each_map Q g xs a.1)

pub each_kept : {A : Type 0} (Q : A → Type 0) (f : A → Bool) (l : List A) → Each (λ x. f x ≡ true → Q x) l → Each Q (keep f l)
each_kept Q f [] a = tt
each_kept Q f (x ∷ xs) a = by (f x) refl (each_kept Q f xs a.1)
  where
    by : (b : Bool) → f x ≡ b → Each Q (keep f xs) → Each Q (pick b (x ∷ keep f xs) (keep f xs))
    by true e r = (a.0 e, r)
    by false e r = r

pub each_keep : {A : Type 0} (Q : A → Type 0) (f : A → Bool) (l : List A) → Each Q l → Each Q (keep f l)
each_keep Q f l a = each_kept Q f l (each_so Q (λ x. f x ≡ true → Q x) l (λ x q e. q) a)

each_take : {A : Type 0} (Q : A → Type 0) (n : ℕ) (l : List A) → Each Q l → Each Q (take n l)
each_take Q zero l a = tt
each_take Q (suc n) [] a = tt
each_take Q (suc n) (x ∷ xs) a = (a.0, each_take Q n xs a.1)

pub each_start : {A : Type 0} (Q : A → Type 0) (xs ys : List A) → Starts xs ys → Each Q ys → Each Q xs
each_start Q xs ys e a = rw e (each_take Q (length xs) ys a)

-- a cut list is as much of the list as its own length
pub cut : (n : ℕ) (l : List ℕ) → take n l ≡ take (length (take n l)) l
cut zero l = refl
cut (suc n) [] = refl
cut (suc n) (x ∷ l) = ap (λ m. x ∷ m) (cut n l)
