-- What a search lists is the start of what is due, in order, and all of one length. By induction over the attributes; each gives
-- nothing where it does not match, and its own item or a failure where it does.
use Prim.Native.Nat.{ℕ, ◌-◌}
use mathlib.Core.Bool.{Bool, true, false, ◌&&◌}
use mathlib.Core.Path.{◌≡◌, refl, ap, ap₂}
use mathlib.Core.List.{List, [], ◌∷◌, map}
use lib.ListN.{length}
use lib.Dec.{leb, eqb}
use borrow.Author.Tests.{eqb-true}
use Rattle.codec.specs.Cases.{pick}
use Rattle.codec.specs.CasesLaws.{both}
use Rattle.att.proofs.NoShift.{AllOf}
use Rattle.attributes.specs.Ledger.{Item}
use Rattle.answers.specs.View.{View, view}
use Rattle.answers.specs.Replies.{Part, Skip, Take, Fail, Found, None, Failed, Listed, more, search, keep, in_range}
use Rattle.attributes.specs.Lists.{Each}
use Rattle.answers.specs.Auditor.{Starts, between}
use Rattle.answers.proofs.Lists.{each_map}

-- a property of what was listed, where something was
abbrev pub OnList : (ℕ → List (List ℕ) → Type 0) → Found → Type 0
OnList P None = Unit
OnList P (Failed h code) = Unit
OnList P (Listed n is) = P n is

pub on_list : (P : ℕ → List (List ℕ) → Type 0) (x : Found) (n : ℕ) (is : List (List ℕ)) → OnList P x → x ≡ Listed n is → P n is
on_list P x n is a e = rw e at a

-- Lengths.
abbrev pub Sized : (ℕ → Type 0) → Part → Type 0
Sized B Skip = Unit
Sized B (Take b) = B (length b)
Sized B (Fail h code) = Unit

more_sizes : (n room : ℕ) (ps : List Part) → AllOf n (more n room ps)
unfolding more
more_sizes n room [] = tt
more_sizes n room (Skip ∷ ps) = more_sizes n room ps
more_sizes n room (Take b ∷ ps) = fit (eqb (length b) n && leb n room) refl (more_sizes n (room - n) ps)
  where
    fit : (c : Bool) → (eqb (length b) n && leb n room) ≡ c → AllOf n (more n (room - n) ps) → AllOf n (pick c (b ∷ more n (room - n) ps) [])
    fit true e h = (eqb-true (length b) n (both (eqb (length b) n) _ e).0, h)
    fit false e h = tt
more_sizes n room (Fail h code ∷ ps) = tt

found_sizes : (B : ℕ → Type 0) (room : ℕ) (ps : List Part) → Each (Sized B) ps → OnList (λ n is. B n × AllOf n is) (search room ps)
unfolding search
found_sizes B room [] a = tt
found_sizes B room (Skip ∷ ps) a = found_sizes B room ps a.1
found_sizes B room (Take b ∷ ps) a = (a.0, (refl, more_sizes (length b) (room - length b) ps))
found_sizes B room (Fail h code ∷ ps) a = tt

pub search_sizes : (B : ℕ → Type 0) (f : View → Part) (room : ℕ) (vs : List View) → Each (λ v. Sized B (f v)) vs
    → OnList (λ n is. B n × AllOf n is) (search room (map f vs))
search_sizes B f room vs a = found_sizes B room (map f vs) (each_map (Sized B) f vs a)

-- What an attribute gives: nothing where it does not match; its item, or a failure, where it does.
abbrev pub Given : Bool → List ℕ → Part → Type 0
Given true b Skip = ⊥
Given true b (Take c) = c ≡ b
Given true b (Fail h code) = Unit
Given false b Skip = Unit
Given false b (Take c) = ⊥
Given false b (Fail h code) = ⊥

pub given_if : (c : Bool) (b : List ℕ) (p : Part) → (c ≡ true → Given true b p) → Given c b (pick c p Skip)
given_if true b p g = g refl
given_if false b p g = tt

module _ (e : Bool) (f : View → Part) (match : Item → Bool) (g : Item → List ℕ) (ok : (i : Item) → Given (match i) (g i) (f (view e i))) where
  abbrev given : List Item → List Part
  given is = map f (map (view e) is)

  more_starts : (n room : ℕ) (is : List Item) → Starts (more n room (given is)) (map g (keep match is))
  unfolding more
  more_starts n room [] = refl
  more_starts n room (i ∷ is) = by (match i) (f (view e i)) (ok i) (λ r. more_starts n r is)
    where
      fit : (c : List ℕ) (d : Bool) → c ≡ g i → Starts (more n (room - n) (given is)) (map g (keep match is))
          → Starts (pick d (c ∷ more n (room - n) (given is)) []) (g i ∷ map g (keep match is))
      fit c true x h = ap₂ (λ (y : List ℕ) (l : List (List ℕ)). y ∷ l) x h
      fit c false x h = refl

      by : (b : Bool) (p : Part) → Given b (g i) p → ((r : ℕ) → Starts (more n r (given is)) (map g (keep match is)))
          → Starts (more n room (p ∷ given is)) (map g (pick b (i ∷ keep match is) (keep match is)))
      by true Skip x h = absurd x
      by true (Take c) x h = fit c (eqb (length c) n && leb n room) x (h (room - n))
      by true (Fail a code) x h = refl
      by false Skip x h = h room
      by false (Take c) x h = absurd x
      by false (Fail a code) x h = absurd x

  pub search_starts : (room : ℕ) (is : List Item) → OnList (λ n xs. Starts xs (map g (keep match is))) (search room (given is))
  unfolding search
  search_starts room [] = tt
  search_starts room (i ∷ is) = by (match i) (f (view e i)) (ok i) (search_starts room is)
    where
      by : (b : Bool) (p : Part) → Given b (g i) p → OnList (λ n xs. Starts xs (map g (keep match is))) (search room (given is))
          → OnList (λ n xs. Starts xs (map g (pick b (i ∷ keep match is) (keep match is)))) (search room (p ∷ given is))
      by true Skip x h = absurd x
      by true (Take c) x h = ap₂ (λ (y : List ℕ) (l : List (List ℕ)). y ∷ l) x (more_starts (length c) (room - length c) is)
      by true (Fail a code) x h = tt
      by false Skip x h = h
      by false (Take c) x h = absurd x
      by false (Fail a code) x h = absurd x

-- the attributes of a range, seen by the link
pub within_view : (e : Bool) (from to : ℕ) (is : List Item) → in_range from to (map (view e) is) ≡ map (view e) (between from to is)
unfolding in_range
within_view e from to [] = refl
within_view e from to (i ∷ is) = by (leb from i.handle && leb i.handle to) (within_view e from to is)
  where
    by : (b : Bool) → keep (λ (v : View). leb from v.handle && leb v.handle to) (map (view e) is) ≡ map (view e) (between from to is)
        → pick b (view e i ∷ keep (λ (v : View). leb from v.handle && leb v.handle to) (map (view e) is))
        (keep (λ (v : View). leb from v.handle && leb v.handle to) (map (view e) is))
        ≡ map (view e) (pick b (i ∷ between from to is) (between from to is))
    by true h = ap (λ (l : List View). view e i ∷ l) h
    by false h = h
