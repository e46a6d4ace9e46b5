-- A walk over parts gives what the book's search gives, joined over the area, where each item by itself fits into the room and the
-- area holds the room.
use Rattle.std.specs.Prelude.{ℕ, ◌+◌, ◌-◌, ◌≤◌, Bool, ◌&&◌, ◌≡◌, drop, Option, Some, None, Ok, Err}
use Rattle.std.proofs.Math.Bool.{true, false}
use Rattle.std.proofs.Math.Path.{refl, ap, subst}
use Rattle.std.proofs.Common.{sym, ◌∙◌, drop-drop, take_at, drop_at}
use mathlib.Core.List.{List, [], ◌∷◌, ◌++◌, map, append_assoc, append-nil}
use native.Mathlib.Omega.{arith}
use Rattle.std.proofs.Math.ListN.{length, length-append}
use Rattle.std.proofs.Math.Dec.{leb, eqb}
use borrow.Author.Tests.{eqb-true, le-leb, leb-true}
use Rattle.codec.specs.Buffer.{over, laid_at}
use Rattle.codec.specs.BufferLaws.{over_length}
use Rattle.codec.specs.Cases.{pick}
use Rattle.codec.specs.CasesLaws.{both, impossible}
use Rattle.att.specs.Items.{joined}
use Rattle.att.specs.Typed.{code}
use Rattle.attributes.specs.Lists.{Each}
use Rattle.answers.specs.Replies as book
use Rattle.answers.specs.Replies.{Part, keep, more, search}
use Rattle.answers.specs.View.{View}
use Rattle.serve_collect.specs.CollectLaws.{fit_here}
use Rattle.serve_collect.specs.Collect.{Fits, FirstFits, Gathered, listed, failed, Walk, fit_at, spot_for, taken_at, taken, step, fold, is_ended, found_by, shown_found, shown_on}
use Rattle.serve_collect.specs.declared.Progress.{Progress}
use Rattle.serve_collect.specs.declared.Progress.TheVariants.{Seeking, Taking, Ended}

-- a walk's end, as what was found and the area
abbrev pub Ends : Walk → Gathered → List ℕ → Type 0
Ends w x s = (found_by w.0 ≡ x) × (w.1 ≡ s)

-- Behind its end nothing is added to a list: a search that goes on there has the same answer.
ended_walk : (room : ℕ) (x : Gathered) (s : List ℕ) (ps : List Part) → fold (step room) (Ended x, s) ps ≡ (Ended x, s)
unfolding taken
ended_walk room x s [] = refl
ended_walk room x s (book.Skip ∷ ps) = ended_walk room x s ps
ended_walk room x s (book.Take b ∷ ps) = ended_walk room x s ps
ended_walk room x s (book.Fail h code ∷ ps) = ended_walk room x s ps

pub ended_stays : (room : ℕ) (p : Progress) (s : List ℕ) (ps : List Part) → is_ended p ≡ true → fold (step room) (p, s) ps ≡ (p, s)
ended_stays room Seeking s ps e = impossible (cc)
ended_stays room (Taking x) s ps e = impossible (cc)
ended_stays room (Ended x) s ps e = ended_walk room x s ps

-- Where each part fits, or where the walk has ended behind parts that do, the first item fits.
pub each_first : (room : ℕ) (ps : List Part) → Each (Fits room) ps → FirstFits room ps
each_first room [] a = tt
each_first room (book.Skip ∷ ps) a = each_first room ps a.1
each_first room (book.Take b ∷ ps) a = a.0
each_first room (book.Fail h n ∷ ps) a = tt

pub ended_first : (room : ℕ) (ps qs : List Part) (area : List ℕ) → Each (Fits room) ps → is_ended (fold (step room) (Seeking, area) ps).0 ≡ true → FirstFits room (ps ++ qs)
ended_first room [] qs area a e = impossible (cc)
ended_first room (book.Skip ∷ ps) qs area a e = ended_first room ps qs area a.1 e
ended_first room (book.Take b ∷ ps) qs area a e = a.0
ended_first room (book.Fail h n ∷ ps) qs area a e = tt

pub fold_append : {A B : Type 0} (g : B → A → B) (b : B) (l m : List A) → fold g b (l ++ m) ≡ fold g (fold g b l) m
fold_append g b [] m = refl
fold_append g b (x ∷ l) m = fold_append g (g b x) l m

-- what stands outside of a range gives nothing: neither to the walk nor to what fits
first_more : (room : ℕ) (p : Part) (ps qs : List Part) → (FirstFits room ps → FirstFits room qs) → FirstFits room (p ∷ ps) → FirstFits room (p ∷ qs)
first_more room book.Skip ps qs k a = k a
first_more room (book.Take b) ps qs k a = a
first_more room (book.Fail h n) ps qs k a = tt

pub first_keep : (room : ℕ) (f : View → Part) (t : View → Bool) (vs : List View) → FirstFits room (map (λ v. pick (t v) (f v) book.Skip) vs) → FirstFits room (map f (keep t vs))
first_keep room f t [] a = tt
first_keep room f t (v ∷ vs) a = by (t v) (first_keep room f t vs) a
  where
    by : (c : Bool) → (FirstFits room (map (λ v. pick (t v) (f v) book.Skip) vs) → FirstFits room (map f (keep t vs)))
        → FirstFits room (pick c (f v) book.Skip ∷ map (λ v. pick (t v) (f v) book.Skip) vs) → FirstFits room (map f (pick c (v ∷ keep t vs) (keep t vs)))
    by true ih a = first_more room (f v) _ _ ih a
    by false ih a = ih a

-- what stands outside of a range gives nothing
module _ (room : ℕ) (f : View → Part) (t : View → Bool) where
  pub fold_keep : (w : Walk) (vs : List View) → fold (step room) w (map f (keep t vs)) ≡ fold (step room) w (map (λ v. pick (t v) (f v) book.Skip) vs)
  fold_keep w [] = refl
  fold_keep w (v ∷ vs) = by (t v) (λ d. fold_keep d vs)
    where
      by : (c : Bool) → ((d : Walk) → fold (step room) d (map f (keep t vs)) ≡ fold (step room) d (map (λ v. pick (t v) (f v) book.Skip) vs))
          → fold (step room) w (map f (pick c (v ∷ keep t vs) (keep t vs)))
          ≡ fold (step room) (step room w (pick c (f v) book.Skip)) (map (λ v. pick (t v) (f v) book.Skip) vs)
      by true ih = ih (step room w (f v))
      by false ih = ih w

module _ (room : ℕ) (area : List ℕ) (holds : room ≤ length area) where
  -- bytes behind those that are laid over the area
  over_more : (b x : List ℕ) → length b + length x ≤ room → laid_at (length b) x (over b area) ≡ over (b ++ x) area
  over_more b x h =
      let k : length b + length x ≤ length (over b area) = rw (over_length b area (omega arith)) (omega arith) in
      rw (le-leb _ _ k, take_at b (drop (length b) area) (length b) refl, drop_at b (drop (length b) area) (length b) refl, drop-drop, length-append, append_assoc)

  ends : (x : Gathered) (s : List ℕ) (ps : List Part) → Ends (fold (step room) (Ended x, s) ps) x s
  ends x s ps = let e = ended_walk room x s ps in (ap (λ (w : Walk). found_by w.0) e, ap (λ (w : Walk). w.1) e)

  -- the list so far and no more, or with one item more
  abbrev With : Walk → ℕ → List ℕ → Type 0
  With w n b = Ends w (Some (Ok (listed n (length b)))) (over b area)

  none_more : (w : Walk) (n : ℕ) (b : List ℕ) → With w n b → With w n (b ++ [])
  none_more w n b k = subst (λ (l : List ℕ). With w n l) (sym (append-nil b)) k

  another : (n : ℕ) (b x y : List ℕ) (ps : List Part) → length x ≡ n → length b + n ≤ room
      → With (fold (step room) (Taking (listed n (length (b ++ x))), over (b ++ x) area) ps) n ((b ++ x) ++ y)
      → With (fold (step room) (Taking (listed (length x) (length b + length x)), laid_at (length b) x (over b area)) ps) n (b ++ (x ++ y))
  another n b x y ps e h k =
      let s : laid_at (length b) x (over b area) ≡ over (b ++ x) area = over_more b x (omega arith) in
      let u : length b + length x ≡ length (b ++ x) = sym (length-append b x) in
      let q : ◌≡◌ {A = Walk} (Taking (listed (length x) (length b + length x)), laid_at (length b) x (over b area)) (Taking (listed n (length (b ++ x))), over (b ++ x) area) = rw (s, u, e) in
      subst (λ (w : Walk). With (fold (step room) w ps) n (b ++ (x ++ y))) (sym q)
      (subst (λ (l : List ℕ). With (fold (step room) (Taking (listed n (length (b ++ x))), over (b ++ x) area) ps) n l) (append_assoc b x y) k)

  spot_is : (n len used : ℕ) → used ≤ room → spot_for room len (Taking (listed n used)) ≡ pick (eqb len n && leb n (room - used)) (Some used) None
  unfolding fit_at
  spot_is n len used h = by (eqb len n) refl
    where
      by : (c : Bool) → eqb len n ≡ c → pick c (fit_at room len used) None ≡ pick (c && leb n (room - used)) (Some used) None
      by true q = rw (le-leb used room h, eqb-true len n q)
      by false q = refl

  taking : (n : ℕ) (b : List ℕ) (ps : List Part) → length b ≤ room
      → With (fold (step room) (Taking (listed n (length b)), over b area) ps) n (b ++ joined (more n (room - length b) ps))
  unfolding more taken
  taking n b [] h = none_more (Taking (listed n (length b)), over b area) n b (refl, refl)
  taking n b (book.Skip ∷ ps) h = taking n b ps h
  taking n b (book.Take x ∷ ps) h =
      subst
      (λ (s : Option ℕ). With (fold (step room) (taken_at s x (Taking (listed n (length b))) (over b area)) ps) n
      (b ++ joined (pick (eqb (length x) n && leb n (room - length b)) (x ∷ more n (room - length b - n) ps) [])))
      (sym (spot_is n (length x) (length b) h)) (fitting (eqb (length x) n && leb n (room - length b)) refl (λ k. taking n (b ++ x) ps k))
    where
      fitting : (c : Bool) → (eqb (length x) n && leb n (room - length b)) ≡ c
          → (length (b ++ x) ≤ room → With (fold (step room) (Taking (listed n (length (b ++ x))), over (b ++ x) area) ps) n ((b ++ x) ++ joined (more n (room - length (b ++ x)) ps)))
          → With (fold (step room) (taken_at (pick c (Some (length b)) None) x (Taking (listed n (length b))) (over b area)) ps) n
          (b ++ joined (pick c (x ∷ more n (room - length b - n) ps) []))
      fitting true q ih =
          let g = both (eqb (length x) n) _ q in
          let e : length x ≡ n = eqb-true (length x) n g.0 in
          let m : n ≤ room - length b = leb-true n (room - length b) g.1 in
          let u : length (b ++ x) ≡ length b + length x = length-append b x in
          let k : room - length (b ++ x) ≡ room - length b - n = omega arith in
          let j : length (b ++ x) ≤ room = omega arith in
          subst
          (λ (i : ℕ). With (fold (step room) (Taking (listed (length x) (length b + length x)), laid_at (length b) x (over b area)) ps) n (b ++ (x ++ joined (more n i ps))))
          k (another n b x (joined (more n (room - length (b ++ x)) ps)) ps e (omega arith) (ih j))
      fitting false q ih = none_more (fold (step room) (Ended (Some (Ok (listed n (length b)))), over b area) ps) n b (ends (Some (Ok (listed n (length b)))) (over b area) ps)
  taking n b (book.Fail a code ∷ ps) h =
      none_more (fold (step room) (Ended (Some (Ok (listed n (length b)))), over b area) ps) n b (ends (Some (Ok (listed n (length b)))) (over b area) ps)

  first_at : (x : List ℕ) → length x ≤ room → ◌≡◌ {A = Walk} (taken room x Seeking area) (Taking (listed (length x) (length x)), over x area)
  unfolding taken
  first_at x h =
      let z : 0 + length x ≡ length x = omega arith in
      ap (λ (s : Option ℕ). taken_at s x Seeking area) (sym (fit_here room (length x) 0 (omega arith) (omega arith)))
      ∙ ap (λ (k : ℕ). (Taking (listed (length x) k), pick (leb k (length area)) (over x area) area)) z
      ∙ rw (le-leb (length x) (length area) (omega arith))

  pub search_is : (ps : List Part) → FirstFits room ps
      → Ends (fold (step room) (Seeking, area) ps) (shown_found (search room ps)) (shown_on area (search room ps))
  unfolding search
  search_is [] a = (refl, refl)
  search_is (book.Skip ∷ ps) a = search_is ps a
  search_is (book.Take x ∷ ps) a =
      subst (λ (w : Walk). With (fold (step room) w ps) (length x) (x ++ joined (more (length x) (room - length x) ps))) (sym (first_at x a))
      (taking (length x) x ps a)
  search_is (book.Fail h n ∷ ps) a = ends (Some (Err (failed h (code n)))) area ps
