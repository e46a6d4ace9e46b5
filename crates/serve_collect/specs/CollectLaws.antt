-- Where an item goes, and what becomes of the area, in the shapes that the code asks for.
use Rattle.std.specs.Prelude.{ℕ, ◌+◌, ◌-◌, ◌≤◌, ◌<◌, Bool, ◌&&◌, ◌≡◌, List, ◌++◌, length, take, drop, eqb, Option, Some, None}
use Rattle.std.proofs.Math.Bool.{true, false}
use Rattle.std.proofs.Math.Path.{refl}
use Rattle.std.proofs.Common.{sym, ap, ◌∙◌, arith, length-append, length-drop}
use Rattle.std.proofs.Math.Dec.{leb}
use borrow.Author.Tests.{eq-eqb, ne_eqb, le-leb, lt-leb, leb-true}
use Rattle.codec.specs.Buffer.{over, laid, over_at, laid_at}
use Rattle.codec.specs.BufferLaws.{over_length, to_the_end, appended}
use Rattle.codec.specs.Cases.{pick}
use Rattle.codec.specs.CasesLaws.{impossible, both}
use Rattle.serve_collect.specs.Collect.{head_of, listed, fit_at, spot_for, stopped, taken_at, taken}
use Rattle.serve_collect.specs.declared.Head.{Head}
use Rattle.serve_collect.specs.declared.Head.TheVariants.{Handle, Range}
use Rattle.serve_collect.specs.declared.Progress.{Progress}
use Rattle.serve_collect.specs.declared.Progress.TheVariants.{Seeking, Taking, Ended}

pub head_most : (head : Head) → length (head_of head) ≤ 4
head_most (Handle h) = omega arith
head_most (Range h e) = omega arith

module _ (room len at : ℕ) where
  pub fit_past : room < at → None ≡ fit_at room len at
  unfolding fit_at
  fit_past h = rw (lt-leb at room h)

  pub fit_full : at ≤ room → room - at < len → None ≡ fit_at room len at
  unfolding fit_at
  fit_full h k = rw (le-leb at room h, lt-leb len (room - at) k)

  pub fit_here : at ≤ room → len ≤ room - at → Some at ≡ fit_at room len at
  unfolding fit_at
  fit_here h k = rw (le-leb at room h, le-leb len (room - at) k)

  fit_fits : (p : ℕ) → fit_at room len at ≡ Some p → p + len ≤ room
  unfolding fit_at
  fit_fits p e = by (leb at room && leb len (room - at)) refl e
    where
      by : (c : Bool) → (leb at room && leb len (room - at)) ≡ c → pick c (Some at) None ≡ Some p → p + len ≤ room
      by true q e =
          let g = both (leb at room) _ q in
          let z : at ≡ p = cc in
          omega (arith, leb-true at room g.0, leb-true len (room - at) g.1)
      by false q e = impossible (cc)

pub spot_fits : (room len : ℕ) (p : Progress) (at : ℕ) → spot_for room len p ≡ Some at → at + len ≤ room
spot_fits room len Seeking at e = fit_fits room len 0 at e
spot_fits room len (Taking x) at e = by (eqb len x.item_len) e
  where
    by : (c : Bool) → pick c (fit_at room len x.used) None ≡ Some at → at + len ≤ room
    by true e = fit_fits room len x.used at e
    by false e = impossible (cc)
spot_fits room len (Ended x) at e = impossible (cc)

-- the spot of an item behind others
pub spot_other : (room len each used : ℕ) → (len ≡ each → ⊥) → None ≡ spot_for room len (Taking (listed each used))
spot_other room len each used h = rw (ne_eqb len each h)

pub spot_like : (room len each used : ℕ) → len ≡ each → fit_at room len used ≡ spot_for room len (Taking (listed each used))
spot_like room len each used e = rw (eq-eqb len each e)

-- the two ways of an item
pub taken_here : (room : ℕ) (b : List ℕ) (p : Progress) (area s : List ℕ) (at len : ℕ) → len ≡ length b → spot_for room len p ≡ Some at → s ≡ laid_at at b area
    → taken room b p area ≡ (Taking (listed len (at + len)), s)
unfolding taken
taken_here room b p area s at len e h w =
    ap (λ (x : Option ℕ). taken_at x b p area) (ap (λ (n : ℕ). spot_for room n p) (sym e) ∙ h)
    ∙ ap (λ (n : ℕ). (Taking (listed n (at + n)), laid_at at b area)) (sym e) ∙ ap (λ (x : List ℕ). (Taking (listed len (at + len)), x)) (sym w)

pub taken_nowhere : (room : ℕ) (b : List ℕ) (p q : Progress) (area : List ℕ) (len : ℕ) → len ≡ length b → spot_for room len p ≡ None → q ≡ stopped p
    → taken room b p area ≡ (q, area)
unfolding taken
taken_nowhere room b p q area len e h s =
    ap (λ (x : Option ℕ). taken_at x b p area) (ap (λ (n : ℕ). spot_for room n p) (sym e) ∙ h) ∙ ap (λ (x : Progress). (x, area)) (sym s)

-- bytes over the start of an area
pub laid_over : (b area : List ℕ) → length b ≤ length area → laid b area ≡ over b area
laid_over b area h = rw (le-leb _ _ h)

-- bytes behind others: the part behind the first was lent
pub laid_two : (a b l m w : List ℕ) (p : ℕ) → p ≡ length a → length a + length b ≤ length l → m ≡ laid a l → w ≡ laid b (take (length m - p) (drop p m))
    → take p m ++ (w ++ drop (length m - p) (drop p m)) ≡ over (a ++ b) l
laid_two a b l m w p hp h hm hw =
    let o : m ≡ over a l = hm ∙ laid_over a l (omega arith) in
    let n : length m ≡ length l = ap length o ∙ over_length a l (omega arith) in
    let k : length (take (length m - p) (drop p m)) ≡ length l - p = ap length (to_the_end p m) ∙ length-drop p m ∙ ap (λ (i : ℕ). i - p) n in
    appended a b l m w p hp o (hw ∙ laid_over b (take (length m - p) (drop p m)) (omega arith))

pub laid_in : (at : ℕ) (a b area s : List ℕ) → at + length a + length b ≤ length area → s ≡ over_at at (a ++ b) area → s ≡ laid_at at (a ++ b) area
laid_in at a b area s h e =
    let k : at + length (a ++ b) ≤ length area = rw length-append (omega arith) in
    rw (le-leb _ _ k) e

pub laid_out : (at : ℕ) (a b area : List ℕ) → length area < at + length a + length b → area ≡ laid_at at (a ++ b) area
laid_out at a b area h =
    let k : length area < at + length (a ++ b) = rw length-append (omega arith) in
    rw (lt-leb _ _ k)
