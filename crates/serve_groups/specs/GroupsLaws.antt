-- Outlines are those of any link's views, and a group's end is found in one walk over the records.
use Rattle.std.specs.Prelude.{ℕ, suc, ◌+◌, ◌≤◌, ◌<◌, Bool, true, false, ◌≡◌, refl, List, [], ◌∷◌, map, drop, get_or, ltb}
use Rattle.std.proofs.Common.{ap, ◌∙◌, add-one, drop_of_length-le, drop-cons, lt-ltb, le-ltb}
use Rattle.std.proofs.Math.ListN.{length}
use Rattle.codec.specs.Cases.{pick}
use Rattle.ble_uuid.specs.Uuids.{own, equal_types}
use Rattle.attributes.specs.Ledger.{item}
use Rattle.attributes.specs.declared.Record.{Record}
use Rattle.answers.specs.Replies.{Outline, outlines, groups, last_of, keep, group_end}
use Rattle.answers.specs.View.{views_of}
use Rattle.serve_groups.specs.Groups.{outline}

pub outlines_are : (encrypted : Bool) (fixed live : List ℕ) (rs : List Record)
    → outlines (views_of encrypted (map (item fixed live) rs)) ≡ map outline rs
outlines_are encrypted fixed live [] = refl
outlines_are encrypted fixed live (r ∷ rs) = ap (λ (l : List Outline). outline r ∷ l) (outlines_are encrypted fixed live rs)

-- the end of the group of `h`, where `last` is the last record of it so far and these records are left
unfoldable pub end_from : ℕ → ℕ → List Record → ℕ
end_from h last [] = last
end_from h last (r ∷ rs) = pick (ltb h r.handle) (pick (groups (own r.kind)) last (end_from h r.handle rs)) (end_from h last rs)

last_of_lem : (h last : ℕ) (rs : List Record) → last_of last (keep (λ o. ltb h o.0) (map outline rs)) ≡ end_from h last rs
unfolding end_from last_of
last_of_lem h last [] = refl
last_of_lem h last (r ∷ rs) = by (ltb h r.handle) (last_of_lem h r.handle rs) (last_of_lem h last rs)
  where
    by : (b : Bool) → last_of r.handle (keep (λ o. ltb h o.0) (map outline rs)) ≡ end_from h r.handle rs
        → last_of last (keep (λ o. ltb h o.0) (map outline rs)) ≡ end_from h last rs
        → last_of last (pick b (outline r ∷ keep (λ o. ltb h o.0) (map outline rs)) (keep (λ o. ltb h o.0) (map outline rs)))
        ≡ pick b (pick (groups (own r.kind)) last (end_from h r.handle rs)) (end_from h last rs)
    by true f g = ap (λ (n : ℕ). pick (groups (own r.kind)) last n) f
    by false f g = g

pub end_is : (h : ℕ) (rs : List Record) → group_end (map outline rs) h ≡ end_from h h rs
unfolding group_end
end_is h rs = last_of_lem h h rs

-- The walk, a record at a time.
module _ (h last i : ℕ) (l : List Record) (d : Record) (p : i < length l) where
  step : end_from h last (drop i l)
      ≡ pick (ltb h (get_or l i d).handle) (pick (groups (own (get_or l i d).kind)) last (end_from h (get_or l i d).handle (drop (suc i) l))) (end_from h last (drop (suc i) l))
  unfolding end_from
  step = rw (drop-cons l i d p)

  pub end_here : h < (get_or l i d).handle → groups (own (get_or l i d).kind) ≡ true → end_from h last (drop i l) ≡ last
  end_here a b = step ∙ rw (lt-ltb _ _ a, b)

  pub end_moves : h < (get_or l i d).handle → groups (own (get_or l i d).kind) ≡ false
      → end_from h last (drop i l) ≡ end_from h (get_or l i d).handle (drop (i + 1) l)
  end_moves a b = step ∙ rw (lt-ltb _ _ a, b, add-one i)

  pub end_passes : (get_or l i d).handle ≤ h → end_from h last (drop i l) ≡ end_from h last (drop (i + 1) l)
  end_passes a = step ∙ rw (le-ltb _ _ a, add-one i)

pub end_over : (h last i : ℕ) (l : List Record) → length l ≤ i → end_from h last (drop i l) ≡ last
unfolding end_from
end_over h last i l p = rw (drop_of_length-le l p)

-- the two types that open a group, as bytes
pub groups_first : (kind : List ℕ) → equal_types kind (0x00 ∷ 0x28 ∷ []) ≡ true → true ≡ groups kind
unfolding groups
groups_first kind e = rw e

pub groups_second : (kind : List ℕ) (b : Bool) → equal_types kind (0x00 ∷ 0x28 ∷ []) ≡ false → b ≡ equal_types kind (0x01 ∷ 0x28 ∷ []) → b ≡ groups kind
unfolding groups
groups_second kind b e f = rw e f
