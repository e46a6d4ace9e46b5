-- In a sound table no two handles are equal, and no two live slots overlap: a record that comes later has a higher handle, and its
-- slot starts where the earlier one has ended. By induction down to the earlier record, and from there on to the later one.
use Rattle.std.specs.Prelude.{ℕ, zero, suc, ◌+◌, ◌≤◌, ◌<◌, true, ◌≡◌, List, [], ◌∷◌, length, take, get_or}
use Rattle.std.proofs.Common.{arith, not-suc-le-zero, le_of_suc-le-suc, leb-true, eqb-true}
use Rattle.codec.specs.CasesLaws.{both}
use Rattle.attributes.specs.Records.{slot_of, slot_size}
use Rattle.attributes.specs.Soundness.{start_ok, space_ok, room_of, record_ok, slots_end, records_ok, sound_table}
use Rattle.attributes.proofs.SoundnessLaws.{good, sound_parts, rises_all}
use Rattle.attributes.specs.declared.Place.{Place}
use Rattle.attributes.specs.declared.Place.TheVariants.{Fixed, Live}
use Rattle.attributes.specs.declared.Record.{Record}
use Rattle.attributes.specs.declared.Table.{Table}

-- Of places, where they are live: the slot starts at `at` or later; it ends by `end`; the one slot ends before the other starts.
abbrev pub Begins : ℕ → Place → Type 0
Begins at (Fixed a n) = Unit
Begins at (Live a c n) = at ≤ a

abbrev pub Ends : ℕ → Place → Type 0
Ends end (Fixed a n) = Unit
Ends end (Live a c n) = a + c ≤ end

abbrev pub Before : Place → Place → Type 0
Before (Fixed a n) q = Unit
Before (Live a c n) q = Begins (a + c) q

begins : (at b : ℕ) (p : Place) → at ≤ b → start_ok b p ≡ true → Begins at p
begins at b (Fixed a n) h e = tt
begins at b (Live a c n) h e = omega (arith, eqb-true a b e)

ends : (ll at : ℕ) (p : Place) → start_ok at p ≡ true → space_ok ll at (room_of p) ≡ true → Ends ll p
ends ll at (Fixed a n) e s = tt
ends ll at (Live a c n) e s = omega (arith, eqb-true a at e, leb-true (at + c) ll s)

before : (at : ℕ) (p q : Place) → start_ok at p ≡ true → Begins (at + slot_size (slot_of p)) q → Before p q
before at (Fixed a n) q e k = tt
before at (Live a c n) q e k = rw (eqb-true a at e) k

module _ (fl ll : ℕ) where
  later : (b last at n j : ℕ) (rs : List Record) (d : Record) → b ≤ at → records_ok fl ll last at (take n rs) ≡ true → j < n → j < length rs
      → Begins b (get_or rs j d).place
  later b last at n j [] d h o p q = absurd (not-suc-le-zero q)
  later b last at zero j (r ∷ rs) d h o p q = absurd (not-suc-le-zero p)
  later b last at (suc n) zero (r ∷ rs) d h o p q = begins b at r.place h (good fl ll last at r (both (record_ok fl ll last at r) _ o).0).begins
  later b last at (suc n) (suc j) (r ∷ rs) d h o p q =
      later b r.handle (slots_end at r) n j rs d (omega arith) (both (record_ok fl ll last at r) _ o).1 (le_of_suc-le-suc p) (le_of_suc-le-suc q)

  inside : (last at n i : ℕ) (rs : List Record) (d : Record) → records_ok fl ll last at (take n rs) ≡ true → i < n → i < length rs
      → Ends ll (get_or rs i d).place
  inside last at n i [] d o p q = absurd (not-suc-le-zero q)
  inside last at zero i (r ∷ rs) d o p q = absurd (not-suc-le-zero p)
  inside last at (suc n) zero (r ∷ rs) d o p q =
      let g = good fl ll last at r (both (record_ok fl ll last at r) _ o).0 in
      ends ll at r.place g.begins g.space
  inside last at (suc n) (suc i) (r ∷ rs) d o p q =
      inside r.handle (slots_end at r) n i rs d (both (record_ok fl ll last at r) _ o).1 (le_of_suc-le-suc p) (le_of_suc-le-suc q)

  apart : (last at n i j : ℕ) (rs : List Record) (d : Record) → records_ok fl ll last at (take n rs) ≡ true → i < j → j < n → j < length rs
      → ((get_or rs i d).handle < (get_or rs j d).handle) × Before (get_or rs i d).place (get_or rs j d).place
  apart last at n i j [] d o h p q = absurd (not-suc-le-zero q)
  apart last at zero i j (r ∷ rs) d o h p q = absurd (not-suc-le-zero p)
  apart last at (suc n) i zero (r ∷ rs) d o h p q = absurd (not-suc-le-zero h)
  apart last at (suc n) zero (suc j) (r ∷ rs) d o h p q =
      let g = both (record_ok fl ll last at r) _ o in (
        rises_all fl ll r.handle (slots_end at r) n j rs d g.1 (le_of_suc-le-suc p) (le_of_suc-le-suc q),
        before at r.place (get_or rs j d).place (good fl ll last at r g.0).begins
            (later (slots_end at r) r.handle (slots_end at r) n j rs d (omega arith) g.1 (le_of_suc-le-suc p) (le_of_suc-le-suc q)),
      )
  apart last at (suc n) (suc i) (suc j) (r ∷ rs) d o h p q =
      apart r.handle (slots_end at r) n i j rs d (both (record_ok fl ll last at r) _ o).1 (le_of_suc-le-suc h) (le_of_suc-le-suc p) (le_of_suc-le-suc q)

-- For the records of a sound table, whose array has 64 places.
module _ (t : Table) (fl ll : ℕ) (d : Record) (s : sound_table t fl ll ≡ true) (full : length t.records ≡ 64) where
  pub handles_rise : (i j : ℕ) → i < j → j < t.count → (get_or t.records i d).handle < (get_or t.records j d).handle
  handles_rise i j h k =
      let g = sound_parts t fl ll s in
      (apart fl ll 0 0 t.count i j t.records d g.records h k (omega (arith, g.count, full))).0

  pub slots_apart : (i j : ℕ) → i < j → j < t.count → Before (get_or t.records i d).place (get_or t.records j d).place
  slots_apart i j h k =
      let g = sound_parts t fl ll s in
      (apart fl ll 0 0 t.count i j t.records d g.records h k (omega (arith, g.count, full))).1

  pub slots_inside : (i : ℕ) → i < t.count → Ends ll (get_or t.records i d).place
  slots_inside i k =
      let g = sound_parts t fl ll s in
      inside fl ll 0 0 t.count i t.records d g.records k (omega (arith, g.count, full))
