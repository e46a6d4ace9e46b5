-- What soundness gives: the rules of a table and of each of its records as facts; handles rise, so no two are equal; slots stand
-- one behind the other; no fixed attribute is writable.
use Rattle.std.specs.Prelude.{ℕ, zero, suc, ◌+◌, ◌≤◌, ◌<◌, Bool, true, not, ◌≡◌, refl, List, [], ◌∷◌, length, take, get_or, eqb}
use Rattle.std.proofs.Common.{arith, not-suc-le-zero, le_of_suc-le-suc, leb-true, ltb-true, eqb-true}
use Rattle.std.proofs.lemmas.Bool.{lt-ltb}
use Rattle.codec.specs.CasesLaws.{both, join}
use Rattle.attributes.specs.Records.{Slot, Kept, Room, entries, slot_of, slot_size}
use Rattle.attributes.specs.Soundness.{count_ok, live_ok, areas_ok, handle_ok, type_ok, size_ok, inside_ok, value_ok, space_ok, start_ok, length_ok, room_of, record_ok, slots_end, records_ok, sound_table}
use Rattle.attributes.specs.declared.Place.{Place}
use Rattle.attributes.specs.declared.Place.TheVariants.{Fixed, Live}
use Rattle.attributes.specs.declared.Record.{Record}
use Rattle.attributes.specs.declared.Table.{Table}

-- the rules of a table
pub record Sound (t : Table) (fl ll : ℕ) : Type 0 where
  pub count : t.count ≤ 64
  pub most : t.live_len ≤ 32768
  pub fixed_len : fl ≡ t.fixed_len
  pub live_len : ll ≡ t.live_len
  pub records : records_ok fl ll 0 0 (entries t) ≡ true

module _ (t : Table) (fl ll : ℕ) where
  pub sound_parts : sound_table t fl ll ≡ true → Sound t fl ll
  unfolding sound_table
  sound_parts e =
      let a = both (count_ok t.count) _ e in
      let b = both (live_ok t.live_len) _ a.1 in
      let c = both (areas_ok t fl ll) _ b.1 in
      let d = both (eqb fl t.fixed_len) _ c.0 in
      record {
        count = leb-true _ _ a.0;
        most = leb-true _ _ b.0;
        fixed_len = eqb-true _ _ d.0;
        live_len = eqb-true _ _ d.1;
        records = c.1;
      }

-- the rules of a record
pub record Good (fl ll last at : ℕ) (r : Record) : Type 0 where
  pub rises : last < r.handle
  pub kind : type_ok r.kind ≡ true
  pub value : value_ok fl r.writable (room_of r.place) ≡ true
  pub space : space_ok ll at (room_of r.place) ≡ true
  pub begins : start_ok at r.place ≡ true
  pub within : length_ok r.place ≡ true

module _ (fl ll last at : ℕ) (r : Record) where
  pub good : record_ok fl ll last at r ≡ true → Good fl ll last at r
  good e =
      let a = both (handle_ok last r.handle) _ e in
      let b = both (type_ok r.kind) _ a.1 in
      let c = both (value_ok fl r.writable (room_of r.place)) _ b.1 in
      let d = both (space_ok ll at (room_of r.place)) _ c.1 in
      let f = both (start_ok at r.place) _ d.1 in
      record { rises = ltb-true last r.handle a.0; kind = b.0; value = c.0; space = d.0; begins = f.0; within = f.1 }

  pub good_ok : Good fl ll last at r → record_ok fl ll last at r ≡ true
  good_ok g = join (lt-ltb last r.handle g.rises) (join g.kind (join g.value (join g.space (join g.begins g.within))))

-- a record's slot lies inside the live area, from the end of the slots before it on
pub slot_inside : (ll at : ℕ) (p : Place) → space_ok ll at (room_of p) ≡ true → at ≤ ll → at + slot_size (slot_of p) ≤ ll
slot_inside ll at (Fixed a n) e h = omega arith
slot_inside ll at (Live a c n) e h = leb-true (at + c) ll e

-- each record that counts is above `last`
module _ (fl ll : ℕ) where
  pub rises_all : (last at n i : ℕ) (rs : List Record) (d : Record) → records_ok fl ll last at (take n rs) ≡ true → i < n → i < length rs
      → last < (get_or rs i d).handle
  rises_all last at n i [] d o p q = absurd (not-suc-le-zero q)
  rises_all last at zero i (r ∷ rs) d o p q = absurd (not-suc-le-zero p)
  rises_all last at (suc n) zero (r ∷ rs) d o p q = (good fl ll last at r (both (record_ok fl ll last at r) _ o).0).rises
  rises_all last at (suc n) (suc i) (r ∷ rs) d o p q =
      let g = both (record_ok fl ll last at r) _ o in
      omega (
        arith,
        (good fl ll last at r g.0).rises,
        rises_all r.handle (slots_end at r) n i rs d g.1 (le_of_suc-le-suc p) (le_of_suc-le-suc q),
      )

-- A fixed attribute is not writable.
abbrev pub plain : Slot → Bool → Bool
plain Kept w = not w
plain (Room c) w = true

pub plain_place : (fl : ℕ) (w : Bool) (p : Place) → value_ok fl w (room_of p) ≡ true → plain (slot_of p) w ≡ true
plain_place fl w (Fixed a n) e = (both (inside_ok fl a n) _ (both (size_ok n) _ e).1).1
plain_place fl w (Live a c n) e = refl
