-- Laws of the walk: what it finds out of records that keep the rules, and of a table.
use Rattle.std.specs.Prelude.{ℕ, ◌+◌, ◌≤◌, ◌<◌, max, Bool, true, false, ◌&&◌, ◌≡◌, refl, List, [], ◌∷◌, Option, Some, None, length, drop, slice_index_or, is_some}
use Rattle.std.specs.Option.{option_and_then}
use Rattle.std.proofs.Common.{ap, arith, add-one, leb-true, drop-cons, drop_of_length-le}
use Rattle.codec.specs.Cases.{pick}
use Rattle.attributes.proofs.SoundnessLaws.{good}
use Rattle.attributes.specs.Additions.{last_handle, used}
use Rattle.attributes.specs.Records.{entries, slot_of, slot_size}
use Rattle.attributes.specs.Soundness.{count_ok, live_ok, areas_ok, space_ok, room_of, record_ok, slots_end, records_ok, sound_table}
use Rattle.attributes.specs.declared.Place.{Place}
use Rattle.attributes.specs.declared.Place.TheVariants.{Fixed, Live}
use Rattle.attributes.specs.declared.Record.{Record}
use Rattle.attributes.specs.declared.Table.{Table}
use Rattle.table_rules.specs.declared.Walked.{Walked}
use Rattle.table_rules.specs.Walks.{whole_ok, begun, behind, walk_from, walked_table}

walk_is : (fl ll : ℕ) (w : Walked) (rs : List Record)
    → walk_from fl ll w rs ≡ pick (records_ok fl ll w.last w.used rs) (Some (record { last = last_handle w.last rs; used = used w.used rs })) None
unfolding walk_from
walk_is fl ll w [] = refl
walk_is fl ll w (r ∷ rs) = by (record_ok fl ll w.last w.used r) (walk_is fl ll (record { last = r.handle; used = slots_end w.used r }) rs)
  where
    by : (b : Bool)
        → walk_from fl ll (record { last = r.handle; used = slots_end w.used r }) rs
        ≡ pick (records_ok fl ll r.handle (slots_end w.used r) rs) (Some (record { last = last_handle r.handle rs; used = used (slots_end w.used r) rs })) None
        → option_and_then (λ (x : Walked). walk_from fl ll x rs) (pick b (Some (record { last = r.handle; used = slots_end w.used r })) None)
        ≡ pick (b && records_ok fl ll r.handle (slots_end w.used r) rs) (Some (record { last = last_handle r.handle rs; used = used (slots_end w.used r) rs })) None
    by true e = e
    by false e = refl

-- A walk goes on with a record that keeps the rules behind; one that breaks them ends it, and so does the end of the records.
pub walk_stops : (fl ll : ℕ) (w : Walked) (rs : List Record) (i : ℕ) (d : Record) → i < length rs → behind fl ll w (slice_index_or rs i d) ≡ None
    → walk_from fl ll w (drop i rs) ≡ None
unfolding walk_from
walk_stops fl ll w rs i d p e = rw (drop-cons rs i d p, e)

pub walk_goes : (fl ll : ℕ) (w x : Walked) (rs : List Record) (i : ℕ) (d : Record) → i < length rs → behind fl ll w (slice_index_or rs i d) ≡ Some x
    → walk_from fl ll w (drop i rs) ≡ walk_from fl ll x (drop (i + 1) rs)
unfolding walk_from
walk_goes fl ll w x rs i d p e = rw (drop-cons rs i d p, add-one i, e)

pub walk_ends : (fl ll : ℕ) (w : Walked) (rs : List Record) (i : ℕ) → length rs ≤ i → walk_from fl ll w (drop i rs) ≡ Some w
unfolding walk_from
walk_ends fl ll w rs i p = rw (drop_of_length-le rs p)

pub slot_within : (fl ll last at s : ℕ) (r : Record) → record_ok fl ll last at r ≡ true → s ≡ slot_size (slot_of r.place) → at + s ≤ max at ll
slot_within fl ll last at s r e f = by r.place refl
  where
    by : (p : Place) → r.place ≡ p → at + s ≤ max at ll
    by (Fixed a n) q = omega (arith, f, ap (λ (x : Place). slot_size (slot_of x)) q)
    by (Live a c n) q =
        let k : space_ok ll at (room_of (Live a c n)) ≡ true = rw q at (good fl ll last at r e).space in
        omega (arith, f, ap (λ (x : Place). slot_size (slot_of x)) q, leb-true (at + c) ll k)

-- over a table that keeps the rules of the whole, the walk over the records tells all; and it tells whether the table is sound
pub walked_by : (t : Table) (fl ll : ℕ) → walked_table t fl ll ≡ pick (whole_ok t fl ll) (walk_from fl ll begun (entries t)) None
unfolding walked_table sound_table
walked_by t fl ll = rw (walk_is fl ll begun (entries t)) (by (Some (record { last = last_handle 0 (entries t); used = used 0 (entries t) })) (count_ok t.count) (live_ok t.live_len) (areas_ok t fl ll) (records_ok fl ll 0 0 (entries t)))
  where
    by : (w : Option Walked) (a b c d : Bool) → pick (a && (b && (c && d))) w None ≡ pick (a && (b && c)) (pick d w None) None
    by w true true true d = refl
    by w true true false d = refl
    by w true false c d = refl
    by w false b c d = refl

pub walked_sound : (t : Table) (fl ll : ℕ) → is_some (walked_table t fl ll) ≡ sound_table t fl ll
unfolding walked_table
walked_sound t fl ll = by (record { last = last_handle 0 (entries t); used = used 0 (entries t) }) (sound_table t fl ll)
  where
    by : (w : Walked) (b : Bool) → is_some (pick b (Some w) None) ≡ b
    by w true = refl
    by w false = refl

-- what a walk says of a table that is not sound, of one that is, and of one whose records tell whether it is
pub walked_none : (t : Table) (fl ll : ℕ) → sound_table t fl ll ≡ false → walked_table t fl ll ≡ None
unfolding walked_table
walked_none t fl ll e = rw e

pub walked_is : (t : Table) (fl ll : ℕ) → sound_table t fl ll ≡ true
    → walked_table t fl ll ≡ Some (record { last = last_handle 0 (entries t); used = used 0 (entries t) })
unfolding walked_table
walked_is t fl ll e = rw e

pub walked_all : (t : Table) (fl ll : ℕ) → records_ok fl ll 0 0 (entries t) ≡ sound_table t fl ll → walk_from fl ll begun (entries t) ≡ walked_table t fl ll
unfolding walked_table
walked_all t fl ll e = rw (walk_is fl ll begun (entries t), e)
