-- What a store does to a sound table. This is the only file that knows addresses: above it a store is a map over the ledger.
--
-- By induction over the records, with the handle and the end of the slots so far. A store among later records leaves what stands
-- before them (`front`); the record that takes the store shows the value (`stored_value`); records behind it see the bytes behind
-- it, which stay (`rest`).
use Rattle.std.specs.Prelude.{ℕ, zero, suc, ◌+◌, ◌≤◌, ◌<◌, Bool, false, ◌≡◌, refl, List, [], ◌∷◌, Result, Ok, Err, map, length, take, drop, get_or, set, eqb}
use Rattle.std.proofs.Math.Bool.{true}
use Rattle.std.proofs.Math.Path.{sym}
use Rattle.std.proofs.Common.{◌∙◌, ap, ap₂, arith, not-suc-le-zero, le_of_suc-le-suc, leb-true, eqb-true, ne_eqb, eq-eqb}
use Rattle.std.proofs.lemmas.Simd.{map-map}
use Rattle.codec.specs.Buffer.{over_at}
use Rattle.codec.specs.Cases.{pick}
use Rattle.codec.specs.CasesLaws.{impossible, both, join}
use Rattle.codec.specs.declared.Refusal.{Refusal}
use Rattle.codec.specs.declared.Refusal.TheVariants.{UnknownHandle, NotStorable, TooLong, BadTable}
use Rattle.attributes.specs.Additions.{tested, changed_by, table_after}
use Rattle.attributes.specs.Ledger.{Item, holding, item, ledger_of, valued}
use Rattle.attributes.specs.ListLaws.{map_as, take_map_first, over_at_length, over_at_there, over_at_before, over_at_behind, part_of_front, part_of_back}
use Rattle.attributes.specs.Records.{Slot, Kept, Room, entries, value_of, slot_of, slot_size, fits, is_room, start, grown, lengthened, bare, skeleton}
use Rattle.attributes.specs.Soundness.{count_ok, live_ok, areas_ok, space_ok, start_ok, length_ok, room_of, record_ok, slots_end, records_ok, sound_table}
use Rattle.attributes.proofs.SoundnessLaws.{Good, good, good_ok, sound_parts, rises_all}
use Rattle.attributes.specs.Stores.{present, storable, roomy, store_tests, takes, relength, map_first, relengthed, written_live, put, slot_refusal, store_refusal, own_refusal, stored, live_by, stored_live}
use Rattle.attributes.specs.declared.Place.{Place}
use Rattle.attributes.specs.declared.Place.TheVariants.{Fixed, Live}
use Rattle.attributes.specs.declared.Record.{Record}
use Rattle.attributes.specs.declared.Table.{Table}

-- Places: what another length changes, and where a store goes.
pub grown_slot : (p : Place) (n : ℕ) → slot_of (grown p n) ≡ slot_of p
grown_slot (Fixed a m) n = refl
grown_slot (Live a c m) n = refl

grown_room : (p : Place) (n : ℕ) → room_of (grown p n) ≡ room_of p
grown_room (Fixed a m) n = refl
grown_room (Live a c m) n = refl

grown_start : (at : ℕ) (p : Place) (n : ℕ) → start_ok at (grown p n) ≡ start_ok at p
grown_start at (Fixed a m) n = refl
grown_start at (Live a c m) n = refl

grown_length : (p : Place) (n : ℕ) → fits n (slot_of p) ≡ true → length_ok (grown p n) ≡ true
grown_length (Fixed a m) n e = refl
grown_length (Live a c m) n e = e

grown_again : (p : Place) (n m : ℕ) → grown (grown p n) m ≡ grown p m
grown_again (Fixed a k) n m = refl
grown_again (Live a c k) n m = refl

module _ (ll at : ℕ) where
  inside : (p : Place) (n : ℕ) → space_ok ll at (room_of p) ≡ true → start_ok at p ≡ true → fits n (slot_of p) ≡ true
      → (start p ≡ at) × (at + n ≤ at + slot_size (slot_of p)) × (at + slot_size (slot_of p) ≤ ll)
  inside (Fixed a m) n s b f = impossible (cc)
  inside (Live a c m) n s b f = (eqb-true a at b, omega (arith, leb-true n c f), leb-true (at + c) ll s)

  -- a value looks at its own slot alone
  same_front : (p : Place) (fixed l k : List ℕ) → start_ok at p ≡ true → length_ok p ≡ true
      → take (at + slot_size (slot_of p)) l ≡ take (at + slot_size (slot_of p)) k → value_of p fixed l ≡ value_of p fixed k
  same_front (Fixed a m) fixed l k b w h = refl
  same_front (Live a c m) fixed l k b w h = part_of_front a m (at + c) l k (omega (arith, leb-true m c w, eqb-true a at b)) h

  same_back : (p : Place) (fixed l k : List ℕ) → start_ok at p ≡ true → drop at l ≡ drop at k → value_of p fixed l ≡ value_of p fixed k
  same_back (Fixed a m) fixed l k b h = refl
  same_back (Live a c m) fixed l k b h = ap (take m) (part_of_back a at l k (omega (arith, eqb-true a at b)) h)

stored_value : (p : Place) (fixed live v : List ℕ) → fits (length v) (slot_of p) ≡ true → start p + length v ≤ length live
    → value_of (grown p (length v)) fixed (over_at (start p) v live) ≡ v
stored_value (Fixed a m) fixed live v f h = impossible (cc)
stored_value (Live a c m) fixed live v f h = over_at_there a v live h

-- Records.
abbrev here : ℕ → ℕ → Record → Bool
here h n r = takes h n r.handle (slot_of r.place)

relength_ok : (fl ll last at : ℕ) (r : Record) (h n : ℕ) (b : Bool) → here h n r ≡ b → record_ok fl ll last at r ≡ true
    → record_ok fl ll last at (pick b (lengthened r n) r) ≡ true
relength_ok fl ll last at r h n false t e = e
relength_ok fl ll last at r h n true t e =
    let g = good fl ll last at r e in
    good_ok fl ll last at (lengthened r n) (record {
      rises = g.rises;
      kind = g.kind;
      value = rw (grown_room r.place n) g.value;
      space = rw (grown_room r.place n) g.space;
      begins = grown_start at r.place n ∙ g.begins;
      within = grown_length r.place n (both (eqb r.handle h) _ t).1;
    })

same_end : (at n : ℕ) (r : Record) (b : Bool) → slots_end at (pick b (lengthened r n) r) ≡ slots_end at r
same_end at n r true = rw (grown_slot r.place n)
same_end at n r false = refl

same_handle : (n : ℕ) (r : Record) (b : Bool) → (pick b (lengthened r n) r).handle ≡ r.handle
same_handle n r true = refl
same_handle n r false = refl

relengths_ok : (fl ll h n last at : ℕ) (rs : List Record) → records_ok fl ll last at rs ≡ true → records_ok fl ll last at (map (relength h n) rs) ≡ true
relengths_ok fl ll h n last at [] e = refl
relengths_ok fl ll h n last at (r ∷ rs) e =
    let g = both (record_ok fl ll last at r) _ e in
    join (relength_ok fl ll last at r h n (here h n r) refl g.0)
    (rw (same_handle n r (here h n r), same_end at n r (here h n r)) (relengths_ok fl ll h n r.handle (slots_end at r) rs g.1))

-- The live bytes after a store.
module _ (h : ℕ) (v : List ℕ) (fl ll : ℕ) where
  -- a store among later records leaves what stands before them, and the length
  front_by : (last at p : ℕ) (live next : List ℕ) (r : Record) (b : Bool) → here h (length v) r ≡ b → Good fl ll last at r → length live ≡ ll → p ≤ at
      → take p next ≡ take p live → take p (pick b (over_at (start r.place) v live) next) ≡ take p live
  front_by last at p live next r false t g e q k = k
  front_by last at p live next r true t g e q k =
      let i = inside ll at r.place (length v) g.space g.begins (both (eqb r.handle h) _ t).1 in
      over_at_before (start r.place) v live (omega arith) p (omega arith)

  front : (last at p : ℕ) (live : List ℕ) (rs : List Record) → records_ok fl ll last at rs ≡ true → length live ≡ ll → p ≤ at
      → take p (written_live h v rs live) ≡ take p live
  front last at p live [] e q k = refl
  front last at p live (r ∷ rs) e q k =
      let g = both (record_ok fl ll last at r) _ e in
      front_by last at p live (written_live h v rs live) r (here h (length v) r) refl (good fl ll last at r g.0) q k
      (front r.handle (slots_end at r) p live rs g.1 q (omega arith))

  length_by : (last at : ℕ) (live next : List ℕ) (r : Record) (b : Bool) → here h (length v) r ≡ b → Good fl ll last at r → length live ≡ ll
      → length next ≡ ll → length (pick b (over_at (start r.place) v live) next) ≡ ll
  length_by last at live next r false t g e k = k
  length_by last at live next r true t g e k =
      let i = inside ll at r.place (length v) g.space g.begins (both (eqb r.handle h) _ t).1 in
      over_at_length (start r.place) v live (omega arith) ∙ e

  written_length : (last at : ℕ) (live : List ℕ) (rs : List Record) → records_ok fl ll last at rs ≡ true → length live ≡ ll
      → length (written_live h v rs live) ≡ ll
  written_length last at live [] e q = q
  written_length last at live (r ∷ rs) e q =
      let g = both (record_ok fl ll last at r) _ e in
      length_by last at live (written_live h v rs live) r (here h (length v) r) refl (good fl ll last at r g.0) q
      (written_length r.handle (slots_end at r) live rs g.1 q)

  -- The ledger after a store. First: records behind the one that took it.
  module _ (fixed : List ℕ) where
    rest : (last at : ℕ) (live next : List ℕ) (rs : List Record) → records_ok fl ll last at rs ≡ true → h ≤ last → drop at next ≡ drop at live
        → map (item fixed next) (map (relength h (length v)) rs) ≡ map (put h v) (map (item fixed live) rs)
    rest last at live next [] e k d = refl
    rest last at live next (r ∷ rs) e k d =
        let g = both (record_ok fl ll last at r) _ e in
        let q = good fl ll last at r g.0 in
        let other : eqb r.handle h ≡ false = ne_eqb r.handle h (λ x. omega (arith, x, q.rises)) in
        rw other
        (ap₂ (λ (x : Item) (l : List Item). x ∷ l) (ap (holding r) (same_back ll at r.place fixed next live q.begins d))
        (rest r.handle (slots_end at r) live next rs g.1 (omega (arith, q.rises)) (part_of_back (slots_end at r) at next live (omega arith) d)))

    ledger_by : (last at : ℕ) (live next : List ℕ) (r : Record) (rs : List Record) (b : Bool) → here h (length v) r ≡ b → Good fl ll last at r
        → records_ok fl ll r.handle (slots_end at r) rs ≡ true → length live ≡ ll → take (slots_end at r) next ≡ take (slots_end at r) live
        → map (item fixed next) (map (relength h (length v)) rs) ≡ map (put h v) (map (item fixed live) rs)
        → ◌≡◌ {A = List Item}
        (item fixed (pick b (over_at (start r.place) v live) next) (pick b (lengthened r (length v)) r)
        ∷ map (item fixed (pick b (over_at (start r.place) v live) next)) (map (relength h (length v)) rs))
        (pick b (valued (item fixed live r) v) (item fixed live r) ∷ map (put h v) (map (item fixed live) rs))
    ledger_by last at live next r rs false t g e q f k =
        ap₂ (λ (x : Item) (l : List Item). x ∷ l) (ap (holding r) (same_front ll at r.place fixed next live g.begins g.within f)) k
    ledger_by last at live next r rs true t g e q f k =
        let y = both (eqb r.handle h) _ t in
        let i = inside ll at r.place (length v) g.space g.begins y.1 in
        let ok : start r.place + length v ≤ length live = omega arith in
        ap₂ (λ (x : Item) (l : List Item). x ∷ l)
        (rw (stored_value r.place fixed live v y.1 ok, grown_slot r.place (length v)))
        (rest r.handle (slots_end at r) live (over_at (start r.place) v live) rs e (omega (arith, eqb-true r.handle h y.0))
        (over_at_behind (start r.place) v live ok (slots_end at r) (omega arith)))

    ledger_written : (last at : ℕ) (live : List ℕ) (rs : List Record) → records_ok fl ll last at rs ≡ true → length live ≡ ll
        → map (item fixed (written_live h v rs live)) (map (relength h (length v)) rs) ≡ map (put h v) (map (item fixed live) rs)
    ledger_written last at live [] e q = refl
    ledger_written last at live (r ∷ rs) e q =
        let g = both (record_ok fl ll last at r) _ e in
        ledger_by last at live (written_live h v rs live) r rs (here h (length v) r) refl (good fl ll last at r g.0) g.1 q
        (front r.handle (slots_end at r) (slots_end at r) live rs g.1 q (omega arith))
        (ledger_written r.handle (slots_end at r) live rs g.1 q)

-- Tables: what a store does to the ledger, that it keeps the table sound and the live area's length, and that it changes the
-- records in nothing but a length.
module _ (t : Table) (h : ℕ) (v : List ℕ) where
  pub stored_entries : entries (relengthed t h (length v)) ≡ map (relength h (length v)) (entries t)
  stored_entries = take_map_first t.count (relength h (length v)) t.records

  module _ (fixed live : List ℕ) (s : sound_table t (length fixed) (length live) ≡ true) where
    pub store_ledger : ledger_of (relengthed t h (length v)) fixed (written_live h v (entries t) live) ≡ map (put h v) (ledger_of t fixed live)
    store_ledger =
        rw stored_entries
        (ledger_written h v (length fixed) (length live) fixed 0 0 live (entries t) (sound_parts t (length fixed) (length live) s).records refl)

    pub store_length : length (written_live h v (entries t) live) ≡ length live
    store_length = written_length h v (length fixed) (length live) 0 0 live (entries t) (sound_parts t (length fixed) (length live) s).records refl

    pub store_sound : sound_table (relengthed t h (length v)) (length fixed) (length (written_live h v (entries t) live)) ≡ true
    unfolding sound_table
    store_sound =
        let a = both (count_ok t.count) _ s in
        let b = both (live_ok t.live_len) _ a.1 in
        let c = both (areas_ok t (length fixed) (length live)) _ b.1 in
        rw (stored_entries, store_length)
        (join a.0 (join b.0 (join c.0 (relengths_ok (length fixed) (length live) h (length v) 0 0 (entries t) c.1))))

  pub store_skeleton : skeleton (relengthed t h (length v)) ≡ skeleton t
  store_skeleton =
      rw stored_entries
      (map-map bare (relength h (length v)) (entries t) ∙ map_as _ bare (entries t) (λ r. bare_by r (here h (length v) r)))
    where
      bare_by : (r : Record) (b : Bool) → bare (pick b (lengthened r (length v)) r) ≡ bare r
      bare_by r false = refl
      bare_by r true = rw (grown_again r.place (length v) 0)

-- For code that finds the number of a record and sets that record: in a sound table this is the store.
module _ (fl ll : ℕ) where
  module _ (h m : ℕ) where
    none : (last at n : ℕ) (rs : List Record) → records_ok fl ll last at (take n rs) ≡ true → h ≤ last → map_first n (relength h m) rs ≡ rs
    none last at zero rs o p = refl
    none last at (suc n) [] o p = refl
    none last at (suc n) (r ∷ rs) o p =
        let g = both (record_ok fl ll last at r) _ o in
        let up = (good fl ll last at r g.0).rises in
        rw (ne_eqb r.handle h (λ z. omega (arith, z, up))) (ap (λ l. r ∷ l) (none r.handle (slots_end at r) n rs g.1 (omega (arith, up))))

    unwritten : (v live : List ℕ) (last at : ℕ) (rs : List Record) → records_ok fl ll last at rs ≡ true → h ≤ last → written_live h v rs live ≡ live
    unwritten v live last at [] o p = refl
    unwritten v live last at (r ∷ rs) o p =
        let g = both (record_ok fl ll last at r) _ o in
        let up = (good fl ll last at r g.0).rises in
        rw (ne_eqb r.handle h (λ z. omega (arith, z, up))) (unwritten v live r.handle (slots_end at r) rs g.1 (omega (arith, up)))

    pub store_sets : (last at n i : ℕ) (rs : List Record) (d : Record) → records_ok fl ll last at (take n rs) ≡ true → i < n → i < length rs
        → (get_or rs i d).handle ≡ h → fits m (slot_of (get_or rs i d).place) ≡ true → map_first n (relength h m) rs ≡ set rs i (lengthened (get_or rs i d) m)
    store_sets last at n i [] d o p q e f = absurd (not-suc-le-zero q)
    store_sets last at zero i (r ∷ rs) d o p q e f = absurd (not-suc-le-zero p)
    store_sets last at (suc n) zero (r ∷ rs) d o p q e f =
        rw (eq-eqb r.handle h e, f)
        (ap (λ l. lengthened r m ∷ l) (none r.handle (slots_end at r) n rs (both (record_ok fl ll last at r) _ o).1 (omega (arith, e))))
    store_sets last at (suc n) (suc i) (r ∷ rs) d o p q e f =
        let g = both (record_ok fl ll last at r) _ o in
        let up = rises_all fl ll r.handle (slots_end at r) n i rs d g.1 (le_of_suc-le-suc p) (le_of_suc-le-suc q) in
        rw (ne_eqb r.handle h (λ z. omega (arith, z, e, up)))
        (ap (λ l. r ∷ l) (store_sets r.handle (slots_end at r) n i rs d g.1 (le_of_suc-le-suc p) (le_of_suc-le-suc q) e f))

  pub store_lays : (h : ℕ) (v live : List ℕ) (last at n i : ℕ) (rs : List Record) (d : Record) → records_ok fl ll last at (take n rs) ≡ true → i < n
      → i < length rs → (get_or rs i d).handle ≡ h → fits (length v) (slot_of (get_or rs i d).place) ≡ true
      → written_live h v (take n rs) live ≡ over_at (start (get_or rs i d).place) v live
  store_lays h v live last at n i [] d o p q e f = absurd (not-suc-le-zero q)
  store_lays h v live last at zero i (r ∷ rs) d o p q e f = absurd (not-suc-le-zero p)
  store_lays h v live last at (suc n) zero (r ∷ rs) d o p q e f = rw (eq-eqb r.handle h e, f)
  store_lays h v live last at (suc n) (suc i) (r ∷ rs) d o p q e f =
      let g = both (record_ok fl ll last at r) _ o in
      let up = rises_all fl ll r.handle (slots_end at r) n i rs d g.1 (le_of_suc-le-suc p) (le_of_suc-le-suc q) in
      rw (ne_eqb r.handle h (λ z. omega (arith, z, e, up)))
      (store_lays h v live r.handle (slots_end at r) n i rs d g.1 (le_of_suc-le-suc p) (le_of_suc-le-suc q) e f)

  -- a store that is refused changes nothing
  module _ (h : ℕ) (v fixed live : List ℕ) (why : Refusal) where
    store_refused : (last at n : ℕ) (rs : List Record) → records_ok fl ll last at (take n rs) ≡ true
        → store_refusal h (length v) (map (item fixed live) (take n rs)) ≡ Err why
        → (map_first n (relength h (length v)) rs ≡ rs) × (written_live h v (take n rs) live ≡ live)
    store_refused last at zero rs o e = (refl, refl)
    store_refused last at (suc n) [] o e = (refl, refl)
    store_refused last at (suc n) (r ∷ rs) o e =
        let g = both (record_ok fl ll last at r) _ o in
        by (eqb r.handle h) (fits (length v) (slot_of r.place)) refl refl (store_refused r.handle (slots_end at r) n rs g.1)
        (λ p. none h (length v) r.handle (slots_end at r) n rs g.1 p) (λ p. unwritten h (length v) v live r.handle (slots_end at r) (take n rs) g.1 p)
      where
        unfit : (s : Slot) → slot_refusal (length v) s ≡ Err why → fits (length v) s ≡ true → ⊥
        unfit Kept e f = impossible (cc)
        unfit (Room c) e f = let x : ◌≡◌ {A = Result Unit Refusal} (Ok tt) (Err why) = rw f at e in impossible (cc)

        by : (b f : Bool) → eqb r.handle h ≡ b → fits (length v) (slot_of r.place) ≡ f
            → (store_refusal h (length v) (map (item fixed live) (take n rs)) ≡ Err why
            → (map_first n (relength h (length v)) rs ≡ rs) × (written_live h v (take n rs) live ≡ live))
            → (h ≤ r.handle → map_first n (relength h (length v)) rs ≡ rs) → (h ≤ r.handle → written_live h v (take n rs) live ≡ live)
            → (map_first (suc n) (relength h (length v)) (r ∷ rs) ≡ r ∷ rs) × (written_live h v (take (suc n) (r ∷ rs)) live ≡ live)
        by true true q y ih still un = absurd (unfit (slot_of r.place) (rw q at e) y)
        by true false q y ih still un =
            let below : h ≤ r.handle = omega (arith, eqb-true r.handle h q) in
            (rw (q, y) (ap (λ l. r ∷ l) (still below)), rw (q, y) (un below))
        by false f q y ih still un =
            let k = ih (rw q at e) in
            (rw q (ap (λ l. r ∷ l) k.0), rw q k.1)

-- The till's own store: its tests of handle and slot are what the slot of the attribute says.
pub store_tests_lem : (h n : ℕ) (is : List Item) → tested (store_tests h n is) ≡ store_refusal h n is
store_tests_lem h n [] = refl
store_tests_lem h n (i ∷ is) = by (eqb i.handle h) (store_tests_lem h n is)
  where
    slot : (s : Slot) → tested ((true, UnknownHandle) ∷ (is_room s, NotStorable) ∷ (fits n s, TooLong) ∷ []) ≡ slot_refusal n s
    slot Kept = refl
    slot (Room c) = refl

    by : (b : Bool) → tested (store_tests h n is) ≡ store_refusal h n is
        → tested ((pick b true (present h is), UnknownHandle) ∷ (pick b (is_room i.slot) (storable h is), NotStorable) ∷ (pick b (fits n i.slot) (roomy h n is), TooLong) ∷ [])
        ≡ pick b (slot_refusal n i.slot) (store_refusal h n is)
    by true e = slot i.slot
    by false e = e

pub own_tests_lem : (t : Table) (h n : ℕ) (fixed live : List ℕ) (b : Bool) → sound_table t (length fixed) (length live) ≡ b
    → own_refusal t h n fixed live ≡ pick b (store_refusal h n (ledger_of t fixed live)) (Err BadTable)
unfolding own_refusal
own_tests_lem t h n fixed live true e = rw e (store_tests_lem h n (ledger_of t fixed live))
own_tests_lem t h n fixed live false e = rw e

module _ (t : Table) (h : ℕ) (v fixed live : List ℕ) (s : sound_table t (length fixed) (length live) ≡ true) where
  pub refused_store : (why : Refusal) → store_refusal h (length v) (ledger_of t fixed live) ≡ Err why
      → (relengthed t h (length v) ≡ t) × (written_live h v (entries t) live ≡ live)
  refused_store why e =
      let u = store_refused (length fixed) (length live) h v fixed live why 0 0 t.count t.records (sound_parts t (length fixed) (length live) s).records e in
      (ap (λ (l : List Record). record { records = l; count = t.count; fixed_len = t.fixed_len; live_len = t.live_len }) u.0, u.1)

  -- so on a sound table the till's own store is the store, whatever it answers
  pub own_store_lem : (own_refusal t h (length v) fixed live ≡ store_refusal h (length v) (ledger_of t fixed live))
      × (table_after t (stored t h v fixed live) ≡ relengthed t h (length v)) × (stored_live t h v fixed live ≡ written_live h v (entries t) live)
  unfolding stored stored_live
  own_store_lem =
      rw (own_tests_lem t h (length v) fixed live true s)
      (refl, (by (store_refusal h (length v) (ledger_of t fixed live)) refl).0, (by (store_refusal h (length v) (ledger_of t fixed live)) refl).1)
    where
      by : (o : Result Unit Refusal) → store_refusal h (length v) (ledger_of t fixed live) ≡ o
          → (table_after t (changed_by o (relengthed t h (length v))) ≡ relengthed t h (length v)) × (live_by o (written_live h v (entries t) live) live ≡ written_live h v (entries t) live)
      by (Ok u) e = (refl, refl)
      by (Err why) e = let k = refused_store why e in (sym k.0, sym k.1)
