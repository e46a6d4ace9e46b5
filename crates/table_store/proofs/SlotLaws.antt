-- The till's own store, at each of its tests: what it answers, and the live bytes after it.
use Rattle.std.specs.Prelude.{ℕ, ◌+◌, ◌-◌, ◌≤◌, ◌<◌, Bool, ◌≡◌, refl, List, ◌++◌, Result, Ok, Err, Option, Some, None, length, take, drop, get_or, leb}
use Rattle.std.specs.Option.{option_map_or}
use Rattle.std.proofs.Math.Bool.{true, false}
use Rattle.std.proofs.Common.{sym, ap, ◌∙◌, arith, le-leb, leb-true, length-drop, take-append-drop}
use Rattle.std.proofs.lemmas.Bool.{lt-leb, leb-false}
use Rattle.codec.specs.Buffer.{laid, laid_at}
use Rattle.codec.specs.BufferLaws.{to_the_end, lent_back, laid_at_lem, kept_at}
use Rattle.codec.specs.Cases.{pick}
use Rattle.codec.specs.CasesLaws.{impossible}
use Rattle.codec.specs.declared.Refusal.{Refusal}
use Rattle.codec.specs.declared.Refusal.TheVariants.{UnknownHandle, NotStorable, TooLong, BadTable}
use Rattle.attributes.proofs.Apart.{Ends, slots_inside}
use Rattle.attributes.proofs.SoundnessLaws.{Sound, sound_parts}
use Rattle.attributes.proofs.StoreLaws.{store_sets, store_lays, own_tests_lem}
use Rattle.attributes.specs.Additions.{blank, changed_by}
use Rattle.attributes.specs.FindLaws.{item_first, missing_in, found_below, found_handle, found_gives}
use Rattle.attributes.specs.Ledger.{Item, ledger_of}
use Rattle.attributes.specs.Records.{Slot, Kept, Room, entries, slot_of, fits, start, lengthened, find_in}
use Rattle.attributes.specs.Soundness.{sound_table}
use Rattle.attributes.specs.Stores.{relengthed, written_live, slot_refusal, store_refusal, stored, live_by, stored_live}
use Rattle.attributes.specs.declared.Place.{Place}
use Rattle.attributes.specs.declared.Place.TheVariants.{Fixed, Live}
use Rattle.attributes.specs.declared.Record.{Record}
use Rattle.attributes.specs.declared.Table.{Table}
use Rattle.table_store.specs.Slots.{numbered, slot_end, with_record, stored_as, stored_as_live}

accepted_fits : (n : ℕ) (s : Slot) → slot_refusal n s ≡ Ok tt → fits n s ≡ true
accepted_fits n Kept e = impossible (cc)
accepted_fits n (Room c) e = by (leb n c) e
  where
    by : (b : Bool) → pick {A = Result Unit Refusal} b (Ok tt) (Err TooLong) ≡ Ok tt → b ≡ true
    by true e = refl
    by false e = impossible (cc)

slot_fits : (ll n : ℕ) (p : Place) → Ends ll p → fits n (slot_of p) ≡ true → start p + n ≤ ll
slot_fits ll n (Fixed a m) k f = impossible (cc)
slot_fits ll n (Live a c m) k f = omega (arith, leb-true n c f)

ends_there : (ll : ℕ) (p : Place) → Ends ll p → slot_end p ≤ ll
ends_there ll (Fixed a n) k = omega arith
ends_there ll (Live a c n) k = k

-- A store into a record that was found, by its place.
module _ (t : Table) (i : ℕ) (r : Record) (v live : List ℕ) where
  pub as_fixed : (a n : ℕ) → r.place ≡ Fixed a n → (Err NotStorable ≡ stored_as t i r v) × (live ≡ stored_as_live r v live)
  unfolding stored_as stored_as_live
  as_fixed a n e = rw e (refl, refl)

  pub as_long : (a c n : ℕ) → r.place ≡ Live a c n → c < length v → (Err TooLong ≡ stored_as t i r v) × (live ≡ stored_as_live r v live)
  unfolding stored_as stored_as_live
  as_long a c n e h = rw (e, lt-leb (length v) c h) (refl, refl)

  pub as_done : (a c n : ℕ) → r.place ≡ Live a c n → length v ≤ c → (s : Table) (m : List ℕ) → s ≡ with_record t i (lengthened r (length v))
      → m ≡ laid_at a v live → (Ok s ≡ stored_as t i r v) × (m ≡ stored_as_live r v live)
  unfolding stored_as stored_as_live
  as_done a c n e h s m es em =
      let k : slot_refusal (length v) (slot_of r.place) ≡ Ok tt = ap (λ (p : Place). slot_refusal (length v) (slot_of p)) e ∙ rw (le-leb (length v) c h) in (
        ap (λ (x : Table). Ok x) es ∙ sym (ap (λ (o : Result Unit Refusal). changed_by o (with_record t i (lengthened r (length v)))) k),
        em ∙ sym (ap (λ (p : Place). laid_at (start p) v live) e) ∙ sym (ap (λ (o : Result Unit Refusal). live_by o (laid_at (start r.place) v live) live) k),
      )

module _ (t : Table) (h : ℕ) (v fixed live : List ℕ) where
  pub store_bad : sound_table t (length fixed) (length live) ≡ false
      → (Err BadTable ≡ stored t h v fixed live) × (live ≡ stored_live t h v fixed live)
  unfolding stored stored_live
  store_bad s = rw (own_tests_lem t h (length v) fixed live false s) (refl, refl)

  module _ (s : sound_table t (length fixed) (length live) ≡ true) where
    own_is : (o : Result Unit Refusal) → store_refusal h (length v) (ledger_of t fixed live) ≡ o
        → (changed_by o (relengthed t h (length v)) ≡ stored t h v fixed live) × (live_by o (written_live h v (entries t) live) live ≡ stored_live t h v fixed live)
    unfolding stored stored_live
    own_is o e = rw (own_tests_lem t h (length v) fixed live true s, e) (refl, refl)

    pub store_missing : find_in h (entries t) ≡ None → (Err UnknownHandle ≡ stored t h v fixed live) × (live ≡ stored_live t h v fixed live)
    store_missing e = own_is (Err UnknownHandle)
        (item_first fixed live h (λ (i : Item). slot_refusal (length v) i.slot) (Err UnknownHandle) (entries t)
        ∙ missing_in h (λ (r : Record). slot_refusal (length v) (slot_of r.place)) (Err UnknownHandle) (entries t) e)

    module _ (i : ℕ) (d : Record) (e : find_in h (entries t) ≡ Some i) (full : length t.records ≡ 64) where
      abbrev r : Record
      r = get_or t.records i d

      g : Sound t (length fixed) (length live)
      g = sound_parts t (length fixed) (length live) s

      there : i < t.count
      there = found_below h t.count i t.records d e

      within : i < length t.records
      within = omega (arith, there, g.count, full)

      inside : Ends (length live) r.place
      inside = slots_inside t (length fixed) (length live) d s full i there

      within_live : slot_end r.place ≤ length live
      within_live = ends_there (length live) r.place inside

      refusal : store_refusal h (length v) (ledger_of t fixed live) ≡ slot_refusal (length v) (slot_of r.place)
      refusal =
          item_first fixed live h (λ (j : Item). slot_refusal (length v) j.slot) (Err UnknownHandle) (entries t)
          ∙ found_gives h t.count i t.records d e (λ (q : Record). slot_refusal (length v) (slot_of q.place)) (Err UnknownHandle)

      there_is : (stored_as t i r v ≡ stored t h v fixed live) × (stored_as_live r v live ≡ stored_live t h v fixed live)
      unfolding stored_as stored_as_live
      there_is = by (slot_refusal (length v) (slot_of r.place)) refl
        where
          by : (o : Result Unit Refusal) → slot_refusal (length v) (slot_of r.place) ≡ o
              → (stored_as t i r v ≡ stored t h v fixed live) × (stored_as_live r v live ≡ stored_live t h v fixed live)
          by (Err why) k =
              let x = own_is (Err why) (refusal ∙ k) in (
                ap (λ (o : Result Unit Refusal). changed_by o (with_record t i (lengthened r (length v)))) k ∙ x.0,
                ap (λ (o : Result Unit Refusal). live_by o (laid_at (start r.place) v live) live) k ∙ x.1,
              )
          by (Ok u) k =
              let x = own_is (Ok u) (refusal ∙ k) in
              let f = accepted_fits (length v) (slot_of r.place) k in
              let b = found_handle h t.count i t.records d e in
              let sets = store_sets (length fixed) (length live) h (length v) 0 0 t.count i t.records d g.records there within b f in
              let lays = store_lays (length fixed) (length live) h v live 0 0 t.count i t.records d g.records there within b f in
              let end = slot_fits (length live) (length v) r.place inside f in (
                ap (λ (o : Result Unit Refusal). changed_by o (with_record t i (lengthened r (length v)))) k
                    ∙ ap (λ (l : List Record). Ok (record { records = l; count = t.count; fixed_len = t.fixed_len; live_len = t.live_len })) (sym sets) ∙ x.0,
                ap (λ (o : Result Unit Refusal). live_by o (laid_at (start r.place) v live) live) k ∙ laid_at_lem (start r.place) v live end ∙ sym lays ∙ x.1,
              )

    pub slot_within : (i : ℕ) → find_in h (entries t) ≡ Some i → length t.records ≡ 64 → slot_end (numbered t i).place ≤ length live
    slot_within i e full = within_live i blank e full

    pub store_there : (i : ℕ) (d : Record) (q : Result Table Refusal) (m : List ℕ) → find_in h (entries t) ≡ Some i → length t.records ≡ 64
        → q ≡ stored_as t i (get_or t.records i d) v → m ≡ stored_as_live (get_or t.records i d) v live
        → (q ≡ stored t h v fixed live) × (m ≡ stored_live t h v fixed live)
    store_there i d q m e full eq em = (eq ∙ (there_is i d e full).0, em ∙ (there_is i d e full).1)

  -- the whole of it, as the code asks for it
  whole : length t.records ≡ 64
      → (stored t h v fixed live
      ≡ pick (sound_table t (length fixed) (length live)) (option_map_or (λ (i : ℕ). stored_as t i (numbered t i) v) (find_in h (entries t)) (Err UnknownHandle)) (Err BadTable))
      × (stored_live t h v fixed live
      ≡ pick (sound_table t (length fixed) (length live)) (option_map_or (λ (i : ℕ). stored_as_live (numbered t i) v live) (find_in h (entries t)) live) live)
  whole full = by (sound_table t (length fixed) (length live)) refl (find_in h (entries t)) refl
    where
      by : (b : Bool) → sound_table t (length fixed) (length live) ≡ b → (o : Option ℕ) → find_in h (entries t) ≡ o
          → (stored t h v fixed live ≡ pick b (option_map_or (λ (i : ℕ). stored_as t i (numbered t i) v) o (Err UnknownHandle)) (Err BadTable))
          × (stored_live t h v fixed live ≡ pick b (option_map_or (λ (i : ℕ). stored_as_live (numbered t i) v live) o live) live)
      by false s o e = (sym (store_bad s).0, sym (store_bad s).1)
      by true s None e = (sym (store_missing s e).0, sym (store_missing s e).1)
      by true s (Some i) e = (sym (there_is s i blank e full).0, sym (there_is s i blank e full).1)

  pub stored_by : length t.records ≡ 64
      → stored t h v fixed live
      ≡ pick (sound_table t (length fixed) (length live)) (option_map_or (λ (i : ℕ). stored_as t i (numbered t i) v) (find_in h (entries t)) (Err UnknownHandle)) (Err BadTable)
  stored_by full = (whole full).0

  pub stored_live_by : length t.records ≡ 64
      → stored_live t h v fixed live
      ≡ pick (sound_table t (length fixed) (length live)) (option_map_or (λ (i : ℕ). stored_as_live (numbered t i) v live) (find_in h (entries t)) live) live
  stored_live_by full = (whole full).1

-- Bytes laid from a place on: a place past the end; and the part from there on, lent and come back with the bytes or without.
pub lay_outside : (at : ℕ) (v l : List ℕ) → length l < at → l ≡ laid_at at v l
lay_outside at v l h = sym (kept_at at v l (omega arith))

pub lay_back : (at : ℕ) (v l w : List ℕ) → at ≤ length l → w ≡ laid v (take (length l - at) (drop at l))
    → take at l ++ (w ++ drop (length l - at) (drop at l)) ≡ laid_at at v l
lay_back at v l w h e = by (leb (at + length v) (length l)) refl
  where
    size : length (take (length l - at) (drop at l)) ≡ length l - at
    size = ap length (to_the_end at l) ∙ length-drop at l

    by : (b : Bool) → leb (at + length v) (length l) ≡ b → take at l ++ (w ++ drop (length l - at) (drop at l)) ≡ laid_at at v l
    by true k =
        let r = leb-true (at + length v) (length l) k in
        lent_back v l w at (e ∙ rw (le-leb (length v) (length (take (length l - at) (drop at l))) (omega (arith, size)))) ∙ sym (laid_at_lem at v l r)
    by false k =
        let r = leb-false (at + length v) (length l) k in
        let same : w ≡ take (length l - at) (drop at l) = e ∙ rw (lt-leb (length v) (length (take (length l - at) (drop at l))) (omega (arith, size))) in
        rw same (rw (take-append-drop (length l - at) (drop at l), take-append-drop at l) (sym (kept_at at v l r)))
