-- What an addition does: an accepted one appends its record, keeps the table sound, and appends its attribute to the ledger.
use Rattle.std.specs.Prelude.{ℕ, ◌+◌, ◌<◌, Bool, false, ◌≡◌, List, [], ◌∷◌, ◌++◌, Result, Ok, Err, map}
use Rattle.std.proofs.Math.Bool.{true}
use Rattle.std.proofs.Math.Path.{refl}
use Rattle.std.proofs.Common.{◌∙◌, ap, arith, add-one, length-set, take-suc-set, ltb-true, le-leb, eq-eqb}
use Rattle.std.proofs.lemmas.List.{map-append}
use Rattle.std.proofs.Math.ListN.{length}
use Rattle.codec.specs.Cases.{pick}
use Rattle.codec.specs.CasesLaws.{impossible, both, join}
use Rattle.codec.specs.declared.Refusal.{Refusal}
use Rattle.codec.specs.declared.Refusal.TheVariants.{BadTable}
use Rattle.attributes.specs.Additions.{tested, changed_by, table_after, left_by, empty_table, new_refusal, new_table, last_handle, used, fresh_place, fresh, add_tests, add_refusal, appended, added, fresh_item}
use Rattle.attributes.specs.Lists.{Each}
use Rattle.attributes.specs.Ledger.{Item, item, ledger_of}
use Rattle.attributes.specs.Records.{entries}
use Rattle.attributes.specs.Soundness.{count_ok, live_ok, areas_ok, handle_ok, type_ok, value_ok, space_ok, start_ok, length_ok, room_of, record_ok, slots_end, records_ok, sound_table}
use Rattle.attributes.proofs.SoundnessLaws.{Good, good_ok}
use Rattle.attributes.specs.declared.Addition.{Addition}
use Rattle.attributes.specs.declared.Record.{Record}
use Rattle.attributes.specs.declared.Room as asked
use Rattle.attributes.specs.declared.Room.TheVariants as room
use Rattle.attributes.specs.declared.Table.{Table}

-- a row of tests that is accepted has passed each of them
abbrev pub Passes : List (Bool × Refusal) → Type 0
Passes tests = Each (λ (test : Bool × Refusal). test.0 ≡ true) tests

pub each_passed : (tests : List (Bool × Refusal)) → tested tests ≡ Ok tt → Passes tests
each_passed [] e = tt
each_passed (test ∷ tests) e = by test.0 e (each_passed tests)
  where
    by : (b : Bool) → pick b (tested tests) (Err test.1) ≡ Ok tt → (tested tests ≡ Ok tt → Passes tests) → (b ≡ true) × Passes tests
    by true e f = (refl, f e)
    by false e f = impossible (cc)

-- what an accepted addition has passed
pub record Passed (t : Table) (a : Addition) (fl ll : ℕ) : Type 0 where
  pub sound : sound_table t fl ll ≡ true
  pub free : t.count < 64
  pub handle : handle_ok (last_handle 0 (entries t)) a.handle ≡ true
  pub kind : type_ok a.kind ≡ true
  pub value : value_ok fl a.writable a.room ≡ true
  pub space : space_ok ll (used 0 (entries t)) a.room ≡ true

pub passed : (t : Table) (a : Addition) (fl ll : ℕ) → add_refusal t a fl ll ≡ Ok tt → Passed t a fl ll
unfolding add_refusal
passed t a fl ll e =
    let p = each_passed (add_tests t a fl ll) e in
    record {
      sound = p.0;
      free = ltb-true t.count 64 p.1.0;
      handle = p.1.1.0;
      kind = p.1.1.1.0;
      value = p.1.1.1.1.0;
      space = p.1.1.1.1.1.0;
    }

-- the record that it makes meets the rules
fresh_room : (at : ℕ) (w : asked.Room) → room_of (fresh_place at w) ≡ w
fresh_room at (room.Fixed a n) = refl
fresh_room at (room.Live c) = refl

fresh_start : (at : ℕ) (w : asked.Room) → start_ok at (fresh_place at w) ≡ true
fresh_start at (room.Fixed a n) = refl
fresh_start at (room.Live c) = eq-eqb at at refl

fresh_length : (at : ℕ) (w : asked.Room) → length_ok (fresh_place at w) ≡ true
fresh_length at (room.Fixed a n) = refl
fresh_length at (room.Live c) = le-leb 0 c (omega arith)

fresh_good : (t : Table) (a : Addition) (fl ll : ℕ) → Passed t a fl ll
    → Good fl ll (last_handle 0 (entries t)) (used 0 (entries t)) (fresh (used 0 (entries t)) a)
fresh_good t a fl ll p = record {
  rises = ltb-true (last_handle 0 (entries t)) a.handle p.handle;
  kind = p.kind;
  value = rw (fresh_room (used 0 (entries t)) a.room) p.value;
  space = rw (fresh_room (used 0 (entries t)) a.room) p.space;
  begins = fresh_start (used 0 (entries t)) a.room;
  within = fresh_length (used 0 (entries t)) a.room;
}

-- records, and one behind them
records_more : (fl ll last at : ℕ) (rs : List Record) (r : Record) → records_ok fl ll last at rs ≡ true
    → record_ok fl ll (last_handle last rs) (used at rs) r ≡ true → records_ok fl ll last at (rs ++ r ∷ []) ≡ true
records_more fl ll last at [] r e f = join f refl
records_more fl ll last at (q ∷ rs) r e f =
    let g = both (record_ok fl ll last at q) _ e in
    join g.0 (records_more fl ll q.handle (slots_end at q) rs r g.1 f)

pub appended_entries : (t : Table) (r : Record) → t.count < length t.records → entries (appended t r) ≡ entries t ++ r ∷ []
appended_entries t r h = rw (add-one t.count) (take-suc-set t.records t.count r h)

-- Tables. A table's array has 64 places; here that is a side condition.
module _ (t : Table) (a : Addition) (full : length t.records ≡ 64) where
  module _ (fl ll : ℕ) (e : add_refusal t a fl ll ≡ Ok tt) where
    pub added_is : added t a fl ll ≡ Ok (appended t (fresh (used 0 (entries t)) a))
    unfolding added
    added_is = rw e

    pub add_entries : entries (table_after t (added t a fl ll)) ≡ entries t ++ fresh (used 0 (entries t)) a ∷ []
    add_entries =
        ap (λ (x : Result Table Refusal). entries (table_after t x)) added_is
        ∙ appended_entries t (fresh (used 0 (entries t)) a) (omega (arith, (passed t a fl ll e).free, full))

    pub accepted_sound : sound_table (table_after t (added t a fl ll)) fl ll ≡ true
    unfolding sound_table
    accepted_sound =
        let p = passed t a fl ll e in
        let at = used 0 (entries t) in
        let b = both (count_ok t.count) _ p.sound in
        let c = both (live_ok t.live_len) _ b.1 in
        let d = both (areas_ok t fl ll) _ c.1 in
        rw (added_is, appended_entries t (fresh at a) (omega (arith, p.free, full)))
        (join (le-leb (t.count + 1) 64 (omega (arith, p.free))) (join c.0 (join d.0
        (records_more fl ll 0 0 (entries t) (fresh at a) d.1
        (good_ok fl ll (last_handle 0 (entries t)) at (fresh at a) (fresh_good t a fl ll p))))))

  -- an addition keeps soundness, accepted or not, and the array's length
  pub add_sound : (fl ll : ℕ) → sound_table t fl ll ≡ true → sound_table (table_after t (added t a fl ll)) fl ll ≡ true
  unfolding added
  add_sound fl ll s = by (add_refusal t a fl ll) refl
    where
      by : (o : Result Unit Refusal) → add_refusal t a fl ll ≡ o → sound_table (table_after t (added t a fl ll)) fl ll ≡ true
      by (Ok u) e = accepted_sound fl ll e
      by (Err why) e = rw e s

  pub add_full : (fl ll : ℕ) → length (table_after t (added t a fl ll)).records ≡ 64
  unfolding added
  add_full fl ll = by (add_refusal t a fl ll) refl
    where
      by : (o : Result Unit Refusal) → add_refusal t a fl ll ≡ o → length (table_after t (added t a fl ll)).records ≡ 64
      by (Ok u) e = rw e (length-set t.records t.count (fresh (used 0 (entries t)) a) ∙ full)
      by (Err why) e = rw e full

  pub add_ledger : (fixed live : List ℕ) → add_refusal t a (length fixed) (length live) ≡ Ok tt
      → ledger_of (table_after t (added t a (length fixed) (length live))) fixed live ≡ ledger_of t fixed live ++ fresh_item fixed a ∷ []
  add_ledger fixed live e =
      let at = used 0 (entries t) in
      ap (map (item fixed live)) (add_entries (length fixed) (length live) e)
      ∙ map-append (item fixed live) (entries t) (fresh at a ∷ [])
      ∙ ap (λ (i : Item). ledger_of t fixed live ++ i ∷ []) (fresh_item_lem at a.room refl)
    where
      fresh_item_lem : (at : ℕ) (w : asked.Room) → a.room ≡ w → item fixed live (fresh at a) ≡ fresh_item fixed a
      fresh_item_lem at (room.Fixed b n) q = rw q
      fresh_item_lem at (room.Live c) q = rw q

-- a refused addition answers its refusal, and changes nothing
pub refused_add : (t : Table) (a : Addition) (fl ll : ℕ) (why : Refusal) → add_refusal t a fl ll ≡ Err why
    → (added t a fl ll ≡ Err why) × (table_after t (added t a fl ll) ≡ t)
unfolding added
refused_add t a fl ll why e = rw e (refl, refl)

-- what a call leaves its caller is what its tests say
pub left_after : (o : Result Unit Refusal) (next t : Table) → table_after t (changed_by o next) ≡ left_by o next t
left_after (Ok u) next t = refl
left_after (Err why) next t = refl

-- A new table is sound for the areas that it was made for, and has no record.
pub new_sound : (fl ll : ℕ) → new_refusal ll ≡ Ok tt → (new_table fl ll ≡ Ok (empty_table fl ll)) × (sound_table (empty_table fl ll) fl ll ≡ true)
unfolding new_table sound_table
new_sound fl ll e = rw e (refl, join (each_passed ((live_ok ll, BadTable) ∷ []) e).0 (join (join (eq-eqb fl fl refl) (eq-eqb ll ll refl)) refl))
