-- The records of a table that additions made are the accepted ones, one after the other, lengths apart: an accepted addition appends its
-- record behind them, a refused one and the till's own store leave the skeleton. The book of the responder has whole histories.
use Rattle.std.specs.Prelude.{ℕ, ◌+◌, ◌≡◌, refl, List, [], ◌∷◌, ◌++◌, Result, Ok, Err, map, length}
use Rattle.std.proofs.Common.{sym, ◌∙◌, ap}
use Rattle.std.proofs.lemmas.List.{map-append}
use Rattle.codec.specs.declared.Refusal.{Refusal}
use Rattle.attributes.proofs.AdditionLaws.{add_entries, refused_add}
use Rattle.attributes.specs.Additions.{table_after, changed_by, used, fresh, add_refusal, added, joins, layout}
use Rattle.attributes.specs.ListLaws.{length_map_first}
use Rattle.attributes.specs.Records.{Slot, entries, slot_size, bare, skeleton}
use Rattle.attributes.specs.Soundness.{slots_end}
use Rattle.attributes.proofs.StoreLaws.{grown_slot, store_skeleton}
use Rattle.attributes.specs.Stores.{relength, relengthed, own_refusal, stored}
use Rattle.attributes.specs.declared.Addition.{Addition}
use Rattle.attributes.specs.declared.Record.{Record}
use Rattle.attributes.specs.declared.Room as asked
use Rattle.attributes.specs.declared.Room.TheVariants as room
use Rattle.attributes.specs.declared.Table.{Table}

-- where the slots end does not depend on the lengths
bare_used : (at : ℕ) (rs : List Record) → used at (map bare rs) ≡ used at rs
bare_used at [] = refl
bare_used at (r ∷ rs) = ap (λ (s : Slot). used (at + slot_size s) (map bare rs)) (grown_slot r.place 0) ∙ bare_used (slots_end at r) rs

-- a fresh record has length 0
bare_fresh : (at : ℕ) (a : Addition) → bare (fresh at a) ≡ fresh at a
bare_fresh at a = by a.room refl
  where
    by : (w : asked.Room) → a.room ≡ w → bare (fresh at a) ≡ fresh at a
    by (room.Fixed b n) e = rw e
    by (room.Live c) e = rw e

-- the till's own store leaves the skeleton and the array's length
module _ (t : Table) (h : ℕ) (v fixed live : List ℕ) where
  pub stored_skeleton : skeleton (table_after t (stored t h v fixed live)) ≡ skeleton t
  unfolding stored
  stored_skeleton = by (own_refusal t h (length v) fixed live)
    where
      by : (o : Result Unit Refusal) → skeleton (table_after t (changed_by o (relengthed t h (length v)))) ≡ skeleton t
      by (Ok u) = store_skeleton t h v
      by (Err why) = refl

  pub stored_full : length t.records ≡ 64 → length (table_after t (stored t h v fixed live)).records ≡ 64
  unfolding stored
  stored_full e = by (own_refusal t h (length v) fixed live)
    where
      by : (o : Result Unit Refusal) → length (table_after t (changed_by o (relengthed t h (length v)))).records ≡ 64
      by (Ok u) = length_map_first t.count (relength h (length v)) t.records ∙ e
      by (Err why) = e

-- one addition more behind those that made the records
layout_more : (at : ℕ) (adds : List Addition) (a : Addition) → layout at (adds ++ a ∷ []) ≡ layout at adds ++ fresh (used at (layout at adds)) a ∷ []
layout_more at [] a = refl
layout_more at (b ∷ adds) a = ap (λ (l : List Record). fresh at b ∷ l) (layout_more (slots_end at (fresh at b)) adds a)

-- AN ADDITION: the records of a table that additions made are those of the accepted ones, and of nothing else.
pub built_add : (t : Table) (a : Addition) (fl ll : ℕ) (adds : List Addition) → length t.records ≡ 64 → skeleton t ≡ layout 0 adds
    → (o : Result Unit Refusal) → add_refusal t a fl ll ≡ o → skeleton (table_after t (added t a fl ll)) ≡ layout 0 (joins o a adds)
built_add t a fl ll adds full made (Err why) e = ap skeleton (refused_add t a fl ll why e).1 ∙ made
built_add t a fl ll adds full made (Ok u) e =
    let at = used 0 (entries t) in
    ap (map bare) (add_entries t a full fl ll e) ∙ map-append bare (entries t) (fresh at a ∷ [])
    ∙ ap (λ (r : Record). skeleton t ++ r ∷ []) (bare_fresh at a)
    ∙ ap (λ (k : ℕ). skeleton t ++ fresh k a ∷ []) (sym (bare_used 0 (entries t)))
    ∙ ap (λ (l : List Record). l ++ fresh (used 0 l) a ∷ []) made
    ∙ sym (layout_more 0 adds a)
