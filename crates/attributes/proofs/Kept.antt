-- In any store, slot bytes behind the value stay, and so do all bytes before the slot: the store lays the value over the slot's
-- start, and by `slots_inside` the value ends within the live area.
use Rattle.std.specs.Prelude.{ℕ, ◌+◌, ◌≤◌, ◌<◌, true, ◌≡◌, List, length, take, drop, get_or}
use Rattle.std.proofs.Common.{◌∙◌, ap, arith, le-leb}
use Rattle.codec.specs.CasesLaws.{impossible}
use Rattle.codec.specs.Buffer.{over_at}
use Rattle.attributes.specs.ListLaws.{over_at_before, over_at_behind}
use Rattle.attributes.specs.Records.{entries, slot_of, fits, start}
use Rattle.attributes.specs.Soundness.{sound_table}
use Rattle.attributes.proofs.SoundnessLaws.{sound_parts}
use Rattle.attributes.proofs.StoreLaws.{store_lays}
use Rattle.attributes.specs.Stores.{written_live}
use Rattle.attributes.specs.declared.Place.{Place}
use Rattle.attributes.specs.declared.Place.TheVariants.{Fixed, Live}
use Rattle.attributes.specs.declared.Record.{Record}
use Rattle.attributes.specs.declared.Table.{Table}
use Rattle.attributes.proofs.Apart.{Ends, slots_inside}

live_end : (ll a c n : ℕ) (p : Place) → p ≡ Live a c n → Ends ll p → a + c ≤ ll
live_end ll a c n (Fixed b m) e k = impossible (cc)
live_end ll a c n (Live b d m) e k =
    let x : b ≡ a = cc in
    let y : d ≡ c = cc in
    omega (arith, x, y, k)

-- the record of the handle `h` has the number `i` and a slot of `c` bytes from `a` on
pub bytes_kept : (t : Table) (h : ℕ) (v fixed live : List ℕ) (i a c n : ℕ) (d : Record) → sound_table t (length fixed) (length live) ≡ true
    → length t.records ≡ 64 → i < t.count → (get_or t.records i d).handle ≡ h → (get_or t.records i d).place ≡ Live a c n → length v ≤ c
    → (take a (written_live h v (entries t) live) ≡ take a live) × (drop (a + length v) (written_live h v (entries t) live) ≡ drop (a + length v) live)
bytes_kept t h v fixed live i a c n d s full there e q w =
    let g = sound_parts t (length fixed) (length live) s in
    let f : fits (length v) (slot_of (get_or t.records i d).place) ≡ true = ap (λ (p : Place). fits (length v) (slot_of p)) q ∙ le-leb (length v) c w in
    let lays = store_lays (length fixed) (length live) h v live 0 0 t.count i t.records d g.records there (omega (arith, there, g.count, full)) e f in
    let laid : written_live h v (entries t) live ≡ over_at a v live = lays ∙ ap (λ (p : Place). over_at (start p) v live) q in
    let end = live_end (length live) a c n (get_or t.records i d).place q (slots_inside t (length fixed) (length live) d s full i there) in
    let ok : a + length v ≤ length live = omega (arith, end, w) in
    rw laid (over_at_before a v live ok a (omega arith), over_at_behind a v live ok (a + length v) (omega arith))
