-- The rules, one at a time: of what was asked for, where the code subtracts and the definition adds, and of the whole table.
use Rattle.std.specs.Prelude.{ℕ, ◌+◌, ◌-◌, ◌≤◌, ◌<◌, Bool, true, false, not, ◌≡◌, refl, leb}
use Rattle.std.proofs.Common.{sym, ap, ◌∙◌, arith, le-leb, leb-true, eq-eqb, ne_eqb}
use Rattle.std.proofs.lemmas.Bool.{lt-leb, leb-false}
use Rattle.attributes.specs.Records.{entries}
use Rattle.attributes.specs.Soundness.{value_ok, space_ok, records_ok, sound_table}
use Rattle.attributes.specs.declared.Room as asked
use Rattle.attributes.specs.declared.Room.TheVariants as room
use Rattle.attributes.specs.declared.Table.{Table}

-- Rules, by what was asked for. The code subtracts where the definition adds.
module _ (fl : ℕ) (w : Bool) (q : asked.Room) where
  pub value_long : (a n : ℕ) → q ≡ room.Fixed a n → 512 < n → false ≡ value_ok fl w q
  value_long a n e h = sym (ap (value_ok fl w) e ∙ rw (lt-leb n 512 h))

  pub value_outside : (a n : ℕ) → q ≡ room.Fixed a n → n ≤ 512 → fl < a + n → false ≡ value_ok fl w q
  value_outside a n e h k = sym (ap (value_ok fl w) e ∙ rw (le-leb n 512 h, lt-leb (a + n) fl k))

  pub value_inside : (a n : ℕ) → q ≡ room.Fixed a n → n ≤ 512 → a + n ≤ fl → not w ≡ value_ok fl w q
  value_inside a n e h k = sym (ap (value_ok fl w) e ∙ rw (le-leb n 512 h, le-leb (a + n) fl k))

  pub value_live : (c : ℕ) → q ≡ room.Live c → leb c 512 ≡ value_ok fl w q
  value_live c e = sym (ap (value_ok fl w) e)

module _ (ll at : ℕ) (q : asked.Room) (c : ℕ) (e : q ≡ room.Live c) where
  pub space_none : ll < at → false ≡ space_ok ll at q
  space_none h = sym (ap (space_ok ll at) e ∙ rw (lt-leb (at + c) ll (omega arith)))

  pub space_left : at ≤ ll → leb c (ll - at) ≡ space_ok ll at q
  space_left h = by (leb c (ll - at)) refl ∙ sym (ap (space_ok ll at) e)
    where
      by : (b : Bool) → leb c (ll - at) ≡ b → leb c (ll - at) ≡ leb (at + c) ll
      by true k = k ∙ sym (le-leb (at + c) ll (omega (arith, leb-true c (ll - at) k)))
      by false k = k ∙ sym (lt-leb (at + c) ll (omega (arith, leb-false c (ll - at) k)))

-- Soundness, at each of its tests.
module _ (t : Table) (fl ll : ℕ) where
  pub unsound_count : 64 < t.count → false ≡ sound_table t fl ll
  unfolding sound_table
  unsound_count h = rw (lt-leb t.count 64 h)

  module _ (few : t.count ≤ 64) where
    pub unsound_live : 32768 < t.live_len → false ≡ sound_table t fl ll
    unfolding sound_table
    unsound_live h = rw (le-leb t.count 64 few, lt-leb t.live_len 32768 h)

    module _ (most : t.live_len ≤ 32768) where
      pub unsound_fixed_len : (fl ≡ t.fixed_len → ⊥) → false ≡ sound_table t fl ll
      unfolding sound_table
      unsound_fixed_len h = rw (le-leb t.count 64 few, le-leb t.live_len 32768 most, ne_eqb fl t.fixed_len h)

      pub unsound_live_len : fl ≡ t.fixed_len → (ll ≡ t.live_len → ⊥) → false ≡ sound_table t fl ll
      unfolding sound_table
      unsound_live_len e h = rw (le-leb t.count 64 few, le-leb t.live_len 32768 most, eq-eqb fl t.fixed_len e, ne_eqb ll t.live_len h)

      pub sound_walk : fl ≡ t.fixed_len → ll ≡ t.live_len → records_ok fl ll 0 0 (entries t) ≡ sound_table t fl ll
      unfolding sound_table
      sound_walk e f =
          rw (le-leb t.count 64 few, le-leb t.live_len 32768 most, eq-eqb fl t.fixed_len e, eq-eqb ll t.live_len f)
