-- What a walk over a table's records finds out.
use Rattle.std.specs.Prelude.{ℕ, Bool, ◌&&◌, List, [], ◌∷◌, Option, Some, None}
use Rattle.std.specs.Option.{option_and_then}
use Rattle.codec.specs.Cases.{pick}
use Rattle.attributes.specs.Additions.{last_handle, used}
use Rattle.attributes.specs.Records.{entries}
use Rattle.attributes.specs.Soundness.{count_ok, live_ok, areas_ok, record_ok, slots_end, sound_table}
use Rattle.attributes.specs.declared.Record.{Record}
use Rattle.attributes.specs.declared.Table.{Table}
use Rattle.table_rules.specs.declared.Walked.{Walked}

-- the rules of the whole table, its records apart
abbrev pub whole_ok : Table → ℕ → ℕ → Bool
whole_ok t fl ll = count_ok t.count && (live_ok t.live_len && areas_ok t fl ll)

-- the last handle of a sound table, and the end of its slots
unfoldable pub walked_table : Table → ℕ → ℕ → Option Walked
walked_table t fl ll = pick (sound_table t fl ll) (Some (record { last = last_handle 0 (entries t); used = used 0 (entries t) })) None

-- The same of records alone, one after the other: a walk that has not begun, one with another record behind, and one over records that
-- are still ahead.
abbrev pub begun : Walked
begun = record { last = 0; used = 0 }

abbrev pub behind : ℕ → ℕ → Walked → Record → Option Walked
behind fl ll w r = pick (record_ok fl ll w.last w.used r) (Some (record { last = r.handle; used = slots_end w.used r })) None

unfoldable pub walk_from : ℕ → ℕ → Walked → List Record → Option Walked
walk_from fl ll w [] = Some w
walk_from fl ll w (r ∷ rs) = option_and_then (λ (x : Walked). walk_from fl ll x rs) (behind fl ll w r)
