-- What `till` holds after a command.
use Rattle.std.specs.Prelude.{ℕ, min, false, List, ◌++◌, length, take, drop, Result, Ok, Err}
use Rattle.answers.specs.Serve.{first_link}
use Rattle.answers.specs.declared.Link.{Link}
use Rattle.attributes.specs.Additions.{empty_table}
use Rattle.attributes.specs.Stores.{stored_live}
use Rattle.attributes.specs.declared.Table.{Table}
use Rattle.codec.specs.declared.Refusal.{Refusal}
use Rattle.till_state.specs.declared.Till.{Till}

-- no bytes, an empty table for none, a link at its first MTU, an output of 247 bytes
abbrev pub first_till : Till
first_till = record {
  table = empty_table 0 0;
  link = first_link false;
  fixed = 0;
  live = 0;
  output = 247;
}

abbrev pub with_table : Till → Table → Till
with_table t x = record t { table = x }

abbrev pub with_link : Till → Link → Till
with_link t x = record t { link = x }

abbrev pub with_fixed : Till → ℕ → Till
with_fixed t n = record t { fixed = n }

abbrev pub with_live : Till → ℕ → Till
with_live t n = record t { live = n }

abbrev pub with_output : Till → ℕ → Till
with_output t n = record t { output = n }

-- the till with the table that came of a call on the table, or why it was refused: the till then keeps its own
abbrev pub tabled : Till → Result Table Refusal → Result Till Refusal
tabled t (Ok x) = Ok (with_table t x)
tabled t (Err why) = Err why

-- the lent bytes that are in use: the first n, or all where there are fewer
abbrev pub in_use : ℕ → List ℕ → List ℕ
in_use n live = take (min n (length live)) live

-- what the lent bytes hold after the till's own store into those in use
abbrev pub live_after : Till → ℕ → List ℕ → List ℕ → List ℕ → List ℕ
live_after t h v fixed live = stored_live t.table h v fixed (in_use t.live live) ++ drop (min t.live (length live)) live
