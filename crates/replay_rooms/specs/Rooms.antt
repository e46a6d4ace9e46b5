-- The test of one room of a call that writes, and the words of ROOMS.
use Rattle.std.specs.Prelude.{ℕ, Bool, false, ◌&&◌, List, ◌++◌, length, eqb, Result, Ok, Err}
use Rattle.std.specs.List.{list_all}
use Rattle.codec.specs.Ascii.{ascii}
use Rattle.codec.specs.Cases.{same}
use Rattle.codec.specs.Refusals.{refusal_number, refusal_of}
use Rattle.codec.specs.declared.Error.{Error}
use Rattle.cursor.specs.Reading.{rest}
use Rattle.text_put.specs.Put.{first_of, counting}

-- all bytes are v
abbrev pub all_of : ℕ → List ℕ → Bool
all_of v bytes = list_all (λ b. eqb b v) bytes

-- a call on bytes v refused with this number and wrote nothing; or it wrote these bytes and nothing behind them
abbrev pub untouched_of : Result ℕ Error → ℕ → List ℕ → ℕ → Bool
untouched_of (Ok n) number out v = false
untouched_of (Err e) number out v = eqb (refusal_number (refusal_of e)) number && all_of v out

abbrev pub wrote_of : Result ℕ Error → List ℕ → List ℕ → ℕ → Bool
wrote_of (Ok n) full out v = eqb n (length full) && same (first_of n out) full && all_of v (rest n out)
wrote_of (Err e) full out v = false

-- ROOMS: how many refused, and how many from there on were written
abbrev pub rooms_texts : List ℕ → ℕ → ℕ → List (List ℕ)
rooms_texts name refused done = counting name refused ++ counting (ascii "/") done
