-- Document 01, "Cursors": what every call at a position asks first, and what it answers. A cursor stands at a position of some
-- bytes, of which only the length counts here.
use Rattle.std.specs.Prelude.{ℕ, ◌+◌, ◌-◌, Bool, List, [], leb, Result, Ok, Err}
use Rattle.codec.specs.Cases.{pick}
use Rattle.codec.specs.declared.Error.{Error}
use Rattle.codec.specs.declared.Error.TheVariants.{InsufficientSpace}

-- there are `n` bytes from the position on. "With a position past the end any n is short", 0 too
abbrev pub enough : ℕ → ℕ → ℕ → Bool
enough pos len n = leb (pos + n) len

-- what is available: nothing past the end
abbrev pub left : ℕ → ℕ → ℕ
left pos len = len - pos

-- the answer of a call that moves the position over `n` bytes
abbrev pub moving : ℕ → ℕ → ℕ → Result ℕ Error
moving pos len n = pick (enough pos len n) (Ok (pos + n)) (Err InsufficientSpace)

-- the answer of a call that hands out a part and moves nothing, and the part: "parts are empty" where it is refused
abbrev pub parting : ℕ → ℕ → ℕ → Result Unit Error
parting pos len n = pick (enough pos len n) (Ok tt) (Err InsufficientSpace)

abbrev pub parted : ℕ → ℕ → ℕ → List ℕ → List ℕ
parted pos len n bytes = pick (enough pos len n) bytes []

-- what a call that moves the cursor answers, and where the cursor then stands: on a refusal where it stood
abbrev pub done : Result ℕ Error → Result Unit Error
done (Ok next) = Ok tt
done (Err e) = Err e

abbrev pub stepped : ℕ → Result ℕ Error → ℕ
stepped pos (Ok next) = next
stepped pos (Err e) = pos
