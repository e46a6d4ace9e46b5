-- What the readers of the rows find in a payload (document 01, "Packets"): numbers at places, and the range of a data field.
use Rattle.std.specs.Prelude.{ℕ, List, [], ◌∷◌, length, leb, Result, Ok, Err}
use Rattle.codec.specs.Cases.{pick}
use Rattle.codec.specs.declared.Error.{Error}
use Rattle.codec.specs.declared.Error.TheVariants.{InvalidValue}
use Rattle.primitives.specs.Numbers.{number_at}
use Rattle.att.specs.Formats.{format_of}
use Rattle.att.specs.Typed.{span}
use Rattle.att.specs.Wire.{by_format}
use Rattle.att.specs.declared.Span.{Span}
use Rattle.att.specs.declared.AttRsp.{AttRsp}
use Rattle.att.specs.declared.AttRsp.TheVariants.{FindInformation}
use Rattle.att.specs.declared.AttReq.{AttReq}
use Rattle.att.specs.declared.AttReq.TheVariants.{FindByTypeValue}

-- the number in two bytes
abbrev pub word : ℕ → List ℕ → ℕ
word at p = number_at 2 at p

-- the range of bytes that start at a place of the received bytes
abbrev pub after : ℕ → List ℕ → Span
after at bytes = span at (length bytes)

-- 06: start, end and type, and the range of the value
abbrev pub valued : List ℕ → Span → AttReq
valued p value = FindByTypeValue (word 0 p) (word 2 p) (word 4 p) value

-- 05: the format of the first number, and the range of the pairs; a number that tells no length of a pair is no format
abbrev pub pairs_in : ℕ → Span → Result AttRsp Error
pairs_in n items = pick (leb 2 (by_format (n ∷ []))) (Ok (FindInformation (format_of n) items)) (Err InvalidValue)
