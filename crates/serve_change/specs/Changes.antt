-- Document 01, "How a packet is served": what goes out of a reply, and what takes place: nothing where the encoder refuses.
use Rattle.std.specs.Prelude.{ℕ, min, max, List}
use Rattle.codec.specs.Cases.{pick}
use Rattle.att.specs.Typed.{part_of}
use Rattle.answers.specs.Replies as book
use Rattle.answers.specs.Replies.{Reply}
use Rattle.answers.specs.declared.Link.{Link}
use Rattle.serve_tell.specs.Tell.{coded_of, wrote_by}
use Rattle.serve_tell.specs.declared.Wrote.{Wrote}
use Rattle.serve_change.specs.declared.Pending.{Pending}
use Rattle.serve_change.specs.declared.Pending.TheVariants.{Nothing, Stores, Agrees}
use Rattle.serve_change.specs.declared.Said.{Said}

abbrev pub done : Wrote → Pending → Said
done t e = record { len = t.len; effect = pick t.meant e Nothing }

-- "MTU becomes the smaller of 247 and the request, at least 23", at the first exchange
abbrev pub agreement : Link → ℕ → Pending
agreement l mtu = pick l.exchanged Nothing (Agrees (max 23 (min 247 mtu)))

-- an effect with the bytes of its range in `src`
abbrev pub meant_by : List ℕ → Pending → book.Effect
meant_by src Nothing = book.Nothing
meant_by src (Stores h d) = book.Stores h (part_of d src)
meant_by src (Agrees mtu) = book.Agrees mtu

abbrev pub meaning_of : List ℕ → Said → ℕ × book.Effect
meaning_of src s = (s.len, meant_by src s.effect)

abbrev pub said_of : Reply → ℕ → ℕ → ℕ × book.Effect
said_of r op room = ((wrote_by (coded_of r) op room).len, pick (wrote_by (coded_of r) op room).meant r.effect book.Nothing)
