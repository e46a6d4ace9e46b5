-- The rest was lent whole, and came back with the number's bytes laid over it.
use Rattle.std.specs.Prelude.{length}
use Rattle.primitives.specs.Numbers.{bytes_of}
use Rattle.primitives.specs.NumbersLaws.{length_bytes}
use Rattle.cursor.proofs.PositionLaws.{went}
use Rattle.cursor_write.specs.WritingLaws.{fill_whole}
use Rattle.cursor_write.proofs.fill.Goals as goal

pub returns-in-Ok : goal.returns-in-Ok
returns-in-Ok g c =
    let size = g.T.Primitive.SIZE in
    let v = g.T.Primitive.number c.args.v in
    let h = went c.args.pos (length c.args.«data».now) c.SIZE.result c.in-Ok.field-0 c.in-Ok.is c.forward.ensures in
    fill_whole c.args.pos (bytes_of size v) c.args.«data».now c.write_buf-w.result.now c.encode.new.dest (rw (length_bytes size v, ← c.SIZE.ensures) h.1) c.write_buf-w.ensures c.encode.ensures.dest_after
