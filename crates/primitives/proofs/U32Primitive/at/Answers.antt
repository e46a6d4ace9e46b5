-- A number of four bytes is that of the first two and, above it, that of the next two.
use Rattle.std.proofs.Common.{arith}
use Rattle.primitives.specs.NumbersLaws.{number_halves}
use Rattle.primitives.proofs.U32Primitive.at.Goals as goal

pub returns : goal.returns
returns c = omega (arith, number_halves c.args.at c.args.src.now)
