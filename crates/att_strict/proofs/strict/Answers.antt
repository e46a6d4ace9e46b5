-- The payload is what follows the first byte.
use Rattle.std.proofs.Common.{ap, sym, get_or, ◌∙◌, arith}
use Rattle.codec.specs.BufferLaws.{to_the_end}
use Rattle.att.specs.Wire.{shape_of, shape_strict}
use Rattle.att_strict.proofs.Rows.{strict_cons}
use Rattle.att_strict.proofs.strict.Goals as goal

pub returns-in-len1-up : goal.returns-in-len1-up
returns-in-len1-up c =
    let s = c.args.src.now in
    c.strict_payload.ensures ∙ ap (shape_strict (shape_of (get_or s 0 0))) (to_the_end 1 s) ∙ sym (strict_cons s (omega arith))
