-- The payload is what follows the first byte.
use Rattle.std.proofs.Common.{ap, sym, get_or, ◌∙◌, arith}
use Rattle.codec.specs.BufferLaws.{to_the_end}
use Rattle.att.specs.Typed.{row_decoded}
use Rattle.att_decode.proofs.Rows.{decoded_cons}
use Rattle.att_decode.proofs.decode.Goals as goal

pub returns-in-len1-up : goal.returns-in-len1-up
returns-in-len1-up c =
    let s = c.args.src.now in
    c.dispatch.ensures ∙ ap (row_decoded (get_or s 0 0)) (to_the_end 1 s) ∙ sym (decoded_cons s (omega arith))
