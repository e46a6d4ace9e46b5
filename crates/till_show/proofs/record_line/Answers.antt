-- The texts of a record, one behind the other.
use Rattle.text_print.specs.declared.Line.{Line}
use Rattle.text_put.specs.PutLaws.{puts_then}
use Rattle.till_show.proofs.record_line.Goals as goal

pub returns : goal.returns
returns c =
    let a : Line = c.args.line.now in
    let d : Line = c.head.new.line in
    let e : Line = c.record_marks.new.line in
    let f : Line = c.place_text.new.line in
    let g : Line = c.hex.new.line in
    puts_then _ _ a d g c.head.ensures (puts_then _ _ d e g c.record_marks.ensures (puts_then _ _ e f g c.place_text.ensures c.hex.ensures))
