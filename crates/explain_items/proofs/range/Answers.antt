-- The texts of the item that is there; none at the end.
use Rattle.text_put.specs.PutLaws.{puts_then, puts_none}
use Rattle.explain_items.specs.Items.{ranges, step_in}
use Rattle.explain_items.specs.ItemsLaws.{range_item, range_end}
use Rattle.explain_items.proofs.range.Goals as goal

pub returns-in_err-handle-clause-line_after : goal.returns-in_err-handle-clause-line_after
returns-in_err-handle-clause-line_after c =
    puts_none _ c.args.line.now (range_end ranges.texts (step_in ranges c.args.att c.args.src.now c.args.pos) c.args.src.now c.in_err-handle.ensures).0

pub returns-clause-line_after : goal.returns-clause-line_after
returns-clause-line_after c =
    let i = range_item (step_in ranges c.args.att c.args.src.now c.args.pos) c.args.src.now c.in_ok-handle.field-0 c.in_ok-handle.ensures in
    rw i.0 (puts_then _ _ c.args.line.now c.word.new.line c.word-2.new.line c.word.ensures c.word-2.ensures)
