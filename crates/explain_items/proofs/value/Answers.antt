-- The texts of the item that is there; none at the end.
use Rattle.text_put.specs.PutLaws.{puts_then, puts_none}
use Rattle.explain_items.specs.Items.{values, step_in}
use Rattle.explain_items.specs.ItemsLaws.{value_item_lem, value_end}
use Rattle.explain_items.proofs.value.Goals as goal

pub returns-in_err-handle-clause-line_after : goal.returns-in_err-handle-clause-line_after
returns-in_err-handle-clause-line_after c =
    puts_none _ c.args.line.now (value_end values.texts (step_in values c.args.att c.args.src.now c.args.pos) c.args.src.now c.in_err-handle.ensures).0

pub returns-clause-line_after : goal.returns-clause-line_after
returns-clause-line_after c =
    let i = value_item_lem (step_in values c.args.att c.args.src.now c.args.pos) c.args.src.now c.in_ok-handle.field-0 _ c.in_ok-handle.ensures c.read_by_type_rest.ensures in
    rw i.0 (puts_then _ _ c.args.line.now c.word.new.line c.hex.new.line c.word.ensures c.hex.ensures)
