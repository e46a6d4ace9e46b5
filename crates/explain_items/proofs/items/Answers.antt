-- An item is put on the line as far as there is one, and a packet has fewer items than bytes.
use Rattle.std.proofs.Common.{length, ◌-◌, arith}
use Rattle.explain_items.specs.Items.{kind_of}
use Rattle.explain_items.specs.ItemsLaws.{none_turned, turn_put, all_put, used_up}
use Rattle.explain_items.proofs.items.Goals as goal

pub loop-init : goal.loop-init
loop-init c = none_turned (kind_of c.args.op) c.args.att c.args.src.now (length c.args.src.now) c.args.line.now

pub loop-preserved : goal.loop-preserved
loop-preserved c =
    let a = c.args in
    let l = c.loop in
    turn_put (kind_of a.op) a.att a.src.now (length a.src.now) a.line.now l.line c.item.new.line l.pos l.counter _ l.invariant (omega arith) c.in-Some.ensures.value c.in-Some.ensures.line_after

pub returns-in_default : goal.returns-in_default
returns-in_default c =
    let a = c.args in
    let l = c.loop in
    all_put (kind_of a.op) a.att a.src.now (length a.src.now) a.line.now l.line c.item.new.line l.pos (length a.src.now - l.counter) l.invariant (omega arith) c.in_default.ensures.value c.in_default.ensures.line_after

pub returns : goal.returns
returns c =
    let a = c.args in
    let l = c.loop in
    used_up (kind_of a.op) a.att a.src.now (length a.src.now) a.line.now l.line l.pos (length a.src.now - l.counter) l.invariant (omega arith)
