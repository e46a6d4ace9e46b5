-- What follows the packet's fields tells its length; where nothing does, the packet is not sent.
use Rattle.std.proofs.Common.{◌+◌, ◌≡◌, ◌++◌, Ok, ap, sym, ◌∙◌, arith, length, length-append}
use Rattle.att.specs.Typed.{length_of}
use Rattle.att_layout.specs.Layout.{head_bytes}
use Rattle.att_encode.proofs.TailLaws.{head_counted, sent, not_sent, countable_tail}
use Rattle.att_encode.proofs.size.Goals as goal

pub returns-in_default : goal.returns-in_default
returns-in_default c = sym (ap length_of (not_sent c.args.att c.args.src.now _ c.lay_out-l.ensures c.in_default.ensures))

pub overflow_add-result : goal.overflow_add-result
overflow_add-result c = omega (arith, countable_tail c.lay_out-l.result c.args.src.now c.in-Some.tail.now c.in-Some.ensures)

pub returns : goal.returns
returns c =
    let l = c.lay_out-l.result in
    let h = head_bytes l.opcode l.fields in
    let t = c.in-Some.tail.now in
    let n : l.len + length t ≡ length (h ++ t) = omega (arith, length-append h t, head_counted c.args.att c.args.src.now l c.lay_out-l.ensures) in
    ap Ok n ∙ sym (ap length_of (sent c.args.att c.args.src.now l c.lay_out-l.ensures t c.in-Some.ensures))
