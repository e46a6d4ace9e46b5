-- The head and what follows it are the packet's bytes; where nothing follows, the packet is not sent.
use Rattle.att_encode.proofs.TailLaws.{head_counted, sent, not_sent, countable_tail, written_sent, laid_sent, written_not, laid_not}
use Rattle.att_encode.proofs.encode.Goals as goal

pub returns-in_default-clause-value : goal.returns-in_default-clause-value
returns-in_default-clause-value c = written_not _ _ (not_sent c.args.att c.args.src.now _ c.lay_out-l.ensures c.in_default.ensures)

pub returns-in_default-clause-out_after : goal.returns-in_default-clause-out_after
returns-in_default-clause-out_after c = laid_not _ _ (not_sent c.args.att c.args.src.now _ c.lay_out-l.ensures c.in_default.ensures)

pub write_packet-requires-clause-head : goal.write_packet-requires-clause-head
write_packet-requires-clause-head c = head_counted c.args.att c.args.src.now _ c.lay_out-l.ensures

pub write_packet-requires-clause-number : goal.write_packet-requires-clause-number
write_packet-requires-clause-number c = countable_tail _ c.args.src.now _ c.in-Some.ensures

pub returns-clause-value : goal.returns-clause-value
returns-clause-value c =
    written_sent _ _ _ _ (sent c.args.att c.args.src.now _ c.lay_out-l.ensures _ c.in-Some.ensures) c.write_packet.ensures.value

pub returns-clause-out_after : goal.returns-clause-out_after
returns-clause-out_after c =
    laid_sent _ _ _ _ (sent c.args.att c.args.src.now _ c.lay_out-l.ensures _ c.in-Some.ensures) c.write_packet.ensures.out_after
