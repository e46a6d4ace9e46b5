-- The tests in their order; each way is the book's.
use Rattle.std.proofs.Common.{sym, ◌∙◌, arith}
use Rattle.serve_packet.specs.PacketsLaws.{strict_packet, command_typed}
use Rattle.serve_packet.proofs.command.Goals as goal

pub returns-in-Err : goal.returns-in-Err
returns-in-Err c =
    absurd (strict_packet c.args.packet.now (sym c.strict.ensures ∙ c.if-not-strict.false) _ (sym c.in-Err.ensures))

pub returns-in-Ok : goal.returns-in-Ok
returns-in-Ok c =
    let a = c.args in
    c.command_of.ensures
    ∙ command_typed a.lent.table.now a.lent.link a.op a.packet.now c.requires c.if-op-ne-ATT_WRITE_CMD.false (sym c.strict.ensures ∙ c.if-not-strict.false) (omega arith) _
    (sym c.in-Ok.ensures)
