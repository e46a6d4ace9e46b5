-- Each arm puts the texts of its packet.
use Rattle.text_put.specs.PutLaws.{puts_then}
use Rattle.explain_server.proofs.server.Goals as goal

pub returns-in-Response : goal.returns-in-Response
returns-in-Response c = rw c.in-Response.is (puts_then _ _ c.args.line.now c.text.new.self c.response.new.line c.text.ensures c.response.ensures)

pub returns-in-Unsolicited : goal.returns-in-Unsolicited
returns-in-Unsolicited c = rw c.in-Unsolicited.is (puts_then _ _ c.args.line.now c.text-in-Unsolicited.new.self c.unsolicited.new.line c.text-in-Unsolicited.ensures c.unsolicited.ensures)
