-- Each arm puts the texts of its packet.
use Rattle.att.specs.declared.AttCfm.{AttCfm}
use Rattle.att.specs.declared.AttCfm.TheVariants.{ConfirmIndication}
use Rattle.text_print.specs.declared.Line.{Line}
use Rattle.text_print.specs.Lines.{Puts}
use Rattle.text_put.specs.PutLaws.{puts_then}
use Rattle.explain_client.specs.Clients.{confirmation_texts}
use Rattle.explain_client.proofs.client.Goals as goal

-- there is one confirmation
confirmation_is : (f : AttCfm) (a b : Line) → Puts (confirmation_texts ConfirmIndication) a b → Puts (confirmation_texts f) a b
confirmation_is ConfirmIndication a b p = p

pub returns-in-Request : goal.returns-in-Request
returns-in-Request c = rw c.in-Request.is (puts_then _ _ c.args.line.now c.text.new.self c.request.new.line c.text.ensures c.request.ensures)

pub returns-in-Command : goal.returns-in-Command
returns-in-Command c = rw c.in-Command.is c.value.ensures

pub returns-in-Confirmation-ConfirmIndication : goal.returns-in-Confirmation-ConfirmIndication
returns-in-Confirmation-ConfirmIndication c =
    let t = c.text-in-Confirmation-ConfirmIndication in
    rw c.in-Confirmation-ConfirmIndication.is (confirmation_is c.in-Confirmation-ConfirmIndication.field-0 c.args.line.now t.new.self t.ensures)
