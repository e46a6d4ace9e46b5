-- Each arm puts the texts of its packet.
use Rattle.explain_server.proofs.unsolicited.Goals as goal

pub returns-in-Notify : goal.returns-in-Notify
returns-in-Notify c = rw c.in-Notify.is c.value.ensures

pub returns-in-Indicate : goal.returns-in-Indicate
returns-in-Indicate c = rw c.in-Indicate.is c.value-in-Indicate.ensures
