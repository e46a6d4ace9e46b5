-- Each side puts the texts of its packet.
use Rattle.explain_packet.proofs.fields.Goals as goal

pub returns-in-Client : goal.returns-in-Client
returns-in-Client c = rw c.in-Client.is c.client.ensures

pub returns-in-Server : goal.returns-in-Server
returns-in-Server c = rw c.in-Server.is c.server.ensures
