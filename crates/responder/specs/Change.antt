-- Document 01, "How a packet is served": what a packet asks for, carried out by the table's own store; and what is handed back.
use Rattle.answers.specs.Replies.{Effect, Nothing, Stores, Agrees}
use Rattle.answers.specs.Serve.{State, relinked, agreed, own_store}
use Rattle.answers.specs.declared.Answer.{Answer}
use Rattle.answers.specs.declared.Served.{Served}

abbrev pub carried_out : State → Effect → State
carried_out s Nothing = s
carried_out s (Stores h v) = own_store s h v
carried_out s (Agrees mtu) = relinked s (agreed s.link mtu)

abbrev pub served_by : Answer → State → Served
served_by a s = record { answer = a; table = s.table; link = s.link }
