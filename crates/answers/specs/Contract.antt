-- What the code's `serve` answers and leaves behind, said by the responder's definition: the answer, the output, and the state.
use Rattle.std.specs.Prelude.{ℕ, List, length}
use Rattle.codec.specs.Buffer.{over}
use Rattle.attributes.specs.declared.Table.{Table}
use Rattle.answers.specs.Serve.{State, views, Heard, Bytes, Silent, Refused, Turn, serve}
use Rattle.answers.specs.View.{View}
use Rattle.answers.specs.declared.Answer.{Answer}
use Rattle.answers.specs.declared.Answer.TheVariants as answer
use Rattle.answers.specs.declared.Lent.{Lent}
use Rattle.answers.specs.declared.Link.{Link}
use Rattle.answers.specs.declared.Served as code

abbrev pub state_of : Table → Link → List ℕ → List ℕ → State
state_of t l fixed live = record { table = t; link = l; fixed = fixed; live = live }

-- the till that is lent
abbrev pub lent_state : Lent → State
lent_state x = state_of x.table.now x.link x.fixed.now x.live.now

-- what the link sees of the table, and a packet served, of what the code has in hand
abbrev pub views_for : Table → Link → List ℕ → List ℕ → List View
views_for t l fixed live = views (state_of t l fixed live)

abbrev pub turn_of : Table → Link → List ℕ → List ℕ → List ℕ → ℕ → Turn
turn_of t l fixed live p room = serve (state_of t l fixed live) p room

abbrev pub answer_of : Heard → Answer
answer_of (Bytes b) = answer.Sent (length b)
answer_of Silent = answer.Silent
answer_of (Refused r) = answer.Refused r

-- the output after it: bytes behind an answer stay, in silence and on a refusal all of them
abbrev pub out_after : Heard → List ℕ → List ℕ
out_after (Bytes b) out = over b out
out_after Silent out = out
out_after (Refused r) out = out

abbrev pub served_as : Turn → code.Served
served_as v = record { answer = answer_of v.heard; table = v.state.table; link = v.state.link }
