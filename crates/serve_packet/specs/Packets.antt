-- Document 01, "How a packet is served": the replies of the book, told by the typed packet and by the bytes that code has in hand; and
-- a packet's answer with what it asks for.
use Rattle.std.specs.Prelude.{ℕ, Bool, true, false, ◌&&◌, List, [], ◌∷◌, map, length, leb, eqb}
use Rattle.codec.specs.Cases.{pick, lookup}
use Rattle.att.specs.Typed.{part_of}
use Rattle.att.specs.Wire.{Meaning, shape_of, shape_means, strict}
use Rattle.att.specs.declared.Att.{Att}
use Rattle.att.specs.declared.Att.TheVariants.{Client, Server}
use Rattle.att.specs.declared.AttClient.TheVariants.{Request, Command, Confirmation}
use Rattle.attributes.specs.declared.Table.{Table}
use Rattle.answers.specs.Contract.{answer_of, out_after}
use Rattle.answers.specs.Replies.{Reply, Effect, Nothing, Silence, only, nth, Row, Serves, NotServed, served, row_reply, request}
use Rattle.answers.specs.Serve.{State, spoken, does, answered, asks, first_link}
use Rattle.answers.specs.View.{View}
use Rattle.answers.specs.declared.Answer.{Answer}
use Rattle.answers.specs.declared.Link.{Link}
use Rattle.serve_permit.specs.Permit.{store_to}
use Rattle.serve_change.specs.Changes.{meant_by}
use Rattle.serve_packet.specs.declared.Replied.{Replied}

-- the requests that are served: those of the book's rows, whatever they answer
abbrev pub is_served : Row → Bool
is_served (Serves r) = true
is_served NotServed = false

unfoldable pub served_ops : List (ℕ × Bool)
served_ops = map (λ r. (r.0, is_served r.1)) (served [] (first_link false) [] [])

unfoldable pub served_op : ℕ → Bool
served_op op = lookup op served_ops false

-- the reply to a strict packet that means `m`
unfoldable pub typed_reply : List View → Link → ℕ → Meaning → Reply
typed_reply vs l op m = row_reply op true (lookup m.opcode (served vs l m.numbers m.tail) NotServed)

-- the reply to received bytes that are a request
abbrev pub request_to : List View → Link → List ℕ → Reply
request_to vs l [] = only Silence
request_to vs l (op ∷ p) = request vs l op p

-- what received bytes that get no answer do
abbrev pub command_to : Table → Link → List ℕ → Effect
command_to t l [] = Nothing
command_to t l (op ∷ p) =
    let m = shape_means op (shape_of op) p in
    pick (eqb op 0x52 && (strict (op ∷ p) && leb (length (op ∷ p)) l.mtu)) (store_to t l (nth m.numbers 0) m.tail).effect Nothing

abbrev pub command_of : Table → Link → List ℕ → Att → Effect
command_of t l src (Client (Request r)) = Nothing
command_of t l src (Client (Command c)) = (store_to t l c.handle (part_of c.«data» src)).effect
command_of t l src (Client (Confirmation c)) = Nothing
command_of t l src (Server s) = Nothing

-- what is answered, and what takes place
abbrev pub replied_as : List ℕ → Replied → Answer × Effect
replied_as src h = (h.answer, meant_by src h.effect)

abbrev pub replied_of : Reply → ℕ → ℕ → Answer × Effect
replied_of r op room = (answer_of (spoken r.says op room), does r.says room r.effect)

-- the output behind a reply
abbrev pub out_behind : Reply → ℕ → List ℕ → List ℕ
out_behind r op out = out_after (spoken r.says op (length out)) out

-- a packet's answer and what it asks for, and the output behind it
abbrev pub replied_to : State → List ℕ → ℕ → Answer × Effect
replied_to s p room = (answer_of (answered s p room), asks s p room)

abbrev pub heard_out : State → List ℕ → List ℕ → List ℕ
heard_out s p out = out_after (answered s p (length out)) out
