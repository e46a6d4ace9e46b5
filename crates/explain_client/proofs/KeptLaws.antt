-- Laws of the texts of a packet that is known, which the code's proofs do not cite.
use Rattle.std.specs.Prelude.{ℕ, ◌≡◌, List}
use Rattle.att.specs.declared.AttReq.{AttReq}
use Rattle.att.specs.declared.AttCfm.{AttCfm}
use Rattle.att.specs.declared.AttCfm.TheVariants.{ConfirmIndication}
use Rattle.att.specs.declared.AttClient.{AttClient}
use Rattle.text_print.specs.declared.Line.{Line}
use Rattle.text_print.specs.Lines.{Puts}
use Rattle.explain_client.specs.Clients.{request_texts, confirmation_texts, client_texts}

pub request_as : (r q : AttReq) (src : List ℕ) (a b : Line) → r ≡ q → Puts (request_texts q src) a b → Puts (request_texts r src) a b
request_as r q src a b e h = rw e h

pub client_as : (c d : AttClient) (src : List ℕ) (a b : Line) → c ≡ d → Puts (client_texts d src) a b → Puts (client_texts c src) a b
client_as c d src a b e h = rw e h

-- there is one confirmation
pub confirmation_is : (f : AttCfm) (a b : Line) → Puts (confirmation_texts ConfirmIndication) a b → Puts (confirmation_texts f) a b
confirmation_is ConfirmIndication a b h = h
