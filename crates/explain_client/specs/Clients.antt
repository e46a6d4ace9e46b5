-- The texts of what clients send, one behind the other: SIDE KIND NAME FIELDS of the programs' page.
use Rattle.std.specs.Prelude.{ℕ, List, [], ◌∷◌, ◌++◌}
use Rattle.codec.specs.Ascii.{ascii}
use Rattle.att.specs.declared.Span.{Span}
use Rattle.att.specs.declared.AttReq.{AttReq}
use Rattle.att.specs.declared.AttReq.TheVariants as req
use Rattle.att.specs.declared.AttCmd.{AttCmd}
use Rattle.att.specs.declared.AttCfm.{AttCfm}
use Rattle.att.specs.declared.AttCfm.TheVariants as cfm
use Rattle.att.specs.declared.AttClient.{AttClient}
use Rattle.att.specs.declared.AttClient.TheVariants.{Request, Command, Confirmation}
use Rattle.text_put.specs.Put.{byted, numbered, typed}
use Rattle.explain_field.specs.Fields.{fielded, pair_texts, value_texts}

-- the first and the last handle of a range, as the two finds name them
abbrev pub range_texts : List ℕ → ℕ → ℕ → List (List ℕ)
range_texts name s e = pair_texts name s (ascii " end_handle=") e

-- the type and the value that are looked for
abbrev pub sought_texts : ℕ → Span → List ℕ → List (List ℕ)
sought_texts t v src = numbered (ascii " att_type=") t ++ fielded (ascii " att_value=") v src

abbrev pub request_texts : AttReq → List ℕ → List (List ℕ)
request_texts (req.ReadByGroupType s e u) src =
    pair_texts (ascii "ReadByGroupType start=") s (ascii " end=") e ++ typed (ascii " group_type=") u
request_texts (req.ReadByType s e u) src =
    pair_texts (ascii "ReadByType start=") s (ascii " end=") e ++ typed (ascii " attribute_type=") u
request_texts (req.Read h) src = numbered (ascii "Read handle=") h
request_texts (req.Write h d) src = value_texts (ascii "Write handle=") h d src
request_texts (req.ExchangeMtu m) src = numbered (ascii "ExchangeMtu mtu=") m
request_texts (req.FindByTypeValue s e t v) src =
    range_texts (ascii "FindByTypeValue start_handle=") s e ++ sought_texts t v src
request_texts (req.FindInformation s e) src = range_texts (ascii "FindInformation start_handle=") s e
request_texts (req.PrepareWrite h o v) src =
    pair_texts (ascii "PrepareWrite handle=") h (ascii " offset=") o ++ fielded (ascii " value=") v src
request_texts (req.ExecuteWrite f) src = byted (ascii "ExecuteWrite flags=") f
request_texts (req.ReadMultiple hs) src = fielded (ascii "ReadMultiple handles=") hs src
request_texts (req.ReadBlob h o) src = pair_texts (ascii "ReadBlob handle=") h (ascii " offset=") o

abbrev pub command_texts : AttCmd → List ℕ → List (List ℕ)
command_texts c src = value_texts (ascii "client command Write handle=") c.handle c.«data» src

abbrev pub confirmation_texts : AttCfm → List (List ℕ)
confirmation_texts cfm.ConfirmIndication = ascii "client confirmation ConfirmIndication" ∷ []

abbrev pub client_texts : AttClient → List ℕ → List (List ℕ)
client_texts (Request r) src = ascii "client request " ∷ request_texts r src
client_texts (Command c) src = command_texts c src
client_texts (Confirmation f) src = confirmation_texts f
