-- The line of a packet (the programs' page): SIDE KIND NAME FIELDS size=N strict, or .. tolerant encodes=HEX, or a refusal.
use Rattle.std.specs.Prelude.{ℕ, Bool, List, [], ◌∷◌, ◌++◌, Result, Ok, Err, length, leb}
use Rattle.codec.specs.Ascii.{ascii}
use Rattle.codec.specs.Cases.{pick}
use Rattle.codec.specs.Refusals.{refusal_of}
use Rattle.codec.specs.declared.Refusal.TheVariants.{InsufficientSpace, InvalidValue}
use Rattle.att.specs.Wire.{Coded, Sent, NotSent, strict}
use Rattle.att.specs.Typed.{encoded, decoded}
use Rattle.att.specs.declared.Att.{Att}
use Rattle.att.specs.declared.Att.TheVariants.{Client, Server}
use Rattle.codec.specs.declared.Error.{Error}
use Rattle.text_put.specs.Put.{counting, hexed, refusal}
use Rattle.explain_client.specs.Clients.{client_texts}
use Rattle.explain_server.specs.Servers.{server_texts}

abbrev pub field_texts : Att → List ℕ → List (List ℕ)
field_texts (Client c) src = client_texts c src
field_texts (Server s) src = server_texts s (Server s) src

-- Of a packet that is not in its strict form: what encoding it writes, into the 2,048 bytes that a packet of `explain` has at most.
abbrev pub encodes_texts : Coded → List (List ℕ)
encodes_texts (Sent b) = pick (leb (length b) 2048) (hexed (ascii " tolerant encodes=") b) (ascii " tolerant " ∷ refusal InsufficientSpace)
encodes_texts NotSent = ascii " tolerant " ∷ refusal InvalidValue

abbrev pub form_texts : Bool → Coded → List (List ℕ)
form_texts isStrict c = pick isStrict (ascii " strict" ∷ []) (encodes_texts c)

-- of a packet and what it is sent as
abbrev pub sized_texts : Att → List ℕ → Coded → List (List ℕ)
sized_texts att src (Sent b) = field_texts att src ++ (counting (ascii " size=") (length b) ++ form_texts (strict src) (Sent b))
sized_texts att src NotSent = refusal InvalidValue

abbrev pub packet_texts : Att → List ℕ → List (List ℕ)
packet_texts att src = sized_texts att src (encoded att src)

-- of what received bytes decode to
abbrev pub parsed_texts : Result Att Error → List ℕ → List (List ℕ)
parsed_texts (Ok att) src = packet_texts att src
parsed_texts (Err e) src = refusal (refusal_of e)

abbrev pub line_texts : List ℕ → List (List ℕ)
line_texts src = parsed_texts (decoded src) src
