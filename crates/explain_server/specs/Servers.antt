-- The texts of what servers send, one behind the other: SIDE KIND NAME FIELDS of the programs' page.
use Rattle.std.specs.Prelude.{ℕ, List, [], ◌∷◌, ◌++◌}
use Rattle.codec.specs.Ascii.{ascii}
use Rattle.att.specs.declared.Att.{Att}
use Rattle.att.specs.Formats.{format_number}
use Rattle.att.specs.declared.FindInformationUuidFormat.{FindInformationUuidFormat}
use Rattle.att.specs.declared.AttRsp.{AttRsp}
use Rattle.att.specs.declared.AttRsp.TheVariants as rsp
use Rattle.att.specs.declared.AttUns.{AttUns}
use Rattle.att.specs.declared.AttUns.TheVariants.{Notify, Indicate}
use Rattle.att.specs.declared.AttServer.{AttServer}
use Rattle.att.specs.declared.AttServer.TheVariants.{Response, Unsolicited}
use Rattle.att_error.specs.Texts.{text_of}
use Rattle.text_put.specs.Put.{byted, numbered, counting}
use Rattle.explain_field.specs.Fields.{fielded, value_texts}
use Rattle.explain_items.specs.Items.{items_texts}

-- the text of an error code, in parentheses
abbrev pub meaning_texts : ℕ → List (List ℕ)
meaning_texts code = ascii " (" ∷ text_of code ∷ ascii ")" ∷ []

abbrev pub error_texts : ℕ → ℕ → ℕ → List (List ℕ)
error_texts request handle code =
    byted (ascii "Error request=") request ++ (numbered (ascii " handle=") handle ++ (byted (ascii " code=") code ++ meaning_texts code))

abbrev pub format_texts : FindInformationUuidFormat → List (List ℕ)
format_texts f = byted (ascii "FindInformation format=") (format_number f)

abbrev pub response_texts : AttRsp → Att → List ℕ → List (List ℕ)
response_texts (rsp.ExchangeMtu m) att src = numbered (ascii "ExchangeMtu mtu=") m
response_texts (rsp.FindByTypeValue i) att src = ascii "FindByTypeValue" ∷ items_texts 0x07 att src
response_texts (rsp.FindInformation f i) att src = format_texts f ++ items_texts 0x05 att src
response_texts (rsp.Error r h c) att src = error_texts r h c.value
response_texts (rsp.ReadByType n i) att src = counting (ascii "ReadByType item_len=") n ++ items_texts 0x09 att src
response_texts (rsp.ReadByGroupType n i) att src = counting (ascii "ReadByGroupType item_len=") n ++ items_texts 0x11 att src
response_texts (rsp.Read d) att src = fielded (ascii "Read data=") d src
response_texts (rsp.ReadBlob d) att src = fielded (ascii "ReadBlob data=") d src
response_texts rsp.Write att src = ascii "Write" ∷ []

abbrev pub unsolicited_texts : AttUns → List ℕ → List (List ℕ)
unsolicited_texts (Notify h d) src = value_texts (ascii "Notify handle=") h d src
unsolicited_texts (Indicate h d) src = value_texts (ascii "Indicate handle=") h d src

abbrev pub server_texts : AttServer → Att → List ℕ → List (List ℕ)
server_texts (Response r) att src = ascii "server response " ∷ response_texts r att src
server_texts (Unsolicited u) att src = ascii "server unsolicited " ∷ unsolicited_texts u src
