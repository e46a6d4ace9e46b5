-- Each arm puts the texts of its response.
use Rattle.std.proofs.Common.{sym}
use Rattle.text_put.specs.PutLaws.{puts_then}
use Rattle.explain_server.proofs.response.Goals as goal

pub returns-in-ExchangeMtu : goal.returns-in-ExchangeMtu
returns-in-ExchangeMtu c = rw c.in-ExchangeMtu.is c.word.ensures

pub returns-in-FindByTypeValue : goal.returns-in-FindByTypeValue
returns-in-FindByTypeValue c = rw c.in-FindByTypeValue.is (puts_then _ _ c.args.line.now c.text.new.self c.items.new.line c.text.ensures c.items.ensures)

pub returns-in-FindInformation : goal.returns-in-FindInformation
returns-in-FindInformation c = rw (c.in-FindInformation.is, sym c.from.ensures) (puts_then _ _ c.args.line.now c.byte.new.line c.items-in-FindInformation.new.line c.byte.ensures c.items-in-FindInformation.ensures)

pub returns-in-Error : goal.returns-in-Error
returns-in-Error c = rw c.in-Error.is c.error.ensures

pub returns-in-ReadByType : goal.returns-in-ReadByType
returns-in-ReadByType c = rw c.in-ReadByType.is (puts_then _ _ c.args.line.now c.count.new.line c.items-in-ReadByType.new.line c.count.ensures c.items-in-ReadByType.ensures)

pub returns-in-ReadByGroupType : goal.returns-in-ReadByGroupType
returns-in-ReadByGroupType c = rw c.in-ReadByGroupType.is (puts_then _ _ c.args.line.now c.count-in-ReadByGroupType.new.line c.items-in-ReadByGroupType.new.line c.count-in-ReadByGroupType.ensures c.items-in-ReadByGroupType.ensures)

pub returns-in-Read : goal.returns-in-Read
returns-in-Read c = rw c.in-Read.is c.part.ensures

pub returns-in-ReadBlob : goal.returns-in-ReadBlob
returns-in-ReadBlob c = rw c.in-ReadBlob.is c.part-in-ReadBlob.ensures

pub returns-in-Write : goal.returns-in-Write
returns-in-Write c = rw c.in-Write.is c.text-in-Write.ensures
