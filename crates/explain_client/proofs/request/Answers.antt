-- Each arm puts the texts of its request.
use Rattle.text_put.specs.PutLaws.{puts_then}
use Rattle.explain_client.proofs.request.Goals as goal

pub returns-in-ReadByGroupType : goal.returns-in-ReadByGroupType
returns-in-ReadByGroupType c = rw c.in-ReadByGroupType.is (puts_then _ _ c.args.line.now c.two.new.line c.kind.new.line c.two.ensures c.kind.ensures)

pub returns-in-ReadByType : goal.returns-in-ReadByType
returns-in-ReadByType c = rw c.in-ReadByType.is (puts_then _ _ c.args.line.now c.two-in-ReadByType.new.line c.kind-in-ReadByType.new.line c.two-in-ReadByType.ensures c.kind-in-ReadByType.ensures)

pub returns-in-Read : goal.returns-in-Read
returns-in-Read c = rw c.in-Read.is c.word.ensures

pub returns-in-Write : goal.returns-in-Write
returns-in-Write c = rw c.in-Write.is c.value.ensures

pub returns-in-ExchangeMtu : goal.returns-in-ExchangeMtu
returns-in-ExchangeMtu c = rw c.in-ExchangeMtu.is c.word-in-ExchangeMtu.ensures

pub returns-in-FindByTypeValue : goal.returns-in-FindByTypeValue
returns-in-FindByTypeValue c = rw c.in-FindByTypeValue.is (puts_then _ _ c.args.line.now c.range.new.line c.sought.new.line c.range.ensures c.sought.ensures)

pub returns-in-FindInformation : goal.returns-in-FindInformation
returns-in-FindInformation c = rw c.in-FindInformation.is c.range-in-FindInformation.ensures

pub returns-in-PrepareWrite : goal.returns-in-PrepareWrite
returns-in-PrepareWrite c = rw c.in-PrepareWrite.is (puts_then _ _ c.args.line.now c.two-in-PrepareWrite.new.line c.part.new.line c.two-in-PrepareWrite.ensures c.part.ensures)

pub returns-in-ExecuteWrite : goal.returns-in-ExecuteWrite
returns-in-ExecuteWrite c = rw c.in-ExecuteWrite.is c.byte.ensures

pub returns-in-ReadMultiple : goal.returns-in-ReadMultiple
returns-in-ReadMultiple c = rw c.in-ReadMultiple.is c.part-in-ReadMultiple.ensures

pub returns-in-ReadBlob : goal.returns-in-ReadBlob
returns-in-ReadBlob c = rw c.in-ReadBlob.is c.two-in-ReadBlob.ensures
