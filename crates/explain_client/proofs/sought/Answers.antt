-- The value stands behind the type.
use Rattle.text_put.specs.PutLaws.{puts_then}
use Rattle.explain_client.proofs.sought.Goals as goal

pub returns : goal.returns
returns c = puts_then _ _ c.args.line.now c.word.new.line c.part.new.line c.word.ensures c.part.ensures
