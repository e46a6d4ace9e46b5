-- The code and its text stand behind the request and the handle.
use Rattle.text_put.specs.PutLaws.{puts_then}
use Rattle.explain_server.proofs.error.Goals as goal

pub returns : goal.returns
returns c =
    let l = c.meaning.new.line in
    let p = puts_then _ _ c.word.new.line c.byte-2.new.line l c.byte-2.ensures c.meaning.ensures in
    let q = puts_then _ _ c.byte.new.line c.word.new.line l c.word.ensures p in
    puts_then _ _ c.args.line.now c.byte.new.line l c.byte.ensures q
