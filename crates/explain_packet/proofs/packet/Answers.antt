-- Fields, size and form stand one behind the other.
use Rattle.std.proofs.Common.{sym, ◌∙◌}
use Rattle.att.specs.Typed.{encoded}
use Rattle.text_put.specs.PutLaws.{puts_then}
use Rattle.explain_packet.specs.PacketsLaws.{strict_line, tolerant_line, unsent_line}
use Rattle.explain_packet.proofs.packet.Goals as goal

pub returns-then-strict : goal.returns-then-strict
returns-then-strict c =
    let a = c.args in
    let l = c.text.new.self in
    let p = puts_then _ _ c.fields.new.line c.count.new.line l c.count.ensures c.text.ensures in
    strict_line a.att a.src.now (encoded a.att a.src.now) a.line.now l _ c.in-Ok.ensures (sym c.strict.ensures ∙ c.if-strict.true)
    (puts_then _ _ a.line.now c.fields.new.line l c.fields.ensures p)

pub returns-else-strict : goal.returns-else-strict
returns-else-strict c =
    let a = c.args in
    let l = c.encodes.new.line in
    let p = puts_then _ _ c.fields.new.line c.count.new.line l c.count.ensures c.encodes.ensures in
    tolerant_line a.att a.src.now (encoded a.att a.src.now) a.line.now l _ c.in-Ok.ensures (sym c.strict.ensures ∙ c.if-strict.false)
    (puts_then _ _ a.line.now c.fields.new.line l c.fields.ensures p)

pub returns-in-Err : goal.returns-in-Err
returns-in-Err c =
    let a = c.args in
    unsent_line a.att a.src.now (encoded a.att a.src.now) a.line.now c.refused.new.line _ c.in-Err.ensures c.refused.ensures
