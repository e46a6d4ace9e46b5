-- What encoding answered says what is shown of it.
use Rattle.std.proofs.Common.{sym, refl, replicate}
use Rattle.att.specs.Typed.{encoded}
use Rattle.text_put.specs.PutLaws.{puts_then}
use Rattle.explain_packet.specs.PacketsLaws.{encodes_done, encodes_refused}
use Rattle.explain_packet.proofs.encodes.Goals as goal

pub returns-in-Ok : goal.returns-in-Ok
returns-in-Ok c =
    let a = c.args in
    let e = encodes_done (replicate 2048 0) refl (encoded a.att a.src.now) _ _ (sym c.in-Ok.ensures.value) c.in-Ok.ensures.out_after in
    rw (e, sym c.first.ensures) c.hex.ensures

pub returns-in-Err : goal.returns-in-Err
returns-in-Err c =
    let a = c.args in
    let e = encodes_refused (replicate 2048 0) refl (encoded a.att a.src.now) _ (sym c.in-Err.ensures.value) in
    rw e (puts_then _ _ a.line.now c.text.new.self c.refused.new.line c.text.ensures c.refused.ensures)
