-- The permission decides between the error and the value; each is the reply of the book.
use Rattle.std.proofs.Common.{sym, ◌∙◌}
use Rattle.answers.specs.Contract.{lent_state}
use Rattle.serve_read.specs.ReadLaws.{read_denied, read_allowed}
use Rattle.serve_tell.specs.TellLaws.{tells_as}
use Rattle.serve_read.proofs.read.Goals as goal

pub returns-in-Err : goal.returns-in-Err
returns-in-Err c =
    let a = c.args in
    let e = c.error.ensures in
    let t = tells_as 0x0A a.out.now _ _ _ _ (e.value, e.out_after)
    (read_denied (lent_state a.lent) a.handle _ (sym c.may_read.ensures ∙ c.in-Err.is)) in
    record { value = t.0; out_after = t.1 }

pub returns-in-Ok : goal.returns-in-Ok
returns-in-Ok c =
    let a = c.args in
    let e = c.tell.ensures in
    let t = tells_as 0x0A a.out.now _ _ _ _ (e.value, e.out_after)
    (read_allowed (lent_state a.lent) a.handle _ _ (sym c.may_read.ensures ∙ c.in-Ok.is) c.value_at-value.ensures c.cut-len.ensures) in
    record { value = t.0; out_after = t.1 }
