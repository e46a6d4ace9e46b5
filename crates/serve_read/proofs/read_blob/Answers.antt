-- The permission, then the offset, decide between the errors and the part of the value; each is the reply of the book.
use Rattle.std.proofs.Common.{sym, ◌∙◌}
use Rattle.answers.specs.Contract.{lent_state}
use Rattle.serve_read.specs.ReadLaws.{blob_denied, blob_past, blob_allowed}
use Rattle.serve_tell.specs.TellLaws.{tells_as}
use Rattle.serve_read.proofs.read_blob.Goals as goal

pub returns-in-Err : goal.returns-in-Err
returns-in-Err c =
    let a = c.args in
    let e = c.error.ensures in
    let t = tells_as 0x0C a.out.now _ _ _ _ (e.value, e.out_after)
    (blob_denied (lent_state a.lent) a.handle a.offset _ (sym c.may_read.ensures ∙ c.in-Err.is)) in
    record { value = t.0; out_after = t.1 }

pub returns-then-value-at : goal.returns-then-value-at
returns-then-value-at c =
    let a = c.args in
    let e = c.error-then-value-at.ensures in
    let t = tells_as 0x0C a.out.now _ _ _ _ (e.value, e.out_after)
    (blob_past (lent_state a.lent) a.handle a.offset _ (sym c.may_read.ensures ∙ c.in-Ok.is) c.value_at-value.ensures c.if-value-at.true) in
    record { value = t.0; out_after = t.1 }

pub returns-else-value-at : goal.returns-else-value-at
returns-else-value-at c =
    let a = c.args in
    let e = c.tell.ensures in
    let t = tells_as 0x0C a.out.now _ _ _ _ (e.value, e.out_after)
    (blob_allowed (lent_state a.lent) a.handle a.offset _ _ (sym c.may_read.ensures ∙ c.in-Ok.is) c.value_at-value.ensures c.if-value-at.false c.cut-len.ensures) in
    record { value = t.0; out_after = t.1 }
