-- The permission decides: a store that is denied asks for nothing.
use Rattle.std.proofs.Common.{ℕ, Result, List, length, sym, ap, ◌∙◌}
use Rattle.att.specs.Typed.{part_of}
use Rattle.attributes.specs.Records.{entries}
use Rattle.serve_permit.specs.Permit.{store_at, store_reply}
use Rattle.att_error.specs.declared.AttErrorCode.{AttErrorCode}
use Rattle.serve_change.proofs.command.Goals as goal

pub returns-in-Err : goal.returns-in-Err
returns-in-Err c =
    let a = c.args in
    let q = ap (λ (v : List ℕ). store_at a.lent.link.encrypted a.handle (length v) (entries a.lent.table.now)) (sym c.part-value.ensures) ∙ sym c.may_store.ensures ∙ c.in-Err.is in
    sym (ap (λ (x : Result Unit AttErrorCode). (store_reply a.handle (part_of a.«data» a.src.now) x).effect) q)
