-- The permission decides: the error, or the answer with the store.
use Rattle.std.proofs.Common.{ℕ, List, length, sym, ap, ◌∙◌}
use Rattle.att.specs.Typed.{part_of}
use Rattle.att.specs.Wire.{Coded}
use Rattle.attributes.specs.Records.{entries}
use Rattle.answers.specs.Replies.{Reply}
use Rattle.serve_permit.specs.Permit.{store_at, store_reply}
use Rattle.serve_tell.specs.Tell.{coded_of, out_by}
use Rattle.serve_change.specs.ChangesLaws.{says, write_sent}
use Rattle.serve_change.proofs.write.Goals as goal

pub returns-in-Ok : goal.returns-in-Ok
returns-in-Ok c =
    let a = c.args in
    let e = c.tell-told.ensures in
    let d = part_of a.«data» a.src.now in
    let q = ap (λ (v : List ℕ). store_at a.lent.link.encrypted a.handle (length v) (entries a.lent.table.now)) (sym c.part-value.ensures) ∙ sym c.may_store.ensures ∙ c.in-Ok.is in
    let g = ap (store_reply a.handle d) q in
    let s = write_sent ∙ sym (ap coded_of g) in
    record {
      result_value = says a.src.now (store_reply a.handle d (store_at a.lent.link.encrypted a.handle (length d) (entries a.lent.table.now))) 0x12 (length a.out.now) _ _ _ _ e.value
          s (sym (ap (λ (r : Reply). r.effect) g)) c.doing-in-Ok.ensures;
      out_after = e.out_after ∙ ap (λ (x : Coded). out_by x 0x12 a.out.now) s;
    }
