-- The two ways of an exchange; each is told with its effect.
use Rattle.std.proofs.Common.{length, ap, ◌∙◌}
use Rattle.att.specs.Wire.{Coded}
use Rattle.answers.specs.Replies.{exchange}
use Rattle.serve_tell.specs.Tell.{coded_of, wrote_by, out_by}
use Rattle.serve_tell.specs.declared.Wrote.{Wrote}
use Rattle.serve_change.specs.Changes.{done}
use Rattle.serve_change.specs.ChangesLaws.{exchanged_before, first_exchange}
use Rattle.serve_change.specs.declared.Pending.TheVariants.{Nothing, Agrees}
use Rattle.serve_change.proofs.exchange.Goals as goal

pub returns-then-link : goal.returns-then-link
returns-then-link c =
    let a = c.args in
    let e = c.error-told.ensures in
    let x = exchanged_before a.link a.mtu c.if-link.true in
    let k = e.value ∙ ap (λ (k : Coded). wrote_by k 0x02 (length a.out.now)) x.0 in
    record {
      value = c.doing.ensures ∙ ap (λ (t : Wrote). done t Nothing) k ∙ ap (done (wrote_by (coded_of (exchange a.link a.mtu)) 0x02 (length a.out.now))) x.1;
      out_after = e.out_after ∙ ap (λ (k : Coded). out_by k 0x02 a.out.now) x.0;
    }

pub returns : goal.returns
returns c =
    let a = c.args in
    let e = c.tell-told.ensures in
    let x = first_exchange a.link a.mtu c.if-link.false in
    let k = e.value ∙ ap (λ (k : Coded). wrote_by k 0x02 (length a.out.now)) x.0 in
    record {
      value = c.doing-2.ensures
          ∙ ap (λ (t : Wrote). done t (Agrees c.agreed.result)) k
          ∙ ap (done (wrote_by (coded_of (exchange a.link a.mtu)) 0x02 (length a.out.now))) (ap (λ n. Agrees n) c.agreed.ensures ∙ x.1);
      out_after = e.out_after ∙ ap (λ (k : Coded). out_by k 0x02 a.out.now) x.0;
    }
