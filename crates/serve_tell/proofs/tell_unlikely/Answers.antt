-- The error is always sendable, so what is written is its bytes, or nothing where there is no room.
use Rattle.std.proofs.Common.{false, ap, ◌∙◌}
use Rattle.att.specs.Typed.{written_of, laid_of}
use Rattle.att.specs.Wire.{Coded}
use Rattle.serve_tell.specs.Tell.{wrote}
use Rattle.serve_tell.specs.TellLaws.{unlikely_told, unlikely_sent}
use Rattle.serve_tell.proofs.tell_unlikely.Goals as goal

pub returns : goal.returns
returns c =
    let a = c.args in
    let s = unlikely_sent a.op in
    record {
      value = ap (λ n. wrote n false) c.unwrap_or.ensures ∙ unlikely_told a.op a.out.now _ (c.encode.ensures.value ∙ ap (λ (k : Coded). written_of k a.out.now) s);
      out_after = c.encode.ensures.out_after ∙ ap (λ (k : Coded). laid_of k a.out.now) s;
    }
