-- What the encoder answers decides: the packet that was meant, or the error over an output that it left as it was.
use Rattle.std.proofs.Common.{ℕ, ◌<◌, ◌^◌, List, length, sym, ap, ◌∙◌, rules}
use Rattle.codec.specs.Buffer.{laid}
use Rattle.answers.specs.Serve.{unlikely}
use Rattle.serve_tell.specs.Tell.{encoded_of, unlikely_wrote}
use Rattle.serve_tell.specs.TellLaws.{done_tells, refused_tells, encoded_tells}
use Rattle.serve_tell.proofs.tell.Goals as goal

pub returns-in-Ok : goal.returns-in-Ok
returns-in-Ok c =
    let a = c.args in
    let short : length a.out.now < 2 ^ 64 = search rules in
    let d = done_tells a.op a.out.now (encoded_of a.rsp a.src.now) _ (sym c.encode.ensures.value ∙ c.in-Ok.is) in
    let g = encoded_tells a.op a.out.now short a.rsp a.src.now in
    record { value = d.0 ∙ g.0; out_after = c.encode.ensures.out_after ∙ d.1 ∙ g.1 }

pub returns-in-Err : goal.returns-in-Err
returns-in-Err c =
    let a = c.args in
    let short : length a.out.now < 2 ^ 64 = search rules in
    let d = refused_tells a.op a.out.now (encoded_of a.rsp a.src.now) _ (sym c.encode.ensures.value ∙ c.in-Err.is) in
    let g = encoded_tells a.op a.out.now short a.rsp a.src.now in
    let o = c.encode.ensures.out_after ∙ d.0 in
    record {
      value = c.tell_unlikely.ensures.value ∙ ap (λ (l : List ℕ). unlikely_wrote a.op (length l)) o ∙ sym d.1.0 ∙ g.0;
      out_after = c.tell_unlikely.ensures.out_after ∙ ap (λ (l : List ℕ). laid (unlikely a.op) l) o ∙ sym d.1.1 ∙ g.1;
    }
