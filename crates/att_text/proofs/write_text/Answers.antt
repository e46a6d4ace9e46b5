-- A code's own text is its text; a code without one is of the application or unknown, by the range.
use Rattle.std.proofs.Common.{inl, inr, ◌<◌, ◌⊎◌, ◌∙◌, arith}
use Rattle.att_error.specs.Texts.{application, unknown}
use Rattle.att_error.specs.TextsLaws.{text_own, text_shared, shared_application, shared_unknown}
use Rattle.att_text.proofs.write_text.Goals.{in_default-code-via-then-code-lt128, in_default-code-via-else-code-lt128+else-code-lt160}
use Rattle.att_text.proofs.write_text.Goals as goal

pub returns-in-Some-clause-value : goal.returns-in-Some-clause-value
returns-in-Some-clause-value c = rw (text_own c.args.code c.in-Some.text.now c.in-Some.ensures) c.write_bytes.ensures.value

pub returns-in-Some-clause-out_after : goal.returns-in-Some-clause-out_after
returns-in-Some-clause-out_after c = rw (text_own c.args.code c.in-Some.text.now c.in-Some.ensures) c.write_bytes.ensures.dest_after

pub returns-in-128-to-159-clause-value : goal.returns-in-128-to-159-clause-value
unfolding application
returns-in-128-to-159-clause-value c =
    let e = text_shared c.args.code c.in_default.ensures ∙ shared_application c.args.code (omega arith) (omega arith) in
    rw e c.write_between.ensures.value

pub returns-in-128-to-159-clause-out_after : goal.returns-in-128-to-159-clause-out_after
unfolding application
returns-in-128-to-159-clause-out_after c =
    let e = text_shared c.args.code c.in_default.ensures ∙ shared_application c.args.code (omega arith) (omega arith) in
    rw e c.write_between.ensures.out_after

pub returns-in_default-code-clause-value : goal.returns-in_default-code-clause-value
unfolding unknown
returns-in_default-code-clause-value c =
    let o : (c.args.code < 0x80) ⊎ (0x9F < c.args.code) =
    elim c.in_default-code.branch [ in_default-code-via-then-code-lt128 w ↦ inl (omega arith) | in_default-code-via-else-code-lt128+else-code-lt160 w ↦ inr (omega arith) ] in
    let e = text_shared c.args.code c.in_default.ensures ∙ shared_unknown c.args.code o in
    rw e c.write_between-in_default-code.ensures.value

pub returns-in_default-code-clause-out_after : goal.returns-in_default-code-clause-out_after
unfolding unknown
returns-in_default-code-clause-out_after c =
    let o : (c.args.code < 0x80) ⊎ (0x9F < c.args.code) =
    elim c.in_default-code.branch [ in_default-code-via-then-code-lt128 w ↦ inl (omega arith) | in_default-code-via-else-code-lt128+else-code-lt160 w ↦ inr (omega arith) ] in
    let e = text_shared c.args.code c.in_default.ensures ∙ shared_unknown c.args.code o in
    rw e c.write_between-in_default-code.ensures.out_after
