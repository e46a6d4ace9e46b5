-- The word's bytes are as many as its outline asks for, or they are not.
use Rattle.std.proofs.Common.{ℕ, ◌≤◌, ◌≡◌, ◌∙◌, sym, ap, Bool, true, false, not, refl, arith, Result, Ok, Err, length-take-le, take_at, eqb-true}
use Rattle.std.specs.Result.{result_eq}
use Rattle.std.proofs.Math.Dec.{eqb}
use borrow.Author.Tests.{eq-eqb}
use Rattle.ble_uuid.specs.Uuids.{sliced}
use Rattle.text_hex.specs.HexLaws.{other_bytes, same_bytes}
use Rattle.text_hex.specs.declared.HexError.{HexError}
use Rattle.text_hex.proofs.read_type.Goals as goal

same_ok : (f : HexError → HexError → Bool) (r : Result ℕ HexError) (n : ℕ) → not (result_eq eqb f r (Ok n)) ≡ false → r ≡ Ok n
same_ok f (Ok k) n h = by (eqb k n) refl h
  where
    by : (t : Bool) → eqb k n ≡ t → not t ≡ false → ◌≡◌ {A = Result ℕ HexError} (Ok k) (Ok n)
    by true e g = ap (λ (m : ℕ). Ok m) (eqb-true k n e)
    by false e g = cc
same_ok f (Err e) n h = cc

other_ok : (f : HexError → HexError → Bool) (r : Result ℕ HexError) (n : ℕ) → not (result_eq eqb f r (Ok n)) ≡ true → r ≡ Ok n → ⊥
other_ok f r n h e =
    let g : not (eqb n n) ≡ true = rw e at h in
    let k : not true ≡ true = rw (eq-eqb n n refl) at g in
    cc

pub returns-then-ne : goal.returns-then-ne
returns-then-ne c =
    other_bytes c.args.word.now c.in_ok-n.n c.decode.result (sym c.in_ok-n.ensures.ok_part ∙ c.outline.ensures.value)
    (rw c.in_ok-n.ensures.ok_part at c.outline.ensures.at_most) c.decode.ensures.value
    (other_ok _ _ _ (sym c.ne.ensures ∙ c.if-ne.true))

pub returns : goal.returns
returns c =
    let s = same_ok _ _ _ (sym c.ne.ensures ∙ c.if-ne.false) in
    let b = same_bytes c.args.word.now c.in_ok-n.n c.decode.new.out (sym c.in_ok-n.ensures.ok_part ∙ c.outline.ensures.value) (sym s ∙ c.decode.ensures.value) c.decode.ensures.out_after in
    let l : c.in_ok-n.n ≤ 16 = rw c.in_ok-n.ensures.ok_part at c.outline.ensures.at_most in
    let t = take_at c.reverse.new.self _ c.in_ok-n.n (omega (arith, c.reverse.ensures.len, length-take-le {A = ℕ})) in
    c.try_from.ensures ∙ ap sliced (t ∙ c.reverse.ensures.after ∙ b)
