-- Room is compared for each of the three parts before the first store; then each part is laid behind the one before it.
use Rattle.std.proofs.Common.{ℕ, ◌≡◌, refl, ap, ◌∙◌, ◌+◌, ◌++◌, Bool, true, false, List, append_assoc, arith, length, length-append, leb, Ok, Err}
use Rattle.codec.specs.Buffer.{over, laid, written}
use Rattle.codec.specs.BufferLaws.{done, appended}
use Rattle.codec.specs.Cases.{pick}
use Rattle.codec.specs.CasesLaws.{impossible}
use Rattle.codec.specs.declared.Error.TheVariants.{InsufficientSpace}
use Rattle.text_decimal.specs.Decimal.{decimal_text}
use Rattle.text_decimal.proofs.write_between.Goals as goal

-- a write that was not refused laid its bytes over the start
wrote : (bytes out m : List ℕ) (n : ℕ) → Ok n ≡ written bytes out → m ≡ laid bytes out → m ≡ over bytes out
wrote bytes out m n e w = by (leb (length bytes) (length out)) e w where
  by : (t : Bool) → Ok n ≡ pick t (Ok (length bytes)) (Err InsufficientSpace) → m ≡ pick t (over bytes out) out → m ≡ over bytes out
  by true e w = w
  by false e w = impossible (cc)

pub returns-clause-out_after : goal.returns-clause-out_after
returns-clause-out_after c =
    let b1 = c.args.front.now in
    let b2 = decimal_text c.args.n in
    let b3 = c.args.back.now in
    let o = c.args.out.now in
    let s = c.spell-d in
    let x = c.in_ok-write_bytes.ensures in
    let y = c.in_ok-write_bytes-2.ensures in
    let z = c.in_ok-b.ensures in
    let w = s.ensures.out_after ∙ ap decimal_text c.from.ensures in
    let q : s.result ≡ length b2 = s.ensures.prefix_len.1 ∙ ap length w in
    let p : length b1 + s.result ≡ length (b1 ++ b2) = simp length-append (omega (arith, q)) in
    let n : length b1 + s.result + length b3 ≡ length (b1 ++ b2 ++ b3) = simp length-append (omega (arith, q)) in
    rw append_assoc at
    (done (b1 ++ b2 ++ b3) o _ _ (omega arith) n
    (appended (b1 ++ b2) b3 o _ _ _ p (appended b1 b2 o _ _ _ refl (wrote _ _ _ _ x.value x.dest_after) (rw w at (wrote _ _ _ _ y.value y.dest_after))) (wrote _ _ _ _ z.value z.dest_after))).1
