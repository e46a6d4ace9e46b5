-- The encoder's two answers, each with what goes out; and the error that goes out is always sendable.
use Rattle.std.specs.Prelude.{ℕ, ◌<◌, ◌^◌, Bool, ◌≡◌, refl, List, [], length, leb, ltb, Result, Ok, Err}
use Rattle.std.specs.Result.{result_unwrap_or}
use Rattle.std.proofs.Math.Bool.{true, false}
use Rattle.std.proofs.Common.{ap, ◌∙◌, arith, ltb-false}
use Rattle.std.proofs.lemmas.Bool.{lt-leb}
use Rattle.codec.specs.CasesLaws.{impossible}
use Rattle.codec.specs.Buffer.{over, laid, written}
use Rattle.codec.specs.Cases.{pick}
use Rattle.codec.specs.declared.Error.{Error}
use Rattle.codec.specs.declared.Error.TheVariants.{InsufficientSpace}
use Rattle.att.specs.Wire.{rows, shape_of, Coded, Sent, NotSent, send}
use Rattle.att.specs.Typed.{code, countable, show_rsp, part_ok, means_shown, encoded_shown, written_of, laid_of}
use Rattle.att_error.specs.declared.AttErrorCode.{AttErrorCode}
use Rattle.att.specs.declared.AttRsp.{AttRsp}
use Rattle.att.specs.declared.AttRsp.TheVariants as rsp
use Rattle.answers.specs.Replies.{error_packet}
use Rattle.answers.specs.Serve.{unlikely}
use Rattle.serve_tell.specs.Tell.{wrote, packet_of, encoded_of, unlikely_wrote, wrote_by, out_by}
use Rattle.serve_tell.specs.declared.Wrote.{Wrote}

module _ (op : ℕ) (out : List ℕ) where
  pub done_tells : (c : Coded) (n : ℕ) → written_of c out ≡ Ok n → (wrote n true ≡ wrote_by c op (length out)) × (laid_of c out ≡ out_by c op out)
  done_tells (Sent b) n e = by (leb (length b) (length out)) e where
    by : (t : Bool) → pick t (Ok (length b)) (Err InsufficientSpace) ≡ Ok n
        → (wrote n true ≡ pick t (wrote (length b) true) (unlikely_wrote op (length out))) × (pick t (over b out) out ≡ pick t (over b out) (laid (unlikely op) out))
    by true q = let m : length b ≡ n = cc in (rw m, refl)
    by false q = impossible (cc)
  done_tells NotSent n e = impossible (cc)

  pub refused_tells : (c : Coded) (w : Error) → written_of c out ≡ Err w
      → (laid_of c out ≡ out) × ((wrote_by c op (length out) ≡ unlikely_wrote op (length out)) × (out_by c op out ≡ laid (unlikely op) out))
  refused_tells (Sent b) w e = by (leb (length b) (length out)) e where
    by : (t : Bool) → pick t (Ok (length b)) (Err InsufficientSpace) ≡ Err w
        → (pick t (over b out) out ≡ out)
        × ((pick t (wrote (length b) true) (unlikely_wrote op (length out)) ≡ unlikely_wrote op (length out))
        × (pick t (over b out) (laid (unlikely op) out) ≡ laid (unlikely op) out))
    by true q = impossible (cc)
    by false q = (refl, (refl, refl))
  refused_tells NotSent w e = (refl, (refl, refl))

  pub unlikely_done : (n : ℕ) → written (unlikely op) out ≡ Ok n → wrote n false ≡ unlikely_wrote op (length out)
  unlikely_done n e = by (leb (length (unlikely op)) (length out)) e where
    by : (t : Bool) → pick t (Ok (length (unlikely op))) (Err InsufficientSpace) ≡ Ok n
        → wrote n false ≡ pick t (wrote (length (unlikely op)) false) (wrote 0 false)
    by true q = let m : length (unlikely op) ≡ n = cc in rw m
    by false q = impossible (cc)

  pub unlikely_refused : (w : Error) → written (unlikely op) out ≡ Err w → wrote 0 false ≡ unlikely_wrote op (length out)
  unlikely_refused w e = by (leb (length (unlikely op)) (length out)) e where
    by : (t : Bool) → pick t (Ok (length (unlikely op))) (Err InsufficientSpace) ≡ Err w
        → wrote 0 false ≡ pick t (wrote (length (unlikely op)) false) (wrote 0 false)
    by true q = impossible (cc)
    by false q = refl

-- what goes out where there may be no room for it
pub unlikely_told : (op : ℕ) (out : List ℕ) (r : Result ℕ Error) → r ≡ written (unlikely op) out → wrote (result_unwrap_or r 0) false ≡ unlikely_wrote op (length out)
unlikely_told op out r e = ap (λ (x : Result ℕ Error). wrote (result_unwrap_or x 0) false) e ∙ by (leb (length (unlikely op)) (length out))
  where
    by : (t : Bool) → wrote (result_unwrap_or (pick t (Ok (length (unlikely op))) (Err InsufficientSpace)) 0) false ≡ pick t (wrote (length (unlikely op)) false) (wrote 0 false)
    by true = refl
    by false = refl

pub unlikely_sent : (op : ℕ) → encoded_of (rsp.Error op 0 (code 0x0E)) [] ≡ Sent (unlikely op)
unfolding encoded_of encoded_shown means_shown send shape_of rows unlikely
unlikely_sent op = refl

-- an output of the machine is shorter than any length that the machine cannot count
module _ (op : ℕ) (out : List ℕ) (h : length out < 2 ^ 64) where
  countable_tells : (c : Coded) → (wrote_by (countable c) op (length out) ≡ wrote_by c op (length out)) × (out_by (countable c) op out ≡ out_by c op out)
  countable_tells NotSent = (refl, refl)
  countable_tells (Sent b) = by (ltb (length b) (2 ^ 64)) refl where
    by : (t : Bool) → ltb (length b) (2 ^ 64) ≡ t
        → (wrote_by (pick t (Sent b) NotSent) op (length out) ≡ wrote_by (Sent b) op (length out)) × (out_by (pick t (Sent b) NotSent) op out ≡ out_by (Sent b) op out)
    by true e = (refl, refl)
    by false e = let k = lt-leb (length b) (length out) (omega (arith, ltb-false (length b) (2 ^ 64) e)) in (rw k, rw k)

  pub encoded_tells : (r : AttRsp) (src : List ℕ)
      → (wrote_by (encoded_of r src) op (length out) ≡ wrote_by (packet_of r src) op (length out)) × (out_by (encoded_of r src) op out ≡ out_by (packet_of r src) op out)
  unfolding encoded_of encoded_shown packet_of
  encoded_tells r src = by (part_ok (show_rsp r).part src) where
    by : (t : Bool)
        → (wrote_by (pick t (countable (send (means_shown (show_rsp r) src))) NotSent) op (length out) ≡ wrote_by (pick t (send (means_shown (show_rsp r) src)) NotSent) op (length out))
        × (out_by (pick t (countable (send (means_shown (show_rsp r) src))) NotSent) op out ≡ out_by (pick t (send (means_shown (show_rsp r) src)) NotSent) op out)
    by true = countable_tells (send (means_shown (show_rsp r) src))
    by false = (refl, refl)

-- For those who tell: an answer whose part lies within its bytes is the packet that it shows.
pub packet_is : (r : AttRsp) (src : List ℕ) → part_ok (show_rsp r).part src ≡ true → packet_of r src ≡ send (means_shown (show_rsp r) src)
unfolding packet_of
packet_is r src e = rw e

pub error_is : (op h : ℕ) (c : AttErrorCode) → packet_of (rsp.Error op h c) [] ≡ send (error_packet op h c.value)
unfolding packet_of means_shown shape_of rows
error_is op h c = refl

pub tells_as : (op : ℕ) (out w : List ℕ) (r : Wrote) (k m : Coded) → (r ≡ wrote_by k op (length out)) × (w ≡ out_by k op out) → k ≡ m
    → (r ≡ wrote_by m op (length out)) × (w ≡ out_by m op out)
tells_as op out w r k m h e = (h.0 ∙ ap (λ (c : Coded). wrote_by c op (length out)) e, h.1 ∙ ap (λ (c : Coded). out_by c op out) e)

-- the same where code has the opcode as a number of its own
pub tells_by : (k : ℕ → Coded) (a op : ℕ) (out w : List ℕ) (r : Wrote) (m : Coded) → (r ≡ wrote_by (k a) a (length out)) × (w ≡ out_by (k a) a out) → a ≡ op → k op ≡ m
    → (r ≡ wrote_by m op (length out)) × (w ≡ out_by m op out)
tells_by k a op out w r m h e f =
    tells_as op out w r (k op) m (h.0 ∙ ap (λ (x : ℕ). wrote_by (k x) x (length out)) e, h.1 ∙ ap (λ (x : ℕ). out_by (k x) x out) e) f
