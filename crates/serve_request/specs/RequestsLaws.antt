-- The requests that change nothing; and an arm's answer is the reply to the request that was matched.
use Rattle.std.specs.Prelude.{ℕ, ◌≡◌, refl, List, length}
use Rattle.std.proofs.Common.{sym, subst}
use Rattle.att.specs.Typed.{show_req}
use Rattle.att.specs.declared.AttReq.{AttReq}
use Rattle.answers.proofs.Lists.{each}
use Rattle.answers.specs.Replies as book
use Rattle.answers.specs.Replies.{Reply, read_reply, blob_reply, range_ok}
use Rattle.answers.proofs.ReplyLaws.{by_pick, by_read, by_blob, by_listing}
use Rattle.answers.specs.Serve.{State}
use Rattle.answers.specs.View.{View}
use Rattle.answers.specs.declared.Link.{Link}
use Rattle.serve_search.specs.Search.{Asked}
use Rattle.serve_list.specs.Lists.{kind_ok, op_for, answer_for, found_in, list_reply}
use Rattle.serve_tell.specs.Tell.{coded_of, wrote_by, out_by}
use Rattle.serve_tell.specs.declared.Wrote.{Wrote}
use Rattle.serve_change.specs.Changes.{done, meaning_of, said_of}
use Rattle.serve_change.specs.ChangesLaws.{says}
use Rattle.serve_change.specs.declared.Pending.TheVariants.{Nothing}
use Rattle.serve_change.specs.declared.Said.{Said}
use Rattle.serve_request.specs.Requests.{request_reply}

abbrev Quiet : Reply → Type 0
Quiet r = r.effect ≡ book.Nothing

pub read_quiet : (vs : List View) (l : Link) (h : ℕ) → (read_reply vs l h).effect ≡ book.Nothing
read_quiet vs l h = by_read Quiet (λ v. Unit) vs l h (each (λ v. Unit) vs (λ v. tt)) (λ code. refl) (λ v b u e f. refl)

pub blob_quiet : (vs : List View) (l : Link) (h o : ℕ) → (blob_reply vs l h o).effect ≡ book.Nothing
blob_quiet vs l h o = by_blob Quiet (λ v. Unit) vs l h o (each (λ v. Unit) vs (λ v. tt)) (λ code. refl) (λ v b u e f. refl)

pub list_quiet : (q : Asked) (vs : List View) (l : Link) → (list_reply q vs l).effect ≡ book.Nothing
unfolding list_reply
list_quiet q vs l =
    by_pick Quiet (range_ok q.from q.to) _ _
    (by_pick Quiet (kind_ok q.ask q.kind) _ _
    (by_listing Quiet (op_for q.ask) q.from (answer_for q.ask) (found_in q vs l) (λ h code. refl) (λ n is e. refl)) refl)
    refl

-- what went out and what takes place, of a reply
abbrev pub Says : List ℕ → Reply → ℕ → List ℕ → Said → List ℕ → Type 0
Says src r op out s w = (meaning_of src s ≡ said_of r op (length out)) × (w ≡ out_by (coded_of r) op out)

pub quietly : (src : List ℕ) (r : Reply) (op : ℕ) (out w : List ℕ) (t : Wrote) (s : Said) → (t ≡ wrote_by (coded_of r) op (length out)) × (w ≡ out_by (coded_of r) op out)
    → r.effect ≡ book.Nothing → s ≡ done t Nothing → Says src r op out s w
quietly src r op out w t s h e d = (says src r op (length out) t Nothing s (coded_of r) h.0 refl (sym e) d, h.1)

module _ (till : State) (src out w : List ℕ) (s : Said) where
  pub arm : (r q : AttReq) → r ≡ q → Says src (request_reply till src q) (show_req q).opcode out s w
      → Says src (request_reply till src r) (show_req r).opcode out s w
  arm r q e h = subst (λ (x : AttReq). Says src (request_reply till src x) (show_req x).opcode out s w) (sym e) h

  pub quiet_arm : (r q : AttReq) → r ≡ q → (x : Wrote)
      → (x ≡ wrote_by (coded_of (request_reply till src q)) (show_req q).opcode (length out)) × (w ≡ out_by (coded_of (request_reply till src q)) (show_req q).opcode out)
      → (request_reply till src q).effect ≡ book.Nothing → s ≡ done x Nothing → Says src (request_reply till src r) (show_req r).opcode out s w
  quiet_arm r q e x h n d = arm r q e (quietly src (request_reply till src q) (show_req q).opcode out w x s h n d)
