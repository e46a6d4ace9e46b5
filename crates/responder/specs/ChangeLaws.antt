-- What a packet asks for of a sound table is carried out as the book has it, and of any other it asks for nothing: so the responder
-- hands back what the book's responder gives.
use Rattle.std.specs.Prelude.{ℕ, Bool, true, false, ◌≡◌, refl, List, length, Result, Ok, Err}
use Rattle.std.specs.Result.{result_unwrap_or}
use Rattle.std.proofs.Common.{sym, ◌∙◌, subst}
use Rattle.std.proofs.Math.Path.{ap}
use Rattle.attributes.proofs.StoreLaws.{own_store_lem}
use Rattle.attributes.specs.Stores.{stored, stored_live}
use Rattle.attributes.specs.Additions.{table_after}
use Rattle.codec.specs.declared.Refusal.{Refusal}
use Rattle.attributes.specs.declared.Table.{Table}
use Rattle.answers.specs.Contract.{state_of, answer_of, out_after, served_as}
use Rattle.answers.specs.Replies.{Effect, Nothing, Stores, Agrees}
use Rattle.answers.specs.Serve.{State, sound, changed, store, own_store, serve_refusal, answered, asks, serve}
use Rattle.answers.specs.declared.Answer.{Answer}
use Rattle.answers.specs.declared.Link.{Link}
use Rattle.answers.specs.declared.Served.{Served}
use Rattle.serve_change.specs.Changes.{meant_by}
use Rattle.serve_change.specs.declared.Pending.{Pending}
use Rattle.serve_packet.specs.Packets.{replied_as, replied_to}
use Rattle.serve_packet.specs.declared.Replied.{Replied}
use Rattle.responder.specs.Change.{carried_out, served_by}

-- a store of the responder's is the till's own, for a sound table
sound_change : (s : State) → sound s ≡ true → (e : Effect) → carried_out s e ≡ changed s e
unfolding sound store own_store
sound_change s k Nothing = refl
sound_change s k (Agrees mtu) = refl
sound_change s k (Stores h v) =
    let o = own_store_lem s.table h v s.fixed s.live k in
    ap (λ (t : Table). state_of t s.link s.fixed (stored_live s.table h v s.fixed s.live)) o.1
    ∙ ap (λ (l : List ℕ). state_of (store s h v).table s.link s.fixed l) o.2

unsound_asks : (s : State) (src : List ℕ) (room : ℕ) → sound s ≡ false → asks s src room ≡ Nothing
unfolding asks serve_refusal
unsound_asks s src room k = rw k

asked_change : (s : State) (src : List ℕ) (room : ℕ) → carried_out s (asks s src room) ≡ changed s (asks s src room)
asked_change s src room = by (sound s) refl
  where
    by : (b : Bool) → sound s ≡ b → carried_out s (asks s src room) ≡ changed s (asks s src room)
    by true k = sound_change s k (asks s src room)
    by false k = let e = unsound_asks s src room k in ap (carried_out s) e ∙ sym (ap (changed s) e)

-- what is handed back
module _ (s : State) (src out : List ℕ) (h : Replied) (r : Served) (w o : List ℕ) where
  pub served_said : replied_as src h ≡ replied_to s src (length out) → o ≡ out_after (answered s src (length out)) out
      → (r ≡ served_by h.answer (carried_out s (meant_by src h.effect))) × (w ≡ (carried_out s (meant_by src h.effect)).live)
      → (r ≡ served_as (serve s src (length out))) × ((w ≡ (serve s src (length out)).state.live) × (o ≡ out_after (serve s src (length out)).heard out))
  unfolding serve
  served_said a b d =
      let c = asked_change s src (length out) in (
        d.0 ∙ ap (λ (y : Answer × Effect). served_by y.0 (carried_out s y.1)) a ∙ ap (served_by (answer_of (answered s src (length out)))) c,
        (d.1 ∙ ap (λ (y : Answer × Effect). (carried_out s y.1).live) a ∙ ap (λ (y : State). y.live) c, b),
      )

-- the effect that was matched, and a store of the part that was cut out
pub change_as : (a : Answer) (s : State) (src : List ℕ) (r : Served) (w : List ℕ) (e f : Pending) → e ≡ f
    → (r ≡ served_by a (carried_out s (meant_by src f))) × (w ≡ (carried_out s (meant_by src f)).live)
    → (r ≡ served_by a (carried_out s (meant_by src e))) × (w ≡ (carried_out s (meant_by src e)).live)
change_as a s src r w e f q h =
    subst (λ (x : Pending). (r ≡ served_by a (carried_out s (meant_by src x))) × (w ≡ (carried_out s (meant_by src x)).live)) (sym q) h

-- a refusal leaves the table that a caller has
after_is : (t : Table) (x : Result Table Refusal) → result_unwrap_or x t ≡ table_after t x
after_is t (Ok n) = refl
after_is t (Err why) = refl

pub stores_as : (a : Answer) (t u : Table) (l : Link) (h : ℕ) (v fixed live n : List ℕ) (x : Result Table Refusal) (w : List ℕ)
    → (x ≡ stored t h n fixed live) × (w ≡ stored_live t h n fixed live) → u ≡ result_unwrap_or x t → n ≡ v
    → (◌≡◌ {A = Served} (record { answer = a; table = u; link = l }) (served_by a (carried_out (state_of t l fixed live) (Stores h v))))
    × (w ≡ (carried_out (state_of t l fixed live) (Stores h v)).live)
unfolding own_store
stores_as a t u l h v fixed live n x w q k e = (
  ap (λ (y : Table). served_by a (state_of y l fixed live)) (k ∙ after_is t x ∙ ap (table_after t) q.0)
      ∙ ap (λ (m : List ℕ). served_by a (state_of (table_after t (stored t h m fixed live)) l fixed live)) e,
  q.1 ∙ ap (λ (m : List ℕ). stored_live t h m fixed live) e,
)
