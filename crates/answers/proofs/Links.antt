-- What packets do to the link: an MTU stays within 23 and 247, and after the exchange no packet changes the link. By the walk over all
-- replies: only 02 asks for a new MTU.
use Prim.Native.Nat.{ℕ, ◌≤◌}
use mathlib.Core.Bool.{Bool, true, false}
use mathlib.Core.Path.{◌≡◌, refl, sym, ◌∙◌, ap}
use mathlib.Core.List.{List, [], ◌∷◌}
use native.Mathlib.Omega.{arith}
use borrow.Author.Tests.{le-leb}
use Rattle.codec.specs.CasesLaws.{join}
use Rattle.att.specs.Wire.{shape_of, shape_means}
use Rattle.answers.specs.View.{View}
use Rattle.answers.specs.Replies.{Effect, Nothing, Stores, Agrees, Reply, nth, commanded, reply_to, mtu_ok, link_ok}
use Rattle.answers.proofs.ReplyLaws.{Leaves, by_exchange, by_write, by_packets, by_reply, by_asks}
use Rattle.answers.specs.Serve.{State, views, changed, asks, Send, after}
use Rattle.answers.specs.declared.Link.{Link}
use Rattle.answers.proofs.Steps.{send_is, store_link}

-- an effect on a link: an MTU within its bounds, on a link that had no exchange
abbrev Fine : Bool → Effect → Type 0
Fine exchanged Nothing = Unit
Fine exchanged (Stores h v) = Unit
Fine exchanged (Agrees mtu) = (23 ≤ mtu) × (mtu ≤ 247) × (exchanged ≡ false)

module _ (vs : List View) (l : Link) where
  Good : Reply → Type 0
  Good r = Fine l.exchanged r.effect

  leaves : (op : ℕ) (ns t : List ℕ) → Leaves vs l op ns t Good
  unfolding Good commanded
  leaves op ns t = record {
    requests = by_packets Good vs l op ns t (λ m. tt) (λ q. by_exchange Good l (nth ns 0) tt (λ e. (omega arith, omega arith, e)))
        (λ q. by_write Good vs (nth ns 0) t (λ code. tt) tt);
    quiet = tt;
    commands = λ q. by_write Good vs (nth ns 0) t (λ code. tt) tt;
  }

  good_reply : (p : List ℕ) → Fine l.exchanged (reply_to vs l p).effect
  unfolding Good reply_to
  good_reply [] = tt
  good_reply (op ∷ p) = by_reply Good vs l op p (leaves op (shape_means op (shape_of op) p).numbers (shape_means op (shape_of op) p).tail)

fine_asked : (s : State) (p : List ℕ) (room : ℕ) → Fine s.link.exchanged (asks s p room)
fine_asked s p room = by_asks (Fine s.link.exchanged) s p room (good_reply (views s) s.link p) tt

-- A LINK WITHIN ITS BOUNDS STAYS SO, whatever it sends.
pub link_stays_good : (s : State) (p : List ℕ) (room : ℕ) → link_ok s.link ≡ true → link_ok (after s (Send p room)).link ≡ true
unfolding link_ok mtu_ok
link_stays_good s p room good =
    ap (λ (t : State). link_ok t.link) (send_is s p room) ∙ by (asks s p room) (fine_asked s p room)
  where
    by : (x : Effect) → Fine s.link.exchanged x → link_ok (changed s x).link ≡ true
    by Nothing f = good
    by (Stores h v) f = ap link_ok (store_link s h v) ∙ good
    by (Agrees mtu) f = join (le-leb 23 mtu f.0) (le-leb mtu 247 f.1)

-- ONE EXCHANGE: once it was made, no packet changes the link.
pub one_exchange : (s : State) (p : List ℕ) (room : ℕ) → s.link.exchanged ≡ true → (after s (Send p room)).link ≡ s.link
one_exchange s p room made = ap (λ (t : State). t.link) (send_is s p room) ∙ by (asks s p room) (fine_asked s p room)
  where
    by : (x : Effect) → Fine s.link.exchanged x → (changed s x).link ≡ s.link
    by Nothing f = refl
    by (Stores h v) f = store_link s h v
    by (Agrees mtu) f = let z : ◌≡◌ {A = Bool} true false = sym made ∙ f.2 in let y : ◌≡◌ {A = ℕ} 0 1 = cc in absurd (omega arith)
