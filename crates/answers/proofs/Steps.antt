-- A step of a sound state is what it asks for; and it keeps soundness, the records lengths apart, and, unless it is a change of
-- encryption, the encryption. The laws of the table say what a store does.
use Prim.Native.Nat.{ℕ}
use mathlib.Core.Bool.{true}
use mathlib.Core.Path.{◌≡◌, refl, ◌∙◌, ap, ap₂}
use mathlib.Core.List.{List, [], ◌∷◌, map}
use lib.ListN.{length}
use Rattle.attributes.proofs.Built.{stored_skeleton, stored_full}
use Rattle.attributes.specs.ListLaws.{length_map_first}
use Rattle.attributes.specs.Records.{skeleton}
use Rattle.attributes.proofs.StoreLaws as laws
use Rattle.attributes.specs.Stores.{put, relength}
use Rattle.attributes.specs.declared.Table.{Table}
use Rattle.answers.specs.Replies.{Effect, Nothing, Stores, Agrees}
use Rattle.answers.specs.Serve.{State, sound, ledger, store, changed, asks, serve, own_store, Step, Send, Store, Encrypt, after, run}
use Rattle.answers.specs.declared.Link.{Link}

-- A store, of states.
module _ (s : State) (h : ℕ) (v : List ℕ) where
  pub store_sound : sound s ≡ true → sound (store s h v) ≡ true
  unfolding sound store
  store_sound k = laws.store_sound s.table h v s.fixed s.live k

  pub store_ledger : sound s ≡ true → ledger (store s h v) ≡ map (put h v) (ledger s)
  unfolding sound ledger store
  store_ledger k = laws.store_ledger s.table h v s.fixed s.live k

  pub store_skeleton : skeleton (store s h v).table ≡ skeleton s.table
  unfolding store
  store_skeleton = laws.store_skeleton s.table h v

  pub store_link : (store s h v).link ≡ s.link
  unfolding store
  store_link = refl

  -- the till's own store is the store, whatever it answers
  pub own_is : sound s ≡ true → own_store s h v ≡ store s h v
  unfolding sound own_store store
  own_is k =
      let o = laws.own_store_lem s.table h v s.fixed s.live k in
      ap₂ {C = State} (λ (t : Table) (l : List ℕ). record { table = t; link = s.link; fixed = s.fixed; live = l }) o.1 o.2

-- The state after a packet is what it asks for, and after an own store in a sound state the store.
pub send_is : (s : State) (p : List ℕ) (room : ℕ) → after s (Send p room) ≡ changed s (asks s p room)
unfolding after serve
send_is s p room = refl

pub store_is : (s : State) (h : ℕ) (v : List ℕ) → sound s ≡ true → after s (Store h v) ≡ store s h v
unfolding after
store_is s h v k = own_is s h v k

-- what an effect keeps
kept_sound : (s : State) (x : Effect) → sound s ≡ true → sound (changed s x) ≡ true
unfolding sound
kept_sound s Nothing k = k
kept_sound s (Stores h v) k = store_sound s h v k
kept_sound s (Agrees mtu) k = k

kept_skeleton : (s : State) (x : Effect) → skeleton (changed s x).table ≡ skeleton s.table
kept_skeleton s Nothing = refl
kept_skeleton s (Stores h v) = store_skeleton s h v
kept_skeleton s (Agrees mtu) = refl

kept_encrypted : (s : State) (x : Effect) → (changed s x).link.encrypted ≡ s.link.encrypted
unfolding store
kept_encrypted s Nothing = refl
kept_encrypted s (Stores h v) = refl
kept_encrypted s (Agrees mtu) = refl

-- what a step keeps
pub after_sound : (s : State) (e : Step) → sound s ≡ true → sound (after s e) ≡ true
unfolding sound after
after_sound s (Send p room) k = ap sound (send_is s p room) ∙ kept_sound s (asks s p room) k
after_sound s (Store h v) k = ap sound (store_is s h v k) ∙ store_sound s h v k
after_sound s (Encrypt e) k = k

pub after_skeleton : (s : State) (e : Step) → skeleton (after s e).table ≡ skeleton s.table
unfolding after own_store
after_skeleton s (Send p room) = ap (λ (x : State). skeleton x.table) (send_is s p room) ∙ kept_skeleton s (asks s p room)
after_skeleton s (Store h v) = stored_skeleton s.table h v s.fixed s.live
after_skeleton s (Encrypt e) = refl

-- the array has its length
kept_full : (s : State) (x : Effect) → length (changed s x).table.records ≡ length s.table.records
unfolding store
kept_full s Nothing = refl
kept_full s (Stores h v) = length_map_first s.table.count (relength h (length v)) s.table.records
kept_full s (Agrees mtu) = refl

pub after_full : (s : State) (e : Step) → length s.table.records ≡ 64 → length (after s e).table.records ≡ 64
unfolding after own_store
after_full s (Send p room) f = ap (λ (x : State). length x.table.records) (send_is s p room) ∙ kept_full s (asks s p room) ∙ f
after_full s (Store h v) f = stored_full s.table h v s.fixed s.live f
after_full s (Encrypt e) f = f

pub sent_encrypted : (s : State) (p : List ℕ) (room : ℕ) → (after s (Send p room)).link.encrypted ≡ s.link.encrypted
sent_encrypted s p room = ap (λ (x : State). x.link.encrypted) (send_is s p room) ∙ kept_encrypted s (asks s p room)

pub stored_encrypted : (s : State) (h : ℕ) (v : List ℕ) → sound s ≡ true → (after s (Store h v)).link.encrypted ≡ s.link.encrypted
stored_encrypted s h v k = ap (λ (x : State). x.link.encrypted) (store_is s h v k) ∙ ap (λ (l : Link). l.encrypted) (store_link s h v)

pub run_sound : (s : State) (es : List Step) → sound s ≡ true → sound (run s es) ≡ true
unfolding run
run_sound s [] k = k
run_sound s (e ∷ es) k = run_sound (after s e) es (after_sound s e k)

pub run_skeleton : (s : State) (es : List Step) → skeleton (run s es).table ≡ skeleton s.table
unfolding run
run_skeleton s [] = refl
run_skeleton s (e ∷ es) = run_skeleton (after s e) es ∙ after_skeleton s e
