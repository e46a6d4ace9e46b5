-- Demand 3 over views: what a link hears does not depend on what it may not read.
--
-- One relation, `Agree`, is kept by each step. Answers are equal because a reply is a function of the view, the link and the packet
-- alone. The views after a store are a function of the records, lengths apart, and of the views before it; a store that the link may
-- not read leaves its views. Then by induction over the two sequences.
use Rattle.std.specs.Prelude.{Result}
use Prim.Native.Nat.{ℕ, ◌≤◌}
use mathlib.Core.Bool.{Bool, true, false}
use mathlib.Core.Path.{◌≡◌, refl, sym, ◌∙◌, ap, ap₂}
use mathlib.Core.List.{List, [], ◌∷◌, ◌++◌, map, map-map}
use native.Mathlib.Omega.{arith}
use lib.ListN.{length}
use lib.Dec.{eqb}
use borrow.Author.Tests.{eqb-true, ne_eqb}
use Rattle.codec.specs.Cases.{pick}
use Rattle.codec.specs.CasesLaws.{impossible, both}
use Rattle.codec.specs.declared.Refusal.{Refusal}
use Rattle.att.specs.Wire.{first}
use Rattle.attributes.specs.Additions.{fresh, fresh_item, layout}
use Rattle.attributes.specs.Ledger.{Item, holding, item, valued}
use Rattle.attributes.specs.ListLaws.{map_as}
use Rattle.attributes.specs.Records.{slot_of, entries, bare, skeleton, record_at}
use Rattle.attributes.specs.Soundness.{record_ok, slots_end, records_ok}
use Rattle.attributes.proofs.SoundnessLaws.{good, sound_parts}
use Rattle.attributes.proofs.StoreLaws.{grown_slot}
use Rattle.attributes.specs.Stores.{takes, put}
use Rattle.attributes.specs.declared.Addition.{Addition}
use Rattle.attributes.specs.declared.Record.{Record}
use Rattle.answers.specs.View.{View, view, Value, NoRead, may_read, unreadable, may_read_at}
use Rattle.answers.specs.Replies.{Effect, Nothing, Stores, Agrees, Reply, reply_to}
use Rattle.answers.specs.Serve.{State, agreed, sound, ledger, views, store, changed, Heard, spoken, does, serve_refusal, heard_by, effect_by, answered, asks, serve, Step, Send, Store, after, heard_of, run, hears}
use Rattle.answers.specs.Demand3.{made, Twins, none, packet, stores}
use Rattle.answers.specs.declared.Link.{Link}
use Rattle.answers.proofs.Lists.{zip_with, zip_map}
use Rattle.answers.proofs.Steps.{store_sound, store_ledger, store_skeleton, store_link, send_is, store_is, after_skeleton, sent_encrypted, stored_encrypted}

-- both sound, the same records lengths apart, equal views, equal links
pub record Agree (s t : State) : Type 0 where
  pub sound_left : sound s ≡ true
  pub sound_right : sound t ≡ true
  pub records : skeleton s.table ≡ skeleton t.table
  pub seen : views s ≡ views t
  pub links : s.link ≡ t.link

-- Whether the link may read, told from records.
abbrev pub may_of : Bool → Record → Bool
may_of e r = may_read e (holding r [])

abbrev pub may_read_in : Bool → ℕ → List Record → Bool
may_read_in e h rs = record_at h (may_of e) false rs

pub may_layout : (e : Bool) (h at : ℕ) (adds : List Addition) → may_read_in e h (layout at adds) ≡ may_read_at e h (made adds)
may_layout e h at [] = refl
may_layout e h at (a ∷ adds) =
    ap (pick (eqb a.handle h) (may_read e (fresh_item [] a))) (may_layout e h (slots_end at (fresh at a)) adds)

-- The ledger without its values is known from the records without their lengths.
abbrev frame : Item → Item
frame i = valued i []

abbrev framed : Record → Item
framed r = holding r []

frames : (s : State) → map frame (ledger s) ≡ map framed (skeleton s.table)
unfolding ledger
frames s =
    let l = entries s.table in
    map-map frame (item s.fixed s.live) l
    ∙ map_as framed (λ r. framed (bare r)) l (λ r. rw (grown_slot r.place 0)) ∙ sym (map-map framed bare l)

-- The views after a store, from the records without their lengths and the views before it.
seen_after : Bool → ℕ → List ℕ → List Record → List View → List View
seen_after e h v rs vs =
    zip_with (λ (f : Item) (w : View). pick (takes h (length v) f.handle f.slot) (view e (valued f v)) w) (map framed rs) vs

view_put : (e : Bool) (v : List ℕ) (i : Item) (b : Bool) → view e (pick b (valued i v) i) ≡ pick b (view e (valued i v)) (view e i)
view_put e v i true = refl
view_put e v i false = refl

store_views : (s : State) (h : ℕ) (v : List ℕ) → sound s ≡ true → views (store s h v) ≡ seen_after s.link.encrypted h v (skeleton s.table) (views s)
unfolding store seen_after
store_views s h v k =
    let e = s.link.encrypted in
    ap (map (view e)) (store_ledger s h v k) ∙ map-map (view e) (put h v) (ledger s)
    ∙ zip_map _ _ frame (view e) (ledger s) (λ i. view_put e v i (takes h (length v) i.handle i.slot))
    ∙ ap (λ (fs : List Item). zip_with (λ (f : Item) (w : View). pick (takes h (length v) f.handle f.slot) (view e (valued f v)) w) fs (views s)) (frames s)

-- A store to an attribute that the link may not read leaves the views. Records behind the one with the handle have greater handles.
not_shown : {A : Type 0} (b : Bool) (x y n : A) → b ≡ false → pick b x n ≡ pick b y n
not_shown true x y n e = impossible (cc)
not_shown false x y n e = refl

hidden_put : (e : Bool) (h : ℕ) (v x : List ℕ) (r : Record) (b : Bool) → (b ≡ true → may_of e r ≡ false)
    → view e (pick b (valued (holding r x) v) (holding r x)) ≡ view e (holding r x)
hidden_put e h v x r false k = refl
hidden_put e h v x r true k = rw (not_shown (may_of e r) (Value v) (Value x) (NoRead (unreadable (holding r x))) (k refl))

module _ (e : Bool) (h : ℕ) (v fixed live : List ℕ) (fl ll : ℕ) where
  beyond : (last at : ℕ) (rs : List Record) → records_ok fl ll last at rs ≡ true → h ≤ last
      → map (view e) (map (put h v) (map (item fixed live) rs)) ≡ map (view e) (map (item fixed live) rs)
  beyond last at [] o k = refl
  beyond last at (r ∷ rs) o k =
      let g = both (record_ok fl ll last at r) _ o in
      let up = (good fl ll last at r g.0).rises in
      rw (ne_eqb r.handle h (λ z. omega (arith, z, up)))
      (ap (λ (l : List View). view e (item fixed live r) ∷ l) (beyond r.handle (slots_end at r) rs g.1 (omega (arith, up))))

  hidden_puts : (last at : ℕ) (rs : List Record) → records_ok fl ll last at rs ≡ true → may_read_in e h (map bare rs) ≡ false
      → map (view e) (map (put h v) (map (item fixed live) rs)) ≡ map (view e) (map (item fixed live) rs)
  hidden_puts last at [] o k = refl
  hidden_puts last at (r ∷ rs) o k =
      let g = both (record_ok fl ll last at r) _ o in
      by (eqb r.handle h) refl k (λ q. beyond r.handle (slots_end at r) rs g.1 q) (hidden_puts r.handle (slots_end at r) rs g.1)
    where
      by : (b : Bool) → eqb r.handle h ≡ b → pick b (may_of e r) (may_read_in e h (map bare rs)) ≡ false
          → (h ≤ r.handle → map (view e) (map (put h v) (map (item fixed live) rs)) ≡ map (view e) (map (item fixed live) rs))
          → (may_read_in e h (map bare rs) ≡ false → map (view e) (map (put h v) (map (item fixed live) rs)) ≡ map (view e) (map (item fixed live) rs))
          → map (view e) (map (put h v) (map (item fixed live) (r ∷ rs))) ≡ map (view e) (map (item fixed live) (r ∷ rs))
      by true q m above next =
          ap₂ (λ (w : View) (l : List View). w ∷ l)
          (hidden_put e h v _ r (takes h (length v) r.handle (slot_of r.place)) (λ z. m))
          (above (omega (arith, eqb-true r.handle h q)))
      by false q m above next = rw q (ap (λ (l : List View). view e (item fixed live r) ∷ l) (next m))

store_hidden : (s : State) (h : ℕ) (v : List ℕ) → sound s ≡ true → may_read_in s.link.encrypted h (skeleton s.table) ≡ false
    → views (store s h v) ≡ views s
unfolding store ledger sound
store_hidden s h v k d =
    ap (map (view s.link.encrypted)) (store_ledger s h v k)
    ∙ hidden_puts s.link.encrypted h v s.fixed s.live (length s.fixed) (length s.live) 0 0 (entries s.table)
    (sound_parts s.table (length s.fixed) (length s.live) k).records d

-- A STORE OF TWO STATES: two values, equal where the link may read.
pub both_store : (s t : State) (h : ℕ) (v w : List ℕ) → (may_read_in s.link.encrypted h (skeleton s.table) ≡ true → v ≡ w) → Agree s t
    → Agree (store s h v) (store t h w)
both_store s t h v w f a = record {
  sound_left = store_sound s h v a.sound_left;
  sound_right = store_sound t h w a.sound_right;
  records = store_skeleton s h v ∙ a.records ∙ sym (store_skeleton t h w);
  seen = by (may_read_in s.link.encrypted h (skeleton s.table)) refl;
  links = store_link s h v ∙ a.links ∙ sym (store_link t h w);
}
  where
    same_next : seen_after s.link.encrypted h v (skeleton s.table) (views s) ≡ seen_after t.link.encrypted h v (skeleton t.table) (views t)
    same_next = rw (a.seen, a.records, a.links)

    by : (b : Bool) → may_read_in s.link.encrypted h (skeleton s.table) ≡ b → views (store s h v) ≡ views (store t h w)
    by true q =
        store_views s h v a.sound_left ∙ same_next ∙ sym (store_views t h v a.sound_right) ∙ ap (λ (x : List ℕ). views (store t h x)) (f q)
    by false q = store_hidden s h v a.sound_left q ∙ a.seen ∙ sym (store_hidden t h w a.sound_right (rw (a.records, a.links) at q))

-- the same effect on both sides
same_change : (s t : State) (x : Effect) → Agree s t → Agree (changed s x) (changed t x)
unfolding sound ledger
same_change s t Nothing a = a
same_change s t (Stores h v) a = both_store s t h v v (λ q. refl) a
same_change s t (Agrees mtu) a = record {
  sound_left = a.sound_left;
  sound_right = a.sound_right;
  records = a.records;
  seen = a.seen;
  links = ap (λ (l : Link). agreed l mtu) a.links;
}

-- What is heard and what is asked for are the same functions of the same things.
module _ (s t : State) (p : List ℕ) (room : ℕ) (a : Agree s t) where
  same_refusal : serve_refusal s p room ≡ serve_refusal t p room
  unfolding serve_refusal
  same_refusal = rw (a.sound_left, a.sound_right, a.links)

  same_reply : reply_to (views s) s.link p ≡ reply_to (views t) t.link p
  same_reply = rw (a.seen, a.links)

  same_heard : heard_of s (Send p room) ≡ heard_of t (Send p room)
  unfolding heard_of serve answered
  same_heard =
      ap₂ {C = List Heard} (λ (o : Result Unit Refusal) (q : Reply). heard_by o (spoken q.says (first p) room) ∷ []) same_refusal same_reply

  same_sent : Agree (after s (Send p room)) (after t (Send p room))
  unfolding asks
  same_sent =
      let same : asks s p room ≡ asks t p room =
      ap₂ (λ (o : Result Unit Refusal) (q : Reply). effect_by o (does q.says room q.effect)) same_refusal same_reply in
      rw (send_is s p room, send_is t p room, same) (same_change s t (asks t p room) a)

both_stored : (s t : State) (h : ℕ) (v w : List ℕ) → (may_read_in s.link.encrypted h (skeleton s.table) ≡ true → v ≡ w) → Agree s t
    → Agree (after s (Store h v)) (after t (Store h w))
both_stored s t h v w f a = rw (store_is s h v a.sound_left, store_is t h w a.sound_right) (both_store s t h v w f a)

pub demand3 : (encrypted : Bool) (adds : List Addition) {es fs : List Step} (s t : State) → s.link.encrypted ≡ encrypted
    → skeleton s.table ≡ layout 0 adds → Agree s t → Twins encrypted adds es fs
    → (hears s es ≡ hears t fs) × Agree (run s es) (run t fs) × (skeleton (run s es).table ≡ layout 0 adds)
unfolding hears run heard_of
demand3 encrypted adds s t c k a none = (refl, a, k)
demand3 encrypted adds s t c k a (packet p room x) =
    let e = Send p room in
    let r = demand3 encrypted adds (after s e) (after t e) (sent_encrypted s p room ∙ c)
    (after_skeleton s e ∙ k) (same_sent s t p room a) x in
    (ap₂ (λ (l m : List Heard). l ++ m) (same_heard s t p room a) r.0, r.1, r.2)
demand3 encrypted adds s t c k a (stores h v w f x) =
    demand3 encrypted adds (after s (Store h v)) (after t (Store h w)) (stored_encrypted s h v a.sound_left ∙ c)
    (after_skeleton s (Store h v) ∙ k)
    (both_stored s t h v w (λ q. f (sym (may_layout encrypted h 0 adds) ∙ rw (c, k) at q)) a) x
