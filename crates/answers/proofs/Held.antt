-- The auditor's sentence, what is held: an attribute holds the value that was last accepted for it, and otherwise what it held; a
-- write reaches one handle only; a fixed value never changes. By induction over the steps, from what a store does to the ledger.
use Rattle.std.specs.Prelude.{Result, Ok, Err}
use Prim.Native.Nat.{ℕ, ◌/◌, ◌%◌}
use mathlib.Core.Bool.{Bool, true, false, ◌&&◌}
use mathlib.Core.Path.{◌≡◌, refl, sym, ◌∙◌, ap}
use mathlib.Core.List.{List, [], ◌∷◌, ◌++◌, map}
use native.Mathlib.Omega.{arith}
use lib.ListN.{length, drop}
use lib.Dec.{leb, eqb}
use borrow.Author.Tests.{eqb-true, eqb-false, eq-eqb, ne_eqb}
use Rattle.codec.specs.Cases.{pick}
use Rattle.codec.specs.CasesLaws.{impossible}
use Rattle.codec.specs.declared.Refusal.{Refusal}
use Rattle.primitives.specs.Numbers.{number_at}
use Rattle.att.specs.Wire.{meaning, rows, shape_of, strict, send}
use Rattle.attributes.specs.FindLaws.{first_two}
use Rattle.attributes.specs.Ledger.{Item, valued, value_at}
use Rattle.attributes.proofs.LedgerLaws.{put_here, put_other}
use Rattle.attributes.specs.Lists.{Each}
use Rattle.attributes.specs.Records.{Kept}
use Rattle.attributes.proofs.StoreLaws as laws
use Rattle.attributes.specs.Stores.{takes, put, slot_refusal, store_refusal, live_by}
use Rattle.answers.specs.Replies.{Packet, Effect, Nothing, Stores, Agrees, Reply, doing, error_packet, error, writing, write}
use Rattle.answers.specs.View.{View, Writing, UpTo, NoWrite}
use Rattle.answers.specs.Serve.{State, sound, ledger, views, changed, Bytes, unlikely, spoken, serve_refusal, heard_by, answered, asks, serve, own_outcome, Step, Send, Store, Encrypt, after, run}
use Rattle.answers.specs.Auditor.{accepted_of, Write, write_in, writes_of, passes, writable_at, takes_write, accepted_in, accepted, Elsewhere, last_for, slot_at}
use Rattle.answers.proofs.Lists.{each_keep}
use Rattle.answers.proofs.Steps.{store_ledger, send_is, store_is, after_sound}
use Rattle.answers.proofs.Writes.{allows_by, allows, allows_is, row_12, accepted_packet}

last_of_lem : (h k : ℕ) (v d : List ℕ) (o : Result Unit Refusal) → last_for k d (pick (passes o) ((h, v) ∷ []) []) ≡ live_by o (pick (eqb h k) v d) d
last_of_lem h k v d (Ok u) = refl
last_of_lem h k v d (Err why) = refl

same_by : (o : Result Unit Refusal) (d : List ℕ) → live_by o d d ≡ d
same_by (Ok u) d = refl
same_by (Err why) d = refl

put_value : (h k : ℕ) (v : List ℕ) (is : List Item) → value_at k (map (put h v) is) ≡ last_for k (value_at k is) (accepted_of (Stores h v) is)
put_value h k v is = decide (eqb h k) refl ∙ sym (last_of_lem h k v (value_at k is) (store_refusal h (length v) is))
  where
    decide : (x : Bool) → eqb h k ≡ x
        → value_at k (map (put h v) is) ≡ live_by (store_refusal h (length v) is) (pick (eqb h k) v (value_at k is)) (value_at k is)
    decide true e = rw e (rw (← eqb-true h k e) (put_here h v is))
    decide false e = rw e (put_other h v k is (eqb-false h k e) ∙ sym (same_by (store_refusal h (length v) is) (value_at k is)))

last_append : (k : ℕ) (d : List ℕ) (xs ys : List Write) → last_for k d (xs ++ ys) ≡ last_for k (last_for k d xs) ys
last_append k d [] ys = refl
last_append k d (x ∷ xs) ys = last_append k (pick (eqb x.0 k) x.1 d) xs ys

-- One step: what it asks for, and that the writes which the table takes of it are those that the book accepts.
changed_value : (s : State) (k : ℕ) (x : Effect) → sound s ≡ true
    → value_at k (ledger (changed s x)) ≡ last_for k (value_at k (ledger s)) (accepted_of x (ledger s))
unfolding ledger
changed_value s k Nothing e = refl
changed_value s k (Stores h v) e = ap (value_at k) (store_ledger s h v e) ∙ put_value h k v (ledger s)
changed_value s k (Agrees mtu) e = refl

own_accepted : (s : State) (h : ℕ) (v : List ℕ) → sound s ≡ true → own_outcome s h v ≡ store_refusal h (length v) (ledger s)
unfolding own_outcome sound ledger
own_accepted s h v k = (laws.own_store_lem s.table h v s.fixed s.live k).0

pub step_value : (s : State) (e : Step) (k : ℕ) → sound s ≡ true
    → value_at k (ledger (after s e)) ≡ last_for k (value_at k (ledger s)) (accepted_in s e)
unfolding ledger after accepted_in
step_value s (Send p room) k o =
    ap (λ (t : State). value_at k (ledger t)) (send_is s p room) ∙ changed_value s k (asks s p room) o
    ∙ ap (last_for k (value_at k (ledger s))) (accepted_packet s o p room)
step_value s (Store h v) k o =
    ap (λ (t : State). value_at k (ledger t)) (store_is s h v o) ∙ changed_value s k (Stores h v) o
    ∙ ap (λ (r : Result Unit Refusal). last_for k (value_at k (ledger s)) (pick (passes r) ((h, v) ∷ []) [])) (sym (own_accepted s h v o))
step_value s (Encrypt e) k o = refl

-- WHAT IS HELD at a handle is what was last written there, or what it was at the start.
pub held : (s : State) (es : List Step) (h : ℕ) → sound s ≡ true → value_at h (ledger (run s es)) ≡ last_for h (value_at h (ledger s)) (accepted s es)
unfolding run accepted
held s [] h k = refl
held s (e ∷ es) h k =
    held (after s e) es h (after_sound s e k)
    ∙ ap (λ (d : List ℕ). last_for h d (accepted (after s e) es)) (step_value s e h k)
    ∙ sym (last_append h (value_at h (ledger s)) (accepted_in s e) (accepted (after s e) es))

-- A WRITE REACHES ONE HANDLE ONLY: a step that says no write for a handle leaves the value there.
other_last : (k : ℕ) (was : List ℕ) (ws : List Write) → Each (λ (w : Write). w.0 ≡ k → ⊥) ws → last_for k was ws ≡ was
other_last k was [] a = refl
other_last k was (w ∷ ws) a = rw (ne_eqb w.0 k a.0) (other_last k was ws a.1)

each_if : (Q : Write → Type 0) (b : Bool) (w : Write) → Each Q (w ∷ []) → Each Q (pick b (w ∷ []) [])
each_if Q true w a = a
each_if Q false w a = tt

said_only : (Q : Write → Type 0) (s : State) (e : Step) → Each Q (writes_of e) → Each Q (accepted_in s e)
unfolding accepted_in
said_only Q s (Send p room) a = each_keep Q (takes_write s p room) (write_in p) a
said_only Q s (Store h v) a = each_if Q (passes (own_outcome s h v)) (h, v) a
said_only Q s (Encrypt e) a = tt

pub one_handle_only : (s : State) (e : Step) (k : ℕ) → sound s ≡ true → Elsewhere k e → value_at k (ledger (after s e)) ≡ value_at k (ledger s)
one_handle_only s e k o d =
    step_value s e k o ∙ other_last k (value_at k (ledger s)) (accepted_in s e) (said_only (λ (w : Write). w.0 ≡ k → ⊥) s e d)

-- NO WRITE IS LOST: what the book accepts of 12 and of 52, and an accepted own store, is what the handle holds from then on.
pub written_is_held : (s : State) (p : List ℕ) (room h : ℕ) (v : List ℕ) → sound s ≡ true → write_in p ≡ (h, v) ∷ [] → takes_write s p room (h, v) ≡ true
    → value_at h (ledger (after s (Send p room))) ≡ v
unfolding accepted_in
written_is_held s p room h v k says takes = step_value s (Send p room) h k ∙ rw (says, takes, eq-eqb h h refl)

pub stored_is_held : (s : State) (h : ℕ) (v : List ℕ) → sound s ≡ true → own_outcome s h v ≡ Ok tt → value_at h (ledger (after s (Store h v))) ≡ v
unfolding accepted_in
stored_is_held s h v k e = step_value s (Store h v) h k ∙ rw (e, eq-eqb h h refl)

-- A FIXED VALUE never changes. A store leaves the slots, and where nothing may be stored it is refused.
put_slot : (h k : ℕ) (v : List ℕ) (is : List Item) → slot_at k (map (put h v) is) ≡ slot_at k is
put_slot h k v [] = refl
put_slot h k v (i ∷ is) = by (takes h (length v) i.handle i.slot) (put_slot h k v is)
  where
    by : (b : Bool) → slot_at k (map (put h v) is) ≡ slot_at k is
        → pick (eqb (pick b (valued i v) i).handle k) (pick b (valued i v) i).slot (slot_at k (map (put h v) is)) ≡ pick (eqb i.handle k) i.slot (slot_at k is)
    by true e = rw e
    by false e = rw e

none_taken : (h n : ℕ) (is : List Item) → slot_at h is ≡ Kept → passes (store_refusal h n is) ≡ false
none_taken h n [] e = refl
none_taken h n (i ∷ is) e = by (eqb i.handle h) e (none_taken h n is)
  where
    by : (b : Bool) → pick b i.slot (slot_at h is) ≡ Kept → (slot_at h is ≡ Kept → passes (store_refusal h n is) ≡ false)
        → passes (pick b (slot_refusal n i.slot) (store_refusal h n is)) ≡ false
    by true e f = rw e
    by false e f = f e

module _ (h : ℕ) (s : State) (k : sound s ≡ true) where
  changed_slot : (x : Effect) → slot_at h (ledger (changed s x)) ≡ slot_at h (ledger s)
  unfolding ledger
  changed_slot Nothing = refl
  changed_slot (Stores j v) = ap (slot_at h) (store_ledger s j v k) ∙ put_slot j h v (ledger s)
  changed_slot (Agrees mtu) = refl

  step_slot : (e : Step) → slot_at h (ledger (after s e)) ≡ slot_at h (ledger s)
  unfolding ledger after
  step_slot (Send p room) = ap (λ (t : State). slot_at h (ledger t)) (send_is s p room) ∙ changed_slot (asks s p room)
  step_slot (Store j v) = ap (λ (t : State). slot_at h (ledger t)) (store_is s j v k) ∙ changed_slot (Stores j v)
  step_slot (Encrypt e) = refl

  kept_value : (x : Effect) → slot_at h (ledger s) ≡ Kept → value_at h (ledger (changed s x)) ≡ value_at h (ledger s)
  kept_value x f = changed_value s h x k ∙ by x
    where
      same : (j : ℕ) (v : List ℕ) (b : Bool) → eqb j h ≡ b → last_for h (value_at h (ledger s)) (accepted_of (Stores j v) (ledger s)) ≡ value_at h (ledger s)
      same j v true q =
          let e : passes (store_refusal j (length v) (ledger s)) ≡ false = none_taken j (length v) (ledger s) (rw (eqb-true j h q) f) in
          ap (λ (b : Bool). last_for h (value_at h (ledger s)) (pick b ((j, v) ∷ []) [])) e
      same j v false q =
          other_last h (value_at h (ledger s)) (accepted_of (Stores j v) (ledger s))
          (each_if (λ (w : Write). w.0 ≡ h → ⊥) (passes (store_refusal j (length v) (ledger s))) (j, v) (eqb-false j h q, tt))

      by : (x : Effect) → last_for h (value_at h (ledger s)) (accepted_of x (ledger s)) ≡ value_at h (ledger s)
      by Nothing = refl
      by (Stores j v) = same j v (eqb j h) refl
      by (Agrees mtu) = refl

  step_kept : (e : Step) → slot_at h (ledger s) ≡ Kept → value_at h (ledger (after s e)) ≡ value_at h (ledger s)
  unfolding ledger after
  step_kept (Send p room) f = ap (λ (t : State). value_at h (ledger t)) (send_is s p room) ∙ kept_value (asks s p room) f
  step_kept (Store j v) f = ap (λ (t : State). value_at h (ledger t)) (store_is s j v k) ∙ kept_value (Stores j v) f
  step_kept (Encrypt e) f = refl

pub fixed_stays : (s : State) (es : List Step) (h : ℕ) → sound s ≡ true → slot_at h (ledger s) ≡ Kept
    → value_at h (ledger (run s es)) ≡ value_at h (ledger s)
unfolding run
fixed_stays s [] h k f = refl
fixed_stays s (e ∷ es) h k f =
    fixed_stays (after s e) es h (after_sound s e k) (step_slot h s k e ∙ f) ∙ step_kept h s k e f

-- 13 MEANS STORED: a 12 that is answered 13 was accepted, and its data is what its handle holds from then on.
module _ (room : ℕ) where
  -- an error starts with 01, and so does 0E in its place
  not_13 : (h code : ℕ) → spoken (Packet (error_packet 0x12 h code)) 0x12 room ≡ Bytes (0x13 ∷ []) → ⊥
  unfolding unlikely send shape_of rows
  not_13 h code = by (leb 5 room)
    where
      by : (b : Bool) → pick b (Bytes (0x01 ∷ 0x12 ∷ h % 256 ∷ h / 256 % 256 ∷ code % 256 ∷ [])) (Bytes (unlikely 0x12)) ≡ Bytes (0x13 ∷ []) → ⊥
      by true e = let z : ◌≡◌ {A = ℕ} 0x01 0x13 = cc in omega arith
      by false e = let z : ◌≡◌ {A = ℕ} 0x01 0x13 = cc in omega arith

  ack_writing : (h : ℕ) (d : List ℕ) (w : Writing) → spoken (writing h d w).says 0x12 room ≡ Bytes (0x13 ∷ []) → allows_by (length d) w ≡ true
  unfolding writing
  ack_writing h d (UpTo c) e = by (leb (length d) c) e
    where
      by : (b : Bool) → spoken (pick b (doing (Packet (meaning 0x13 [] [])) (Stores h d)) (error 0x12 h 0x0D)).says 0x12 room ≡ Bytes (0x13 ∷ []) → b ≡ true
      by true e = refl
      by false e = absurd (not_13 h 0x0D e)
  ack_writing h d (NoWrite code) e = absurd (not_13 h code e)

  ack_write : (vs : List View) (h : ℕ) (d : List ℕ) → spoken (write vs h d).says 0x12 room ≡ Bytes (0x13 ∷ []) → allows h (length d) vs ≡ true
  unfolding write
  ack_write vs h d =
      first_two (λ (r : Reply) (b : Bool). spoken r.says 0x12 room ≡ Bytes (0x13 ∷ []) → b ≡ true) (λ (v : View). v.handle) h
      (λ (v : View). writing h d v.writing) (λ (v : View). allows_by (length d) v.writing) (error 0x12 h 0x01) false vs
      (λ v q. ack_writing h d v.writing) (λ e. absurd (not_13 h 0x01 e))

  ack_takes : (s : State) (p : List ℕ) → (serve s (0x12 ∷ p) room).heard ≡ Bytes (0x13 ∷ []) → takes_write s (0x12 ∷ p) room (number_at 2 0 p, drop 2 p) ≡ true
  unfolding serve answered takes_write
  ack_takes s p = by (serve_refusal s (0x12 ∷ p) room) (leb (length (0x12 ∷ p)) s.link.mtu) (strict (0x12 ∷ p)) _ (row_12 (views s) s.link p)
    where
      by : (o : Result Unit Refusal) (a c : Bool) (r : Reply) → r ≡ pick a (pick c (write (views s) (number_at 2 0 p) (drop 2 p)) (error 0x12 0 0x04)) (error 0x12 0 0x04)
          → heard_by o (spoken r.says 0x12 room) ≡ Bytes (0x13 ∷ [])
          → (passes o && (a && (c && writable_at s.link.encrypted (number_at 2 0 p, drop 2 p) (ledger s)))) ≡ true
      by (Ok u) true true r q e =
          sym (allows_is s.link.encrypted (number_at 2 0 p) (drop 2 p) (ledger s)) ∙ ack_write (views s) (number_at 2 0 p) (drop 2 p) (rw q at e)
      by (Ok u) true false r q e = absurd (not_13 0 0x04 (rw q at e))
      by (Ok u) false c r q e = absurd (not_13 0 0x04 (rw q at e))
      by (Err why) a c r q e = impossible (cc)

pub acknowledged : (s : State) (p : List ℕ) (room : ℕ) → sound s ≡ true → (serve s (0x12 ∷ p) room).heard ≡ Bytes (0x13 ∷ [])
    → (takes_write s (0x12 ∷ p) room (number_at 2 0 p, drop 2 p) ≡ true) × (value_at (number_at 2 0 p) (ledger (after s (Send (0x12 ∷ p) room))) ≡ drop 2 p)
acknowledged s p room k e =
    let t = ack_takes room s p e in
    (t, written_is_held s (0x12 ∷ p) room (number_at 2 0 p) (drop 2 p) k refl t)
