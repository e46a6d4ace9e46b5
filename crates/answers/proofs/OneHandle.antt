-- The auditor's sentence, 0A and 0C to the letter: the bytes that are heard are those of the value at the handle, from the offset on,
-- cut to the MTU; nothing else of the table and of the live bytes goes into them, for the ledger is asked for that handle alone.
-- By computing the served row, and by induction over the ledger down to the handle.
use Prim.Native.Nat.{ℕ, ◌-◌, ◌≤◌}
use mathlib.Core.Bool.{Bool, true, false}
use mathlib.Core.Path.{◌≡◌, refl, sym, ◌∙◌, ap}
use mathlib.Core.List.{List, [], ◌∷◌, map}
use native.Mathlib.Omega.{arith}
use lib.ListN.{length, take, drop, length-take}
use lib.Dec.{leb, eqb}
use borrow.Author.Tests.{leb-true, le-leb}
use Rattle.codec.specs.Cases.{pick}
use Rattle.codec.specs.CasesLaws.{impossible, both}
use Rattle.primitives.specs.Numbers.{number_of}
use Rattle.att.specs.Wire as wire
use Rattle.attributes.specs.FindLaws.{first_two, first_map}
use Rattle.attributes.specs.Ledger.{Item, item_at, value_at}
use Rattle.answers.specs.View.{View, view, view_at, Value, NoRead, may_read, unreadable, may_read_at}
use Rattle.answers.specs.Replies.{Packet, Reply, only, error_packet, value_packet, blob_packet, value_told, blob_told, reading, read_reply, blob_reply, served, row_reply, request, silent, reply_to, mtu_ok, link_ok}
use Rattle.answers.specs.Serve.{State, sound, ledger, views, Bytes, coded, coded_heard, spoken, serve_refusal, answered, serve, Step, run}
use Rattle.answers.specs.Auditor.{accepted, last_for, read_answer, blob_answer, attribute_at}
use Rattle.answers.specs.declared.Link.{Link}
use Rattle.answers.proofs.Held.{held}
use Rattle.answers.proofs.Steps.{run_sound}

-- the attribute at a handle, by the views and by the ledger
at_ledger : (e : Bool) (h : ℕ) (f : View → Reply) (g : Item → wire.Meaning) (none : wire.Meaning) (is : List Item)
    → ((i : Item) → f (view e i) ≡ only (Packet (g i))) → view_at h f (only (Packet none)) (map (view e) is) ≡ only (Packet (item_at h g none is))
at_ledger e h f g none is k =
    first_map (view e) (λ (v : View). v.handle) h f (only (Packet none)) is
    ∙ first_two (λ (x : Reply) (m : wire.Meaning). x ≡ only (Packet m)) (λ (i : Item). i.handle) h (λ (i : Item). f (view e i)) g (only (Packet none)) none is
    (λ i q. k i) refl

told_one : (op h : ℕ) (f : List ℕ → wire.Meaning) (b : Bool) (v : List ℕ) (code : ℕ)
    → reading op h (λ x. only (Packet (f x))) (pick b (Value v) (NoRead code)) ≡ only (Packet (pick b (f v) (error_packet op h code)))
unfolding reading
told_one op h f true v code = refl
told_one op h f false v code = refl

-- Each of these packets is encoded, and fits.
abbrev Fits : ℕ → wire.Meaning → Type 0
Fits mtu m = (wire.send m ≡ wire.Sent (coded (wire.send m))) × (length (coded (wire.send m)) ≤ mtu)

fits_at : (mtu h : ℕ) (g : Item → wire.Meaning) (none : wire.Meaning) (is : List Item) → ((i : Item) → Fits mtu (g i)) → Fits mtu none
    → Fits mtu (item_at h g none is)
fits_at mtu h g none is k n =
    first_two (λ (m : wire.Meaning) (i : wire.Meaning). Fits mtu m) (λ (i : Item). i.handle) h g g none none is (λ i q. k i) n

fits_pick : (mtu : ℕ) (b : Bool) (x y : wire.Meaning) → Fits mtu x → Fits mtu y → Fits mtu (pick b x y)
fits_pick mtu true x y p q = p
fits_pick mtu false x y p q = q

module _ (l : Link) (big : 23 ≤ l.mtu) where
  fits_error : (op h code : ℕ) → Fits l.mtu (error_packet op h code)
  unfolding wire.send wire.shape_of wire.rows
  fits_error op h code = (refl, omega arith)

  fits_0_b : (x : List ℕ) → Fits l.mtu (wire.meaning 0x0B [] (take (l.mtu - 1) x))
  unfolding wire.send wire.shape_of wire.rows
  fits_0_b x = (refl, simp length-take (omega arith))

  fits_0_d : (x : List ℕ) → Fits l.mtu (wire.meaning 0x0D [] (take (l.mtu - 1) x))
  unfolding wire.send wire.shape_of wire.rows
  fits_0_d x = (refl, simp length-take (omega arith))

heard_whole : (m : wire.Meaning) (op room mtu : ℕ) → Fits mtu m → mtu ≤ room → spoken (Packet m) op room ≡ Bytes (coded (wire.send m))
heard_whole m op room mtu f h = by (wire.send m) f.0 f.1
  where
    by : (c : wire.Coded) → c ≡ wire.Sent (coded c) → length (coded c) ≤ mtu → coded_heard c op room ≡ Bytes (coded c)
    by (wire.Sent b) q k = rw (le-leb (length b) room (omega (arith, k, h)))
    by wire.NotSent q k = impossible (cc)

module _ (s : State) (room : ℕ) (k : sound s ≡ true) (link : link_ok s.link ≡ true) (fits : leb s.link.mtu room ≡ true) where
  big : 23 ≤ s.link.mtu
  unfolding link_ok mtu_ok
  big = leb-true 23 s.link.mtu (both (leb 23 s.link.mtu) _ link).0

  -- no test of serving fails
  heard_reply : (p : List ℕ) → leb 1 (length p) ≡ true → (serve s p room).heard ≡ spoken (reply_to (views s) s.link p).says (wire.first p) room
  unfolding serve answered serve_refusal
  heard_reply p some = rw (k, link, fits, some)

  -- 0A
  pub read_tells : (a b : ℕ) → (serve s (0x0A ∷ a ∷ b ∷ []) room).heard
      ≡ Bytes (coded (wire.send
      (item_at (number_of (a ∷ b ∷ [])) (read_answer s.link (number_of (a ∷ b ∷ []))) (error_packet 0x0A (number_of (a ∷ b ∷ [])) 0x01) (ledger s))))
  unfolding serve answered serve_refusal reply_to silent request row_reply served read_reply wire.strict wire.shape_of wire.rows
  read_tells a b =
      let l = s.link in
      let h = number_of (a ∷ b ∷ []) in
      let m = item_at h (read_answer l h) (error_packet 0x0A h 0x01) (ledger s) in
      let row : reply_to (views s) l (0x0A ∷ a ∷ b ∷ []) ≡ read_reply (views s) l h = rw (le-leb 3 l.mtu (omega (arith, big))) in
      let one : read_reply (views s) l h ≡ only (Packet m) =
      at_ledger l.encrypted h (λ v. reading 0x0A h (value_told l) v.reading)
      (read_answer l h) (error_packet 0x0A h 0x01) (ledger s)
      (λ i. told_one 0x0A h (value_packet l) (may_read l.encrypted i) i.value (unreadable i)) in
      heard_reply (0x0A ∷ a ∷ b ∷ []) (le-leb 1 3 (omega arith))
      ∙ ap (λ (r : Reply). spoken r.says 0x0A room) (row ∙ one)
      ∙ heard_whole m 0x0A room l.mtu
      (fits_at l.mtu h (read_answer l h) (error_packet 0x0A h 0x01) (ledger s)
      (λ i. fits_pick l.mtu (may_read l.encrypted i) _ _ (fits_0_b l big i.value) (fits_error l big 0x0A h (unreadable i)))
      (fits_error l big 0x0A h 0x01))
      (leb-true l.mtu room fits)

  -- 0C
  pub blob_tells : (a b c d : ℕ) → (serve s (0x0C ∷ a ∷ b ∷ c ∷ d ∷ []) room).heard
      ≡ Bytes (coded (wire.send
      (item_at (number_of (a ∷ b ∷ [])) (blob_answer s.link (number_of (a ∷ b ∷ [])) (number_of (c ∷ d ∷ [])))
      (error_packet 0x0C (number_of (a ∷ b ∷ [])) 0x01) (ledger s))))
  unfolding serve answered serve_refusal reply_to silent request row_reply served blob_reply wire.strict wire.shape_of wire.rows
  blob_tells a b c d =
      let l = s.link in
      let h = number_of (a ∷ b ∷ []) in
      let o = number_of (c ∷ d ∷ []) in
      let m = item_at h (blob_answer l h o) (error_packet 0x0C h 0x01) (ledger s) in
      let row : reply_to (views s) l (0x0C ∷ a ∷ b ∷ c ∷ d ∷ []) ≡ blob_reply (views s) l h o = rw (le-leb 5 l.mtu (omega (arith, big))) in
      let one : blob_reply (views s) l h o ≡ only (Packet m) =
      at_ledger l.encrypted h (λ v. reading 0x0C h (blob_told l h o) v.reading)
      (blob_answer l h o) (error_packet 0x0C h 0x01) (ledger s)
      (λ i. told_one 0x0C h (blob_packet l h o) (may_read l.encrypted i) i.value (unreadable i)) in
      heard_reply (0x0C ∷ a ∷ b ∷ c ∷ d ∷ []) (le-leb 1 5 (omega arith))
      ∙ ap (λ (r : Reply). spoken r.says 0x0C room) (row ∙ one)
      ∙ heard_whole m 0x0C room l.mtu
      (fits_at l.mtu h (blob_answer l h o) (error_packet 0x0C h 0x01) (ledger s)
      (λ i. fits_pick l.mtu (may_read l.encrypted i) _ _
      (fits_pick l.mtu (leb o (length i.value)) _ _ (fits_0_d l big (drop o i.value)) (fits_error l big 0x0C h 0x07))
      (fits_error l big 0x0C h (unreadable i)))
      (fits_error l big 0x0C h 0x01))
      (leb-true l.mtu room fits)

-- So nothing else of table and live bytes decides: where two tills have one link record and the same attribute at the handle, or none,
-- 0A and 0C of it hear the same from both.
abbrev given_by : (Item → wire.Meaning) → wire.Meaning → List Item → wire.Meaning
given_by g none [] = none
given_by g none (i ∷ is) = g i

at_given : (h : ℕ) (g : Item → wire.Meaning) (none : wire.Meaning) (is : List Item) → item_at h g none is ≡ given_by g none (attribute_at h is)
at_given h g none is =
    first_two (λ (m : wire.Meaning) (js : List Item). m ≡ given_by g none js) (λ (i : Item). i.handle) h g (λ (i : Item). i ∷ []) none [] is (λ i q. refl) refl

same_given : (h : ℕ) (g : Item → wire.Meaning) (none : wire.Meaning) (is js : List Item) → attribute_at h is ≡ attribute_at h js
    → item_at h g none is ≡ item_at h g none js
same_given h g none is js e = at_given h g none is ∙ ap (given_by g none) e ∙ sym (at_given h g none js)

pub one_attribute_decides : (s t : State) (room a b c d : ℕ) → sound s ≡ true → sound t ≡ true → s.link ≡ t.link → link_ok s.link ≡ true
    → leb s.link.mtu room ≡ true → attribute_at (number_of (a ∷ b ∷ [])) (ledger s) ≡ attribute_at (number_of (a ∷ b ∷ [])) (ledger t)
    → ((serve s (0x0A ∷ a ∷ b ∷ []) room).heard ≡ (serve t (0x0A ∷ a ∷ b ∷ []) room).heard)
    × ((serve s (0x0C ∷ a ∷ b ∷ c ∷ d ∷ []) room).heard ≡ (serve t (0x0C ∷ a ∷ b ∷ c ∷ d ∷ []) room).heard)
one_attribute_decides s t room a b c d ks kt links link fits one =
    let h = number_of (a ∷ b ∷ []) in
    let o = number_of (c ∷ d ∷ []) in
    let link_t : link_ok t.link ≡ true = ap link_ok (sym links) ∙ link in
    let fits_t : leb t.link.mtu room ≡ true = ap (λ (l : Link). leb l.mtu room) (sym links) ∙ fits in (
      read_tells s room ks link fits a b
          ∙ ap (λ (m : wire.Meaning). Bytes (coded (wire.send m)))
          (same_given h (read_answer s.link h) (error_packet 0x0A h 0x01) (ledger s) (ledger t) one
          ∙ ap (λ (l : Link). item_at h (read_answer l h) (error_packet 0x0A h 0x01) (ledger t)) links)
          ∙ sym (read_tells t room kt link_t fits_t a b),
      blob_tells s room ks link fits a b c d
          ∙ ap (λ (m : wire.Meaning). Bytes (coded (wire.send m)))
          (same_given h (blob_answer s.link h o) (error_packet 0x0C h 0x01) (ledger s) (ledger t) one
          ∙ ap (λ (l : Link). item_at h (blob_answer l h o) (error_packet 0x0C h 0x01) (ledger t)) links)
          ∙ sym (blob_tells t room kt link_t fits_t a b c d),
    )

-- The lay reader's form: after any sequence, a client that reads an attribute that it may read hears the value that was last written
-- to that very handle, cut to the MTU.
read_is : (l : Link) (h : ℕ) (none : wire.Meaning) (is : List Item) → may_read_at l.encrypted h is ≡ true
    → item_at h (read_answer l h) none is ≡ wire.meaning 0x0B [] (take (l.mtu - 1) (value_at h is))
read_is l h none [] e = impossible (cc)
read_is l h none (i ∷ is) e = by (eqb i.handle h) e (read_is l h none is)
  where
    by : (b : Bool) → pick b (may_read l.encrypted i) (may_read_at l.encrypted h is) ≡ true
        → (may_read_at l.encrypted h is ≡ true → item_at h (read_answer l h) none is ≡ wire.meaning 0x0B [] (take (l.mtu - 1) (value_at h is)))
        → pick b (read_answer l h i) (item_at h (read_answer l h) none is) ≡ wire.meaning 0x0B [] (take (l.mtu - 1) (pick b i.value (value_at h is)))
    by true q f = rw q
    by false q f = f q

pub reads_what_was_written : (s : State) (es : List Step) (a b room : ℕ) → sound s ≡ true → link_ok (run s es).link ≡ true
    → leb (run s es).link.mtu room ≡ true → may_read_at (run s es).link.encrypted (number_of (a ∷ b ∷ [])) (ledger (run s es)) ≡ true
    → (serve (run s es) (0x0A ∷ a ∷ b ∷ []) room).heard
    ≡ Bytes (0x0B ∷ take ((run s es).link.mtu - 1) (last_for (number_of (a ∷ b ∷ [])) (value_at (number_of (a ∷ b ∷ [])) (ledger s)) (accepted s es)))
unfolding wire.send wire.shape_of wire.rows
reads_what_was_written s es a b room k link fits readable =
    let t = run s es in
    let h = number_of (a ∷ b ∷ []) in
    read_tells t room (run_sound s es k) link fits a b
    ∙ ap (λ (m : wire.Meaning). Bytes (coded (wire.send m))) (read_is t.link h (error_packet 0x0A h 0x01) (ledger t) readable)
    ∙ ap (λ (v : List ℕ). Bytes (0x0B ∷ take (t.link.mtu - 1) v)) (held s es h k)
