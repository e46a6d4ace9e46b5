-- Demand 3 in its own words: when a link cannot tell two tills apart, and when two sequences differ only in what it may not read.
use Rattle.std.specs.Prelude.{ℕ, Bool, true, ◌≡◌, List, [], ◌∷◌, map, length}
use Rattle.attributes.specs.Additions.{empty_table, add_refusal, added, table_after, fresh_item, joins, layout}
use Rattle.attributes.specs.Ledger.{Item, value_at}
use Rattle.attributes.specs.Records.{skeleton}
use Rattle.attributes.specs.declared.Addition.{Addition}
use Rattle.answers.specs.View.{may_read_at}
use Rattle.answers.specs.Serve.{State, sound, ledger, Step, Send, Store, after}

-- The attributes that additions make, their values apart; and whether a link, encrypted or not, may read the one with the handle `h`.
abbrev pub made : List Addition → List Item
made adds = map (fresh_item []) adds

-- The table was built by these accepted additions: its records are theirs, in order, the current lengths apart.
abbrev pub BuiltBy : List Addition → State → Type 0
BuiltBy adds s = skeleton s.table ≡ layout 0 adds

-- What may happen to a table: an addition, or a step (a packet, an own store, a change of encryption); the state after it; and the
-- additions that were accepted so far, of which a removal would take some away.
pub data Event : Type 0 where
  Adds : Addition → Event
  Does : Step → Event

unfoldable pub after_event : State → Event → State
after_event s (Adds a) = record {
  table = table_after s.table (added s.table a (length s.fixed) (length s.live));
  link = s.link;
  fixed = s.fixed;
  live = s.live;
}
after_event s (Does e) = after s e

unfoldable pub additions_after : List Addition → State → Event → List Addition
additions_after adds s (Adds a) = joins (add_refusal s.table a (length s.fixed) (length s.live)) a adds
additions_after adds s (Does e) = adds

-- A till that came of a new table by such events, in any order, with these accepted additions.
pub data History : List Addition → State → Type 0 where
  started : (s : State) → s.table ≡ empty_table (length s.fixed) (length s.live) → History [] s
  next : {adds : List Addition} {s : State} (e : Event) → History adds s → History (additions_after adds s e) (after_event s e)

-- "two sound tables built by the same accepted additions, equal in length and bytes of every attribute this link may read, and
-- equal link records". Fixed and live bytes are each till's own; nothing is said of values that the link may not read, nor of what
-- stands behind a value in its slot.
pub record Alike (adds : List Addition) (s t : State) : Type 0 where
  pub sound_left : sound s ≡ true
  pub sound_right : sound t ≡ true
  pub built_left : BuiltBy adds s
  pub built_right : BuiltBy adds t
  pub values : (h : ℕ) → may_read_at s.link.encrypted h (made adds) ≡ true → value_at h (ledger s) ≡ value_at h (ledger t)
  pub links : s.link ≡ t.link

-- "the same packets, into outputs of equal length, with the till's own stores to the same handles between, which differ only in
-- values stored to attributes the link may not read". There the two values are any two, accepted or not.
pub data Twins (encrypted : Bool) (adds : List Addition) : List Step → List Step → Type 0 where
  none : Twins encrypted adds [] []
  packet : (p : List ℕ) (room : ℕ) {es fs : List Step} → Twins encrypted adds es fs → Twins encrypted adds (Send p room ∷ es) (Send p room ∷ fs)
  stores : (h : ℕ) (v w : List ℕ) {es fs : List Step} → (may_read_at encrypted h (made adds) ≡ true → v ≡ w) → Twins encrypted adds es fs
      → Twins encrypted adds (Store h v ∷ es) (Store h w ∷ fs)
