-- The iterators of 05, 07, 09 and 11 (document 01, "Packets"): the next item at a position, which counts from the first byte of the
-- items. The end comes for another packet, for one that encoding would refuse with InvalidValue, and where no whole item is left.
use Rattle.std.specs.Prelude.{ℕ, zero, suc, ◌+◌, ◌-◌, Bool, true, false, ◌&&◌, ◌||◌, List, [], ◌∷◌, length, take, drop, leb, eqb, Option, Some, None, option_map}
use Rattle.codec.specs.Cases.{pick}
use Rattle.primitives.specs.Numbers.{number_at}
use Rattle.ble_uuid.specs.Uuids.{uuid_of}
use Rattle.att.specs.Wire.{Coded, Sent, NotSent, shape_of}
use Rattle.att.specs.Items.{each_of}
use Rattle.att.specs.Typed.{Shown, span, encoded_shown}
use Rattle.att_layout.specs.declared.Follows.{Follows}
use Rattle.att_layout.specs.declared.Follows.TheVariants as follows
use Rattle.att_layout.specs.declared.Layout.{Layout}
use Rattle.att_items.specs.declared.Found.{Found}
use Rattle.att_items.specs.declared.HandlePair.{HandlePair}
use Rattle.att_items.specs.declared.HandleUuid.{HandleUuid}
use Rattle.att_items.specs.declared.HandleValue.{HandleValue}

-- what is found: an item, or the end
abbrev pub Step : Type 0
Step = Option Found

abbrev pub item_at : ℕ → ℕ → ℕ → Step
item_at at len next = Some (record { at = at; len = len; next = next })

abbrev pub sent : Coded → Bool
sent (Sent b) = true
sent NotSent = false

-- a whole item of `each` bytes at the position of the `len` bytes from `at` on
unfoldable pub fitted : ℕ → ℕ → ℕ → ℕ → Step
fitted each at len pos = pick (leb 2 each && leb (pos + each) len) (item_at (at + pos) each (pos + each)) None

-- the length of the items of a shown packet, 0 where it has none
abbrev pub each_shown : Shown → ℕ
each_shown s = each_of (shape_of s.opcode).tail s.numbers

-- the next item of a packet of opcode `a` or `b`
unfoldable pub item_shown : ℕ → ℕ → Shown → List ℕ → ℕ → Step
item_shown a b s src pos =
    pick (sent (encoded_shown s src))
    (pick (eqb s.opcode a || eqb s.opcode b) (fitted (each_shown s) s.part.at s.part.len pos) None)
    None

-- the same of a packet that is laid out and can be sent
abbrev pub each_by : Follows → ℕ
each_by follows.Nothing = 0
each_by follows.Data = 0
each_by (follows.Items each) = each
each_by (follows.AUuid u) = 0

unfoldable pub of_layout : ℕ → ℕ → Layout → ℕ → Step
of_layout a b l pos =
    pick (eqb l.opcode a || eqb l.opcode b) (fitted (each_by l.follows) l.part.at l.part.len pos) None

-- the bytes of what is found
abbrev pub found_bytes : Found → List ℕ → List ℕ
found_bytes f src = take f.len (drop f.at src)

-- What each iterator gives of an item `i`: handle and end; handle and UUID; handle and the rest of the item.
abbrev pub pair_at : List ℕ → ℕ → HandlePair
pair_at i next = record { handle = number_at 2 0 i; end = number_at 2 2 i; next = next }

abbrev pub pair_of : Step → List ℕ → Option HandlePair
pair_of o src = option_map (λ f. pair_at (found_bytes f src) f.next) o

abbrev pub information_at : List ℕ → ℕ → HandleUuid
information_at i next = record { handle = number_at 2 0 i; uuid = uuid_of (drop 2 i); next = next }

abbrev pub information_of : Step → List ℕ → Option HandleUuid
information_of o src = option_map (λ f. information_at (found_bytes f src) f.next) o

-- the item starts at `at` of the received bytes
abbrev pub value_at : ℕ → List ℕ → ℕ → HandleValue
value_at at i next = record { handle = number_at 2 0 i; rest = span (at + 2) (length i - 2); next = next }

abbrev pub value_of : Step → List ℕ → Option HandleValue
value_of o src = option_map (λ f. value_at f.at (found_bytes f src) f.next) o

abbrev pub rest_of : Step → List ℕ → List ℕ
rest_of (Some f) src = drop 2 (found_bytes f src)
rest_of None src = []

-- A walk: the bytes of the items from a position on, until the end, and `n` of them at the most.
abbrev pub onward : Step → List ℕ → (ℕ → List (List ℕ)) → List (List ℕ)
onward (Some f) src k = found_bytes f src ∷ k f.next
onward None src k = []

abbrev pub walk : ℕ → (ℕ → Step) → List ℕ → ℕ → List (List ℕ)
walk zero step src pos = []
walk (suc n) step src pos = onward (step pos) src (walk n step src)
