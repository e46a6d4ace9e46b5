-- Demand 3 is not empty: document 01's table with the unlock code 31 32, and with 39 39 37, on a link that may not read it, meets
-- the premises; the two hear the same, and their codes differ to the end. By computing both sides.
use mathlib.Core.Bool.{true, false}
use mathlib.Core.Path.{◌≡◌, refl}
use mathlib.Core.List.{[], ◌∷◌}
use Rattle.codec.specs.CasesLaws.{impossible}
use Rattle.attributes.specs.Ledger.{value_at}
use Rattle.attributes.specs.declared.Room.TheVariants as room
use Rattle.answers.specs.Demand3.{Adds, Does, History, started, next, Alike, Twins, none, packet, stores}
use Rattle.answers.specs.Examples.{addition, additions, begun, left, right, heard_by_both, left_steps, right_steps, sealed}
use Rattle.answers.specs.Serve.{Send, Store, ledger, run, hears}
use Rattle.answers.proofs.Computes.{book}
use Rattle.answers.proofs.Plain.{alike}

pub alike_tills : Alike additions left right
unfolding book
alike_tills = alike additions left right refl (record { sound_left = refl; sound_right = refl; records = refl; seen = refl; links = refl })

-- and the first of them does come of a new table: an addition with handle 0 is refused, three are accepted, a value is stored and read,
-- one more is added, and a packet writes the code
pub has_history : History additions left
unfolding book
has_history =
    next (Does (Send (0x12 ∷ 0x04 ∷ 0x00 ∷ 0x31 ∷ 0x32 ∷ []) 64))
    (next (Adds (addition 4 0xFFF1 false true (room.Live 4)))
    (next (Does (Send (0x0A ∷ 0x03 ∷ 0x00 ∷ []) 64))
    (next (Does (Store 3 (0x64 ∷ [])))
    (next (Adds (addition 3 0x2A19 true false (room.Live 1)))
    (next (Adds (addition 2 0x2803 true false (room.Fixed 2 5)))
    (next (Adds (addition 1 0x2800 true false (room.Fixed 0 2)))
    (next (Adds (addition 0 0x2800 true false (room.Fixed 0 2)))
    (started begun refl))))))))

pub twin_steps : Twins false additions left_steps right_steps
twin_steps =
    packet _ _ (packet _ _ (packet _ _ (packet _ _ (packet _ _ (packet _ _
    (stores 4 _ _ (λ q. impossible (cc))
    (packet _ _ (packet _ _
    (stores 3 _ _ (λ q. refl)
    (packet _ _ (packet _ _ (packet _ _
    (stores 4 _ _ (λ q. impossible (cc))
    (packet _ _ none))))))))))))))

pub both_hear : ((hears left left_steps ≡ heard_by_both) × (hears right right_steps ≡ heard_by_both))
    × ((value_at 4 (ledger left) ≡ 0x31 ∷ 0x32 ∷ []) × (value_at 4 (ledger right) ≡ 0x39 ∷ 0x39 ∷ 0x37 ∷ []))
    × ((value_at 4 (ledger (run left left_steps)) ≡ 0x61 ∷ 0x62 ∷ 0x63 ∷ 0x64 ∷ []) × (value_at 4 (ledger (run right right_steps)) ≡ 0x37 ∷ []))
unfolding book
both_hear = ((refl, refl), (refl, refl), (refl, refl))

-- fixed values that the link may not read may differ, too
pub alike_sealed : Alike (addition 1 0xFFF1 false false (room.Fixed 0 1) ∷ []) (sealed 0x41) (sealed 0x42)
unfolding book
alike_sealed =
    alike _ (sealed 0x41) (sealed 0x42) refl (record { sound_left = refl; sound_right = refl; records = refl; seen = refl; links = refl })
