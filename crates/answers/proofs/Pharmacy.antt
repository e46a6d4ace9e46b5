-- The auditor's sentence is not empty: a till with an expiry and a lot of one type, stored and written in turn, and what a client is
-- told of the two. By computing both sides.
use mathlib.Core.Path.{◌≡◌, refl}
use mathlib.Core.List.{[], ◌∷◌}
use Rattle.answers.specs.Auditor.{accepted, HasPart, HasWhole, told}
use Rattle.answers.specs.Examples.{pharmacy, pharmacy_steps}
use Rattle.answers.specs.Serve.{Send, Store, run}
use Rattle.answers.proofs.Computes.{book}

pub pharmacy_told : (accepted pharmacy pharmacy_steps ≡ (1, 0x20 ∷ 0x27 ∷ []) ∷ (2, 0x4C ∷ 0x31 ∷ 0x32 ∷ 0x33 ∷ []) ∷ (2, 0x4C ∷ 0x39 ∷ []) ∷ [])
    × (told (run pharmacy pharmacy_steps) (0x0A ∷ 0x01 ∷ 0x00 ∷ []) 64 ≡ HasPart 1 0 (0x20 ∷ 0x27 ∷ []) ∷ [])
    × (told (run pharmacy pharmacy_steps) (0x0C ∷ 0x02 ∷ 0x00 ∷ 0x01 ∷ 0x00 ∷ []) 64 ≡ HasPart 2 1 (0x39 ∷ []) ∷ [])
    × (told (run pharmacy pharmacy_steps) (0x08 ∷ 0x01 ∷ 0x00 ∷ 0xFF ∷ 0xFF ∷ 0xF2 ∷ 0xFF ∷ []) 64 ≡ HasPart 1 0 (0x20 ∷ 0x27 ∷ []) ∷ HasPart 2 0 (0x4C ∷ 0x39 ∷ []) ∷ [])
    × (told (run pharmacy pharmacy_steps) (0x06 ∷ 0x01 ∷ 0x00 ∷ 0xFF ∷ 0xFF ∷ 0xF2 ∷ 0xFF ∷ 0x4C ∷ 0x39 ∷ []) 64 ≡ HasWhole 2 (0x4C ∷ 0x39 ∷ []) ∷ [])
unfolding book
pharmacy_told = (refl, refl, refl, refl, refl)

-- lot L12 is not taken for L1: 06 with the first two bytes of the lot 4C 31 32 lists nothing, with all three it lists the lot
pub prefix_not_told : (told (run pharmacy (Store 2 (0x4C ∷ 0x31 ∷ 0x32 ∷ []) ∷ [])) (0x06 ∷ 0x01 ∷ 0x00 ∷ 0xFF ∷ 0xFF ∷ 0xF2 ∷ 0xFF ∷ 0x4C ∷ 0x31 ∷ []) 64 ≡ [])
    × (told (run pharmacy (Store 2 (0x4C ∷ 0x31 ∷ 0x32 ∷ []) ∷ [])) (0x06 ∷ 0x01 ∷ 0x00 ∷ 0xFF ∷ 0xFF ∷ 0xF2 ∷ 0xFF ∷ 0x4C ∷ 0x31 ∷ 0x32 ∷ []) 64
    ≡ HasWhole 2 (0x4C ∷ 0x31 ∷ 0x32 ∷ []) ∷ [])
unfolding book
prefix_not_told = (refl, refl)

-- no write goes elsewhere: 52 to the lot, and a 12 and a 52 that are too long for it, or not strict
pub packets_accepted : (accepted pharmacy (Send (0x52 ∷ 0x02 ∷ 0x00 ∷ 0x4C ∷ []) 64 ∷ []) ≡ (2, 0x4C ∷ []) ∷ [])
    × (accepted pharmacy (Send (0x52 ∷ 0x02 ∷ 0x00 ∷ 0x4C ∷ 0x31 ∷ 0x32 ∷ 0x33 ∷ 0x34 ∷ []) 64 ∷ []) ≡ [])
    × (accepted pharmacy (Send (0x12 ∷ 0x02 ∷ 0x00 ∷ 0x4C ∷ 0x31 ∷ 0x32 ∷ 0x33 ∷ 0x34 ∷ []) 64 ∷ []) ≡ [])
    × (accepted pharmacy (Send (0x52 ∷ 0x02 ∷ []) 64 ∷ []) ≡ [])
unfolding book
packets_accepted = (refl, refl, refl, refl)
