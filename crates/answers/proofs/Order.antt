-- The tests of serving stand in document 01's order, and an MTU is legal from 23 to 247: packets that fail two tests, and the one that is
-- told. By computing.
use mathlib.Core.Path.{◌≡◌, refl}
use mathlib.Core.List.{List, [], ◌∷◌}
use Rattle.codec.specs.declared.Refusal.TheVariants.{InsufficientSpace, InvalidValue, BadTable, BadLink}
use Rattle.answers.specs.Examples.{till_on}
use Rattle.answers.specs.Serve.{Heard, Bytes, Refused, serve}
use Rattle.answers.proofs.Computes.{book}

-- 11, 12, 1, 2: a longer area and an MTU of 22; an MTU of 22 and an output of 21 bytes; an output of 22 bytes and no packet; no packet
pub serving_in_order : ◌≡◌ {A = List Heard}
    ((serve (till_on 22 (0x00 ∷ [])) [] 21).heard ∷ (serve (till_on 22 []) [] 21).heard ∷ (serve (till_on 23 []) [] 22).heard ∷ (serve (till_on 23 []) [] 23).heard ∷ [])
    (Refused BadTable ∷ Refused BadLink ∷ Refused InsufficientSpace ∷ Refused InvalidValue ∷ [])
unfolding book
serving_in_order = refl

-- 22 and 248 are refused, 23 and 247 are served
pub legal_mtus : ◌≡◌ {A = List Heard}
    ((serve (till_on 22 []) (0x0A ∷ 0x03 ∷ 0x00 ∷ []) 300).heard ∷ (serve (till_on 248 []) (0x0A ∷ 0x03 ∷ 0x00 ∷ []) 300).heard
    ∷ (serve (till_on 23 []) (0x0A ∷ 0x03 ∷ 0x00 ∷ []) 300).heard ∷ (serve (till_on 247 []) (0x0A ∷ 0x03 ∷ 0x00 ∷ []) 300).heard ∷ [])
    (Refused BadLink ∷ Refused BadLink ∷ Bytes (0x0B ∷ 0x64 ∷ []) ∷ Bytes (0x0B ∷ 0x64 ∷ []) ∷ [])
unfolding book
legal_mtus = refl
