-- The strict test by the first byte: nothing is not strict, and an opcode of no row is no packet.
use Rattle.std.proofs.Common.{ℕ, ◌<◌, false, ◌≡◌, refl, List, [], ◌∷◌, arith, length, drop, get_or}
use Rattle.codec.specs.Cases.{None}
use Rattle.codec.specs.CasesLaws.{missing}
use Rattle.att.specs.Wire.{shape, NoPacket, rows, shape_of, shape_strict, strict}

pub strict_nil : (s : List ℕ) → length s ≡ 0 → false ≡ strict s
unfolding strict
strict_nil [] h = refl
strict_nil (x ∷ s) h = absurd (omega arith)

pub strict_cons : (s : List ℕ) → 0 < length s → strict s ≡ shape_strict (shape_of (get_or s 0 0)) (drop 1 s)
unfolding strict
strict_cons [] h = absurd (omega arith)
strict_cons (x ∷ s) h = refl

pub strict_missing : (op : ℕ) (p : List ℕ) → None op Unit rows → false ≡ shape_strict (shape_of op) p
unfolding shape_of
strict_missing op p n = rw (missing op rows (shape [] NoPacket) n)
