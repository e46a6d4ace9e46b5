-- The cursor's type, and what a cursor owns: taken apart, and put together with another position. A cursor is Copy, so each lemma
-- keeps what it had.
use mathlib.Core.Path.{◌≡◌, refl}
use Prim.Native.Nat.{ℕ, ◌<◌, ◌^◌}
use mathlib.Core.List.{[], ◌∷◌}
use seplogic.Ra.Ura.{Ura}
use mir.Syntax.{Ty, Lifetime, ty_int, ty_struct, ty_ref, tcons, tnil, imm, w8, w64}
use base.Logic.{ent, sep}
use base.Fml.{Lft, Fml}
use types.Logic.{Logic, sem}
use contract.Lifetimes.{Lfts}
use types.Kit.{‵, ◌⊛◌, given, ◌$◌, ◌∵◌, !, qed, by, move, use1, split, learn, frame, done}
use denote.RattleType.{RattleType}
use denote.Laws.{Is}
use denote.Plain.{uint_Makes}
use denote.Builtin.{u8, usize, SliceRefOf}
use denote.Signature.{Slot, plain, named_lft}
use denote.Steps.{owned}
use denote.Struct.Declared.{Declared}
use denote.Struct.Laws as LL
use denote.Struct.Rest.{all_own, own_open, own_put}
use denote.Struct.Values.{Values}
use Rattle.cursor_read.specs.declared.ReadCursor.{ReadCursor}
use Rattle.cursor_read.specs.contracts.ReadCursor as T
use Rattle.cursor_read.proofs.ReadCursor.TheLaws as T'

-- the struct's type, over the signature's lifetimes, and that of its bytes
abbrev pub B : Lfts 1 → RattleType
B κs = T.the_row (named_lft 1 0 tt κs)

abbrev pub bytes : Slot 1
bytes = SliceRefOf (0 ∷ []) tt (plain (λ _. u8)) (λ _. tt)

abbrev pub slice_ty : Lifetime → Ty
slice_ty ℓ = ty_struct (38 ∷ 91 ∷ 93 ∷ []) (tcons (ty_ref ℓ imm (ty_int w8)) (tcons (ty_int w64) tnil))

-- the struct's type and laws at a lifetime, and a cursor's fields' values
abbrev pub D : Lft → Declared
D κ = T.the_type (named_lft 1 0 tt (κ, tt))

abbrev pub L : (κ : Lft) → LL.Laws (D κ)
L κ = T'.the_laws (named_lft 1 0 tt (κ, tt))

abbrev pub fields : (κ : Lft) → ReadCursor → Values (D κ).parts
fields κ d = (d.pos, (d.«data», tt))

abbrev pub at_pos : ReadCursor → ℕ → ReadCursor
at_pos d n = record { pos = n; «data» = d.«data» }

abbrev pub Own : Lft → ReadCursor → Fml
Own κ d = (B (κ, tt)).own_val d (T'.lowered d ∷ [])

module _ {M : Type 1} {𝓤 : Ura M} (𝓛 : Logic 𝓤) (κ : Lft) (d : ReadCursor) where
  twice : ent 𝓤 (sem 𝓛 (Own κ d)) (sep 𝓤 (sem 𝓛 (Own κ d)) (sem 𝓛 (Own κ d)))
  twice = (LL.copy (D κ) (T'.the_copy (named_lft 1 0 tt (κ, tt))) 𝓛).twice d (T'.lowered d ∷ [])

  -- what the fields own, beside the cursor
  pub opens : ent 𝓤 (sem 𝓛 (Own κ d)) (sep 𝓤 (sem 𝓛 (all_own (D κ).parts (L κ) (fields κ d))) (sem 𝓛 (Own κ d)))
  opens =
      qed 𝓛 (‵ (Own κ d) ∷ []) ∵ use1 𝓛 (‵ (Own κ d) ⊛ ‵ (Own κ d)) twice $ split ! $
      use1 𝓛 (given (T'.lowered d ∷ [] ≡ T'.lowered d ∷ []) (‵ (all_own (D κ).parts (L κ) (fields κ d)))) (own_open 𝓛 (D κ) (L κ) (fields κ d) (T'.lowered d)) $ learn ! (λ _. frame ! $ done !)

  -- the cursor at another position, beside the cursor
  pub puts : (n : ℕ) → n < 2 ^ 64 → ent 𝓤 (sem 𝓛 (Own κ d)) (sep 𝓤 (sem 𝓛 (Own κ d)) (sem 𝓛 (Own κ (at_pos d n))))
  puts n ok =
      qed 𝓛 (‵ (Own κ d) ∷ []) ∵ use1 𝓛 (‵ (Own κ d) ⊛ ‵ (Own κ d)) twice $ split ! $ frame ! $
      owned ! usize (Is usize) (uint_Makes 𝓛 w64) n _ (refl, ok) $ move ! (1 ∷ 0 ∷ []) $ by ! (own_put 𝓛 (D κ) (L κ) 0 (fields κ d) n (T'.lowered d))
