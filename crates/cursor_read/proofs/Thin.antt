-- One walk for every method that takes the cursor apart and calls a function of the crate cursor with its position and its bytes:
-- `remaining`, `available` and `len`. (`read` is lent the cursor, which it moves by what `cursor::read` answers.)
-- It is over the result's type s, what the contract says of the result P, the result's MIR type ρ and the callee's name f: all that
-- it knows of the callee is that it says P of its own result. Rattle walks the methods itself by now; before, each method's proof cited
-- `proved` at its own four.
-- One copy of what the struct owns is kept whole for the exit, and of the other what the fields own goes to the callee, beside the
-- lifetime's token, which comes back.
use mathlib.Core.Path.{◌≡◌, refl}
use Prim.Native.Nat.{ℕ}
use mathlib.Core.List.{List, [], ◌∷◌}
use lib.Dec.{T as Holds}
use lib.ListN.{length}
use seplogic.Ra.Ura.{Ura}
use mir.Syntax.{Ty, Callee as Name, Fn, local, value_local, ty_int, named, erased, w64, place, field, copy, rv_opd, seq, assign, call, return}
use mir.Val.{Val, WT, has_ty, vint}
use base.Logic.{SProp, ent, sep, emp, via, fst∗, snd∗, ex_e, id⊢}
use base.Fml.{Lft, Share, ftrue, flft}
use prog.Model.{Model}
use prog.Routine.{Routine, Env}
use prog.Wp.{Calls, Loops, WpFn, Tables, Closed}
use types.Logic.{Logic, sem}
use contract.Lifetimes.{Lfts}
use contract.Monad.{fact}
use contract.Running.{Running, tables, tables_of}
use types.Kit.{‵, raw, ◌⊛◌, ⋆, some, later, ◌$◌, ◌∵◌, !, qed, by, move, drop, use1, use2, split, join, pick, fsplit, fjoin, suffices, frame, await, done}
use types.Part.{whole, sub, look_in}
use types.Run.{look, init, forget, stop, fld, from, load, of_opd, and_then, no_more, assigns, land, returns, enter, alloc1, alloc0, params1, pass1, pass0, free1, free0}
use sound.WpLaws.{FmC, fm_of, WpFn-mono}
use denote.RattleType.{RattleType, owns}
use denote.Laws.{Is, shows}
use denote.Builtin.{u8, usize}
use denote.Ref.{Bor}
use denote.Signature.{Slot, plain}
use denote.Slice.{slice_val, ShrSlice}
use denote.Steps.{peeks, heard, nothing}
use denote.Struct.Laws as LL
use denote.Struct.Rest.{all_own}
use denote.Triple.Statement.{Contract, Triple}
use denote.Triple.Call.{calls_at}
use denote.Triple.Entry.{Vals, on_entry}
use denote.Triple.Spec.{Meets, triple_of}
use denote.Triple.Table.{entered, cited}
use denote.Triple.Walked.{says, Stays, stay_none, walk_of, Goes-none, Walks, ends_at, walked, walk_Meets}
use denote.Exit.{yes}
use denote.Triple.Clauses.{Ended, Clauses, closing, ensured, lasts}
use Rattle.cursor_read.specs.declared.ReadCursor.{ReadCursor}
use Rattle.cursor_read.proofs.ReadCursor.TheLaws as T'
use Rattle.cursor_read.proofs.Cursor.{B, bytes, slice_ty, D, L, fields, Own, opens}

-- what a contract says of the result, by the position and the bytes
abbrev pub Says : Slot 1 → Type 1
Says s = (κs : Lfts 1) → ℕ → Bor (List ℕ) → (s.row κs).Denot → Type 0

-- the machine values of a type have the MIR type ρ
abbrev pub Spelled : Slot 1 → Ty → Type 0
Spelled s ρ = (κs : Lfts 1) (r : (s.row κs).Denot) (u : Val) → Is (s.row κs) r (u ∷ []) → Holds (has_ty ρ u) × WT u

-- the method and the callee
abbrev pub taken : Slot 1 → Ended
taken s = record { signature = record { lifetimes = 1; outlives = []; params = plain B ∷ []; result = s }; kept = (yes, tt) }

abbrev pub called : Slot 1 → Ended
called s = record { signature = record { lifetimes = 1; outlives = []; params = plain (λ _. usize) ∷ bytes ∷ []; result = s }; kept = (yes, (yes, tt)) }

abbrev pub function : Ty → Name → Fn
function ρ f = record {
  lifetimes = 1;
  outlives = [];
  ty_params = [];
  givens = 0;
  params = 1;
  locals = local ρ value_local ∷ local (T'.mir (named 0)) value_local ∷ local (ty_int w64) value_local ∷ local (slice_ty erased) value_local ∷ [];
  body = seq (assign (place 2 []) (rv_opd (copy (place 1 (field 0 ∷ [])))))
      (seq (assign (place 3 []) (rv_opd (copy (place 1 (field 1 ∷ [])))))
      (seq (call f (copy (place 2 []) ∷ copy (place 3 []) ∷ []) (place 0 []))
      return));
}

-- each says the same of its result
module _ {M : Type 1} (𝓤 : Ura M) (s : Slot 1) (P : Says s) where
  abbrev pub of_taken : Clauses 𝓤 (taken s)
  of_taken κs a = record { ghost = Unit {0}; requires = λ g. emp 𝓤; ensures = λ g r e. fact 𝓤 (P κs a.0.pos a.0.«data» r) }

  abbrev pub of_called : Clauses 𝓤 (called s)
  of_called κs a = record { ghost = Unit {0}; requires = λ g. emp 𝓤; ensures = λ g r e. fact 𝓤 (P κs a.0 a.1.0 r) }

abbrev stayed : (s : Slot 1) → Stays (taken s).signature.params (taken s).kept
stayed s = (stay_none B yes, tt)

module _ {M : Type 1} {𝓤 : Ura M} (𝓛 : Logic 𝓤) (s : Slot 1) (P : Says s) where
  abbrev pub Method : Contract 𝓤
  Method = triple_of 𝓛 (taken s).signature (closing 𝓛 (taken s) (of_taken 𝓤 s P))

  abbrev pub Callee : Contract 𝓤
  Callee = triple_of 𝓛 (called s).signature (closing 𝓛 (called s) (of_called 𝓤 s P))

module _ {M : Type 1} {𝓤 : Ura M} (𝓛 : Logic 𝓤) (s : Slot 1) (P : Says s) (ρ : Ty) (f : Name) (spelled : Spelled s ρ) where
  open 𝓛 use {H}

  module _ (κ : Lft) (q : Share) (d : ReadCursor) where
    abbrev mach : Val
    mach = T'.lowered d

    abbrev R : RattleType
    R = s.row (κ, tt)

    abbrev Holding : R.Denot → Type 0
    Holding r = P (κ, tt) d.pos d.«data» r

    abbrev Post : Val → SProp 𝓤
    Post = (walk_of 𝓛 (taken s) (stayed s) (of_taken 𝓤 s P)).post (((κ, tt), (q, tt), tt, (d, tt), (mach ∷ [], tt)), tt)

    -- what the callee is passed
    abbrev passed : Vals (called s).signature (κ, tt)
    passed = (vint w64 d.pos ∷ [], (slice_val d.«data».ref_ptr (length d.«data».now) ∷ [], tt))

    abbrev to : (Callee 𝓛 s P).Ghost
    to = (((κ, tt), (q, tt), tt, fields κ d, passed), tt)

    asked : ent 𝓤 (on_entry 𝓛 (called s).signature (κ, tt) (q, tt) (fields κ d) passed) ((Callee 𝓛 s P).pre to)
    asked = qed 𝓛 ((‵ (flft κ q) ⊛ ‵ ftrue) ∷ ‵ (owns (usize ∷ ShrSlice (named 0) κ u8 ∷ []) (fields κ d) passed) ∷ []) ∵ join ! $ frame ! $ done !

    -- what the struct owns gives what the callee asks, and is kept
    apart : ent 𝓤 (on_entry 𝓛 (taken s).signature (κ, tt) (q, tt) (d, tt) (mach ∷ [], tt)) (sep 𝓤 ((Callee 𝓛 s P).pre to) (sem 𝓛 (Own κ d)))
    apart =
        qed 𝓛 ((‵ (flft κ q) ⊛ ‵ ftrue) ∷ ‵ (owns (B (κ, tt) ∷ []) (d, tt) (mach ∷ [], tt)) ∷ []) ∵ move ! (1 ∷ []) $ fsplit ! $ move ! (1 ∷ []) $ drop ! $
        use1 𝓛 (‵ (all_own (D κ).parts (L κ) (fields κ d)) ⊛ ‵ (Own κ d)) (opens 𝓛 κ d) $ split ! $
        -- [what the fields own; what the struct owns; the token]
        move ! (2 ∷ 0 ∷ []) $ use2 𝓛 (raw ((Callee 𝓛 s P).pre to)) asked $ frame ! $ done !

    -- of the callee's `ensured`, the clause alone: it has no `&mut`, so what is said of last values is dropped
    said : (r : R.Denot) → ent 𝓤 (ensured 𝓛 (called s) (of_called 𝓤 s P) (κ, tt) (fields κ d) tt r) (fact 𝓤 (Holding r))
    said r = ex_e 𝓤 _ (λ ws. snd∗ 𝓤 (sem 𝓛 (lasts (called s) (κ, tt) (fields κ d) ws)) (fact 𝓤 (Holding r)))

    exits : (r : R.Denot) (u : Val) → Holding r → ent 𝓤 (⋆ 𝓛 (‵ (R.own_val r (u ∷ [])) ∷ (‵ (flft κ q) ⊛ ‵ ftrue) ∷ ‵ (Own κ d) ∷ [])) (Post u)
    exits r u e =
        qed 𝓛 (‵ (R.own_val r (u ∷ [])) ∷ (‵ (flft κ q) ⊛ ‵ ftrue) ∷ ‵ (Own κ d) ∷ []) ∵
        suffices ! _ (ends_at 𝓛 (taken s) (stayed s) (of_taken 𝓤 s P) (((κ, tt), (q, tt), tt, (d, tt), (mach ∷ [], tt)), tt) u r (tt, tt) (tt, tt)) $ says ! e $
        move ! (1 ∷ []) $ frame ! $ nothing ! $ move ! (2 ∷ 0 ∷ []) $ fjoin ! $ frame ! $ done !

    module _ (C : Calls 𝓤 H) (Λ : Loops 𝓤 H) (fm : FmC 𝓤 H 𝓛.laws C) (known : Triple 𝓤 (C f) (Callee 𝓛 s P)) where
      walk : Holds (has_ty (T'.mir (named 0)) mach) × WT mach → ent 𝓤 (on_entry 𝓛 (taken s).signature (κ, tt) (q, tt) (d, tt) (mach ∷ [], tt)) (WpFn 𝓤 H C Λ (function ρ f) (mach ∷ []) Post)
      walk wt =
          qed 𝓛 (raw (on_entry 𝓛 (taken s).signature (κ, tt) (q, tt) (d, tt) (mach ∷ [], tt)) ∷ []) ∵ enter ! C Λ (function ρ f) (mach ∷ []) _ $
          alloc1 ! (λ l₀. alloc1 ! (λ l₁. alloc1 ! (λ l₂. alloc1 ! (λ l₃. alloc0 ! $ params1 ! $ pass1 ! (init ! 4 refl wt) $ pass0 ! $
          assigns ! (of_opd ! (load ! (from ! (fld ! refl (stop !))) (look_in ! 4 (sub ! 0 refl (whole !))))) (from ! (stop !)) (init ! 2 refl (tt, wt.1.0)) $
          assigns ! (of_opd ! (load ! (from ! (fld ! refl (stop !))) (look_in ! 4 (sub ! 1 refl (whole !))))) (from ! (stop !)) (init ! 0 refl (tt, wt.1.1.0)) $
          move ! (8 ∷ []) $ use1 𝓛 (raw ((Callee 𝓛 s P).pre to) ⊛ ‵ (Own κ d)) apart $ split ! $
          calls_at ! fm (Callee 𝓛 s P) known to (and_then ! (load ! (from ! (stop !)) (look ! 4 refl)) (and_then ! (load ! (from ! (stop !)) (look ! 2 refl)) (no_more !))) (λ u.
          use1 𝓛 (later (some (λ (r : R.Denot). ((‵ (flft κ q) ⊛ ‵ ftrue) ⊛ ‵ (R.own_val r (u ∷ []))) ⊛ raw (ensured 𝓛 (called s) (of_called 𝓤 s P) (κ, tt) (fields κ d) tt r)))) (id⊢ 𝓤 _) $ await ! tt $ pick ! (λ r.
          split ! $ move ! (1 ∷ []) $ use1 𝓛 (raw (fact 𝓤 (Holding r))) (said r) $ heard ! (Holding r) (λ e. split ! $ move ! (1 ∷ []) $
          -- [the result; the token; what the struct owns; _3; …; _2; …; _1; …; room for _0; …]
          peeks ! R (Is R) (shows 𝓛 R) r (u ∷ []) (λ is. land ! (from ! (stop !)) (init ! 9 refl (spelled (κ, tt) r u is)) $
          returns ! (look ! 9 refl) $ forget ! 3 refl $ forget ! 5 refl $ forget ! 7 refl $ forget ! 9 refl $
          move ! (9 ∷ 10 ∷ []) $ free1 ! $ move ! (7 ∷ 8 ∷ []) $ free1 ! $ move ! (5 ∷ 6 ∷ []) $ free1 ! $ move ! (3 ∷ 4 ∷ []) $ free1 ! $ free0 ! $ by ! (exits r u e)))))))))

  walks : (C : Calls 𝓤 H) (Λ : Loops 𝓤 H) → FmC 𝓤 H 𝓛.laws C → Triple 𝓤 (C f) (Callee 𝓛 s P)
      → Walks 𝓛 (taken s) (stayed s) (WpFn 𝓤 H C Λ (function ρ f)) (of_taken 𝓤 s P)
  walks C Λ fm known = walked 𝓛 (taken s) (stayed s) (of_taken 𝓤 s P) (WpFn 𝓤 H C Λ (function ρ f)) (λ κs. (LL.vals (D κs.0) (L κs.0), tt)) (λ κs. (LL.tells (D κs.0) (L κs.0), tt))
      (λ κs qs bounds a g are. via 𝓤 _ (fst∗ 𝓤 _ (emp 𝓤)) (walk κs.0 qs.0 a.0 C Λ fm known ((LL.lawful (D κs.0) (L κs.0) 𝓛).typed a.0 _ are.0).0))

  meets : (𝓣 : Tables 𝓤 H) → Triple 𝓤 (𝓣.C f) (Callee 𝓛 s P)
      → Meets 𝓛 (taken s).signature (WpFn 𝓤 H 𝓣.C 𝓣.Λ (function ρ f)) (closing 𝓛 (taken s) (of_taken 𝓤 s P))
  meets 𝓣 known = walk_Meets 𝓛 (taken s) (stayed s) (Goes-none 𝓛 1 B yes (λ κs x f. refl), tt) (of_taken 𝓤 s P) (WpFn 𝓤 H 𝓣.C 𝓣.Λ (function ρ f)) (WpFn-mono 𝓤 H 𝓛.laws 𝓣 (function ρ f))
      (walks 𝓣.C 𝓣.Λ (fm_of 𝓤 H 𝓛.laws 𝓣) known)

-- the method named k in the environment γ, where f is the routine g that meets the callee's contract
module _ {M : Type 1} {𝓤 : Ura M} (𝓛 : Logic 𝓤) (𝓜 : Model 𝓤 𝓛.H) (𝓡 : Running 𝓤 𝓛.H 𝓜) (s : Slot 1) (P : Says s) (ρ : Ty) (f : Name) (spelled : Spelled s ρ) where
  open 𝓛 use {H}

  pub proved : (γ : Env) (k : Name) → Closed 𝓤 H (tables 𝓤 H 𝓜 𝓡 γ).C (tables 𝓤 H 𝓜 𝓡 γ).Λ k (function ρ f) → (g : Routine) → γ f ≡ g
      → Triple 𝓤 (𝓡.run g) (Callee 𝓛 s P) → Triple 𝓤 (𝓡.run (γ k)) (Method 𝓛 s P)
  unfolding tables_of
  proved γ k closed g calls met =
      entered 𝓤 H (Method 𝓛 s P) (tables 𝓤 H 𝓜 𝓡 γ).C (tables 𝓤 H 𝓜 𝓡 γ).Λ k (function ρ f) closed
      (meets 𝓛 s P ρ f spelled (tables_of 𝓤 H 𝓜 (tables 𝓤 H 𝓜 𝓡 γ)) (cited 𝓤 H (Callee 𝓛 s P) 𝓜 𝓡 γ f g calls met))
