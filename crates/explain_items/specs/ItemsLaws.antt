-- Laws of the items' texts, in the shapes that the proofs of the code ask for.
use Rattle.std.specs.Prelude.{ℕ, zero, suc, ◌+◌, ◌-◌, ◌<◌, ◌≤◌, ◌≡◌, refl, Some, None, length}
use Rattle.std.proofs.Common.{sym, ap, ◌∙◌, arith, append_assoc, append-nil}
use mathlib.Core.List.{List, [], ◌++◌, flat_map}
use Rattle.codec.specs.CasesLaws.{impossible}
use Rattle.codec.specs.Ascii.{ascii}
use Rattle.att.specs.declared.Att.{Att}
use Rattle.att_items.specs.Iterators.{Step, found_bytes, pair_at, pair_of, information_at, information_of, value_at, value_of, rest_of}
use Rattle.att_items.specs.declared.HandlePair.{HandlePair}
use Rattle.att_items.specs.declared.HandleUuid.{HandleUuid}
use Rattle.att_items.specs.declared.HandleValue.{HandleValue}
use Rattle.text_print.specs.declared.Line.{Line}
use Rattle.text_print.specs.Lines.{Puts, behind, holding}
use Rattle.text_put.specs.Put.{numbered, hexed, typed}
use Rattle.text_put.specs.PutLaws.{puts_then}
use Rattle.explain_items.specs.Items.{Kind, informations, ranges, values, step_in, step_texts, item_texts, next_in, next_of, texts_from}

-- the texts of the item that is there, and the position behind it
pub range_item : (st : Step) (src : List ℕ) (i : HandlePair) → Some i ≡ pair_of st src
    → (step_texts ranges.texts st src ≡ numbered (ascii " item=") i.handle ++ numbered (ascii ":") i.end) × (Some i.next ≡ next_of st)
range_item None src i q = impossible (cc)
range_item (Some f) src i q = let k : i ≡ pair_at (found_bytes f src) f.next = cc in rw k (refl, refl)

pub information_item : (st : Step) (src : List ℕ) (i : HandleUuid) → Some i ≡ information_of st src
    → (step_texts informations.texts st src ≡ numbered (ascii " item=") i.handle ++ typed (ascii ":") i.uuid) × (Some i.next ≡ next_of st)
information_item None src i q = impossible (cc)
information_item (Some f) src i q = let k : i ≡ information_at (found_bytes f src) f.next = cc in rw k (refl, refl)

pub value_item_lem : (st : Step) (src : List ℕ) (i : HandleValue) (rest : List ℕ) → Some i ≡ value_of st src → rest ≡ rest_of st src
    → (step_texts values.texts st src ≡ numbered (ascii " item=") i.handle ++ hexed (ascii ":") rest) × (Some i.next ≡ next_of st)
value_item_lem None src i rest q f = impossible (cc)
value_item_lem (Some g) src i rest q f = let k : i ≡ value_at g.at (found_bytes g src) g.next = cc in rw (k, f) (refl, refl)

-- the end has no texts, and no position of a next item
module _ (texts : List ℕ → List (List ℕ)) where
  pub range_end : (st : Step) (src : List ℕ) → None ≡ pair_of st src → (step_texts texts st src ≡ []) × (None ≡ next_of st)
  range_end None src q = (refl, refl)
  range_end (Some f) src q = impossible (cc)

  pub information_end : (st : Step) (src : List ℕ) → None ≡ information_of st src → (step_texts texts st src ≡ []) × (None ≡ next_of st)
  information_end None src q = (refl, refl)
  information_end (Some f) src q = impossible (cc)

  pub value_end : (st : Step) (src : List ℕ) → None ≡ value_of st src → (step_texts texts st src ≡ []) × (None ≡ next_of st)
  value_end None src q = (refl, refl)
  value_end (Some f) src q = impossible (cc)

-- How far the items are put on the line: what stands there and what is still to be put are all of them.
pub record Putting (k : Kind) (att : Att) (src : List ℕ) (all : ℕ) (before now : Line) (pos left : ℕ) : Type 0 where
  pub done : List (List ℕ)
  pub puts : Puts done before now
  pub whole : done ++ texts_from k att src left pos ≡ texts_from k att src all 0

module _ (k : Kind) (att : Att) (src : List ℕ) where
  -- the texts from an item on, and from the end on
  from_step : (n pos next : ℕ) (st : Step) → step_in k att src pos ≡ st → Some next ≡ next_of st
      → texts_from k att src (suc n) pos ≡ step_texts k.texts st src ++ texts_from k att src n next
  unfolding texts_from flat_map
  from_step n pos next None e f = impossible (cc)
  from_step n pos next (Some d) e f = let g : next ≡ d.next = cc in rw (e, g) refl

  at_end : (n pos : ℕ) (st : Step) → step_in k att src pos ≡ st → None ≡ next_of st
      → (texts_from k att src (suc n) pos ≡ []) × (step_texts k.texts st src ≡ [])
  unfolding texts_from flat_map
  at_end n pos None e f = (rw e refl, refl)
  at_end n pos (Some d) e f = impossible (cc)

  module _ (all : ℕ) (before : Line) where
    pub nothing_put : Putting k att src all before before 0 all
    unfolding behind holding
    nothing_put = record { done = []; puts = (refl, refl, refl); whole = refl }

    pub more_put : (now new : Line) (pos left next : ℕ) → Putting k att src all before now pos left → 0 < left
        → Some next ≡ next_in k att src pos → Puts (item_texts k att src pos) now new → Putting k att src all before new next (left - 1)
    more_put now new pos zero next p h f q = absurd (omega arith)
    more_put now new pos (suc n) next p h f q =
        let e : suc n - 1 ≡ n = omega arith in
        let t = from_step n pos next (step_in k att src pos) refl f in
        rw e (record {
          done = p.done ++ item_texts k att src pos;
          puts = puts_then p.done (item_texts k att src pos) before now new p.puts q;
          whole =
              append_assoc p.done (item_texts k att src pos) (texts_from k att src n next)
              ∙ ap (λ (l : List (List ℕ)). p.done ++ l) (sym t)
              ∙ p.whole;
        })

    pub all_put : (now new : Line) (pos left : ℕ) → Putting k att src all before now pos left → 0 < left
        → None ≡ next_in k att src pos → Puts (item_texts k att src pos) now new → Puts (texts_from k att src all 0) before new
    all_put now new pos zero p h f q = absurd (omega arith)
    all_put now new pos (suc n) p h f q =
        let t = at_end n pos (step_in k att src pos) refl f in
        let w : p.done ++ item_texts k att src pos ≡ texts_from k att src all 0 = ap (λ (l : List (List ℕ)). p.done ++ l) (t.1 ∙ sym t.0) ∙ p.whole in
        rw (sym w) (puts_then p.done (item_texts k att src pos) before now new p.puts q)

    pub used_up : (now : Line) (pos left : ℕ) → Putting k att src all before now pos left → left ≤ 0 → Puts (texts_from k att src all 0) before now
    unfolding texts_from flat_map
    used_up now pos zero p h =
        let w : p.done ≡ texts_from k att src all 0 = sym (append-nil p.done) ∙ p.whole in
        rw (sym w) p.puts
    used_up now pos (suc n) p h = absurd (omega arith)

    -- the same of a walk of so many turns
    pub none_turned : Putting k att src all before before 0 (all - 0)
    none_turned = let z : all - 0 ≡ all = omega arith in rw z nothing_put

    pub turn_put : (now new : Line) (pos turns next : ℕ) → Putting k att src all before now pos (all - turns) → turns < all
        → Some next ≡ next_in k att src pos → Puts (item_texts k att src pos) now new → Putting k att src all before new next (all - (turns + 1))
    turn_put now new pos turns next p h f q =
        let e : all - (turns + 1) ≡ all - turns - 1 = omega arith in
        rw e (more_put now new pos (all - turns) next p (omega arith) f q)
