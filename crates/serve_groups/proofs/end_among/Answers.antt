-- Each record stops the walk, moves the end on, or is passed over.
use Rattle.std.proofs.Common.{ℕ, ◌+◌, drop, sym, ap, ◌∙◌, arith}
use Rattle.serve_groups.specs.GroupsLaws.{end_from, end_is, end_here, end_moves, end_passes, end_over}
use Rattle.serve_groups.proofs.end_among.Goals as goal
use Rattle.serve_groups.proofs.end_among.Goals.{then-handle-r+else-opens_group, else-handle-r}

pub returns-then-opens_group : goal.returns-then-opens_group
returns-then-opens_group c =
    let a = c.args in
    let l = c.loop-r in
    sym (end_is a.handle a.records.now ∙ l.invariant
    ∙ end_here a.handle l.last l.r-index a.records.now _ (omega arith) c.if-handle-r.true (sym c.if-opens_group.ensures))

pub loop-r-preserved : goal.loop-r-preserved
loop-r-preserved c =
    let a = c.args in
    let l = c.loop-r in
    let left : ℕ → ℕ = λ (x : ℕ). end_from a.handle x (drop (l.r-index + 1) a.records.now) in
    l.invariant
    ∙ elim c.if-handle-r.branch [
      | then-handle-r+else-opens_group w ↦
          end_moves a.handle l.last l.r-index a.records.now _ (omega arith) w.if-handle-r.true (sym w.if-opens_group.ensures) ∙ ap left (sym w.last-is)
      | else-handle-r w ↦
          end_passes a.handle l.last l.r-index a.records.now _ (omega arith) w.if-handle-r.false ∙ ap left (sym w.last-is)
    ]

pub returns : goal.returns
returns c =
    let a = c.args in
    let l = c.loop-r in
    sym (end_is a.handle a.records.now ∙ l.invariant ∙ end_over a.handle l.last l.r-index a.records.now (omega arith))
