-- What a client reads of a list that was sent: once over the row, the packet that was meant, and exactly its items. By the laws of the
-- wire on fields and items.
use Prim.Native.Nat.{ℕ, ◌≤◌}
use mathlib.Core.Bool.{true}
use mathlib.Core.Path.{◌≡◌, refl, sym, ◌∙◌, ap}
use mathlib.Core.List.{List, [], ◌∷◌, ◌++◌}
use native.Mathlib.Omega.{arith}
use lib.Dec.{leb}
use lib.ListN.{length, take, drop, length-append}
use lib.Seq.{drop_at}
use borrow.Author.Tests.{le-leb}
use Rattle.codec.specs.Cases.{pick}
use Rattle.att.proofs.FieldBytes.{length_sent, numbers_sent}
use Rattle.att.proofs.NoShift.{AllOf, items_join, items_of_joined}
use Rattle.att.specs.Items.{items_of, joined}
use Rattle.att.specs.Proper.{Fields}
use Rattle.att.specs.Wire.{Items, Shape, shape, shape_of, total, numbers, shape_decodes, decodes, meaning, shape_means, Means, NotRead, read, whole, sent_fields, Sent, shape_sends, send}

module _ (op : ℕ) (ws ns : List ℕ) (width : List ℕ → ℕ) (least : ℕ) (is : List (List ℕ)) (row : shape_of op ≡ shape ws (Items width least))
    (fields : Fields ws ns) (long : 2 ≤ width ns) (all : AllOf (width ns) is) where
  pub items_back : items_of (meaning op ns (joined is)) ≡ is
  unfolding items_of
  items_back = rw row (items_of_joined (width ns) is (omega arith) all)

  no_rest : take (whole (length (joined is)) (width ns)) (joined is) ≡ joined is
  no_rest = sym (items_join (width ns) (joined is)) ∙ ap joined (items_of_joined (width ns) is (omega arith) all)

  pub list_sent : send (meaning op ns (joined is)) ≡ Sent (op ∷ (sent_fields ws ns ++ joined is))
  unfolding send
  list_sent =
      ap (λ (s : Shape). shape_sends s (meaning op ns (joined is))) row ∙ rw (le-leb 2 (width ns) long, no_rest)

  pub list_read : read (op ∷ (sent_fields ws ns ++ joined is)) ≡ Means (meaning op ns (joined is))
  unfolding read decodes
  list_read =
      let p = sent_fields ws ns ++ joined is in
      let l = length_sent ws ns in
      let n : numbers 0 ws p ≡ ns = numbers_sent ws ns 0 [] (joined is) refl fields in
      let d : drop (total ws) p ≡ joined is = drop_at (sent_fields ws ns) (joined is) (total ws) l in
      let g : leb (total ws) (length p) ≡ true = le-leb (total ws) (length p) (simp length-append (omega arith)) in
      ap (λ (s : Shape). pick (shape_decodes s p) (Means (shape_means op s p)) NotRead) row ∙ rw (n, d, le-leb 2 (width ns) long, g)
