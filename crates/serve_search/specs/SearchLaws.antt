-- The items are the first bytes of what is handed back.
use Rattle.std.specs.Prelude.{ℕ, ◌≡◌, List, length, take, drop}
use Rattle.std.proofs.Math.Seq.{take-append_seam}
use Rattle.att.specs.Items.{joined}
use Rattle.answers.specs.Replies as book
use Rattle.serve_collect.specs.Collect.{shown_on}
use Rattle.serve_search.specs.Search.{no_items}

pub listed_items : (n : ℕ) (is : List (List ℕ)) → take (length (joined is)) (shown_on no_items (book.Listed n is)) ≡ joined is
listed_items n is = take-append_seam (joined is) (drop (length (joined is)) no_items)
