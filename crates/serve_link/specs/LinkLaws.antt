-- A sound link has a legal MTU, and a legal MTU is 23 to 247.
use Rattle.std.specs.Prelude.{ℕ, ◌≤◌, true, ◌≡◌, leb}
use Rattle.std.proofs.Common.{leb-true}
use Rattle.codec.specs.CasesLaws.{both}
use Rattle.answers.specs.Replies.{mtu_ok, link_ok}
use Rattle.answers.specs.declared.Link.{Link}

pub sound_legal : (l : Link) → link_ok l ≡ true → mtu_ok l.mtu ≡ true
unfolding link_ok
sound_legal l e = e

pub legal_least : (mtu : ℕ) → mtu_ok mtu ≡ true → 23 ≤ mtu
unfolding mtu_ok
legal_least mtu e = leb-true 23 mtu (both (leb 23 mtu) (leb mtu 247) e).0

pub legal_most : (mtu : ℕ) → mtu_ok mtu ≡ true → mtu ≤ 247
unfolding mtu_ok
legal_most mtu e = leb-true mtu 247 (both (leb 23 mtu) (leb mtu 247) e).1
