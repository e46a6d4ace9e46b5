-- What is printed of a packet's items is all of its items, in order, whenever the packet can be sent: a walk as long as the received
-- bytes gives the items of the book.
use mathlib.Core.Path.{◌≡◌, ap}
use mathlib.Core.Bool.{true}
use mathlib.Core.List.{List, flat_map}
use Prim.Native.Nat.{ℕ}
use native.Mathlib.Omega.{arith}
use lib.ListN.{length}
use Rattle.att.specs.Items.{items_of}
use Rattle.att.specs.Typed.{encoded, meaning_of}
use Rattle.att.specs.declared.Span.{Span}
use Rattle.att.specs.declared.FindInformationUuidFormat.{FindInformationUuidFormat}
use Rattle.att.specs.declared.AttRsp.{AttRsp}
use Rattle.att.specs.declared.AttRsp.TheVariants as rsp
use Rattle.att.specs.declared.AttServer.TheVariants.{Response}
use Rattle.att.specs.declared.Att.TheVariants.{Server}
use Rattle.att_items.specs.Iterators.{sent}
use Rattle.att_items.proofs.Walk.{information_walked, pairs_walked, values_walked, groups_walked}
use Rattle.explain_items.specs.Items.{kind_of, texts_from, items_texts}

abbrev AllItems : ℕ → AttRsp → Type 0
AllItems op r =
    (src : List ℕ) → sent (encoded (Server (Response r)) src) ≡ true
    → items_texts op (Server (Response r)) src ≡ flat_map (kind_of op).texts (items_of (meaning_of (Server (Response r)) src))

pub all_informations : (f : FindInformationUuidFormat) (d : Span) → AllItems 0x05 (rsp.FindInformation f d)
unfolding texts_from
all_informations f d src h = ap (flat_map (kind_of 0x05).texts) (information_walked f d src (length src) h (omega arith))

pub all_pairs : (d : Span) → AllItems 0x07 (rsp.FindByTypeValue d)
unfolding texts_from
all_pairs d src h = ap (flat_map (kind_of 0x07).texts) (pairs_walked d src (length src) h (omega arith))

pub all_values : (c : ℕ) (d : Span) → AllItems 0x09 (rsp.ReadByType c d)
unfolding texts_from
all_values c d src h = ap (flat_map (kind_of 0x09).texts) (values_walked c d src (length src) h (omega arith))

pub all_groups : (c : ℕ) (d : Span) → AllItems 0x11 (rsp.ReadByGroupType c d)
unfolding texts_from
all_groups c d src h = ap (flat_map (kind_of 0x11).texts) (groups_walked c d src (length src) h (omega arith))
