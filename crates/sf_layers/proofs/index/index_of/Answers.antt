use Rattle.std.proofs.Common.{◌∙◌, ap, subst, sym}
use Rattle.std.specs.List.Sorted.{IsStrictlySortedBy}
use Rattle.std.specs.Map.{keys_of}
use Rattle.std.specs.Ordering.{nat_cmp}
use Rattle.sf_layers.proofs.Boxes.{keys-boxes_of}
use Rattle.sf_layers.proofs.index.index_of.Goals as goal

pub from_boxes-requires : goal.from_boxes-requires
from_boxes-requires c =
    subst (IsStrictlySortedBy nat_cmp) (sym (ap keys_of c.in_ok-boxes.ensures.boxes ∙ keys-boxes_of c.args.features.now.entries)) c.in_ok-boxes.ensures.rising
