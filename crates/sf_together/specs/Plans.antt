-- Internal: who wants to trust the program need not read this file.
-- A group that was carried out beside a content.
use Rattle.std.specs.Prelude.{◌≡◌, ℕ, List, Ok}
use Rattle.sf_layers.specs.Content.{Content}
use Rattle.sf_patches.specs.declared.halves.Halves.{Halves}
use Rattle.sf_patches.specs.Halves.{FitsHalves, RemovesOnly, after_halves, back_halves}
use Rattle.sf_groups.specs.declared.member.Member.{Member}
use Rattle.sf_groups.specs.Members.{together}
use Rattle.sf_groups.specs.Groups.{halves_weight, together_touched}

-- halves that fit lead where the group leads, which gives these identifiers; the second one removes features alone, and what takes
-- them back holds what the group names, and no more
pub record IsPlan (old : Content) (members : List Member) (halves : Halves) (ids : List ℕ) : Type 0 where
  pub led : together old members ≡ Ok (after_halves old halves, ids)
  pub fits : FitsHalves old halves
  pub leaves : RemovesOnly halves.removing
  pub weight : halves_weight (back_halves old halves) ≡ together_touched old members
