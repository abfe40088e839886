use Rattle.std.proofs.Common.{◌≡◌, refl, sym, ◌∙◌, subst}
use Rattle.std.specs.Prelude.{IsSome, Option, Some}
use Rattle.sf_geometry.specs.declared.extent.Extent.{Extent}
use Rattle.sf_geometry.proofs.SizeLaws.{grown-sized}
use Rattle.sf_geometry.proofs.geometry.Geometry.envelope.Goals as goal

pub unwrap-requires : goal.unwrap-requires
unwrap-requires c =
    let P : Option Extent → Type 0 = λ extent. IsSome extent in
    subst P (sym (c.extent.ensures ∙ grown-sized c.args.self.now c.requires.sized)) refl

pub returns : goal.returns
returns c = some_same (sym c.unwrap.ensures ∙ c.extent.ensures ∙ grown-sized c.args.self.now c.requires.sized)
  where
    some_same : {a b : Extent} → Some a ≡ Some b → a ≡ b
    some_same e = cc
