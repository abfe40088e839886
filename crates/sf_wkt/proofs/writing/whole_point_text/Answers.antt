use Rattle.std.proofs.Common.{◌≡◌, ◌∷◌, [], ◌++◌, ℤ, to_z, of_z, w32, codes, ◌∙◌, refl, rules}
use Rattle.std.proofs.lemmas.Int.{to_z-of_z}
use Rattle.std.specs.Fmt.{signed_decimal}
use Rattle.std.specs.Fmt.InlineText.{inline_text, IsIntact}
use Rattle.sf_grid.specs.Plane.{Coordinates}
use Rattle.sf_geometry.specs.declared.geometry.Geometry.TheVariants.{Point}
use Rattle.sf_wkt.specs.Grammar.{canonical}
use Rattle.sf_wkt.proofs.Pieces.{contents_after_calls}
use Rattle.sf_wkt.proofs.writing.whole_point_text.Goals as goal
use mathlib.Core.List.{append_assoc}
use mir.Val.{SFits}

arranged : (p : Coordinates) (x y : ℤ) → SFits w32 x → SFits w32 y → x ≡ p.x → y ≡ p.y
    → codes "POINT (" ++ (signed_decimal (to_z w32 (of_z w32 x)) ++ 32 ∷ (signed_decimal (to_z w32 (of_z w32 y)) ++ 41 ∷ [])) ≡ canonical (Point p)
arranged p x y fits_x fits_y at_x at_y = simp (to_z-of_z, append_assoc) (rw (at_x, at_y) refl)

pub returns : goal.returns
returns c =
    let fits_x : SFits w32 c.x-x.result = search rules in
    let fits_y : SFits w32 c.y-y.result = search rules in
    contents_after_calls (λ t. IsIntact t) (λ t. inline_text t) _ _ _ c.in_ok-write.ensures.writes c.new-text.ensures.intact c.new-text.ensures.text
    ∙ arranged c.args.point.now _ _ fits_x fits_y c.x-x.ensures.value c.y-y.ensures.value
