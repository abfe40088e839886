-- Worked rows: which gaps are found.
use Rattle.std.proofs.Common.{◌≡◌, ℕ, true, [], ◌∷◌, None, is_some, refl, pos}
use Rattle.sf_grid.specs.Plane.{Coordinates}
use Rattle.sf_geometry.specs.declared.geometry.Geometry.{Geometry}
use Rattle.sf_geometry.specs.declared.geometry.Geometry.TheVariants.{Polygon}
use Rattle.sf_cover.specs.Covered.{first_gap}

abbrev at : ℕ → ℕ → Coordinates
at x y = record { x = pos x; y = pos y }

-- a box from one x to another one, two steps high
abbrev box : ℕ → ℕ → Geometry
box left right = Polygon ((at left 0 ∷ at right 0 ∷ at right 2 ∷ at left 2 ∷ at left 0 ∷ []) ∷ [])

-- two boxes beside one another leave no gap in one that is as wide as both
covered : first_gap (box 0 4 ∷ []) (box 0 2 ∷ box 2 4 ∷ []) ≡ None
covered = refl

-- apart they do
apart : is_some (first_gap (box 0 5 ∷ []) (box 0 2 ∷ box 3 5 ∷ [])) ≡ true
apart = refl

-- but none in what the whole and an old box have in common, where that is covered
kept : first_gap (box 0 5 ∷ box 3 4 ∷ []) (box 3 5 ∷ []) ≡ None
kept = refl
