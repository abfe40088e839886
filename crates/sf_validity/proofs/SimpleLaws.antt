-- Simplicity of several lines, and of points.
use Rattle.std.proofs.Common.{refl, ◌↔◌, Bool, true, false, not, ◌||◌, List, [], ◌∷◌, ◌++◌, map}
use Rattle.std.specs.Prelude.{IsTrue}
use Rattle.std.specs.List.{AllByRecursion, list_any}
use Rattle.std.proofs.lemmas.Bool.{false≢true}
use Rattle.sf_grid.specs.Plane.{Coordinates, IsPoint, Point}
use Rattle.sf_geometry.specs.declared.geometry.Geometry.TheVariants.{MultiLineString}
use Rattle.sf_valid_rules.specs.Conditions.{Applies, AtPoint, Condition}
use Rattle.sf_valid_rules.specs.Shapes.{meets_itself, on_two_lines}
use Rattle.sf_valid_rules.specs.Simplicity.{IsSimple}
use Rattle.sf_strands.specs.Tangles.{are_tangled}

-- ---- several lines
or-first : (a b : Bool) → IsTrue a → IsTrue (a || b)
or-first true b h = refl
or-first false b h = absurd (false≢true h)

or-second : (a b : Bool) → IsTrue b → IsTrue (a || b)
or-second true b h = refl
or-second false b h = h

or-none : (a b : Bool) → ¬ (IsTrue a) → ¬ (IsTrue b) → ¬ (IsTrue (a || b))
or-none true b h k e = h refl
or-none false b h k e = k e

each-simple : (lines : List (List Coordinates)) (rest : Condition) → ((p : Point) → IsPoint p → ¬ (IsTrue (list_any (λ ps. meets_itself ps p) lines)))
    → ¬ (Applies rest) → AllByRecursion (λ tangle. ¬ (Applies tangle)) (map (λ ps. AtPoint (meets_itself ps)) lines ++ rest ∷ [])
each-simple [] rest none h = (h, tt)
each-simple (ps ∷ lines) rest none h = (
  (λ found. none found.0 found.1 (or-first (meets_itself ps found.0) (list_any (λ qs. meets_itself qs found.0) lines) found.2)),
  each-simple lines rest (λ p is meets. none p is (or-second (meets_itself ps p) (list_any (λ qs. meets_itself qs p) lines) meets)) h,
)

none-meets : (lines : List (List Coordinates)) (rest : Condition) → AllByRecursion (λ tangle. ¬ (Applies tangle)) (map (λ ps. AtPoint (meets_itself ps)) lines ++ rest ∷ [])
    → (p : Point) → IsPoint p → ¬ (IsTrue (list_any (λ ps. meets_itself ps p) lines))
none-meets [] rest each p is = λ h. false≢true h
none-meets (ps ∷ lines) rest each p is =
    or-none (meets_itself ps p) (list_any (λ qs. meets_itself qs p) lines) (λ h. each.0 (p, is, h)) (none-meets lines rest each.1 p is)

last-of : (conditions : List Condition) (rest : Condition) → AllByRecursion (λ tangle. ¬ (Applies tangle)) (conditions ++ rest ∷ []) → ¬ (Applies rest)
last-of [] rest each = each.0
last-of (condition ∷ conditions) rest each = last-of conditions rest each.1

not-is : (b : Bool) → IsTrue (not b) → ¬ (IsTrue b)
not-is true h e = false≢true h
not-is false h e = false≢true e

is-not : (b : Bool) → ¬ (IsTrue b) → IsTrue (not b)
is-not true h = absurd (h refl)
is-not false h = refl

pub lines-simple : (lines : List (List Coordinates)) (found : Bool) → IsTrue found ↔ Applies (AtPoint (are_tangled lines)) → IsTrue (not found) ↔ IsSimple (MultiLineString lines)
lines-simple lines found tells = (there, back)
  where
    there : IsTrue (not found) → IsSimple (MultiLineString lines)
    there none =
        each-simple lines (AtPoint (on_two_lines lines))
        (λ p is meets. not-is found none (tells.1 (p, is, or-first (list_any (λ ps. meets_itself ps p) lines) (on_two_lines lines p) meets)))
        (λ h. not-is found none (tells.1 (h.0, h.1, or-second (list_any (λ ps. meets_itself ps h.0) lines) (on_two_lines lines h.0) h.2)))

    back : IsSimple (MultiLineString lines) → IsTrue (not found)
    back simple =
        is-not found (λ is.
        let tangled = tells.0 is in
        or-none (list_any (λ ps. meets_itself ps tangled.0) lines) (on_two_lines lines tangled.0)
        (none-meets lines (AtPoint (on_two_lines lines)) simple tangled.0 tangled.1)
        (λ h. last-of (map (λ ps. AtPoint (meets_itself ps)) lines) (AtPoint (on_two_lines lines)) simple (tangled.0, tangled.1, h))
        tangled.2)
