use Rattle.std.proofs.Common.{sym, subst, ◌≤◌, List, [], ◌∷◌, length}
use Rattle.std.specs.List.{flat_map}
use Rattle.sf_grid.specs.Plane.{Coordinates}
use Rattle.sf_geometry.specs.Parts.{joined}
use Rattle.sf_valid_rules.specs.Rules.{ring_rules}
use Rattle.sf_valid_rules.specs.Validity.{NoneApplies}
use Rattle.sf_polygons.specs.Found.{AreRingFaults}
use Rattle.sf_polygons.proofs.FaultLaws.{faults-more, few-points, sound-rings}
use Rattle.sf_polygons.proofs.faults.faults_within_each.Goals as goal

pub faults_within-requires-clause-few : goal.faults_within-requires-clause-few
faults_within-requires-clause-few c =
    let P : List (List Coordinates) → Type 0 = λ rings. length (joined rings) ≤ 65536 in
    subst P (sym c.as_slice.ensures) (few-points c.args.polygons.now c.loop-rings.rings-index c.rings-item.result c.loop-rings-test.true c.rings-item.is c.requires.few)

pub faults_within-requires-clause-sound : goal.faults_within-requires-clause-sound
faults_within-requires-clause-sound c =
    let P : List (List Coordinates) → Type 0 = λ rings. NoneApplies (flat_map ring_rules rings) in
    subst P (sym c.as_slice.ensures) (sound-rings c.args.polygons.now c.loop-rings.rings-index c.rings-item.result c.loop-rings-test.true c.rings-item.is c.requires.sound)

pub loop-rings-preserved : goal.loop-rings-preserved
loop-rings-preserved c =
    faults-more c.args.polygons.now c.loop-rings.rings-index c.rings-item.result c.loop-rings.found c.in_ok-faults_within.field-0 c.either-found.result c.loop-rings-test.true
    c.rings-item.is c.loop-rings.invariant (subst (λ rings. AreRingFaults (rings ∷ []) c.in_ok-faults_within.field-0) c.as_slice.ensures c.in_ok-faults_within.ensures) c.either-found.ensures
