use Rattle.std.proofs.Common.{arith, subst, sym, ap, ◌∙◌, ℕ, ◌<◌, List, length}
use Rattle.std.proofs.lemmas.Bool.{false≢true}
use Rattle.sf_grid.specs.Plane.{Coordinates}
use Rattle.sf_valid_rules.specs.Conditions.{Applies, AtPoint}
use Rattle.sf_strands.specs.Pairs.{pair_meets}
use Rattle.sf_strands.proofs.TightLaws.{made-IsTight}
use Rattle.sf_faults.proofs.CrossingLaws.{crossing-found, crossing-more, crossings-end, crossings-more, edges-counted_by, none-earlier, within-tight}
use Rattle.sf_faults.proofs.WrittenLaws.{moved-list}
use Rattle.sf_faults.proofs.crossings.crossing_in.Goals as goal

pub does_pair_meet-requires : goal.does_pair_meet-requires
does_pair_meet-requires c =
    let ps = c.args.points.now in
    let counted = edges-counted_by c.as_slice-edges.result.now ps (moved-list c.in_ok-edges.edges.items c.as_slice-edges.result.now ps c.as_slice-edges.ensures.value c.in_ok-edges.ensures) in
    let within = within-tight ps c.loop-second.second (omega (arith, counted, c.loop-second-test.true)) in
    record {
      tight = made-IsTight ps c.in_ok-kept.kept.items c.as_slice-points.result.now c.in_ok-kept.ensures c.as_slice-points.ensures.value;
      in_order = omega (arith, c.loop-first-test.true);
      in_range = omega (arith, within, ap length (c.as_slice-points.ensures.value ∙ c.in_ok-kept.ensures));
    }

pub returns-then-does_pair_meet : goal.returns-then-does_pair_meet
returns-then-does_pair_meet c =
    let ps = c.args.points.now in
    let P : List Coordinates → Type 0 = λ qs. Applies (AtPoint (pair_meets qs c.loop-first.first c.loop-second.second)) in
    crossing-found c.args.ring ps c.as_slice-edges.result.now c.loop-first.first c.loop-second.second _ _
    (moved-list c.in_ok-edges.edges.items c.as_slice-edges.result.now ps c.as_slice-edges.ensures.value c.in_ok-edges.ensures) c.loop-first-test.true c.loop-second-test.true
    c.loop-second.invariant c.loop-first.invariant
    (subst P (c.as_slice-points.ensures.value ∙ c.in_ok-kept.ensures) (c.does_pair_meet.ensures.0 c.if-does_pair_meet.true))

pub loop-first-preserved : goal.loop-first-preserved
loop-first-preserved c =
    let ps = c.args.points.now in
    let P : List Coordinates → Type 0 = λ qs. Applies (AtPoint (pair_meets qs c.loop-first.first c.loop-second.second)) in
    crossing-more c.args.ring ps c.as_slice-edges.result.now c.loop-first.first c.loop-second.second
    (moved-list c.in_ok-edges.edges.items c.as_slice-edges.result.now ps c.as_slice-edges.ensures.value c.in_ok-edges.ensures) c.loop-first-test.true c.loop-second-test.true
    c.loop-first.invariant
    (λ a. false≢true (sym c.if-does_pair_meet.false ∙ c.does_pair_meet.ensures.1 (subst P (sym (c.as_slice-points.ensures.value ∙ c.in_ok-kept.ensures)) a)))

pub loop-second-preserved : goal.loop-second-preserved
loop-second-preserved c =
    let ps = c.args.points.now in
    crossings-more c.args.ring ps c.as_slice-edges.result.now c.loop-first.first c.loop-second.second
    (moved-list c.in_ok-edges.edges.items c.as_slice-edges.result.now ps c.as_slice-edges.ensures.value c.in_ok-edges.ensures) c.loop-first-test.false c.loop-second-test.true
    c.loop-second.invariant c.loop-first.invariant

pub returns : goal.returns
returns c =
    let ps = c.args.points.now in
    crossings-end c.args.ring ps c.as_slice-edges.result.now c.loop-second.second
    (moved-list c.in_ok-edges.edges.items c.as_slice-edges.result.now ps c.as_slice-edges.ensures.value c.in_ok-edges.ensures) c.loop-second-test.false c.loop-second.invariant

pub loop-second-preserved-then-meets_no_earlier : goal.loop-second-preserved-then-meets_no_earlier
loop-second-preserved-then-meets_no_earlier c =
    let ps = c.args.points.now in
    let es = c.as_slice-edges.result.now in
    let j = c.loop-second.second in
    let are = moved-list c.in_ok-edges.edges.items es ps c.as_slice-edges.ensures.value c.in_ok-edges.ensures in
    let P : List Coordinates → Type 0 = λ qs. (i : ℕ) → i < j → ¬ (Applies (AtPoint (pair_meets qs i j))) in
    crossings-more c.args.ring ps es j j are (omega arith) c.loop-second-test.true c.loop-second.invariant
    (none-earlier c.args.ring ps es j j are c.loop-second-test.true
    (subst P (c.as_slice-points.ensures.value ∙ c.in_ok-kept.ensures) (c.meets_no_earlier.ensures c.if-meets_no_earlier.true)) (omega arith))

pub meets_no_earlier-requires-clause-tight : goal.meets_no_earlier-requires-clause-tight
meets_no_earlier-requires-clause-tight c =
    made-IsTight c.args.points.now c.in_ok-kept.kept.items c.as_slice-points.result.now c.in_ok-kept.ensures c.as_slice-points.ensures.value

pub meets_no_earlier-requires-clause-in_range : goal.meets_no_earlier-requires-clause-in_range
meets_no_earlier-requires-clause-in_range c =
    let ps = c.args.points.now in
    let counted = edges-counted_by c.as_slice-edges.result.now ps (moved-list c.in_ok-edges.edges.items c.as_slice-edges.result.now ps c.as_slice-edges.ensures.value c.in_ok-edges.ensures) in
    let within = within-tight ps c.loop-second.second (omega (arith, counted, c.loop-second-test.true)) in
    omega (arith, within, ap length (c.as_slice-points.ensures.value ∙ c.in_ok-kept.ensures))
