use Rattle.std.proofs.Common.{ℕ, List, arith, subst}
use Rattle.sf_first_meeting.specs.Spots.{IsFound}
use Rattle.sf_first_meeting.proofs.TableLaws.{found-moved}
use Rattle.sf_first_meeting.proofs.sweep.pass.Goals as goal

pub replace-requires : goal.replace-requires
replace-requires c =
    let found = found-moved c.args.points.now _ _ c.args.vertex c.in-Ok.from c.in-Ok.spot c.as_slice.ensures.value c.in-Ok.ensures in
    omega (arith, found.within)

pub returns-in_ok-replace-in-Ok : goal.returns-in_ok-replace-in-Ok
returns-in_ok-replace-in-Ok c =
    λ e.
    record {
      from = c.in-Ok.from;
      spot = c.in-Ok.spot;
      found = found-moved c.args.points.now _ _ c.args.vertex c.in-Ok.from c.in-Ok.spot c.as_slice.ensures.value c.in-Ok.ensures;
      changed = c.in_ok-replace-in-Ok.ensures;
    }

pub returns-in-Err : goal.returns-in-Err
returns-in-Err c = λ e. let no : ⊥ = cc in absurd no
