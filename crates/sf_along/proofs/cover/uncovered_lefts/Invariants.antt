use Rattle.std.proofs.Common.{◌≡◌, [], take}
use Rattle.std.specs.List.{AllByRecursion}
use Rattle.sf_along.specs.Covers.{AreCovered, IsLeft}
use Rattle.sf_along.proofs.CoverLaws.{IsOfSecond}
use Rattle.sf_along.proofs.cover.uncovered_lefts.Given as goal

-- while no end was found, the runs gone through are covered
abbrev pub invariant-loop-run : goal.invariant-loop-run
invariant-loop-run l = record {
  last : IsOfSecond l.runs l.last;
  covered : l.ends.items ≡ [] → AreCovered l.runs (take l.run-index l.runs);
  ends : AllByRecursion (IsLeft l.runs) l.ends.items;
}
