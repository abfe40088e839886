use Rattle.std.proofs.Common.{◌∷◌, drop}
use Rattle.sf_along.specs.Runs.{AreInOrder, HasPartner}
use Rattle.sf_along.proofs.ScanLaws.{IsLeft}
use Rattle.sf_along.proofs.run.Run.goes_with_one.Given as goal

-- what is left of the runs decides
abbrev pub invariant-loop-other : goal.invariant-loop-other
invariant-loop-other l = record {
  order : AreInOrder (l.self ∷ drop l.other-index l.behind);
  left : IsLeft (HasPartner l.self) l.behind (drop l.other-index l.behind);
}
