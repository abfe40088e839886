use Rattle.std.proofs.Common.{subst, sym}
use Rattle.sf_known.specs.declared.known.Known.{Known}
use Rattle.sf_known.specs.Known.{Holds}
use Rattle.sf_relate.specs.Matrices.{matrix_of}
use Rattle.sf_query.proofs.EvidenceLaws.{together}
use Rattle.sf_query.proofs.given.Given.known_by.Goals as goal
use Rattle.sf_query.proofs.given.Given.known_by.Goals.{in-Some+else-is_enough, in_default}

pub loop-evidence-preserved : goal.loop-evidence-preserved
loop-evidence-preserved c =
    let m = matrix_of c.args.geometry.now c.args.self.now in
    elim c.match-shown.branch [
      | in-Some+else-is_enough w ↦
          subst (λ (k : Known). Holds k m) (sym w.known-is)
          (together c.loop-evidence.known w.in-Some.shown w.and.result w.with_contact_placed-known.result c.args.geometry.now c.args.self.now w.and.ensures w.with_contact_placed-known.ensures c.loop-evidence.invariant w.in-Some.ensures)
      | in_default w ↦ subst (λ (k : Known). Holds k m) (sym w.known-is) c.loop-evidence.invariant
    ]

pub returns-then-is_enough : goal.returns-then-is_enough
returns-then-is_enough c =
    together c.loop-evidence.known c.in-Some.shown c.and.result c.with_contact_placed-known.result c.args.geometry.now c.args.self.now c.and.ensures c.with_contact_placed-known.ensures c.loop-evidence.invariant c.in-Some.ensures
