use Rattle.std.proofs.Common.{◌∙◌, sym}
use Rattle.sf_linework.specs.declared.within.TheConstants.{FEW_EDGES}
use Rattle.sf_linework.proofs.AlongLaws.{within-along}
use Rattle.sf_linework.proofs.within.has_edge_within.Goals as goal

pub returns : goal.returns
returns c h =
    within-along c.args.a.now c.args.b.now c.in_ok-first.first.items c.in_ok-second.second.items c.as_slice.result.now c.as_slice-2.result.now FEW_EDGES
    c.in_ok-first.ensures c.in_ok-second.ensures c.as_slice.ensures.value c.as_slice-2.ensures.value (sym c.lies_one_in.ensures ∙ h)
