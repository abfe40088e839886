use Rattle.std.proofs.Common.{◌≡◌, ◌∙◌}
use Rattle.sf_query.proofs.EvidenceLaws.{of-held}
use Rattle.sf_query.proofs.evidence.shown_by_each.Goals as goal

pub returns : goal.returns
returns c =
    let a = c.args.geometry.now in
    let b = c.args.given.now in
    let given = c.prepared-given.result in
    let same : given ≡ b = c.prepared-given.ensures ∙ c.new.ensures.same in
    (of-held c.shown.result a given b same c.shown.ensures, (of-held c.shown-2.result a given b same c.shown-2.ensures, (of-held c.shown-3.result a given b same c.shown-3.ensures, (of-held c.shown-4.result a given b same c.shown-4.ensures, (of-held c.shown-5.result a given b same c.shown-5.ensures, (of-held c.shown-6.result a given b same c.shown-6.ensures, (of-held c.shown-7.result a given b same c.shown-7.ensures, (of-held c.shown-8.result a given b same c.shown-8.ensures, (of-held c.shown-9.result a given b same c.shown-9.ensures, (of-held c.shown-10.result a given b same c.shown-10.ensures, (of-held c.shown-11.result a given b same c.shown-11.ensures, (of-held c.shown-12.result a given b same c.shown-12.ensures, (of-held c.shown-13.result a given b same c.shown-13.ensures, tt)))))))))))))
