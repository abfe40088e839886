use Rattle.std.proofs.Common.{◌∙◌, sym}
use Rattle.std.proofs.lemmas.Result.{on_ok_weaker}
use Rattle.sf_strands.proofs.PushLaws.{pushed-closed, pushed-open}
use Rattle.sf_strands.proofs.strands.push_strands.Goals as goal

pub returns-then-eq : goal.returns-then-eq
returns-then-eq c =
    on_ok_weaker c.push_dots.result
    (pushed-closed c.args.strands.now c.push_edges.new.self c.push_dots.new.strands c.args.points.now c.in-Some.starts.now c.in-Some-split_first.inner.now
    c.in-Some-split_first.first.now c.in-Some.last.now c.requires
    (record { whole = c.in-Some.ensures.cases.0; front = c.in-Some-split_first.ensures.cases.0 })
    (sym c.eq.ensures ∙ c.if-eq.true) c.in_ok-push_edges.ensures)
    c.push_dots.ensures

pub returns-in_ok-push_dot : goal.returns-in_ok-push_dot
returns-in_ok-push_dot c =
    on_ok_weaker c.push_dot-else-eq.result
    (pushed-open c.args.strands.now c.push_edges.new.self c.push_dots-else-eq.new.strands c.push_dot.new.self c.push_dot-else-eq.new.self c.args.points.now c.in-Some.starts.now
    c.in-Some-split_first.inner.now c.in-Some-split_first.first.now c.in-Some.last.now c.requires
    (record { whole = c.in-Some.ensures.cases.0; front = c.in-Some-split_first.ensures.cases.0 })
    (sym c.eq.ensures ∙ c.if-eq.false) c.in_ok-push_edges.ensures c.in_ok-push_dots.ensures c.in_ok-push_dot.ensures.added)
    c.push_dot-else-eq.ensures.added
