use Rattle.std.proofs.Common.{rules}
use Rattle.std.proofs.lemmas.Iterator.{YieldsList-from_slice, YieldsList-from_zip, same_from_all}
use borrow.Author.Tests.{tests}
use Rattle.sf_relate.proofs.alike.are_same_polygons.Goals as goal

pub returns-then-a-b : goal.returns-then-a-b
returns-then-a-b c =
    same_from_all c.all.new.self _ c.all.result c.args.a.now c.args.b.now c.all.ensures.ran
    (YieldsList-from_zip {s = c.zip.result} (YieldsList-from_slice c.args.a.now (search rules)) (YieldsList-from_slice c.args.b.now (search rules))) c.if-a-b.true (λ x q k. search (rules, tests)) (λ x q k. search (rules, tests))
