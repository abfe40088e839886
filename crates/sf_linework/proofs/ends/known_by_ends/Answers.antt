use Rattle.sf_linework.proofs.EndLaws.{known-ends, known-ends-hold}
use Rattle.sf_linework.proofs.ends.known_by_ends.Goals as goal

pub returns-then-is_lines-2-clause-value : goal.returns-then-is_lines-2-clause-value
returns-then-is_lines-2-clause-value c =
    known-ends c.args.a.now c.args.b.now c.known_by_own_ends.result c.known_by_own_ends-then-is_lines-2.result c.transposed.result c.and.result
    c.known_by_own_ends.ensures c.known_by_own_ends-then-is_lines-2.ensures c.transposed.ensures c.and.ensures

pub returns-then-is_lines-2-clause-holds : goal.returns-then-is_lines-2-clause-holds
returns-then-is_lines-2-clause-holds c =
    known-ends-hold c.args.a.now c.args.b.now c.and.result
    (known-ends c.args.a.now c.args.b.now c.known_by_own_ends.result c.known_by_own_ends-then-is_lines-2.result c.transposed.result c.and.result
    c.known_by_own_ends.ensures c.known_by_own_ends-then-is_lines-2.ensures c.transposed.ensures c.and.ensures)
