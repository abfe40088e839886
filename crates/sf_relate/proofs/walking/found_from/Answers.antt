use Rattle.std.proofs.Common.{subst, sym}
use Rattle.sf_known.proofs.KnownLaws.{both_hold}
use Rattle.sf_known.specs.declared.known.Known.{Known}
use Rattle.sf_known.specs.Known.{Holds}
use Rattle.sf_relate.specs.Matrices.{matrix_of}
use Rattle.sf_relate.proofs.walking.found_from.Goals as goal
use Rattle.sf_relate.proofs.walking.found_from.Goals.{After-and-more}

-- what is known and what the kinds say
both : (c : After-and-more) → Holds c.and-more.result (matrix_of c.args.a.now c.args.b.now)
both c =
    let m = matrix_of c.args.a.now c.args.b.now in
    let given : Holds c.args.known.now m = record { least = c.requires.least; most = c.requires.most; contact = c.requires.contact } in
    let kinds : Holds c.known_at_first-kinds.result m =
    record { least = c.known_at_first-kinds.ensures.least; most = c.known_at_first-kinds.ensures.most; contact = c.known_at_first-kinds.ensures.contact } in
    subst (λ (k : Known). Holds k m) (sym c.and-more.ensures) (both_hold c.args.known.now c.known_at_first-kinds.result m given kinds)

pub returns-then-is_enough-2-clause-holds : goal.returns-then-is_enough-2-clause-holds
returns-then-is_enough-2-clause-holds c = both (goal.at.returns-then-is_enough-2-clause-holds c).After-and-more

pub walked-requires : goal.walked-requires
walked-requires c = both (goal.at.walked-requires c).After-and-more
