use Rattle.std.proofs.Common.{◌≡◌, ap, ◌∙◌, subst, sym}
use Rattle.sf_known.specs.declared.known.Known.{Known}
use Rattle.sf_known.specs.Known.{Holds, at_most}
use Rattle.sf_relate.specs.Matrices.{matrix_of}
use Rattle.sf_relate.specs.Most.{known_of_kinds, most_entries}
use Rattle.sf_relate.proofs.MostLaws.{kinds-hold}
use Rattle.sf_relate.proofs.at_most.known_of_kinds.Goals as goal
use Rattle.sf_relate.proofs.at_most.known_of_kinds.Goals.{After-at_most}

value : (c : After-at_most) → c.at_most.result ≡ known_of_kinds c.args.a.now c.args.b.now
value c =
    c.at_most.ensures
    ∙ ap at_most
    (c.most_entries.ensures ∙ ap (λ g. most_entries g c.geometry-2.result.now) c.geometry.ensures.same ∙ ap (most_entries c.args.a.now) c.geometry-2.ensures.same)

pub returns-clause-value : goal.returns-clause-value
returns-clause-value c = value (goal.at.returns-clause-value c).After-at_most

pub returns-clause-holds : goal.returns-clause-holds
returns-clause-holds c =
    let a = c.args.a.now in
    let b = c.args.b.now in
    subst (λ (k : Known). Holds k (matrix_of a b)) (sym (value (goal.at.returns-clause-holds c).After-at_most)) (kinds-hold a b c.geometry.ensures.valid.valid c.geometry-2.ensures.valid.valid)
