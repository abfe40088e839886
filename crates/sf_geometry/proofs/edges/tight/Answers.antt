use Rattle.std.proofs.Common.{◌≡◌, ap, ◌∙◌, rules}
use Rattle.std.proofs.lemmas.List.Filters.{dedup_is}
use Rattle.sf_geometry.specs.Lists.{is_same, tight}
use Rattle.sf_geometry.proofs.ListLaws.{dedup-tight}
use Rattle.sf_geometry.proofs.edges.tight.Goals as goal

pub returns : goal.returns
returns c =
    let copied : c.in_ok-found.found.items ≡ c.args.points.now = search rules in
    dedup_is is_same c.in_ok-found.found.items c.dedup.new.self.items c.dedup.ensures.filtered
    ∙ dedup-tight c.in_ok-found.found.items
    ∙ ap tight copied
