use Rattle.std.proofs.Common.{length, refl}
use Rattle.sf_layers.specs.Boxes.{boxes_of}
use Rattle.sf_query.proofs.QueryLaws.{AreNear, index-answers, items-near, near-there}
use Rattle.sf_query.proofs.queries.found_among.Goals as goal
use Rattle.sf_query.proofs.queries.found_among.Goals.{Start}

-- what the index gave are the identifiers of the near features
near : (c : Start) → AreNear c.args.layer.now c.args.given.now c.args.near.now
near c = record { fits = c.requires.layer; are = items-near c.args.near.now (boxes_of c.args.layer.now.features) c.args.given.now c.args.layer.now.features c.requires.near refl }

pub ids_among-requires : goal.ids_among-requires
ids_among-requires c = near-there c.args.layer.now c.args.given.now c.args.near.now (near (goal.at.ids_among-requires c).Start)

pub returns : goal.returns
returns c =
    index-answers c.args.layer.now c.args.ask.now c.args.given.now c.args.near.now (record { ids = c.in_ok-ids.ids; looked = length c.args.near.now })
    (near (goal.at.returns c).Start) c.requires.valid c.requires.contact c.in_ok-ids.ensures refl
