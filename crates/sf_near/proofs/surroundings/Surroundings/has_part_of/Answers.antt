use Rattle.sf_distance.specs.Mixed.{number_of}
use Rattle.sf_near.proofs.FeatureLaws.{told-far, told-near, told-whole}
use Rattle.sf_near.proofs.surroundings.Surroundings.has_part_of.Goals as goal

pub returns-then-not-meets : goal.returns-then-not-meets
returns-then-not-meets c =
    told-far c.args.geometry.now c.geometry.result.now c.self.inside.given c.self.inside.reach c.envelope-extent.result c.self.inside.extent c.meets.result c.args.self.now
    c.geometry.ensures.valid c.self.invariant.held c.geometry.ensures.same c.envelope-extent.ensures c.self.invariant.extent_is c.meets.ensures c.if-not-meets.true c.self.view_is

pub returns-then-are_wholly_within : goal.returns-then-are_wholly_within
returns-then-are_wholly_within c =
    told-whole c.args.geometry.now c.geometry.result.now c.self.inside.given c.self.inside.reach c.envelope-extent.result c.self.inside.own (number_of c.self.inside.bound) c.args.self.now
    c.geometry.ensures.valid c.self.invariant.held c.geometry.ensures.same c.envelope-extent.ensures c.self.invariant.own_is c.self.invariant.bound_is
    (c.are_wholly_within.ensures c.if-are_wholly_within.true) c.self.view_is

pub returns : goal.returns
returns c =
    told-near c.is_within.result c.args.geometry.now c.self.inside.given (number_of c.self.inside.bound) c.self.inside.reach c.args.self.now
    c.geometry.ensures.valid c.self.invariant.held c.self.invariant.bound_is c.self.view_is c.is_within.ensures
