use Rattle.sf_measure.proofs.length.of_step.Goals as goal

pub returns-clause-bound : goal.returns-clause-bound
returns-clause-bound c = c.of_edge.ensures.bound
