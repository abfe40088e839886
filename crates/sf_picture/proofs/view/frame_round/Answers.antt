use Rattle.sf_picture.proofs.Frames.{round-frame}
use Rattle.sf_picture.proofs.view.frame_round.Goals as goal

pub returns : goal.returns
returns c =
    round-frame c.args.extent c.frame_of.result c.margin_of.result c.requires c.margin_of.ensures
    c.frame_of.ensures.left c.frame_of.ensures.top c.frame_of.ensures.wide c.frame_of.ensures.high
