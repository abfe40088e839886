use Rattle.std.proofs.Common.{◌∙◌, sym}
use Rattle.sf_layers.proofs.Boxes.{box-gone, kept-box, moved-box, same-extent}
use Rattle.sf_layers.proofs.index.move_box.Goals as goal

pub put_box-requires : goal.put_box-requires
put_box-requires c = box-gone c.args.index.now c.take_box.new.index c.args.id c.args.from c.requires.there c.requires.rising c.take_box.ensures

pub returns-then-ne : goal.returns-then-ne
returns-then-ne c =
    moved-box c.args.index.now c.take_box.new.index c.put_box.new.index c.args.id c.args.from c.args.to c.requires.there c.requires.rising c.take_box.ensures c.put_box.ensures

pub returns-else-ne : goal.returns-else-ne
returns-else-ne c = kept-box c.args.index.now c.args.id c.args.from c.args.to c.requires.there (same-extent c.args.from c.args.to (sym c.ne.ensures ∙ c.if-ne.false))
