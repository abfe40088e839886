use Rattle.std.proofs.Common.{◌∙◌, ap, ◌++◌, ◌∷◌, []}
use Rattle.sf_pieces.specs.Marked.{with_groups}
use Rattle.sf_pieces.proofs.PairLaws.{with-pushed}
use Rattle.sf_pieces.proofs.grouped_pieces.GroupedPieces.push.Goals as goal

pub returns-clause-added : goal.returns-clause-added
returns-clause-added c =
    ap (λ ps. with_groups ps c.push.new.self.items) (c.in_ok-push-2.ensures.items ∙ ap (λ ps. ps ++ c.args.piece ∷ []) c.reserve.ensures.items)
    ∙ ap (λ gs. with_groups (c.self.inside.pieces.items ++ c.args.piece ∷ []) gs) c.in_ok-push.ensures.items
    ∙ with-pushed c.self.inside.pieces.items c.self.inside.groups.items c.args.piece c.args.group c.self.invariant.0
    ∙ ap (λ ms. ms ++ (c.args.piece, c.args.group) ∷ []) c.self.view_is
