use Rattle.std.proofs.Common.{sym, ap, ◌∙◌, ◌∷◌, [], get_or, rules}
use Rattle.sf_known.specs.Known.{but_boundaries}
use Rattle.sf_plane.specs.declared.dim.Dim.TheVariants.{Nothing}
use Rattle.sf_known.proofs.NineLaws.{nine-listed}
use Rattle.sf_known.proofs.known.but_boundaries.Goals as goal

pub returns : goal.returns
returns c =
    let ds = c.args.most.now in
    ap (λ d. get_or ds 0 Nothing ∷ get_or ds 1 Nothing ∷ get_or ds 2 Nothing ∷ get_or ds 3 Nothing ∷ d ∷ get_or ds 5 Nothing ∷ get_or ds 6 Nothing ∷ get_or ds 7 Nothing ∷ get_or ds 8 Nothing ∷ []) c.lesser.ensures
    ∙ sym (ap but_boundaries (nine-listed ds (search rules)))
