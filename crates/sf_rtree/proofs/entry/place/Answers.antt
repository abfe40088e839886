use Rattle.std.proofs.Common.{◌≡◌, ap, ◌∙◌, rules}
use Rattle.sf_rtree.specs.Boxed.{interleaved, middle_from_least, place_of}
use Rattle.sf_rtree.proofs.entry.place.Goals as goal

pub returns : goal.returns
unfolding place_of
returns c =
    let e = c.args.extent.now in
    let x : c.middle.result ≡ middle_from_least e.min_x e.max_x = search rules in
    let y : c.middle-2.result ≡ middle_from_least e.min_y e.max_y = search rules in
    c.interleave.ensures
    ∙ ap (λ m. interleaved 32 m c.middle-2.result) x
    ∙ ap (λ m. interleaved 32 (middle_from_least e.min_x e.max_x) m) y
