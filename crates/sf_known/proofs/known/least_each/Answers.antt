use Rattle.std.proofs.Common.{◌≡◌, ◌∙◌, ◌∷◌, [], sym, rules, get_or}
use Rattle.sf_known.specs.Entries.{lesser_dim}
use Rattle.sf_plane.specs.declared.dim.Dim.TheVariants.{Nothing}
use Rattle.sf_known.specs.Known.{least_each}
use Rattle.sf_known.proofs.NineLaws.{nine-listed, nine-pairs}
use Rattle.sf_known.proofs.known.least_each.Goals as goal

-- the calls of the closure, one for each entry
pub returns : goal.returns
returns c =
    let e0 = c.from_fn.ensures.items.each in
    let p0 : get_or c.from_fn.result 0 Nothing ≡ lesser_dim (get_or c.args.a.now 0 Nothing) (get_or c.args.b.now 0 Nothing) = search rules in
    let e1 = c.from_fn.ensures.items.each.4 in
    let p1 : get_or c.from_fn.result 1 Nothing ≡ lesser_dim (get_or c.args.a.now 1 Nothing) (get_or c.args.b.now 1 Nothing) = search rules in
    let e2 = c.from_fn.ensures.items.each.4.4 in
    let p2 : get_or c.from_fn.result 2 Nothing ≡ lesser_dim (get_or c.args.a.now 2 Nothing) (get_or c.args.b.now 2 Nothing) = search rules in
    let e3 = c.from_fn.ensures.items.each.4.4.4 in
    let p3 : get_or c.from_fn.result 3 Nothing ≡ lesser_dim (get_or c.args.a.now 3 Nothing) (get_or c.args.b.now 3 Nothing) = search rules in
    let e4 = c.from_fn.ensures.items.each.4.4.4.4 in
    let p4 : get_or c.from_fn.result 4 Nothing ≡ lesser_dim (get_or c.args.a.now 4 Nothing) (get_or c.args.b.now 4 Nothing) = search rules in
    let e5 = c.from_fn.ensures.items.each.4.4.4.4.4 in
    let p5 : get_or c.from_fn.result 5 Nothing ≡ lesser_dim (get_or c.args.a.now 5 Nothing) (get_or c.args.b.now 5 Nothing) = search rules in
    let e6 = c.from_fn.ensures.items.each.4.4.4.4.4.4 in
    let p6 : get_or c.from_fn.result 6 Nothing ≡ lesser_dim (get_or c.args.a.now 6 Nothing) (get_or c.args.b.now 6 Nothing) = search rules in
    let e7 = c.from_fn.ensures.items.each.4.4.4.4.4.4.4 in
    let p7 : get_or c.from_fn.result 7 Nothing ≡ lesser_dim (get_or c.args.a.now 7 Nothing) (get_or c.args.b.now 7 Nothing) = search rules in
    let e8 = c.from_fn.ensures.items.each.4.4.4.4.4.4.4.4 in
    let p8 : get_or c.from_fn.result 8 Nothing ≡ lesser_dim (get_or c.args.a.now 8 Nothing) (get_or c.args.b.now 8 Nothing) = search rules in
    let each : get_or c.from_fn.result 0 Nothing ∷ get_or c.from_fn.result 1 Nothing ∷ get_or c.from_fn.result 2 Nothing ∷ get_or c.from_fn.result 3 Nothing ∷ get_or c.from_fn.result 4 Nothing ∷ get_or c.from_fn.result 5 Nothing ∷ get_or c.from_fn.result 6 Nothing ∷ get_or c.from_fn.result 7 Nothing ∷ get_or c.from_fn.result 8 Nothing ∷ [] ≡ least_each c.args.a.now c.args.b.now = rw (p0, p1, p2, p3, p4, p5, p6, p7, p8) (sym (nine-pairs lesser_dim c.args.a.now c.args.b.now c.told-a c.told-b)) in
    nine-listed c.from_fn.result c.from_fn.ensures.items.long ∙ each
