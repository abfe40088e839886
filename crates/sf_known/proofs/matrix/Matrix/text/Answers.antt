use Rattle.std.proofs.Common.{◌≡◌, ◌∙◌, ◌∷◌, [], sym, rules, get_or, map}
use Rattle.sf_known.specs.Entries.{character_of}
use Rattle.sf_plane.specs.declared.dim.Dim.TheVariants.{Nothing}
use Rattle.sf_known.proofs.NineLaws.{nine, nine-places}
use Rattle.sf_known.proofs.matrix.Matrix.text.Goals as goal

-- the calls of the function, one for each entry
pub returns : goal.returns
returns c =
    let e0 = c.map.ensures.items.each in
    let p0 : get_or c.map.result 0 0 ≡ character_of (get_or c.args.self.now.0 0 Nothing) = search rules in
    let e1 = c.map.ensures.items.each.6 in
    let p1 : get_or c.map.result 1 0 ≡ character_of (get_or c.args.self.now.0 1 Nothing) = search rules in
    let e2 = c.map.ensures.items.each.6.6 in
    let p2 : get_or c.map.result 2 0 ≡ character_of (get_or c.args.self.now.0 2 Nothing) = search rules in
    let e3 = c.map.ensures.items.each.6.6.6 in
    let p3 : get_or c.map.result 3 0 ≡ character_of (get_or c.args.self.now.0 3 Nothing) = search rules in
    let e4 = c.map.ensures.items.each.6.6.6.6 in
    let p4 : get_or c.map.result 4 0 ≡ character_of (get_or c.args.self.now.0 4 Nothing) = search rules in
    let e5 = c.map.ensures.items.each.6.6.6.6.6 in
    let p5 : get_or c.map.result 5 0 ≡ character_of (get_or c.args.self.now.0 5 Nothing) = search rules in
    let e6 = c.map.ensures.items.each.6.6.6.6.6.6 in
    let p6 : get_or c.map.result 6 0 ≡ character_of (get_or c.args.self.now.0 6 Nothing) = search rules in
    let e7 = c.map.ensures.items.each.6.6.6.6.6.6.6 in
    let p7 : get_or c.map.result 7 0 ≡ character_of (get_or c.args.self.now.0 7 Nothing) = search rules in
    let e8 = c.map.ensures.items.each.6.6.6.6.6.6.6.6 in
    let p8 : get_or c.map.result 8 0 ≡ character_of (get_or c.args.self.now.0 8 Nothing) = search rules in
    let each : get_or c.map.result 0 0 ∷ get_or c.map.result 1 0 ∷ get_or c.map.result 2 0 ∷ get_or c.map.result 3 0 ∷ get_or c.map.result 4 0 ∷ get_or c.map.result 5 0 ∷ get_or c.map.result 6 0 ∷ get_or c.map.result 7 0 ∷ get_or c.map.result 8 0 ∷ [] ≡ map character_of c.args.self.now.0 = rw (p0, p1, p2, p3, p4, p5, p6, p7, p8) (sym (nine character_of c.args.self.now.0 (search rules))) in
    nine-places 0 c.map.result c.map.ensures.items.long ∙ each
