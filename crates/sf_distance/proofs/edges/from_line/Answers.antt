use Rattle.std.proofs.Common.{◌≡◌, subst, ap, sym, ◌∙◌, pos, ℕ, ℤ, ◌*◌, ◌^◌, ◌<◌, ◌*ℤ◌, rules, SFits, w64, unsigned_abs}
use Rattle.std.proofs.lemmas.Int.{to_z-of_z}
use Rattle.sf_grid.specs.Fraction.{Fraction}
use Rattle.sf_grid.specs.Edge.{edge_between}
use Rattle.sf_distance.specs.Nearest.{cross_at}
use Rattle.sf_distance.proofs.BoundLaws.{line_small, size_square}
use Rattle.sf_distance.proofs.PointLaws.{cross_is}
use Rattle.sf_distance.proofs.edges.from_line.Goals as goal

pub ratio-requires-clause-small : goal.ratio-requires-clause-small
ratio-requires-clause-small c =
    let f : SFits w64 c.cross.result = search rules in
    let u : c.unsigned_abs.result ≡ unsigned_abs c.cross.result = simp to_z-of_z at c.unsigned_abs.ensures.value in
    let n : c.from-cross.result ≡ unsigned_abs (cross_at (edge_between c.args.e.now.0 c.args.e.now.1) c.args.p) = c.from-cross.ensures ∙ u ∙ ap unsigned_abs (c.cross.ensures.value ∙ sym (cross_is (edge_between c.args.e.now.0 c.args.e.now.1) c.args.p)) in
    subst (λ (t : ℕ). t * t < c.args.length * 2 ^ 64) (sym n)
    (line_small (edge_between c.args.e.now.0 c.args.e.now.1) c.args.p c.args.start c.args.length c.requires.some c.requires.is c.requires.start_is c.requires.start_small)

pub returns : goal.returns
returns c =
    let f : SFits w64 c.cross.result = search rules in
    let u : c.unsigned_abs.result ≡ unsigned_abs c.cross.result = simp to_z-of_z at c.unsigned_abs.ensures.value in
    let n : c.from-cross.result ≡ unsigned_abs (cross_at (edge_between c.args.e.now.0 c.args.e.now.1) c.args.p) = c.from-cross.ensures ∙ u ∙ ap unsigned_abs (c.cross.ensures.value ∙ sym (cross_is (edge_between c.args.e.now.0 c.args.e.now.1) c.args.p)) in
    let at_number : ℕ → Fraction = λ t. record { num = pos (t * t); den = c.args.length } in
    let over : ℤ → Fraction = λ z. record { num = z; den = c.args.length } in
    c.ratio.ensures
    ∙ ap at_number n
    ∙ ap over (size_square (cross_at (edge_between c.args.e.now.0 c.args.e.now.1) c.args.p)
    ∙ ap (λ z. z *ℤ z) (cross_is (edge_between c.args.e.now.0 c.args.e.now.1) c.args.p))
