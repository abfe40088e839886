use Rattle.std.proofs.Common.{rules, ◌≡◌, ◌+◌, ◌*◌, ap, subst, ◌∙◌, arith, pos, ◌*ℤ◌}
use Rattle.std.specs.Ordering.{int_cmp, nat_cmp}
use Rattle.sf_distance.specs.Mixed.{Mixed}
use Rattle.sf_distance.proofs.MixedLaws.{mixed_same}
use Rattle.sf_distance.proofs.square.Square.compare.Goals as goal

pub returns : goal.returns
returns c =
    let same : c.args.self.now.whole ≡ c.args.other.now.whole = omega (arith, ap (λ (m : Mixed). m.whole) c.self.view_is, ap (λ (m : Mixed). m.whole) c.other.view_is) in
    let k = mixed_same c.args.self.now.whole c.args.self.now.rest c.args.self.now.den c.args.other.now.rest c.args.other.now.den in
    let left : c.from.result ≡ c.args.self.now.rest = search rules in
    let right : c.from-2.result ≡ c.args.other.now.den = search rules in
    let left_2 : c.from-3.result ≡ c.args.other.now.rest = search rules in
    let right_2 : c.from-4.result ≡ c.args.self.now.den = search rules in
    subst (λ w. c.cmp.result ≡ int_cmp (pos (c.args.self.now.whole * c.args.self.now.den + c.args.self.now.rest) *ℤ pos c.args.other.now.den) (pos (w * c.args.other.now.den + c.args.other.now.rest) *ℤ pos c.args.self.now.den)) same
    (c.cmp.ensures ∙ ap (λ n. nat_cmp (n * c.from-2.result) (c.from-3.result * c.from-4.result)) left
    ∙ ap (λ n. nat_cmp (c.args.self.now.rest * n) (c.from-3.result * c.from-4.result)) right
    ∙ ap (λ n. nat_cmp (c.args.self.now.rest * c.args.other.now.den) (n * c.from-4.result)) left_2
    ∙ ap (λ n. nat_cmp (c.args.self.now.rest * c.args.other.now.den) (c.args.other.now.rest * n)) right_2
    ∙ k)
