use Rattle.std.proofs.Common.{◌≡◌, ap, ◌∙◌, ℤ, ◌&&◌, ◌||◌, arith, rules, SFits, w32}
use Rattle.std.specs.Prelude.{int_lt}
use Rattle.std.specs.Ordering.{int_cmp, int_eq, is_lt, ordering_then}
use Rattle.std.proofs.lemmas.Int.{ints, to_z-of_z}
use Rattle.sf_strips.proofs.vertex.Vertex.order.Goals as goal

by_then : (a b c d : ℤ) → is_lt (ordering_then (int_cmp a b) (int_cmp c d)) ≡ (int_lt a b || (int_eq a b && int_lt c d))
by_then a b c d = grind (arith, ints)

pub returns : goal.returns
returns c =
    let h1 : SFits w32 c.x.result = search rules in
    let h2 : SFits w32 c.x-2.result = search rules in
    let h3 : SFits w32 c.y.result = search rules in
    let h4 : SFits w32 c.y-2.result = search rules in
    let xs : c.cmp.result ≡ int_cmp c.x.result c.x-2.result = simp to_z-of_z at c.cmp.ensures in
    let ys : c.cmp-2.result ≡ int_cmp c.y.result c.y-2.result = simp to_z-of_z at c.cmp-2.ensures in
    let u = c.args.self.now.at in
    let v = c.args.other.now.at in
    ap is_lt c.then.ensures
    ∙ ap (λ o. is_lt (ordering_then o c.cmp-2.result)) (xs ∙ ap (λ n. int_cmp n c.x-2.result) c.x.ensures.value ∙ ap (λ n. int_cmp u.x n) c.x-2.ensures.value)
    ∙ ap (λ o. is_lt (ordering_then (int_cmp u.x v.x) o)) (ys ∙ ap (λ n. int_cmp n c.y-2.result) c.y.ensures.value ∙ ap (λ n. int_cmp v.y n) c.y-2.ensures.value)
    ∙ by_then u.x v.x v.y u.y
