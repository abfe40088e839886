use Rattle.std.proofs.Common.{◌≡◌, ap, ◌∙◌, ◌-ℤ◌, ◌*ℤ◌, pos, rules, SFits, w32}
use Rattle.std.specs.Int.{w128}
use Rattle.std.specs.Ordering.{int_cmp}
use Rattle.std.proofs.lemmas.Int.{to_z-of_z}
use Rattle.sf_grid.proofs.CallerLemmas.{lt_from_test}
use Rattle.sf_sweep.proofs.SideLaws.{side-of_products}
use Rattle.sf_sweep.proofs.sides.side_at.Goals as goal

pub returns : goal.returns
returns c =
    let f : SFits w128 c.product-up.result = search rules in
    let g : SFits w128 c.product-risen.result = search rules in
    let d : SFits w128 c.difference.result = search rules in
    let d2 : SFits w128 c.difference-2.result = search rules in
    let e : SFits w128 c.distance.result = search rules in
    let e2 : SFits w128 c.distance-2.result = search rules in
    let x : SFits w32 c.x.result = search rules in
    let x2 : SFits w32 c.x-2.result = search rules in
    let x3 : SFits w32 c.x-3.result = search rules in
    let y : SFits w32 c.y.result = search rules in
    let y3 : SFits w32 c.y-3.result = search rules in
    let y4 : SFits w32 c.y-4.result = search rules in
    let up : c.product-up.result ≡ c.difference.result *ℤ c.distance.result = simp to_z-of_z at c.product-up.ensures.value in
    let risen : c.product-risen.result ≡ c.difference-2.result *ℤ c.distance-2.result = simp to_z-of_z at c.product-risen.ensures.value in
    let run : c.difference.result ≡ c.x-2.result -ℤ c.x.result = simp to_z-of_z at c.difference.ensures.value in
    let rise : c.difference-2.result ≡ c.y-4.result -ℤ c.y-3.result = simp to_z-of_z at c.difference-2.ensures.value in
    let over : c.distance.result ≡ c.y-2.result.num -ℤ c.y.result *ℤ pos c.y-2.result.den = simp to_z-of_z at c.distance.ensures.value in
    let past : c.distance-2.result ≡ c.x-4.result.num -ℤ c.x-3.result *ℤ pos c.x-4.result.den = simp to_z-of_z at c.distance-2.ensures.value in
    let compared : c.cmp.result ≡ int_cmp c.product-up.result c.product-risen.result = simp to_z-of_z at c.cmp.ensures in
    let u = c.args.edge.now.left in
    let v = c.args.edge.now.right in
    let p = c.args.p.now in
    let ux : c.x.result ≡ u.x = c.x.ensures.value ∙ ap (λ q. q.x) c.left-left.ensures in
    let vx : c.x-2.result ≡ v.x = c.x-2.ensures.value ∙ ap (λ q. q.x) c.right-right.ensures in
    let ux3 : c.x-3.result ≡ u.x = c.x-3.ensures.value ∙ ap (λ q. q.x) c.left-left.ensures in
    let uy : c.y.result ≡ u.y = c.y.ensures.value ∙ ap (λ q. q.y) c.left-left.ensures in
    let uy3 : c.y-3.result ≡ u.y = c.y-3.ensures.value ∙ ap (λ q. q.y) c.left-left.ensures in
    let vy : c.y-4.result ≡ v.y = c.y-4.ensures.value ∙ ap (λ q. q.y) c.right-right.ensures in
    let first : c.product-up.result ≡ (v.x -ℤ u.x) *ℤ (p.y -ℤ u.y *ℤ pos p.d) =
    up
    ∙ ap (λ z. z *ℤ c.distance.result) (run ∙ ap (λ z. z -ℤ c.x.result) vx ∙ ap (λ z. v.x -ℤ z) ux)
    ∙ ap (λ z. (v.x -ℤ u.x) *ℤ z) (over ∙ ap (λ q. q.num -ℤ c.y.result *ℤ pos q.den) c.y-2.ensures.value ∙ ap (λ z. p.y -ℤ z *ℤ pos p.d) uy) in
    let second : c.product-risen.result ≡ (v.y -ℤ u.y) *ℤ (p.x -ℤ u.x *ℤ pos p.d) =
    risen
    ∙ ap (λ z. z *ℤ c.distance-2.result) (rise ∙ ap (λ z. z -ℤ c.y-3.result) vy ∙ ap (λ z. v.y -ℤ z) uy3)
    ∙ ap (λ z. (v.y -ℤ u.y) *ℤ z) (past ∙ ap (λ q. q.num -ℤ c.x-3.result *ℤ pos q.den) c.x-4.ensures.value ∙ ap (λ z. p.x -ℤ z *ℤ pos p.d) ux3) in
    compared
    ∙ ap (λ z. int_cmp z c.product-risen.result) first
    ∙ ap (λ z. int_cmp ((v.x -ℤ u.x) *ℤ (p.y -ℤ u.y *ℤ pos p.d)) z) second
    ∙ side-of_products u v p c.y-2.ensures.point (lt_from_test _ _ c.args.edge.now.rightward)
