-- An edge of the order as an edge between two points.
use Rattle.std.proofs.Common.{◌≡◌, ap, sym, ◌∙◌, ℤ, arith, true, false, cond}
use Rattle.std.specs.Prelude.{int_lt}
use Rattle.std.proofs.lemmas.Int.{ints}
use Rattle.sf_grid.specs.Fraction.{Fraction}
use Rattle.sf_grid.specs.Edge.{Edge, edge_between, height_at, height_rightward, left_end, right_end}
use Rattle.sf_strips.specs.declared.slanted.Slanted.{Slanted}
use Rattle.sf_strips.proofs.CallerLemmas.{height_in}

-- ---- an edge that runs to the right, as an edge
abbrev pub edge_of : Slanted → Edge
edge_of e = edge_between e.left e.right

not_leftward : (a b : ℤ) → int_lt a b ≡ true → int_lt b a ≡ false
not_leftward a b h = grind (arith, ints)

pub left_end-edge_of : (e : Slanted) → left_end (edge_of e) ≡ e.left
left_end-edge_of e = ap (λ t. cond t e.right e.left) (not_leftward e.left.x e.right.x e.rightward)

pub right_end-edge_of : (e : Slanted) → right_end (edge_of e) ≡ e.right
right_end-edge_of e = ap (λ t. cond t e.left e.right) (not_leftward e.left.x e.right.x e.rightward)

pub height_in-edge_of : (x : Fraction) (e : Slanted) → height_in x e ≡ height_at (edge_of e) x
height_in-edge_of x e =
    ap (λ u. height_rightward u e.right x) (sym (left_end-edge_of e))
    ∙ ap (λ v. height_rightward (left_end (edge_of e)) v x) (sym (right_end-edge_of e))
