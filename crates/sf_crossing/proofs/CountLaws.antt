-- Of edges none of which has a point but one, at most one is counted.
use Rattle.std.proofs.Common.{◌≡◌, ◌≢◌, ℕ, zero, suc, ◌+◌, ◌<◌, ◌≤◌, arith, refl, sym, subst, Bool, true, false, cond, List, [], ◌∷◌, map, length}
use Rattle.std.specs.List.{count_by}
use Rattle.std.proofs.lemmas.Bool.{false_from_ne_true}
use Rattle.std.proofs.lemmas.List.Sums.{sum_by-cons}
use Rattle.sf_grid.specs.Edge.{IsOnEdge, on_edge}
use Rattle.sf_grid.specs.Plane.{Coordinates, Point}
use Rattle.sf_geometry.specs.Parts.{edge_of}
use Rattle.sf_edge_tree.specs.Boxes.{edge_at}

module _ (q : Point) where
  abbrev counted : List (Coordinates × Coordinates) → ℕ
  counted es = count_by (λ e. on_edge e q) (map edge_of es)

  one-more : (b : Bool) (n : ℕ) → n ≡ 0 → cond b 1 0 + n ≤ 1
  one-more true n h = omega (arith, h)
  one-more false n h = omega (arith, h)

  not-counted : (b : Bool) (n m : ℕ) → b ≡ false → n ≤ m → cond b 1 0 + n ≤ m
  not-counted true n m h l = cc
  not-counted false n m h l = omega (arith, l)

  next : (e : Coordinates × Coordinates) (es : List (Coordinates × Coordinates)) → counted (e ∷ es) ≡ cond (on_edge (edge_of e) q) 1 0 + counted es
  next e es = sum_by-cons (λ e. cond (on_edge e q) 1 0) (edge_of e) (map edge_of es)

  count-none : (es : List (Coordinates × Coordinates)) → ((k : ℕ) → k < length es → ¬ (IsOnEdge (edge_of (edge_at es k)) q)) → counted es ≡ 0
  count-none [] h = refl
  count-none (e ∷ es) h =
      let rest = count-none es (λ k l. h (suc k) (omega (arith, l))) in
      let most : counted (e ∷ es) ≤ 0 = subst (λ n. n ≤ 0) (sym (next e es)) (not-counted (on_edge (edge_of e) q) (counted es) 0 (false_from_ne_true (on_edge (edge_of e) q) (h 0 (omega arith))) (omega (arith, rest))) in
      omega (arith, most)

  pub count-one : (es : List (Coordinates × Coordinates)) (i : ℕ) → ((k : ℕ) → k < length es → k ≢ i → ¬ (IsOnEdge (edge_of (edge_at es k)) q)) → counted es ≤ 1
  count-one [] i h = omega arith
  count-one (e ∷ es) zero h = subst (λ n. n ≤ 1) (sym (next e es)) (one-more (on_edge (edge_of e) q) (counted es) (count-none es (λ k l. h (suc k) (omega (arith, l)) (λ s. omega (arith, s)))))
  count-one (e ∷ es) (suc i) h =
      subst (λ n. n ≤ 1) (sym (next e es))
      (not-counted (on_edge (edge_of e) q) (counted es) 1 (false_from_ne_true (on_edge (edge_of e) q) (h 0 (omega arith) (λ s. omega (arith, s))))
      (count-one es i (λ k l n. h (suc k) (omega (arith, l)) (λ s. n (omega (arith, s))))))
