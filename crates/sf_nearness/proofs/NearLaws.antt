-- What is nearest of two geometries that share no point is on a segment of each.
use Rattle.std.proofs.Common.{◌≡◌, refl, ℕ, ℤ, ◌+◌, ◌*◌, pos, ◌*ℤ◌, ◌≤ℤ◌, arith, [], ◌∷◌, false}
use Rattle.std.specs.Prelude.{IsTrue}
use Rattle.std.proofs.lemmas.Int.{ints}
use Rattle.sf_grid.specs.Fraction.{Fraction, fraction_le, whole}
use Rattle.sf_grid.specs.Plane.{Point}
use Rattle.sf_grid.proofs.CallerLemmas.{dif, mul, mul_nonneg-nonneg, num, ring, sum, test_from_le, var}
use Rattle.sf_geometry.specs.declared.geometry.Geometry.{Geometry}
use Rattle.sf_valid_rules.specs.Validity.{IsValid}
use Rattle.sf_relate.specs.ByKinds.{ShareNone}
use Rattle.sf_relate.specs.Contact.{SharePoint}
use Rattle.sf_contact.specs.Divided.{is_area}
use Rattle.sf_distance.specs.Mixed.{Mixed, number_of}
use Rattle.sf_distance.specs.Squares.{IsLeastSquare, IsWithin, square_between}
use Rattle.sf_distance.proofs.LeastLaws.{le_flipped}
use Rattle.sf_distance.proofs.SharedLaws.{least_of_shared}
use Rattle.sf_edge_distance.proofs.SearchLaws.{between_is_number, le_back, self, through}
use Rattle.sf_nearness.specs.Laws.{DistanceIsOfSegments, NearnessIsOfSegments}
use Rattle.sf_nearness.specs.Near.{IsBySegments}
use Rattle.sf_nearness.specs.Segments.{IsOnSegments}
use Rattle.sf_nearness.specs.Sets.{IsOf}
use Rattle.sf_nearness.proofs.SegmentLaws.{exterior-of, flat-on, in-of, leaves_by_segments, of-in, segments-in}

pub apart-seen : (a b : Geometry) → IsValid a → IsValid b → ShareNone a b → IsBySegments a b
apart-seen a b va vb none p q o i in_p in_q =
    let out_q = exterior-of a q (λ is. none (record { q = q; is_point = i; in_first = is; in_second = in-of b q in_q })) in
    let r = leaves_by_segments a p q va o i in_p out_q in
    let out_r = exterior-of b r.point (λ is. none (record { q = r.point; is_point = r.is_point; in_first = segments-in a r.point r.on_chain; in_second = is })) in
    let s = leaves_by_segments b q r.point vb i r.is_point in_q out_r in
    record {
      first = r.point;
      second = s.point;
      first_is_point = r.is_point;
      second_is_point = s.is_point;
      on_first = r.on_chain;
      on_second = s.on_chain;
      nearer =
          through (square_between r.point s.point) (square_between r.point q) (square_between p q) (between_is_number r.point q r.is_point i)
          (le_both s.point q r.point s.nearer) r.nearer;
    }
  where
    -- both the other way round
    le_both : (s q r : Point) → IsTrue (fraction_le (square_between s r) (square_between q r)) → IsTrue (fraction_le (square_between r s) (square_between r q))
    le_both s q r h = le_flipped q r (square_between r s) (le_back s r (square_between q r) h)

-- points and lines are all on segments
pub flat-seen : (a b : Geometry) → is_area a ≡ false → is_area b ≡ false → IsBySegments a b
flat-seen a b fa fb p q o i in_p in_q =
    record {
      first = p;
      second = q;
      first_is_point = o;
      second_is_point = i;
      on_first = flat-on a p fa o (in-of a p in_p);
      on_second = flat-on b q fb i (in-of b q in_q);
      nearer = self (square_between p q);
    }

pub distance-seen : (a b : Geometry) (square : Fraction) → IsBySegments a b → IsLeastSquare (IsOnSegments a) (IsOnSegments b) square → IsLeastSquare (IsOf a) (IsOf b) square
distance-seen a b square seen l =
    record {
      is_number = l.is_number;
      reached =
          record {
            first = l.reached.first;
            second = l.reached.second;
            first_is_point = l.reached.first_is_point;
            second_is_point = l.reached.second_is_point;
            in_first = of-in a l.reached.first (segments-in a l.reached.first l.reached.in_first);
            in_second = of-in b l.reached.second (segments-in b l.reached.second l.reached.in_second);
            reached = l.reached.reached;
          };
      least =
          λ p q o i h k.
          let n = seen p q o i h k in
          through square (square_between n.first n.second) (square_between p q) (between_is_number n.first n.second n.first_is_point n.second_is_point)
          (l.least n.first n.second n.first_is_point n.second_is_point n.on_first n.on_second) n.nearer;
    }

pub within-seen : (a b : Geometry) (bound : Fraction) → IsBySegments a b → IsWithin (IsOf a) (IsOf b) bound → IsWithin (IsOnSegments a) (IsOnSegments b) bound
within-seen a b bound seen w =
    let n = seen w.first w.second w.first_is_point w.second_is_point w.in_first w.in_second in
    record {
      first = n.first;
      second = n.second;
      first_is_point = n.first_is_point;
      second_is_point = n.second_is_point;
      in_first = n.on_first;
      in_second = n.on_second;
      near = through (square_between n.first n.second) (square_between w.first w.second) bound (between_is_number w.first w.second w.first_is_point w.second_is_point) n.nearer w.near;
    }

pub segments-within : (a b : Geometry) (bound : Fraction) → IsWithin (IsOnSegments a) (IsOnSegments b) bound → IsWithin (IsOf a) (IsOf b) bound
segments-within a b bound w =
    record {
      first = w.first;
      second = w.second;
      first_is_point = w.first_is_point;
      second_is_point = w.second_is_point;
      in_first = of-in a w.first (segments-in a w.first w.in_first);
      in_second = of-in b w.second (segments-in b w.second w.in_second);
      near = w.near;
    }

pub distance_is_of_segments : DistanceIsOfSegments
distance_is_of_segments a b square va vb none l = distance-seen a b square (apart-seen a b va vb none) l

pub nearness_is_of_segments : NearnessIsOfSegments
nearness_is_of_segments a b bound va vb none w = within-seen a b bound (apart-seen a b va vb none) w

-- ---- geometries that share a point
pub shared-least : (a b : Geometry) → SharePoint a b → IsLeastSquare (IsOf a) (IsOf b) (whole (pos 0))
shared-least a b s = least_of_shared (IsOf a) (IsOf b) s.q s.is_point (of-in a s.q s.in_first) (of-in b s.q s.in_second)

none_far : (q : Point) (m : Mixed) → IsTrue (fraction_le (square_between q q) (number_of m))
none_far q m =
    test_from_le ((square_between q q).num *ℤ pos m.den) (pos (m.whole * m.den + m.rest) *ℤ pos (square_between q q).den)
    (least (m.whole * m.den + m.rest) (square_between q q).den ((square_between q q).num *ℤ pos m.den)
    (ring (q.x ∷ q.y ∷ (pos q.d) ∷ (pos m.den) ∷ []) (mul (sum (mul (dif (mul (var 0) (var 2)) (mul (var 0) (var 2))) (dif (mul (var 0) (var 2)) (mul (var 0) (var 2)))) (mul (dif (mul (var 1) (var 2)) (mul (var 1) (var 2))) (dif (mul (var 1) (var 2)) (mul (var 1) (var 2))))) (var 3)) (num (pos 0)) refl))
  where
    least : (n k : ℕ) (z : ℤ) → z ≡ pos 0 → z ≤ℤ (pos n *ℤ pos k)
    least n k z e = let h : pos 0 ≤ℤ (pos n *ℤ pos k) = mul_nonneg-nonneg (pos n) (pos k) (omega (arith, ints)) (omega (arith, ints)) in omega (arith, ints)

pub shared-within : (a b : Geometry) (m : Mixed) → SharePoint a b → IsWithin (IsOf a) (IsOf b) (number_of m)
shared-within a b m s =
    record {
      first = s.q;
      second = s.q;
      first_is_point = s.is_point;
      second_is_point = s.is_point;
      in_first = of-in a s.q s.in_first;
      in_second = of-in b s.q s.in_second;
      near = none_far s.q m;
    }
