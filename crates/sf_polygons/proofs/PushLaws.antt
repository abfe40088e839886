-- Rings that are pushed one by one.
use Rattle.std.proofs.Common.{◌≡◌, refl, ap, sym, ◌∙◌, ℕ, zero, suc, ◌+◌, ◌<◌, arith, List, [], ◌∷◌, ◌++◌, append_assoc, append-nil, length, map, take, slice_index_or}
use Rattle.std.specs.List.{flat_map, zip}
use Rattle.std.proofs.lemmas.List.{length-append}
use Rattle.sf_grid.specs.Plane.{Coordinates}
use Rattle.sf_pieces.specs.Marked.{Marked}
use Rattle.sf_polygons.specs.Rings.{GroupedRing, edges_in, grouped, holes_in, pieces_in, polygons_in}

-- one pair more of two lists side by side
zip-next : {A B C : Type 0} (f : A → B → List C) (n : ℕ) (xs : List A) (ys : List B) (x : A) (y : B) → n < length xs → n < length ys
    → x ≡ slice_index_or xs n x → y ≡ slice_index_or ys n y
    → flat_map (λ (z : A × B). f z.0 z.1) (zip (take (suc n) xs) (take (suc n) ys)) ≡ flat_map (λ (z : A × B). f z.0 z.1) (zip (take n xs) (take n ys)) ++ f x y
zip-next f n [] ys x y h k e g = absurd (omega (arith, h))
zip-next f n (v ∷ xs) [] x y h k e g = absurd (omega (arith, k))
zip-next f zero (v ∷ xs) (w ∷ ys) x y h k e g = append-nil (f v w) ∙ ap (λ u. f u w) (sym e) ∙ ap (f x) (sym g)
zip-next {A} {B} f (suc n) (v ∷ xs) (w ∷ ys) x y h k e g =
    ap (λ zs. f v w ++ zs) (zip-next f n xs ys x y (omega (arith, h)) (omega (arith, k)) e g)
    ∙ sym (append_assoc (f v w) (flat_map (λ (z : A × B). f z.0 z.1) (zip (take n xs) (take n ys))) (f x y))

flat-map-map : {A B C : Type 0} (f : B → List C) (g : A → B) (xs : List A) → flat_map f (map g xs) ≡ flat_map (λ x. f (g x)) xs
flat-map-map f g [] = refl
flat-map-map f g (x ∷ xs) = ap (λ ys. f (g x) ++ ys) (flat-map-map f g xs)

flat-flat : {A B C : Type 0} (f : B → List C) (g : A → List B) (xs : List A) → flat_map f (flat_map g xs) ≡ flat_map (λ x. flat_map f (g x)) xs
flat-flat f g [] = refl
flat-flat {A} {B} f g (x ∷ xs) = flat-join (g x) (flat_map g xs) ∙ ap (λ ys. flat_map f (g x) ++ ys) (flat-flat f g xs)
  where
    flat-join : (ys zs : List B) → flat_map f (ys ++ zs) ≡ flat_map f ys ++ flat_map f zs
    flat-join [] zs = refl
    flat-join (y ∷ ys) zs = ap (λ ws. f y ++ ws) (flat-join ys zs) ∙ sym (append_assoc (f y) (flat_map f ys) (flat_map f zs))

one-more : {A : Type 0} (xs : List A) (x : A) (n : ℕ) → n ≡ length xs → length (xs ++ x ∷ []) ≡ suc n
one-more xs x n h = length-append xs (x ∷ []) ∙ more (length xs) n h
  where
    more : (l m : ℕ) → m ≡ l → l + 1 ≡ suc m
    more l m e = omega (arith, e)

-- what stands after one more push, where each pair adds what f says
pushed : {A B Y : Type 0} (f : A → B → List Marked) (whole : List A → List B → List Marked)
    → ((xs : List A) (ys : List B) → whole xs ys ≡ flat_map (λ (z : A × B). f z.0 z.1) (zip xs ys))
    → (before found next : List Marked) (xs : List A) (ys : List B) (yielded : List Y) (this : Y) (x : A) (y : B) → length yielded < length xs → length yielded < length ys
    → x ≡ slice_index_or xs (length yielded) x → y ≡ slice_index_or ys (length yielded) y
    → found ≡ before ++ whole (take (length yielded) xs) (take (length yielded) ys) → next ≡ found ++ f x y
    → next ≡ before ++ whole (take (length (yielded ++ this ∷ [])) xs) (take (length (yielded ++ this ∷ [])) ys)
pushed {A} {B} f whole is before found next xs ys yielded this x y h k e g invariant more =
    let n = length yielded in
    more
    ∙ ap (λ ms. ms ++ f x y) invariant
    ∙ append_assoc before (whole (take n xs) (take n ys)) (f x y)
    ∙ ap (λ ms. before ++ ms)
    (ap (λ ms. ms ++ f x y) (is (take n xs) (take n ys)) ∙ sym (zip-next f n xs ys x y h k e g) ∙ sym (is (take (suc n) xs) (take (suc n) ys)))
    ∙ ap (λ m. before ++ whole (take m xs) (take m ys)) (sym (one-more yielded this n refl))

pub holes-more : {Y : Type 0} (before found next : List Marked) (holes : List (List Coordinates)) (colours : List ℕ) (yielded : List Y) (this : Y) (hole : List Coordinates) (colour : ℕ)
    → length yielded < length holes → length yielded < length colours → hole ≡ slice_index_or holes (length yielded) hole → colour ≡ slice_index_or colours (length yielded) colour
    → found ≡ before ++ pieces_in (holes_in (take (length yielded) holes) (take (length yielded) colours)) → next ≡ found ++ edges_in (colour + 1) hole
    → next ≡ before ++ pieces_in (holes_in (take (length (yielded ++ this ∷ [])) holes) (take (length (yielded ++ this ∷ [])) colours))
holes-more = pushed (λ hole colour. edges_in (colour + 1) hole) (λ holes colours. pieces_in (holes_in holes colours))
    (λ holes colours. flat-map-map (λ (r : GroupedRing). edges_in r.1 r.0) (λ (h : GroupedRing). (h.0, h.1 + 1)) (zip holes colours))

pub polygons-more : {Y : Type 0} (before found next : List Marked) (polygons : List (List (List Coordinates))) (colours : List ℕ) (yielded : List Y) (this : Y)
    (rings : List (List Coordinates)) (colour : ℕ)
    → length yielded < length polygons → length yielded < length colours → rings ≡ slice_index_or polygons (length yielded) rings → colour ≡ slice_index_or colours (length yielded) colour
    → found ≡ before ++ pieces_in (polygons_in (take (length yielded) polygons) (take (length yielded) colours)) → next ≡ found ++ pieces_in (grouped colour rings)
    → next ≡ before ++ pieces_in (polygons_in (take (length (yielded ++ this ∷ [])) polygons) (take (length (yielded ++ this ∷ [])) colours))
polygons-more = pushed (λ rings colour. pieces_in (grouped colour rings)) (λ polygons colours. pieces_in (polygons_in polygons colours))
    (λ polygons colours. flat-flat (λ (r : GroupedRing). edges_in r.1 r.0) (λ (p : List (List Coordinates) × ℕ). grouped p.1 p.0) (zip polygons colours))
