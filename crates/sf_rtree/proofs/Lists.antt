-- Where an entry goes in a list that is a map, and where it is taken out.
use Rattle.std.specs.Prelude.{◌≡◌, ◌≢◌, ℕ, ◌<◌, ◌≤◌, cond, [], ◌∷◌, None, length}
use Rattle.std.specs.List.{AllByRecursion, insert, remove}
use Rattle.std.proofs.Common.{refl, ap, sym, ◌∙◌, arith, take, get_or, zero, suc}
use Rattle.std.proofs.lemmas.Bool.{eq-eqb, ne_eqb}
use Rattle.sf_geometry.specs.declared.extent.Extent.{Extent}
use Rattle.sf_rtree.specs.Indexes.{Boxes, box_of, with_box, without_box}
use Rattle.sf_rtree.proofs.Maps.{box-first, box-later, none_some, with-above, with-below}

apart_from_free : (id : ℕ) (e : ℕ × Extent) (es : Boxes) → box_of (e ∷ es) id ≡ None → id ≢ e.0
apart_from_free id e es none same = none_some (box_of (e ∷ es) id) e.1 ⊥ none (box-first id e es same)

-- past the lower ones, before the first that is higher
pub put-here : (id : ℕ) (x : Extent) (es : Boxes) (i : ℕ) (d : ℕ × Extent) → i < length es → id < (get_or es i d).0
    → box_of es id ≡ None → AllByRecursion (λ f. f.0 ≤ id) (take i es) → with_box id x es ≡ insert es i (id, x)
put-here id x [] i d h above none lower = absurd (omega (arith, h))
put-here id x (f ∷ fs) zero d h above none lower = with-below id x f fs above
put-here id x (f ∷ fs) (suc i) d h above none lower =
    let apart : id ≢ f.0 = apart_from_free id f fs none in
    with-above id x f fs (omega (arith, lower.0, apart))
    ∙ ap (λ es. f ∷ es) (put-here id x fs i d (omega (arith, h)) above (sym (box-later id f fs apart) ∙ none) lower.1)

-- past all, where all are lower
pub put-last : (id : ℕ) (x : Extent) (es : Boxes) (i : ℕ) → i ≡ length es → box_of es id ≡ None
    → AllByRecursion (λ f. f.0 ≤ id) (take i es) → with_box id x es ≡ insert es (length es) (id, x)
put-last id x [] i h none lower = refl
put-last id x (f ∷ fs) zero h none lower = absurd (omega (arith, h))
put-last id x (f ∷ fs) (suc i) h none lower =
    let apart : id ≢ f.0 = apart_from_free id f fs none in
    with-above id x f fs (omega (arith, lower.0, apart))
    ∙ ap (λ es. f ∷ es) (put-last id x fs i (omega (arith, h)) (sym (box-later id f fs apart) ∙ none) lower.1)

pub remove-here : (id : ℕ) (es : Boxes) (i : ℕ) (d : ℕ × Extent) → i < length es → (get_or es i d).0 ≡ id
    → AllByRecursion (λ f. f.0 ≡ id → ⊥) (take i es) → without_box id es ≡ remove es i
remove-here id [] i d h same apart = absurd (omega (arith, h))
remove-here id (f ∷ fs) zero d h same apart =
    ap (λ b. cond b fs (f ∷ without_box id fs)) (eq-eqb id f.0 (sym same))
remove-here id (f ∷ fs) (suc i) d h same apart =
    ap (λ b. cond b fs (f ∷ without_box id fs)) (ne_eqb id f.0 (λ p. apart.0 (sym p)))
    ∙ ap (λ es. f ∷ es) (remove-here id fs i d (omega (arith, h)) same apart.1)

pub remove-none : (id : ℕ) (es : Boxes) (i : ℕ) → i ≡ length es → AllByRecursion (λ f. f.0 ≡ id → ⊥) (take i es) → without_box id es ≡ es
remove-none id [] i h apart = refl
remove-none id (f ∷ fs) zero h apart = absurd (omega (arith, h))
remove-none id (f ∷ fs) (suc i) h apart =
    ap (λ b. cond b fs (f ∷ without_box id fs)) (ne_eqb id f.0 (λ p. apart.0 (sym p)))
    ∙ ap (λ es. f ∷ es) (remove-none id fs i (omega (arith, h)) apart.1)
