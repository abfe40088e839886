-- The numbers of a line that isn't upright, as quotients of numbers that are told one by one.
use Rattle.std.proofs.Common.{◌≡◌, ap, sym, ◌∙◌, ◌^◌, ◌-◌, ℤ, pos, ◌*ℤ◌, false, cond, inl, inr, of_z, w32}
use Rattle.std.proofs.lemmas.Bool.{cases_Bool}
use Rattle.std.specs.Int.{int_div_euclid}
use Rattle.std.specs.Ordering.{int_eq}
use Rattle.sf_grid.specs.Plane.{Coordinates}
use Rattle.sf_grid.proofs.CallerLemmas.{eq_from_test}
use Rattle.sf_along.specs.Runs.{height_of, offset_of, rise_of, slope_of, width_of}

pub slanted-slope : (u v : Coordinates) (w r q : ℤ) → int_eq u.x v.x ≡ false → w ≡ width_of u v → r ≡ rise_of u v → q ≡ int_div_euclid (r *ℤ pos (2 ^ 31)) w → q ≡ slope_of u v
slanted-slope u v w r q n e f g =
    g
    ∙ ap (λ z. int_div_euclid (r *ℤ pos (2 ^ 31)) z) e
    ∙ ap (λ z. int_div_euclid (z *ℤ pos (2 ^ 31)) (width_of u v)) f
    ∙ ap (λ t. cond t (pos (2 ^ 63 - 1)) (int_div_euclid (rise_of u v *ℤ pos (2 ^ 31)) (width_of u v))) (sym n)

pub slanted-height : (u v : Coordinates) (w o q : ℤ) → int_eq u.x v.x ≡ false → w ≡ width_of u v → o ≡ offset_of u v → q ≡ int_div_euclid (o *ℤ pos 2) w → q ≡ height_of u v
slanted-height u v w o q n e f g =
    g
    ∙ ap (λ z. int_div_euclid (o *ℤ pos 2) z) e
    ∙ ap (λ z. int_div_euclid (z *ℤ pos 2) (width_of u v)) f
    ∙ ap (λ t. cond t u.x (int_div_euclid (offset_of u v *ℤ pos 2) (width_of u v))) (sym n)

-- two coordinates whose bits differ
pub apart : (a b c d : ℤ) → a ≡ c → b ≡ d → (of_z w32 a ≡ of_z w32 b → ⊥) → int_eq c d ≡ false
apart a b c d e f n =
    elim (cases_Bool (int_eq c d)) [
      | inl t ↦ absurd (n (ap (λ z. of_z w32 z) (e ∙ eq_from_test c d t ∙ sym f)))
      | inr k ↦ k
    ]
