-- What holds of the matrix of two geometries holds of the matrix of the two the other way round, with its columns as rows.
use Rattle.std.proofs.Common.{◌≡◌, refl, sym, ◌∙◌, subst, Bool, true, false, ◌||◌, List, [], ◌∷◌}
use Rattle.sf_geometry.specs.declared.geometry.Geometry.{Geometry}
use Rattle.sf_known.proofs.NineLaws.{nine-listed, same-length}
use Rattle.sf_known.specs.declared.known.Known.{Known}
use Rattle.sf_known.specs.Known.{AreAtMost, Holds}
use Rattle.sf_known.specs.Patterns.{is_filled}
use Rattle.sf_known.specs.Transposed.{known_transposed, transposed}
use Rattle.sf_plane.specs.declared.dim.Dim.{Dim}
use Rattle.sf_linework.proofs.PreparedLaws.{matrices_are_transposed}
use Rattle.sf_relate.specs.Matrices.{matrix_of}

-- nine entries that are at most others are so by columns too
columns-at_most : (a b c d e f g h i j k l m n o p q r : Dim) → AreAtMost (a ∷ b ∷ c ∷ d ∷ e ∷ f ∷ g ∷ h ∷ i ∷ []) (j ∷ k ∷ l ∷ m ∷ n ∷ o ∷ p ∷ q ∷ r ∷ [])
    → AreAtMost (a ∷ d ∷ g ∷ b ∷ e ∷ h ∷ c ∷ f ∷ i ∷ []) (j ∷ m ∷ p ∷ k ∷ n ∷ q ∷ l ∷ o ∷ r ∷ [])
columns-at_most a b c d e f g h i j k l m n o p q r z =
    (z.0, (z.1.1.1.0, (z.1.1.1.1.1.1.0, (z.1.0, (z.1.1.1.1.0, (z.1.1.1.1.1.1.1.0, (z.1.1.0, (z.1.1.1.1.1.0, (z.1.1.1.1.1.1.1.1.0, refl)))))))))

turned-least : (ds : List Dim) (ii ib ie bi bb be ei eb ee : Dim) → AreAtMost ds (ii ∷ ib ∷ ie ∷ bi ∷ bb ∷ be ∷ ei ∷ eb ∷ ee ∷ [])
    → AreAtMost (transposed ds) (ii ∷ bi ∷ ei ∷ ib ∷ bb ∷ eb ∷ ie ∷ be ∷ ee ∷ [])
turned-least ds ii ib ie bi bb be ei eb ee h =
    subst (λ xs. AreAtMost xs (ii ∷ ib ∷ ie ∷ bi ∷ bb ∷ be ∷ ei ∷ eb ∷ ee ∷ []) → AreAtMost (transposed xs) (ii ∷ bi ∷ ei ∷ ib ∷ bb ∷ eb ∷ ie ∷ be ∷ ee ∷ []))
    (sym (nine-listed ds (same-length ds (ii ∷ ib ∷ ie ∷ bi ∷ bb ∷ be ∷ ei ∷ eb ∷ ee ∷ []) h)))
    (λ k. columns-at_most _ _ _ _ _ _ _ _ _ ii ib ie bi bb be ei eb ee k) h

turned-most : (ds : List Dim) (ii ib ie bi bb be ei eb ee : Dim) → AreAtMost (ii ∷ ib ∷ ie ∷ bi ∷ bb ∷ be ∷ ei ∷ eb ∷ ee ∷ []) ds
    → AreAtMost (ii ∷ bi ∷ ei ∷ ib ∷ bb ∷ eb ∷ ie ∷ be ∷ ee ∷ []) (transposed ds)
turned-most ds ii ib ie bi bb be ei eb ee h =
    subst (λ xs. AreAtMost (ii ∷ ib ∷ ie ∷ bi ∷ bb ∷ be ∷ ei ∷ eb ∷ ee ∷ []) xs → AreAtMost (ii ∷ bi ∷ ei ∷ ib ∷ bb ∷ eb ∷ ie ∷ be ∷ ee ∷ []) (transposed xs))
    (sym (nine-listed ds (sym (same-length (ii ∷ ib ∷ ie ∷ bi ∷ bb ∷ be ∷ ei ∷ eb ∷ ee ∷ []) ds h))))
    (λ k. columns-at_most ii ib ie bi bb be ei eb ee _ _ _ _ _ _ _ _ _ k) h

-- contact is seen in the same four entries
turned-contact : (ii ib bi bb : Bool) → (ii || (ib || (bi || (bb || false)))) ≡ (ii || (bi || (ib || (bb || false))))
turned-contact true ib bi bb = refl
turned-contact false true true bb = refl
turned-contact false true false bb = refl
turned-contact false false true bb = refl
turned-contact false false false bb = refl

turned-entries : (known : Known) (ii ib ie bi bb be ei eb ee : Dim) → Holds known (ii ∷ ib ∷ ie ∷ bi ∷ bb ∷ be ∷ ei ∷ eb ∷ ee ∷ [])
    → Holds (known_transposed known) (ii ∷ bi ∷ ei ∷ ib ∷ bb ∷ eb ∷ ie ∷ be ∷ ee ∷ [])
turned-entries known ii ib ie bi bb be ei eb ee h =
    record {
      least = turned-least known.least ii ib ie bi bb be ei eb ee h.least;
      most = turned-most known.most ii ib ie bi bb be ei eb ee h.most;
      contact = λ k. sym (turned-contact (is_filled ii) (is_filled ib) (is_filled bi) (is_filled bb)) ∙ h.contact k;
    }

pub turned : (a b : Geometry) (known : Known) → Holds known (matrix_of b a) → Holds (known_transposed known) (matrix_of a b)
turned a b known h = subst (Holds (known_transposed known)) (sym (matrices_are_transposed b a)) (turned-entries known _ _ _ _ _ _ _ _ _ h)
