-- What a function gives of nine entries, one by one.
use Rattle.std.proofs.Common.{◌≡◌, List, [], ◌∷◌, length, map, get_or, refl, ap, sym, ◌∙◌, arith, subst, Bool, true, false, not}
use Rattle.std.specs.Prelude.{slice_set, zip}
use Rattle.sf_known.proofs.OrderLaws.{entries-known, entry-known}
use Rattle.sf_known.specs.Entries.{exceeds, lesser_dim}
use Rattle.sf_known.specs.Known.{AreAtMost, IsAtMost, but_boundaries, have_most}
use Rattle.std.proofs.lemmas.Bool.{and_from, and_parts, both_ways}
use Rattle.sf_plane.specs.declared.dim.Dim.{Dim}
use Rattle.sf_plane.specs.declared.dim.Dim.TheVariants.{Nothing, Zero, One, Two}

pub nine : {A : Type 0} (f : Dim → A) (ds : List Dim) → length ds ≡ 9 → map f ds
    ≡ f (get_or ds 0 Nothing) ∷ f (get_or ds 1 Nothing) ∷ f (get_or ds 2 Nothing) ∷ f (get_or ds 3 Nothing) ∷ f (get_or ds 4 Nothing) ∷ f (get_or ds 5 Nothing) ∷ f (get_or ds 6 Nothing) ∷ f (get_or ds 7 Nothing) ∷ f (get_or ds 8 Nothing) ∷ []
nine m [] n = absurd (omega (arith, n))
nine m (a ∷ []) n = absurd (omega (arith, n))
nine m (a ∷ b ∷ []) n = absurd (omega (arith, n))
nine m (a ∷ b ∷ c ∷ []) n = absurd (omega (arith, n))
nine m (a ∷ b ∷ c ∷ d ∷ []) n = absurd (omega (arith, n))
nine m (a ∷ b ∷ c ∷ d ∷ e ∷ []) n = absurd (omega (arith, n))
nine m (a ∷ b ∷ c ∷ d ∷ e ∷ f ∷ []) n = absurd (omega (arith, n))
nine m (a ∷ b ∷ c ∷ d ∷ e ∷ f ∷ g ∷ []) n = absurd (omega (arith, n))
nine m (a ∷ b ∷ c ∷ d ∷ e ∷ f ∷ g ∷ h ∷ []) n = absurd (omega (arith, n))
nine m (a ∷ b ∷ c ∷ d ∷ e ∷ f ∷ g ∷ h ∷ i ∷ []) n = refl
nine m (a ∷ b ∷ c ∷ d ∷ e ∷ f ∷ g ∷ h ∷ i ∷ j ∷ ds) n = absurd (omega (arith, n))

-- nine members of a list are those at the places from 0 to 8
pub nine-places : {A : Type 0} (o : A) (xs : List A) → length xs ≡ 9 → xs
    ≡ get_or xs 0 o ∷ get_or xs 1 o ∷ get_or xs 2 o ∷ get_or xs 3 o ∷ get_or xs 4 o ∷ get_or xs 5 o ∷ get_or xs 6 o ∷ get_or xs 7 o ∷ get_or xs 8 o ∷ []
nine-places o [] n = absurd (omega (arith, n))
nine-places o (a ∷ []) n = absurd (omega (arith, n))
nine-places o (a ∷ b ∷ []) n = absurd (omega (arith, n))
nine-places o (a ∷ b ∷ c ∷ []) n = absurd (omega (arith, n))
nine-places o (a ∷ b ∷ c ∷ d ∷ []) n = absurd (omega (arith, n))
nine-places o (a ∷ b ∷ c ∷ d ∷ e ∷ []) n = absurd (omega (arith, n))
nine-places o (a ∷ b ∷ c ∷ d ∷ e ∷ f ∷ []) n = absurd (omega (arith, n))
nine-places o (a ∷ b ∷ c ∷ d ∷ e ∷ f ∷ g ∷ []) n = absurd (omega (arith, n))
nine-places o (a ∷ b ∷ c ∷ d ∷ e ∷ f ∷ g ∷ h ∷ []) n = absurd (omega (arith, n))
nine-places o (a ∷ b ∷ c ∷ d ∷ e ∷ f ∷ g ∷ h ∷ i ∷ []) n = refl
nine-places o (a ∷ b ∷ c ∷ d ∷ e ∷ f ∷ g ∷ h ∷ i ∷ j ∷ xs) n = absurd (omega (arith, n))

pub nine-listed : (ds : List Dim) → length ds ≡ 9 → ds
    ≡ get_or ds 0 Nothing ∷ get_or ds 1 Nothing ∷ get_or ds 2 Nothing ∷ get_or ds 3 Nothing ∷ get_or ds 4 Nothing ∷ get_or ds 5 Nothing ∷ get_or ds 6 Nothing ∷ get_or ds 7 Nothing ∷ get_or ds 8 Nothing ∷ []
nine-listed ds n = nine-places Nothing ds n

-- what a function gives of each two entries of nine
pub nine-pairs : (f : Dim → Dim → Dim) (ds es : List Dim) → length ds ≡ 9 → length es ≡ 9 → map (λ (pair : Dim × Dim). f pair.0 pair.1) (zip ds es)
    ≡ f (get_or ds 0 Nothing) (get_or es 0 Nothing) ∷ f (get_or ds 1 Nothing) (get_or es 1 Nothing) ∷ f (get_or ds 2 Nothing) (get_or es 2 Nothing)
    ∷ f (get_or ds 3 Nothing) (get_or es 3 Nothing) ∷ f (get_or ds 4 Nothing) (get_or es 4 Nothing) ∷ f (get_or ds 5 Nothing) (get_or es 5 Nothing)
    ∷ f (get_or ds 6 Nothing) (get_or es 6 Nothing) ∷ f (get_or ds 7 Nothing) (get_or es 7 Nothing) ∷ f (get_or ds 8 Nothing) (get_or es 8 Nothing) ∷ []
nine-pairs f ds es n k =
    ap (λ xs. map (λ (pair : Dim × Dim). f pair.0 pair.1) (zip xs es)) (nine-listed ds n)
    ∙ ap (λ ys. map (λ (pair : Dim × Dim). f pair.0 pair.1) (zip (get_or ds 0 Nothing ∷ get_or ds 1 Nothing ∷ get_or ds 2 Nothing ∷ get_or ds 3 Nothing ∷ get_or ds 4 Nothing ∷ get_or ds 5 Nothing ∷ get_or ds 6 Nothing ∷ get_or ds 7 Nothing ∷ get_or ds 8 Nothing ∷ []) ys)) (nine-listed es k)

cons : {A : Type 0} (x y : A) (xs ys : List A) → x ≡ y → xs ≡ ys → x ∷ xs ≡ y ∷ ys
cons x y xs ys e f = ap (λ v. v ∷ xs) e ∙ ap (λ vs. y ∷ vs) f

-- ---- entries that are at most others
pub same-length : (ds es : List Dim) → AreAtMost ds es → length ds ≡ length es
same-length [] es g = sym (ap length g)
same-length (d ∷ ds) [] g = absurd g
same-length (d ∷ ds) (e ∷ es) g = omega (arith, same-length ds es g.1)

-- six that have their most
pub six-known : (l1 l2 l3 l4 l5 l6 d1 d2 d3 d4 d5 d6 k1 k2 k3 k4 k5 k6 : Dim) (ls ks : List Dim) → AreAtMost (l1 ∷ l2 ∷ l3 ∷ l4 ∷ l5 ∷ l6 ∷ []) (d1 ∷ d2 ∷ d3 ∷ d4 ∷ d5 ∷ d6 ∷ [])
    → AreAtMost (d1 ∷ d2 ∷ d3 ∷ d4 ∷ d5 ∷ d6 ∷ []) (k1 ∷ k2 ∷ k3 ∷ k4 ∷ k5 ∷ k6 ∷ []) → have_most (l1 ∷ l2 ∷ l3 ∷ l4 ∷ l5 ∷ l6 ∷ ls) (k1 ∷ k2 ∷ k3 ∷ k4 ∷ k5 ∷ k6 ∷ ks) ≡ true
    → ◌≡◌ {A = List Dim} (l1 ∷ l2 ∷ l3 ∷ l4 ∷ l5 ∷ l6 ∷ []) (d1 ∷ d2 ∷ d3 ∷ d4 ∷ d5 ∷ d6 ∷ [])
six-known l1 l2 l3 l4 l5 l6 d1 d2 d3 d4 d5 d6 k1 k2 k3 k4 k5 k6 ls ks g h n =
    let n1 = and_parts (not (exceeds k1 l1)) _ n in
    let n2 = and_parts (not (exceeds k2 l2)) _ n1.1 in
    let n3 = and_parts (not (exceeds k3 l3)) _ n2.1 in
    let n4 = and_parts (not (exceeds k4 l4)) _ n3.1 in
    let n5 = and_parts (not (exceeds k5 l5)) _ n4.1 in
    let n6 = and_parts (not (exceeds k6 l6)) _ n5.1 in
    entries-known (l1 ∷ l2 ∷ l3 ∷ l4 ∷ l5 ∷ l6 ∷ []) (d1 ∷ d2 ∷ d3 ∷ d4 ∷ d5 ∷ d6 ∷ []) (k1 ∷ k2 ∷ k3 ∷ k4 ∷ k5 ∷ k6 ∷ []) g h
    (and_from (not (exceeds k1 l1)) _ n1.0 (and_from (not (exceeds k2 l2)) _ n2.0 (and_from (not (exceeds k3 l3)) _ n3.0 (and_from (not (exceeds k4 l4)) _ n4.0 (and_from (not (exceeds k5 l5)) _ n5.0 (and_from (not (exceeds k6 l6)) _ n6.0 refl))))))

-- the entry of the boundaries is filled, where it has at least a point and not its most
bb-filled : (l k : Dim) → IsAtMost l Nothing → not (exceeds (lesser_dim Zero k) l) ≡ true → exceeds k l ≡ true → ⊥
bb-filled Zero k g n e = absurd cc
bb-filled One k g n e = absurd cc
bb-filled Two k g n e = absurd cc
bb-filled Nothing Nothing g n e = absurd cc
bb-filled Nothing Zero g n e = absurd cc
bb-filled Nothing One g n e = absurd cc
bb-filled Nothing Two g n e = absurd cc

-- nine of which all but the fifth have their most
all-but-fifth : (l1 l2 l3 l4 l5 l6 l7 l8 l9 m1 m2 m3 m4 m5 m6 m7 m8 m9 k1 k2 k3 k4 k5 k6 k7 k8 k9 x : Dim) → AreAtMost (l1 ∷ l2 ∷ l3 ∷ l4 ∷ l5 ∷ l6 ∷ l7 ∷ l8 ∷ l9 ∷ []) (m1 ∷ m2 ∷ m3 ∷ m4 ∷ m5 ∷ m6 ∷ m7 ∷ m8 ∷ m9 ∷ [])
    → AreAtMost (m1 ∷ m2 ∷ m3 ∷ m4 ∷ m5 ∷ m6 ∷ m7 ∷ m8 ∷ m9 ∷ []) (k1 ∷ k2 ∷ k3 ∷ k4 ∷ k5 ∷ k6 ∷ k7 ∷ k8 ∷ k9 ∷ []) → have_most (l1 ∷ l2 ∷ l3 ∷ l4 ∷ l5 ∷ l6 ∷ l7 ∷ l8 ∷ l9 ∷ []) (but_boundaries (k1 ∷ k2 ∷ k3 ∷ k4 ∷ k5 ∷ k6 ∷ k7 ∷ k8 ∷ k9 ∷ [])) ≡ true
    → have_most (l1 ∷ l2 ∷ l3 ∷ l4 ∷ l5 ∷ l6 ∷ l7 ∷ l8 ∷ l9 ∷ []) (k1 ∷ k2 ∷ k3 ∷ k4 ∷ k5 ∷ k6 ∷ k7 ∷ k8 ∷ k9 ∷ []) ≡ false → ((m5 ≡ Nothing → ⊥) → x ≡ m5) → ◌≡◌ {A = List Dim} (slice_set (l1 ∷ l2 ∷ l3 ∷ l4 ∷ l5 ∷ l6 ∷ l7 ∷ l8 ∷ l9 ∷ []) 4 x) (m1 ∷ m2 ∷ m3 ∷ m4 ∷ m5 ∷ m6 ∷ m7 ∷ m8 ∷ m9 ∷ [])
all-but-fifth l1 l2 l3 l4 l5 l6 l7 l8 l9 m1 m2 m3 m4 m5 m6 m7 m8 m9 k1 k2 k3 k4 k5 k6 k7 k8 k9 x g h n o f =
    let n1 = and_parts (not (exceeds k1 l1)) _ n in
    let n2 = and_parts (not (exceeds k2 l2)) _ n1.1 in
    let n3 = and_parts (not (exceeds k3 l3)) _ n2.1 in
    let n4 = and_parts (not (exceeds k4 l4)) _ n3.1 in
    let n5 = and_parts (not (exceeds (lesser_dim Zero k5) l5)) _ n4.1 in
    let n6 = and_parts (not (exceeds k6 l6)) _ n5.1 in
    let n7 = and_parts (not (exceeds k7 l7)) _ n6.1 in
    let n8 = and_parts (not (exceeds k8 l8)) _ n7.1 in
    let n9 = and_parts (not (exceeds k9 l9)) _ n8.1 in
    let all : exceeds k5 l5 ≡ false → have_most (l1 ∷ l2 ∷ l3 ∷ l4 ∷ l5 ∷ l6 ∷ l7 ∷ l8 ∷ l9 ∷ []) (k1 ∷ k2 ∷ k3 ∷ k4 ∷ k5 ∷ k6 ∷ k7 ∷ k8 ∷ k9 ∷ []) ≡ true =
    λ e. and_from (not (exceeds k1 l1)) _ n1.0 (and_from (not (exceeds k2 l2)) _ n2.0 (and_from (not (exceeds k3 l3)) _ n3.0 (and_from (not (exceeds k4 l4)) _ n4.0 (and_from (not (exceeds k5 l5)) _ (ap not e) (and_from (not (exceeds k6 l6)) _ n6.0 (and_from (not (exceeds k7 l7)) _ n7.0 (and_from (not (exceeds k8 l8)) _ n8.0 (and_from (not (exceeds k9 l9)) _ n9.0 (refl))))))))) in
    let filled : m5 ≡ Nothing → ⊥ = λ none. bb-filled l5 k5 (subst (IsAtMost l5) none g.1.1.1.1.0) n5.0 (over (exceeds k5 l5) all) in
    cons _ _ _ _ (entry-known l1 m1 k1 g.0 h.0 n1.0) (cons _ _ _ _ (entry-known l2 m2 k2 g.1.0 h.1.0 n2.0) (cons _ _ _ _ (entry-known l3 m3 k3 g.1.1.0 h.1.1.0 n3.0) (cons _ _ _ _ (entry-known l4 m4 k4 g.1.1.1.0 h.1.1.1.0 n4.0) (cons _ _ _ _ (f filled) (cons _ _ _ _ (entry-known l6 m6 k6 g.1.1.1.1.1.0 h.1.1.1.1.1.0 n6.0) (cons _ _ _ _ (entry-known l7 m7 k7 g.1.1.1.1.1.1.0 h.1.1.1.1.1.1.0 n7.0) (cons _ _ _ _ (entry-known l8 m8 k8 g.1.1.1.1.1.1.1.0 h.1.1.1.1.1.1.1.0 n8.0) (cons _ _ _ _ (entry-known l9 m9 k9 g.1.1.1.1.1.1.1.1.0 h.1.1.1.1.1.1.1.1.0 n9.0) (refl)))))))))
  where
    over : (b : Bool) → (b ≡ false → have_most (l1 ∷ l2 ∷ l3 ∷ l4 ∷ l5 ∷ l6 ∷ l7 ∷ l8 ∷ l9 ∷ []) (k1 ∷ k2 ∷ k3 ∷ k4 ∷ k5 ∷ k6 ∷ k7 ∷ k8 ∷ k9 ∷ []) ≡ true) → b ≡ true
    over true all = refl
    over false all = absurd (both_ways (have_most (l1 ∷ l2 ∷ l3 ∷ l4 ∷ l5 ∷ l6 ∷ l7 ∷ l8 ∷ l9 ∷ []) (k1 ∷ k2 ∷ k3 ∷ k4 ∷ k5 ∷ k6 ∷ k7 ∷ k8 ∷ k9 ∷ [])) o (all refl))

pub boundaries-known : (ls ks : List Dim) (m1 m2 m3 m4 m5 m6 m7 m8 m9 x : Dim) → AreAtMost ls (m1 ∷ m2 ∷ m3 ∷ m4 ∷ m5 ∷ m6 ∷ m7 ∷ m8 ∷ m9 ∷ []) → AreAtMost (m1 ∷ m2 ∷ m3 ∷ m4 ∷ m5 ∷ m6 ∷ m7 ∷ m8 ∷ m9 ∷ []) ks
    → have_most ls (but_boundaries ks) ≡ true → have_most ls ks ≡ false → ((m5 ≡ Nothing → ⊥) → x ≡ m5) → ◌≡◌ {A = List Dim} (slice_set ls 4 x) (m1 ∷ m2 ∷ m3 ∷ m4 ∷ m5 ∷ m6 ∷ m7 ∷ m8 ∷ m9 ∷ [])
boundaries-known ls ks m1 m2 m3 m4 m5 m6 m7 m8 m9 x g h n o f =
    let Known : List Dim → List Dim → Type 0 =
    λ cs ds. AreAtMost cs (m1 ∷ m2 ∷ m3 ∷ m4 ∷ m5 ∷ m6 ∷ m7 ∷ m8 ∷ m9 ∷ []) → AreAtMost (m1 ∷ m2 ∷ m3 ∷ m4 ∷ m5 ∷ m6 ∷ m7 ∷ m8 ∷ m9 ∷ []) ds → have_most cs (but_boundaries ds) ≡ true
    → have_most cs ds ≡ false → ◌≡◌ {A = List Dim} (slice_set cs 4 x) (m1 ∷ m2 ∷ m3 ∷ m4 ∷ m5 ∷ m6 ∷ m7 ∷ m8 ∷ m9 ∷ []) in
    let low = nine-listed ls (same-length ls (m1 ∷ m2 ∷ m3 ∷ m4 ∷ m5 ∷ m6 ∷ m7 ∷ m8 ∷ m9 ∷ []) g) in
    let high = nine-listed ks (sym (same-length (m1 ∷ m2 ∷ m3 ∷ m4 ∷ m5 ∷ m6 ∷ m7 ∷ m8 ∷ m9 ∷ []) ks h)) in
    subst (λ cs. Known cs ks) (sym low)
    (subst (Known (get_or ls 0 Nothing ∷ get_or ls 1 Nothing ∷ get_or ls 2 Nothing ∷ get_or ls 3 Nothing ∷ get_or ls 4 Nothing ∷ get_or ls 5 Nothing ∷ get_or ls 6 Nothing ∷ get_or ls 7 Nothing ∷ get_or ls 8 Nothing ∷ [])) (sym high)
    (λ gg hh nn oo. all-but-fifth (get_or ls 0 Nothing) (get_or ls 1 Nothing) (get_or ls 2 Nothing) (get_or ls 3 Nothing) (get_or ls 4 Nothing) (get_or ls 5 Nothing) (get_or ls 6 Nothing) (get_or ls 7 Nothing) (get_or ls 8 Nothing) m1 m2 m3 m4 m5 m6 m7 m8 m9 (get_or ks 0 Nothing) (get_or ks 1 Nothing) (get_or ks 2 Nothing) (get_or ks 3 Nothing) (get_or ks 4 Nothing) (get_or ks 5 Nothing) (get_or ks 6 Nothing) (get_or ks 7 Nothing) (get_or ks 8 Nothing) x gg hh nn oo f)) g h n o
