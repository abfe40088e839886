-- Tight lists: no two neighbours are equal; their ends are those of the lists that were made tight.
use Rattle.std.proofs.Common.{◌≡◌, refl, ap, sym, ◌∙◌, subst, Bool, true, false, List, [], ◌∷◌}
use Rattle.std.specs.Prelude.{if◌then◌else◌}
use Rattle.sf_grid.specs.Plane.{Coordinates}
use Rattle.sf_geometry.specs.Lists.{before_tight, ends_of, is_closed, is_same, last_from, tight}
use Rattle.sf_geometry.proofs.ListLaws.{same-is}
use Rattle.sf_strands.specs.Tight.{IsTight, IsTightFrom}

before-IsTight : (p : Coordinates) (qs : List Coordinates) → IsTight qs → IsTight (before_tight p qs)
before-IsTight p [] h = tt
before-IsTight p (q ∷ qs) h = by_same (is_same p q) refl
  where
    by_same : (t : Bool) → is_same p q ≡ t → IsTight (if t then q ∷ qs else p ∷ q ∷ qs)
    by_same true e = h
    by_same false e = (e, h)

pub tight-IsTight : (ps : List Coordinates) → IsTight (tight ps)
tight-IsTight [] = tt
tight-IsTight (p ∷ ps) = before-IsTight p (tight ps) (tight-IsTight ps)

-- what is read of a tight list
pub made-IsTight : (ps ts us : List Coordinates) → ts ≡ tight ps → us ≡ ts → IsTight us
made-IsTight ps ts us e f = let P : List Coordinates → Type 0 = λ qs. IsTight qs in subst P (sym (f ∙ e)) (tight-IsTight ps)

-- a tight list stays
pub tight-tight : (ps : List Coordinates) → IsTight ps → tight ps ≡ ps
tight-tight [] h = refl
tight-tight (p ∷ ps) h = from p ps h
  where
    from : (p : Coordinates) (ps : List Coordinates) → IsTightFrom p ps → tight (p ∷ ps) ≡ p ∷ ps
    from p [] h = refl
    from p (q ∷ qs) h = ap (before_tight p) (from q qs h.1) ∙ ap (λ t. if t then q ∷ qs else p ∷ q ∷ qs) h.0

pub tight-twice : (ps : List Coordinates) → tight (tight ps) ≡ tight ps
tight-twice ps = tight-tight (tight ps) (tight-IsTight ps)

-- the first and the last point stay
before-last : (d p : Coordinates) (qs : List Coordinates) → last_from d (before_tight p qs) ≡ last_from p qs
before-last d p [] = refl
before-last d p (q ∷ qs) = by_same (is_same p q)
  where
    by_same : (t : Bool) → last_from d (if t then q ∷ qs else p ∷ q ∷ qs) ≡ last_from q qs
    by_same true = refl
    by_same false = refl

tight-last : (d : Coordinates) (ps : List Coordinates) → last_from d (tight ps) ≡ last_from d ps
tight-last d [] = refl
tight-last d (p ∷ ps) = before-last d p (tight ps) ∙ tight-last p ps

-- the list begins with p
pub record BeginsWith (p : Coordinates) (ps : List Coordinates) : Type 0 where
  pub rest : List Coordinates
  pub is : ps ≡ p ∷ rest

before-begins : (p : Coordinates) (qs : List Coordinates) → BeginsWith p (before_tight p qs)
before-begins p [] = record { rest = []; is = refl }
before-begins p (q ∷ qs) = by_same (is_same p q) refl
  where
    by_same : (t : Bool) → is_same p q ≡ t → BeginsWith p (if t then q ∷ qs else p ∷ q ∷ qs)
    by_same true h = record { rest = qs; is = ap (λ r. r ∷ qs) (sym (same-is p q h)) }
    by_same false h = record { rest = q ∷ qs; is = refl }

tight-begins : (p : Coordinates) (ps : List Coordinates) → BeginsWith p (tight (p ∷ ps))
tight-begins p ps = before-begins p (tight ps)

pub tight-closed : (ps : List Coordinates) → is_closed (tight ps) ≡ is_closed ps
tight-closed [] = refl
tight-closed (p ∷ ps) =
    let b = tight-begins p ps in
    ap is_closed b.is ∙ ap (λ ts. is_same p (last_from p ts)) (sym b.is) ∙ ap (is_same p) (tight-last p (p ∷ ps))

pub tight-ends : (ps : List Coordinates) → ends_of (tight ps) ≡ ends_of ps
tight-ends [] = refl
tight-ends (p ∷ ps) =
    let b = tight-begins p ps in
    ap ends_of b.is
    ∙ ap (λ ts. if is_same p (last_from p ts) then [] else p ∷ last_from p ts ∷ []) (sym b.is)
    ∙ ap (λ q. if is_same p q then [] else p ∷ q ∷ []) (tight-last p (p ∷ ps))
