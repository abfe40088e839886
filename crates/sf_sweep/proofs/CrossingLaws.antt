-- A point at which edges meet in the column is reached by an edge that is left, so a step there takes at least one.
use Rattle.std.proofs.Common.{◌≡◌, ◌≢◌, refl, ap, sym, ◌∙◌, subst, ℕ, zero, suc, ◌<◌, arith, ℤ, pos, ◌*ℤ◌, Bool, true, List, [], ◌∷◌, ◌++◌, Some, length, ◌⊎◌, inl, inr}
use Rattle.std.specs.Prelude.{int_lt, slice_index_or}
use Rattle.std.specs.List.{AllByRecursion}
use Rattle.std.specs.List.Sorted.{IsPartitionedBy}
use Rattle.std.specs.Ordering.{is_le}
use Rattle.std.proofs.lemmas.Bool.{cases_eq, false≢true}
use Rattle.std.proofs.lemmas.Int.{ints}
use Rattle.sf_grid.specs.Fraction.{Fraction, fraction_lt}
use Rattle.sf_grid.specs.Plane.{IsPoint, Point, x_of, y_of}
use Rattle.sf_grid.specs.Edge.{height_at}
use Rattle.sf_grid.proofs.CallerLemmas.{Same}
use Rattle.sf_strips.specs.declared.active.Active.{Active}
use Rattle.sf_strips.specs.declared.contact.Contact.{Contact}
use Rattle.sf_strips.specs.declared.contact.Contact.TheVariants.{Ahead, Never, Throughout}
use Rattle.sf_strips.specs.declared.vertex.Vertex.{Vertex}
use Rattle.sf_strips.specs.Fronts.{IsContact, line_of}
use Rattle.sf_cells.specs.Groups.{Item}
use Rattle.sf_slabs.proofs.CrossLaws.{meeting-on_both, on_edge-column, place-IsFraction}
use Rattle.sf_slabs.proofs.FallsLaws.{height_in-edge_of}
use Rattle.sf_slabs.proofs.LeveledLaws.{active_height}
use Rattle.sf_sweep.specs.Nearest.{IsFirstMeeting}
use Rattle.sf_sweep.specs.Passing.{contact_at}
use Rattle.sf_sweep.specs.Settled.{AreMet}
use Rattle.sf_sweep.specs.Sides.{is_not_above}
use Rattle.sf_sweep.specs.Tables.{contacts_of}
use Rattle.sf_sweep.specs.Within.{Column, IsGiven, IsWithin, StopsBefore}
use Rattle.sf_slabs.proofs.FollowLaws.{slants-line_of}
use Rattle.sf_sweep.proofs.CalmLaws.{IsCalm, IsMet, calm-of}
use Rattle.sf_sweep.proofs.SameColumnLaws.{steps-same}
use Rattle.sf_sweep.proofs.SideLaws.{is_equal, reached-first}

-- ---- an edge at the point where it meets another one
meets-there : (p : Point) (a : Active) → IsPoint p → IsMet a (Ahead p) → is_not_above p a ≡ true
meets-there p a i m =
    let column = x_of p in
    let on = meeting-on_both (line_of a) (line_of m.other) m.behind p m.meeting in
    let level : Same (y_of p) (height_at (line_of a) column) = (on_edge-column (line_of a) p column (slants-line_of a) m.meeting.only.0 (place-IsFraction p i) refl on.0).1 in
    let height : Same (y_of p) (active_height column a) = subst (λ h. Same (y_of p) h) (sym (height_in-edge_of column a.edge)) level in
    ap is_le (is_equal _ _ height)

-- ---- edges that were dealt with meet right of the column
abbrev IsRight : Fraction → Contact → Type 0
IsRight x Never = Unit {0}
IsRight x (Ahead q) = fraction_lt x (x_of q) ≡ true
IsRight x Throughout = Unit {0}

contact-right : (x : Fraction) (a b : Active) (c : Contact) → IsContact (line_of a) (line_of b) x c → IsRight x c
contact-right x a b Never h = tt
contact-right x a b (Ahead q) h = h.after
contact-right x a b Throughout h = tt

met-right : (x : Fraction) (table : List Contact) (es below : List Active) → AreMet x table es below → AllByRecursion (λ a. IsRight x (contact_at table a)) es
met-right x table [] below m = tt
met-right x table (a ∷ []) [] m = (subst (IsRight x) (sym m.seam) tt, tt)
met-right x table (a ∷ []) (b ∷ below) m = (contact-right x a b (contact_at table a) m.seam, tt)
met-right x table (a ∷ b ∷ es) below m = (contact-right x a b (contact_at table a) m.inner.0, met-right x table (b ∷ es) below (record { inner = m.inner.1; seam = m.seam }))

not-right : (x : Fraction) (p : Point) → Same (x_of p) x → fraction_lt x (x_of p) ≡ true → ⊥
not-right x p s h = differ (x.num *ℤ pos (x_of p).den) ((x_of p).num *ℤ pos x.den) (sym s) h
  where
    differ : (a b : ℤ) → a ≡ b → int_lt a b ≡ true → ⊥
    differ a b e h = grind (arith, ints)

-- ---- the edge of a piece
record IsAmong (i : ℕ) (es : List Active) (d : Active) : Type 0 where
  place : ℕ
  within : place < length es
  piece : (slice_index_or es place d).piece ≡ i

either-among : (i : ℕ) (es : List Active) (d : Active) → AllByRecursion (λ a. i ≢ a.piece) es ⊎ IsAmong i es d
either-among i [] d = inl tt
either-among i (a ∷ es) d = by_rest (cases_eq i a.piece) (either-among i es d)
  where
    by_rest : (i ≡ a.piece) ⊎ ((i ≡ a.piece) → ⊥) → AllByRecursion (λ b. i ≢ b.piece) es ⊎ IsAmong i es d → AllByRecursion (λ b. i ≢ b.piece) (a ∷ es) ⊎ IsAmong i (a ∷ es) d
    by_rest (inl e) other = inr (record { place = 0; within = omega arith; piece = sym e })
    by_rest (inr n) (inl out) = inl (n, out)
    by_rest (inr n) (inr h) = inr (record { place = suc h.place; within = omega (arith, h.within); piece = h.piece })

each-place : (P : Active → Type 0) (es : List Active) (n : ℕ) (d : Active) → n < length es → AllByRecursion P es → P (slice_index_or es n d)
each-place P [] n d l h = absurd (omega (arith, l))
each-place P (a ∷ es) zero d l h = h.0
each-place P (a ∷ es) (suc n) d l h = each-place P es n d (omega (arith, l)) h.1

-- ---- it is reached
pub crossing-reached : (k : Column) (gone done rest : List Active) (ws : List Vertex) (table : List Contact) (odd : List (List Bool)) (more : List Item) (p : Point) → IsGiven k →
    IsWithin k gone done rest ws table odd more → IsFirstMeeting table p → Same (x_of p) k.x → StopsBefore (is_not_above p) rest → ⊥
crossing-reached k gone done [] ws table odd more p g h f s stops = none-there (done ++ []) (each-right done (met-right k.x table done [] h.met)) h.never
  where
    each-right : (es : List Active) → AllByRecursion (λ a. IsRight k.x (contact_at table a)) es → AllByRecursion (λ a. f.among.piece ≢ a.piece) (es ++ [])
    each-right [] r = tt
    each-right (a ∷ es) r =
        (λ e. not-right k.x p s (subst (IsRight k.x) (ap (λ j. slice_index_or table j Never) (sym e) ∙ f.among.meets) r.0), each-right es r.1)

    none-there : (es : List Active) → AllByRecursion (λ a. f.among.piece ≢ a.piece) es → ((i : ℕ) → AllByRecursion (λ a. i ≢ a.piece) es → slice_index_or table i Never ≡ Never) → ⊥
    none-there es out never = differ (sym (never f.among.piece out) ∙ f.among.meets)
      where
        differ : ◌≡◌ {A = Contact} Never (Ahead p) → ⊥
        differ e = cc
crossing-reached k gone done (b ∷ rest) ws table odd more p g h f s stops = by_either (either-among f.among.piece (b ∷ rest) b)
  where
    each-right : (es : List Active) → AllByRecursion (λ a. IsRight k.x (contact_at table a)) es → AllByRecursion (λ a. f.among.piece ≢ a.piece) es
    each-right [] r = tt
    each-right (a ∷ es) r =
        (λ e. not-right k.x p s (subst (IsRight k.x) (ap (λ j. slice_index_or table j Never) (sym e) ∙ f.among.meets) r.0), each-right es r.1)

    both : (es fs : List Active) → AllByRecursion (λ a. f.among.piece ≢ a.piece) es → AllByRecursion (λ a. f.among.piece ≢ a.piece) fs → AllByRecursion (λ a. f.among.piece ≢ a.piece) (es ++ fs)
    both [] fs u v = v
    both (a ∷ es) fs u v = (u.0, both es fs u.1 v)

    differ : ◌≡◌ {A = Contact} Never (Ahead p) → ⊥
    differ e = cc

    by_either : AllByRecursion (λ a. f.among.piece ≢ a.piece) (b ∷ rest) ⊎ IsAmong f.among.piece (b ∷ rest) b → ⊥
    by_either (inl out) =
        differ (sym (h.never f.among.piece (both done (b ∷ rest) (each-right done (met-right k.x table done (b ∷ rest) h.met)) out)) ∙ f.among.meets)
    by_either (inr m) =
        let a : Active = slice_index_or (b ∷ rest) m.place b in
        let calm : IsCalm table a = each-place (IsCalm table) (b ∷ rest) m.place b m.within (calm-of k.before table (b ∷ rest) h.coming.contacts h.coming.alone) in
        let meets : contact_at table a ≡ Ahead p = ap (λ j. slice_index_or table j Never) m.piece ∙ f.among.meets in
        let reached : is_not_above p a ≡ true = meets-there p a f.point (subst (IsMet a) meets calm) in
        let falls : IsPartitionedBy (is_not_above p) (b ∷ rest) =
        reached-first p (Some k.x) (b ∷ rest) (contacts_of table (b ∷ rest)) f.point
        (steps-same k.x (x_of p) (Some k.x) (b ∷ rest) (contacts_of table (b ∷ rest)) g.coming.place (place-IsFraction p f.point) (sym s) h.coming.steps) in
        false≢true (sym stops ∙ falls 0 m.place b (omega arith) m.within reached)
