-- A point that edges of two geometries share lies in the box that both geometries have in common, so those edges decide
-- whose boxes meet it.
use Rattle.std.proofs.Common.{◌≡◌, ap, sym, subst, ◌∙◌, Bool, true, false, ◌&&◌, ◌||◌, List, [], ◌∷◌, map, ⊎_elim}
use Rattle.std.specs.Prelude.{if◌then◌else◌}
use Rattle.std.specs.List.{list_any}
use Rattle.std.proofs.lemmas.Bool.{or_cases, or_left, or_right}
use Rattle.sf_crossing.specs.Sharing.{ShareOne}
use Rattle.sf_edge_tree.specs.Meeting.{ends_meeting, ends_of_edge, extent_of_edge}
use Rattle.sf_edge_tree.specs.Searches.{Answers}
use Rattle.sf_edge_tree.specs.declared.outcome.Outcome.{Outcome}
use Rattle.sf_edge_tree.specs.declared.outcome.Outcome.TheVariants.{Absent, Found}
use Rattle.sf_geometry.specs.declared.extent.Extent.{Extent}
use Rattle.sf_geometry.specs.declared.geometry.Geometry.{Geometry}
use Rattle.sf_geometry.specs.Envelope.{common_extent, envelope_of, extents_meet}
use Rattle.sf_geometry.specs.Parts.{edge_of, edges_of}
use Rattle.sf_grid.specs.Edge.{Edge, on_edge}
use Rattle.sf_grid.specs.Plane.{IsPoint, Point as PlanePoint}
use Rattle.sf_plane.proofs.BoxLaws.{common_point_meets, edge_in_box}
use Rattle.sf_valid_rules.specs.Validity.{IsValid}
use Rattle.sf_validity.specs.Beside.{box_of_extent}
use Rattle.sf_relate.specs.Contact.{in_extent}
use Rattle.sf_relate.proofs.CommonBoxLaws.{has-ends, in-common}
use Rattle.sf_relate.proofs.EnvelopeLaws.{lies_in_box, valid-closed}
use Rattle.sf_contact.specs.Absence.{has_start_in, is_lines, on_edges}
use Rattle.sf_contact.specs.EdgeContact.{Share}
use Rattle.sf_contact.proofs.PairLaws.{edges-in}
use Rattle.sf_contact.proofs.StartLaws.{IsContact, contact-by-any, contact-by-shared, contact-of-lines}

-- ---- the edges whose boxes meet a box
abbrev near : Extent → List Edge → List Edge
near box es = map edge_of (ends_meeting box es)

-- what remains behind an edge, by whether its box meets the box
abbrev near_by : Extent → Edge → List Edge → Bool → List Edge
near_by box e es b = map edge_of (if b then ends_of_edge e ∷ ends_meeting box es else ends_meeting box es)

abbrev any_on : PlanePoint → List Edge → Bool
any_on q es = list_any (λ e. on_edge e q) es

any-of-near : (box : Extent) (q : PlanePoint) (es : List Edge) → any_on q (near box es) ≡ true → any_on q es ≡ true
any-of-near box q [] any = any
any-of-near box q (e ∷ es) any = by_test (extents_meet (extent_of_edge (ends_of_edge e)) box) (any-of-near box q es) any
  where
    by_test : (b : Bool) → (any_on q (near box es) ≡ true → any_on q es ≡ true) → any_on q (near_by box e es b) ≡ true → any_on q (e ∷ es) ≡ true
    by_test true rest h =
        ⊎_elim (λ here. or_left (on_edge e q) (any_on q es) here) (λ later. or_right (on_edge e q) (any_on q es) (rest later))
        (or_cases (on_edge e q) (any_on q (near box es)) h)
    by_test false rest h = or_right (on_edge e q) (any_on q es) (rest h)

-- an edge with a point of the box has a box that meets it
meets : (box : Extent) (e : Edge) (q : PlanePoint) → IsPoint q → in_extent box q ≡ true → on_edge e q ≡ true → extents_meet (extent_of_edge (ends_of_edge e)) box ≡ true
meets box e q i inside on =
    common_point_meets (box_of_extent (extent_of_edge (ends_of_edge e))) (box_of_extent box) q i
    (edge_in_box (box_of_extent (extent_of_edge (ends_of_edge e))) e q (has-ends (ends_of_edge e)) i on) inside

near-of-any : (box : Extent) (q : PlanePoint) (es : List Edge) → IsPoint q → in_extent box q ≡ true → any_on q es ≡ true → any_on q (near box es) ≡ true
near-of-any box q [] i inside any = any
near-of-any box q (e ∷ es) i inside any =
    ⊎_elim
    (λ here. ap (λ b. any_on q (near_by box e es b)) (meets box e q i inside here) ∙ or_left (on_edge e q) (any_on q (near box es)) here)
    (λ later. by_test (extents_meet (extent_of_edge (ends_of_edge e)) box) (near-of-any box q es i inside later))
    (or_cases (on_edge e q) (any_on q es) any)
  where
    by_test : (b : Bool) → any_on q (near box es) ≡ true → any_on q (near_by box e es b) ≡ true
    by_test true rest = or_right (on_edge e q) (any_on q (near box es)) rest
    by_test false rest = rest

-- ---- the edges near the common box decide
shared-by-near : (a b : Geometry) (box : Extent) → ShareOne (near box (edges_of a)) (near box (edges_of b)) → Share (on_edges a) (on_edges b)
shared-by-near a b box s =
    record { q = s.point; is_point = s.is_point; in_first = any-of-near box s.point (edges_of a) s.on_first; in_second = any-of-near box s.point (edges_of b) s.on_second }

near-by-shared : (a b : Geometry) (box : Extent) → IsValid a → IsValid b → box ≡ common_extent (envelope_of a) (envelope_of b) →
    Share (on_edges a) (on_edges b) → ShareOne (near box (edges_of a)) (near box (edges_of b))
near-by-shared a b box va vb is s =
    let inside =
    ap (λ e. in_extent e s.q) is
    ∙ in-common (envelope_of a) (envelope_of b) s.q
    (lies_in_box a s.q (valid-closed a va) s.is_point (edges-in a s.q s.in_first))
    (lies_in_box b s.q (valid-closed b vb) s.is_point (edges-in b s.q s.in_second)) in
    record { point = s.q; is_point = s.is_point; on_first = near-of-any box s.q (edges_of a) s.is_point inside s.in_first; on_second = near-of-any box s.q (edges_of b) s.is_point inside s.in_second }

-- ---- what a search among them tells of the contact of geometries, which it is given under other names
pub contact-by-found : (a b f g : Geometry) (box : Extent) (outcome : Outcome) → f ≡ a → g ≡ b →
    Answers (ShareOne (near box (edges_of f)) (near box (edges_of g))) outcome → outcome ≡ Found → IsContact true a b
contact-by-found a b f g box outcome first second answers found =
    contact-by-shared a b
    (subst (λ y. Share (on_edges a) (on_edges y)) second
    (subst (λ x. Share (on_edges x) (on_edges g)) first
    (shared-by-near f g box (subst (Answers (ShareOne (near box (edges_of f)) (near box (edges_of g)))) found answers))))

apart-by-absent : (a b f g : Geometry) (box : Extent) (outcome : Outcome) → IsValid a → IsValid b → f ≡ a → g ≡ b → box ≡ common_extent (envelope_of f) (envelope_of g) →
    Answers (ShareOne (near box (edges_of f)) (near box (edges_of g))) outcome → outcome ≡ Absent → ¬ (Share (on_edges a) (on_edges b))
apart-by-absent a b f g box outcome va vb first second is answers absent =
    subst (λ y. ¬ (Share (on_edges a) (on_edges y))) second
    (subst (λ x. ¬ (Share (on_edges x) (on_edges g))) first
    (λ s. subst (Answers (ShareOne (near box (edges_of f)) (near box (edges_of g)))) absent answers
    (near-by-shared f g box (subst IsValid (sym first) va) (subst IsValid (sym second) vb) is s)))

pub contact-by-absent : (a b f g : Geometry) (box : Extent) (outcome : Outcome) → IsValid a → IsValid b → f ≡ a → g ≡ b → box ≡ common_extent (envelope_of f) (envelope_of g) →
    Answers (ShareOne (near box (edges_of f)) (near box (edges_of g))) outcome → outcome ≡ Absent → IsContact (has_start_in a b || has_start_in b a) a b
contact-by-absent a b f g box outcome va vb first second is answers absent =
    contact-by-any a b va vb (apart-by-absent a b f g box outcome va vb first second is answers absent)

-- where both are of lines, their edges alone
pub contact-of-lines-absent : (a b f g : Geometry) (box : Extent) (outcome : Outcome) → IsValid a → IsValid b → f ≡ a → g ≡ b → (is_lines f && is_lines g) ≡ true → box ≡ common_extent (envelope_of f) (envelope_of g) →
    Answers (ShareOne (near box (edges_of f)) (near box (edges_of g))) outcome → outcome ≡ Absent → IsContact false a b
contact-of-lines-absent a b f g box outcome va vb first second lines is answers absent =
    contact-of-lines a b (sym (ap (λ x. is_lines x && is_lines g) first ∙ ap (λ y. is_lines a && is_lines y) second) ∙ lines)
    (apart-by-absent a b f g box outcome va vb first second is answers absent)
