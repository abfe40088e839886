-- What a search among trees says of points that edges of two lists share.
use Rattle.std.proofs.Common.{◌≡◌, ℕ, zero, suc, ◌<◌, arith, refl, subst, sym, ◌∙◌, Bool, true, false, List, [], ◌∷◌, map, length, get_or, inl, inr, lit<}
use Rattle.std.specs.List.{list_any}
use Rattle.std.proofs.lemmas.Bool.{both_ways, or_cases, or_left, or_right}
use Rattle.sf_grid.specs.Edge.{Edge as Line, on_edge}
use Rattle.sf_grid.specs.Plane.{Coordinates, grid_point}
use Rattle.sf_grid.specs.Sharing.{IsSharing}
use Rattle.sf_grid.specs.declared.meet.Meet.TheVariants.{Along}
use Rattle.sf_geometry.specs.Parts.{edge_of}
use Rattle.sf_edge_tree.specs.Boxes.{edge_at}
use Rattle.sf_edge_tree.proofs.SearchLaws.{edge-read}
use Rattle.sf_edge_tree.specs.Searches.{Answers, AreOneOfEach, HasPair}
use Rattle.sf_edge_tree.specs.declared.outcome.Outcome.{Outcome}
use Rattle.sf_edge_tree.specs.declared.outcome.Outcome.TheVariants.{Absent, Found, GaveUp}
use Rattle.sf_crossing.specs.Sharing.{AreSharing, ShareOne}
use Rattle.sf_crossing.proofs.AloneLaws.{low-on}
use Rattle.sf_crossing.proofs.NearLaws.{boxes-meet}

-- ---- edges by their numbers
record HasNumber (P : Line → Bool) (es : List (Coordinates × Coordinates)) : Type 0 where
  number : ℕ
  within : number < length es
  passes : P (edge_of (edge_at es number)) ≡ true

numbered : (P : Line → Bool) (es : List (Coordinates × Coordinates)) → list_any P (map edge_of es) ≡ true → HasNumber P es
numbered P [] h = absurd (both_ways false refl h)
numbered P (e ∷ es) h =
    elim (or_cases (P (edge_of e)) (list_any P (map edge_of es)) h) [
      | inl here ↦ record { number = 0; within = omega (arith); passes = here }
      | inr later ↦ after (numbered P es later)
    ]
  where
    after : HasNumber P es → HasNumber P (e ∷ es)
    after r = record { number = suc r.number; within = omega (arith, r.within); passes = r.passes }

any-numbered : (P : Line → Bool) (es : List (Coordinates × Coordinates)) (i : ℕ) → i < length es → P (edge_of (edge_at es i)) ≡ true → list_any P (map edge_of es) ≡ true
any-numbered P [] i l h = absurd (omega (arith, l))
any-numbered P (e ∷ es) zero l h = or_left (P (edge_of e)) (list_any P (map edge_of es)) h
any-numbered P (e ∷ es) (suc i) l h = or_right (P (edge_of e)) (list_any P (map edge_of es)) (any-numbered P es i (omega (arith, l)) h)

-- ---- what is found, and what is there
along-shares : (es fs : List (Coordinates × Coordinates)) (i j : ℕ) (low high : Coordinates) → IsSharing (edge_of (edge_at es i)) (edge_of (edge_at fs j)) (Along low high) → AreSharing es fs i j
along-shares es fs i j low high h =
    let both = low-on (edge_of (edge_at es i)) (edge_of (edge_at fs j)) low high h in
    record { point = grid_point low; is_point = record { positive = lit< tt }; on_first = both.0; on_second = both.1 }

-- the same of edges that are read
pub along-read : (es fs : List (Coordinates × Coordinates)) (i j : ℕ) (e f : Coordinates × Coordinates) (low high : Coordinates) → i < length es → j < length fs → e ≡ get_or es i e → f ≡ get_or fs j f
    → IsSharing (edge_of (get_or es i e)) (edge_of (get_or fs j f)) (Along low high) → AreSharing es fs i j
along-read es fs i j e f low high l k is that h =
    along-shares es fs i j low high
    (subst (λ (p : Coordinates × Coordinates). IsSharing (edge_of p) (edge_of (edge_at fs j)) (Along low high)) (sym is ∙ edge-read es i e l is)
    (subst (λ (p : Coordinates × Coordinates). IsSharing (edge_of (get_or es i e)) (edge_of p) (Along low high)) (sym that ∙ edge-read fs j f k that) h))

shared : (es fs : List (Coordinates × Coordinates)) → HasPair es fs (AreOneOfEach es fs) (AreSharing es fs) → ShareOne (map edge_of es) (map edge_of fs)
shared es fs h =
    record {
      point = h.passes.point;
      is_point = h.passes.is_point;
      on_first = any-numbered (λ e. on_edge e h.passes.point) es h.first h.asked.0 h.passes.on_first;
      on_second = any-numbered (λ f. on_edge f h.passes.point) fs h.second h.asked.1 h.passes.on_second;
    }

paired : (es fs : List (Coordinates × Coordinates)) → ShareOne (map edge_of es) (map edge_of fs) → HasPair es fs (AreOneOfEach es fs) (AreSharing es fs)
paired es fs h =
    let e = numbered (λ e. on_edge e h.point) es h.on_first in
    let f = numbered (λ f. on_edge f h.point) fs h.on_second in
    record {
      first = e.number;
      second = f.number;
      asked = (e.within, f.within);
      near = boxes-meet (edge_at fs f.number) (edge_at es e.number) h.point h.is_point f.passes e.passes;
      passes = record { point = h.point; is_point = h.is_point; on_first = e.passes; on_second = f.passes };
    }

pub sharing-told : (es fs first second : List (Coordinates × Coordinates)) (r : Outcome) → first ≡ es → second ≡ fs → Answers (HasPair first second (AreOneOfEach first second) (AreSharing es fs)) r
    → Answers (ShareOne (map edge_of es) (map edge_of fs)) r
sharing-told es fs first second r is that answer =
    at r
    (subst (λ xs. Answers (HasPair xs fs (AreOneOfEach xs fs) (AreSharing es fs)) r) is
    (subst (λ ys. Answers (HasPair first ys (AreOneOfEach first ys) (AreSharing es fs)) r) that answer))
  where
    at : (o : Outcome) → Answers (HasPair es fs (AreOneOfEach es fs) (AreSharing es fs)) o → Answers (ShareOne (map edge_of es) (map edge_of fs)) o
    at Found h = shared es fs h
    at Absent h = λ s. h (paired es fs s)
    at GaveUp h = tt
