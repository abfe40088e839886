-- The steps of the loops that add pieces to a tally or take them off: after each edge or vertex, those so far are added or taken off.
use Rattle.std.proofs.Common.{◌≡◌, ap, sym, ◌∙◌, add-one, subst, ℕ, zero, suc, ◌+◌, ◌≤◌, ◌<◌, arith, Bool, true, false, List, [], ◌∷◌, ◌++◌, length, take, get_or}
use Rattle.std.specs.Prelude.{if◌then◌else◌}
use Rattle.std.proofs.lemmas.List.{append-nil}
use Rattle.sf_strips.specs.declared.active.Active.{Active}
use Rattle.sf_strips.specs.declared.vertex.Role.{Role}
use Rattle.sf_strips.specs.declared.vertex.Vertex.{Vertex}
use Rattle.sf_strips.specs.Fronts.{pieces_of}
use Rattle.sf_cells.specs.Groups.{counts}
use Rattle.sf_cells.specs.Hands.{AtMost, minus, plus}
use Rattle.sf_strips.specs.Vertices.{pieces_with}
use Rattle.sf_cells.proofs.TallyLaws.{HasRoom, add_both, first_there, room_added, room_fewer, second_there, take_both}

-- ---- the pieces ps of a list, of which qs are done and p is the next one
-- p is added after qs
pub add_next : (groups t now now' qs qs' : List ℕ) (p : ℕ) → now ≡ plus t (counts groups qs) → now' ≡ plus now (counts groups (p ∷ [])) →
    qs' ≡ qs ++ p ∷ [] → now' ≡ plus t (counts groups qs')
add_next groups t now now' qs qs' p e f g =
    f ∙ ap (λ ns. plus ns (counts groups (p ∷ []))) e ∙ add_both groups t qs (p ∷ []) ∙ ap (λ ns. plus t (counts groups ns)) (sym g)

-- p is taken off after qs
pub take_next : (groups t now now' qs qs' : List ℕ) (p : ℕ) → now ≡ minus t (counts groups qs) → now' ≡ minus now (counts groups (p ∷ [])) →
    qs' ≡ qs ++ p ∷ [] → now' ≡ minus t (counts groups qs')
take_next groups t now now' qs qs' p e f g =
    f ∙ ap (λ ns. minus ns (counts groups (p ∷ []))) e ∙ take_both groups t qs (p ∷ []) ∙ ap (λ ns. minus t (counts groups ns)) (sym g)

-- where there is room for all, there is room for p
pub next_has_room : (limit most : ℕ) (groups t now qs : List ℕ) → now ≡ plus t (counts groups qs) → length qs < most → HasRoom limit most t → HasRoom limit 1 now
next_has_room limit most groups t now qs e h r =
    let P : List ℕ → Type 0 = HasRoom limit 1 in
    subst P (sym e) (room_added limit (length qs) 1 groups t qs (omega arith) (room_fewer limit most (length qs + 1) t (omega arith) r))

-- where all are there, p is
pub next_is_there : (groups t now ps qs rest : List ℕ) (p : ℕ) → now ≡ minus t (counts groups qs) → ps ≡ qs ++ p ∷ rest → AtMost (counts groups ps) t →
    AtMost (counts groups (p ∷ [])) now
next_is_there groups t now ps qs rest p e f a =
    let P : List ℕ → Type 0 = λ ns. AtMost (counts groups (p ∷ [])) ns in
    let Q : List ℕ → Type 0 = λ ns. AtMost (counts groups ns) t in
    subst P (sym e) (first_there groups (minus t (counts groups qs)) (p ∷ []) rest (second_there groups t qs (p ∷ rest) (subst Q f a)))

-- ---- the pieces of edges: those so far, the next one and the rest
pub pieces_of-split : (es : List Active) (i : ℕ) (a : Active) → i < length es → a ≡ get_or es i a →
    (rest : List ℕ) × (pieces_of es ≡ pieces_of (take i es) ++ a.piece ∷ rest)
pieces_of-split [] i a h e = absurd (omega arith)
pieces_of-split (b ∷ es) zero a h e = (pieces_of es, ap (λ z. z.piece ∷ pieces_of es) (sym e))
pieces_of-split (b ∷ es) (suc i) a h e =
    let later = pieces_of-split es i a (omega arith) e in
    (later.0, ap (λ ps. b.piece ∷ ps) later.1)

-- one edge more
pub pieces_of-more : (es : List Active) (i : ℕ) (a : Active) → i < length es → a ≡ get_or es i a →
    pieces_of (take (i + 1) es) ≡ pieces_of (take i es) ++ a.piece ∷ []
pieces_of-more es i a h e = ap (λ n. pieces_of (take n es)) (add-one i) ∙ behind es i h e
  where
    behind : (es : List Active) (i : ℕ) → i < length es → a ≡ get_or es i a → pieces_of (take (suc i) es) ≡ pieces_of (take i es) ++ a.piece ∷ []
    behind [] i h e = absurd (omega arith)
    behind (b ∷ es) zero h e = ap (λ z. z.piece ∷ []) (sym e)
    behind (b ∷ es) (suc i) h e = ap (λ ps. b.piece ∷ ps) (behind es i (omega arith) e)

-- there are at most as many as edges were gone through
pub length-pieces_of : (es : List Active) (i : ℕ) → length (pieces_of (take i es)) ≤ i
length-pieces_of [] zero = omega arith
length-pieces_of [] (suc i) = omega arith
length-pieces_of (e ∷ es) zero = omega arith
length-pieces_of (e ∷ es) (suc i) = let later = length-pieces_of es i in omega arith

-- ---- the pieces of vertices that pass a test: those so far, the next one and the rest
-- what comes before a list also comes before it where it begins with a further piece, or not
behind_chosen : (b : Bool) (p : ℕ) (ps qs rs : List ℕ) → ps ≡ qs ++ rs → (if b then p ∷ ps else ps) ≡ (if b then p ∷ qs else qs) ++ rs
behind_chosen true p ps qs rs e = ap (λ zs. p ∷ zs) e
behind_chosen false p ps qs rs e = e

-- the vertex at i is one of them, where it passes
pub pieces_with-split : (test : Role → Bool) (vs : List Vertex) (i : ℕ) (a : Vertex) → i < length vs → a ≡ get_or vs i a → test a.role ≡ true →
    (rest : List ℕ) × (pieces_with test vs ≡ pieces_with test (take i vs) ++ a.piece ∷ rest)
pieces_with-split test [] i a h e t = absurd (omega arith)
pieces_with-split test (v ∷ vs) zero a h e t = (
  pieces_with test vs,
  ap (λ z. if test z.role then z.piece ∷ pieces_with test vs else pieces_with test vs) (sym e)
      ∙ ap (λ b. if b then a.piece ∷ pieces_with test vs else pieces_with test vs) t,
)
pieces_with-split test (v ∷ vs) (suc i) a h e t =
    let later = pieces_with-split test vs i a (omega arith) e t in
    (later.0, behind_chosen (test v.role) v.piece (pieces_with test vs) (pieces_with test (take i vs)) (a.piece ∷ later.0) later.1)

-- one vertex more: its piece, where it passes
pieces_with-next : (test : Role → Bool) (vs : List Vertex) (i : ℕ) (a : Vertex) (b : Bool) → i < length vs → a ≡ get_or vs i a → test a.role ≡ b →
    pieces_with test (take (suc i) vs) ≡ pieces_with test (take i vs) ++ (if b then a.piece ∷ [] else [])
pieces_with-next test [] i a b h e t = absurd (omega arith)
pieces_with-next test (v ∷ vs) zero a b h e t =
    ap (λ z. if test z.role then z.piece ∷ [] else []) (sym e) ∙ ap (λ c. if c then a.piece ∷ [] else []) t
pieces_with-next test (v ∷ vs) (suc i) a b h e t =
    behind_chosen (test v.role) v.piece _ _ _ (pieces_with-next test vs i a b (omega arith) e t)

-- one vertex more that passes
pub pieces_with-more : (test : Role → Bool) (vs : List Vertex) (i : ℕ) (a : Vertex) → i < length vs → a ≡ get_or vs i a → test a.role ≡ true →
    pieces_with test (take (i + 1) vs) ≡ pieces_with test (take i vs) ++ a.piece ∷ []
pieces_with-more test vs i a h e t = ap (λ n. pieces_with test (take n vs)) (add-one i) ∙ pieces_with-next test vs i a true h e t

-- one vertex more that does not pass
pub pieces_with-same : (test : Role → Bool) (vs : List Vertex) (i : ℕ) (a : Vertex) → i < length vs → a ≡ get_or vs i a → test a.role ≡ false →
    pieces_with test (take (i + 1) vs) ≡ pieces_with test (take i vs)
pieces_with-same test vs i a h e t =
    ap (λ n. pieces_with test (take n vs)) (add-one i) ∙ pieces_with-next test vs i a false h e t ∙ append-nil (pieces_with test (take i vs))

-- there are at most as many as vertices were gone through
pub length-pieces_with : (test : Role → Bool) (vs : List Vertex) (i : ℕ) → length (pieces_with test (take i vs)) ≤ i
length-pieces_with test [] zero = omega arith
length-pieces_with test [] (suc i) = omega arith
length-pieces_with test (v ∷ vs) zero = omega arith
length-pieces_with test (v ∷ vs) (suc i) = longer (test v.role) (pieces_with test (take i vs)) (length-pieces_with test vs i)
  where
    longer : (b : Bool) (ps : List ℕ) → length ps ≤ i → length (if b then v.piece ∷ ps else ps) ≤ suc i
    longer true ps h = omega arith
    longer false ps h = omega arith
