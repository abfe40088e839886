-- Handing out a column level by level: what holds of the levels that are left, and of the tallies there.
use Rattle.std.proofs.Common.{add-one, drop-cons, get_or, ◌≡◌, refl, ap, sym, ◌∙◌, subst, arith, ℕ, suc, ◌+◌, ◌-◌, ◌^◌, ◌≤◌, ◌<◌, Bool, true, false, List, [], ◌∷◌, ◌++◌, length, take, drop, map}
use Rattle.std.specs.List.{All, fold}
use Rattle.std.proofs.lemmas.List.{drop_all, length-append, length-drop, map-append, take-append-drop}
use Rattle.std.proofs.lemmas.List.Elements.{All-cons, All-drop, All-nil}
use Rattle.sf_strips.specs.declared.active.Active.{Active}
use Rattle.sf_strips.specs.declared.level.Level.{Level}
use Rattle.sf_strips.specs.declared.part.Part.{Part}
use Rattle.sf_strips.specs.declared.vertex.Vertex.{Vertex}
use Rattle.sf_strips.specs.Fronts.{pieces_of}
use Rattle.sf_cells.specs.Groups.{Item, counts, group_count, numbers}
use Rattle.sf_cells.specs.Hands.{Balanced, item, minus, on_gap, on_level, plus, stop_items, stop_of, stops}
use Rattle.sf_strips.specs.Levels.{TakeAll}
use Rattle.sf_strips.specs.Parts.{levels_of}
use Rattle.sf_cells.specs.Samples.{dimension}
use Rattle.sf_strips.specs.Vertices.{enters, leaves, pieces_with}
use Rattle.sf_cells.proofs.TallyLaws.{HasRoom, add_both, add_none, counts-append, length-added, length-counts, length-taken, members, room_added, room_fewer, room_taken}
use Rattle.sf_cells.proofs.TallySteps.{length-pieces_of, length-pieces_with}

-- ---- what a sink gathers from a part below so many edges
unfoldable pub gathered : {C : Type 0} → (C → Item → C) → C → List ℕ → Bool → List ℕ → List Active → List Vertex → List Active → List Level → C
gathered after content groups event above es vs os ls = fold after content (stop_items groups event (counts groups []) above (stops es vs os ls))

-- that is what it gathers before the first level, where nothing is on the gap
pub gathered-start : {C : Type 0} (after : C → Item → C) (content : C) (groups : List ℕ) (event : Bool)
    (es : List Active) (vs : List Vertex) (os : List Active) (ls : List Level) (on above : List ℕ) → on ≡ counts groups [] →
    fold after content (stop_items groups event on above (stops es vs os ls)) ≡ gathered after content groups event above es vs os ls
unfolding gathered
gathered-start after content groups event es vs os ls on above n = ap (λ z. fold after content (stop_items groups event z above (stops es vs os ls))) n

-- ---- what is left of a column: levels `ls` of edges `es`, vertices `vs` and onward edges `os`, below a gap with these tallies;
-- with the onward edges `above` grows to `total`
pub record Left (groups total : List ℕ) (es : List Active) (vs : List Vertex) (os : List Active) (ls : List Level) (on above : List ℕ) : Type 0 where
  pub edges : All (λ e. e.piece < length groups) es
  pub vertices : All (λ v. v.piece < length groups) vs
  pub onward : All (λ e. e.piece < length groups) os
  pub takes : TakeAll (length es) (length vs) (length os) ls
  pub balanced : Balanced groups on (stops es vs os ls)
  pub counted_on : length on ≡ group_count groups
  pub counted_above : length above ≡ group_count groups
  pub room_on : HasRoom (2 ^ 32) (length es + length vs) on
  pub room_above : HasRoom (2 ^ 32) (length os) above
  pub sum : plus above (counts groups (pieces_of os)) ≡ total

-- ---- no pieces
-- a function that is 0 has room for as many as are fewer than the limit
zeros_room : (limit more : ℕ) (f : ℕ → ℕ) (ks : List ℕ) → ((k : ℕ) → f k ≡ 0) → more < limit → HasRoom limit more (map f ks)
zeros_room limit more f [] z h = All-nil (λ n. n + more < limit)
zeros_room limit more f (k ∷ ks) z h = All-cons (λ n. n + more < limit) (f k) (map f ks) (fits (f k) (z k)) (zeros_room limit more f ks z h)
  where
    fits : (n : ℕ) → n ≡ 0 → n + more < limit
    fits n e = omega arith

-- the counts of no pieces have room for as many as are fewer than the limit
pub room_none : (limit more : ℕ) (groups : List ℕ) → more < limit → HasRoom limit more (counts groups [])
room_none limit more groups h = zeros_room limit more (members groups []) (numbers 0 (group_count groups)) (λ k. refl) h

-- before the first level
pub Left-start : (groups on above : List ℕ) (es : List Active) (vs : List Vertex) (os : List Active) (ls : List Level) →
    All (λ e. e.piece < length groups) es → All (λ v. v.piece < length groups) vs → All (λ e. e.piece < length groups) os →
    length es + length vs + length os < 2 ^ 32 → TakeAll (length es) (length vs) (length os) ls →
    Balanced groups (counts groups []) (stops es vs os ls) → on ≡ counts groups [] → length above ≡ group_count groups → All (λ n. n + length os < 2 ^ 32) above →
    Left groups (plus above (counts groups (pieces_of os))) es vs os ls on above
Left-start groups on above es vs os ls e v o few t b n a room =
    subst (λ z. Left groups (plus above (counts groups (pieces_of os))) es vs os ls z above) (sym n)
    (record {
      edges = e;
      vertices = v;
      onward = o;
      takes = t;
      balanced = b;
      counted_on = length-counts groups [];
      counted_above = a;
      room_on = room_none (2 ^ 32) (length es + length vs) groups (omega arith);
      room_above = room;
      sum = refl;
    })

-- ---- what a level takes up
-- the onward edges of a level and those of the levels below it
onward-halves : (n : ℕ) (os : List Active) → pieces_of (take n os) ++ pieces_of (drop n os) ≡ pieces_of os
onward-halves n os = sym (map-append (λ e. e.piece) (take n os) (drop n os)) ∙ ap pieces_of (take-append-drop n os)

-- the levels below a level take just what it leaves
takes-rest : (e v o : ℕ) (es : List Active) (vs : List Vertex) (os : List Active) (ls : List Level) →
    TakeAll (length es - e) (length vs - v) (length os - o) ls → TakeAll (length (drop e es)) (length (drop v vs)) (length (drop o os)) ls
takes-rest e v o es vs os ls t = rw (length-drop e es, length-drop v vs, length-drop o os) t

-- the tally on the gap below a level, where the level's edges and vertices fitted in
gap-room : (limit e v : ℕ) (groups on leave : List ℕ) (es : List Active) (vs : List Vertex) → e ≤ length es → v ≤ length vs → HasRoom limit (length es + length vs) on →
    HasRoom limit (length (drop e es) + length (drop v vs)) (minus (plus on (counts groups (pieces_of (take e es) ++ pieces_with enters (take v vs)))) (counts groups leave))
gap-room limit e v groups on leave es vs h k r =
    let first = length-pieces_of es e in
    let second = length-pieces_with enters vs v in
    let many : length (pieces_of (take e es) ++ pieces_with enters (take v vs)) ≤ e + v =
    omega (arith, length-append (pieces_of (take e es)) (pieces_with enters (take v vs))) in
    let more : (e + v) + (length (drop e es) + length (drop v vs)) ≤ length es + length vs = omega (arith, length-drop e es, length-drop v vs) in
    room_taken limit (length (drop e es) + length (drop v vs)) groups (plus on (counts groups (pieces_of (take e es) ++ pieces_with enters (take v vs)))) leave
    (room_added limit (e + v) (length (drop e es) + length (drop v vs)) groups on (pieces_of (take e es) ++ pieces_with enters (take v vs)) many
    (room_fewer limit (length es + length vs) ((e + v) + (length (drop e es) + length (drop v vs))) on more r))

-- the tally of what is above, where the level's onward edges fitted in
above-room : (limit o : ℕ) (groups above : List ℕ) (os : List Active) → o ≤ length os → HasRoom limit (length os) above →
    HasRoom limit (length (drop o os)) (plus above (counts groups (pieces_of (take o os))))
above-room limit o groups above os h r =
    let more : o + length (drop o os) ≤ length os = omega (arith, length-drop o os) in
    room_added limit o (length (drop o os)) groups above (pieces_of (take o os)) (length-pieces_of os o)
    (room_fewer limit (length os) (o + length (drop o os)) above more r)

-- after a level
pub Left-next : (groups total : List ℕ) (es : List Active) (vs : List Vertex) (os : List Active) (l : Level) (ls : List Level) (on above : List ℕ) →
    Left groups total es vs os (l ∷ ls) on above →
    Left groups total (drop l.edges es) (drop l.vertices vs) (drop l.onward os) ls
    (on_gap groups on (stop_of l es vs os)) (plus above (counts groups (pieces_of (take l.onward os))))
Left-next groups total es vs os l ls on above h =
    record {
      edges = All-drop (λ e. e.piece < length groups) l.edges es h.edges;
      vertices = All-drop (λ v. v.piece < length groups) l.vertices vs h.vertices;
      onward = All-drop (λ e. e.piece < length groups) l.onward os h.onward;
      takes = takes-rest l.edges l.vertices l.onward es vs os ls h.takes.1.1.1;
      balanced = h.balanced.1;
      counted_on = length-taken groups (on_level groups on (stop_of l es vs os)) (stop_of l es vs os).leave (length-added groups on (stop_of l es vs os).enter h.counted_on);
      counted_above = length-added groups above (pieces_of (take l.onward os)) h.counted_above;
      room_on = gap-room (2 ^ 32) l.edges l.vertices groups on (stop_of l es vs os).leave es vs h.takes.0 h.takes.1.0 h.room_on;
      room_above = above-room (2 ^ 32) l.onward groups above os h.takes.1.1.0 h.room_above;
      sum = add_both groups above (pieces_of (take l.onward os)) (pieces_of (drop l.onward os))
          ∙ ap (λ ps. plus above (counts groups ps)) (onward-halves l.onward os)
          ∙ h.sum;
    }

-- ---- a level in the loop
-- what the level `l` takes up of each list, and what is left after it
pub record IsCut (l : Level) (es here later : List Active) (vs here_too later_too : List Vertex) (os here_on later_on : List Active) : Type 0 where
  pub edges : here ≡ take l.edges es
  pub later_edges : later ≡ drop l.edges es
  pub vertices : here_too ≡ take l.vertices vs
  pub later_vertices : later_too ≡ drop l.vertices vs
  pub onward : here_on ≡ take l.onward os
  pub later_onward : later_on ≡ drop l.onward os

-- the tallies on such a level and on the gap below it
abbrev pub entered : List ℕ → List ℕ → List Active → List Vertex → List ℕ
entered groups on es vs = plus on (counts groups (pieces_of es ++ pieces_with enters vs))

abbrev pub gone : List ℕ → List ℕ → List Active → List Vertex → List ℕ
gone groups on es vs = minus (entered groups on es vs) (counts groups (pieces_of es ++ pieces_with leaves vs))

-- from the part at the index i on, the levels are its own and those of the parts below it
pub part-next : (all : List Part) (i : ℕ) (none p : Part) → i < length all → get_or all i none ≡ p → levels_of (drop i all) ≡ levels_of (p ∷ drop (i + 1) all)
part-next all i none p h e =
    ap levels_of (drop-cons all i none h) ∙ ap (λ z. levels_of (z ∷ drop (suc i) all)) e ∙ ap (λ n. levels_of (p ∷ drop n all)) (sym (add-one i))

-- what is left, where its levels are given by an equation
pub Left-of : {groups total : List ℕ} {es : List Active} {vs : List Vertex} {os : List Active} {ls ls' : List Level} {on above : List ℕ} → ls ≡ ls' →
    Left groups total es vs os ls on above → Left groups total es vs os ls' on above
Left-of {groups = groups} {total = total} {es = es} {vs = vs} {os = os} {on = on} {above = above} e h =
    let P : List Level → Type 0 = λ z. Left groups total es vs os z on above in
    subst P e h

-- one number of a level's edges and vertices, where these are given by equations
same_level : {A : Type 0} (f : List Active → List Vertex → A) (es here : List Active) (vs here_too : List Vertex) → here ≡ es → here_too ≡ vs → f here here_too ≡ f es vs
same_level f es here vs here_too e v = ap (λ z. f z here_too) e ∙ ap (λ z. f es z) v

-- what is left, where its lists are given by equations
pub Left-same : (groups total : List ℕ) (es es' : List Active) (vs vs' : List Vertex) (os os' : List Active) (ls : List Level) (on on' above above' : List ℕ) →
    es' ≡ es → vs' ≡ vs → os' ≡ os → on' ≡ on → above' ≡ above → Left groups total es vs os ls on above → Left groups total es' vs' os' ls on' above'
Left-same groups total es es' vs vs' os os' ls on on' above above' e v o n a h =
    let A : List Active → Type 0 = λ z. Left groups total z vs os ls on above in
    let B : List Vertex → Type 0 = λ z. Left groups total es' z os ls on above in
    let C : List Active → Type 0 = λ z. Left groups total es' vs' z ls on above in
    let D : List ℕ → Type 0 = λ z. Left groups total es' vs' os' ls z above in
    let E : List ℕ → Type 0 = λ z. Left groups total es' vs' os' ls on' z in
    subst E (sym a) (subst D (sym n) (subst C (sym o) (subst B (sym v) (subst A (sym e) h))))

-- what is left after the level
pub Left-step : {groups total : List ℕ} {l : Level} {ls : List Level} {es here es' : List Active} {vs here_too vs' : List Vertex} {os here_on os' : List Active} {on above : List ℕ}
    (on' above' : List ℕ) → IsCut l es here es' vs here_too vs' os here_on os' → Left groups total es vs os (l ∷ ls) on above →
    on' ≡ gone groups on here here_too → above' ≡ plus above (counts groups (pieces_of here_on)) → Left groups total es' vs' os' ls on' above'
Left-step {groups = groups} {total = total} {l = l} {ls = ls} {es = es} {here = here} {es' = es'} {vs = vs} {here_too = here_too} {vs' = vs'} {os = os} {here_on = here_on} {os' = os'} {on = on} {above = above}
    on' above' cut h n a =
    Left-same groups total (drop l.edges es) es' (drop l.vertices vs) vs' (drop l.onward os) os' ls
    (on_gap groups on (stop_of l es vs os)) on' (plus above (counts groups (pieces_of (take l.onward os)))) above'
    cut.later_edges cut.later_vertices cut.later_onward
    (n ∙ same_level (gone groups on) (take l.edges es) here (take l.vertices vs) here_too cut.edges cut.vertices)
    (a ∙ ap (λ z. plus above (counts groups (pieces_of z))) cut.onward)
    (Left-next groups total es vs os l ls on above h)

-- the items from the level down are the gap, the level and those of what is left
items-level : (groups : List ℕ) (event : Bool) (l : Level) (ls : List Level) (es here es' : List Active) (vs here_too vs' : List Vertex) (os here_on os' : List Active) (on on' above above' : List ℕ) →
    IsCut l es here es' vs here_too vs' os here_on os' → on' ≡ gone groups on here here_too → above' ≡ plus above (counts groups (pieces_of here_on)) →
    (item (dimension event false) on above ∷ item (dimension event true) (entered groups on here here_too) above ∷ stop_items groups event on' above' (stops es' vs' os' ls))
    ≡ stop_items groups event on above (stops es vs os (l ∷ ls))
items-level groups event l ls es here es' vs here_too vs' os here_on os' on on' above above' cut n a =
    let first : Item = item (dimension event false) on above in
    let second : Item = item (dimension event true) (entered groups on (take l.edges es) (take l.vertices vs)) above in
    ap (λ z. first ∷ item (dimension event true) z above ∷ stop_items groups event on' above' (stops es' vs' os' ls))
    (same_level (entered groups on) (take l.edges es) here (take l.vertices vs) here_too cut.edges cut.vertices)
    ∙ ap (λ z. first ∷ second ∷ stop_items groups event z above' (stops es' vs' os' ls))
    (n ∙ same_level (gone groups on) (take l.edges es) here (take l.vertices vs) here_too cut.edges cut.vertices)
    ∙ ap (λ z. first ∷ second ∷ stop_items groups event (on_gap groups on (stop_of l es vs os)) z (stops es' vs' os' ls))
    (a ∙ ap (λ z. plus above (counts groups (pieces_of z))) cut.onward)
    ∙ ap (λ z. first ∷ second ∷ stop_items groups event (on_gap groups on (stop_of l es vs os)) (plus above (counts groups (pieces_of (take l.onward os)))) (stops z vs' os' ls)) cut.later_edges
    ∙ ap (λ z. first ∷ second ∷ stop_items groups event (on_gap groups on (stop_of l es vs os)) (plus above (counts groups (pieces_of (take l.onward os)))) (stops (drop l.edges es) z os' ls))
    cut.later_vertices
    ∙ ap (λ z. first ∷ second ∷ stop_items groups event (on_gap groups on (stop_of l es vs os)) (plus above (counts groups (pieces_of (take l.onward os)))) (stops (drop l.edges es) (drop l.vertices vs) z ls))
    cut.later_onward

-- a sink that was handed the gap and the level gathers from what is left what it would have gathered from there down
pub handed-step : {C : Type 0} (after : C → Item → C) (content content' final : C) (groups : List ℕ) (event : Bool) (l : Level) (ls : List Level)
    {es here es' : List Active} {vs here_too vs' : List Vertex} {os here_on os' : List Active} (on on' above above' : List ℕ) →
    IsCut l es here es' vs here_too vs' os here_on os' →
    on' ≡ gone groups on here here_too → above' ≡ plus above (counts groups (pieces_of here_on)) →
    content' ≡ fold after content (item (dimension event false) on above ∷ item (dimension event true) (entered groups on here here_too) above ∷ []) →
    fold after content (stop_items groups event on above (stops es vs os (l ∷ ls))) ≡ final →
    fold after content' (stop_items groups event on' above' (stops es' vs' os' ls)) ≡ final
handed-step after content content' final groups event l ls {es = es} {here = here} {es' = es'} {vs = vs} {here_too = here_too} {vs' = vs'} {os = os} {here_on = here_on} {os' = os'}
    on on' above above' cut n a k f =
    ap (λ z. fold after z (stop_items groups event on' above' (stops es' vs' os' ls))) k
    ∙ ap (fold after content) (items-level groups event l ls es here es' vs here_too vs' os here_on os' on on' above above' cut n a)
    ∙ f

-- ---- below the last level
-- past the last part no level is left
pub none-next : (all : List Part) (i : ℕ) → length all ≤ i → levels_of (drop i all) ≡ []
none-next all i h = ap levels_of (drop_all i all h)

-- all onward edges are above
pub Left-above : {groups total : List ℕ} {es : List Active} {vs : List Vertex} {os : List Active} {on above : List ℕ} → Left groups total es vs os [] on above → above ≡ total
Left-above {groups = groups} {total = total} {os = os} {above = above} h = none_left os h.takes.1.1 h.sum
  where
    none_left : (os : List Active) → length os ≡ 0 → plus above (counts groups (pieces_of os)) ≡ total → above ≡ total
    none_left [] e f = sym (add_none groups above) ∙ f
    none_left (a ∷ os) e f = absurd (omega arith)

-- ---- what is left of a column, from which a sink with this content gathers what is missing of `final`
pub record Handing {C : Type 0} (after : C → Item → C) (groups total : List ℕ) (event : Bool) (final content : C) (on above : List ℕ)
    (es : List Active) (vs : List Vertex) (os : List Active) (ls : List Level) : Type 0 where
  pub left : Left groups total es vs os ls on above
  pub handed : fold after content (stop_items groups event on above (stops es vs os ls)) ≡ final

-- the same, where its levels are given by an equation
pub Handing-of : {C : Type 0} {after : C → Item → C} {groups total : List ℕ} {event : Bool} {final content : C} {on above : List ℕ}
    {es : List Active} {vs : List Vertex} {os : List Active} {ls ls' : List Level} → ls ≡ ls' →
    Handing after groups total event final content on above es vs os ls → Handing after groups total event final content on above es vs os ls'
Handing-of {after = after} {groups = groups} {total = total} {event = event} {final = final} {content = content} {on = on} {above = above} {es = es} {vs = vs} {os = os} e h =
    let P : List Level → Type 0 = λ z. Handing after groups total event final content on above es vs os z in
    subst P e h

-- the same, where all but its levels is given by equations
pub Handing-same : {C : Type 0} {after : C → Item → C} {groups total : List ℕ} {event : Bool} {final content content' : C} {on on' above above' : List ℕ}
    {es es' : List Active} {vs vs' : List Vertex} {os os' : List Active} {ls : List Level} →
    content' ≡ content → on' ≡ on → above' ≡ above → es' ≡ es → vs' ≡ vs → os' ≡ os →
    Handing after groups total event final content on above es vs os ls → Handing after groups total event final content' on' above' es' vs' os' ls
Handing-same {after = after} {groups = groups} {total = total} {event = event} {final = final} {content = content} {content' = content'} {on = on} {on' = on'} {above = above} {above' = above'}
    {es = es} {es' = es'} {vs = vs} {vs' = vs'} {os = os} {os' = os'} {ls = ls} k n a e v o h =
    rw (k, n, a, e, v, o) h

-- what is left below a level
pub Handing-level : {C : Type 0} {after : C → Item → C} {groups total : List ℕ} {event : Bool} {final content content' : C} {on on' above above' : List ℕ} {l : Level} {ls : List Level}
    {es here es' : List Active} {vs here_too vs' : List Vertex} {os here_on os' : List Active} →
    IsCut l es here es' vs here_too vs' os here_on os' →
    on' ≡ gone groups on here here_too → above' ≡ plus above (counts groups (pieces_of here_on)) →
    content' ≡ fold after content (item (dimension event false) on above ∷ item (dimension event true) (entered groups on here here_too) above ∷ []) →
    Handing after groups total event final content on above es vs os (l ∷ ls) → Handing after groups total event final content' on' above' es' vs' os' ls
Handing-level {after = after} {groups = groups} {event = event} {final = final} {content = content} {content' = content'} {on = on} {on' = on'} {above = above} {above' = above'} {l = l} {ls = ls}
    cut n a k s =
    record {
      left = Left-step on' above' cut s.left n a;
      handed = handed-step after content content' final groups event l ls on on' above above' cut n a k s.handed;
    }
