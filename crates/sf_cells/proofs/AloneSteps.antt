-- Handing out edges that stand alone: what holds after some of them, and of the levels below all of them.
use Rattle.std.proofs.Common.{take_all, add-one, drop-cons, get_or, ◌≡◌, refl, ap, sym, ◌∙◌, subst, arith, ℕ, zero, suc, ◌+◌, ◌≤◌, ◌<◌, Bool, true, false, List, [], ◌∷◌, ◌++◌, length, take, drop}
use Rattle.std.specs.List.{fold}
use Rattle.std.proofs.lemmas.List.{drop_all, length-take-le, take-append-drop}
use Rattle.sf_strips.specs.declared.active.Active.{Active}
use Rattle.sf_strips.specs.declared.level.Level.{Level}
use Rattle.sf_strips.specs.declared.vertex.Vertex.{Vertex}
use Rattle.sf_strips.specs.Fronts.{pieces_of}
use Rattle.sf_strips.specs.Parts.{alone_level, alone_levels}
use Rattle.sf_cells.specs.Groups.{Item, counts}
use Rattle.sf_cells.specs.Hands.{item, minus, plus, stop_items, stops}
use Rattle.sf_cells.specs.Samples.{dimension}
use Rattle.sf_cells.proofs.HandSteps.{Handing, Left, Left-next, Left-same}
use Rattle.sf_cells.proofs.TallyLaws.{add_both, add_none, added_taken}
use Rattle.sf_cells.proofs.TallySteps.{pieces_of-more}

-- ---- after the first i of the edges: the tally of what is on the gap is what it was, the edges that went on are above,
-- and whatever comes below the edges, the sink gathers from what is left what it would have gathered from all
pub record AloneSoFar {C : Type 0} (after : C → Item → C) (groups : List ℕ) (event : Bool) (es os : List Active) (content : C) (on above : List ℕ)
    (i : ℕ) (content' : C) (on' above' : List ℕ) : Type 0 where
  pub unchanged : on' ≡ on
  pub grown : above' ≡ plus above (counts groups (pieces_of (take i os)))
  pub handed : (lower : List Active) (vs : List Vertex) (lower_onward : List Active) (ls : List Level) →
      fold after content' (stop_items groups event on' above' (stops (drop i es ++ lower) vs (drop i os ++ lower_onward) (alone_levels (length (drop i es)) ls)))
      ≡ fold after content (stop_items groups event on above (stops (es ++ lower) vs (os ++ lower_onward) (alone_levels (length es) ls)))

-- before the first edge
pub Alone-start : {C : Type 0} (after : C → Item → C) (groups : List ℕ) (event : Bool) (es os : List Active) (content : C) (on above : List ℕ) →
    AloneSoFar after groups event es os content on above 0 content on above
Alone-start after groups event es os content on above =
    record { unchanged = refl; grown = sym (add_none groups above); handed = λ lower vs lower_onward ls. refl }

-- ---- one edge
-- what one edge does to the tallies and the sink
pub record WasAlone {C : Type 0} (after : C → Item → C) (groups : List ℕ) (event : Bool) (a b : Active) (content : C) (on above : List ℕ)
    (content' : C) (on' above' : List ℕ) : Type 0 where
  pub between : C
  pub entered : List ℕ
  pub gap : between ≡ after content (item (dimension event false) on above)
  pub enters : entered ≡ plus on (counts groups (a.piece ∷ []))
  pub level : content' ≡ after between (item (dimension event true) entered above)
  pub leaves : on' ≡ minus entered (counts groups (a.piece ∷ []))
  pub goes_on : above' ≡ plus above (counts groups (b.piece ∷ []))

-- the items from the edge down are its gap, its level and those of what is left
alone-items : {C : Type 0} (after : C → Item → C) (groups : List ℕ) (event : Bool) (a b : Active) (content content' between : C) (on on' entered above above' : List ℕ)
    (es : List Active) (vs : List Vertex) (os : List Active) (ls : List Level) →
    between ≡ after content (item (dimension event false) on above) → entered ≡ plus on (counts groups (a.piece ∷ [])) →
    content' ≡ after between (item (dimension event true) entered above) → on' ≡ minus entered (counts groups (a.piece ∷ [])) →
    above' ≡ plus above (counts groups (b.piece ∷ [])) →
    fold after content' (stop_items groups event on' above' (stops es vs os ls))
    ≡ fold after content (stop_items groups event on above (stops (a ∷ es) vs (b ∷ os) (alone_level ∷ ls)))
alone-items after groups event a b content content' between on on' entered above above' es vs os ls g e l v o =
    rw (l, g, v, e, o) refl

-- where the edge at i is next, it is the first one of what is left
next-first : (es : List Active) (i : ℕ) (a : Active) → i < length es → a ≡ get_or es i a → drop i es ≡ a ∷ drop (i + 1) es
next-first es i a h e = drop-cons es i a h ∙ ap (λ z. z ∷ drop (suc i) es) (sym e) ∙ ap (λ n. a ∷ drop n es) (sym (add-one i))

-- the edge at i, and the one that goes on there
pub record AreNext (es os : List Active) (i : ℕ) (a b : Active) : Type 0 where
  pub below : i < length es
  pub onward_below : i < length os
  pub edge : a ≡ get_or es i a
  pub onward : b ≡ get_or os i b

-- one item, where its parts are given by equations
pub same_item : (dim dim' : ℕ) (on on' above above' : List ℕ) → dim ≡ dim' → on ≡ on' → above ≡ above' → item dim on above ≡ item dim' on' above'
same_item dim dim' on on' above above' d n a = rw (d, n, a) refl

-- after one edge more
pub Alone-step : {C : Type 0} {after : C → Item → C} {groups : List ℕ} {event : Bool} {es os : List Active} {content now now' : C} {on above on_now above_now on' above' : List ℕ} {a b : Active}
    (i j : ℕ) → j ≡ i + 1 → AreNext es os i a b → WasAlone after groups event a b now on_now above_now now' on' above' →
    AloneSoFar after groups event es os content on above i now on_now above_now → AloneSoFar after groups event es os content on above j now' on' above'
Alone-step {after = after} {groups = groups} {event = event} {es = es} {os = os} {content = content} {now = now} {now' = now'} {on = on} {above = above} {on_now = on_now} {above_now = above_now} {on' = on'} {above' = above'} {a = a} {b = b}
    i j same next w so =
    let P : ℕ → Type 0 = λ n. AloneSoFar after groups event es os content on above n now' on' above' in
    subst P (sym same) (record {
      unchanged = w.leaves ∙ ap (λ z. minus z (counts groups (a.piece ∷ []))) w.enters ∙ added_taken groups on_now (a.piece ∷ []) ∙ so.unchanged;
      grown = w.goes_on ∙ ap (λ z. plus z (counts groups (b.piece ∷ []))) so.grown ∙ add_both groups above (pieces_of (take i os)) (b.piece ∷ [])
          ∙ ap (λ ps. plus above (counts groups ps)) (sym (pieces_of-more os i b next.onward_below next.onward));
      handed = λ lower vs lower_onward ls.
          alone-items after groups event a b now now' w.between on_now on' w.entered above_now above' (drop (i + 1) es ++ lower) vs (drop (i + 1) os ++ lower_onward)
          (alone_levels (length (drop (i + 1) es)) ls) w.gap w.enters w.level w.leaves w.goes_on
          ∙ sym (from_first lower vs lower_onward ls)
          ∙ so.handed lower vs lower_onward ls;
    })
  where
    from_first : (lower : List Active) (vs : List Vertex) (lower_onward : List Active) (ls : List Level) →
        fold after now (stop_items groups event on_now above_now (stops (drop i es ++ lower) vs (drop i os ++ lower_onward) (alone_levels (length (drop i es)) ls)))
        ≡ fold after now (stop_items groups event on_now above_now
        (stops (a ∷ (drop (i + 1) es ++ lower)) vs (b ∷ (drop (i + 1) os ++ lower_onward)) (alone_level ∷ alone_levels (length (drop (i + 1) es)) ls)))
    from_first lower vs lower_onward ls =
        ap (λ z. fold after now (stop_items groups event on_now above_now (stops (z ++ lower) vs (drop i os ++ lower_onward) (alone_levels (length z) ls)))) (next-first es i a next.below next.edge)
        ∙ ap (λ z. fold after now (stop_items groups event on_now above_now
        (stops (a ∷ (drop (i + 1) es ++ lower)) vs (z ++ lower_onward) (alone_level ∷ alone_levels (length (drop (i + 1) es)) ls)))) (next-first os i b next.onward_below next.onward)

-- ---- below the last edge
-- the edges that went on from all of them are above
pub alone-above : {C : Type 0} {after : C → Item → C} {groups : List ℕ} {event : Bool} {es os : List Active} {content now : C} {on above on_now above_now : List ℕ}
    (i : ℕ) → i ≡ length es → length os ≡ length es →
    AloneSoFar after groups event es os content on above i now on_now above_now → above_now ≡ plus above (counts groups (pieces_of os))
alone-above {groups = groups} {os = os} {above = above} i last pairs so =
    so.grown ∙ ap (λ z. plus above (counts groups (pieces_of z))) (take_all i os (omega arith))

-- whatever comes below, the sink gathers from it what it would have gathered from all
pub alone-handed : {C : Type 0} {after : C → Item → C} {groups : List ℕ} {event : Bool} {es os : List Active} {content now : C} {on above on_now above_now : List ℕ}
    (i : ℕ) → i ≡ length es → length os ≡ length es →
    AloneSoFar after groups event es os content on above i now on_now above_now →
    (lower : List Active) (vs : List Vertex) (lower_onward : List Active) (ls : List Level) →
    fold after now (stop_items groups event on_now above_now (stops lower vs lower_onward ls))
    ≡ fold after content (stop_items groups event on above (stops (es ++ lower) vs (os ++ lower_onward) (alone_levels (length es) ls)))
alone-handed {after = after} {groups = groups} {event = event} {es = es} {os = os} {now = now} {on_now = on_now} {above_now = above_now} i last pairs so lower vs lower_onward ls =
    ap (λ z. fold after now (stop_items groups event on_now above_now (stops lower vs (z ++ lower_onward) ls))) (sym (drop_all i os (omega arith)))
    ∙ ap (λ z. fold after now (stop_items groups event on_now above_now (stops (z ++ lower) vs (drop i os ++ lower_onward) (alone_levels (length z) ls)))) (sym (drop_all i es (omega arith)))
    ∙ so.handed lower vs lower_onward ls

-- ---- edges that stand alone, as a part of a column
-- the edges and those above, one after another, are all edges again
halves : (n : ℕ) (es here es' : List Active) → here ≡ take n es → es' ≡ drop n es → here ++ es' ≡ es
halves n es here es' h r = ap (λ z. z ++ es') h ∙ ap (λ z. take n es ++ z) r ∙ take-append-drop n es

-- a sink that was handed n edges alone gathers from what is left what it would have gathered from there down
handed-alone : {C : Type 0} (after : C → Item → C) (content content' final : C) (groups : List ℕ) (event : Bool) (n : ℕ) (ls : List Level)
    (es here es' : List Active) (vs : List Vertex) (os here_on os' : List Active) (on on' above above' : List ℕ) →
    n ≤ length es → here ≡ take n es → es' ≡ drop n es → here_on ≡ take n os → os' ≡ drop n os →
    fold after content' (stop_items groups event on' above' (stops es' vs os' ls))
    ≡ fold after content (stop_items groups event on above (stops (here ++ es') vs (here_on ++ os') (alone_levels (length here) ls))) →
    fold after content (stop_items groups event on above (stops es vs os (alone_levels n ls))) ≡ final →
    fold after content' (stop_items groups event on' above' (stops es' vs os' ls)) ≡ final
handed-alone after content content' final groups event n ls es here es' vs os here_on os' on on' above above' few h r ho ro k f =
    k
    ∙ ap (λ z. fold after content (stop_items groups event on above (stops z vs (here_on ++ os') (alone_levels (length here) ls)))) (halves n es here es' h r)
    ∙ ap (λ z. fold after content (stop_items groups event on above (stops es vs z (alone_levels (length here) ls)))) (halves n os here_on os' ho ro)
    ∙ ap (λ z. fold after content (stop_items groups event on above (stops es vs os (alone_levels z ls)))) (ap length h ∙ length-take-le n es few)
    ∙ f

-- there are so many edges, and below them the tallies are as they should be
pub record LeftAlone (groups total : List ℕ) (n : ℕ) (es : List Active) (vs : List Vertex) (os : List Active) (ls : List Level) (on above : List ℕ) : Type 0 where
  pub enough : n ≤ length es
  pub enough_onward : n ≤ length os
  pub left : Left groups total (drop n es) vs (drop n os) ls on (plus above (counts groups (pieces_of (take n os))))

-- what is left where the first n levels are those of edges alone
pub Left-alone : {groups total : List ℕ} (n : ℕ) {es : List Active} {vs : List Vertex} {os : List Active} {ls : List Level} {on above : List ℕ} →
    Left groups total es vs os (alone_levels n ls) on above → LeftAlone groups total n es vs os ls on above
Left-alone {groups = groups} {total = total} zero {es = es} {vs = vs} {os = os} {ls = ls} {on = on} {above = above} h =
    let P : List ℕ → Type 0 = λ z. Left groups total es vs os ls on z in
    record { enough = omega arith; enough_onward = omega arith; left = subst P (sym (add_none groups above)) h }
Left-alone (suc n) {es = []} h = absurd (omega (arith, h.takes.0))
Left-alone (suc n) {es = e ∷ es} {os = []} h = absurd (omega (arith, h.takes.1.1.0))
Left-alone {groups = groups} {total = total} (suc n) {es = e ∷ es} {vs = vs} {os = o ∷ os} {ls = ls} {on = on} {above = above} h =
    let P : List ℕ → Type 0 = λ z. Left groups total es vs os (alone_levels n ls) z (plus above (counts groups (o.piece ∷ []))) in
    let Q : List ℕ → Type 0 = λ z. Left groups total (drop n es) vs (drop n os) ls on z in
    let next = Left-next groups total (e ∷ es) vs (o ∷ os) alone_level (alone_levels n ls) on above h in
    let below = Left-alone n (subst P (added_taken groups on (e.piece ∷ [])) next) in
    let first : n ≤ length es = below.enough in
    let second : n ≤ length os = below.enough_onward in
    record {
      enough = omega arith;
      enough_onward = omega arith;
      left = subst Q (add_both groups above (o.piece ∷ []) (pieces_of (take n os))) below.left;
    }

-- what is left below them
pub Handing-alone : {C : Type 0} {after : C → Item → C} {groups total : List ℕ} {event : Bool} {final content content' : C} {on on' above above' : List ℕ}
    {es here es' : List Active} {vs : List Vertex} {os here_on os' : List Active} {ls : List Level} (n : ℕ) →
    here ≡ take n es → es' ≡ drop n es → here_on ≡ take n os → os' ≡ drop n os →
    on' ≡ on → above' ≡ plus above (counts groups (pieces_of here_on)) →
    ((lower : List Active) (vs : List Vertex) (lower_onward : List Active) (ls : List Level) →
    fold after content' (stop_items groups event on' above' (stops lower vs lower_onward ls))
    ≡ fold after content (stop_items groups event on above (stops (here ++ lower) vs (here_on ++ lower_onward) (alone_levels (length here) ls)))) →
    Handing after groups total event final content on above es vs os (alone_levels n ls) → Handing after groups total event final content' on' above' es' vs os' ls
Handing-alone {after = after} {groups = groups} {total = total} {event = event} {final = final} {content = content} {content' = content'} {on = on} {on' = on'} {above = above} {above' = above'}
    {es = es} {here = here} {es' = es'} {vs = vs} {os = os} {here_on = here_on} {os' = os'} {ls = ls} n h r ho ro u a k s =
    let alone = Left-alone n s.left in
    record {
      left = Left-same groups total (drop n es) es' vs vs (drop n os) os' ls on on' (plus above (counts groups (pieces_of (take n os)))) above' r refl ro u
          (a ∙ ap (λ z. plus above (counts groups (pieces_of z))) ho) alone.left;
      handed = handed-alone after content content' final groups event n ls es here es' vs os here_on os' on on' above above' alone.enough h r ho ro (k es' vs os' ls) s.handed;
    }
