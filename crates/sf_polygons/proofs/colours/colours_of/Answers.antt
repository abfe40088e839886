use Rattle.std.proofs.Common.{◌≡◌, refl, ap, sym, ◌∙◌, subst, ◌<◌, ◌+◌, ℕ, List, arith, length, take, slice_index, slice_index_or, None, true, false, not}
use Rattle.std.specs.List.{All, position}
use Rattle.std.proofs.lemmas.List.{with_items_is}
use Rattle.sf_polygons.specs.Colours.{IsColouring, do_meet}
use Rattle.sf_polygons.proofs.ColourLaws.{below-all, coloured-more, there-more}
use Rattle.sf_polygons.proofs.colours.colours_of.Goals as goal
use Rattle.sf_polygons.proofs.colours.colours_of.Goals.{then-is_some, else-is_some}

pub mark_taken-requires : goal.mark_taken-requires
mark_taken-requires c =
    let room : length c.args.boxes.now ≡ length c.deref_mut.result.now = omega (arith, c.deref_mut.ensures.len, c.fill.ensures.len, c.loop-extent.invariant.taken) in
    let P : List ℕ → Type 0 = All (λ colour. colour < length c.args.boxes.now) in
    let Q : ℕ → Type 0 = λ n. All (λ colour. colour < n) c.deref.result.now in
    subst Q room
    (subst P (sym c.deref.ensures.value)
    (below-all c.args.boxes.now c.loop-extent.extent-index c.loop-extent.colours.items c.loop-extent.invariant.colouring))

pub loop-extent-preserved : goal.loop-extent-preserved
loop-extent-preserved c =
    let boxes = c.args.boxes.now in
    let n = c.loop-extent.extent-index in
    let extent = slice_index_or boxes n None in
    let taken = c.mark_taken.new.taken in
    let marked : (k : ℕ) → k < length boxes → k < length c.loop-extent.colours.items → do_meet (slice_index_or boxes k None) extent ≡ true → slice_index_or taken (slice_index c.loop-extent.colours.items k) false ≡ true =
    subst (λ cs. (k : ℕ) → k < length boxes → k < length cs → do_meet (slice_index_or boxes k None) extent ≡ true → slice_index_or taken (slice_index cs k) false ≡ true) c.deref.ensures.value c.mark_taken.ensures in
    let found : c.first_free.result ≡ position not (take c.loop-extent.earlier taken) = c.first_free.ensures ∙ ap (λ ts. position not (take c.loop-extent.earlier ts))
    (c.deref-in-loop-extent.ensures.value ∙ with_items_is c.fill.new.self taken (c.mark_taken.auto.taken ∙ c.deref_mut.ensures.len)) in
    let next = coloured-more boxes n c.loop-extent.colours.items taken c.loop-extent.earlier extent c.first_free.result c.unwrap_or-colour.result c.loop-extent-test.true refl
    c.loop-extent.invariant.colouring c.loop-extent.invariant.earlier marked found c.unwrap_or-colour.ensures in
    record {
      colouring = subst (λ cs. IsColouring (take (n + 1) boxes) cs) (sym c.in_ok-push.ensures.items) next;
      earlier = elim c.if-is_some.branch [
        | then-is_some w ↦ there-more boxes n c.loop-extent.earlier c.if-is_some.earlier true c.loop-extent-test.true c.loop-extent.invariant.earlier w.if-is_some.ensures w.earlier-is
        | else-is_some w ↦ there-more boxes n c.loop-extent.earlier c.if-is_some.earlier false c.loop-extent-test.true c.loop-extent.invariant.earlier w.if-is_some.ensures (w.earlier-is ∙ same c.loop-extent.earlier)
      ];
      taken = omega (arith, c.fill.ensures.len, c.loop-extent.invariant.taken);
    }
  where
    same : (k : ℕ) → k ≡ k + 0
    same k = omega arith
