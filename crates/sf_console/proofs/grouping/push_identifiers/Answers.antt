use Rattle.std.proofs.Common.{◌≡◌, ◌≤◌, ◌+◌, ◌++◌, ◌∙◌, ap, cond, sym, arith, codes, decimal, flat_map, length, length-append, get_or, is_ok}
use Rattle.std.proofs.lemmas.List.{append-nil, take_all}
use Rattle.sf_geometry.proofs.ListLaws.{pushed-more}
use Rattle.sf_console.proofs.GroupAnswers.{at-place, ok-by}
use Rattle.sf_console.proofs.grouping.push_identifiers.Goals as goal

pub loop-id-init : goal.loop-id-init
loop-id-init c = (sym (append-nil c.args.text.now.items), omega arith, omega arith)

pub unwrap-requires : goal.unwrap-requires
unwrap-requires c = ok-by c.extend_from_slice.result c.extend_from_slice.ensures.full (λ full.
    let held = c.loop-id.invariant.1 in
    let kept = c.loop-id.invariant.2 in
    let room = c.requires in
    let inside = c.loop-id-test.true in
    let short : length c.as_bytes.result.now ≤ 11 = omega (arith, ap length c.as_bytes.ensures, c.identifier.ensures.len) in
    let len = c.loop-id.text.ok in
    omega (arith, held, kept, room, inside, short, full, len))

pub loop-id-preserved : goal.loop-id-preserved
loop-id-preserved c =
    let here = get_or c.args.ids.now c.loop-id.id-index 0 in
    let other : c.as_bytes.result.now ≡ codes " " ++ decimal here = c.as_bytes.ensures ∙ c.identifier.ensures.text in
    let items : c.extend_from_slice.new.self.items ≡ c.loop-id.text.items ++ (codes " " ++ decimal here) =
    c.extend_from_slice.ensures.items ∙ ap (λ r. cond (is_ok r) (c.loop-id.text.items ++ c.as_bytes.result.now) c.loop-id.text.items) c.unwrap.ensures ∙ ap (λ o. c.loop-id.text.items ++ o) other in
    let len : length c.extend_from_slice.new.self.items ≡ length c.loop-id.text.items + length c.as_bytes.result.now =
    ap length (items ∙ ap (λ o. c.loop-id.text.items ++ o) (sym other)) ∙ length-append c.loop-id.text.items c.as_bytes.result.now in
    let short : length c.as_bytes.result.now ≤ 11 = omega (arith, ap length c.as_bytes.ensures, c.identifier.ensures.len) in
    let held = c.loop-id.invariant.1 in
    let kept = c.loop-id.invariant.2 in
    let capacity = c.extend_from_slice.ensures.capacity in (
      pushed-more (λ id. codes " " ++ decimal id) c.args.text.now.items c.loop-id.text.items c.extend_from_slice.new.self.items c.args.ids.now c.loop-id.id-index here
          c.loop-id-test.true (at-place c.args.ids.now c.loop-id.id-index 0 c.loop-id-test.true) c.loop-id.invariant.0 items,
      omega (arith, held, len, short),
      omega (arith, kept, capacity),
    )

pub returns-clause-ids : goal.returns-clause-ids
returns-clause-ids c =
    c.loop-id.invariant.0 ∙ ap (λ xs. c.args.text.now.items ++ flat_map (λ id. codes " " ++ decimal id) xs) (take_all c.loop-id.id-index c.args.ids.now c.loop-id-test.false)
