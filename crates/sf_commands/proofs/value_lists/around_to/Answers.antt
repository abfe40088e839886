use Rattle.std.proofs.Common.{◌≡◌, ◌<◌, ◌+◌, ◌&&◌, ◌∙◌, ℕ, List, Bool, true, false, Some, ap, drop, take, get_or, length, sym, subst, arith}
use Rattle.std.proofs.lemmas.Grind.{common_steps}
use Rattle.std.proofs.lemmas.Str.{IsCharBoundary-after_ascii}
use Rattle.std.specs.Str.{IsCharBoundary}
use Rattle.sf_commands.specs.ValueLists.{begins_with_to, ends_from, may_begin, within_behind}
use Rattle.sf_commands.proofs.ValueListLemmas.{ends-further, ends-here, from-place, further_front, further_front-nothing, to-inside}
use Rattle.sf_commands.proofs.value_lists.around_to.Goals as goal

pub loop-place-init : goal.loop-place-init
loop-place-init c = further_front-nothing (ends_from false true c.args.text.now)

pub range_from-requires : goal.range_from-requires
range_from-requires c =
    let text = c.args.text.now in
    let place = c.loop-place.place in
    let begins = c.loop-place.begins in
    let same = c.as_bytes-bytes.ensures.value in
    let test : (begins && begins_with_to (drop place text)) ≡ true =
    ap (λ t. begins && begins_with_to t) (sym (from-place c.as_bytes-bytes.result.now place ∙ ap (drop place) same)) ∙ sym c.is_to.ensures ∙ c.if-is_to.true in
    let front = to-inside begins text place test in
    let here : place + 1 + 1 ≡ place + 2 = omega arith in
    λ some. subst (λ n. IsCharBoundary text n) here (IsCharBoundary-after_ascii text (place + 1) c.utf8.text front.0 (omega (arith, front.1)))

pub returns-then-is_to : goal.returns-then-is_to
returns-then-is_to c =
    let text = c.args.text.now in
    let place = c.loop-place.place in
    let begins = c.loop-place.begins in
    let same = c.as_bytes-bytes.ensures.value in
    let test : (begins && begins_with_to (drop place text)) ≡ true =
    ap (λ t. begins && begins_with_to t) (sym (from-place c.as_bytes-bytes.result.now place ∙ ap (drop place) same)) ∙ sym c.is_to.ensures ∙ c.if-is_to.true in
    let front : c.range.result.now ≡ take place text = grind (arith, common_steps) in
    c.loop-place.invariant ∙ ends-here c.loop-place.within begins text place test
    ∙ ap (λ t. Some (t, drop (place + 2) text)) (sym front)
    ∙ ap (λ t. Some (c.range.result.now, t)) (sym c.range_from.ensures.value)

pub loop-place-preserved : goal.loop-place-preserved
loop-place-preserved c =
    let text = c.args.text.now in
    let place = c.loop-place.place in
    let begins = c.loop-place.begins in
    let within = c.loop-place.within in
    let bytes = c.as_bytes-bytes.result.now in
    let same = c.as_bytes-bytes.ensures.value in
    let inside : place < length text = subst (λ (t : List ℕ). place < length t) same c.loop-place-test.true in
    let test : (begins && begins_with_to (drop place text)) ≡ false =
    ap (λ t. begins && begins_with_to t) (sym (from-place bytes place ∙ ap (drop place) same)) ∙ sym c.is_to.ensures ∙ c.if-is_to.false in
    let next = c.within_behind-within.ensures ∙ ap (λ (t : List ℕ). within_behind within (get_or t place 0)) same in
    let may = c.may_begin-begins.ensures ∙ ap (λ (t : List ℕ). may_begin within (get_or t place 0)) same in
    c.loop-place.invariant ∙ ends-further within begins text place inside test
    ∙ ap (λ w. further_front (take (place + 1) text) (ends_from w (may_begin within (get_or text place 0)) (drop (place + 1) text))) (sym next)
    ∙ ap (λ m. further_front (take (place + 1) text) (ends_from c.within_behind-within.result m (drop (place + 1) text))) (sym may)
