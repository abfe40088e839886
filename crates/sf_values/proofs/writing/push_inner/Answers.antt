use Rattle.std.proofs.Common.{◌≡◌, ◌≤◌, ◌∙◌, ◌++◌, ap, arith, length, take, get_or, string_bytes, ℕ, List, Result, Ok, Err, OnOk, flat_map}
use Rattle.std.proofs.lemmas.Grind.{common_steps}
use Rattle.std.specs.List.{prefix_len}
use Rattle.std.specs.Prelude.{is_ok, if◌then◌else◌}
use Rattle.sf_values.specs.Values.{is_plain_in, special_byte, written_byte}
use Rattle.sf_values.proofs.WrittenPieces.{before-special, behind, behind-special, first-special, form-written, special-written, written-further, written-whole}
use Rattle.sf_values.proofs.writing.push_inner.Goals as goal

pub range-requires-clause-end_boundary : goal.range-requires-clause-end_boundary
range-requires-clause-end_boundary c = before-special (form-written c.args.form.now) c.loop-end.rest.now c.loop-end.end c.loop-end.invariant.plain

pub range_from-special-requires : goal.range_from-special-requires
range_from-special-requires c = λ some. before-special (form-written c.args.form.now) c.loop-end.rest.now c.loop-end.end c.loop-end.invariant.plain

pub range_from-rest-requires : goal.range_from-rest-requires
range_from-rest-requires c = λ some. behind-special (form-written c.args.form.now) c.loop-end.rest.now c.range_from-special.result.now c.loop-end.end c.loop-end.invariant.plain c.loop-end-test.true c.range_from-special.ensures.value c.range_from-special.utf8

pub loop-end-preserved : goal.loop-end-preserved
loop-end-preserved c =
    let form = c.args.form.now in
    let rest = c.loop-end.rest.now in
    let end = c.loop-end.end in
    let special = c.range_from-special.result.now in
    let before = string_bytes c.loop-end.text in
    let after = string_bytes c.push_special.new.text in
    let first = first-special (is_plain_in form) rest special end c.loop-end.invariant.plain c.loop-end-test.true c.range_from-special.ensures.value in
    let taken : c.range.result.now ≡ take end rest = grind (arith, common_steps) in
    let stood : c.as_bytes.result.now ≡ special = c.as_bytes.ensures.value in
    let pushed : after ≡ (before ++ take end rest) ++ written_byte form (get_or rest end 0) =
    c.in_ok-push_special.ensures
    ∙ ap (λ t. t ++ special_byte form (get_or c.as_bytes.result.now 0 0)) (c.in_ok-push_str.ensures.bytes ∙ ap (λ p. before ++ p) taken)
    ∙ ap (λ (b : List ℕ). (before ++ take end rest) ++ special_byte form (get_or b 0 0)) stood
    ∙ ap (λ w. (before ++ take end rest) ++ w) (special-written form (get_or special 0 0) first.1 ∙ ap (written_byte form) first.0) in
    let left : c.range_from-rest.result.now ≡ behind end rest = c.range_from-rest.ensures.value ∙ ap (λ q. behind 0 q) c.range_from-special.ensures.value in
    record {
      text = c.range_from-rest.utf8;
      plain = c.plain_len-end-in-loop-end.ensures;
      whole =
          ap (λ r. after ++ flat_map (written_byte form) r) left
          ∙ written-further (form-written form) before after _ rest end c.loop-end.invariant.plain c.loop-end-test.true pushed c.loop-end.invariant.whole;
    }

-- the text after a push that succeeds
where-ok : {T E Q : Type 0} (r : Result T E) (now pushed before : List ℕ) → now ≡ (if is_ok r then pushed else before) → (now ≡ pushed → Q) → OnOk r Q
where-ok (Ok x) now pushed before is f = f is
where-ok (Err e) now pushed before is f = tt

pub returns : goal.returns
returns c =
    let form = c.args.form.now in
    let rest = c.loop-end.rest.now in
    let before = string_bytes c.loop-end.text in
    let none : length rest ≤ prefix_len (is_plain_in form) rest = omega (arith, c.loop-end-test.false, c.loop-end.invariant.plain) in
    where-ok c.push_str-2.result (string_bytes c.push_str-2.new.self) (before ++ rest) before c.push_str-2.ensures.bytes
    (λ is. written-whole (form-written form) before (string_bytes c.push_str-2.new.self) _ rest none is c.loop-end.invariant.whole)
