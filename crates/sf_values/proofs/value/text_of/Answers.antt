use Rattle.std.proofs.Common.{◌≡◌, ◌∙◌, ◌∷◌, ◌++◌, [], List, ℕ, Some, false, flat_map, string_bytes, ap, sym, rules}
use Rattle.sf_features.specs.declared.attr_value.AttrValue.TheVariants.{Text}
use Rattle.sf_values.specs.Values.{quoted_byte, undoubled}
use Rattle.sf_values.proofs.QuoteLemmas.{quote-single, quote-last, quote-further-written, quote-further-read, quote-shorter}
use Rattle.sf_values.proofs.value.text_of.Goals as goal

pub returns-in_default-behind_quote : goal.returns-in_default-behind_quote
returns-in_default-behind_quote c =
    quote-single c.args.quoted.now c.in-Some.inner.now _ c.in-Some-at_quote.plain.now c.in-Some-at_quote.after.now c.loop-plain.rest.now
    c.in-Some.ensures c.in-Some-at_quote.ensures.0 c.in-Some-at_quote.ensures.1 c.in_default-behind_quote.ensures c.loop-plain.invariant.written c.loop-plain.invariant.read

pub loop-plain-smaller : goal.loop-plain-smaller
loop-plain-smaller c = quote-shorter c.in-Some-at_quote.plain.now c.in-Some-at_quote.after.now c.loop-plain.rest.now c.in-Some-behind_quote.after.now c.in-Some-at_quote.ensures.1 c.in-Some-behind_quote.ensures

pub loop-plain-preserved : goal.loop-plain-preserved
unfolding lib.Utf8.encode
loop-plain-preserved c =
    let before = string_bytes c.loop-plain.value in
    let plain = c.in-Some-at_quote.plain.now in
    let after = c.in-Some-at_quote.after.now in
    let rest = c.loop-plain.rest.now in
    let next = c.in-Some-behind_quote.after.now in
    let pushed : string_bytes c.push.new.self ≡ (before ++ plain) ++ 39 ∷ [] = c.in_ok-push.ensures.bytes ∙ ap (λ b. b ++ 39 ∷ []) c.in_ok-push_str.ensures.bytes in
    record {
      text = search rules;
      written =
          ap (λ b. flat_map quoted_byte b ++ next) pushed
          ∙ quote-further-written before plain after rest next c.in-Some.inner.now c.in-Some-at_quote.ensures.0 c.in-Some-at_quote.ensures.1 c.in-Some-behind_quote.ensures c.loop-plain.invariant.written;
      read =
          ap (λ b. b ++ undoubled false next) pushed
          ∙ quote-further-read before plain after rest next (undoubled false c.in-Some.inner.now) c.in-Some-at_quote.ensures.0 c.in-Some-at_quote.ensures.1 c.in-Some-behind_quote.ensures c.loop-plain.invariant.read;
    }

pub returns : goal.returns
returns c =
    ap (λ (t : List ℕ). Some (Text t)) (c.from_string.ensures ∙ c.in_ok-push_str-2.ensures.bytes)
    ∙ sym (quote-last c.args.quoted.now c.in-Some.inner.now (string_bytes c.loop-plain.value) c.loop-plain.rest.now c.in-Some.ensures c.in_default-at_quote.ensures c.loop-plain.invariant.written c.loop-plain.invariant.read)
