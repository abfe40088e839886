use Rattle.std.proofs.Common.{SFits, ◌∙◌, ◌++◌, ℕ, List, OnErr, OnOk, ap, rules, subst, sym, w64}
use Rattle.std.proofs.lemmas.Int.{to_z-of_z}
use Rattle.byteorder.specs.Endian.{big_bytes}
use Rattle.sf_format.specs.Canonical.{behind_length, date_bytes, decimal_bytes, int_bytes, moment_bytes, typed_bytes}
use Rattle.sf_streams.specs.Streams.{Puts, WritesFront}
use Rattle.sf_saving.proofs.values.put_typed.Goals as goal

pub returns-in-Int-clause-ok : goal.returns-in-Int-clause-ok
returns-in-Int-clause-ok g c =
    let n = c.in-Int.number in
    let fits : SFits w64 n = search rules in
    subst (λ (t : List ℕ). OnOk c.put_int.result (Puts (g.W.Write.contents c.args.writer.now) (g.W.Write.contents c.put_int.new.writer) c.args.output.now c.put_int.new.output t))
    (ap (int_bytes c.args.in_decimals) (to_z-of_z w64 n fits) ∙ ap (typed_bytes c.args.in_decimals) (sym c.in-Int.is)) c.put_int.ensures.ok

pub returns-in-Int-clause-broken : goal.returns-in-Int-clause-broken
returns-in-Int-clause-broken g c =
    let n = c.in-Int.number in
    let fits : SFits w64 n = search rules in
    subst (λ (t : List ℕ). OnErr c.put_int.result (WritesFront (g.W.Write.contents c.args.writer.now) (g.W.Write.contents c.put_int.new.writer) (c.args.output.now ++ t)))
    (ap (int_bytes c.args.in_decimals) (to_z-of_z w64 n fits) ∙ ap (typed_bytes c.args.in_decimals) (sym c.in-Int.is)) c.put_int.ensures.broken

pub returns-in-Text-clause-ok : goal.returns-in-Text-clause-ok
returns-in-Text-clause-ok g c =
    subst (λ (t : List ℕ). OnOk c.put_text.result (Puts (g.W.Write.contents c.args.writer.now) (g.W.Write.contents c.put_text.new.writer) c.args.output.now c.put_text.new.output t))
    (ap (behind_length 2) c.as_str.ensures ∙ ap (typed_bytes c.args.in_decimals) (sym c.in-Text.is)) c.put_text.ensures.ok

pub returns-in-Text-clause-broken : goal.returns-in-Text-clause-broken
returns-in-Text-clause-broken g c =
    subst (λ (t : List ℕ). OnErr c.put_text.result (WritesFront (g.W.Write.contents c.args.writer.now) (g.W.Write.contents c.put_text.new.writer) (c.args.output.now ++ t)))
    (ap (behind_length 2) c.as_str.ensures ∙ ap (typed_bytes c.args.in_decimals) (sym c.in-Text.is)) c.put_text.ensures.broken

pub returns-in-Decimal-clause-ok : goal.returns-in-Decimal-clause-ok
returns-in-Decimal-clause-ok g c =
    subst (λ (t : List ℕ). OnOk c.put_number.result (Puts (g.W.Write.contents c.args.writer.now) (g.W.Write.contents c.put_number.new.writer) c.args.output.now c.put_number.new.output t))
    (ap decimal_bytes c.parts.ensures.value ∙ ap (typed_bytes c.args.in_decimals) (sym c.in-Decimal.is)) c.put_number.ensures.ok

pub returns-in-Decimal-clause-broken : goal.returns-in-Decimal-clause-broken
returns-in-Decimal-clause-broken g c =
    subst (λ (t : List ℕ). OnErr c.put_number.result (WritesFront (g.W.Write.contents c.args.writer.now) (g.W.Write.contents c.put_number.new.writer) (c.args.output.now ++ t)))
    (ap decimal_bytes c.parts.ensures.value ∙ ap (typed_bytes c.args.in_decimals) (sym c.in-Decimal.is)) c.put_number.ensures.broken

pub returns-in-Bool-clause-ok : goal.returns-in-Bool-clause-ok
returns-in-Bool-clause-ok g c =
    subst (λ (t : List ℕ). OnOk c.put_u8.result (Puts (g.W.Write.contents c.args.writer.now) (g.W.Write.contents c.put_u8.new.writer) c.args.output.now c.put_u8.new.self t))
    (ap (big_bytes 1) c.bool_byte.ensures ∙ ap (typed_bytes c.args.in_decimals) (sym c.in-Bool.is)) c.put_u8.ensures.ok

pub returns-in-Bool-clause-broken : goal.returns-in-Bool-clause-broken
returns-in-Bool-clause-broken g c =
    subst (λ (t : List ℕ). OnErr c.put_u8.result (WritesFront (g.W.Write.contents c.args.writer.now) (g.W.Write.contents c.put_u8.new.writer) (c.args.output.now ++ t)))
    (ap (big_bytes 1) c.bool_byte.ensures ∙ ap (typed_bytes c.args.in_decimals) (sym c.in-Bool.is)) c.put_u8.ensures.broken

pub returns-in-Date-clause-ok : goal.returns-in-Date-clause-ok
returns-in-Date-clause-ok g c =
    subst (λ (t : List ℕ). OnOk c.put_date.result (Puts (g.W.Write.contents c.args.writer.now) (g.W.Write.contents c.put_date.new.writer) c.args.output.now c.put_date.new.output t))
    (ap date_bytes c.parts-in-Date.ensures.value ∙ ap (typed_bytes c.args.in_decimals) (sym c.in-Date.is)) c.put_date.ensures.ok

pub returns-in-Date-clause-broken : goal.returns-in-Date-clause-broken
returns-in-Date-clause-broken g c =
    subst (λ (t : List ℕ). OnErr c.put_date.result (WritesFront (g.W.Write.contents c.args.writer.now) (g.W.Write.contents c.put_date.new.writer) (c.args.output.now ++ t)))
    (ap date_bytes c.parts-in-Date.ensures.value ∙ ap (typed_bytes c.args.in_decimals) (sym c.in-Date.is)) c.put_date.ensures.broken

pub returns-in-DateTime-clause-ok : goal.returns-in-DateTime-clause-ok
returns-in-DateTime-clause-ok g c =
    subst (λ (t : List ℕ). OnOk c.put_moment.result (Puts (g.W.Write.contents c.args.writer.now) (g.W.Write.contents c.put_moment.new.writer) c.args.output.now c.put_moment.new.output t))
    (ap moment_bytes c.parts-in-DateTime.ensures.value ∙ ap (typed_bytes c.args.in_decimals) (sym c.in-DateTime.is)) c.put_moment.ensures.ok

pub returns-in-DateTime-clause-broken : goal.returns-in-DateTime-clause-broken
returns-in-DateTime-clause-broken g c =
    subst (λ (t : List ℕ). OnErr c.put_moment.result (WritesFront (g.W.Write.contents c.args.writer.now) (g.W.Write.contents c.put_moment.new.writer) (c.args.output.now ++ t)))
    (ap moment_bytes c.parts-in-DateTime.ensures.value ∙ ap (typed_bytes c.args.in_decimals) (sym c.in-DateTime.is)) c.put_moment.ensures.broken
