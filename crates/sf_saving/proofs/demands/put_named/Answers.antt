use Rattle.std.proofs.Common.{◌∙◌, ap, false, refl}
use Rattle.byteorder.specs.Endian.{big_bytes}
use Rattle.sf_format.specs.Canonical.{named_bytes, own_type, type_byte, typed_bytes}
use Rattle.sf_streams.proofs.Putting.{Putting-more, Putting-start, breaks, ends-broken, ends-put}
use Rattle.sf_saving.proofs.demands.put_named.Goals as goal

pub returns-in_err-put_u8-clause-broken : goal.returns-in_err-put_u8-clause-broken
returns-in_err-put_u8-clause-broken g c =
    let value = c.args.value.now in
    let start = Putting-start (g.W.Write.contents c.args.writer.now) c.args.output.now (named_bytes value) in
    breaks c.from_residual.result (big_bytes 1 (type_byte (own_type value))) (typed_bytes false value) (ap (big_bytes 1) (c.type_byte.ensures ∙ ap type_byte c.own_type.ensures)) start c.in_err-put_u8.ensures.broken

pub returns-clause-ok : goal.returns-clause-ok
returns-clause-ok g c =
    let value = c.args.value.now in
    let later = typed_bytes false value in
    let start = Putting-start (g.W.Write.contents c.args.writer.now) c.args.output.now (named_bytes value) in
    let one = Putting-more (big_bytes 1 (type_byte (own_type value))) later (ap (big_bytes 1) (c.type_byte.ensures ∙ ap type_byte c.own_type.ensures)) start c.in_ok-put_u8.ensures.ok in
    ends-put c.put_typed.result _ _ later refl one c.put_typed.ensures.ok

pub returns-clause-broken : goal.returns-clause-broken
returns-clause-broken g c =
    let value = c.args.value.now in
    let later = typed_bytes false value in
    let start = Putting-start (g.W.Write.contents c.args.writer.now) c.args.output.now (named_bytes value) in
    let one = Putting-more (big_bytes 1 (type_byte (own_type value))) later (ap (big_bytes 1) (c.type_byte.ensures ∙ ap type_byte c.own_type.ensures)) start c.in_ok-put_u8.ensures.ok in
    ends-broken c.put_typed.result _ later refl one c.put_typed.ensures.broken
