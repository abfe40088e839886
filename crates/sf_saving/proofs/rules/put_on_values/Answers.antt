use Rattle.std.proofs.Common.{◌++◌, ap, refl}
use Rattle.byteorder.specs.Endian.{big_bytes}
use Rattle.sf_format.specs.Stored.{OfValues}
use Rattle.sf_format.specs.Canonical.{behind_length, demand_byte, demand_bytes, says_bytes}
use Rattle.sf_streams.proofs.Putting.{Putting-start, Putting-more, breaks, ends-put, ends-broken}
use Rattle.sf_saving.proofs.rules.put_on_values.Goals as goal

pub returns-in_err-put_u8-clause-broken : goal.returns-in_err-put_u8-clause-broken
returns-in_err-put_u8-clause-broken g c =
    let rule = c.args.rule.now in
    let t1 = behind_length 1 rule.layer ++ (behind_length 1 rule.column ++ demand_bytes rule.demand) in
    let start = Putting-start (g.W.Write.contents c.args.writer.now) c.args.output.now (says_bytes (OfValues rule)) in
    breaks c.from_residual.result (big_bytes 1 (demand_byte rule.demand)) t1 (ap (big_bytes 1) c.demand_byte.ensures) start c.in_err-put_u8.ensures.broken

pub returns-in_err-put_name-clause-broken : goal.returns-in_err-put_name-clause-broken
returns-in_err-put_name-clause-broken g c =
    let rule = c.args.rule.now in
    let t2 = behind_length 1 rule.column ++ demand_bytes rule.demand in
    let t1 = behind_length 1 rule.layer ++ t2 in
    let start = Putting-start (g.W.Write.contents c.args.writer.now) c.args.output.now (says_bytes (OfValues rule)) in
    let one = Putting-more (big_bytes 1 (demand_byte rule.demand)) t1 (ap (big_bytes 1) c.demand_byte.ensures) start c.in_ok-put_u8.ensures.ok in
    breaks c.from_residual-in_err-put_name.result (behind_length 1 rule.layer) t2 (ap (behind_length 1) c.as_str.ensures) one c.in_err-put_name.ensures.broken

pub returns-in_err-put_name-2-clause-broken : goal.returns-in_err-put_name-2-clause-broken
returns-in_err-put_name-2-clause-broken g c =
    let rule = c.args.rule.now in
    let t3 = demand_bytes rule.demand in
    let t2 = behind_length 1 rule.column ++ t3 in
    let t1 = behind_length 1 rule.layer ++ t2 in
    let start = Putting-start (g.W.Write.contents c.args.writer.now) c.args.output.now (says_bytes (OfValues rule)) in
    let one = Putting-more (big_bytes 1 (demand_byte rule.demand)) t1 (ap (big_bytes 1) c.demand_byte.ensures) start c.in_ok-put_u8.ensures.ok in
    let two = Putting-more (behind_length 1 rule.layer) t2 (ap (behind_length 1) c.as_str.ensures) one c.in_ok-put_name.ensures.ok in
    breaks c.from_residual-in_err-put_name-2.result (behind_length 1 rule.column) t3 (ap (behind_length 1) c.as_str-2.ensures) two c.in_err-put_name-2.ensures.broken

pub returns-clause-ok : goal.returns-clause-ok
returns-clause-ok g c =
    let rule = c.args.rule.now in
    let t3 = demand_bytes rule.demand in
    let t2 = behind_length 1 rule.column ++ t3 in
    let t1 = behind_length 1 rule.layer ++ t2 in
    let start = Putting-start (g.W.Write.contents c.args.writer.now) c.args.output.now (says_bytes (OfValues rule)) in
    let one = Putting-more (big_bytes 1 (demand_byte rule.demand)) t1 (ap (big_bytes 1) c.demand_byte.ensures) start c.in_ok-put_u8.ensures.ok in
    let two = Putting-more (behind_length 1 rule.layer) t2 (ap (behind_length 1) c.as_str.ensures) one c.in_ok-put_name.ensures.ok in
    let three = Putting-more (behind_length 1 rule.column) t3 (ap (behind_length 1) c.as_str-2.ensures) two c.in_ok-put_name-2.ensures.ok in
    ends-put c.put_demand.result _ _ t3 refl three c.put_demand.ensures.ok

pub returns-clause-broken : goal.returns-clause-broken
returns-clause-broken g c =
    let rule = c.args.rule.now in
    let t3 = demand_bytes rule.demand in
    let t2 = behind_length 1 rule.column ++ t3 in
    let t1 = behind_length 1 rule.layer ++ t2 in
    let start = Putting-start (g.W.Write.contents c.args.writer.now) c.args.output.now (says_bytes (OfValues rule)) in
    let one = Putting-more (big_bytes 1 (demand_byte rule.demand)) t1 (ap (big_bytes 1) c.demand_byte.ensures) start c.in_ok-put_u8.ensures.ok in
    let two = Putting-more (behind_length 1 rule.layer) t2 (ap (behind_length 1) c.as_str.ensures) one c.in_ok-put_name.ensures.ok in
    let three = Putting-more (behind_length 1 rule.column) t3 (ap (behind_length 1) c.as_str-2.ensures) two c.in_ok-put_name-2.ensures.ok in
    ends-broken c.put_demand.result _ t3 refl three c.put_demand.ensures.broken
