use Rattle.std.proofs.Common.{◌≡◌, ◌-◌, ◌/◌, length, ap, arith, rules, vec_len}
use Rattle.sf_rtree.specs.Levels.{CanPart}
use Rattle.sf_rtree.proofs.Changes.{on_ok}
use Rattle.sf_rtree.proofs.Parts.{part-left}
use Rattle.sf_rtree.proofs.build.take_last_part.Goals as goal

pub returns-clause-can : goal.returns-clause-can
returns-clause-can g c =
    let old = c.args.members.now.items in
    let new = c.split_off.new.self.items in
    let first : c.len.result ≡ length old = search rules in
    let second : c.len-2.result ≡ length old = search rules in
    let left : vec_len c.split_off.new.self ≡ length new = search rules in
    let size : c.len.result / c.args.parts ≡ length old / c.args.parts = ap (λ n. n / c.args.parts) first in
    on_ok (vec_len c.split_off.new.self ≡ c.len-2.result - c.len.result / c.args.parts) (CanPart (c.args.parts - 1) (length new)) c.split_off.result
    (λ h. part-left (length old) c.args.parts (length new) c.requires.some c.requires.can (omega (arith, h, left, second, size)))
    c.split_off.ensures.len
