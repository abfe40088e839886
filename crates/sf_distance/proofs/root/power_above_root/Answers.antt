use Rattle.std.proofs.Common.{◌*◌, ◌/◌, ◌^◌, ◌<◌, ◌≤◌, arith, subst, sym}
use Rattle.std.proofs.Math.Nat.{pow-le-pow_right, one-le-pow}
use Rattle.sf_distance.proofs.RootLaws.{is_half, shifted}
use Rattle.sf_distance.proofs.root.power_above_root.Goals as goal

pub overflow_shl-result : goal.overflow_shl-result
overflow_shl-result c = let h = is_half c.args.number c.requires in omega (arith, h.few)

pub returns-clause-some : goal.returns-clause-some
returns-clause-some c = let h = is_half c.args.number c.requires in subst (λ n. 1 ≤ n) (sym (shifted _ h.few)) (one-le-pow _ 2 (omega arith))

pub returns-clause-small : goal.returns-clause-small
returns-clause-small c = let h = is_half c.args.number c.requires in subst (λ n. n ≤ 2 ^ 63) (sym (shifted _ h.few)) (pow-le-pow_right (omega arith) h.few)

pub returns-clause-above : goal.returns-clause-above
returns-clause-above c = let h = is_half c.args.number c.requires in subst (λ n. c.args.number < n * n) (sym (shifted _ h.few)) h.above

pub returns-clause-half : goal.returns-clause-half
returns-clause-half c = let h = is_half c.args.number c.requires in subst (λ n. n / 2 * (n / 2) ≤ c.args.number) (sym (shifted _ h.few)) h.half
