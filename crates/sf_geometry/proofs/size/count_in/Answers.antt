use Rattle.std.proofs.Common.{◌≡◌, ◌∙◌, ◌+◌, ◌-◌, ◌^◌, ℕ, arith, rules, length, min}
use Rattle.std.specs.List.{fold}
use Rattle.sf_geometry.proofs.ListLaws.{count-joined}
use Rattle.sf_geometry.proofs.size.count_in.Goals as goal

pub returns : goal.returns
returns c =
    let folded : c.fold.result ≡ fold (λ (n : ℕ) points. min (n + length points) (2 ^ 64 - 1)) 0 c.args.lists.now = search rules in
    folded ∙ count-joined (2 ^ 64 - 1) 0 c.args.lists.now (omega arith) ∙ omega arith
