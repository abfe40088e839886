use Rattle.std.proofs.Common.{rules, ◌≡◌, ◌<◌, ◌^◌, ◌++◌, string_bytes, OnOk, ℕ, subst}
use Rattle.sf_distance.specs.Texts.{thousandths_text}
use Rattle.sf_distance.proofs.TextLaws.{thousandths-are}
use Rattle.sf_distance.proofs.writing.push_distance.Goals as goal

pub returns : goal.returns
returns c =
    let small : c.root_in_thousandths.result < 2 ^ 64 = search rules in
    subst (λ (n : ℕ). OnOk c.push_thousandths.result (string_bytes c.push_thousandths.new.text ≡ string_bytes c.args.text.now ++ thousandths_text n))
    (thousandths-are c.args.square.now c.root_in_thousandths.result small c.root_in_thousandths.ensures) c.push_thousandths.ensures
