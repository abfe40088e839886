use Rattle.std.proofs.Common.{rules, ◌≡◌, ◌∙◌, length, reverse, ap}
use Rattle.sf_patches.proofs.ExchangeLaws.{written_back}
use Rattle.sf_patches.proofs.exchanging.exchange_all.Goals as goal

pub returns-then-exchange_in_place-clause-back : goal.returns-then-exchange_in_place-clause-back
returns-then-exchange_in_place-clause-back c =
    let long : c.exchange_in_place.new.slots.len ≡ length c.reverse.new.self = search rules in
    written_back c.exchange_in_place.new.slots.len c.reverse.new.self _ long ∙ c.reverse.ensures.after ∙ ap reverse (c.as_mut_slice.ensures.value ∙ c.exchange_in_place.ensures.back c.if-exchange_in_place.true)
