use Rattle.sf_patches.proofs.ExchangeLaws.{ok-then}
use Rattle.sf_patches.proofs.HalvesLaws.{content-back, fits-back, fits-growing, fits-removing, grows-back, halves-back}
use Rattle.sf_rules.proofs.exchanging.exchange_looked_at.Goals as goal

pub exchange-requires : goal.exchange-requires
exchange-requires c = fits-growing c.args.store.now c.args.halves.now c.requires.fits

pub exchange-requires-2 : goal.exchange-requires-2
exchange-requires-2 c = fits-removing c.args.store.now c.exchange.new.store c.args.halves.now c.requires.fits c.in_ok-exchange.ensures.exchanged

pub exchange-requires-in-Err : goal.exchange-requires-in-Err
exchange-requires-in-Err c =
    fits-back c.args.store.now c.exchange.new.store c.args.halves.now c.exchange.new.self c.requires.fits c.in_ok-exchange.ensures.exchanged c.in_ok-exchange.ensures.back

pub unwrap-requires : goal.unwrap-requires
unwrap-requires c =
    c.exchange-in-Err.ensures.always
    (grows-back c.args.store.now c.exchange.new.store c.args.halves.now c.exchange.new.self c.requires.fits c.in_ok-exchange.ensures.exchanged c.in_ok-exchange.ensures.back)

pub returns-in-Err-clause-unchanged : goal.returns-in-Err-clause-unchanged
returns-in-Err-clause-unchanged c =
    content-back c.args.store.now c.exchange.new.store c.exchange-in-Err.new.store c.args.halves.now c.exchange.new.self c.requires.fits c.in_ok-exchange.ensures.exchanged c.in_ok-exchange.ensures.back
    (ok-then c.exchange-in-Err.result (c.exchange-in-Err.ensures.always
    (grows-back c.args.store.now c.exchange.new.store c.args.halves.now c.exchange.new.self c.requires.fits c.in_ok-exchange.ensures.exchanged c.in_ok-exchange.ensures.back)) c.exchange-in-Err.ensures.exchanged)

pub returns-in-Err-clause-kept : goal.returns-in-Err-clause-kept
returns-in-Err-clause-kept c =
    halves-back c.args.store.now c.exchange.new.store c.args.halves.now c.exchange.new.self c.exchange-in-Err.new.self c.requires.fits c.in_ok-exchange.ensures.exchanged c.in_ok-exchange.ensures.back
    (ok-then c.exchange-in-Err.result (c.exchange-in-Err.ensures.always
    (grows-back c.args.store.now c.exchange.new.store c.args.halves.now c.exchange.new.self c.requires.fits c.in_ok-exchange.ensures.exchanged c.in_ok-exchange.ensures.back)) c.exchange-in-Err.ensures.back)
