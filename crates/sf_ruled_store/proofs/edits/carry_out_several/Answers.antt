use Rattle.std.proofs.Common.{◌≡◌, None, sym, subst}
use Rattle.sf_patches.specs.Halves.{after_halves}
use Rattle.sf_ruled_store.specs.Changes.{OfGroup}
use Rattle.sf_ruled_store.specs.declared.changes.undo.Undo.TheVariants as changes
use Rattle.sf_rules.specs.Exchanging.{IsRefusedUnder}
use Rattle.sf_rules.specs.Rules.{first_broken}
use Rattle.sf_ruled_store.specs.declared.undo.Undo.TheVariants as undos
use Rattle.sf_ruled_store.specs.Outcomes.{IsRefusedAs, ruled}
use Rattle.sf_ruled_store.specs.Ruled.{OfChange, ruled_step}
use Rattle.sf_ruled_store.specs.Undos.{IsGrouped}
use Rattle.sf_ruled_store.proofs.CallLaws.{group-grouped, rules-refused}
use Rattle.sf_ruled_store.proofs.edits.carry_out_several.Goals as goal

pub returns-in-Ok-exchange_under-clause-accepted : goal.returns-in-Ok-exchange_under-clause-accepted
returns-in-Ok-exchange_under-clause-accepted c =
    let old = c.args.store.now in
    let rules = c.args.rules.now in
    let plan = c.in-Ok.ensures.planned in
    let halves = c.in-Ok.field-0.halves in
    let new = c.exchange_under.new.store in
    let ids = c.in-Ok.field-0.ids.items in
    let led = c.in-Ok-exchange_under.ensures.exchanged in
    let held : first_broken (after_halves old halves) rules ≡ None =
    subst (λ content. first_broken content rules ≡ None) led (subst (λ rs. first_broken new rs ≡ None) c.as_slice.ensures c.in-Ok-exchange_under.ensures.hold) in
    subst (λ content. IsGrouped (ruled old rules) c.args.group ids (undos.Change (changes.Group c.exchange_under.new.halves)) (ruled content rules)) (sym led)
    (subst (λ back. IsGrouped (ruled old rules) c.args.group ids (undos.Change (changes.Group back)) (ruled (after_halves old halves) rules)) (sym c.in-Ok-exchange_under.ensures.back)
    (group-grouped old rules c.args.group halves ids plan c.requires held))

pub returns-in-Err-exchange_under-clause-refused : goal.returns-in-Err-exchange_under-clause-refused
returns-in-Err-exchange_under-clause-refused c =
    let old = c.args.store.now in
    let rules = c.args.rules.now in
    let refusal = c.in-Err-exchange_under.refusal in
    let why : IsRefusedUnder (after_halves old c.in-Ok.field-0.halves) rules refusal =
    subst (λ rs. IsRefusedUnder (after_halves old c.in-Ok.field-0.halves) rs refusal) c.as_slice.ensures c.in-Err-exchange_under.ensures.refused in
    subst (λ given. IsRefusedAs (ruled_step (ruled old rules) (OfChange (OfGroup c.args.group))) given) (sym c.by_rules.ensures)
    (rules-refused old rules c.args.group c.in-Ok.field-0.halves c.in-Ok.field-0.ids.items refusal c.in-Ok.ensures.planned c.requires why)
