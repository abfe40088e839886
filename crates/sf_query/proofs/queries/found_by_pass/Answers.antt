use Rattle.std.proofs.Common.{◌≡◌, ◌∙◌, ◌&&◌, ◌∷◌, ap, not, refl, ℕ, true, arith}
use Rattle.sf_geometry.specs.declared.geometry.Geometry.{Geometry}
use Rattle.sf_geometry.specs.Envelope.{envelope_of, extents_meet}
use Rattle.std.proofs.lemmas.Map.Iter.{rest_all, rest_more}
use Rattle.std.specs.Map.Iter.{deref_pair}
use Rattle.sf_features.specs.Features.{FeatureContent}
use Rattle.sf_query.specs.Answers.{is_asked, is_near}
use Rattle.sf_query.proofs.FilterLaws.{IsPassing-end, IsPassing-found, IsPassing-other, IsPassing-room}
use Rattle.sf_query.proofs.QueryLaws.{asked-passes, looked-on, pass-answers, passes}
use Rattle.sf_query.proofs.queries.found_by_pass.Goals as goal
use Rattle.sf_query.proofs.queries.found_by_pass.Goals.{Else-passes_over, In-Some}

-- the features that were left are this one and those that are left then
turn : (c : In-Some) → c.loop-id.id-iterator ≡ (c.in-Some.id.now, c.in-Some.feature.now) ∷ c.next.new.self
turn c = rest_more (deref_pair {K = ℕ} {X = FeatureContent}) _ _ _ (c.in-Some.id, c.in-Some.feature) c.in-Some.is c.next.ensures.steps

-- one that isn't passed over is near where only near ones can answer
on : (c : Else-passes_over) → c.needs_contact-needs_contact.result ≡ true → is_near c.args.given.now (c.in-Some.id.now, c.in-Some.feature.now) ≡ true
on c must =
    let needs = c.needs_contact-needs_contact.result in
    looked-on c.passes_over.result needs c.valid-valid.result.now c.args.given.now c.args.given.now (envelope_of c.args.given.now) (c.in-Some.id.now, c.in-Some.feature.now)
    (c.passes_over.ensures ∙ ap (λ (g : Geometry). needs && not (extents_meet (envelope_of c.valid-valid.result.now) (envelope_of g))) (c.prepared_for-given.ensures ∙ c.new.ensures.same))
    c.valid-valid.ensures.same refl refl c.if-passes_over.false must

pub overflow_add-looked : goal.overflow_add-looked
overflow_add-looked c =
    omega (
      arith,
      c.has_few_features.ensures,
      IsPassing-room (passes c.args.ask.now c.args.given.now) (is_near c.args.given.now) c.needs_contact-needs_contact.result c.args.layer.now.features c.loop-id.id-iterator c.next.new.self (c.in-Some.id.now, c.in-Some.feature.now) c.loop-id.ids.items c.loop-id.looked
          (turn (goal.at.overflow_add-looked c).In-Some) (on c) c.loop-id.invariant,
    )

pub loop-id-preserved-in-Continue-branch-2 : goal.loop-id-preserved-in-Continue-branch-2
loop-id-preserved-in-Continue-branch-2 c =
    let at = goal.at.loop-id-preserved-in-Continue-branch-2 c in
    IsPassing-found (passes c.args.ask.now c.args.given.now) (is_near c.args.given.now) c.needs_contact-needs_contact.result c.args.layer.now.features c.loop-id.id-iterator c.next.new.self (c.in-Some.id.now, c.in-Some.feature.now) c.loop-id.ids.items c.push.new.self.items c.loop-id.looked
    (turn at.In-Some) (on at.Else-passes_over)
    (asked-passes c.args.ask.now c.valid-valid.result.now c.args.given.now (c.in-Some.id.now, c.in-Some.feature.now) c.in_ok-is_asked_beside.field-0 _ (c.in_ok-is_asked_beside.ensures ∙ ap (λ (g : Geometry). is_asked c.args.ask.now c.valid-valid.result.now g) (c.prepared_for-given.ensures ∙ c.new.ensures.same)) c.valid-valid.ensures.same c.if-branch.true)
    c.in_ok-push.ensures.items c.loop-id.invariant

pub loop-id-preserved : goal.loop-id-preserved
loop-id-preserved c =
    let at = goal.at.loop-id-preserved c in
    IsPassing-other (passes c.args.ask.now c.args.given.now) (is_near c.args.given.now) c.needs_contact-needs_contact.result c.args.layer.now.features c.loop-id.id-iterator c.next.new.self (c.in-Some.id.now, c.in-Some.feature.now) c.loop-id.ids.items c.loop-id.looked
    (turn at.In-Some) (on at.Else-passes_over)
    (asked-passes c.args.ask.now c.valid-valid.result.now c.args.given.now (c.in-Some.id.now, c.in-Some.feature.now) c.in_ok-is_asked_beside.field-0 _ (c.in_ok-is_asked_beside.ensures ∙ ap (λ (g : Geometry). is_asked c.args.ask.now c.valid-valid.result.now g) (c.prepared_for-given.ensures ∙ c.new.ensures.same)) c.valid-valid.ensures.same c.if-branch.false)
    c.loop-id.invariant

pub returns : goal.returns
returns c =
    let none = rest_all (deref_pair {K = ℕ} {X = FeatureContent}) _ _ _ c.in-None.is c.next.ensures.steps in
    let whole = IsPassing-end (passes c.args.ask.now c.args.given.now) (is_near c.args.given.now) c.needs_contact-needs_contact.result c.args.layer.now.features c.loop-id.id-iterator c.loop-id.ids.items c.loop-id.looked none c.loop-id.invariant in
    pass-answers c.args.layer.now c.args.ask.now c.args.given.now c.needs_contact-needs_contact.result (record { ids = c.loop-id.ids; looked = c.loop-id.looked })
    c.requires.layer c.new.ensures.valid c.needs_contact-needs_contact.ensures whole.0 whole.1
