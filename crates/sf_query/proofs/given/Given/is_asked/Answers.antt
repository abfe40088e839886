use Rattle.std.proofs.Common.{◌∙◌, ap, subst, sym}
use Rattle.sf_geometry.specs.declared.geometry.Geometry.{Geometry}
use Rattle.sf_known.specs.declared.known.Known.{Known}
use Rattle.sf_known.specs.Known.{Holds}
use Rattle.sf_known.proofs.KnownLaws.{answers_are_true}
use Rattle.sf_relate.specs.Matrices.{matrix_of}
use Rattle.sf_relate.proofs.FoundLaws.{nothing-holds}
use Rattle.sf_relate.proofs.ResultLaws.{answered}
use Rattle.sf_query.specs.Answers.{is_answered, is_asked}
use Rattle.sf_query.proofs.EvidenceLaws.{together}
use Rattle.sf_query.proofs.given.Given.is_asked.Goals as goal

pub loop-evidence-init : goal.loop-evidence-init
loop-evidence-init c =
    let a = c.args.geometry.now in
    let b = c.args.self.now in
    subst (λ (k : Known). Holds k (matrix_of a b)) (sym c.nothing-known.ensures) (nothing-holds a b)

pub returns-in-Some-answer : goal.returns-in-Some-answer
returns-in-Some-answer c =
    let a = c.args.geometry.now in
    let m = matrix_of a c.args.self.now in
    answers_are_true c.in-Some-shown.shown c.goal-goal.result m c.in-Some-answer.answer c.in-Some-shown.ensures (sym c.in-Some-answer.ensures)
    ∙ c.goal-goal.ensures m
    ∙ ap (λ (g : Geometry). is_answered c.args.ask.now a g m) c.self.view_is

pub returns-in-Some-answer-2 : goal.returns-in-Some-answer-2
returns-in-Some-answer-2 c =
    let a = c.args.geometry.now in
    let b = c.args.self.now in
    let m = matrix_of a b in
    let holds : Holds c.with_contact_placed-known.result m =
    together c.loop-evidence.known c.in-Some-shown.shown c.and.result c.with_contact_placed-known.result a b c.and.ensures c.with_contact_placed-known.ensures c.loop-evidence.invariant c.in-Some-shown.ensures in
    answers_are_true c.with_contact_placed-known.result c.goal-goal.result m c.in-Some-answer-2.answer holds (sym c.answer-in-loop-evidence.ensures ∙ c.in-Some-answer-2.is)
    ∙ c.goal-goal.ensures m
    ∙ ap (λ (g : Geometry). is_answered c.args.ask.now a g m) c.self.view_is

pub loop-evidence-preserved : goal.loop-evidence-preserved
loop-evidence-preserved c =
    together c.loop-evidence.known c.in-Some-shown.shown c.and.result c.with_contact_placed-known.result c.args.geometry.now c.args.self.now c.and.ensures c.with_contact_placed-known.ensures c.loop-evidence.invariant
    c.in-Some-shown.ensures

pub loop-evidence-preserved-then-is_first : goal.loop-evidence-preserved-then-is_first
loop-evidence-preserved-then-is_first c =
    together c.loop-evidence.known c.in-Some-shown.shown c.and.result c.with_contact_placed-known.result c.args.geometry.now c.args.self.now c.and.ensures c.with_contact_placed-known.ensures c.loop-evidence.invariant
    c.in-Some-shown.ensures

pub meets_from-requires : goal.meets_from-requires
meets_from-requires c =
    subst (λ (g : Geometry). Holds c.known_prepared-known.result (matrix_of c.args.geometry.now g)) (sym c.self.view_is) c.known_prepared-known.ensures

pub returns : goal.returns
returns c =
    let a = c.args.geometry.now in
    answered c.meets_from.result (λ answer is. is ∙ c.goal-goal.ensures (matrix_of a c.self.inside.valid.now) ∙ ap (λ (g : Geometry). is_asked c.args.ask.now a g) c.self.view_is) c.meets_from.ensures
