use Rattle.std.proofs.Common.{◌≡◌, ap, ◌∙◌, arith, ◌≤◌, length, ◌⊎◌, ℕ, [], ◌∷◌, ◌++◌, drop}
use Rattle.std.specs.Prelude.{min}
use Rattle.std.proofs.lemmas.List.{length-append, length-set}
use Rattle.std.proofs.lemmas.Slice.Zip.{zip_end, zip_turn}
use Rattle.sf_sweep.specs.Settled.{joined}
use Rattle.sf_sweep.proofs.SettleLaws.{joined-end, joined-step}
use Rattle.sf_sweep.proofs.settle.join.Goals as goal

pub put-requires : goal.put-requires
put-requires c =
    let turn = zip_turn c.args.edges.now c.args.contacts.now c.loop-edge.yielded c.into_iter-edge-iterator.result c.loop-edge.edge-iterator c.next.new.self c.next.result
    (cc) (cc) c.loop-edge.yielded_by (c.in-Some.edge, c.in-Some.contact) c.in-Some.is c.next.ensures.steps in
    let edge = turn.2 c.in-Some.edge.now in
    let below = c.requires (length c.loop-edge.yielded) c.in-Some.edge.now turn.0 in
    let same = ap (λ a. a.piece) edge in
    omega (arith, below, same, c.loop-edge.invariant.len)

pub loop-edge-preserved : goal.loop-edge-preserved
loop-edge-preserved c =
    let l = c.loop-edge in
    let edges = c.args.edges.now in
    let contacts = c.args.contacts.now in
    let turn = zip_turn edges contacts l.yielded c.into_iter-edge-iterator.result l.edge-iterator c.next.new.self c.next.result
    (cc) (cc) l.yielded_by (c.in-Some.edge, c.in-Some.contact) c.in-Some.is c.next.ensures.steps in
    let n = length (l.yielded ++ (c.in-Some.edge, c.in-Some.contact) ∷ []) in
    record {
      table = ap (λ table. joined table (drop n edges) (drop n contacts)) c.put.ensures
          ∙ joined-step l.meetings edges contacts (length l.yielded) n c.in-Some.edge.now c.in-Some.contact.now (joined c.args.meetings.now edges contacts) turn.0 turn.1
          (turn.2 c.in-Some.edge.now) (turn.3 c.in-Some.contact.now) (length-append l.yielded ((c.in-Some.edge, c.in-Some.contact) ∷ [])) l.invariant.table;
      len = ap length c.put.ensures ∙ length-set l.meetings c.in-Some.edge.now.piece c.in-Some.contact.now ∙ l.invariant.len;
    }

pub returns-clause-table : goal.returns-clause-table
returns-clause-table c =
    let l = c.loop-edge in
    let edges = c.args.edges.now in
    let contacts = c.args.contacts.now in
    let end = zip_end edges contacts l.yielded c.into_iter-edge-iterator.result l.edge-iterator c.next.new.self c.next.result
    (cc) (cc) l.yielded_by c.in-None.is c.next.ensures.steps in
    joined-end l.meetings edges contacts (length l.yielded) (joined c.args.meetings.now edges contacts) (either (length edges) (length contacts) (length l.yielded) end) l.invariant.table
  where
    either : (a b n : ℕ) → n ≡ min a b → (a ≤ n) ⊎ (b ≤ n)
    either a b n e = grind (arith)
