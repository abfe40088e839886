use Rattle.std.proofs.Common.{◌≡◌, ◌∙◌, [], length, sym, subst, arith}
use Rattle.std.specs.Io.KnownBytes.{Consumes}
use Rattle.std.proofs.lemmas.Grind.{common_steps}
use Rattle.std.proofs.lemmas.List.{nil_from_length}
use Rattle.std.proofs.KnownBytes.{Keeps-refl}
use Rattle.sf_layers.proofs.Outcomes.{OnOk-map}
use Rattle.sf_console.specs.Requests.{Closed, left_in}
use Rattle.sf_console.proofs.Progress.{Progress-fault, Progress-step, Progress-end, Progress-break, Progress-break_at_end, OnErr-at}
use Rattle.sf_console.proofs.serving.serve.Goals as goal

pub returns-in_err-fill-clause-read : goal.returns-in_err-fill-clause-read
returns-in_err-fill-clause-read g c = λ _. Progress-fault _ _ _ _ _ _ _ _ _ c.loop.invariant.0 c.in_err-fill.ensures.kept

pub returns-clause-read : goal.returns-clause-read
returns-clause-read g c = λ _. Progress-fault _ _ _ _ _ _ _ _ _ c.loop.invariant.0 (Keeps-refl _)

pub returns-then-is_empty-clause-ok : goal.returns-then-is_empty-clause-ok
returns-then-is_empty-clause-ok g c =
    let p = c.loop.invariant.0 in
    let len : length c.as_bytes-bytes.result.now ≡ 0 = grind (arith, common_steps) in
    let none : c.fill.new.self ≡ [] = sym c.as_bytes-bytes.ensures.bytes ∙ nil_from_length c.as_bytes-bytes.result.now len in
    let nothing : Consumes (g.R.Read.remaining c.loop.reader) (g.R.Read.remaining c.fill.new.reader) [] =
    subst (Consumes (g.R.Read.remaining c.loop.reader) (g.R.Read.remaining c.fill.new.reader)) none c.in_ok-fill.ensures.consumed in
    OnOk-map c.finish.result (λ f. Progress-end _ _ _ _ _ _ _ _ _ _ _ p nothing (c.in_ok-fill.ensures.end none) (f p.after (left_in Closed p.finished) p.is_buffer p.unfed p.is_held)) c.finish.ensures.ok

pub returns-then-is_empty-clause-write : goal.returns-then-is_empty-clause-write
returns-then-is_empty-clause-write g c =
    let p = c.loop.invariant.0 in
    let len : length c.as_bytes-bytes.result.now ≡ 0 = grind (arith, common_steps) in
    let none : c.fill.new.self ≡ [] = sym c.as_bytes-bytes.ensures.bytes ∙ nil_from_length c.as_bytes-bytes.result.now len in
    let nothing : Consumes (g.R.Read.remaining c.loop.reader) (g.R.Read.remaining c.fill.new.reader) [] =
    subst (Consumes (g.R.Read.remaining c.loop.reader) (g.R.Read.remaining c.fill.new.reader)) none c.in_ok-fill.ensures.consumed in
    λ broken. Progress-break_at_end _ _ _ _ _ _ _ _ _ _ _ p nothing (c.in_ok-fill.ensures.end none) (OnErr-at c.finish.result _ broken c.finish.ensures.broken p.after (left_in Closed p.finished) p.is_buffer p.unfed p.is_held)

pub returns-in_err-take_chunk-clause-write : goal.returns-in_err-take_chunk-clause-write
returns-in_err-take_chunk-clause-write g c =
    let p = c.loop.invariant.0 in
    let consumed : Consumes (g.R.Read.remaining c.loop.reader) (g.R.Read.remaining c.fill.new.reader) c.as_bytes-bytes.result.now =
    subst (Consumes (g.R.Read.remaining c.loop.reader) (g.R.Read.remaining c.fill.new.reader)) (sym c.as_bytes-bytes.ensures.bytes) c.in_ok-fill.ensures.consumed in
    λ _. Progress-break _ _ _ _ _ _ _ _ _ _ _ _ p consumed (c.in_err-take_chunk.ensures.broken p.after (left_in Closed p.finished) p.is_buffer p.unfed p.is_held)

pub loop-preserved : goal.loop-preserved
loop-preserved g c =
    let p = c.loop.invariant.0 in
    let consumed : Consumes (g.R.Read.remaining c.loop.reader) (g.R.Read.remaining c.fill.new.reader) c.as_bytes-bytes.result.now =
    subst (Consumes (g.R.Read.remaining c.loop.reader) (g.R.Read.remaining c.fill.new.reader)) (sym c.as_bytes-bytes.ensures.bytes) c.in_ok-fill.ensures.consumed in (
      Progress-step _ _ _ _ _ _ _ _ _ _ _ _ _ _ p consumed (c.in_ok-take_chunk.ensures.ok p.after (left_in Closed p.finished) p.is_buffer p.unfed p.is_held),
      λ left. c.in_ok-take_chunk.ensures.sent (c.loop.invariant.1 left),
    )

pub returns-then-is_empty-clause-sent : goal.returns-then-is_empty-clause-sent
returns-then-is_empty-clause-sent g c = OnOk-map c.finish.result (λ sent left. sent (c.loop.invariant.1 left)) c.finish.ensures.sent
