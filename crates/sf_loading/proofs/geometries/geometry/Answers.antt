use Rattle.std.proofs.Common.{ℕ, List, ◌∙◌, ap, subst, take}
use Rattle.std.specs.Prelude.{nat_le}
use Rattle.std.proofs.lemmas.Result.{err_from_is_err_and}
use Rattle.sf_streams.specs.Streams.{Left}
use Rattle.sf_wkb.specs.Grammar.{OrMemory, read_in}
use Rattle.sf_format.specs.declared.defect.Defect.TheVariants.{TooManyVertices}
use Rattle.sf_format.specs.Readings.{bytes, done, field, number}
use Rattle.sf_format.specs.Format.{admitted, allowed, geometry, row_max}
use Rattle.sf_format.proofs.Continuations.{geometry_after_size}
use Rattle.sf_loading.proofs.StreamLaws.{Ends-after, Ends-field, Gives-judged, Goes-then, Reaches-after, Takes-skipped}
use Rattle.sf_loading.proofs.geometries.geometry.Goals as goal

pub returns-in_err-require-clause-gives : goal.returns-in_err-require-clause-gives
returns-in_err-require-clause-gives g c =
    let p = err_from_is_err_and c.from_residual-in_err-require.result c.from_residual-in_err-require.ensures.1 in
    let size = c.in_ok-size.field-0 in
    rw (p.1, p.2) (Ends-after (geometry (read_in c.args.grid) c.args.kind) (geometry_after_size (read_in c.args.grid) c.args.kind size) c.in_err-require.field-0.0 _ _ _ _ _
    (Goes-then (field (number 4) (λ (size : ℕ). allowed (nat_le size row_max) TooManyVertices size)) (geometry_after_size (read_in c.args.grid) c.args.kind) size _ _ _ _ c.in_ok-size.ensures.gives)
    (Ends-field (bytes size) (λ (text : List ℕ). admitted c.args.kind (read_in c.args.grid text)) c.in_err-require.field-0.0 _ _ _ c.in_err-require.ensures.cut))

pub returns-clause-gives : goal.returns-clause-gives
returns-clause-gives g c =
    let size = c.in_ok-size.field-0 in
    let text = take size c.require.new.window.bytes in
    let ahead = c.in_ok-require.ensures.ahead in
    Reaches-after (geometry (read_in c.args.grid) c.args.kind) (geometry_after_size (read_in c.args.grid) c.args.kind size) (λ v. done v) c.admitted.result _ _ _ _ _ _
    (Goes-then (field (number 4) (λ (size : ℕ). allowed (nat_le size row_max) TooManyVertices size)) (geometry_after_size (read_in c.args.grid) c.args.kind) size _ _ _ _ c.in_ok-size.ensures.gives)
    (Gives-judged (λ v. v) (bytes size) (λ (text : List ℕ). admitted c.args.kind (read_in c.args.grid text)) text c.place-place.result c.admitted.result _ _ _ c.skip.new.self
    (c.place-place.ensures ∙ ap (λ (s : Left). s.place) ahead.ahead)
    (Takes-skipped size _ _ _ c.require.new.window c.skip.new.self ahead c.in_ok-require.ensures.enough c.skip.ensures)
    (c.admitted.ensures.judged (read_in c.args.grid text) (subst (λ (t : List ℕ). OrMemory (read_in c.args.grid t) c.read_in-read.result) c.front.ensures c.read_in-read.ensures.exact)))
