use Rattle.std.proofs.Common.{◌≡◌, ◌++◌, ℕ, false, List, [], ◌∷◌, length, arith, refl, subst, sym, ◌∙◌}
use Rattle.std.specs.Prelude.{nat_le}
use Rattle.std.proofs.KnownBytes.{Consumes-trans}
use Rattle.std.proofs.lemmas.Bool.{leb-false, leb-true}
use Rattle.std.proofs.lemmas.Result.{err_from_is_err_and}
use Rattle.sf_wkb.specs.declared.grid.Grid.{Grid}
use Rattle.sf_wkb.specs.Grammar.{read_in}
use Rattle.sf_layers.specs.Content.{Content}
use Rattle.sf_streams.specs.Streams.{Goes, Left, nothing_ahead}
use Rattle.sf_format.specs.Readings.{done}
use Rattle.sf_loading.specs.Streaming.{Ends, Takes}
use Rattle.sf_format.specs.Format.{file, grid_of, head, layers, rules_in}
use Rattle.sf_format.proofs.Continuations.{file_after_head, file_after_layers, file_after_rules}
use Rattle.sf_loading.proofs.LoadLaws.{Finds-trailing, Loads-end}
use Rattle.sf_loading.proofs.StreamLaws.{Ends-first, Ends-step, Finds-after, Goes-step, Goes-then}
use Rattle.sf_loading.proofs.loading.file.Goals as goal

nothing : (bytes : List ℕ) → nat_le 1 (length bytes) ≡ false → bytes ≡ []
nothing [] h = refl
nothing (b ∷ bytes) h = let few = leb-false 1 (length (b ∷ bytes)) h in absurd (omega (arith, few))

pub returns-in_err-version-clause-ended : goal.returns-in_err-version-clause-ended
returns-in_err-version-clause-ended g c =
    let p = err_from_is_err_and c.from_residual.result c.from_residual.ensures.1 in
    rw (p.1, p.2) (Ends-first head file_after_head c.in_err-version.field-0.0 _ _ _
    (subst (λ (w : Left). Ends head (g.R.Read.remaining c.args.reader.now) (g.R.Read.remaining c.head.new.reader) w c.in_err-version.field-0.0) c.requires c.in_err-version.ensures))

pub returns-in_err-store-clause-ended : goal.returns-in_err-store-clause-ended
returns-in_err-store-clause-ended g c =
    let p = err_from_is_err_and c.from_residual-in_err-store.result c.from_residual-in_err-store.ensures.1 in
    let version = c.in_ok-version.version in
    let one = subst (λ (w : Left). Goes file (file_after_head version) (g.R.Read.remaining c.args.reader.now) (g.R.Read.remaining c.head.new.reader) w c.head.new.window) c.requires
    (Goes-then head file_after_head version _ _ _ _ c.in_ok-version.ensures) in
    let halt = c.in_err-store.field-0.0 in
    rw (p.1, p.2) (Ends-step file (layers (read_in (grid_of version))) (file_after_layers version) halt _ _ _ _ _ one
    (subst (λ (grid : Grid). Ends (layers (read_in grid)) (g.R.Read.remaining c.head.new.reader) (g.R.Read.remaining c.layers.new.reader) c.head.new.window halt) c.grid_of.ensures c.in_err-store.ensures))

pub returns-in_err-ruled-clause-ended : goal.returns-in_err-ruled-clause-ended
returns-in_err-ruled-clause-ended g c =
    let p = err_from_is_err_and c.from_residual-in_err-ruled.result c.from_residual-in_err-ruled.ensures.1 in
    let version = c.in_ok-version.version in
    let one = subst (λ (w : Left). Goes file (file_after_head version) (g.R.Read.remaining c.args.reader.now) (g.R.Read.remaining c.head.new.reader) w c.head.new.window) c.requires
    (Goes-then head file_after_head version _ _ _ _ c.in_ok-version.ensures) in
    let store = c.in_ok-store.store in
    let two = Goes-step file (layers (read_in (grid_of version))) (file_after_layers version) store _ _ _ _ _ _ one
    (subst (λ (grid : Grid). Takes (layers (read_in grid)) store (g.R.Read.remaining c.head.new.reader) (g.R.Read.remaining c.layers.new.reader) c.head.new.window c.layers.new.window) c.grid_of.ensures c.in_ok-store.ensures) in
    rw (p.1, p.2) (Ends-step file (rules_in version store) (file_after_rules store) c.in_err-ruled.field-0.0 _ _ _ _ _ two c.in_err-ruled.ensures.gives)

pub returns-in_err-need-clause-ended : goal.returns-in_err-need-clause-ended
returns-in_err-need-clause-ended g c =
    let p = err_from_is_err_and c.from_residual-in_err-need.result c.from_residual-in_err-need.ensures.1 in
    let version = c.in_ok-version.version in
    let one = subst (λ (w : Left). Goes file (file_after_head version) (g.R.Read.remaining c.args.reader.now) (g.R.Read.remaining c.head.new.reader) w c.head.new.window) c.requires
    (Goes-then head file_after_head version _ _ _ _ c.in_ok-version.ensures) in
    let store = c.in_ok-store.store in
    let two = Goes-step file (layers (read_in (grid_of version))) (file_after_layers version) store _ _ _ _ _ _ one
    (subst (λ (grid : Grid). Takes (layers (read_in grid)) store (g.R.Read.remaining c.head.new.reader) (g.R.Read.remaining c.layers.new.reader) c.head.new.window c.layers.new.window) c.grid_of.ensures c.in_ok-store.ensures) in
    let ruled = c.in_ok-ruled.ruled in
    let kept = subst (λ (content : Content). Goes file (file_after_rules content ruled.rules) (g.R.Read.remaining c.args.reader.now) (g.R.Read.remaining c.ruled.new.reader) nothing_ahead c.ruled.new.window) (sym c.in_ok-ruled.ensures.content)
    (Goes-step file (rules_in version store) (file_after_rules store) ruled.rules _ _ _ _ _ _ two c.in_ok-ruled.ensures.gives) in
    let ahead = c.in_err-need.ensures.ahead in
    rw (p.1, p.2) (kept.got ++ ahead.got, Consumes-trans _ _ _ _ _ kept.consumed ahead.consumed)

pub returns-then-branch-clause-ended : goal.returns-then-branch-clause-ended
returns-then-branch-clause-ended g c =
    let version = c.in_ok-version.version in
    let one = subst (λ (w : Left). Goes file (file_after_head version) (g.R.Read.remaining c.args.reader.now) (g.R.Read.remaining c.head.new.reader) w c.head.new.window) c.requires
    (Goes-then head file_after_head version _ _ _ _ c.in_ok-version.ensures) in
    let store = c.in_ok-store.store in
    let two = Goes-step file (layers (read_in (grid_of version))) (file_after_layers version) store _ _ _ _ _ _ one
    (subst (λ (grid : Grid). Takes (layers (read_in grid)) store (g.R.Read.remaining c.head.new.reader) (g.R.Read.remaining c.layers.new.reader) c.head.new.window c.layers.new.window) c.grid_of.ensures c.in_ok-store.ensures) in
    let ruled = c.in_ok-ruled.ruled in
    let kept = subst (λ (content : Content). Goes file (file_after_rules content ruled.rules) (g.R.Read.remaining c.args.reader.now) (g.R.Read.remaining c.ruled.new.reader) nothing_ahead c.ruled.new.window) (sym c.in_ok-ruled.ensures.content)
    (Goes-step file (rules_in version store) (file_after_rules store) ruled.rules _ _ _ _ _ _ two c.in_ok-ruled.ensures.gives) in
    let some = leb-true 1 (length c.need.new.self.bytes) (sym c.in_ok-need.ensures.enough ∙ c.if-branch.true) in
    Finds-after file (file_after_rules ruled.content ruled.rules) _ _ _ _ _ _ kept
    (Finds-trailing (λ ended. done ruled) c.place.result _ _ c.ruled.new.window c.need.new.self c.in_ok-need.ensures.ahead some c.place.ensures)

pub returns-clause-ok : goal.returns-clause-ok
returns-clause-ok g c =
    let version = c.in_ok-version.version in
    let one = subst (λ (w : Left). Goes file (file_after_head version) (g.R.Read.remaining c.args.reader.now) (g.R.Read.remaining c.head.new.reader) w c.head.new.window) c.requires
    (Goes-then head file_after_head version _ _ _ _ c.in_ok-version.ensures) in
    let store = c.in_ok-store.store in
    let two = Goes-step file (layers (read_in (grid_of version))) (file_after_layers version) store _ _ _ _ _ _ one
    (subst (λ (grid : Grid). Takes (layers (read_in grid)) store (g.R.Read.remaining c.head.new.reader) (g.R.Read.remaining c.layers.new.reader) c.head.new.window c.layers.new.window) c.grid_of.ensures c.in_ok-store.ensures) in
    let ruled = c.in_ok-ruled.ruled in
    let kept = subst (λ (content : Content). Goes file (file_after_rules content ruled.rules) (g.R.Read.remaining c.args.reader.now) (g.R.Read.remaining c.ruled.new.reader) nothing_ahead c.ruled.new.window) (sym c.in_ok-ruled.ensures.content)
    (Goes-step file (rules_in version store) (file_after_rules store) ruled.rules _ _ _ _ _ _ two c.in_ok-ruled.ensures.gives) in
    Loads-end ruled _ _ _ c.ruled.new.window c.need.new.self kept c.in_ok-need.ensures.ahead (c.in_ok-need.ensures.end c.if-branch.false)
    (nothing c.need.new.self.bytes (sym c.in_ok-need.ensures.enough ∙ c.if-branch.false))
