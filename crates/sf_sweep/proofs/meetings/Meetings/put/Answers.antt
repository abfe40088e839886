use Rattle.std.proofs.Common.{◌≡◌, ap, sym, subst, ◌∙◌, arith, rules, ℕ, ◌+◌, ◌≤◌, ◌<◌, length}
use Rattle.std.specs.Prelude.{slice_set}
use Rattle.std.proofs.lemmas.List.{with_items_is}
use Rattle.sf_sweep.specs.Nearest.{AreKept, IsPointIn, IsTree, place_at}
use Rattle.sf_sweep.specs.Tables.{ahead_of}
use Rattle.sf_sweep.proofs.KeptLaws.{kept-written}
use Rattle.sf_sweep.proofs.meetings.Meetings.put.Goals as goal

pub invariant_of-self-then-is_some : goal.invariant_of-self-then-is_some
invariant_of-self-then-is_some c =
    let contacts = c.self.inside.contacts.items in
    let tree = c.self.inside.tree.items in
    let piece = c.args.piece in
    let point = c.ahead-point.result in
    let count : c.len-count.result ≡ length contacts = search rules in
    let within : piece < length contacts = subst (λ cs. piece < length cs) (sym c.self.view_is) c.requires in
    let leaves : (k : ℕ) → length contacts ≤ k → place_at c.set.new.tree k ≡ place_at (slice_set tree (length contacts + piece) (ahead_of c.args.contact)) k =
    λ k last. c.set.ensures.leaves k (omega (arith, count, last))
    ∙ ap (λ t. place_at (slice_set t (c.len-count.result + piece) point) k) c.deref_mut.ensures.value
    ∙ ap (λ n. place_at (slice_set tree (n + piece) point) k) count
    ∙ ap (λ o. place_at (slice_set tree (length contacts + piece) o) k) c.ahead-point.ensures.value in
    let back = with_items_is c.self.inside.tree c.set.new.tree (c.set.auto.tree ∙ c.deref_mut.ensures.len) in
    subst (AreKept (slice_set contacts piece c.args.contact)) (sym back)
    (kept-written contacts tree c.set.new.tree piece c.args.contact c.self.invariant (subst IsPointIn c.ahead-point.ensures.value c.ahead-point.ensures.point) within
    (subst (λ n. IsTree n c.set.new.tree) count c.set.ensures.tree) (c.set.ensures.len ∙ ap length c.deref_mut.ensures.value) leaves)
