use Rattle.std.proofs.Common.{◌≡◌, ◌++◌, ◌∙◌, ℕ, List, ap, arith, length}
use Rattle.byteorder.specs.Endian.{big_bytes}
use Rattle.sf_wkb.specs.Grammar.{canonical as canonical_wkb}
use Rattle.sf_wkb.proofs.Lengths.{canonical_bytes_are_few}
use Rattle.sf_format.specs.Canonical.{behind_length}
use Rattle.sf_streams.proofs.Putting.{Putting, Putting-last, Putting-more, Putting-start, breaks, breaks-last}
use Rattle.sf_saving.proofs.features.put_geometry.Goals as goal
use Rattle.sf_saving.proofs.features.put_geometry.Goals.{After-as_slice-bytes, In_ok-put_u32}

-- the row is the canonical form, as it was cleared before
row-is : (g : _) (c : After-as_slice-bytes g) → c.as_slice-bytes.result.now ≡ canonical_wkb c.args.geometry.now
row-is g c = c.as_slice-bytes.ensures.value ∙ c.in_ok-append.ensures.appended ∙ ap (λ (t : List ℕ). t ++ canonical_wkb c.args.geometry.now) c.clear.ensures.items

with_length : (g : _) (c : In_ok-put_u32 g) → c.as_slice-bytes.result.now ≡ canonical_wkb c.args.geometry.now
    → Putting (g.W.Write.contents c.args.writer.now) (g.W.Write.contents c.put_u32.new.writer) c.args.output.now c.put_u32.new.self (behind_length 4 (canonical_wkb c.args.geometry.now)) (canonical_wkb c.args.geometry.now)
with_length g c same =
    let row = canonical_wkb c.args.geometry.now in
    Putting-more (big_bytes 4 (length row)) row (ap (λ (t : List ℕ). big_bytes 4 (length t)) same) (Putting-start (g.W.Write.contents c.args.writer.now) c.args.output.now (behind_length 4 row)) c.in_ok-put_u32.ensures.ok

pub overflow_cast-bytes : goal.overflow_cast-bytes
overflow_cast-bytes g c =
    let few = canonical_bytes_are_few c.args.geometry.now c.requires in
    record { fits = omega (arith, few, ap length (row-is g (goal.at.overflow_cast-bytes g c).After-as_slice-bytes)) }

pub returns-in_err-put_u32-clause-broken : goal.returns-in_err-put_u32-clause-broken
returns-in_err-put_u32-clause-broken g c =
    let same = row-is g (goal.at.returns-in_err-put_u32-clause-broken g c).After-as_slice-bytes in
    let row = canonical_wkb c.args.geometry.now in
    breaks c.from_residual-in_err-put_u32.result (big_bytes 4 (length row)) row (ap (λ (t : List ℕ). big_bytes 4 (length t)) same)
    (Putting-start (g.W.Write.contents c.args.writer.now) c.args.output.now (behind_length 4 row)) c.in_err-put_u32.ensures.broken

pub returns-in_err-put-clause-broken : goal.returns-in_err-put-clause-broken
returns-in_err-put-clause-broken g c =
    let at = goal.at.returns-in_err-put-clause-broken g c in
    let same = row-is g at.After-as_slice-bytes in
    breaks-last c.from_residual-in_err-put.result (canonical_wkb c.args.geometry.now) same (with_length g at.In_ok-put_u32 same) c.in_err-put.ensures.broken

pub returns-clause-ok : goal.returns-clause-ok
returns-clause-ok g c =
    let at = goal.at.returns-clause-ok g c in
    let same = row-is g at.After-as_slice-bytes in
    Putting-last (canonical_wkb c.args.geometry.now) same (with_length g at.In_ok-put_u32 same) c.in_ok-put.ensures.ok
