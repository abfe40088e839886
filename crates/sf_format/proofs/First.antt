-- Files of the first two versions load as they did.
use Rattle.std.proofs.Common.{◌≡◌, ℕ, ◌+◌, Bool, true, false, List, [], ◌++◌, length, Result, Ok, Err, bytes_eq, codes, cond, nat_eq, refl, sym, ap, ◌∙◌}
use Rattle.sf_wkb.specs.declared.grid.Grid.TheVariants.{Bits20, Bits24}
use Rattle.sf_wkb.specs.Grammar.{read_in}
use Rattle.sf_layers.specs.Content.{Content}
use Rattle.sf_ruled_store.specs.Ruling.{Rule}
use Rattle.sf_streams.specs.Streams.{Left}
use Rattle.sf_format.specs.declared.version.Version.{Version}
use Rattle.sf_format.specs.declared.version.Version.TheVariants.{First, Second, Third, Fourth}
use Rattle.sf_format.specs.declared.defect.Defect.{Defect}
use Rattle.sf_format.specs.declared.defect.Defect.TheVariants.{BadFile}
use Rattle.sf_format.specs.Readings.{Reads, Reading, ◌>>=◌, and_then, done, bytes, field, judged, number, end}
use Rattle.sf_format.specs.Format.{allowed, all_layers, begins, layers, version_of, on_grid, grid_of, rules_in, head, first_file, value_of}
use Rattle.sf_format.specs.Laws.{FirstVersionLoads, FirstVersionIsKept, SecondVersionIsKept, without_rules}
use Rattle.sf_format.proofs.Again.{at, Again-bytes, Again-field}
use Rattle.sf_format.proofs.Continuations.{file_after_head, file_after_layers, file_after_rules}
use Rattle.sf_format.proofs.Promises.{and_then_ok}

-- ---- what follows the front of a version without rules

-- the end, behind the layers
abbrev after_layers : Content → Reading Content
after_layers content = do
  ended ← end
  done content

-- a version without rules has just its layers
no-rules : (version : Version) → ((content : Content) → rules_in version content ≡ done {T = List Rule} []) → (left : Left)
    → value_of (file_after_head version left) ≡ without_rules (value_of (all_layers (read_in (grid_of version)) left))
no-rules version none left = by (layers (read_in (grid_of version)) left)
  where
    by_end : (content : Content) (r : Reads (Unit {0})) → value_of (and_then r (λ ended. done (record { content = content; rules = [] })))
        ≡ without_rules (value_of (and_then r (λ ended. done content)))
    by_end content (Ok x) = refl
    by_end content (Err fault) = refl

    by : (r : Reads Content) → value_of (and_then r (file_after_layers version)) ≡ without_rules (value_of (and_then r after_layers))
    by (Ok x) = ap (λ (read : Reading (List Rule)). value_of (and_then (read x.1) (file_after_rules x.0))) (none x.0) ∙ by_end x.0 (end x.1)
    by (Err fault) = refl

-- ---- where the first version has a content

by_test : (b : Bool) (place : ℕ) (here rest : Left) (other : Result Version Defect) (x : Unit {0}) → judged place here (allowed b BadFile tt) ≡ Ok (x, rest)
    → judged place here (cond b (Ok First) other) ≡ Ok (First, rest)
by_test true place here rest other x e = let pair : ◌≡◌ {A = Unit {0} × Left} (tt, here) (x, rest) = cc in ap (λ (p : Unit {0} × Left). Ok (First, p.1)) pair
by_test false place here rest other x e = absurd cc

-- what the other versions make of the first bytes
abbrev later_version : List ℕ → Result Version Defect
later_version text = cond (bytes_eq text (codes "SFSTORE2")) (Ok Second) (cond (bytes_eq text (codes "SFSTORE3")) (Ok Third) (allowed (bytes_eq text (codes "SFSTORE4")) BadFile Fourth))

by_front : (r : Reads (List ℕ)) (place : ℕ) (rest : Left) (x : Unit {0}) → and_then r (λ text here. judged place here (begins (codes "SFSTORE1") text)) ≡ Ok (x, rest)
    → and_then r (λ text here. judged place here (version_of text)) ≡ Ok (First, rest)
by_front (Ok text) place rest x e = by_test (bytes_eq text.0 (codes "SFSTORE1")) place text.1 rest (later_version text.0) x e
by_front (Err fault) place rest x e = absurd cc

first-head : (left rest : Left) (x : Unit {0}) → field (bytes 8) (begins (codes "SFSTORE1")) left ≡ Ok (x, rest) → head left ≡ Ok (First, rest)
first-head left rest x e = ap (λ r. and_then r on_grid) (by_front (bytes 8 left) left.place rest x e)

value_of_ok : {T : Type 0} (r : Reads T) (x : T) → value_of r ≡ Ok x → (rest : Left) × (r ≡ Ok (x, rest))
value_of_ok (Ok y) x e = let same : y.0 ≡ x = cc in (y.1, ap (λ v. Ok (v, y.1)) same)
value_of_ok (Err fault) x e = absurd cc

-- behind the first bytes
abbrev after_first : Unit {0} → Reading Content
after_first front = all_layers (read_in Bits20)

pub first-version-loads : FirstVersionLoads
first-version-loads text content e =
    let whole = value_of_ok (first_file (at 0 text)) content e in
    let s = and_then_ok (field (bytes 8) (begins (codes "SFSTORE1")) (at 0 text)) after_first content whole.0 whole.1 in
    ap (λ r. value_of (and_then r file_after_head)) (first-head (at 0 text) s.1 s.0 s.2)
    ∙ no-rules First (λ content. refl) s.1 ∙ ap (λ r. without_rules (value_of r)) s.3

-- ---- whatever stands behind the first bytes

pub first-version-is-kept : FirstVersionIsKept
first-version-is-kept text =
    let front : List ℕ = codes "SFSTORE1" in
    let rest : Left = at (0 + length front) text in
    let taken = Again-bytes 8 front refl in
    let old : field (bytes 8) (begins front) (at 0 (front ++ text)) ≡ Ok (tt, rest) = Again-field (bytes 8) (begins front) front front tt taken refl 0 text in
    let new : field (bytes 8) version_of (at 0 (front ++ text)) ≡ Ok (First, rest) = Again-field (bytes 8) version_of front front First taken refl 0 text in
    ap (λ r. value_of (and_then (and_then r on_grid) file_after_head)) new
    ∙ no-rules First (λ content. refl) rest
    ∙ sym (ap (λ r. without_rules (value_of (and_then r after_first))) old)

-- behind the first bytes of the second version
abbrev after_second : Unit {0} → Reading Content
after_second front = do
  grid ← field (number 1) (λ byte. allowed (nat_eq byte 24) BadFile Bits24)
  all_layers (read_in grid)

-- the byte of the grid, and what follows it
grid-and-more : (place : ℕ) (r : Reads ℕ)
    → value_of (and_then (and_then r (λ byte after. judged place after (allowed (nat_eq byte 24) BadFile Second))) file_after_head)
    ≡ without_rules (value_of (and_then (and_then r (λ byte after. judged place after (allowed (nat_eq byte 24) BadFile Bits24))) (λ grid. all_layers (read_in grid))))
grid-and-more place (Err fault) = refl
grid-and-more place (Ok x) = by_byte (nat_eq x.0 24)
  where
    by_byte : (b : Bool) → value_of (and_then (judged place x.1 (allowed b BadFile Second)) file_after_head)
        ≡ without_rules (value_of (and_then (judged place x.1 (allowed b BadFile Bits24)) (λ grid. all_layers (read_in grid))))
    by_byte true = no-rules Second (λ content. refl) x.1
    by_byte false = refl

pub second-version-is-kept : SecondVersionIsKept
second-version-is-kept text =
    let front : List ℕ = codes "SFSTORE2" in
    let rest : Left = at (0 + length front) text in
    let taken = Again-bytes 8 front refl in
    let old : field (bytes 8) (begins front) (at 0 (front ++ text)) ≡ Ok (tt, rest) = Again-field (bytes 8) (begins front) front front tt taken refl 0 text in
    let new : field (bytes 8) version_of (at 0 (front ++ text)) ≡ Ok (Second, rest) = Again-field (bytes 8) version_of front front Second taken refl 0 text in
    ap (λ r. value_of (and_then (and_then r on_grid) file_after_head)) new
    ∙ grid-and-more rest.place (number 1 rest)
    ∙ sym (ap (λ r. without_rules (value_of (and_then r after_second))) old)
