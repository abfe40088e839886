-- Names are read again, and those that differ are free.
use Rattle.std.proofs.Common.{◌≡◌, ℕ, ◌≤◌, ◌&&◌, Bool, true, false, List, [], ◌∷◌, ◌++◌, map, length, refl, arith}
use Rattle.std.specs.Prelude.{nat_le}
use Rattle.std.specs.List.{list_any, list_all}
use Rattle.std.proofs.lemmas.Bool.{le-leb, leb-true}
use Rattle.sf_features.specs.Names.{is_name, is_name_byte}
use Rattle.sf_features.specs.Columns.{IsDistinct}
use Rattle.sf_layers.proofs.Kept.{none_or, none-from}
use Rattle.sf_format.specs.declared.defect.Defect.TheVariants.{BadName}
use Rattle.sf_format.specs.Readings.{sized}
use Rattle.sf_format.specs.Format.{allowed, name}
use Rattle.sf_format.specs.Canonical.{behind_length}
use Rattle.sf_format.proofs.Again.{Again, Again-field, Again-sized}
use Rattle.sf_format.proofs.Rules.{allowed-ok, both, both_of}

any-at : {X Y : Type 0} (test : Y → Bool) (f : X → Y) (xs : List X) (x : X) (later : List X) → list_any test (map f (xs ++ x ∷ later)) ≡ false → test (f x) ≡ false
any-at test f [] x later h = (none_or (test (f x)) (list_any test (map f later)) h).0
any-at test f (y ∷ ys) x later h = any-at test f ys x later (none_or (test (f y)) (list_any test (map f (ys ++ x ∷ later))) h).1

pub distinct-fresh : {X Y : Type 0} (eq : Y → Y → Bool) (f : X → Y) (earlier : List X) (x : X) (later : List X) → IsDistinct eq (map f (earlier ++ x ∷ later))
    → list_any (λ e. eq (f e) (f x)) earlier ≡ false
distinct-fresh eq f [] x later h = refl
distinct-fresh eq f (e ∷ es) x later h =
    none-from (eq (f e) (f x)) (list_any (λ y. eq (f y) (f x)) es) (any-at (eq (f e)) f es x later h.0) (distinct-fresh eq f es x later h.1)

pub name_len : (text : List ℕ) → is_name text ≡ true → (1 ≤ length text) × (length text ≤ 32)
name_len [] is = absurd cc
name_len (first ∷ rest) is =
    let front = (both_of _ (list_all is_name_byte rest) is).0 in
    let le = leb-true (length rest) 31 (both_of _ (nat_le (length rest) 31) front).1 in
    (omega arith, omega (arith, le))

pub name-again : (text : List ℕ) → is_name text ≡ true → Again name (behind_length 1 text) text
name-again text is =
    let len = name_len text is in
    Again-field (sized 1 (λ size. allowed (nat_le 1 size && nat_le size 32) BadName size)) (λ text. allowed (is_name text) BadName text) (behind_length 1 text) text text
    (Again-sized 1 (λ size. allowed (nat_le 1 size && nat_le size 32) BadName size) text (omega (arith, len.1))
    (allowed-ok _ BadName (length text) (both _ _ (le-leb 1 (length text) len.0) (le-leb (length text) 32 len.1))))
    (allowed-ok (is_name text) BadName text is)
