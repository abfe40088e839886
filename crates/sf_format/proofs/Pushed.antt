-- Lists with one more item at the end, items that were counted, and names.
use Rattle.std.proofs.Common.{◌≡◌, ℕ, zero, suc, ◌+◌, ◌&&◌, Bool, false, List, [], ◌∷◌, ◌++◌, map, length, IsTrue, Ok, refl, sym, ap, subst, ◌∙◌, arith, length-append}
use Rattle.std.specs.Prelude.{nat_le}
use Rattle.std.specs.List.{list_any, AllByRecursion}
use Rattle.sf_features.specs.Names.{is_name}
use Rattle.sf_features.specs.Columns.{IsDistinct}
use Rattle.sf_layers.proofs.Kept.{none_or, none-from}
use Rattle.sf_streams.specs.Streams.{Left}
use Rattle.sf_format.specs.declared.defect.Defect.TheVariants.{BadName}
use Rattle.sf_format.specs.Readings.{Reading, sized, items}
use Rattle.sf_format.specs.Laws.{AreBytes}
use Rattle.sf_format.specs.Format.{allowed, name}
use Rattle.sf_format.proofs.Promises.{Promises, Promises-field, Promises-sized, and_then_ok}
use Rattle.sf_format.proofs.Rules.{allowed_of}

pub distinct-push : {X Y : Type 0} (eq : Y → Y → Bool) (f : X → Y) (xs : List X) (x : X) → IsDistinct eq (map f xs) → list_any (λ e. eq (f e) (f x)) xs ≡ false → IsDistinct eq (map f (xs ++ x ∷ []))
distinct-push eq f [] x h new = (refl, tt)
distinct-push {X = X} {Y = Y} eq f (e ∷ es) x h new =
    let parts = none_or (eq (f e) (f x)) (list_any (λ e. eq (f e) (f x)) es) new in
    (none-push (eq (f e)) es h.0 parts.0, distinct-push eq f es x h.1 parts.1)
  where
    none-push : (test : Y → Bool) (ys : List X) → list_any test (map f ys) ≡ false → test (f x) ≡ false → list_any test (map f (ys ++ x ∷ [])) ≡ false
    none-push test [] h last = none-from (test (f x)) false last refl
    none-push test (y ∷ ys) h last = let parts = none_or (test (f y)) (list_any test (map f ys)) h in none-from (test (f y)) (list_any test (map f (ys ++ x ∷ []))) parts.0 (none-push test ys parts.1 last)

pub all-more : {X : Type 0} (P : X → Type 0) (xs : List X) (x : X) → AllByRecursion P xs → P x → AllByRecursion P (xs ++ x ∷ [])
all-more P [] x all new = (new, tt)
all-more P (y ∷ ys) x all new = (all.0, all-more P ys x all.1 new)

-- as many items as were counted
pub items-length : {X : Type 0} (item : List X → Reading X) (count : ℕ) (earlier : List X) (left : Left) (xs : List X) (rest : Left) → items item count earlier left ≡ Ok (xs, rest) → length xs ≡ length earlier + count
items-length item zero earlier left xs rest e =
    let pair : ◌≡◌ {A = _ × Left} (earlier, left) (xs, rest) = cc in ap length (ap (λ p. p.0) (sym pair)) ∙ omega arith
items-length item (suc count) earlier left xs rest e =
    let s = and_then_ok (item earlier left) (λ x. items item count (earlier ++ x ∷ [])) xs rest e in
    let later = items-length item count (earlier ++ s.0 ∷ []) s.1 xs rest s.3 in
    omega (arith, later, length-append earlier (s.0 ∷ []))

pub name-promises : Promises name (λ text. IsTrue (is_name text))
name-promises = Promises-field (sized 1 (λ size. allowed (nat_le 1 size && nat_le size 32) BadName size)) (λ text. allowed (is_name text) BadName text) AreBytes (λ text. IsTrue (is_name text))
    (Promises-sized 1 (λ size. allowed (nat_le 1 size && nat_le size 32) BadName size))
    (λ x y fits e. let r = allowed_of (is_name x) BadName x y e in subst (λ t. IsTrue (is_name t)) r.1 r.0)
