-- Rules, and tests joined to one.
use Rattle.std.proofs.Common.{◌≡◌, Bool, true, false, not, ◌&&◌, Option, Some, None, Ok, refl, ap}
use Rattle.std.specs.Prelude.{is_some}
use Rattle.sf_format.specs.declared.defect.Defect.{Defect}
use Rattle.sf_format.specs.Format.{allowed, present}

pub allowed-ok : {T : Type 0} (b : Bool) (defect : Defect) (value : T) → b ≡ true → allowed b defect value ≡ Ok value
allowed-ok true defect value is = refl
allowed-ok false defect value is = absurd cc

pub both : (a b : Bool) → a ≡ true → b ≡ true → (a && b) ≡ true
both true b p q = q
both false b p q = absurd cc

pub both_of : (a b : Bool) → (a && b) ≡ true → (a ≡ true) × (b ≡ true)
both_of true b e = (refl, e)
both_of false b e = absurd cc

pub not-false : (b : Bool) → b ≡ false → not b ≡ true
not-false true h = absurd cc
not-false false h = refl

pub allowed_of : {T : Type 0} (b : Bool) (defect : Defect) (v w : T) → allowed b defect v ≡ Ok w → (b ≡ true) × (v ≡ w)
allowed_of true defect v w e = (refl, cc)
allowed_of false defect v w e = absurd cc

pub present_of : {T : Type 0} (o : Option T) (defect : Defect) (w : T) → present o defect ≡ Ok w → o ≡ Some w
present_of (Some v) defect w e = let same : v ≡ w = cc in ap Some same
present_of None defect w e = absurd cc

pub not_true : (b : Bool) → not b ≡ true → b ≡ false
not_true true e = absurd cc
not_true false e = refl

pub none_of : {X : Type 0} (o : Option X) → is_some o ≡ false → o ≡ None
none_of None e = refl
none_of (Some x) e = absurd cc
