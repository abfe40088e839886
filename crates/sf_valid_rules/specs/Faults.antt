-- The faults of shape among the refusals of the store.
use Rattle.sf_refusals.specs.declared.refusal.Refusal.{Refusal as StoreRefusal}
use Rattle.sf_refusals.specs.declared.refusal.Refusal.TheVariants as store
use Rattle.sf_valid_rules.specs.declared.fault.Fault.{Fault}
use Rattle.sf_valid_rules.specs.declared.fault.Fault.TheVariants.{ShortLine, OpenRing, ShortRing, RingNotSimple, RingsMeet, HoleOutside, HolesNested, PolygonsOverlap}

abbrev pub refusal_of : Fault → StoreRefusal
refusal_of ShortLine = store.ShortLine
refusal_of OpenRing = store.OpenRing
refusal_of ShortRing = store.ShortRing
refusal_of RingNotSimple = store.RingNotSimple
refusal_of RingsMeet = store.RingsMeet
refusal_of HoleOutside = store.HoleOutside
refusal_of HolesNested = store.HolesNested
refusal_of PolygonsOverlap = store.PolygonsOverlap
