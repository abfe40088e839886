-- Internal: who wants to trust the program need not read this file.
-- The refusals of queries as those of the store.
use Rattle.sf_refusals.specs.declared.refusal.Refusal.{Refusal as StoreRefusal}
use Rattle.sf_refusals.specs.declared.refusal.Refusal.TheVariants as store
use Rattle.sf_query.specs.declared.refusal.Refusal.{Refusal}
use Rattle.sf_query.specs.declared.refusal.Refusal.TheVariants.{Memory, NoLayer, NoFeature}

-- the store's refusal of the same name
abbrev pub refusal_of : Refusal → StoreRefusal
refusal_of Memory = store.Memory
refusal_of NoLayer = store.NoLayer
refusal_of NoFeature = store.NoFeature
