-- What is wrong with a field of a file, among the refusals of the store.
use Rattle.std.specs.Prelude.{ℕ}
use Rattle.sf_refusals.specs.declared.refusal.Refusal.{Refusal}
use Rattle.sf_refusals.specs.declared.refusal.Refusal.TheVariants as refusals
use Rattle.sf_refusals.specs.Refusals.{number_of as number_of_refusal}
use Rattle.sf_valid_rules.specs.Faults.{refusal_of as fault_refusal_of}
use Rattle.sf_wkb.specs.Faults.{refusal_of as wkb_refusal_of}
use Rattle.sf_format.specs.declared.defect.Defect.{Defect}
use Rattle.sf_format.specs.declared.defect.Defect.TheVariants.{Truncated, Trailing, TooManyVertices, Wkb, Invalid, LayerExists, BadName, NoColumn, ColumnExists, WrongValue, WrongKind, IdsExhausted, ColumnsExhausted, BadFile, NoLayer, RuleExists, BadPattern, RuleBroken}

-- the refusal of a defect
abbrev pub refusal_of : Defect → Refusal
refusal_of Truncated = refusals.Truncated
refusal_of Trailing = refusals.Trailing
refusal_of TooManyVertices = refusals.TooManyVertices
refusal_of (Wkb fault) = wkb_refusal_of fault
refusal_of (Invalid fault) = fault_refusal_of fault
refusal_of LayerExists = refusals.LayerExists
refusal_of BadName = refusals.BadName
refusal_of NoColumn = refusals.NoColumn
refusal_of ColumnExists = refusals.ColumnExists
refusal_of WrongValue = refusals.WrongValue
refusal_of WrongKind = refusals.WrongKind
refusal_of IdsExhausted = refusals.IdsExhausted
refusal_of ColumnsExhausted = refusals.ColumnsExhausted
refusal_of BadFile = refusals.BadFile
refusal_of NoLayer = refusals.NoLayer
refusal_of RuleExists = refusals.RuleExists
refusal_of BadPattern = refusals.BadPattern
refusal_of RuleBroken = refusals.RuleBroken

-- the number of a defect among the refusals
abbrev pub number_of : Defect → ℕ
number_of defect = number_of_refusal (refusal_of defect)
