-- Numbers and names of the refusals.
use Rattle.std.specs.Prelude.{ℕ, List, codes}
use Rattle.sf_refusals.specs.declared.refusal.Refusal.{Refusal}
use Rattle.sf_refusals.specs.declared.refusal.Refusal.TheVariants.{Memory, Syntax, OffGrid, OutOfRange, Empty, UnsupportedType, Truncated, Trailing, TooManyVertices, ShortLine, OpenRing, ShortRing, RingNotSimple, RingsMeet, HoleOutside, HolesNested, PolygonsOverlap, NoLayer, LayerExists, BadName, NoFeature, NoColumn, ColumnExists, WrongValue, NoVertex, WrongKind, IdsExhausted, ColumnsExhausted, NothingToUndo, NothingToRedo, BadCommand, BadPattern, LineTooLong, BadFile, BadPlace, NotYours, RuleBroken, Unfinished, NoRule, RuleExists, LayerRuled, ColumnRuled}

-- the number of a refusal
abbrev pub number_of : Refusal → ℕ
number_of Memory = 1
number_of Syntax = 2
number_of OffGrid = 3
number_of OutOfRange = 4
number_of Empty = 5
number_of UnsupportedType = 6
number_of Truncated = 7
number_of Trailing = 8
number_of TooManyVertices = 9
number_of ShortLine = 10
number_of OpenRing = 11
number_of ShortRing = 12
number_of RingNotSimple = 13
number_of RingsMeet = 14
number_of HoleOutside = 15
number_of HolesNested = 16
number_of PolygonsOverlap = 17
number_of NoLayer = 18
number_of LayerExists = 19
number_of BadName = 20
number_of NoFeature = 21
number_of NoColumn = 22
number_of ColumnExists = 23
number_of WrongValue = 24
number_of NoVertex = 25
number_of WrongKind = 26
number_of IdsExhausted = 27
number_of ColumnsExhausted = 28
number_of NothingToUndo = 29
number_of NothingToRedo = 30
number_of BadCommand = 31
number_of BadPattern = 32
number_of LineTooLong = 33
number_of BadFile = 34
number_of BadPlace = 35
number_of (NotYours editor) = 36
number_of RuleBroken = 37
number_of Unfinished = 38
number_of NoRule = 39
number_of RuleExists = 40
number_of LayerRuled = 41
number_of ColumnRuled = 42

-- the name of a refusal
abbrev pub name_of : Refusal → List ℕ
name_of Memory = codes "Memory"
name_of Syntax = codes "Syntax"
name_of OffGrid = codes "OffGrid"
name_of OutOfRange = codes "OutOfRange"
name_of Empty = codes "Empty"
name_of UnsupportedType = codes "UnsupportedType"
name_of Truncated = codes "Truncated"
name_of Trailing = codes "Trailing"
name_of TooManyVertices = codes "TooManyVertices"
name_of ShortLine = codes "ShortLine"
name_of OpenRing = codes "OpenRing"
name_of ShortRing = codes "ShortRing"
name_of RingNotSimple = codes "RingNotSimple"
name_of RingsMeet = codes "RingsMeet"
name_of HoleOutside = codes "HoleOutside"
name_of HolesNested = codes "HolesNested"
name_of PolygonsOverlap = codes "PolygonsOverlap"
name_of NoLayer = codes "NoLayer"
name_of LayerExists = codes "LayerExists"
name_of BadName = codes "BadName"
name_of NoFeature = codes "NoFeature"
name_of NoColumn = codes "NoColumn"
name_of ColumnExists = codes "ColumnExists"
name_of WrongValue = codes "WrongValue"
name_of NoVertex = codes "NoVertex"
name_of WrongKind = codes "WrongKind"
name_of IdsExhausted = codes "IdsExhausted"
name_of ColumnsExhausted = codes "ColumnsExhausted"
name_of NothingToUndo = codes "NothingToUndo"
name_of NothingToRedo = codes "NothingToRedo"
name_of BadCommand = codes "BadCommand"
name_of BadPattern = codes "BadPattern"
name_of LineTooLong = codes "LineTooLong"
name_of BadFile = codes "BadFile"
name_of BadPlace = codes "BadPlace"
name_of (NotYours editor) = codes "NotYours"
name_of RuleBroken = codes "RuleBroken"
name_of Unfinished = codes "Unfinished"
name_of NoRule = codes "NoRule"
name_of RuleExists = codes "RuleExists"
name_of LayerRuled = codes "LayerRuled"
name_of ColumnRuled = codes "ColumnRuled"
