-- Laws of files.
use Rattle.std.specs.Prelude.{◌≡◌, ◌<◌, ℕ, List, [], ◌++◌, Result, Ok, Err, IsTrue, codes, drop, take}
use Rattle.std.specs.List.{AllByRecursion}
use Rattle.std.specs.Map.{values_of}
use Rattle.sf_geometry.specs.declared.geometry.Geometry.{Geometry}
use Rattle.sf_geometry.specs.Parts.{points_of}
use Rattle.sf_valid_rules.specs.declared.fault.Fault.{Fault as ShapeFault}
use Rattle.sf_valid_rules.specs.Validity.{IsFirstFault}
use Rattle.sf_wkb.specs.declared.grid.Grid.{Grid}
use Rattle.sf_wkb.specs.declared.grid.Grid.TheVariants.{Bits20, Bits24}
use Rattle.sf_wkb.specs.Grammar.{read_in}
use Rattle.sf_wkb.specs.Words.{IsIn}
use Rattle.sf_features.specs.Names.{is_name}
use Rattle.sf_layers.specs.Content.{Content}
use Rattle.sf_layers.specs.WellFormed.{IsWellFormed}
use Rattle.sf_ruled_store.specs.Ruling.{IsPairAsk, Matrix, Near, PairAsk}
use Rattle.sf_ruled_store.specs.Ruling.{Rule, Says, OfLayers, OfValues}
use Rattle.sf_ruled_store.specs.Ruling.{AllHold}
use Rattle.sf_ruled_store.specs.Ruled.{Ruled}
use Rattle.sf_ruled_store.specs.Undos.{IsSettled}
use Rattle.sf_streams.specs.Streams.{Left}
use Rattle.sf_format.specs.declared.version.Version.{Version}
use Rattle.sf_format.specs.declared.defect.Defect.TheVariants.{Invalid}
use Rattle.sf_format.specs.Readings.{Fault}
use Rattle.sf_format.specs.Format.{content_of, first_content_of, grid_of, head, ruled_content_of, second_content_of}
use Rattle.sf_format.specs.Canonical.{canonical, canonical_ruled, first_canonical, second_canonical, third_canonical}

-- ---- rules

-- a rule between layers asks for nine letters where it asks for a pattern, and for a distance below the limit where it asks for one
abbrev pub AsksWell : Says → Type 0
AsksWell (OfLayers rule) = IsPairAsk rule.ask
AsksWell (OfValues rule) = Unit {0}

-- a rule has a name, and asks for what can be asked
pub record IsRule (rule : Rule) : Type 0 where
  pub named : IsTrue (is_name rule.name)
  pub asks : AsksWell rule.says

-- a content with rules is well formed: so is the content; all that the rules name is there, and they hold; no two have one name,
-- and there are not too many
pub record IsRuledWell (ruled : Ruled) : Type 0 where
  pub content : IsWellFormed ruled.content
  pub settled : IsSettled ruled
  pub rules : AllByRecursion IsRule ruled.rules

-- the canonical bytes of a well-formed content with rules load as it
abbrev pub RuledBytesLoad : Type 0
RuledBytesLoad = (ruled : Ruled) → IsRuledWell ruled → ruled_content_of (canonical_ruled ruled) ≡ Ok ruled

-- and they are those of no other one
abbrev pub RuledBytesDiffer : Type 0
RuledBytesDiffer = (a b : Ruled) → IsRuledWell a → IsRuledWell b → canonical_ruled a ≡ canonical_ruled b → a ≡ b

-- each number is that of a byte
abbrev pub AreBytes : List ℕ → Type 0
AreBytes text = AllByRecursion (λ b. b < 256) text

-- only well-formed contents with rules have files
abbrev pub FilesAreRuledWell : Type 0
FilesAreRuledWell = (text : List ℕ) (ruled : Ruled) → AreBytes text → ruled_content_of text ≡ Ok ruled → IsRuledWell ruled

-- the rules of a file hold in its content, over all points of the plane
abbrev pub RulesOfFilesHold : Type 0
RulesOfFilesHold = (text : List ℕ) (ruled : Ruled) → AreBytes text → ruled_content_of text ≡ Ok ruled → AllHold ruled.content ruled.rules

-- a content as one without rules
abbrev pub without_rules : Result Content Fault → Result Ruled Fault
without_rules (Ok content) = Ok (record { content = content; rules = [] })
without_rules (Err fault) = Err fault

-- behind the first bytes of the second version nothing has changed: the same content without rules, or the same first fault
abbrev pub SecondVersionIsKept : Type 0
SecondVersionIsKept = (text : List ℕ) → ruled_content_of (codes "SFSTORE2" ++ text) ≡ without_rules (second_content_of (codes "SFSTORE2" ++ text))

-- nor behind those of the first one
abbrev pub FirstVersionIsKept : Type 0
FirstVersionIsKept = (text : List ℕ) → ruled_content_of (codes "SFSTORE1" ++ text) ≡ without_rules (first_content_of (codes "SFSTORE1" ++ text))

-- ---- contents

-- the canonical bytes of a well-formed content load as it
abbrev pub CanonicalBytesLoad : Type 0
CanonicalBytesLoad = (content : Content) → IsWellFormed content → content_of (canonical content) ≡ Ok content

-- and they are those of no other content
abbrev pub CanonicalBytesDiffer : Type 0
CanonicalBytesDiffer = (a b : Content) → IsWellFormed a → IsWellFormed b → canonical a ≡ canonical b → a ≡ b

-- what bytes have as a file of the first version they have as a file, without rules
abbrev pub FirstVersionLoads : Type 0
FirstVersionLoads = (text : List ℕ) (content : Content) → first_content_of text ≡ Ok content → ruled_content_of text ≡ without_rules (Ok content)

-- all points of a content are on a grid
abbrev pub AreIn : Grid → Content → Type 0
AreIn grid content = AllByRecursion (λ layer. AllByRecursion (λ feature. AllByRecursion (IsIn grid) (points_of feature.geometry)) (values_of layer.features)) (values_of content)

-- the bytes that the first version has for a content whose points are of 20 bits load as it
abbrev pub FirstCanonicalBytesLoad : Type 0
FirstCanonicalBytesLoad = (content : Content) → IsWellFormed content → AreIn Bits20 content → content_of (first_canonical content) ≡ Ok content

-- those that the second version has for a content whose points are of 24 bits load as it
abbrev pub SecondCanonicalBytesLoad : Type 0
SecondCanonicalBytesLoad = (content : Content) → IsWellFormed content → AreIn Bits24 content → content_of (second_canonical content) ≡ Ok content

-- what is asked of two features is their matrix
abbrev pub IsOfMatrices : PairAsk → Type 0
IsOfMatrices (Matrix ask) = Unit {0}
IsOfMatrices (Near reach) = ⊥

-- a rule is one between layers that asks for a matrix
abbrev pub IsSaidOfLayers : Says → Type 0
IsSaidOfLayers (OfLayers rule) = IsOfMatrices rule.ask
IsSaidOfLayers (OfValues rule) = ⊥

abbrev pub IsOfLayers : Rule → Type 0
IsOfLayers rule = IsSaidOfLayers rule.says

-- and those that the third version has for such a content with rules, all of them between layers, by matrices
abbrev pub ThirdCanonicalBytesLoad : Type 0
ThirdCanonicalBytesLoad =
    (ruled : Ruled) → IsRuledWell ruled → AllByRecursion IsOfLayers ruled.rules → AreIn Bits24 ruled.content → ruled_content_of (third_canonical ruled) ≡ Ok ruled

-- only well-formed contents have files
abbrev pub FilesAreWellFormed : Type 0
FilesAreWellFormed = (text : List ℕ) (content : Content) → AreBytes text → content_of text ≡ Ok content → IsWellFormed content

-- a file has at this place a binary geometry, of so many bytes and on the grid that the file's front says, whose first
-- fault over all points of the plane is this one
pub record HasFaultyGeometry (text : List ℕ) (place : ℕ) (fault : ShapeFault) : Type 0 where
  pub version : Version
  pub behind_head : Left
  pub told : head (record { place = 0; bytes = text }) ≡ Ok (version, behind_head)
  pub size : ℕ
  pub geometry : Geometry
  pub is_there : read_in (grid_of version) (take size (drop place text)) ≡ Ok geometry
  pub first : IsFirstFault geometry fault

-- a file that is refused for a fault of shape has at the place that is reported a geometry with that first fault; those of a file
-- that is not refused are valid, as its content is well formed
abbrev pub FilesAreJudgedOverThePlane : Type 0
FilesAreJudgedOverThePlane =
    (text : List ℕ) (place : ℕ) (fault : ShapeFault) → ruled_content_of text ≡ Err (record { place = place; defect = Invalid fault }) → HasFaultyGeometry text place fault
