-- What `check` answers: what adding a geometry would bring, and where the geometry is wrong.
use Rattle.std.specs.Prelude.{List, [], ◌++◌, ℕ, None, Some, Result, Ok, Err, codes, decimal}
use Rattle.std.specs.Option.{option_map_or}
use Rattle.sf_refusals.specs.declared.refusal.Refusal.{Refusal}
use Rattle.sf_refusals.specs.Refusals.{number_of, name_of}
use Rattle.sf_geometry.specs.declared.geometry.Geometry.{Geometry}
use Rattle.sf_valid_rules.specs.declared.fault.Fault.{Fault}
use Rattle.sf_valid_rules.specs.Faults.{refusal_of as refusal_of_fault}
use Rattle.sf_faults.specs.declared.place.Place.{Place}
use Rattle.sf_faults.specs.declared.place.Place.TheVariants.{Line, Ring, Edges, Rings, Hole, Holes, Parts}
use Rattle.sf_faults.specs.declared.place.Spot.{Spot}
use Rattle.sf_faults.specs.Orders.{spot}
use Rattle.sf_faults.specs.Computed.{first_place}
use Rattle.sf_layers.specs.Content.{Content}
use Rattle.sf_steps.specs.declared.answer.Answer.{Answer}
use Rattle.sf_steps.specs.declared.edit.Edit.TheVariants as edits
use Rattle.sf_steps.specs.declared.refusal.Refusal.{Refusal as StepRefusal}
use Rattle.sf_steps.specs.declared.refusal.Refusal.TheVariants.{Invalid}
use Rattle.sf_steps.specs.Refusals.{refusal_of}
use Rattle.sf_steps.specs.Steps.{step}

-- a word and a number, with blanks before them
abbrev pub numbered_word : List ℕ → ℕ → List ℕ
numbered_word word n = word ++ decimal n

-- the words of a ring: its part and its number
abbrev pub ring_words : Spot → List ℕ
ring_words ring = numbered_word (codes " ring ") ring.part ++ numbered_word (codes " ") ring.ring

-- the words of a place, behind those of the refusal
abbrev pub place_words : Place → List ℕ
place_words (Line part) = numbered_word (codes " line ") part
place_words (Ring ring) = ring_words ring
place_words (Edges ring first second) = ring_words ring ++ (numbered_word (codes " edges ") first ++ numbered_word (codes " ") second)
place_words (Rings first first_edge second second_edge) =
    ring_words first ++ (numbered_word (codes " edge ") first_edge ++ (ring_words second ++ numbered_word (codes " edge ") second_edge))
place_words (Hole hole None) = ring_words hole
place_words (Hole hole (Some edge)) = ring_words hole ++ numbered_word (codes " edge ") edge
place_words (Holes part first second) = ring_words (spot part first) ++ ring_words (spot part second)
place_words (Parts first second) = numbered_word (codes " part ") first ++ numbered_word (codes " part ") second

-- the words of a refusal: its number and its name
abbrev pub refusal_words : Refusal → List ℕ
refusal_words refusal = codes "refused " ++ decimal (number_of refusal) ++ codes " " ++ name_of refusal

-- the words of the refusal of a geometry for a fault of shape, with those of the first place where it has that
abbrev pub fault_words : Geometry → Fault → List ℕ
fault_words geometry fault = refusal_words (refusal_of_fault fault) ++ option_map_or place_words (first_place geometry fault) []

-- the words of the refusal of an addition
abbrev pub refused_words : Geometry → StepRefusal → List ℕ
refused_words geometry (Invalid fault) = fault_words geometry fault
refused_words geometry refusal = refusal_words (refusal_of refusal)

-- what `check` answers, by what the addition would bring
abbrev pub tried_words : Geometry → Result (Content × Answer) StepRefusal → List ℕ
tried_words geometry (Ok done) = codes "ok"
tried_words geometry (Err refusal) = refused_words geometry refusal

-- what it answers of a geometry for the layer of a name
abbrev pub checked : Content → List ℕ → Geometry → List ℕ
checked content name geometry = tried_words geometry (step content (edits.AddFeature name geometry))
