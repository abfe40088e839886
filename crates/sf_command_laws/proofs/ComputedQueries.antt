-- Commands of lines that compare features with a given geometry, computed from the definitions alone.
use Rattle.std.proofs.Common.{◌≡◌, ℕ, pos, negsuc, Ok, Err, List, [], ◌∷◌, codes, refl}
use Rattle.sf_refusals.specs.declared.refusal.Refusal.{Refusal}
use Rattle.sf_refusals.specs.declared.refusal.Refusal.TheVariants.{Syntax, OffGrid, OutOfRange, Empty, UnsupportedType, ShortLine, OpenRing, ShortRing, RingNotSimple, HolesNested, BadCommand, BadPattern}
use Rattle.sf_geometry.specs.declared.geometry.Geometry.{Geometry}
use Rattle.sf_geometry.specs.declared.geometry.Geometry.TheVariants as geometries
use Rattle.sf_known.specs.declared.letter.Letter.TheVariants.{Any, Filled, Empty as Unfilled, Zero, One, Two}
use Rattle.sf_known.specs.declared.predicate.Predicate.TheVariants as predicates
use Rattle.sf_rules.specs.Asked.{Named}
use Rattle.sf_commands.specs.declared.command.Command.TheVariants.{Distance, Nearest, Reach, ReachUntil, Relate, Match, Query, Near}
use Rattle.sf_commands.specs.Commands.{command_of}

abbrev point : Geometry
point = geometries.Point (record { x = pos 1; y = negsuc 1 })

-- the line is refused so
abbrev IsRefused : List ℕ → Refusal → Type 0
IsRefused line refusal = command_of line ≡ Err refusal

related : (command_of (codes "relate p 3 POINT (1 -2)") ≡ Ok (0, Relate (codes "p") 3 point)) × (command_of (codes " relate  p 0000000003\tpoint(1 -2) ") ≡ Ok (0, Relate (codes "p") 3 point))
related = (refl, refl)

distant : (command_of (codes "distance p 3 POINT (1 -2)") ≡ Ok (0, Distance (codes "p") 3 point)) × (command_of (codes "@7 distance  p 03\tpoint(1 -2) ") ≡ Ok (7, Distance (codes "p") 3 point))
distant = (refl, refl)

-- 1 to 1,000 of the nearest
nearest : (command_of (codes "nearest p 3 POINT (1 -2)") ≡ Ok (0, Nearest (codes "p") 3 point)) × (command_of (codes "@7 nearest  p\t0001000 point(1 -2)") ≡ Ok (7, Nearest (codes "p") 1000 point))
nearest = (refl, refl)

faults_of_nearest : IsRefused (codes "nearest p 0 POINT (1 -2)") BadCommand × IsRefused (codes "nearest p 1001 POINT (1 -2)") BadCommand × IsRefused (codes "nearest p x POINT (1 -2)") BadCommand
    × IsRefused (codes "nearest p 1") BadCommand × IsRefused (codes "nearest p 1 LINESTRING (1 1, 1 1)") ShortLine × IsRefused (codes "nearest p 0 LINESTRING (1 1, 1 1)") BadCommand
faults_of_nearest = (refl, refl, refl, refl, refl, refl)

-- chains from features, without an end and with one; a layer may have the name `until`
reach : (command_of (codes "reach p touches 17") ≡ Ok (0, Reach (codes "p") (Named predicates.Touches) (17 ∷ [])))
    × (command_of (codes "@7 reach p  touches 17\t0018 17 ") ≡ Ok (7, Reach (codes "p") (Named predicates.Touches) (17 ∷ 18 ∷ 17 ∷ [])))
    × (command_of (codes "reach p touches 17 until v intersects") ≡ Ok (0, ReachUntil (codes "p") (Named predicates.Touches) (17 ∷ []) (codes "v") (Named predicates.Intersects)))
    × (command_of (codes "reach until touches 17 until until within") ≡ Ok (0, ReachUntil (codes "until") (Named predicates.Touches) (17 ∷ []) (codes "until") (Named predicates.Within)))
reach = (refl, refl, refl, refl)

-- words are looked at before patterns, and the first pattern before the second
faults_of_chains : IsRefused (codes "reach p touches") BadCommand × IsRefused (codes "reach p touches until v intersects") BadCommand × IsRefused (codes "reach p touches x") BadCommand
    × IsRefused (codes "reach p touches 1 until") BadCommand × IsRefused (codes "reach p touches 1 until v") BadCommand × IsRefused (codes "reach p touches 1 until v within x") BadCommand
    × IsRefused (codes "reach p touch 1") BadPattern × IsRefused (codes "reach p touch x") BadCommand × IsRefused (codes "reach p touches 1 until v in") BadPattern × IsRefused (codes "reach p touch 1 until v") BadCommand
faults_of_chains = (refl, refl, refl, refl, refl, refl, refl, refl, refl, refl)

-- a distance in thousandths of a grid step
near : (command_of (codes "query p near 2 POINT (1 -2)") ≡ Ok (0, Near (codes "p") 2000 point))
    × (command_of (codes "query p  near\t+02.50 point(1 -2)") ≡ Ok (0, Near (codes "p") 2500 point))
    × (command_of (codes "query near near 0 POINT (1 -2)") ≡ Ok (0, Near (codes "near") 0 point))
    × (command_of (codes "query p near 4294967295.999 POINT (1 -2)") ≡ Ok (0, Near (codes "p") 4294967295999 point))
near = (refl, refl, refl, refl)

-- a word that is no distance: one below 0, with four places, as large as the limit, or with an exponent; or none
faults_of_distances : IsRefused (codes "query p near -1 POINT (1 -2)") BadCommand × IsRefused (codes "query p near 1.0001 POINT (1 -2)") BadCommand
    × IsRefused (codes "query p near 4294967296 POINT (1 -2)") BadCommand × IsRefused (codes "query p near 1e3 POINT (1 -2)") BadCommand
    × IsRefused (codes "query p near POINT (1 -2)") BadCommand × IsRefused (codes "query p near 1") BadCommand × IsRefused (codes "query p near") BadCommand
    × IsRefused (codes "distance p 3") BadCommand × IsRefused (codes "distance p x POINT (1 -2)") BadCommand × IsRefused (codes "distance p 3 LINESTRING (1 1, 1 1)") ShortLine
    × IsRefused (codes "query p near 1 LINESTRING (1 1, 1 1)") ShortLine × IsRefused (codes "query p near x LINESTRING (1 1, 1 1)") BadCommand
faults_of_distances = (refl, refl, refl, refl, refl, refl, refl, refl, refl, refl, refl, refl)

matched : command_of (codes "match p T*F**F*** POINT (1 -2)") ≡ Ok (0, Match (codes "p") (Filled ∷ Any ∷ Unfilled ∷ Any ∷ Any ∷ Unfilled ∷ Any ∷ Any ∷ Any ∷ []) point)
matched = refl

-- small letters are read as capital ones
matched_small : command_of (codes "match p tf012*TF0 POINT (1 -2)") ≡ Ok (0, Match (codes "p") (Filled ∷ Unfilled ∷ Zero ∷ One ∷ Two ∷ Any ∷ Filled ∷ Unfilled ∷ Zero ∷ []) point)
matched_small = refl

queried : (command_of (codes "query p equals POINT (1 -2)") ≡ Ok (0, Query (codes "p") predicates.Equals point))
    × (command_of (codes "query p disjoint POINT (1 -2)") ≡ Ok (0, Query (codes "p") predicates.Disjoint point))
    × (command_of (codes "query p touches POINT (1 -2)") ≡ Ok (0, Query (codes "p") predicates.Touches point))
    × (command_of (codes "query p crosses POINT (1 -2)") ≡ Ok (0, Query (codes "p") predicates.Crosses point))
    × (command_of (codes "query p within POINT (1 -2)") ≡ Ok (0, Query (codes "p") predicates.Within point))
    × (command_of (codes "query p contains POINT (1 -2)") ≡ Ok (0, Query (codes "p") predicates.Contains point))
    × (command_of (codes "query p overlaps POINT (1 -2)") ≡ Ok (0, Query (codes "p") predicates.Overlaps point))
    × (command_of (codes "query p intersects POINT (1 -2)") ≡ Ok (0, Query (codes "p") predicates.Intersects point))
queried = (refl, refl, refl, refl, refl, refl, refl, refl)

-- wrong words, or too few of them
faults_of_words : IsRefused (codes "relate p 3") BadCommand × IsRefused (codes "relate p 3 ") BadCommand × IsRefused (codes "relate p") BadCommand
    × IsRefused (codes "relate p x POINT (1 -2)") BadCommand × IsRefused (codes "relate p 4294967296 POINT (1 -2)") BadCommand
    × IsRefused (codes "match p T*F**F***") BadCommand × IsRefused (codes "match p T*F**F*** ") BadCommand × IsRefused (codes "match p") BadCommand
    × IsRefused (codes "query p intersects") BadCommand × IsRefused (codes "query p") BadCommand × IsRefused (codes "query") BadCommand
    × IsRefused (codes "query p Intersects POINT (1 -2)") BadCommand × IsRefused (codes "query p INTERSECTS POINT (1 -2)") BadCommand
    × IsRefused (codes "query p covers POINT (1 -2)") BadCommand × IsRefused (codes "QUERY p intersects POINT (1 -2)") BadCommand
faults_of_words = (refl, refl, refl, refl, refl, refl, refl, refl, refl, refl, refl, refl, refl, refl, refl)

-- patterns of eight and of ten letters, and of another letter
faults_of_patterns : IsRefused (codes "match p T*F**F** POINT (1 -2)") BadPattern × IsRefused (codes "match p T*F**F**** POINT (1 -2)") BadPattern
    × IsRefused (codes "match p T*F**F**3 POINT (1 -2)") BadPattern × IsRefused (codes "match p TT POINT (1 -2)") BadPattern
faults_of_patterns = (refl, refl, refl, refl)

-- wrong words come before a wrong pattern or text, a wrong pattern before a wrong text
words_before_texts : IsRefused (codes "relate p x POINT (1") BadCommand × IsRefused (codes "query p near POINT (1") BadCommand
    × IsRefused (codes "match p T") BadCommand × IsRefused (codes "match p T POINT (1") BadPattern × IsRefused (codes "match p T LINESTRING (1 1, 1 1)") BadPattern
words_before_texts = (refl, refl, refl, refl, refl)

-- the faults of a text come before those of a geometry
faults_of_texts : IsRefused (codes "relate p 3 POINT (1") Syntax × IsRefused (codes "match p ********* POINT (1.5 0)") OffGrid
    × IsRefused (codes "query p equals POINT (1073741824 0)") OutOfRange × IsRefused (codes "query p equals POINT EMPTY") Empty
    × IsRefused (codes "query p equals POINT Z (1 2 3)") UnsupportedType × IsRefused (codes "query p equals LINESTRING (1 1, 1 1") Syntax
    × IsRefused (codes "query p equals LINESTRING (1 1, 1 1.5)") OffGrid
faults_of_texts = (refl, refl, refl, refl, refl, refl, refl)

faults_of_geometries : IsRefused (codes "relate p 3 LINESTRING (1 1, 1 1)") ShortLine × IsRefused (codes "match p ********* POLYGON ((0 0, 1 0, 1 1, 0 1))") OpenRing
    × IsRefused (codes "query p equals POLYGON ((0 0, 1 0, 0 0))") ShortRing × IsRefused (codes "query p intersects POLYGON ((0 0, 10 10, 10 0, 0 10, 0 0))") RingNotSimple
    × IsRefused (codes "query p within POLYGON ((0 0, 20 0, 20 20, 0 20, 0 0), (1 1, 9 1, 9 9, 1 9, 1 1), (2 2, 3 2, 3 3, 2 3, 2 2))") HolesNested
faults_of_geometries = (refl, refl, refl, refl, refl)
