-- An ask the other way round: of the second geometry with the first.
use Rattle.std.specs.Prelude.{◌≡◌, ◌<◌, length}
use Rattle.sf_geometry.specs.declared.geometry.Geometry.{Geometry}
use Rattle.sf_known.specs.declared.predicate.Predicate.{Predicate}
use Rattle.sf_known.specs.declared.predicate.Predicate.TheVariants.{Within, Contains}
use Rattle.sf_known.specs.Transposed.{transposed}
use Rattle.sf_near.specs.Passed.{Ask}
use Rattle.sf_near.specs.Passed.{Matching, Named}
use Rattle.sf_near.specs.Passed.{is_asked}
use Rattle.sf_near.specs.Passed.{reach_limit}
use Rattle.sf_near.specs.declared.pair_ask.PairAsk.{PairAsk}
use Rattle.sf_near.specs.declared.pair_ask.PairAsk.TheVariants.{Matrix, Near}
use Rattle.sf_near.specs.Pairs.{are_asked}

-- the predicate of the geometries the other way round: within and contains change places, the others are their own
abbrev pub converse_predicate : Predicate → Predicate
converse_predicate Within = Contains
converse_predicate Contains = Within
converse_predicate predicate = predicate

abbrev pub converse : Ask → Ask
converse (Matching letters) = Matching (transposed letters)
converse (Named predicate) = Named (converse_predicate predicate)

-- a pattern has nine letters, as its type keeps it
abbrev pub HasNineLetters : Ask → Type 0
HasNineLetters (Matching letters) = length letters ≡ 9
HasNineLetters (Named predicate) = Unit {0}

-- an ask holds of two geometries where its converse holds of them the other way round
abbrev pub AsksTurnRound : Type 0
AsksTurnRound = (ask : Ask) (a b : Geometry) → HasNineLetters ask → is_asked ask a b ≡ is_asked (converse ask) b a

-- ---- what is asked of two features

-- two are as far apart either way round
abbrev pub converse_pair : PairAsk → PairAsk
converse_pair (Matrix ask) = Matrix (converse ask)
converse_pair (Near reach) = Near reach

-- a pattern has nine letters, and a distance is below the limit, as their types keep it
abbrev pub IsPairAsk : PairAsk → Type 0
IsPairAsk (Matrix ask) = HasNineLetters ask
IsPairAsk (Near reach) = reach < reach_limit

-- two geometries are as asked where the other way round they are as the converse asks
abbrev pub PairsTurnRound : Type 0
PairsTurnRound = (ask : PairAsk) (a b : Geometry) → IsPairAsk ask → are_asked ask a b ≡ are_asked (converse_pair ask) b a
