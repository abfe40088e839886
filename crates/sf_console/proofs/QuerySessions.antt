-- Sessions that compare features with given geometries, or look them up, computed from the definitions alone.
use Rattle.std.proofs.Common.{◌≡◌, ◌++◌, codes, refl}
use Rattle.std.specs.Fmt.{digits}
use Rattle.std.specs.Str.{is_utf8, chars}
use lib.Utf8.{encode}
use Rattle.sf_distance.specs.Texts.{gcd_within, root_from}
use Rattle.sf_console.specs.Answers.{line}
use Rattle.sf_console.specs.Session.{output_of}

pub features_of_three : output_of (line (codes "layer add p any") ++ line (codes "add p POLYGON ((0 0, 10 0, 10 10, 0 10, 0 0))") ++ line (codes "add p POLYGON ((0 0, 30 0, 30 2, 2 2, 2 30, 0 30, 0 0))") ++ line (codes "add p POINT (22 22)") ++ line (codes "query p disjoint POLYGON ((20 20, 25 20, 25 25, 20 25, 20 20))") ++ line (codes "query p intersects POLYGON ((20 20, 25 20, 25 25, 20 25, 20 20))") ++ line (codes "relate p 3 POLYGON ((20 20, 25 20, 25 25, 20 25, 20 20))") ++ line (codes "match p T*F**F*** POLYGON ((20 20, 25 20, 25 25, 20 25, 20 20))") ++ line (codes "match p TT POLYGON ((20 20, 25 20, 25 25, 20 25, 20 20))")) ≡ line (codes "ok") ++ line (codes "ok 1") ++ line (codes "ok 2") ++ line (codes "ok 3") ++ line (codes "rows 2") ++ line (codes "1") ++ line (codes "2") ++ line (codes "rows 1") ++ line (codes "3") ++ line (codes "0FFFFF212") ++ line (codes "rows 1") ++ line (codes "3") ++ line (codes "refused 32 BadPattern")
unfolding is_utf8 chars encode digits
features_of_three = refl

pub faults_of_questions : output_of (line (codes "layer add p any") ++ line (codes "add p POINT (1 2)") ++ line (codes "query q disjoint POINT (1 2)") ++ line (codes "match q ********* POINT (1 2)") ++ line (codes "relate q 1 POINT (1 2)") ++ line (codes "relate p 2 POINT (1 2)") ++ line (codes "query q intersects POLYGON ((0 0, 10 10, 10 0, 0 10, 0 0))") ++ line (codes "relate q 2 POINT (1") ++ line (codes "match q TT POINT (1") ++ line (codes "query q near POINT (1") ++ line (codes "query p disjoint") ++ line (codes "query p disjoint POINT (1 2)")) ≡ line (codes "ok") ++ line (codes "ok 1") ++ line (codes "refused 18 NoLayer") ++ line (codes "refused 18 NoLayer") ++ line (codes "refused 18 NoLayer") ++ line (codes "refused 21 NoFeature") ++ line (codes "refused 13 RingNotSimple") ++ line (codes "refused 2 Syntax") ++ line (codes "refused 32 BadPattern") ++ line (codes "refused 31 BadCommand") ++ line (codes "refused 31 BadCommand") ++ line (codes "rows 0")
unfolding is_utf8 chars encode digits
faults_of_questions = refl

-- the lines cross at no grid point
pub lines_that_cross : output_of (line (codes "layer add l linestring") ++ line (codes "add l LINESTRING (0 0, 2 1)") ++ line (codes "relate l 1 LINESTRING (0 1, 1 0)") ++ line (codes "query l crosses LINESTRING (0 1, 1 0)")) ≡ line (codes "ok") ++ line (codes "ok 1") ++ line (codes "0F1FF0102") ++ line (codes "rows 1") ++ line (codes "1")
unfolding is_utf8 chars encode digits
lines_that_cross = refl

pub features_got : output_of (line (codes "layer add w any") ++ line (codes "column add w n int") ++ line (codes "column add w t text") ++ line (codes "add w POINT (1 1)") ++ line (codes "add w LINESTRING (0 0, 5 5)") ++ line (codes "add w POINT (3 -3)") ++ line (codes "set w 1 n 12") ++ line (codes "set w 3 n 12") ++ line (codes "set w 3 t 'it''s'") ++ line (codes "get w 3 1 2 3") ++ line (codes "get w 2") ++ line (codes "get w 1 4") ++ line (codes "get v 1") ++ line (codes "get w 0")) ≡ line (codes "ok") ++ line (codes "ok") ++ line (codes "ok") ++ line (codes "ok 1") ++ line (codes "ok 2") ++ line (codes "ok 3") ++ line (codes "ok") ++ line (codes "ok") ++ line (codes "ok") ++ line (codes "rows 4") ++ line (codes "3 POINT (3 -3) n=12 t='it''s'") ++ line (codes "1 POINT (1 1) n=12") ++ line (codes "2 LINESTRING (0 0, 5 5)") ++ line (codes "3 POINT (3 -3) n=12 t='it''s'") ++ line (codes "rows 1") ++ line (codes "2 LINESTRING (0 0, 5 5)") ++ line (codes "refused 21 NoFeature") ++ line (codes "refused 18 NoLayer") ++ line (codes "refused 21 NoFeature")
unfolding is_utf8 chars encode digits
features_got = refl

pub features_found : output_of (line (codes "layer add w any") ++ line (codes "column add w n int") ++ line (codes "column add w t text") ++ line (codes "add w POINT (1 1)") ++ line (codes "add w LINESTRING (0 0, 5 5)") ++ line (codes "add w POINT (3 -3)") ++ line (codes "set w 1 n 12") ++ line (codes "set w 3 n 12") ++ line (codes "set w 3 t 'it''s'") ++ line (codes "find w n 12") ++ line (codes "find w n +013") ++ line (codes "find w t 'it''s'") ++ line (codes "find w t") ++ line (codes "find v n 'x'") ++ line (codes "find w m 1") ++ line (codes "find w n 'x'") ++ line (codes "find w t 1") ++ line (codes "find w n")) ≡ line (codes "ok") ++ line (codes "ok") ++ line (codes "ok") ++ line (codes "ok 1") ++ line (codes "ok 2") ++ line (codes "ok 3") ++ line (codes "ok") ++ line (codes "ok") ++ line (codes "ok") ++ line (codes "rows 2") ++ line (codes "1") ++ line (codes "3") ++ line (codes "rows 0") ++ line (codes "rows 1") ++ line (codes "3") ++ line (codes "rows 1") ++ line (codes "3") ++ line (codes "refused 18 NoLayer") ++ line (codes "refused 22 NoColumn") ++ line (codes "refused 24 WrongValue") ++ line (codes "refused 24 WrongValue") ++ line (codes "rows 2") ++ line (codes "1") ++ line (codes "3")
unfolding is_utf8 chars encode digits
features_found = refl

-- at the distance, and a thousandth below it
pub distances_told : output_of (line (codes "layer add w any") ++ line (codes "add w POINT (0 0)") ++ line (codes "distance w 1 POINT (3 4)") ++ line (codes "query w near 5 POINT (3 4)") ++ line (codes "query w near 4.999 POINT (3 4)") ++ line (codes "distance w 2 POINT (3 4)") ++ line (codes "distance v 1 POINT (3 4)") ++ line (codes "query v near 5 POINT (3 4)")) ≡ line (codes "ok") ++ line (codes "ok 1") ++ line (codes "5.000 25") ++ line (codes "rows 1") ++ line (codes "1") ++ line (codes "rows 0") ++ line (codes "refused 21 NoFeature") ++ line (codes "refused 18 NoLayer") ++ line (codes "refused 18 NoLayer")
unfolding is_utf8 chars encode digits root_from gcd_within
distances_told = refl
