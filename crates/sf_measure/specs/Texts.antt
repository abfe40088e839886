-- Measures as texts.
use Rattle.std.specs.Prelude.{ℕ, ◌/◌, ◌%◌, ◌==◌, ℤ, pos, negsuc, suc, List, [], ◌++◌, codes, decimal, if◌then◌else◌}
use Rattle.sf_geometry.specs.declared.geometry.Geometry.{Geometry}
use Rattle.sf_measure.specs.declared.measure.Measure.{Measure}
use Rattle.sf_measure.specs.declared.measure.Measure.TheVariants.{Area, Length}
use Rattle.sf_measure.specs.Areas.{doubled_area_of}
use Rattle.sf_measure.specs.Lengths.{thousandths_of}

-- so many halves: the whole number, and .5 behind it where one is left
abbrev pub halves_text : ℕ → List ℕ
halves_text n = decimal (n / 2) ++ (if n % 2 == 0 then [] else codes ".5")

-- the same with a sign
abbrev pub signed_halves_text : ℤ → List ℕ
signed_halves_text (pos n) = halves_text n
signed_halves_text (negsuc n) = codes "-" ++ halves_text (suc n)

-- so many thousandths: the whole number, a point, and three digits
abbrev pub thousandths_text : ℕ → List ℕ
thousandths_text n = decimal (n / 1000) ++ (codes "." ++ (decimal (n / 100 % 10) ++ (decimal (n / 10 % 10) ++ decimal (n % 10))))

-- a measure of a geometry: its area in squared grid steps, or its length in grid steps
abbrev pub measure_text : Measure → Geometry → List ℕ
measure_text Area geometry = signed_halves_text (doubled_area_of geometry)
measure_text Length geometry = thousandths_text (thousandths_of geometry)
