-- A sweep keeps its places: while nothing happens, over a pass, and over two steps.
use Rattle.std.proofs.Common.{◌≡◌, refl, ap, sym, ◌∙◌, subst, ◌≤◌, arith, length, vec_capacity}
use Rattle.sf_sweep.specs.declared.class_sweep.ClassSweep.{ClassSweep}
use Rattle.sf_sweep.specs.declared.cutting.Bench.{Bench}
use Rattle.sf_sweep.specs.declared.front.Front.{Front}
use Rattle.sf_sweep.specs.Cuts.{KeepsBenchRoom}
use Rattle.sf_sweep.specs.Ready.{KeepsPlaces}

pub places-same : {Row : Type 0} (q : ClassSweep Row) → KeepsPlaces q q
places-same q = record { meetings = refl; order = omega arith; below = omega arith; bench = λ levels edges r. r }

pub places-passed : {Row : Type 0} (q q' : ClassSweep Row) → q'.front ≡ q.front → q'.bench ≡ q.bench → KeepsPlaces q q'
places-passed q q' e b =
    record {
      meetings = ap (λ (f : Front). length f.meetings) e;
      order = subst (λ (f : Front). vec_capacity q.front.order ≤ vec_capacity f.order) (sym e) (omega arith);
      below = subst (λ (f : Front). vec_capacity q.front.tail ≤ vec_capacity f.tail) (sym e) (omega arith);
      bench = subst (λ (d : Bench). KeepsBenchRoom q.bench d) (sym b) (λ levels edges r. r);
    }

pub places-both : {Row : Type 0} (q q' q'' : ClassSweep Row) → KeepsPlaces q q' → KeepsPlaces q' q'' → KeepsPlaces q q''
places-both q q' q'' h i =
    record {
      meetings = i.meetings ∙ h.meetings;
      order = omega (arith, h.order, i.order);
      below = omega (arith, h.below, i.below);
      bench = λ levels edges r. i.bench levels edges (h.bench levels edges r);
    }
