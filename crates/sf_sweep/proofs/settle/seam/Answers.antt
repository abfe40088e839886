use Rattle.std.proofs.Common.{◌≡◌, sym, subst, rules, ◌≤◌, ◌<◌, ◌-◌, [], ◌∷◌, length}
use Rattle.std.specs.Prelude.{slice_index_or}
use Rattle.sf_strips.specs.Fronts.{IsContact, line_of}
use Rattle.sf_sweep.specs.Settled.{IsSeam}
use Rattle.sf_sweep.proofs.SettleLaws.{seam-first, seam-none, seamed-last}
use Rattle.sf_sweep.proofs.settle.seam.Goals as goal
use Rattle.sf_sweep.proofs.settle.seam.Goals.{in-Some-first, in-None}

pub returns-after-first-clause-seamed : goal.returns-after-first-clause-seamed
returns-after-first-clause-seamed c =
    let x = c.args.x.now in
    let below = c.args.below.now in
    let a = c.in-Some.last.now in
    let some : 0 < length c.args.edges.now = search rules in
    let last : a ≡ slice_index_or c.args.edges.now (length c.args.edges.now - 1) a = search rules in
    let meets : IsSeam x (a ∷ []) below c.match-first.contact =
    elim c.match-first.branch [
      | in-Some-first w ↦
          let there : 0 < length below = search rules in
          let next : w.in-Some-first.next.now ≡ slice_index_or below 0 w.in-Some-first.next.now = search rules in
          seam-first x below a w.in-Some-first.next.now c.match-first.contact there next
          (subst (IsContact (line_of a) (line_of w.in-Some-first.next.now) x) (sym w.contact-is) w.between-contact.ensures)
      | in-None w ↦
          let none : length below ≤ 0 = search rules in
          seam-none x below a c.match-first.contact none w.contact-is
    ] in
    seamed-last x c.args.edges.now below a c.match-first.contact c.args.meetings.now c.put.new.self some last c.put.ensures meets
