use Rattle.std.proofs.Common.{◌≡◌, ◌∙◌, ℕ, ap, ◌+◌, ◌*◌, ◌-◌, ◌^◌, min, pos, unsigned_abs, rules, SFits, w32}
use Rattle.std.proofs.lemmas.Int.{to_z-of_z}
use Rattle.sf_distance.specs.Mixed.{Mixed}
use Rattle.sf_edge_distance.specs.Boxes.{axis_gap, gap_square}
use Rattle.sf_edge_distance.proofs.BoxLaws.{apart_by}
use Rattle.sf_edge_distance.proofs.boxes.square_of_gap.Goals as goal
use Rattle.sf_edge_distance.proofs.boxes.square_of_gap.Goals.{After-whole}

-- the two gaps, and what is made of them
kept : (c : After-whole) → c.whole.result ≡ record { whole = min (gap_square c.args.a c.args.b) (2 ^ 64 - 1); rest = 0; den = 1 }
kept c =
    let a_min_x : SFits w32 c.args.a.min_x = search rules in
    let a_min_y : SFits w32 c.args.a.min_y = search rules in
    let a_max_x : SFits w32 c.args.a.max_x = search rules in
    let a_max_y : SFits w32 c.args.a.max_y = search rules in
    let b_min_x : SFits w32 c.args.b.min_x = search rules in
    let b_min_y : SFits w32 c.args.b.min_y = search rules in
    let b_max_x : SFits w32 c.args.b.max_x = search rules in
    let b_max_y : SFits w32 c.args.b.max_y = search rules in
    let across : pos c.gap_of-across.result ≡ axis_gap c.args.a.min_x c.args.a.max_x c.args.b.min_x c.args.b.max_x = simp to_z-of_z at c.gap_of-across.ensures.value in
    let up : pos c.gap_of-up.result ≡ axis_gap c.args.a.min_y c.args.a.max_y c.args.b.min_y c.args.b.max_y = simp to_z-of_z at c.gap_of-up.ensures.value in
    let x : c.gap_of-across.result ≡ unsigned_abs (axis_gap c.args.a.min_x c.args.a.max_x c.args.b.min_x c.args.b.max_x) = ap unsigned_abs across in
    let y : c.gap_of-up.result ≡ unsigned_abs (axis_gap c.args.a.min_y c.args.a.max_y c.args.b.min_y c.args.b.max_y) = ap unsigned_abs up in
    let number : ℕ → Mixed = λ n. record { whole = n; rest = 0; den = 1 } in
    c.whole.ensures ∙ ap number c.saturating_add.ensures
    ∙ ap (λ n. number (min (n * n + c.gap_of-up.result * c.gap_of-up.result) (2 ^ 64 - 1))) x
    ∙ ap (λ n. number (min (unsigned_abs (axis_gap c.args.a.min_x c.args.a.max_x c.args.b.min_x c.args.b.max_x) * unsigned_abs (axis_gap c.args.a.min_x c.args.a.max_x c.args.b.min_x c.args.b.max_x) + n * n) (2 ^ 64 - 1))) y

pub returns-clause-value : goal.returns-clause-value
returns-clause-value c = kept (goal.at.returns-clause-value c).After-whole

pub returns-clause-apart : goal.returns-clause-apart
returns-clause-apart c = apart_by c.args.a c.args.b c.whole.result (kept (goal.at.returns-clause-apart c).After-whole)
