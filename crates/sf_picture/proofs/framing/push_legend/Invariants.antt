use Rattle.std.proofs.Common.{◌≡◌, ◌≤◌, ◌+◌, ◌*◌, ◌++◌, drop, string_bytes}
use Rattle.sf_picture.specs.Pictures.{legend_rows, legend_top}
use Rattle.sf_picture.proofs.framing.push_legend.Given as goal

-- the rows of the layers from the place on are left; those before it moved the next row down
abbrev pub invariant-loop-place : goal.invariant-loop-place
invariant-loop-place l =
    (l.top ≤ legend_top l.view + l.place * 20)
    × (string_bytes l.text ++ legend_rows l.choice l.top l.place (drop l.place l.store) ≡ string_bytes l.fn.text ++ legend_rows l.choice (legend_top l.view) 0 l.store)
