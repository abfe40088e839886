use Rattle.std.proofs.Common.{◌∙◌, List, ℕ, Option, None, Some, ap, codes, map, subst, sym}
use Rattle.clap.specs.Words.{all_of, found_of, rows_of}
use Rattle.clap.proofs.WalkLemmas.{first_value-rows, raw_values-rows}
use Rattle.sf_picture.specs.Options.{IsEmptyWindow, IsWidth, IsWindowIfGiven}
use Rattle.sf_picture.proofs.options.asked_by.Goals as goal
use Rattle.sf_picture.proofs.options.asked_by.Goals.{in-None, in-Some+in-Some-window_of}

pub returns-in-None-window_of-clause-answers : goal.returns-in-None-window_of-clause-answers
returns-in-None-window_of-clause-answers c =
    subst IsEmptyWindow (c.in-Some.ensures ∙ raw_values-rows (found_of c.args.matches.now) (codes "window")) c.in-None-window_of.ensures.none

pub returns-clause-answers : goal.returns-clause-answers
returns-clause-answers c =
    let found = found_of c.args.matches.now in
    let windows : Option (List (List ℕ)) = all_of (codes "window") (rows_of found) in
    let given = raw_values-rows found (codes "window") in
    let window : IsWindowIfGiven windows c.match-get_strs.window =
    elim c.match-get_strs.branch [
      | in-None w ↦ subst (λ values. IsWindowIfGiven values c.match-get_strs.window) (w.in-None.ensures ∙ given)
          (subst (IsWindowIfGiven None) (sym w.window-is) tt)
      | in-Some+in-Some-window_of w ↦ subst (λ values. IsWindowIfGiven values c.match-get_strs.window) (w.in-Some.ensures ∙ given)
          (subst (IsWindowIfGiven (Some (map (λ text. text.now) w.in-Some.values.now))) (sym w.window-is) w.in-Some-window_of.ensures.some)
    ] in
    record {
      layers = ap (λ choice. choice.layers) c.new.ensures ∙ c.in_ok-layers.ensures;
      window = subst (IsWindowIfGiven windows) (sym (ap (λ choice. choice.window) c.new.ensures)) window;
      width = subst (λ text. IsWidth text c.width_of.result) (c.get_str.ensures ∙ first_value-rows found (codes "width")) c.width_of.ensures;
    }
