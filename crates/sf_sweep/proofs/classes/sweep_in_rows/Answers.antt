use Rattle.std.proofs.Common.{arith, false, sym, subst, ap, ◌∙◌, ◌-◌, ◌≤◌, length, rules, replicate}
use Rattle.std.proofs.lemmas.List.{length-replicate}
use Rattle.sf_cells.proofs.CallerLemmas.{counts_none}
use Rattle.sf_classes.proofs.ClassLaws.{handed-walk}
use Rattle.sf_strips.specs.declared.contact.Contact.TheVariants.{Never}
use Rattle.sf_slabs.proofs.SweepLaws.{few-number, vertices-few}
use Rattle.sf_sweep.proofs.MarksLaws.{groups-few, handed-row}
use Rattle.sf_sweep.proofs.classes.sweep_in_rows.Goals as goal

pub is_walk_quicker-requires : goal.is_walk_quicker-requires
is_walk_quicker-requires g c =
    record {
      few = subst (λ vs. length vs ≤ 33554430) (sym c.as_slice.ensures.value) (vertices-few c.args.pieces.now c.in_ok-vertices.vertices.items c.requires.few c.in_ok-vertices.ensures.all);
    }

pub walk_sorted-requires-clause-few_vertices : goal.walk_sorted-requires-clause-few_vertices
walk_sorted-requires-clause-few_vertices g c =
    subst (λ vs. length vs ≤ 33554430) (sym c.as_slice-then-is_walk_quicker.ensures.value)
    (vertices-few c.args.pieces.now c.in_ok-vertices.vertices.items c.requires.few c.in_ok-vertices.ensures.all)

pub new-requires-clause-few_vertices : goal.new-requires-clause-few_vertices
new-requires-clause-few_vertices g c =
    few-number _ _ (length c.in_ok-vertices.vertices.items) c.len.ensures (search rules)
    (vertices-few c.args.pieces.now c.in_ok-vertices.vertices.items c.requires.few c.in_ok-vertices.ensures.all)

pub run-requires-clause-few_vertices : goal.run-requires-clause-few_vertices
run-requires-clause-few_vertices g c =
    subst (λ vs. length vs ≤ 33554430) (sym c.as_slice-3.ensures.value)
    (vertices-few c.args.pieces.now c.in_ok-vertices.vertices.items c.requires.few c.in_ok-vertices.ensures.all)

pub run-requires-clause-ready : goal.run-requires-clause-ready
run-requires-clause-ready g c =
    record {
      wide = search rules;
      few_groups = groups-few g.R.Row.width c.args.groups.now (omega (arith, c.requires.fewer_groups));
      few_counts = omega (arith, c.requires.fewer_groups);
      odd = search rules;
      none_on = c.in_ok-sweep.ensures.none_on ∙ ap (λ n. replicate n 0) c.group_count.ensures ∙ sym (counts_none c.args.groups.now);
      counted = ap length c.in_ok-sweep.ensures.none_above ∙ length-replicate c.group_count.result 0 ∙ c.group_count.ensures;
    }

pub run-requires-clause-places : goal.run-requires-clause-places
run-requires-clause-places g c =
    record {
      meetings = ap length c.in_ok-sweep.ensures.no_meeting ∙ length-replicate (length c.args.pieces.now) Never ∙ sym c.requires.one_group_each;
      order = search rules;
      below = search rules;
      bench = search rules;
    }

pub run-requires-clause-none_above : goal.run-requires-clause-none_above
run-requires-clause-none_above g c = c.in_ok-sweep.ensures.none_above ∙ ap (λ n. replicate n 0) c.group_count.ensures ∙ sym (counts_none c.args.groups.now)

pub returns-then-is_walk_quicker-clause-ok : goal.returns-then-is_walk_quicker-clause-ok
returns-then-is_walk_quicker-clause-ok g c = handed-walk c.walk_sorted.result c.args.pieces.now c.args.groups.now c.args.areal.now _ _ _ c.walk_sorted.ensures.ok

pub returns-clause-ok : goal.returns-clause-ok
returns-clause-ok g c =
    handed-row g.R.Row.width c.args.pieces.now c.args.groups.now c.args.areal.now (replicate (g.R.Row.width - length c.args.areal.now) false) c.as_slice-2.result.now
    g.S.CellSink.after (g.S.CellSink.content c.args.sink.now) (g.S.CellSink.content c.run.new.sink) c.requires.fewer_groups (c.as_slice-2.ensures.bits ∙ c.of-marks.ensures) c.run.ensures
