use Rattle.std.proofs.Common.{ap, sym, ◌∙◌, subst, ℕ, List, length, replicate}
use Rattle.std.proofs.lemmas.List.{with_items_is}
use Rattle.sf_strips.specs.Fronts.{pieces_of}
use Rattle.sf_cells.specs.Groups.{counts}
use Rattle.sf_cells.specs.Hands.{AtMost, minus}
use Rattle.sf_cells.proofs.TallyLaws.{all_taken, all_there, counts_none, length-counts}
use Rattle.sf_cells.proofs.tally.clear_edges.Goals as goal

pub take_edges-requires-clause-counted : goal.take_edges-requires-clause-counted
take_edges-requires-clause-counted c =
    ap length (c.deref_mut.ensures.value ∙ c.requires.counted) ∙ length-counts c.args.groups.now (pieces_of c.args.edges.now)

pub take_edges-requires-clause-there : goal.take_edges-requires-clause-there
take_edges-requires-clause-there c =
    let these = pieces_of c.args.edges.now in
    let P : List ℕ → Type 0 = AtMost (counts c.args.groups.now these) in
    subst P (sym (c.deref_mut.ensures.value ∙ c.requires.counted)) (all_there c.args.groups.now these)

pub returns-then-len-edges : goal.returns-then-len-edges
returns-then-len-edges c =
    c.fill.ensures.items (λ y h. h)
    ∙ ap (λ n. replicate n 0) (c.args.tally.now.ok.0 ∙ ap length c.requires.counted ∙ length-counts c.args.groups.now (pieces_of c.args.edges.now))
    ∙ sym (counts_none c.args.groups.now)

pub returns-else-len-edges : goal.returns-else-len-edges
returns-else-len-edges c =
    with_items_is c.args.tally.now c.take_edges.new.tally (c.take_edges.auto.tally ∙ c.deref_mut.ensures.len)
    ∙ c.take_edges.ensures
    ∙ ap (λ t. minus t (counts c.args.groups.now (pieces_of c.args.edges.now))) (c.deref_mut.ensures.value ∙ c.requires.counted)
    ∙ all_taken c.args.groups.now (pieces_of c.args.edges.now)
